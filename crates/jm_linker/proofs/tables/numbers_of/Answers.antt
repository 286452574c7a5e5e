-- One more number, of a class that is there.
use Rattle.std.proofs.Common.{◌≡◌, ◌+◌, ◌++◌, ◌∷◌, [], take, refl, sym, subst, arith}
use Rattle.std.proofs.lemmas.List.{take_more}
use Rattle.jm_linker.specs.NumberedClasses.{AreNumbers, IsNumberOf}
use Rattle.jm_world.specs.Classes.{class_named}
use Rattle.jm_linker.proofs.AboveLaws.{not_none, there_at}
use Rattle.jm_linker.proofs.InheritedLaws.{more_numbers}
use Rattle.jm_linker.proofs.tables.numbers_of.Goals as goal

pub unreachable-requires : goal.unreachable-requires
unreachable-requires c =
    let program = c.args.classes.now.program.now in
    let name = c.name-item.result in
    not_none (class_named program name) (there_at program c.args.names.now c.loop-name.name-index name c.requires (omega arith) c.name-item.is) c.in_default.ensures

pub loop-name-preserved : goal.loop-name-preserved
loop-name-preserved c =
    let program = c.args.classes.now.program.now in
    let names = c.args.names.now in
    let i = c.loop-name.name-index in
    let name = c.name-item.result in
    let more : take (i + 1) names ≡ take i names ++ name ∷ [] = rw (take_more names i name (omega arith), ← c.name-item.is) refl in
    subst (λ xs. AreNumbers program c.push.new.self.items xs) (sym more)
    (subst (λ ns. AreNumbers program ns (take i names ++ name ∷ [])) (sym c.in_ok-push.ensures.items)
    (more_numbers program c.loop-name.numbers.items (take i names) c.in-Ok.number name c.loop-name.invariant
    (subst (IsNumberOf program name) (sym c.in-Ok.ensures.1) c.in-Some.ensures)))
