-- A class before, a built-in one, or none.
use Rattle.std.proofs.Common.{ap, sym, subst, take, ◌∙◌}
use Rattle.std.proofs.lemmas.Bool.{or_left, or_right}
use Rattle.jm_world.specs.Loads.{duplicate_class, when}
use Rattle.jm_linker.specs.Answers.{SaysWhy}
use Rattle.jm_linker.proofs.Seen.{named_among, or_false}
use Rattle.jm_linker.proofs.checking.check_name.Goals as goal
use Rattle.jm_linker.proofs.checking.check_name.Goals.{then-stands_before-via-then-stands_before, then-stands_before-via-else-stands_before+then-is_built_in}

pub returns-then-stands_before : goal.returns-then-stands_before
returns-then-stands_before c =
    let seen = take c.args.number c.args.names.now.program.now in
    let name = c.args.name.now in
    subst (SaysWhy c.duplicate_class.result) (sym (ap (λ b. when b (duplicate_class name)) (named_among seen name ∙ (elim c.then-stands_before.branch [
      | then-stands_before-via-then-stands_before w ↦ or_left _ _ (sym c.stands_before.ensures ∙ w.if-stands_before.true)
      | then-stands_before-via-else-stands_before+then-is_built_in w ↦ or_right _ _ (sym w.is_built_in.ensures ∙ w.if-is_built_in.true)
    ])))) c.duplicate_class.ensures

pub returns : goal.returns
returns c =
    let seen = take c.args.number c.args.names.now.program.now in
    let name = c.args.name.now in
    ap (λ b. when b (duplicate_class name)) (named_among seen name ∙ or_false _ _ (sym c.stands_before.ensures ∙ c.if-stands_before.false) (sym c.is_built_in.ensures ∙ c.if-is_built_in.false))
