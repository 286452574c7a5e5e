use Rattle.std.proofs.Common.{◌≡◌, ◌∷◌, [], sym, ◌∙◌}
use Rattle.std.proofs.lemmas.Result.{err_from_is_err_and}
use Rattle.std.proofs.lemmas.List.{nil_from_length}
use Rattle.std.specs.Vec.Iter.{into_iter_items}
use Rattle.jm_class_format.specs.NamedCode.{placed_named}
use Rattle.jm_bytes.proofs.Taken.{taken_fault, taken_done}
use Rattle.jm_class_reader.proofs.named_code.instructions_of.Goals as goal

pub returns-in_err-instr-clause-given : goal.returns-in_err-instr-clause-given
returns-in_err-instr-clause-given c =
    let p = err_from_is_err_and c.from_residual-in_err-instr.result c.from_residual-in_err-instr.ensures.1 in
    let steps : into_iter_items c.loop-one.one-iterator ≡ c.in-Some.one ∷ into_iter_items c.next.new.self = c.in-Some.ensures.steps.0 in
    rw (p.1, p.2) (λ other. sym c.loop-one.invariant.so_far ∙ taken_fault (placed_named c.args.symbols.now) c.loop-one.all.items _ _ c.in-Some.one _ steps (rw c.loop-one.invariant.same at (c.in_err-instr.ensures.given other)))

pub returns-clause-given : goal.returns-clause-given
returns-clause-given c =
    let none = c.in-None.ensures.steps in
    let empty : into_iter_items c.loop-one.one-iterator ≡ [] = nil_from_length (into_iter_items c.loop-one.one-iterator) (sym c.loop-one.invariant.len ∙ none.0) in
    sym c.loop-one.invariant.so_far ∙ taken_done (placed_named c.args.symbols.now) c.loop-one.all.items _ empty
