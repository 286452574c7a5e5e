use Rattle.std.proofs.Common.{◌≡◌, ◌∷◌, [], sym, ◌∙◌}
use Rattle.std.proofs.lemmas.Result.{err_from_is_err_and}
use Rattle.std.proofs.lemmas.List.{nil_from_length}
use Rattle.std.specs.HashMap.{get}
use Rattle.std.specs.Vec.Iter.{into_iter_items}
use Rattle.jm_program.specs.Names.{same_text}
use Rattle.jm_jasmin.specs.Labels.{part_of}
use Rattle.jm_bytes.proofs.Taken.{taken_fault, taken_done}
use Rattle.jm_jasmin.proofs.part.parts_of.Goals as goal

pub returns-in_err-part : goal.returns-in_err-part
returns-in_err-part c =
    let p = err_from_is_err_and c.from_residual-in_err-part.result c.from_residual-in_err-part.ensures.1 in
    let steps : into_iter_items c.loop-item.item-iterator ≡ c.in-Some.item ∷ into_iter_items c.next.new.self = c.in-Some.ensures.steps.0 in
    rw (p.1, p.2) (λ other. sym c.loop-item.invariant.so_far ∙ taken_fault (part_of (get same_text c.args.values.now) c.args.count) c.loop-item.parts.items _ _ c.in-Some.item _ steps (c.in_err-part.ensures other))

pub returns : goal.returns
returns c =
    let none = c.in-None.ensures.steps in
    let empty : into_iter_items c.loop-item.item-iterator ≡ [] = nil_from_length (into_iter_items c.loop-item.item-iterator) (sym c.loop-item.invariant.len ∙ none.0) in
    sym c.loop-item.invariant.so_far ∙ taken_done (part_of (get same_text c.args.values.now) c.args.count) c.loop-item.parts.items _ empty
