use Rattle.std.proofs.Common.{◌≡◌, ◌∙◌, ap}
use Rattle.std.specs.Prelude.{replicate}
use Rattle.jm_values.specs.Objects.{default_of, copies}
use Rattle.jm_heap.specs.NewObject.{new_object, operand_of_component}
use Rattle.jm_heap.proofs.NewLemmas.{copies_are}
use Rattle.jm_heap.proofs.new_object.values_of.Goals as goal

pub returns-in-Array : goal.returns-in-Array
unfolding new_object
returns-in-Array c =
    let value = c.default_value.ensures ∙ ap default_of c.operand_of.ensures in
    let filled : replicate c.in-Array.length c.default_value.result ≡ copies c.in-Array.length (default_of (operand_of_component c.in-Array.component)) = ap (replicate c.in-Array.length) value ∙ copies_are c.in-Array.length (default_of (operand_of_component c.in-Array.component)) in
    rw (c.in-Array.is, ← filled) c.elements.ensures
