use Rattle.std.proofs.Common.{ap, ◌∙◌, sym, subst}
use Rattle.jm_values.specs.Rename.{stack_shape}
use Rattle.jm_values.specs.Shape.{Among}
use Rattle.jm_heap.specs.Slots.{object_in}
use Rattle.jm_heap.proofs.MarkLemmas.{values_named}
use Rattle.jm_heap.proofs.mark.mark_object.Goals as goal

pub mark_values-requires : goal.mark_values-requires
mark_values-requires c p a =
    c.requires p (subst (λ refs. Among p refs) (ap stack_shape.refs c.values_at.ensures ∙ sym (values_named (object_in c.args.slots.now.items c.args.place))) a)

pub returns : goal.returns
returns c = rw (values_named (object_in c.args.slots.now.items c.args.place), ← c.values_at.ensures) c.mark_values.ensures
