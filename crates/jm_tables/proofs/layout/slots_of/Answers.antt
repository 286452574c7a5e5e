-- One more field.
use Rattle.std.proofs.Common.{◌∙◌, Vec, Global, refl, sym, ap}
use Rattle.jm_tables.specs.declared.layout.FieldNumber.{FieldNumber}
use Rattle.jm_tables.specs.declared.layout.FieldSlot.{FieldSlot}
use Rattle.jm_tables.proofs.SlotLaws.{static_more, instance_more, are_slots}
use Rattle.jm_tables.proofs.layout.slots_of.Goals as goal
use Rattle.jm_tables.proofs.layout.slots_of.Goals.{then-has+in-Ok-Ok+in_ok-push+in_ok-push-2, else-has+in_ok-push-3+in_ok-place}

pub loop-index-preserved : goal.loop-index-preserved
loop-index-preserved c =
    elim c.if-has.branch [
      | then-has+in-Ok-Ok+in_ok-push+in_ok-push-2 w ↦
          are_slots _ _ _ _ _ _ _ _ _ _ _
          (ap (λ (v : Vec FieldSlot Global). v.items) w.slots-is ∙ w.in_ok-push.ensures.items)
          (ap (λ (v : Vec FieldNumber Global). v.items) w.statics-is ∙ w.in_ok-push-2.ensures.items)
          w.place-is
          (static_more _ _ _ _ _ _ _ _ c.index-fields-index.result _ _ c.loop-index-test.true c.index-fields-index.is
          (sym w.if-has.ensures) c.loop-index.invariant
          (w.in-Ok-Ok.ensures.1 ∙ w.len.ensures ∙ c.loop-index.statics.ok.0) w.in-Ok-Ok.ensures'.1)
      | else-has+in_ok-push-3+in_ok-place w ↦
          are_slots _ _ _ _ _ _ _ _ _ _ _
          (ap (λ (v : Vec FieldSlot Global). v.items) w.slots-is ∙ w.in_ok-push-3.ensures.items)
          (ap (λ (v : Vec FieldNumber Global). v.items) w.statics-is)
          w.place-is
          (instance_more _ _ _ _ _ _ _ _ c.index-fields-index.result _ c.loop-index-test.true c.index-fields-index.is
          (sym w.if-has.ensures) c.loop-index.invariant
          w.in_ok-place.ensures)
    ]
