-- The fields so far have slots.
use Rattle.jm_tables.proofs.SlotLaws.{AreSlots}
use Rattle.jm_tables.proofs.layout.slots_of.Given as goal

abbrev pub invariant-loop-index : goal.invariant-loop-index
invariant-loop-index l = AreSlots l.inherited l.class l.index l.fields l.initial.statics.items l.slots.items l.statics.items l.place
