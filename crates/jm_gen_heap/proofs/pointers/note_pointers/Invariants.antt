use Rattle.std.proofs.Common.{take}
use Rattle.jm_gen_heap.specs.Pointers.{Covers, Grows}
use Rattle.jm_gen_heap.proofs.pointers.note_pointers.Given as goal

abbrev pub invariant-loop-place : goal.invariant-loop-place
invariant-loop-place l = record {
  grows : Grows (take l.place-index l.places) l.initial.noted l.noted;
  covers : Covers l.store (take l.place-index l.places) l.noted;
}
