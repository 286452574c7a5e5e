use Rattle.std.proofs.Common.{◌≡◌, ◌≤◌, ◌%◌, map, length, vec_len, vec_capacity}
use Rattle.jm_heap.specs.NewObject.{new_object}
use Rattle.jm_gen_heap.specs.Several.{AreFirstPut}
use Rattle.jm_gen_heap.proofs.generations.Generations.make_each.Given as goal

abbrev pub invariant-loop-number : goal.invariant-loop-number
invariant-loop-number l = record {
  put : AreFirstPut l.fn.self l.places.items (l.nursery % 16) (map new_object l.shapes) l.number l.self;
  many : length l.places.items ≡ l.number;
  len : vec_len l.places ≡ l.number;
  room : length l.shapes ≤ vec_capacity l.places;
}
