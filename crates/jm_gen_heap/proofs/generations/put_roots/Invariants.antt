use Rattle.std.proofs.Common.{◌≡◌, ◌++◌, take, drop, length}
use Rattle.jm_gen_heap.proofs.generations.put_roots.Given as goal

abbrev pub invariant-loop-number : goal.invariant-loop-number
invariant-loop-number l = record {
  many : length l.roots ≡ length l.initial.roots;
  roots : l.roots ≡ take l.number l.places.items ++ drop l.number l.initial.roots;
}
