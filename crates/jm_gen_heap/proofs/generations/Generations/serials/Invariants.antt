use Rattle.std.proofs.Common.{◌≡◌, take}
use Rattle.jm_gen_heap.specs.Serials.{all_serials}
use Rattle.jm_gen_heap.proofs.generations.Generations.serials.Given as goal

abbrev pub invariant-loop-store : goal.invariant-loop-store
invariant-loop-store l = l.serials.items ≡ all_serials (take l.store-index l.store-items)
