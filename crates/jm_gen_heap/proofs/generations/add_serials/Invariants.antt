use Rattle.std.proofs.Common.{◌≡◌, ◌++◌}
use Rattle.jm_gen_heap.proofs.Serials.{blocks_to}
use Rattle.jm_gen_heap.proofs.generations.add_serials.Given as goal

abbrev pub invariant-loop-number : goal.invariant-loop-number
invariant-loop-number l = l.serials.items ≡ l.initial.serials.items ++ blocks_to l.number l.store.lists
