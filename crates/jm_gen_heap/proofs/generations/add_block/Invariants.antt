use Rattle.std.proofs.Common.{◌≡◌, ◌++◌, take}
use Rattle.jm_gen_heap.specs.Serials.{block_serials}
use Rattle.jm_gen_heap.proofs.generations.add_block.Given as goal

abbrev pub invariant-loop-index : goal.invariant-loop-index
invariant-loop-index l = l.serials.items ≡ l.initial.serials.items ++ block_serials (take l.index l.block)
