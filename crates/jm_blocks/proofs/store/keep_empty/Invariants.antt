use Rattle.std.proofs.Common.{◌≡◌, ◌+◌, ◌≤◌, ◌++◌, [], replicate, vec_len, vec_capacity}
use Rattle.jm_blocks.proofs.store.keep_empty.Given as goal

abbrev pub invariant-loop-number : goal.invariant-loop-number
invariant-loop-number l = record {
  items : l.blocks.items ≡ replicate l.number [] ++ l.fn.blocks.items;
  room : vec_len l.blocks + l.count ≤ vec_capacity l.blocks + l.number;
  counted : l.number ≤ l.count;
}
