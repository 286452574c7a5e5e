use Rattle.std.proofs.Common.{◌≡◌, ◌+◌, ◌-◌, ◌≤◌, ◌++◌, take, length}
use Rattle.std.specs.Prelude.{vec_len}
use Rattle.std.specs.Vec.{vec_capacity}
use Rattle.jm_blocks.proofs.packed.append.Given as goal

-- as many items as turns, and room for the rest
abbrev pub invariant-loop-item : goal.invariant-loop-item
invariant-loop-item g l = record {
  items : l.items.items ≡ l.initial.items.items ++ take l.item-index l.more;
  room : vec_len l.items + (length l.more - l.item-index) ≤ vec_capacity l.items;
}
