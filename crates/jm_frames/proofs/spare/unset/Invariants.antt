use Rattle.std.proofs.Common.{◌≡◌, ◌≤◌, None, replicate, vec_len, vec_capacity}
use Rattle.jm_frames.proofs.spare.unset.Given as goal

abbrev pub invariant-loop-unset : goal.invariant-loop-unset
invariant-loop-unset l = record {
  items : l.locals.items ≡ replicate l._unset None;
  len : vec_len l.locals ≡ l._unset;
  room : l.count ≤ vec_capacity l.locals;
}
