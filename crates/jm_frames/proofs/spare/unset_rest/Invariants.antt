-- Behind those that there were as many are not set as the loop has counted past them.
use Rattle.std.proofs.Common.{◌≡◌, ◌++◌, ◌-◌, ◌≤◌, None, length, replicate, vec_len, vec_capacity}
use Rattle.jm_frames.proofs.spare.unset_rest.Given as goal

abbrev pub invariant-loop-unset : goal.invariant-loop-unset
invariant-loop-unset l = record {
  items : l.locals.items ≡ l.initial.locals.items ++ replicate (l._unset - length l.initial.locals.items) None;
  len : vec_len l.locals ≡ l._unset;
  room : l.count ≤ vec_capacity l.locals;
}
