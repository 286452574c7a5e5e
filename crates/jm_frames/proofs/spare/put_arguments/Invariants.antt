-- The arguments so far have their local variables.
use Rattle.std.proofs.Common.{◌≡◌, ◌++◌, take, vec_capacity}
use Rattle.jm_frames.specs.Called.{locals_of}
use Rattle.jm_frames.proofs.spare.put_arguments.Given as goal

abbrev pub invariant-loop-argument : goal.invariant-loop-argument
invariant-loop-argument l = record {
  items : l.locals.items ≡ l.initial.locals.items ++ locals_of (take l.argument-index l.arguments);
  room : vec_capacity l.locals ≡ vec_capacity l.initial.locals;
}
