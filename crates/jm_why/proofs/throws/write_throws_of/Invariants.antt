-- What was written, and what the throws that are left make of it.
use Rattle.std.proofs.Common.{◌≡◌, ◌++◌, drop}
use Rattle.std.specs.List.{flat_map}
use Rattle.jm_why.specs.Answers.{throw_by}
use Rattle.jm_why.proofs.throws.write_throws_of.Given as goal

abbrev pub invariant-loop-throw : goal.invariant-loop-throw
invariant-loop-throw l =
    l.out.bytes.items ++ flat_map (throw_by l.thread) (drop l.throw-index l.throws) ≡ l.initial.out.bytes.items ++ flat_map (throw_by l.thread) l.throws
