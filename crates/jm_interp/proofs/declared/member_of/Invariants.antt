-- The classes so far are passed.
use Rattle.std.proofs.Common.{◌≡◌, ◌+◌, length}
use Rattle.jm_builtins.specs.List.{the_builtins}
use Rattle.jm_interp.proofs.DeclaredMethods.{Passed}
use Rattle.jm_interp.proofs.declared.member_of.Given as goal

abbrev pub invariant-loop-built_in : goal.invariant-loop-built_in
invariant-loop-built_in l = (l.class ≡ l.built_in-index) × Passed l.linked.program l.number l.class l.left

abbrev pub invariant-loop-own : goal.invariant-loop-own
invariant-loop-own l = (l.class ≡ length the_builtins + l.own-index) × Passed l.linked.program l.number l.class l.left
