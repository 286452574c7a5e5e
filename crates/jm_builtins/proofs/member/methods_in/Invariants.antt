use Rattle.std.proofs.Common.{◌≡◌, take}
use Rattle.std.specs.Prelude.{map}
use Rattle.jm_builtins.specs.Members.{the_method}
use Rattle.jm_builtins.proofs.member.methods_in.Given as goal

-- the methods of the rows so far
abbrev pub invariant-loop-row : goal.invariant-loop-row
invariant-loop-row l = l.methods.items ≡ map the_method (take l.row-index l.rows)
