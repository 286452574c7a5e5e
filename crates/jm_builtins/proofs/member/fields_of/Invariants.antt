use Rattle.std.proofs.Common.{◌≡◌, take}
use Rattle.std.specs.Prelude.{map}
use Rattle.jm_builtins.specs.Members.{the_field}
use Rattle.jm_builtins.proofs.member.fields_of.Given as goal

-- the fields of the rows so far
abbrev pub invariant-loop-row : goal.invariant-loop-row
invariant-loop-row l = l.fields.items ≡ map the_field (take l.row-index l.rows)
