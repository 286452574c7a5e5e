use Rattle.std.proofs.Common.{◌≡◌, take}
use Rattle.std.specs.Prelude.{map}
use Rattle.jm_builtins.specs.Members.{the_class}
use Rattle.jm_builtins.proofs.class.classes_of.Given as goal

-- the classes of the rows so far
abbrev pub invariant-loop-row : goal.invariant-loop-row
invariant-loop-row l = l.classes.items ≡ map the_class (take l.row-index l.rows)
