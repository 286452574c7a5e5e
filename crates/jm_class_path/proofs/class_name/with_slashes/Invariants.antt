-- The units so far.
use Rattle.std.proofs.Common.{◌≡◌, map, take}
use Rattle.jm_class_path.specs.Places.{slash_for_dot}
use Rattle.jm_class_path.proofs.class_name.with_slashes.Given as goal

abbrev pub invariant-loop-unit : goal.invariant-loop-unit
invariant-loop-unit l = l.slashed.items ≡ map slash_for_dot (take l.unit-index l.units)
