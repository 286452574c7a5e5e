-- What is left decides, after those that were seen.
use Rattle.std.proofs.Common.{◌≡◌, [], take, drop}
use Rattle.jm_world.specs.Loads.{duplicates}
use Rattle.jm_linker.proofs.duplicates.no_duplicate_classes.Given as goal

abbrev pub invariant-loop-index : goal.invariant-loop-index
invariant-loop-index l = duplicates [] l.program ≡ duplicates (take l.index l.program) (drop l.index l.program)
