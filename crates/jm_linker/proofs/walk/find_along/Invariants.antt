-- The classes from the name up decide.
use Rattle.std.proofs.Common.{◌≡◌, ◌-◌}
use Rattle.jm_world.specs.Classes.{height}
use Rattle.jm_world.specs.Hierarchy.{up_from, chain}
use Rattle.jm_linker.specs.Walks.{sought_in, first_along}
use Rattle.jm_linker.proofs.walk.find_along.Given as goal

abbrev pub invariant-loop-depth : goal.invariant-loop-depth
invariant-loop-depth l =
    first_along (sought_in l.sought) (up_from (height l.classes.program.now - l._depth) l.classes.program.now l.name)
    ≡ first_along (sought_in l.sought) (chain l.classes.program.now l.fn.name)
