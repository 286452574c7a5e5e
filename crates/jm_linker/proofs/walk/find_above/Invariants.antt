-- What is pending decides, and walks that were in vain are kept.
use Rattle.std.proofs.Common.{◌≡◌}
use Rattle.jm_world.specs.Classes.{height}
use Rattle.jm_linker.specs.Walks.{AllSay, AllVain, sought_in, above_any, found_pending}
use Rattle.jm_linker.proofs.walk.find_above.Given as goal

abbrev pub invariant-loop : goal.invariant-loop
invariant-loop l =
    (found_pending (sought_in l.sought) l.classes.program.now l.pending.items ≡ above_any (sought_in l.sought) (height l.classes.program.now) l.classes.program.now l.names)
    × AllSay (sought_in l.sought) l.classes.program.now l.pending.items
    × AllVain (sought_in l.sought) l.classes.program.now l.tried
