-- The classes from the number on are in the map.
use Rattle.std.proofs.Common.{◌≡◌, ◌≤◌, ℕ, List, Bor, length, drop}
use Rattle.std.specs.BTreeMap.{get}
use Rattle.jm_linker.specs.BuiltInClasses.{number_from}
use Rattle.jm_linker.specs.Tables.{by_units}
use Rattle.jm_linker.proofs.classes.numbers_of.Given as goal

abbrev pub invariant-loop-number : goal.invariant-loop-number
invariant-loop-number l = (l.number ≤ length l.program) × ((name : Bor (List ℕ)) → get by_units l.numbers name ≡ number_from l.number (drop l.number l.program) name.now)

abbrev pub decreases-loop-number : goal.decreases-loop-number
decreases-loop-number l = l.number
