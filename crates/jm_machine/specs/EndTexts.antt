-- How a run ended, as lines say it (docs/LIMITS.md has the numbers).
use Rattle.std.specs.Prelude.{ℕ, List, ◌++◌, codes}
use Rattle.std.specs.Fmt.{decimal}
use Rattle.jm_program.specs.JasminUnits.{name_text}
use Rattle.jm_values.specs.FaultNames.{fault_name}
use Rattle.jm_world.specs.declared.stop.Stop.{Stop}
use Rattle.jm_world.specs.declared.stop.Stop.TheVariants.{TagFault, HeapFull, SerialsEnd}

-- a stop by its number and name
abbrev pub stop_text : Stop → List ℕ
stop_text (TagFault fault) = codes "60 TagFault(" ++ (fault_name fault ++ codes ")")
stop_text HeapFull = codes "62 HeapFull"
stop_text SerialsEnd = codes "64 SerialsEnd"

-- a thread that an exception has ended; the class is named as in Jasmin, so that the line has no other's end
abbrev pub ended_line : ℕ → List ℕ → List ℕ
ended_line number class = codes "jm: thread " ++ (decimal number ++ (codes " ended by " ++ (name_text class ++ codes "\n")))
