-- The numbers of the exit statuses.
use Rattle.std.specs.Prelude.{ℕ}
use Rattle.jm_explain.specs.declared.status.Status.{Status}
use Rattle.jm_explain.specs.declared.status.Status.TheVariants as ends

abbrev pub code_of : Status → ℕ
code_of ends.Done = 0
code_of ends.CommandLine = 1
code_of ends.Files = 2
code_of ends.EndedByException = 3
code_of ends.Refused = 4
code_of ends.TagFault = 5
code_of ends.HeapFull = 6
code_of ends.OutOfMemory = 7
code_of ends.NotEnded = 8
code_of ends.BadSchedule = 9
code_of ends.SeveralOutcomes = 10
code_of ends.NotAllTried = 11
