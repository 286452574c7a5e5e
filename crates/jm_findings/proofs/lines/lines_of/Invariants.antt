-- What was written, and what is left to be written.
use Rattle.std.proofs.Common.{◌≡◌, ◌++◌, [], drop}
use Rattle.std.specs.Prelude.{map, string_bytes}
use Rattle.jm_findings.specs.Lines.{finding_line, lines_after}
use Rattle.jm_findings.specs.Told.{told_of}
use Rattle.jm_findings.proofs.lines.lines_of.Given as goal

abbrev pub invariant-loop-finding : goal.invariant-loop-finding
invariant-loop-finding l =
    string_bytes l.text ++ lines_after (string_bytes l.before) (map (finding_line l.program) (told_of l.main (drop l.finding-index l.found)))
    ≡ lines_after [] (map (finding_line l.program) (told_of l.main l.found))
