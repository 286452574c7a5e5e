-- All of them, or a beginning.
use Rattle.jm_execute.proofs.Telling.{lines_told}
use Rattle.jm_execute.proofs.report.tell_lines.Goals as goal

pub returns : goal.returns
returns g c = lines_told _ _ _ _ _ c.requires c.write_all-told.ensures
