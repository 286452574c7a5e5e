-- By the ending.
use Rattle.jm_execute.specs.Verdicts.{verdict}
use Rattle.jm_execute.proofs.Statuses.{not_read_where_files}
use Rattle.jm_execute.proofs.Telling.{told_whole}
use Rattle.jm_execute.proofs.laws.status_of_files.Goals as goal

pub returns : goal.returns
returns g c asked reader new_reader out new_out err new_err whole (e, allows, hears, leaves) =
    not_read_where_files _ (verdict asked) e new_out.failed reader new_reader whole allows hears (told_whole _ _ e _ out new_out err new_err whole leaves).0
