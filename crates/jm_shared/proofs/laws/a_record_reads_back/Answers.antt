-- By its lines.
use Rattle.jm_shared.proofs.RecordLines.{text_reads_back}
use Rattle.jm_shared.proofs.laws.a_record_reads_back.Goals as goal

pub returns : goal.returns
returns c = text_reads_back
