use Rattle.jm_copy.proofs.Images.{copying_image}
use Rattle.jm_copy.proofs.laws.a_finished_scan_is_an_image.Goals as goal

pub returns : goal.returns
returns c = λ old new moved done roots new_roots f. copying_image moved new done new_roots f.copying f.scanned f.many f.forwarded
