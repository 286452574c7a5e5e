-- By the cases of the verdict.
use Rattle.jm_execute.specs.Verdicts.{verdict, disassembly_verdict, class_of}
use Rattle.jm_execute.proofs.Disassemblies.{class_said}
use Rattle.jm_execute.proofs.laws.text_of_its_class.Goals as goal

pub returns : goal.returns
unfolding verdict disassembly_verdict
returns c asked name commented class h = (class_said _ name _ commented (class_of asked.file) class h.disassembles_is, h.denotes)
