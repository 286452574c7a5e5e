-- One file more.
use Rattle.std.proofs.Common.{arith}
use Rattle.std.proofs.lemmas.Grind.{common_steps}
use Rattle.std.proofs.lemmas.List.Elements.{filter_map-append}
use Rattle.jm_class_path.proofs.finder.classes_held.Goals as goal

pub loop-file-preserved : goal.loop-file-preserved
loop-file-preserved g c = grind (arith, common_steps, filter_map-append)
