-- A text is the second of the two places.
use Rattle.std.proofs.Common.{◌∙◌}
use Rattle.jm_class_path.proofs.Finding.{in_second_place}
use Rattle.jm_class_path.proofs.folders.found_below.Goals as goal

pub returns : goal.returns
returns g c = in_second_place g.R.FileReader.facts _ _ c.deref-2.result.now c.args.name.now (c.deref-2.ensures ∙ c.in_ok-text.ensures) c.found_at-2.result c.found_at-2.ensures
