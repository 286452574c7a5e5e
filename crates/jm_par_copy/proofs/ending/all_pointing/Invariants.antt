use Rattle.std.proofs.Common.{◌≡◌, ◌++◌}
use Rattle.std.specs.Prelude.{drop}
use Rattle.jm_par_copy.specs.Notes.{all_listed}
use Rattle.jm_par_copy.proofs.ending.all_pointing.Given as goal

abbrev pub invariant-loop-copier : goal.invariant-loop-copier
invariant-loop-copier l = l.places.items ++ all_listed (drop l.copier-index l.copiers) l.aside ≡ all_listed l.copiers l.aside
