use Rattle.std.proofs.Common.{length}
use Rattle.jm_par_copy.proofs.copier.+make_rounds_here.Given as goal

abbrev pub decreases-make_rounds_here : goal.decreases-make_rounds_here
decreases-make_rounds_here g l = length l.copiers.now
