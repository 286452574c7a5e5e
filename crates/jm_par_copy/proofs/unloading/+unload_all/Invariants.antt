use Rattle.std.proofs.Common.{length}
use Rattle.jm_par_copy.proofs.unloading.+unload_all.Given as goal

abbrev pub decreases-unload_all : goal.decreases-unload_all
decreases-unload_all l = length l.copiers.now
