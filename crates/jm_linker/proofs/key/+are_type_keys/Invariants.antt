-- Each turn has one key less.
use Rattle.std.proofs.Common.{length}
use Rattle.jm_linker.proofs.key.+are_type_keys.Given as goal

abbrev pub decreases-are_type_keys : goal.decreases-are_type_keys
decreases-are_type_keys l = length l.keys.now
