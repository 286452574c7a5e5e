use Rattle.std.proofs.Common.{length, ◌+◌, ◌*◌}
use Rattle.jm_par_copy.proofs.spans.+fn-make_spans-join_mut+arg3+make_spans.Given as goal

abbrev pub decreases-join_mut+arg3 : goal.decreases-join_mut+arg3
decreases-join_mut+arg3 g l = 2 * length l.rest.now + 1

abbrev pub decreases-make_spans : goal.decreases-make_spans
decreases-make_spans g l = 2 * length l.copiers.now
