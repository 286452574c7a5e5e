-- One more was read from the top.
use Rattle.std.proofs.Common.{sym, ap, reverse, arith}
use Rattle.std.proofs.lemmas.Result.{err_from_is_err_and}
use Rattle.jm_interp.specs.ArraysOfArrays.{counts_of}
use Rattle.jm_interp.proofs.ArraysOfArrays.{counts_more, counts_refuse, counts_whole}
use Rattle.jm_interp.proofs.arrays_of_arrays.counts_in.Goals as goal

pub loop-depth-init : goal.loop-depth-init
loop-depth-init c = (
  c.args.dimensions,
  omega arith,
  ap (λ l. counts_of c.args.dimensions (reverse l) c.args.frame.now.activation.stack) (sym c.new-counts.ensures.items),
  λ l. absurd (omega (arith, l)),
)

pub returns-in_err-push_int-clause-err : goal.returns-in_err-push_int-clause-err
returns-in_err-push_int-clause-err c =
    let left = err_from_is_err_and c.from_residual.result c.from_residual.ensures.1 in
    let so = c.loop-depth.invariant in
    rw (left.1, left.2) (counts_refuse c.args.dimensions c.loop-depth.depth so.0 c.loop-depth.counts.items c.args.frame.now.activation.stack so.1 c.loop-depth-test.true so.2 _ c.in_err-push_int.ensures.err)

pub loop-depth-preserved : goal.loop-depth-preserved
loop-depth-preserved c =
    let so = c.loop-depth.invariant in
    let more = counts_more c.args.dimensions c.loop-depth.depth so.0 c.loop-depth.counts.items c.args.frame.now.activation.stack so.1 c.loop-depth-test.true so.2
    c.push_int.new.ints.items c.in_ok-push_int.ensures.ok in
    (more.0, more.1, more.2, λ l. c.push_int.ensures.room)

pub returns-clause-ok : goal.returns-clause-ok
returns-clause-ok c =
    let so = c.loop-depth.invariant in
    counts_whole c.args.dimensions c.loop-depth.depth so.0 c.loop-depth.counts.items c.reverse.new.self.items c.args.frame.now.activation.stack so.1 c.loop-depth-test.false so.2 c.reverse.ensures.items

pub returns-clause-room : goal.returns-clause-room
returns-clause-room c = λ some. c.loop-depth.invariant.3 (omega (arith, c.loop-depth-test.false, some))
