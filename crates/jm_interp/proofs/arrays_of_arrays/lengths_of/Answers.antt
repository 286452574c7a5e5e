-- One more length is there.
use mir.Syntax.{w32}
use mir.Val.{SFits}
use Rattle.std.proofs.Common.{rules, get_or, pos, sym, ap, ◌∙◌}
use Rattle.std.proofs.Math.Facts.{to_z-of_z}
use Rattle.std.proofs.lemmas.Result.{err_from_is_err_and}
use Rattle.jm_interp.specs.ArraysOfArrays.{lengths_in}
use Rattle.jm_interp.proofs.ArraysOfArrays.{behind, behind_none, lengths_more, lengths_refuse, lengths_whole}
use Rattle.jm_interp.proofs.arrays_of_arrays.lengths_of.Goals as goal

pub loop-count-init : goal.loop-count-init
loop-count-init c = sym (behind_none (lengths_in c.args.counts.now)) ∙ ap (λ l. behind l (lengths_in c.args.counts.now)) (sym c.new-lengths.ensures.items)

pub returns-in_err-push_length-clause-err : goal.returns-in_err-push_length-clause-err
returns-in_err-push_length-clause-err c =
    let left = err_from_is_err_and c.from_residual.result c.from_residual.ensures.1 in
    let fits : SFits w32 (get_or c.args.counts.now c.loop-count.count-index (pos 0)) = search rules in
    rw (left.1, left.2)
    (lengths_refuse c.args.counts.now c.loop-count.lengths.items c.loop-count.count-index _ _ c.loop-count-test.true (to_z-of_z fits) c.loop-count.invariant _ c.in_err-push_length.ensures.err)

pub loop-count-preserved : goal.loop-count-preserved
loop-count-preserved c =
    let fits : SFits w32 (get_or c.args.counts.now c.loop-count.count-index (pos 0)) = search rules in
    lengths_more c.args.counts.now c.loop-count.lengths.items c.loop-count.count-index _ _ c.loop-count-test.true (to_z-of_z fits) c.loop-count.invariant
    c.push_length.new.lengths.items c.in_ok-push_length.ensures.ok

pub returns-clause-ok : goal.returns-clause-ok
returns-clause-ok c =
    lengths_whole c.args.counts.now c.loop-count.lengths.items c.loop-count.count-index c.loop-count-test.false c.loop-count.invariant
