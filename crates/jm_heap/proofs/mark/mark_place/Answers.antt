use Rattle.std.proofs.Common.{◌-◌, arith}
use Rattle.jm_heap.proofs.MarkLemmas.{marked_now, marked_already}
use Rattle.jm_heap.proofs.mark.mark_place.Goals as goal

pub returns-in_ok-push : goal.returns-in_ok-push
returns-in_ok-push c =
    rw (c.in_ok-push.ensures.items) (marked_now c.args.marks.now.items c.args.pending.now.items c.args.place (c.number-number.result - 1) c.index.result.now (omega (arith, c.number-number.ensures.value, c.number-number.ensures.some)) c.requires c.index.ensures c.if-not-index.true)

pub returns-else-not-index : goal.returns-else-not-index
returns-else-not-index c =
    marked_already c.args.marks.now.items c.args.pending.now.items c.args.place (c.number-number.result - 1) c.index.result.now (omega (arith, c.number-number.ensures.value, c.number-number.ensures.some)) c.requires c.index.ensures c.if-not-index.false
