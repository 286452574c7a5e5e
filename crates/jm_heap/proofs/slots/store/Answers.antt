use Rattle.std.proofs.Common.{arith}
use Rattle.jm_heap.proofs.SlotLemmas.{stored_in_free, stored_at_end}
use Rattle.jm_heap.proofs.slots.store.Goals as goal

pub returns-in-Some-clause-ok : goal.returns-in-Some-clause-ok
returns-in-Some-clause-ok c a taken =
    rw taken (stored_in_free c.args.slots.now.items c.new.result c.in-Some.index a (omega (arith, c.new.ensures)) c.in-Some.ensures c.requires)

pub returns-in-Ok-clause-ok : goal.returns-in-Ok-clause-ok
returns-in-Ok-clause-ok c a taken =
    rw (c.in-Ok.ensures.items, taken) (stored_at_end c.args.slots.now.items c.new-in-Ok.result a (omega (arith, c.new-in-Ok.ensures, c.len-end.ensures)) (omega (arith, c.if-end-ge-MAX_SLOTS.false, c.len-end.ensures)))
