use Rattle.std.proofs.Common.{arith}
use Rattle.jm_heap.proofs.SlotLemmas.{stored_in_free, stored_at_end}
use Rattle.jm_heap.proofs.slots.store_reserved.Goals as goal

pub returns-in-Some-clause-stored : goal.returns-in-Some-clause-stored
returns-in-Some-clause-stored c a taken =
    rw taken (stored_in_free c.args.slots.now.items c.new.result c.in-Some.index a (omega (arith, c.new.ensures)) c.in-Some.ensures (omega (arith, c.requires.few, c.args.slots.now.ok.0)))

pub returns-clause-stored : goal.returns-clause-stored
returns-clause-stored c a taken =
    rw (c.push_reserved.ensures.items, taken) (stored_at_end c.args.slots.now.items c.new-2.result a (omega (arith, c.new-2.ensures, c.len-end.ensures, c.args.slots.now.ok.0)) (omega (arith, c.requires.few, c.args.slots.now.ok.0)))
