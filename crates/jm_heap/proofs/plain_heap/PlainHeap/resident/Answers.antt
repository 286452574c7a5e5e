use Rattle.jm_heap.proofs.ResidentLemmas.{are_resident}
use Rattle.jm_heap.proofs.plain_heap.PlainHeap.resident.Goals as goal

pub returns : goal.returns
returns c = are_resident c.self.inside.limit c.self.inside.next c.self.inside.slots.items c.args.self.now c.self.view_is c.self.invariant.sound c.in_ok-serials.serials.items c.sort_unstable.new.self.items c.in_ok-serials.ensures c.sort_unstable.ensures.permutation c.sort_unstable.ensures.sorted
