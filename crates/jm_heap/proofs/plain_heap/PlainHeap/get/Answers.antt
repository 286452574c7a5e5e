use Rattle.jm_heap.proofs.ReadingLemmas.{index_there, value_there, resident_there}
use Rattle.jm_heap.proofs.plain_heap.PlainHeap.get.Goals as goal

pub bounds-values_at-index : goal.bounds-values_at-index
bounds-values_at-index c = index_there c.self.inside.limit c.self.inside.next c.self.inside.slots.items c.args.self.now c.self.view_is c.self.invariant.sound c.args.place c.args.index c.requires.0 c.requires.1 c.values_at.result.now c.values_at.ensures

pub returns-clause-value : goal.returns-clause-value
returns-clause-value c = value_there c.self.inside.limit c.self.inside.next c.self.inside.slots.items c.args.self.now c.self.view_is c.self.invariant.sound c.args.place c.args.index c.requires.0 c.requires.1 c.values_at.result.now c.values_at.ensures c.index-values_at-index.result c.index-values_at-index.is

pub returns-clause-resident : goal.returns-clause-resident
returns-clause-resident c = resident_there c.self.inside.limit c.self.inside.next c.self.inside.slots.items c.args.self.now c.self.view_is c.self.invariant.sound c.args.place c.args.index c.requires.0 c.requires.1 c.values_at.result.now c.values_at.ensures c.index-values_at-index.result c.index-values_at-index.is
