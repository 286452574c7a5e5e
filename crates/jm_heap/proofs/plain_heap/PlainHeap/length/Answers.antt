use Rattle.std.proofs.Common.{◌∙◌, ap, length, List, arith}
use Rattle.jm_values.specs.declared.value.Value.{Value}
use Rattle.jm_heap.proofs.ReadingLemmas.{few_there, length_there}
use Rattle.jm_heap.proofs.plain_heap.PlainHeap.length.Goals as goal

pub overflow_cast-result : goal.overflow_cast-result
overflow_cast-result c =
    let many = ap (λ (vs : List Value). length vs) c.values_at.ensures in
    let few = few_there c.self.inside.next c.self.inside.slots.items c.self.invariant.sound c.args.place in
    omega (arith, many, few)

pub returns : goal.returns
returns c k o h g = ap (λ (vs : List Value). length vs) c.values_at.ensures ∙ length_there c.self.inside.limit c.self.inside.next c.self.inside.slots.items c.args.self.now c.self.view_is c.self.invariant.sound c.args.place k o h g
