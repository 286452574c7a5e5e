use Rattle.std.proofs.Common.{◌∙◌, ap}
use Rattle.std.specs.Prelude.{unwrap_or}
use Rattle.jm_heap.specs.declared.class_id.ClassId.TheVariants.{Instance}
use Rattle.jm_heap.proofs.ReadingLemmas.{class_there}
use Rattle.jm_heap.proofs.plain_heap.PlainHeap.class_of.Goals as goal

pub returns : goal.returns
returns c k o h g =
    c.unwrap_or.ensures ∙ ap (λ class. unwrap_or class (Instance 0)) (c.class_at.ensures ∙ class_there c.self.inside.limit c.self.inside.next c.self.inside.slots.items c.args.self.now c.self.view_is c.self.invariant.sound c.args.place k o h g)
