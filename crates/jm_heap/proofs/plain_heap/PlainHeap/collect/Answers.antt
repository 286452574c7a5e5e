use Rattle.std.proofs.Common.{subst}
use Rattle.std.specs.Prelude.{OnOk}
use Rattle.jm_heap.specs.Collection.{Collected}
use Rattle.jm_heap.proofs.SweepingLemmas.{kept_either}
use Rattle.jm_heap.proofs.plain_heap.PlainHeap.collect.Goals as goal

pub returns-in-Full-clause-kept : goal.returns-in-Full-clause-kept
returns-in-Full-clause-kept c =
    kept_either c.args.self.now c.collect_all.new.self c.args.roots.now c.collect_all.result c.requires.sound c.requires.resident (subst (λ l. OnOk c.collect_all.result (Collected c.args.self.now l c.collect_all.new.self)) c.as_slice.ensures c.collect_all.ensures.ok) c.collect_all.ensures.err
