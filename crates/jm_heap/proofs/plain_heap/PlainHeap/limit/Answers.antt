use Rattle.std.proofs.Common.{ap}
use Rattle.jm_heap.specs.Slots.{content_of}
use Rattle.jm_heap.proofs.plain_heap.PlainHeap.limit.Goals as goal

pub returns : goal.returns
unfolding content_of
returns c = ap (λ d. d.limit) c.self.view_is
