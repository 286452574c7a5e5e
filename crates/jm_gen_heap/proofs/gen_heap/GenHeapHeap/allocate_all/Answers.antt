use Rattle.std.proofs.Common.{◌≡◌, ◌%◌, ℕ, Some}
use Rattle.std.proofs.lemmas.Result.{IfOk-weaker}
use Rattle.jm_heap.specs.Allocation.{AllPlaces}
use Rattle.jm_nursery.specs.Nurseries.{nursery_at}
use Rattle.jm_gen_heap.proofs.gen_heap.GenHeapHeap.allocate_all.Goals as goal

pub returns-clause-free : goal.returns-clause-free
returns-clause-free g c =
    IfOk-weaker c.allocate_all.result (λ places. AllPlaces (λ place. nursery_at place ≡ Some (c.args.nursery % 16)) places.items) (λ places. AllPlaces (λ place. (n : ℕ) × (nursery_at place ≡ Some n)) places.items) (λ places m i p e. (c.args.nursery % 16, m i p e)) c.allocate_all.ensures.nursery
