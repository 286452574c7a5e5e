use Rattle.std.proofs.Common.{◌≡◌, [], refl, sym, subst}
use Rattle.jm_heap.specs.Slots.{content_of}
use Rattle.jm_heap.proofs.plain_heap.PlainHeap.new.Goals as goal

pub returns : goal.returns
unfolding content_of
returns c = subst (λ s. content_of c.args.limit 0 s ≡ record { limit = c.args.limit; next = 0; residents = [] }) (sym c.new.ensures.items) refl
