use Rattle.std.proofs.Common.{◌∙◌, sym, ap}
use Rattle.jm_gen_heap.specs.Residents.{content_of}
use Rattle.jm_gen_heap.proofs.Allocating.{limit_of}
use Rattle.jm_gen_heap.proofs.gen_heap.GenHeap.limit.Goals as goal

pub returns : goal.returns
returns g c = c.limit.ensures.value ∙ sym (limit_of c.self.inside.generations) ∙ ap (λ x. (content_of x).limit) c.self.view_is
