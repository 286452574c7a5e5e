use Rattle.std.proofs.Common.{◌≤◌, sym, subst}
use Rattle.jm_gen_heap.specs.Residents.{content_of}
use Rattle.jm_gen_heap.proofs.Allocating.{limit_of}
use Rattle.jm_gen_heap.proofs.gen_heap.GenHeap.used.Goals as goal

pub returns-clause-within : goal.returns-clause-within
returns-clause-within g c = subst (λ x. c.used.result ≤ (content_of x).limit) c.self.view_is (subst (λ n. c.used.result ≤ n) (sym (limit_of c.self.inside.generations)) c.used.ensures.within)
