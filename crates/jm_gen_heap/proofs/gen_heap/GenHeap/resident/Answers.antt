use Rattle.std.proofs.Common.{subst}
use Rattle.jm_heap.specs.Residents.{AreResident}
use Rattle.jm_gen_heap.specs.Residents.{content_of}
use Rattle.jm_gen_heap.proofs.Serials.{are_resident}
use Rattle.jm_gen_heap.proofs.gen_heap.GenHeap.resident.Goals as goal

pub returns : goal.returns
returns g c = subst (λ x. AreResident (content_of x) c.sort_unstable.new.self.items) c.self.view_is (are_resident c.self.inside.generations c.serials.ensures.keeps c.in_ok-serials.serials.items c.sort_unstable.new.self.items c.in_ok-serials.ensures.all c.sort_unstable.ensures.permutation c.sort_unstable.ensures.sorted)
