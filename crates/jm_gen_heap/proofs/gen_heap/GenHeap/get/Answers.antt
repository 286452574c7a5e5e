use Rattle.std.proofs.Common.{subst}
use Rattle.jm_values.specs.Rename.{refs}
use Rattle.jm_values.specs.Content.{AllResident}
use Rattle.jm_gen_heap.specs.Residents.{content_of}
use Rattle.jm_gen_heap.proofs.gen_heap.GenHeap.get.Goals as goal

pub returns-clause-resident : goal.returns-clause-resident
returns-clause-resident g c = subst (λ x. AllResident (content_of x) (refs c.get.result)) c.self.view_is c.get.ensures.resident
