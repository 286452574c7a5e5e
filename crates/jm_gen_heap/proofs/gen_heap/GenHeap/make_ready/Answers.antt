use Rattle.std.proofs.Common.{sym, subst}
use Rattle.jm_values.specs.Content.{AllResident, Kept}
use Rattle.jm_gen_heap.specs.Residents.{content_of}
use Rattle.jm_gen_heap.proofs.Making.{sound}
use Rattle.jm_gen_heap.proofs.gen_heap.GenHeap.make_ready.Goals as goal
use Rattle.jm_heap.proofs.SweepingLemmas.{kept_same}

pub returns-then-is_within_quota-clause-kept : goal.returns-then-is_within_quota-clause-kept
returns-then-is_within_quota-clause-kept g c =
    let gen = c.self.inside.generations in
    let resident = subst (λ x. AllResident (content_of x) c.args.roots.now) (sym c.self.view_is) c.requires.resident in
    subst (λ x. Kept (content_of x) c.args.roots.now (content_of x) c.args.roots.now) c.self.view_is (kept_same (content_of gen) c.args.roots.now (sound c.fits.ensures.keeps) resident)
