use Rattle.std.proofs.Common.{sym, subst}
use Rattle.jm_values.specs.Content.{Kept}
use Rattle.jm_values.proofs.Outcomes.{on_err}
use Rattle.jm_heap.specs.NewObject.{new_object}
use Rattle.jm_heap.specs.Allocation.{MadeHere, MadeHereOrNot}
use Rattle.jm_heap.proofs.SweepingLemmas.{kept_same}
use Rattle.jm_heap.proofs.AllocatingLemmas.{made_after, before_same, before_collected, before_made}
use Rattle.jm_heap.proofs.plain_heap.PlainHeap.allocate_collected.Goals as goal

pub returns-in_err-collect_all-clause-kept : goal.returns-in_err-collect_all-clause-kept
returns-in_err-collect_all-clause-kept c =
    on_err c.from_residual.result (subst (λ d. Kept c.args.self.now c.args.roots.now d c.args.roots.now) (sym c.in_err-collect_all.ensures.err) (kept_same c.args.self.now c.args.roots.now c.requires.sound c.requires.resident))

pub returns-in-Some-clause-ok : goal.returns-in-Some-clause-ok
returns-in-Some-clause-ok c =
    made_after c.args.self.now c.collect_all.new.self c.args.roots.now c.in_ok-collect_all.ensures.ok c.allocate_here.new.self c.in-Some.place (new_object c.args.shape) (subst (λ m. MadeHereOrNot c.collect_all.new.self c.allocate_here.new.self m (new_object c.args.shape)) c.in-Some.is c.in_ok-place.ensures.ok)

pub returns-in-Some-clause-unmoved : goal.returns-in-Some-clause-unmoved
returns-in-Some-clause-unmoved c p k r e =
    let made : MadeHere c.collect_all.new.self c.allocate_here.new.self c.in-Some.place (new_object c.args.shape) = subst (λ m. MadeHereOrNot c.collect_all.new.self c.allocate_here.new.self m (new_object c.args.shape)) c.in-Some.is c.in_ok-place.ensures.ok in
    made.places p k (c.in_ok-collect_all.ensures.ok.places p k r e)

pub returns-in_err-collect_all-clause-as_before : goal.returns-in_err-collect_all-clause-as_before
returns-in_err-collect_all-clause-as_before c = before_same c.args.self.now c.collect_all.new.self c.in_err-collect_all.ensures.err

pub returns-in_err-place-clause-as_before : goal.returns-in_err-place-clause-as_before
returns-in_err-place-clause-as_before c = before_collected c.args.self.now c.collect_all.new.self c.args.roots.now c.in_ok-collect_all.ensures.ok c.allocate_here.new.self c.in_err-place.ensures.same

pub returns-in-Some-clause-as_before : goal.returns-in-Some-clause-as_before
returns-in-Some-clause-as_before c =
    before_made c.args.self.now c.collect_all.new.self c.args.roots.now c.in_ok-collect_all.ensures.ok c.allocate_here.new.self c.in-Some.place (new_object c.args.shape) (subst (λ m. MadeHereOrNot c.collect_all.new.self c.allocate_here.new.self m (new_object c.args.shape)) c.in-Some.is c.in_ok-place.ensures.ok)

pub returns-in-None-clause-as_before : goal.returns-in-None-clause-as_before
returns-in-None-clause-as_before c =
    before_collected c.args.self.now c.collect_all.new.self c.args.roots.now c.in_ok-collect_all.ensures.ok c.allocate_here.new.self (subst (λ m. MadeHereOrNot c.collect_all.new.self c.allocate_here.new.self m (new_object c.args.shape)) c.in-None.is c.in_ok-place.ensures.ok)
