use Rattle.std.proofs.Common.{◌≡◌, sym, subst}
use Rattle.jm_values.specs.Content.{Kept}
use Rattle.jm_values.proofs.Outcomes.{on_err}
use Rattle.jm_heap.specs.NewObject.{new_object}
use Rattle.jm_heap.specs.Allocation.{MadeHere, MadeHereOrNot}
use Rattle.jm_heap.specs.Collection.{IsAsBeforeMaking}
use Rattle.jm_heap.proofs.SweepingLemmas.{kept_same}
use Rattle.jm_heap.proofs.AllocatingLemmas.{before_same}
use Rattle.jm_heap.proofs.plain_heap.PlainHeap.allocate.Goals as goal

pub returns-in_err-place-clause-kept : goal.returns-in_err-place-clause-kept
returns-in_err-place-clause-kept c =
    on_err c.from_residual.result (subst (λ d. Kept c.args.self.now c.args.roots.now d c.args.roots.now) (sym c.in_err-place.ensures.same) (kept_same c.args.self.now c.args.roots.now c.requires.sound c.requires.resident))

pub allocate_collected-requires-clause-resident : goal.allocate_collected-requires-clause-resident
allocate_collected-requires-clause-resident c =
    let same : c.allocate_here.new.self ≡ c.args.self.now = subst (λ m. MadeHereOrNot c.args.self.now c.allocate_here.new.self m (new_object c.args.shape)) c.in-None.is c.in_ok-place.ensures.ok in
    rw (same, c.as_slice.ensures) c.requires.resident

pub returns-in-Some-clause-ok : goal.returns-in-Some-clause-ok
returns-in-Some-clause-ok c =
    let made : MadeHere c.args.self.now c.allocate_here.new.self c.in-Some.place (new_object c.args.shape) = subst (λ m. MadeHereOrNot c.args.self.now c.allocate_here.new.self m (new_object c.args.shape)) c.in-Some.is c.in_ok-place.ensures.ok in
    made.made c.args.roots.now c.requires.resident

pub returns-in_err-place-clause-as_before : goal.returns-in_err-place-clause-as_before
returns-in_err-place-clause-as_before c = before_same c.args.self.now c.allocate_here.new.self c.in_err-place.ensures.same

pub returns-in-Some-clause-as_before : goal.returns-in-Some-clause-as_before
returns-in-Some-clause-as_before c =
    let made : MadeHere c.args.self.now c.allocate_here.new.self c.in-Some.place (new_object c.args.shape) = subst (λ m. MadeHereOrNot c.args.self.now c.allocate_here.new.self m (new_object c.args.shape)) c.in-Some.is c.in_ok-place.ensures.ok in
    made.as_before

pub returns-in-None-clause-as_before : goal.returns-in-None-clause-as_before
returns-in-None-clause-as_before c =
    let same : c.allocate_here.new.self ≡ c.args.self.now = subst (λ m. MadeHereOrNot c.args.self.now c.allocate_here.new.self m (new_object c.args.shape)) c.in-None.is c.in_ok-place.ensures.ok in
    subst (λ d. IsAsBeforeMaking d c.allocate_collected.new.self) same c.allocate_collected.ensures.as_before
