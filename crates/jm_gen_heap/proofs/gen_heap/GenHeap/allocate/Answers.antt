use Rattle.std.proofs.Common.{◌%◌, refl, sym, ap, subst}
use Rattle.jm_values.specs.Objects.{size_by}
use Rattle.jm_values.specs.Content.{AllResident}
use Rattle.jm_values.proofs.Outcomes.{on_err}
use Rattle.jm_heap.specs.Cells.{class_size}
use Rattle.jm_heap.specs.NewObject.{new_object}
use Rattle.jm_heap.specs.Allocation.{MadeHereOrNot}
use Rattle.jm_gen_heap.specs.Residents.{content_of}
use Rattle.std.specs.Prelude.{OnOk}
use Rattle.jm_gen_heap.specs.Allocating.{HasAged, PutHere}
use Rattle.jm_gen_heap.proofs.Allocating.{same_left, stays_here}
use Rattle.jm_gen_heap.proofs.gen_heap.GenHeap.allocate.Goals as goal

pub returns-in_err-place-clause-kept : goal.returns-in_err-place-clause-kept
returns-in_err-place-clause-kept g c =
    let left = same_left c.args.self.now c.allocate_here.new.self c.args.roots.now c.args.roots.now c.allocate_here.ensures.keeps c.requires (ap content_of c.in_err-place.ensures.same) refl in
    on_err c.from_residual.result left.kept

pub allocate_collected-requires : goal.allocate_collected-requires
allocate_collected-requires g c =
    let same = subst (λ m. MadeHereOrNot (content_of c.args.self.now) (content_of c.allocate_here.new.self) m (new_object c.args.shape)) c.in-None.is c.in_ok-place.ensures.ok in
    subst (λ x. AllResident x c.args.roots.now) (sym same) c.requires

pub returns-in-Some-clause-ok : goal.returns-in-Some-clause-ok
returns-in-Some-clause-ok g c =
    let o = new_object c.args.shape in
    let made = subst (λ m. MadeHereOrNot (content_of c.args.self.now) (content_of c.allocate_here.new.self) m o) c.in-Some.is c.in_ok-place.ensures.ok in
    made.made c.args.roots.now c.requires

pub returns-in-Some-clause-stays : goal.returns-in-Some-clause-stays
returns-in-Some-clause-stays g c =
    let o = new_object c.args.shape in
    let made = subst (λ m. MadeHereOrNot (content_of c.args.self.now) (content_of c.allocate_here.new.self) m o) c.in-Some.is c.in_ok-place.ensures.ok in
    stays_here c.args.self.now c.allocate_here.new.self (size_by class_size o) c.in-Some.place o c.allocate_here.ensures.keeps made

pub returns-in-None-clause-aged : goal.returns-in-None-clause-aged
returns-in-None-clause-aged g c =
    let none = subst (λ m. PutHere c.args.self.now c.allocate_here.new.self m (c.args.nursery % 16) (new_object c.args.shape)) c.in-None.is c.in_ok-place.ensures.put in
    subst (λ x. OnOk c.allocate_collected.result (HasAged x c.allocate_collected.new.self)) none.0 c.allocate_collected.ensures.aged
