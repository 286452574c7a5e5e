use Rattle.std.proofs.Common.{◌≡◌, ◌%◌, subst}
use Rattle.std.specs.Prelude.{IfOk, IfErr, OnErr}
use Rattle.std.proofs.lemmas.Result.{IfOk-weaker, IfErr-weaker}
use Rattle.jm_values.specs.Objects.{size_by}
use Rattle.jm_values.specs.Content.{Made}
use Rattle.jm_heap.specs.Cells.{class_size}
use Rattle.jm_heap.specs.NewObject.{new_object}
use Rattle.jm_heap.specs.Allocation.{MadeHere, IsRefused, IsRefusedHere}
use Rattle.jm_gen_heap.specs.Residents.{content_of}
use Rattle.jm_gen_heap.proofs.Following.{made_after}
use Rattle.jm_gen_heap.specs.Allocating.{OldStay}
use Rattle.jm_gen_heap.specs.Held.{IsPutNew}
use Rattle.jm_gen_heap.proofs.Allocating.{aged_made, refused_here, stays_made}
use Rattle.jm_gen_heap.proofs.gen_heap.GenHeap.allocate_collected.Goals as goal

pub returns-clause-ok : goal.returns-clause-ok
returns-clause-ok g c =
    let old = content_of c.args.self.now in
    let mid = content_of c.make_room.new.self in
    let o = new_object c.args.shape in
    let made = subst (λ x. IfOk c.make.result (λ p. MadeHere (content_of x) (content_of c.make.new.self) p o)) c.self.view_is c.make.ensures.made in
    IfOk-weaker c.make.result (λ p. MadeHere mid (content_of c.make.new.self) p o) (λ p. Made class_size old c.args.roots.now (content_of c.make.new.self) c.make_room.new.roots p o) (λ p m. made_after c.make_room.ensures.kept c.make_room.ensures.next (content_of c.make.new.self) p o m) made

pub returns-clause-stays : goal.returns-clause-stays
returns-clause-stays g c =
    let o = new_object c.args.shape in
    let n = size_by class_size o in
    let stays = subst (λ m. OldStay c.args.self.now c.make_room.new.self m) c.cells.ensures.value c.make_room.ensures.stays in
    let made = subst (λ x. IfOk c.make.result (λ p. MadeHere (content_of x) (content_of c.make.new.self) p o)) c.self.view_is c.make.ensures.made in
    let same = subst (λ x. OnErr c.make.result (c.make.new.self ≡ x)) c.self.view_is c.make.ensures.same in
    stays_made c.make.result c.args.self.now c.make_room.new.self c.make.new.self n o stays c.make_room.ensures.were made same

pub returns-clause-err : goal.returns-clause-err
returns-clause-err g c =
    let old = content_of c.args.self.now in
    let mid = content_of c.make_room.new.self in
    let o = new_object c.args.shape in
    let err = subst (λ x. IfErr c.make.result (IsRefusedHere (content_of x) o)) c.self.view_is c.make.ensures.err in
    IfErr-weaker c.make.result (IsRefusedHere mid o) (IsRefused old c.args.roots.now o) (λ f h. refused_here old mid c.args.roots.now c.make_room.new.roots o f c.make_room.ensures.kept c.make_room.ensures.next h) err

pub returns-clause-aged : goal.returns-clause-aged
returns-clause-aged g c =
    let o = new_object c.args.shape in
    let put = subst (λ x. IfOk c.make.result (λ p. IsPutNew x c.make.new.self p (c.args.nursery % 16) o)) c.self.view_is c.make.ensures.ok in
    aged_made c.make.result c.args.self.now c.make_room.new.self c.make.new.self (c.args.nursery % 16) o c.make_room.ensures.keeps c.make.ensures.keeps c.make_room.ensures.next c.in_ok-make_room.ensures.survived put
