use Rattle.std.proofs.Common.{◌≡◌, ◌%◌, Some, map, sym, ap, ◌∙◌, subst, arith}
use Rattle.std.specs.Prelude.{IfOk, IfErr, OnErr}
use Rattle.std.proofs.lemmas.Result.{IfOk-weaker, IfErr-weaker, on_err_weaker}
use Rattle.jm_values.specs.Content.{Kept, MadeAll}
use Rattle.jm_heap.specs.Cells.{class_size}
use Rattle.jm_heap.specs.NewObject.{new_object}
use Rattle.jm_heap.specs.Allocation.{AllPlaces, AreRefused, AreRefusedHere}
use Rattle.jm_heap.proofs.SweepingLemmas.{kept_same}
use Rattle.jm_nursery.specs.Nurseries.{nursery_at}
use Rattle.jm_gen_heap.specs.Residents.{content_of}
use Rattle.jm_gen_heap.specs.Invariant.{AreGenerations}
use Rattle.jm_gen_heap.specs.Allocating.{HasSurvived, OldStay}
use Rattle.jm_gen_heap.specs.Several.{AreAllPut, IsAlike, IsReady}
use Rattle.jm_gen_heap.proofs.Making.{sound}
use Rattle.jm_gen_heap.proofs.Allocating.{limit_of}
use Rattle.jm_gen_heap.proofs.Alike.{alike_content}
use Rattle.jm_gen_heap.proofs.Lying.{alike_lies, ready_lies}
use Rattle.jm_gen_heap.proofs.Several.{all_after, all_made, all_refused, lies_new, new_age, tried_before, tried_stays}
use Rattle.jm_gen_heap.proofs.gen_heap.GenHeap.allocate_all.Goals as goal

pub returns-in_default-clause-kept : goal.returns-in_default-clause-kept
returns-in_default-clause-kept g c =
    kept_same (content_of c.args.self.now) c.args.roots.now (sound {g = c.args.self.now} (subst AreGenerations c.self.view_is c.used-used.ensures.keeps)) c.requires

pub returns-in_default-clause-err : goal.returns-in_default-clause-err
returns-in_default-clause-err g c =
    let limit = limit_of c.args.self.now in
    let same = ap (λ x. x.limit) c.self.view_is in
    omega (arith, c.in_default.ensures.cells, c.limit-limit.ensures.value, limit, same)

pub returns-clause-ok : goal.returns-clause-ok
returns-clause-ok g c =
    let keeps = subst AreGenerations c.self-2.view_is c.make_all.ensures.keeps in
    let put = subst (λ x. IfOk c.make_all.result (λ places. AreAllPut x c.make_all.new.self places.items (c.args.nursery % 16) (map new_object c.args.shapes.now))) c.self-2.view_is c.make_all.ensures.ok in
    IfOk-weaker c.make_all.result (λ places. AreAllPut c.make_ready.new.self c.make_all.new.self places.items (c.args.nursery % 16) (map new_object c.args.shapes.now)) (λ places. MadeAll class_size (content_of c.args.self.now) c.args.roots.now (content_of c.make_all.new.self) c.make_ready.new.roots places.items (map new_object c.args.shapes.now))
    (λ places m. all_after (content_of c.args.self.now) (content_of c.make_ready.new.self) (content_of c.make_all.new.self) c.args.roots.now c.make_ready.new.roots places.items (map new_object c.args.shapes.now) c.make_ready.ensures.kept c.make_ready.ensures.next (all_made keeps m c.make_ready.new.roots c.make_ready.ensures.kept.resident))
    put

pub returns-clause-nursery : goal.returns-clause-nursery
returns-clause-nursery g c =
    let keeps = subst AreGenerations c.self-2.view_is c.make_all.ensures.keeps in
    let put = subst (λ x. IfOk c.make_all.result (λ places. AreAllPut x c.make_all.new.self places.items (c.args.nursery % 16) (map new_object c.args.shapes.now))) c.self-2.view_is c.make_all.ensures.ok in
    IfOk-weaker c.make_all.result (λ places. AreAllPut c.make_ready.new.self c.make_all.new.self places.items (c.args.nursery % 16) (map new_object c.args.shapes.now)) (λ places. AllPlaces (λ place. nursery_at place ≡ Some (c.args.nursery % 16)) places.items) (λ places m i p e. (lies_new keeps m i p e).nursery) put

pub returns-clause-fresh : goal.returns-clause-fresh
returns-clause-fresh g c =
    let keeps = subst AreGenerations c.self-2.view_is c.make_all.ensures.keeps in
    let put = subst (λ x. IfOk c.make_all.result (λ places. AreAllPut x c.make_all.new.self places.items (c.args.nursery % 16) (map new_object c.args.shapes.now))) c.self-2.view_is c.make_all.ensures.ok in
    IfOk-weaker c.make_all.result (λ places. AreAllPut c.make_ready.new.self c.make_all.new.self places.items (c.args.nursery % 16) (map new_object c.args.shapes.now)) (λ places. AllPlaces (λ place. HasSurvived c.make_all.new.self place 0) places.items) (λ places m i p e. new_age (lies_new keeps m i p e)) put

pub returns-clause-kept : goal.returns-clause-kept
returns-clause-kept g c =
    let keeps = subst AreGenerations c.self-2.view_is c.make_all.ensures.keeps in
    on_err_weaker c.make_all.result (λ b. subst (λ x. Kept (content_of c.args.self.now) c.args.roots.now x c.make_ready.new.roots) (sym (alike_content keeps b)) c.make_ready.ensures.kept) (subst (λ x. OnErr c.make_all.result (IsAlike x c.make_all.new.self)) c.self-2.view_is c.make_all.ensures.none)

pub returns-clause-next : goal.returns-clause-next
returns-clause-next g c =
    let keeps = subst AreGenerations c.self-2.view_is c.make_all.ensures.keeps in
    on_err_weaker c.make_all.result (λ b. ap (λ x. x.next) (alike_content keeps b) ∙ c.make_ready.ensures.next) (subst (λ x. OnErr c.make_all.result (IsAlike x c.make_all.new.self)) c.self-2.view_is c.make_all.ensures.none)

pub returns-clause-as_before : goal.returns-clause-as_before
returns-clause-as_before g c =
    let keeps = subst AreGenerations c.self-2.view_is c.make_all.ensures.keeps in
    let put = subst (λ x. IfOk c.make_all.result (λ places. AreAllPut x c.make_all.new.self places.items (c.args.nursery % 16) (map new_object c.args.shapes.now))) c.self-2.view_is c.make_all.ensures.ok in
    tried_before c.make_all.result (λ places. places.items) c.make_ready.new.self c.make_all.new.self keeps (c.args.nursery % 16) (map new_object c.args.shapes.now) (content_of c.args.self.now) c.make_ready.ensures.next c.make_ready.ensures.as_before put (subst (λ x. OnErr c.make_all.result (IsAlike x c.make_all.new.self)) c.self-2.view_is c.make_all.ensures.none)

pub returns-clause-stays : goal.returns-clause-stays
returns-clause-stays g c =
    let keeps = subst AreGenerations c.self-2.view_is c.make_all.ensures.keeps in
    let put = subst (λ x. IfOk c.make_all.result (λ places. AreAllPut x c.make_all.new.self places.items (c.args.nursery % 16) (map new_object c.args.shapes.now))) c.self-2.view_is c.make_all.ensures.ok in
    let stays = subst (λ k. OldStay c.args.self.now c.make_ready.new.self k) c.in-Some.ensures.cells.0 c.make_ready.ensures.stays in
    tried_stays c.make_all.result (λ places. places.items) c.make_ready.new.self c.make_all.new.self keeps (c.args.nursery % 16) (map new_object c.args.shapes.now) c.args.self.now _ c.make_ready.ensures.were stays put (subst (λ x. OnErr c.make_all.result (IsAlike x c.make_all.new.self)) c.self-2.view_is c.make_all.ensures.none)

pub returns-clause-err : goal.returns-clause-err
returns-clause-err g c =
    let err = subst (λ x. IfErr c.make_all.result (AreRefusedHere (content_of x) (map new_object c.args.shapes.now))) c.self-2.view_is c.make_all.ensures.err in
    IfErr-weaker c.make_all.result (AreRefusedHere (content_of c.make_ready.new.self) (map new_object c.args.shapes.now)) (AreRefused (content_of c.args.self.now) c.args.roots.now (map new_object c.args.shapes.now)) (λ f h. all_refused (content_of c.args.self.now) (content_of c.make_ready.new.self) c.args.roots.now c.make_ready.new.roots (map new_object c.args.shapes.now) f c.make_ready.ensures.kept c.make_ready.ensures.next h) err

pub returns-clause-refused : goal.returns-clause-refused
returns-clause-refused g c =
    let ready = subst (λ k. IsReady c.args.self.now c.make_ready.new.self c.args.roots.now c.make_ready.new.roots k) c.in-Some.ensures.cells.0 c.in_ok-make_ready.ensures.ready in
    on_err_weaker c.make_all.result (λ a. ready_lies ready (alike_lies a)) (subst (λ x. OnErr c.make_all.result (IsAlike x c.make_all.new.self)) c.self-2.view_is c.make_all.ensures.none)
