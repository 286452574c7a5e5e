use Rattle.std.proofs.Common.{subst, arith}
use Rattle.std.specs.Prelude.{map}
use Rattle.jm_heap.specs.Collection.{IsTidied}
use Rattle.jm_heap.specs.NewObject.{new_object}
use Rattle.jm_heap.proofs.MakingLemmas.{limit_is}
use Rattle.jm_heap.proofs.MakingAllLemmas.{ok_after, err_after, unmoved_after}
use Rattle.jm_heap.proofs.plain_heap.PlainHeap.allocate_all.Goals as goal

pub returns-in_default-clause-err : goal.returns-in_default-clause-err
returns-in_default-clause-err c =
    let limit = limit_is c.self.inside.limit c.self.inside.next c.self.inside.slots.items c.args.self.now c.self.view_is in
    omega (arith, limit, c.in_default.ensures.cells)

pub returns-clause-ok : goal.returns-clause-ok
returns-clause-ok c =
    ok_after c.args.self.now c.make_room.new.self c.args.roots.now (subst (λ l. IsTidied c.args.self.now l c.make_room.new.self) c.as_slice.ensures c.make_room.ensures.tidied) c.allocate_all_here.new.self (map new_object c.args.shapes.now) (λ places. places.items) c.allocate_all_here.result c.allocate_all_here.ensures.ok

pub returns-clause-err : goal.returns-clause-err
returns-clause-err c =
    err_after c.args.self.now c.make_room.new.self c.args.roots.now (subst (λ l. IsTidied c.args.self.now l c.make_room.new.self) c.as_slice.ensures c.make_room.ensures.tidied) (map new_object c.args.shapes.now) c.allocate_all_here.result c.allocate_all_here.ensures.err

pub returns-clause-unmoved : goal.returns-clause-unmoved
returns-clause-unmoved c =
    unmoved_after c.args.self.now c.make_room.new.self c.args.roots.now (subst (λ l. IsTidied c.args.self.now l c.make_room.new.self) c.as_slice.ensures c.make_room.ensures.tidied) c.allocate_all_here.new.self (map new_object c.args.shapes.now) (λ places. places.items) c.allocate_all_here.result c.allocate_all_here.ensures.ok c.allocate_all_here.ensures.same
