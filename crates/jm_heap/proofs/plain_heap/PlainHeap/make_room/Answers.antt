use Rattle.std.proofs.Common.{arith}
use Rattle.jm_heap.proofs.MakingLemmas.{cells_are, limit_is}
use Rattle.jm_heap.proofs.MakingAllLemmas.{tidied_same}
use Rattle.jm_heap.proofs.plain_heap.PlainHeap.make_room.Goals as goal

pub returns-then-cells-self-clause-room : goal.returns-then-cells-self-clause-room
returns-then-cells-self-clause-room c =
    let cells = cells_are c.self.inside.limit c.self.inside.next c.self.inside.slots.items c.args.self.now c.self.view_is in
    let limit = limit_is c.self.inside.limit c.self.inside.next c.self.inside.slots.items c.args.self.now c.self.view_is in
    omega (arith, cells, limit, c.self.invariant.cells, c.self.invariant.within, c.if-cells-self.true)

pub returns-in_err-collect_all-clause-tidied : goal.returns-in_err-collect_all-clause-tidied
returns-in_err-collect_all-clause-tidied c =
    tidied_same c.args.self.now c.collect_all.new.self c.args.roots.now c.in_err-collect_all.ensures.err c.requires.sound c.requires.resident

pub returns-then-cells-self-2-clause-err : goal.returns-then-cells-self-2-clause-err
returns-then-cells-self-2-clause-err c =
    let cells = cells_are c.self-2.inside.limit c.self-2.inside.next c.self-2.inside.slots.items c.collect_all.new.self c.self-2.view_is in
    let limit = limit_is c.self-2.inside.limit c.self-2.inside.next c.self-2.inside.slots.items c.collect_all.new.self c.self-2.view_is in
    omega (arith, cells, limit, c.self-2.invariant.cells, c.self-2.invariant.within, c.if-cells-self-2.true, c.in_ok-collect_all.ensures.left, c.in_ok-collect_all.ensures.ok.kept.limit)

pub returns-clause-room : goal.returns-clause-room
returns-clause-room c =
    let cells = cells_are c.self-2.inside.limit c.self-2.inside.next c.self-2.inside.slots.items c.collect_all.new.self c.self-2.view_is in
    let limit = limit_is c.self-2.inside.limit c.self-2.inside.next c.self-2.inside.slots.items c.collect_all.new.self c.self-2.view_is in
    omega (arith, cells, limit, c.self-2.invariant.cells, c.self-2.invariant.within, c.if-cells-self-2.false)
