use Rattle.jm_linked.proofs.BuiltInNumbers.{names_built_in}
use Rattle.jm_interp.proofs.MonitorRows.{no_object, leaves, leave_row, lies, left_stands, leaves_and_goes, throws_no_owner}
use Rattle.jm_interp.proofs.OnThread.{numbered}
use Rattle.jm_interp.proofs.OnTop.{found_object}
use Rattle.jm_interp.proofs.monitors.leave_top.Goals as goal

pub refuse-requires-clause-refused : goal.refuse-requires-clause-refused
refuse-requires-clause-refused g c =
    let h = c.requires in
    no_object h.method (leaves h) (leave_row h) (found_object h.method 0 c.index.ensures c.in-Err.ensures.value)

pub leave-requires-clause-numbered : goal.leave-requires-clause-numbered
leave-requires-clause-numbered g c = numbered c.requires.method.on

pub leave-requires-clause-lies : goal.leave-requires-clause-lies
leave-requires-clause-lies g c = let h = c.requires in lies h (found_object h.method 0 c.index.ensures c.in-Ok.ensures.value)

pub returns-then-not-leave-clause-steps : goal.returns-then-not-leave-clause-steps
returns-then-not-leave-clause-steps g c =
    let h = c.requires in
    throws_no_owner h (found_object h.method 0 c.index.ensures c.in-Ok.ensures.value) c.leave.ensures.rest c.leave.ensures.runs c.leave.ensures.left
    c.if-not-leave.true (names_built_in c.args.at.linked.now.program c.number.result _ c.number.ensures.named) c.throws.ensures.does

pub go_on_without-requires : goal.go_on_without-requires
go_on_without-requires g c =
    let h = c.requires in
    left_stands h (found_object h.method 0 c.index.ensures c.in-Ok.ensures.value) c.leave.ensures.rest c.leave.ensures.runs c.leave.ensures.left
    c.if-not-leave.false

pub returns-clause-steps : goal.returns-clause-steps
returns-clause-steps g c =
    let h = c.requires in
    leaves_and_goes h (found_object h.method 0 c.index.ensures c.in-Ok.ensures.value) c.leave.ensures.rest c.leave.ensures.runs c.leave.ensures.left
    c.if-not-leave.false c.go_on_without.ensures.does
