use Rattle.std.proofs.Common.{sym}
use Rattle.jm_linked.proofs.BuiltInNumbers.{names_built_in}
use Rattle.jm_interp.proofs.MethodLeft.{monitor_lies, not_owned, not_handed, beside_handed, lies_handed, left_then}
use Rattle.jm_interp.proofs.OnThread.{numbered}
use Rattle.jm_interp.proofs.returns.leave_synchronized.Goals as goal

pub owns-requires-clause-numbered : goal.owns-requires-clause-numbered
owns-requires-clause-numbered g c = numbered c.requires.here.0.on

pub owns-requires-clause-lies : goal.owns-requires-clause-lies
owns-requires-clause-lies g c = monitor_lies c.requires.here.0 (sym c.requires.here.1)

pub throws-requires : goal.throws-requires
throws-requires g c = c.requires.here.0

pub returns-then-not-owns-clause-steps : goal.returns-then-not-owns-clause-steps
returns-then-not-owns-clause-steps g c =
    let named = names_built_in c.args.at.linked.now.program c.number.result _ c.number.ensures.named in
    not_owned c.requires.here.0 (sym c.requires.here.1) c.requires.hands c.owns.ensures c.if-not-owns.true named c.throws.ensures.does

pub hand_on-requires-clause-here : goal.hand_on-requires-clause-here
hand_on-requires-clause-here g c = c.requires.here.0

pub leave-left-requires-clause-numbered : goal.leave-left-requires-clause-numbered
leave-left-requires-clause-numbered g c = numbered c.requires.here.0.on

pub leave-left-requires-clause-beside : goal.leave-left-requires-clause-beside
leave-left-requires-clause-beside g c =
    beside_handed c.requires.here.0 (sym c.requires.here.1) c.requires.hands c.owns.ensures c.if-not-owns.false c.in-Ok.ensures.hands c.in-Ok.ensures.heap

pub leave-left-requires-clause-lies : goal.leave-left-requires-clause-lies
leave-left-requires-clause-lies g c =
    lies_handed c.requires.here.0 (sym c.requires.here.1) c.requires.hands c.owns.ensures c.if-not-owns.false c.in-Ok.ensures.hands c.in-Ok.ensures.heap

pub returns-in-Ok-clause-steps : goal.returns-in-Ok-clause-steps
returns-in-Ok-clause-steps g c =
    left_then c.requires.here.0 (sym c.requires.here.1) c.requires.hands c.owns.ensures c.if-not-owns.false c.in-Ok.ensures.hands c.in-Ok.ensures.heap
    c.leave-left.result c.leave-left.ensures.runs c.leave-left.ensures.left

pub returns-in-Err-clause-steps : goal.returns-in-Err-clause-steps
returns-in-Err-clause-steps g c = not_handed c.requires.here.0 (sym c.requires.here.1) c.requires.hands c.owns.ensures c.if-not-owns.false c.in-Err.ensures.hands
