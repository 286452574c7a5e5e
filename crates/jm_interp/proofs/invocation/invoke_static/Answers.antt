use Rattle.jm_interp.proofs.ReadyClasses.{is_own}
use Rattle.jm_interp.proofs.StaticRow.{class_named, waits, makes}
use Rattle.jm_interp.proofs.invocation.invoke_static.Goals as goal

pub is_ready-requires-clause-named : goal.is_ready-requires-clause-named
is_ready-requires-clause-named g c = (_, class_named c.requires)

pub begin_initialization-requires-clause-own : goal.begin_initialization-requires-clause-own
begin_initialization-requires-clause-own g c = is_own c.requires.method (class_named c.requires) c.is_ready.ensures c.if-not-is_ready.true

pub returns-then-not-is_ready-clause-steps : goal.returns-then-not-is_ready-clause-steps
returns-then-not-is_ready-clause-steps g c = waits c.requires c.is_ready.ensures c.if-not-is_ready.true c.begin_initialization.ensures.does

pub returns-clause-steps : goal.returns-clause-steps
returns-clause-steps g c = makes c.requires c.is_ready.ensures c.if-not-is_ready.false c.call_static.ensures.does
