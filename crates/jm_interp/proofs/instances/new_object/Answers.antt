-- The class is initialized first.
use Rattle.std.proofs.Common.{◌∙◌}
use Rattle.jm_interp.proofs.NewRow.{begins_instance}
use Rattle.jm_interp.proofs.ReadyClasses.{is_own}
use Rattle.jm_interp.proofs.instances.new_object.Goals as goal

pub is_ready-requires-clause-named : goal.is_ready-requires-clause-named
is_ready-requires-clause-named g c = (c.requires.is.0, c.requires.is.2)

pub begin_initialization-requires-clause-own : goal.begin_initialization-requires-clause-own
begin_initialization-requires-clause-own g c = is_own c.requires.method c.requires.is.2 c.is_ready.ensures c.if-not-is_ready.true

pub returns-then-not-is_ready-clause-steps : goal.returns-then-not-is_ready-clause-steps
returns-then-not-is_ready-clause-steps g c = begins_instance c.requires c.is_ready.ensures c.if-not-is_ready.true c.begin_initialization.ensures.does

pub new_instance-requires-clause-usable : goal.new_instance-requires-clause-usable
new_instance-requires-clause-usable g c name named w m = c.is_ready.ensures.is w name m named ∙ c.if-not-is_ready.false
