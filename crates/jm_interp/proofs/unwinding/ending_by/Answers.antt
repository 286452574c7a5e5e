use Rattle.std.proofs.Common.{◌≡◌, ◌+◌, ◌≤◌, ap, length, arith}
use Rattle.jm_builtins.specs.List.{the_builtins}
use Rattle.jm_world.specs.World.{ended_by}
use Rattle.jm_interp.proofs.Unwound.{instance_name, array_name}
use Rattle.jm_interp.proofs.unwinding.ending_by.Goals as goal

pub returns-in-Instance : goal.returns-in-Instance
returns-in-Instance c = ap ended_by (instance_name c.args.linked.now.program c.args.thrown c.in-Instance.class c.in-Instance.is)

pub returns-else-classes-built_in : goal.returns-else-classes-built_in
returns-else-classes-built_in c =
    let a : length c.built_ins-built_in.result.now ≡ length the_builtins = ap length c.built_ins-built_in.ensures in
    let b : length c.classes-classes.result.now ≡ length c.args.linked.now.program = ap length c.classes-classes.ensures.classes in
    let far : length the_builtins + length c.args.linked.now.program ≤ length c.built_ins-built_in.result.now + length c.classes-classes.result.now =
    omega arith in
    ap ended_by (array_name c.args.linked.now.program c.args.thrown c.in-Array.field-0
    (length c.built_ins-built_in.result.now + length c.classes-classes.result.now) c.in-Array.is far)
