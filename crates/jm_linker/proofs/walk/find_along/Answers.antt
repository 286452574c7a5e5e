-- One class further along.
use Rattle.std.proofs.Common.{◌∙◌, sym, arith}
use Rattle.jm_world.specs.Classes.{height}
use Rattle.jm_linker.specs.Walks.{sought_in}
use Rattle.jm_linker.proofs.WalkLaws.{along_more, along_from}
use Rattle.jm_linker.proofs.walk.find_along.Goals as goal

pub loop-depth-init : goal.loop-depth-init
loop-depth-init c = along_from (sought_in c.args.sought.now) c.args.classes.now.program.now c.args.name.now

pub loop-depth-preserved : goal.loop-depth-preserved
loop-depth-preserved c =
    sym (along_more (sought_in c.args.sought.now) c.args.classes.now.program.now (height c.args.classes.now.program.now) c.loop-depth._depth c.loop-depth.name.now c.in_ok-members.members.now.class.now c.in_ok-name.name.now
    (omega (arith, c.height-depth-end.ensures)) (sym c.in_ok-members.ensures) (sym c.is_in.ensures ∙ c.if-is_in.false) (sym c.in_ok-name.ensures.value))
    ∙ c.loop-depth.invariant
