-- One event, or the break before it.
use Rattle.jm_debug.proofs.debugger.Debugger.take_turn.Goals as goal

pub returns-clause-moves : goal.returns-clause-moves
returns-clause-moves g c = λ s at is. c.make_one.ensures.moves s c.args.most at c.requires.left is
