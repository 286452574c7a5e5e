use Rattle.jm_interp.proofs.Initialized.{at_this, end_done}
use Rattle.jm_interp.proofs.initialization.initialize_top.Goals as goal

pub begin-requires : goal.begin-requires
begin-requires g c = (c.requires.0, at_this c.in-Begin.is c.requires.1)

pub superclass_first-requires : goal.superclass_first-requires
superclass_first-requires g c = (c.requires.0, at_this c.in-Superclass.is c.requires.1)

pub run_initializer-requires : goal.run_initializer-requires
run_initializer-requires g c = (c.requires.0, at_this c.in-Initializer.is c.requires.1)

pub returns-in-End-clause-steps : goal.returns-in-End-clause-steps
returns-in-End-clause-steps g c = end_done c.requires.1 c.in-End.is c.finish.ensures.does
