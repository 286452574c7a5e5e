-- The class that the text denotes, and then whether a class file can hold it.
use Rattle.jm_execute.proofs.Chains.{hindered, given_next}
use Rattle.jm_execute.proofs.program_file.held_in_text.Goals as goal

pub returns-in-Ok : goal.returns-in-Ok
returns-in-Ok c = given_next _ _ _ _ _ c.in-Ok.ensures c.writable_class.ensures

pub returns-in-Err : goal.returns-in-Err
returns-in-Err c = hindered _ _ _ c.in-Err.ensures
