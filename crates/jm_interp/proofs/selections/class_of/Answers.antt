use Rattle.jm_interp.proofs.SelectedCalls.{of_instance, of_array}
use Rattle.jm_interp.proofs.selections.class_of.Goals as goal

pub returns-in-Instance : goal.returns-in-Instance
returns-in-Instance c program = of_instance program c.in-Instance.is

pub returns-in-Array : goal.returns-in-Array
returns-in-Array c program = of_array program c.in-Array.is c.number.ensures.number
