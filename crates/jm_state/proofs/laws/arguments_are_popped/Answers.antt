-- Each argument by itself.
use Rattle.jm_state.proofs.Popping.{are_popped}
use Rattle.jm_state.proofs.laws.arguments_are_popped.Goals as goal

pub returns : goal.returns
returns c = are_popped
