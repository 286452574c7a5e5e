-- What contracts see of a machine, and the worlds that it matches.
use Rattle.jm_values.specs.Content.{Content}
use Rattle.jm_world.specs.Matches.{Parts, Matches}
use Rattle.jm_world.specs.World.{World}
use Rattle.jm_heap.specs.declared.class_id.ClassId.{ClassId}
use Rattle.jm_linked.specs.Links.{LinkedView}
use Rattle.jm_state.specs.Parts.{parts, state_parts}
use Rattle.jm_state.specs.Runnable.{IsRunnable}
use Rattle.jm_state.specs.View.{StateView}
use Rattle.jm_state.specs.declared.state.State.{State}

-- a linked program with what its run has made: references are places, names are numbers. The heap is what the
-- heap's own words speak of, and its content what is seen of it
pub record MachineView (H : Type 0) : Type 0 where
  pub linked : LinkedView
  pub heap : H
  pub content : Content ClassId
  pub state : StateView

-- the parts that it stands for, each thing by its name
abbrev pub machine_parts : {H : Type 0} → MachineView H → Parts ClassId
machine_parts m = parts m.linked m.content m.state

-- places renamed to serials, each of its parts is the world's
abbrev pub MatchesWorld : {H : Type 0} → MachineView H → World → Type 0
MatchesWorld m w = Matches (machine_parts m) w

-- the same of a state while an event is made
abbrev pub IsBeside : {H : Type 0} → (H → Content ClassId) → LinkedView → State H → World → Type 0
IsBeside content linked state w = Matches (state_parts content linked state) w

-- what holds of every machine: it keeps to what every run keeps to, and matches some world
pub record IsMachine {H : Type 0} (m : MachineView H) : Type 0 where
  pub runs : IsRunnable m.linked m.state
  pub world : World
  pub matches : MatchesWorld m world
