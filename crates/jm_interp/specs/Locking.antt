-- Monitors of objects beside the model's (JVMS 2.11.10).
use Rattle.std.specs.Prelude.{◌≡◌, ℕ, Bool, true, false, Option, Some, None}
use Rattle.jm_values.specs.Content.{Content, serial_at}
use Rattle.jm_world.specs.Matches.{Parts, Matches}
use Rattle.jm_world.specs.World.{World}
use Rattle.jm_heap.specs.declared.class_id.ClassId.{ClassId}
use Rattle.jm_linked.specs.Links.{LinkedView}
use Rattle.jm_state.specs.declared.state.State.{State}
use Rattle.jm_interp.specs.At.{Beside}

-- a state beside some world
pub record BesideAny {H : Type 0} (content : H → Content ClassId) (l : LinkedView) (s : State H) : Type 0 where
  pub world : World
  pub beside : Beside content l s world

-- an object lies at the place
abbrev pub Lies : {H : Type 0} → (H → Content ClassId) → State H → ℕ → Type 0
Lies content s place = (k : ℕ) × (serial_at (content s.heap) place ≡ Some k)

-- one lies there, if it is one
abbrev pub LiesIf : {H : Type 0} → (H → Content ClassId) → State H → Option ℕ → Type 0
LiesIf content s None = Unit {0}
LiesIf content s (Some place) = Lies content s place

-- the monitor was left as the model leaves it, or the thread does not own it and nothing has changed
abbrev pub LeftAs : Bool → Option World → Parts ClassId → World → Type 0
LeftAs true (Some left) new w = Matches new left
LeftAs false None new w = Matches new w
LeftAs _ _ new w = ⊥

-- a state is another with other monitors that are held
abbrev pub OnlyMonitors : {H : Type 0} → State H → State H → Type 0
OnlyMonitors old new = new ≡ record old { monitors = new.monitors }
