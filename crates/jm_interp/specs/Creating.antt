-- What an instruction that uses a class asks of it (JVMS 5.5).
use Rattle.std.specs.Prelude.{◌≡◌, ℕ, ◌+◌, List, true}
use Rattle.jm_values.specs.Content.{Content}
use Rattle.jm_world.specs.Here.{is_ready}
use Rattle.jm_world.specs.Matches.{Matches}
use Rattle.jm_world.specs.World.{World, state_of}
use Rattle.jm_heap.specs.declared.class_id.ClassId.{ClassId}
use Rattle.jm_linked.specs.Links.{NamesClass}
use Rattle.jm_state.specs.declared.state.State.{State}
use Rattle.jm_interp.specs.declared.at.At.{At}
use Rattle.jm_interp.specs.At.{parts_at}

-- beside every world of the state, the thread can use the class of the number: it is initialized, or
-- the thread initializes it
abbrev pub IsUsable : {H : Type 0} → (H → Content ClassId) → At → State H → ℕ → Type 0
IsUsable content at s class = (name : List ℕ) → NamesClass at.linked.now.program class name
    → (w : World) → Matches (parts_at content at s) w → is_ready (state_of w name) (at.index + 1) ≡ true
