-- Events of a machine one after the other, and what each of them does to the heap.
use Rattle.std.specs.Prelude.{◌≡◌, ℕ, List, [], ◌∷◌}
use Rattle.jm_world.specs.Run.{after}
use Rattle.jm_world.specs.World.{World}
use Rattle.jm_world.specs.declared.event.Event.{Event}
use Rattle.jm_heap.specs.Allocation.{NewLie}
use Rattle.jm_machine.specs.Collected.{Word, Collects}
use Rattle.jm_machine.specs.View.{MachineView, MatchesWorld}

-- an event leads to the model's next world, a collection on request is made, and what is new lies so
pub record MakesOne {H : Type 0} (leaves : Word H) (lies : ℕ → Type 0) (event : Event) (old new : MachineView H) : Type 0 where
  pub next : (w : World) → MatchesWorld old w → MatchesWorld new (after w event).world
  pub collects : Collects leaves event old new
  pub nursery : NewLie lies old.content new.content

-- each of some events does
abbrev pub MakesEach : {H : Type 0} → Word H → (ℕ → Type 0) → List Event → MachineView H → MachineView H → Type 0
MakesEach leaves lies [] old new = new ≡ old
MakesEach leaves lies (event ∷ events) old new = (mid : MachineView _) × MakesOne leaves lies event old mid × MakesEach leaves lies events mid new
