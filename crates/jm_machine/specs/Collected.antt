-- What a collection leaves.
use Rattle.std.specs.Prelude.{◌≡◌, ◌↔◌, ℕ, List, Some, None}
use Rattle.jm_values.specs.Shape.{Among}
use Rattle.jm_values.specs.Content.{Content, object_at}
use Rattle.jm_values.specs.Objects.{ObjectOf}
use Rattle.jm_world.specs.World.{World, reach}
use Rattle.jm_world.specs.declared.event.Event.{Event}
use Rattle.jm_world.specs.declared.event.Event.TheVariants.{Step, Minor, Full}
use Rattle.jm_heap.specs.declared.class_id.ClassId.{ClassId}
use Rattle.jm_heap.specs.declared.heap.Kind.{Kind}
use Rattle.jm_heap.specs.declared.heap.Kind.TheVariants as kind
use Rattle.jm_state.specs.Places.{places_of}
use Rattle.jm_state.specs.View.{StateView}
use Rattle.jm_machine.specs.View.{MachineView}

-- exactly the objects that the world reaches are resident
abbrev pub HoldsReachable : Content ClassId → World → Type 0
HoldsReachable c w = (k : ℕ) → ((o : ObjectOf ClassId) × (object_at c k ≡ Some o)) ↔ Among k (reach w)

-- so it is after a full collection of a world that has not stopped
abbrev pub LeavesAfter : Event → Content ClassId → World → Type 0
LeavesAfter (Step number) c w = Unit {0}
LeavesAfter Minor c w = Unit {0}
LeavesAfter Full c w = w.stop ≡ None → HoldsReachable c w

-- what a heap says that a collection of a kind makes of it, and of the roots that it is given
abbrev pub Word : Type 0 → Type 1
Word H = Kind → H → H → List ℕ → List ℕ → Type 0

-- a collection on request of a machine that has not stopped makes of its heap what the heap says; the roots are
-- the places that the machine holds
abbrev pub CollectsIn : {H : Type 0} → Word H → Event → H → StateView → H → StateView → Type 0
CollectsIn leaves (Step number) g old h new = Unit {0}
CollectsIn leaves Minor g old h new = old.stop ≡ None → leaves kind.Minor g h (places_of old) (places_of new)
CollectsIn leaves Full g old h new = old.stop ≡ None → leaves kind.Full g h (places_of old) (places_of new)

abbrev pub Collects : {H : Type 0} → Word H → Event → MachineView H → MachineView H → Type 0
Collects leaves event old new = CollectsIn leaves event old.heap old.state new.heap new.state
