-- What comes of a step, beside the model's next world.
use Rattle.std.specs.Prelude.{◌≡◌, ◌+◌, ℕ, Result, Ok, Err, List, [], ◌∷◌, ◌++◌, Some, option_map, length, slice_get}
use Rattle.jm_world.specs.Objects.{Object}
use Rattle.jm_world.specs.World.{World}
use Rattle.jm_world.specs.Next.{Next, goes, stops, blocks, make, make_all, numbers_from, with_objects}
use Rattle.jm_values.specs.Content.{serial_at, object_at}
use Rattle.jm_world.specs.Matches.{Parts, Matches, as_named}
use Rattle.jm_world.specs.declared.stop.Stop.TheVariants as stop
use Rattle.jm_heap.specs.declared.class_id.ClassId.{ClassId}
use Rattle.jm_heap.specs.declared.fault.HeapFault.{HeapFault}
use Rattle.jm_heap.specs.declared.fault.HeapFault.TheVariants as fault
use Rattle.jm_state.specs.declared.halt.StepEnd.{StepEnd}
use Rattle.jm_state.specs.declared.halt.StepEnd.TheVariants.{Done, Blocked}
use Rattle.jm_state.specs.declared.halt.Halt.{Halt}
use Rattle.jm_state.specs.declared.halt.Halt.TheVariants.{Stopped, OutOfMemory}

-- the parts are those of the next world, or of the world before where it blocks or stops, or where
-- a growth was refused
abbrev pub Ended : Result StepEnd Halt → Parts ClassId → World → Next → Type 0
Ended (Ok Done) new w (goes next) = Matches new next
Ended (Ok Blocked) new w blocks = Matches new w
Ended (Err (Stopped s)) new w (stops t) = (t ≡ s) × Matches new w
Ended (Err OutOfMemory) new w next = Matches new w
Ended _ new w next = ⊥

-- why a machine halts where its heap makes no object
abbrev pub halt_from : HeapFault → Halt
halt_from fault.OutOfMemory = OutOfMemory
halt_from fault.HeapFull = Stopped stop.HeapFull
halt_from fault.SerialsEnd = Stopped stop.SerialsEnd

-- the world with an object more
abbrev pub with_object : World → Object → World
with_object w o = record w { heap = w.heap ++ o ∷ [] }

-- the object was made, at the place, as the model makes it, and lies there, or the model stops
abbrev pub MadeOrNot : Result ℕ Halt → Parts ClassId → World → Object → Type 0
MadeOrNot (Ok place) new w o =
    ((go : World → ℕ → Next) → make w o go ≡ go (with_object w o) (length w.heap))
    × Matches new (with_object w o)
    × (serial_at new.content place ≡ Some (length w.heap))
    × (option_map (as_named new.named) (object_at new.content (length w.heap)) ≡ Some o)
MadeOrNot (Err (Stopped s)) new w o = ((go : World → ℕ → Next) → make w o go ≡ stops s) × Matches new w
MadeOrNot (Err OutOfMemory) new w o = Matches new w

-- the objects of a list were made, the first of them at the place, as the model makes them all, and lie
-- there, or the model stops
abbrev pub MadeAllOrNot : Result ℕ Halt → Parts ClassId → World → List Object → Type 0
MadeAllOrNot (Ok place) new w os =
    ((go : World → List ℕ → Next) → make_all w os go ≡ go (with_objects w os) (numbers_from (length w.heap) os))
    × Matches new (with_objects w os)
    × (serial_at new.content place ≡ Some (length w.heap))
    × ((i : ℕ) (o : Object) → slice_get os i ≡ Some o → option_map (as_named new.named) (object_at new.content (length w.heap + i)) ≡ Some o)
MadeAllOrNot (Err (Stopped s)) new w os = ((go : World → List ℕ → Next) → make_all w os go ≡ stops s) × Matches new w
MadeAllOrNot (Err OutOfMemory) new w os = Matches new w
