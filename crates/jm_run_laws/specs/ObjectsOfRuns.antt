-- Every object of a run is an array, or an instance of a class of the program or of a built-in one,
-- with a value for each instance field of its class and of those above it (JVMS 2.4, 2.7).
use Rattle.std.specs.Prelude.{◌≡◌, ◌<◌, ℕ, List, Some, length}
use Rattle.std.specs.List.{AllByRecursion}
use Rattle.jm_program.specs.Fits.{Fits}
use Rattle.jm_program.specs.declared.class.ClassParts.{ClassParts}
use Rattle.jm_values.specs.declared.value.Value.{Value}
use Rattle.jm_world.specs.Types.{ObjectType, instance_of, array_of}
use Rattle.jm_world.specs.Classes.{class_named}
use Rattle.jm_world.specs.Objects.{Object, FieldName, instance_fields, place_of_field}
use Rattle.jm_world.specs.World.{World, object_at}
use Rattle.jm_world.specs.Loading.{loaded_world}
use Rattle.jm_world.specs.Loads.{Loads}
use Rattle.jm_world.specs.NamesOfRuns.{IsThere}
use Rattle.jm_world.specs.Run.{after, run_from}
use Rattle.jm_world.specs.declared.event.Event.{Event}

-- the class is there, and so is a value for each of its fields; an array has no fields
abbrev pub HasValues : List ClassParts → ObjectType → List Value → Type 0
HasValues program (instance_of class) values = IsThere (class_named program class) × (length values ≡ length (instance_fields program class))
HasValues program (array_of component) values = Unit {0}

abbrev pub HasFields : List ClassParts → Object → Type 0
HasFields program o = HasValues program o.type o.values

abbrev pub ObjectsHaveFields : World → Type 0
ObjectsHaveFields w = AllByRecursion (HasFields w.program) w.heap

-- an event keeps it so in a world of a program that loads, whose classes keep the rules of a class
abbrev pub EventsKeepFields : Type 0
EventsKeepFields = (w : World) (e : Event) → AllByRecursion Fits w.program → Loads w.program → ObjectsHaveFields w → ObjectsHaveFields (after w e).world

-- and so it is in every world that the load of such a program and events make
abbrev pub RunsHaveFields : Type 0
RunsHaveFields = (program : List ClassParts) (limit : ℕ) (events : List Event) → AllByRecursion Fits program → Loads program → ObjectsHaveFields (run_from (loaded_world program limit) events)

-- so the place of a field in an object, which getfield and putfield ask for, is one of its values
-- (JVMS 5.4.3.2, 6.5 getfield, putfield)
abbrev pub FieldsHavePlaces : World → Type 0
FieldsHavePlaces w = (k : ℕ) (o : Object) (class : List ℕ) (f : FieldName) (i : ℕ) → object_at w k ≡ Some o → o.type ≡ instance_of class → place_of_field (instance_fields w.program class) f ≡ Some i → i < length o.values

abbrev pub RunsHavePlaces : Type 0
RunsHavePlaces = (program : List ClassParts) (limit : ℕ) (events : List Event) → AllByRecursion Fits program → Loads program → FieldsHavePlaces (run_from (loaded_world program limit) events)
