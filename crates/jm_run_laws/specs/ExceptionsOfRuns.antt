-- The pending exception of a thread is an object whose class is Throwable or below it (JVMS 2.10,
-- 6.5 athrow).
use Rattle.std.specs.Prelude.{◌≡◌, ℕ, List, Option, Some, None, Bool, true, false}
use Rattle.std.specs.List.{AllByRecursion}
use Rattle.jm_program.specs.Fits.{Fits}
use Rattle.jm_program.specs.declared.class.ClassParts.{ClassParts}
use Rattle.jm_world.specs.Types.{ObjectType, instance_of, array_of}
use Rattle.jm_world.specs.Classes.{throwable_class}
use Rattle.jm_world.specs.Hierarchy.{is_subclass}
use Rattle.jm_world.specs.Objects.{Object}
use Rattle.jm_world.specs.World.{World, object_at}
use Rattle.jm_world.specs.Loading.{loaded_world}
use Rattle.jm_world.specs.Loads.{Loads}
use Rattle.jm_world.specs.Run.{after, run_from}
use Rattle.jm_world.specs.declared.event.Event.{Event}

-- the class is Throwable, or has it above itself; an array is none
abbrev pub is_throwable : List ClassParts → ObjectType → Bool
is_throwable program (instance_of class) = is_subclass program class throwable_class
is_throwable program (array_of component) = false

abbrev pub IsThrowable : List ClassParts → Option Object → Type 0
IsThrowable program None = ⊥
IsThrowable program (Some o) = is_throwable program o.type ≡ true

abbrev pub PendingIsThrowable : World → Option ℕ → Type 0
PendingIsThrowable w None = Unit {0}
PendingIsThrowable w (Some k) = IsThrowable w.program (object_at w k)

abbrev pub ThreadsThrow : World → Type 0
ThreadsThrow w = AllByRecursion (λ t. PendingIsThrowable w t.pending) w.threads

-- an event keeps it so in a world of a program that loads, whose classes keep the rules of a class
abbrev pub EventsThrowThrowables : Type 0
EventsThrowThrowables = (w : World) (e : Event) → AllByRecursion Fits w.program → Loads w.program → ThreadsThrow w → ThreadsThrow (after w e).world

-- and so it is in every world that the load of such a program and events make
abbrev pub RunsThrowThrowables : Type 0
RunsThrowThrowables = (program : List ClassParts) (limit : ℕ) (events : List Event) → AllByRecursion Fits program → Loads program → ThreadsThrow (run_from (loaded_world program limit) events)
