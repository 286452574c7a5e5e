-- Every method frame of a run has as many local variables as its method's max_locals (JVMS 2.6.1,
-- 4.7.3).
use Rattle.std.specs.Prelude.{◌≡◌, ℕ, List, [], ◌∷◌, Option, Some, None, length}
use Rattle.std.specs.List.{AllByRecursion}
use Rattle.jm_program.specs.Fits.{Fits}
use Rattle.jm_program.specs.declared.class.ClassParts.{ClassParts}
use Rattle.jm_program.specs.declared.class.Method.{Method}
use Rattle.jm_program.specs.declared.code.Code.{Code}
use Rattle.jm_values.specs.Activation.{Activation}
use Rattle.jm_world.specs.Classes.{method_named}
use Rattle.jm_world.specs.Frames.{Frame, method_frame, initialization_frame, entry_frame}
use Rattle.jm_world.specs.World.{World}
use Rattle.jm_world.specs.Loading.{loaded_world}
use Rattle.jm_world.specs.Loads.{Loads}
use Rattle.jm_world.specs.Run.{after, run_from}
use Rattle.jm_world.specs.declared.event.Event.{Event}

-- the code of a method
abbrev pub code_of : Option Method → Option Code
code_of None = None
code_of (Some m) = m.code

-- a frame of a method of that code has its local variables
abbrev pub HasLocals : Option Code → Activation → Type 0
HasLocals None a = ⊥
HasLocals (Some code) a = length a.locals ≡ code.max_locals

abbrev pub FramesHaveLocals : List ClassParts → List Frame → Type 0
FramesHaveLocals program [] = Unit {0}
FramesHaveLocals program (method_frame m a monitor ∷ below) = HasLocals (code_of (method_named program m)) a × FramesHaveLocals program below
FramesHaveLocals program (initialization_frame class stage ∷ below) = FramesHaveLocals program below
FramesHaveLocals program (entry_frame ∷ below) = FramesHaveLocals program below

abbrev pub ThreadsHaveLocals : World → Type 0
ThreadsHaveLocals w = AllByRecursion (λ t. FramesHaveLocals w.program t.frames) w.threads

-- an event keeps it so in a world of a program that loads, whose classes keep the rules of a class
abbrev pub EventsKeepLocals : Type 0
EventsKeepLocals = (w : World) (e : Event) → AllByRecursion Fits w.program → Loads w.program → ThreadsHaveLocals w → ThreadsHaveLocals (after w e).world

-- and so it is in every world that the load of such a program and events make
abbrev pub RunsHaveLocals : Type 0
RunsHaveLocals = (program : List ClassParts) (limit : ℕ) (events : List Event) → AllByRecursion Fits program → Loads program → ThreadsHaveLocals (run_from (loaded_world program limit) events)
