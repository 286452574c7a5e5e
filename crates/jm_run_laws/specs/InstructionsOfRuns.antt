-- Every method frame of a run stands at an instruction of its method's code (JVMS 2.6, 4.9.1), but
-- that the top frame of a thread may be at the code's end: a code may end without a jump or a
-- return, as no verifier is asked (4.10), and then the next step stops as NoInstruction.
use Rattle.std.specs.Prelude.{◌<◌, ◌≤◌, ℕ, List, [], ◌∷◌, Option, Some, None, length}
use Rattle.std.specs.List.{AllByRecursion}
use Rattle.jm_program.specs.Fits.{Fits}
use Rattle.jm_program.specs.declared.class.ClassParts.{ClassParts}
use Rattle.jm_program.specs.declared.code.Code.{Code}
use Rattle.jm_values.specs.Activation.{Activation}
use Rattle.jm_world.specs.Classes.{method_named}
use Rattle.jm_world.specs.Frames.{Frame, method_frame, initialization_frame, entry_frame}
use Rattle.jm_world.specs.World.{World}
use Rattle.jm_world.specs.Loading.{loaded_world}
use Rattle.jm_world.specs.Loads.{Loads}
use Rattle.jm_world.specs.Run.{after, run_from}
use Rattle.jm_world.specs.declared.event.Event.{Event}
use Rattle.jm_run_laws.specs.LocalsOfRuns.{code_of}

-- the instruction is one of the code
abbrev pub StandsIn : Option Code → Activation → Type 0
StandsIn None a = ⊥
StandsIn (Some code) a = a.at < length code.instructions

-- or none is left
abbrev pub StandsOrEnds : Option Code → Activation → Type 0
StandsOrEnds None a = ⊥
StandsOrEnds (Some code) a = a.at ≤ length code.instructions

-- frames below another one wait at an instruction
abbrev pub FramesWait : List ClassParts → List Frame → Type 0
FramesWait program [] = Unit {0}
FramesWait program (method_frame m a monitor ∷ below) = StandsIn (code_of (method_named program m)) a × FramesWait program below
FramesWait program (initialization_frame class stage ∷ below) = FramesWait program below
FramesWait program (entry_frame ∷ below) = FramesWait program below

abbrev pub FramesInCode : List ClassParts → List Frame → Type 0
FramesInCode program [] = Unit {0}
FramesInCode program (method_frame m a monitor ∷ below) = StandsOrEnds (code_of (method_named program m)) a × FramesWait program below
FramesInCode program (initialization_frame class stage ∷ below) = FramesWait program below
FramesInCode program (entry_frame ∷ below) = FramesWait program below

abbrev pub ThreadsInCode : World → Type 0
ThreadsInCode w = AllByRecursion (λ t. FramesInCode w.program t.frames) w.threads

-- an event keeps it so in a world of a program that loads, whose classes keep the rules of a class
abbrev pub EventsStayInCode : Type 0
EventsStayInCode = (w : World) (e : Event) → AllByRecursion Fits w.program → Loads w.program → ThreadsInCode w → ThreadsInCode (after w e).world

-- and so it is in every world that the load of such a program and events make
abbrev pub RunsStayInCode : Type 0
RunsStayInCode = (program : List ClassParts) (limit : ℕ) (events : List Event) → AllByRecursion Fits program → Loads program → ThreadsInCode (run_from (loaded_world program limit) events)
