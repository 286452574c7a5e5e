-- What initializations ask of classes and of frames.
use Rattle.std.specs.Prelude.{◌≡◌, ℕ, ◌<◌, List, [], ◌∷◌, length, Option, Some, None, true, is_some, Result, Ok, Err}
use Rattle.jm_program.specs.declared.class.ClassParts.{ClassParts}
use Rattle.jm_builtins.specs.List.{the_builtins}
use Rattle.jm_world.specs.Classes.{built_in_named}
use Rattle.jm_world.specs.declared.stage.Stage.{Stage}
use Rattle.jm_state.specs.Parts.{program_class_name}
use Rattle.jm_state.specs.declared.thread.StackFrame.{StackFrame}
use Rattle.jm_state.specs.declared.thread.StackFrame.TheVariants.{Method, Initialization, Entry}
use Rattle.jm_state.specs.declared.thread.Thread as held
use Rattle.jm_interp.specs.Standing.{ThreadRest, Stands}

-- the superclass of a class is the program's class of that number; of no number, there is none, or it
-- is a built-in class
abbrev pub IsOwnSuperclass : List ClassParts → Option (List ℕ) → Option ℕ → Type 0
IsOwnSuperclass program None None = Unit {0}
IsOwnSuperclass program (Some name) None = is_some (built_in_named the_builtins name) ≡ true
IsOwnSuperclass program None (Some n) = ⊥
IsOwnSuperclass program (Some name) (Some n) = (name ≡ program_class_name program n) × (n < length program)

-- the class whose initialization's frame is on top
abbrev pub class_on_top : List StackFrame → Option ℕ
class_on_top [] = None
class_on_top (Method f ∷ fs) = None
class_on_top (Initialization class stage ∷ fs) = Some class
class_on_top (Entry ∷ fs) = None

-- a frame is on top of an initialization's that is at a stage, or nothing has changed
abbrev pub Began : {E : Type 0} → Result (Unit {0}) E → held.Thread → ℕ → Stage → StackFrame → StackFrame → List StackFrame → ThreadRest → Type 0
Began (Ok done) new class stage above f below r = Stands new (above ∷ Initialization class stage ∷ below) r
Began (Err refused) new class stage above f below r = Stands new (f ∷ below) r
