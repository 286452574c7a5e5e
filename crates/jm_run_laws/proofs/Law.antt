-- A law of frames and objects: what it says of each, and what keeps it so.
use Rattle.std.specs.Prelude.{◌≡◌, ℕ, ◌≤◌, List, [], ◌∷◌, Some, None, true, length, slice_get, slice_set, ◌++◌, Option}
use Rattle.std.specs.List.{AllByRecursion}
use Rattle.jm_program.specs.declared.class.ClassParts.{ClassParts}
use Rattle.jm_program.specs.declared.code.Code.{Code}
use Rattle.jm_program.specs.declared.code.Handler.{Handler}
use Rattle.jm_program.specs.declared.descriptor.FieldType.{FieldType}
use Rattle.jm_program.specs.declared.instruction.plain.Plain.{Plain}
use Rattle.jm_program.specs.declared.instruction.symbolic.Instr.{Instr}
use Rattle.jm_program.specs.declared.instruction.symbolic.Instr.TheVariants as instr
use Rattle.jm_values.specs.Activation.{Activation}
use Rattle.jm_values.specs.Outcome as outcome
use Rattle.jm_values.specs.PlainRows.{row_plain}
use Rattle.jm_values.specs.declared.value.Value.{Value}
use Rattle.jm_world.specs.Types.{array_of}
use Rattle.jm_world.specs.Classes.{MethodName, class_named, method_named, throwable_class}
use Rattle.jm_world.specs.Objects.{Object, new_instance}
use Rattle.jm_world.specs.Frames.{Frame, method_frame, initialization_frame, entry_frame}
use Rattle.jm_world.specs.World.{World, Thread}
use Rattle.jm_world.specs.Next.{exception}
use Rattle.jm_world.specs.Here.{moved_on}
use Rattle.jm_world.specs.Invocation.{locals_of, activation_of}
use Rattle.jm_world.specs.Throwing.{is_kind_of, handlers_of}
use Rattle.jm_world.specs.Stepping.{instruction_in}
use Rattle.jm_world.specs.Loads.{new_refusal}
use Rattle.jm_world.proofs.Leaving.{is_bare, is_thrown}
use Rattle.jm_run_laws.specs.LocalsOfRuns.{code_of}

-- of the method frame on top of a thread, of a method frame that stands at an instruction, as each
-- below the top does, of an object, and of the number of a pending exception among the objects
pub record Law : Type 1 where
  pub Top : MethodName → Activation → Type 0
  pub Below : MethodName → Activation → Type 0
  pub Holds : Object → Type 0
  pub Pends : List Object → ℕ → Type 0

-- what keeps it in a program
pub record IsKept (program : List ClassParts) (L : Law) : Type 0 where
  -- a frame that was below is the top
  pub rests : (m : MethodName) (a : Activation) → L.Below m a → L.Top m a
  -- the top stands at an instruction
  pub stands : (m : MethodName) (a : Activation) (i : Instr) → L.Top m a → instruction_in (method_named program m) a.at ≡ Some i → L.Below m a
  -- operands are popped
  pub pops : (m : MethodName) (a : Activation) (s : List Value) → L.Below m a → L.Below m (record { at = a.at; max_stack = a.max_stack; locals = a.locals; stack = s })
  -- the next instruction
  pub moves : (m : MethodName) (a : Activation) (s : List Value) → L.Below m a → L.Top m (moved_on a s)
  -- a plain instruction
  pub acts : (m : MethodName) (a : Activation) (op : Plain) (b : Activation) → L.Below m a → instruction_in (method_named program m) a.at ≡ Some (instr.Plain op) → row_plain op a ≡ outcome.goes b → L.Top m b
  -- a handler
  pub handles : (m : MethodName) (a : Activation) (h : Handler) (s : List Value) (j : ℕ) → L.Top m a → slice_get (handlers_of (method_named program m)) j ≡ Some h
      → L.Top m (record { at = h.target; max_stack = a.max_stack; locals = a.locals; stack = s })
  -- a call
  pub begins : (m : MethodName) (code : Code) (vs : List Value) → code_of (method_named program m) ≡ Some code → length (locals_of vs) ≤ code.max_locals → L.Below m (activation_of code vs)
  -- a store into an object, a new array, an exception, a new object
  pub stored : (o : Object) (i : ℕ) (v : Value) → L.Holds o → L.Holds (record { type = o.type; values = slice_set o.values i v })
  pub arrays : (t : FieldType) (vs : List Value) → L.Holds (record { type = array_of t; values = vs })
  pub bare : (class : List ℕ) → is_bare class ≡ true → L.Holds (exception class)
  pub instances : (class : List ℕ) → new_refusal class (class_named program class) ≡ None → L.Holds (new_instance program class)
  -- more objects, a store into one, a new exception, athrow
  pub more : (heap os : List Object) (k : ℕ) → L.Pends heap k → L.Pends (heap ++ os) k
  pub changed : (heap : List Object) (j : ℕ) (o : Object) (i : ℕ) (v : Value) (k : ℕ) → slice_get heap j ≡ Some o → L.Pends heap k → L.Pends (slice_set heap j (record { type = o.type; values = slice_set o.values i v })) k
  pub news : (heap : List Object) (class : List ℕ) → is_thrown class ≡ true → L.Pends (heap ++ exception class ∷ []) (length heap)
  pub throws : (w : World) (k : ℕ) (o : Object) → w.program ≡ program → slice_get w.heap k ≡ Some o → is_kind_of w o.type throwable_class ≡ true → L.Pends w.heap k

-- the frames of a thread, and all frames and objects of a world
abbrev pub EachBelow : Law → List Frame → Type 0
EachBelow L [] = Unit {0}
EachBelow L (method_frame m a monitor ∷ fs) = L.Below m a × EachBelow L fs
EachBelow L (initialization_frame class stage ∷ fs) = EachBelow L fs
EachBelow L (entry_frame ∷ fs) = EachBelow L fs

abbrev pub Frames : Law → List Frame → Type 0
Frames L [] = Unit {0}
Frames L (method_frame m a monitor ∷ fs) = L.Top m a × EachBelow L fs
Frames L (initialization_frame class stage ∷ fs) = EachBelow L fs
Frames L (entry_frame ∷ fs) = EachBelow L fs

abbrev pub Pending : Law → List Object → Option ℕ → Type 0
Pending L heap None = Unit {0}
Pending L heap (Some k) = L.Pends heap k

abbrev pub Its : Law → List Object → Thread → Type 0
Its L heap t = Frames L t.frames × Pending L heap t.pending

abbrev pub Keeps : Law → World → Type 0
Keeps L w = AllByRecursion (Its L w.heap) w.threads × AllByRecursion L.Holds w.heap
