-- What a step leaves behind: the objects that it makes, and the exception that is pending.
use Rattle.std.specs.Prelude.{◌≡◌, ℕ, zero, suc, List, [], ◌∷◌, Option, Some, None, Bool, true, false, not, ◌&&◌, length, slice_get}
use Rattle.std.specs.List.{AllByRecursion}
use Rattle.jm_program.specs.Names.{same_text}
use Rattle.jm_program.specs.declared.class.ClassParts.{ClassParts}
use Rattle.jm_program.specs.declared.descriptor.FieldType.{FieldType}
use Rattle.jm_program.specs.declared.instruction.plain.Plain.{Plain}
use Rattle.jm_program.specs.declared.instruction.symbolic.Instr.TheVariants as instr
use Rattle.jm_builtins.specs.List.{the_builtins}
use Rattle.jm_values.specs.Activation.{Activation}
use Rattle.jm_values.specs.Outcome as outcome
use Rattle.jm_values.specs.PlainRows.{row_plain}
use Rattle.jm_world.specs.Types.{array_of}
use Rattle.jm_world.specs.Classes.{MethodName, built_in_named, method_named, string_class, throwable_class}
use Rattle.jm_world.specs.Objects.{Object, new_instance}
use Rattle.jm_world.specs.World.{World}
use Rattle.jm_world.specs.Next.{exception}
use Rattle.jm_world.specs.Throwing.{is_kind_of}
use Rattle.jm_world.specs.Stepping.{instruction_in}

-- a built-in class without instance fields, as each is but String
abbrev pub is_bare : List ℕ → Bool
is_bare name = elim (built_in_named the_builtins name) [ None ↦ false | Some c ↦ not (same_text name string_class) ]

-- a built-in class that is Throwable or so many steps below it at most
abbrev pub is_thrown_in : ℕ → List ℕ → Bool
is_thrown_in zero name = false
is_thrown_in (suc n) name = elim (same_text name throwable_class) [
  | true ↦ true
  | false ↦ elim (built_in_named the_builtins name) [ None ↦ false | Some c ↦ elim c.superclass [ None ↦ false | Some s ↦ is_thrown_in n s ] ]
]

-- as each class is whose exception a row makes
abbrev pub is_thrown : List ℕ → Bool
is_thrown name = is_bare name && is_thrown_in 6 name

-- a class whose exception a step makes, or a plain instruction
pub data Thrown (program : List ClassParts) (class : List ℕ) : Type 0 where
  by_row : is_thrown class ≡ true → Thrown program class
  by_plain : (m : MethodName) (a : Activation) (op : Plain) → instruction_in (method_named program m) a.at ≡ Some (instr.Plain op) → row_plain op a ≡ outcome.throws class → Thrown program class

abbrev pub IsArray : Object → Type 0
IsArray o = (t : FieldType) × (o.type ≡ array_of t)

-- the objects that a step makes, and what is pending behind it where this was pending before
pub data Leaves (w : World) (old : Option ℕ) : List Object → Option ℕ → Type 0 where
  as_before : Leaves w old [] old
  cleared : Leaves w old [] None
  threw : {k : ℕ} (o : Object) → slice_get w.heap k ≡ Some o → is_kind_of w o.type throwable_class ≡ true → Leaves w old [] (Some k)
  arrays : (os : List Object) → AllByRecursion IsArray os → Leaves w old os old
  instance : (class : List ℕ) (m : MethodName) (at : ℕ) → instruction_in (method_named w.program m) at ≡ Some (instr.New class) → Leaves w old (new_instance w.program class ∷ []) old
  raised : (class : List ℕ) → Thrown w.program class → Leaves w old (exception class ∷ []) (Some (length w.heap))
  died : (class : List ℕ) → Thrown w.program class → Leaves w old (exception class ∷ []) None
