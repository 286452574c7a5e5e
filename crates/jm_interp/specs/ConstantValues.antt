-- The constants with which static fields begin (JVMS 4.7.2, 5.1, 5.5).
use Rattle.std.specs.Prelude.{◌≡◌, ℕ, ◌<◌, List, Option, Some, drop, length, slice_get}
use Rattle.jm_program.specs.declared.class.ClassParts.{ClassParts}
use Rattle.jm_program.specs.declared.class.Field.{Field}
use Rattle.jm_values.specs.declared.value.Value.{Value}
use Rattle.jm_values.specs.declared.value.Value.TheVariants.{Int, Long, Ref}
use Rattle.jm_world.specs.Initialization.{at_stage, constants_of, with_constant}
use Rattle.jm_world.specs.Classes.{class_named}
use Rattle.jm_world.specs.Next.{Next, goes}
use Rattle.jm_world.specs.World.{World, Thread, with_state}
use Rattle.jm_world.specs.declared.class_state.ClassState.TheVariants.{InProgress}
use Rattle.jm_world.specs.declared.stage.Stage.TheVariants.{Superclass}
use Rattle.jm_linked.specs.Links.{class_numbered}
use Rattle.jm_linked.specs.Tables.{IsConstantOf, static_constant}
use Rattle.jm_linked.specs.declared.method.LinkedConstant.{LinkedConstant}
use Rattle.jm_linked.specs.declared.method.LinkedConstant.TheVariants as linked

-- there is a String for the constant, if it is a string
abbrev pub HasString : List ℕ → LinkedConstant → Type 0
HasString strings (linked.Literal n) = n < length strings
HasString strings _ = Unit {0}

-- the value of a constant: a string's is a reference to the String of its literal
abbrev pub IsConstantValue : List ℕ → LinkedConstant → Value → Type 0
IsConstantValue strings (linked.Int n) v = v ≡ Int n
IsConstantValue strings (linked.Long n) v = v ≡ Long n
IsConstantValue strings (linked.Literal n) v = (place : ℕ) × (slice_get strings n ≡ Some place) × (v ≡ Ref place)

-- the class of these numbers among the program's and among all
pub record HasNumbers (program : List ClassParts) (class number : ℕ) (c : ClassParts) : Type 0 where
  pub own : slice_get program class ≡ Some c
  pub among_all : class_numbered program number ≡ Some c

-- the field of a number of the class of these numbers, which begins with the constant, if any
pub record BeginsWith (program : List ClassParts) (class number field : ℕ) (constant : Option LinkedConstant) (c : ClassParts) (f : Field) : Type 0 where
  pub class_is : HasNumbers program class number c
  pub field_is : slice_get c.fields field ≡ Some f
  pub constant_is : IsConstantOf program constant (static_constant f)

-- a field of a class has its constant then
abbrev pub gives_constant : ClassParts → Field → World → ℕ → Thread → Next
gives_constant c f w number t = goes (record w { statics = with_constant w.literals c f f.constant w.statics })

-- all fields of a class have theirs
abbrev pub gives_constants : List ℕ → World → ℕ → Thread → Next
gives_constants class w number t = goes (record w { statics = constants_of w (class_named w.program class) })

-- a class is in progress by the thread then, and its superclass is next (JVMS 5.5)
abbrev pub puts_in_progress : List ℕ → World → ℕ → Thread → Next
puts_in_progress class w number t = goes (at_stage (with_state w class (InProgress number)) number t class Superclass (drop 1 t.frames))
