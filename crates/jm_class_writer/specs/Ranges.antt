-- Each number of a class is one of its type: a code unit, a constant, an operand. A call knows this of the class that it is given, and the parts alone do not.
use Rattle.std.specs.Prelude.{ℕ, ◌<◌, ◌^◌, List, Option, Some, None, FitsSigned}
use Rattle.std.specs.List.{All}
use Rattle.std.specs.Int.{w32, w64}
use Rattle.jm_encode.specs.Ranges.{PlainInRange}
use Rattle.jm_program.specs.declared.constant.Constant.{Constant}
use Rattle.jm_program.specs.declared.constant.Constant.TheVariants as constant
use Rattle.jm_program.specs.declared.descriptor.ElementType.{ElementType}
use Rattle.jm_program.specs.declared.descriptor.ElementType.TheVariants.{Base, Class}
use Rattle.jm_program.specs.declared.descriptor.FieldType.{FieldType}
use Rattle.jm_program.specs.declared.descriptor.MethodDescriptor.{MethodDescriptor}
use Rattle.jm_program.specs.declared.reference.ClassRef.{ClassRef}
use Rattle.jm_program.specs.declared.reference.ClassRef.TheVariants as class_ref
use Rattle.jm_program.specs.declared.reference.FieldRef.{FieldRef}
use Rattle.jm_program.specs.declared.reference.MethodRef.{MethodRef}
use Rattle.jm_program.specs.declared.instruction.symbolic.Instr.{Instr}
use Rattle.jm_program.specs.declared.instruction.symbolic.Instr.TheVariants as instr
use Rattle.jm_program.specs.declared.code.Code.{Code}
use Rattle.jm_program.specs.declared.code.Handler.{Handler}
use Rattle.jm_program.specs.declared.class.Field.{Field}
use Rattle.jm_program.specs.declared.class.Method.{Method}
use Rattle.jm_program.specs.declared.class.ClassParts.{ClassParts}

-- of P where there is a value
abbrev pub OfSome : {A : Type 0} → (A → Type 0) → Option A → Type 0
OfSome P None = Unit {0}
OfSome P (Some x) = P x

-- code units
abbrev pub UnitsInRange : List ℕ → Type 0
UnitsInRange units = All (λ u. u < 2 ^ 16) units

abbrev pub ConstantInRange : Constant → Type 0
ConstantInRange (constant.Int n) = FitsSigned w32 n
ConstantInRange (constant.Long n) = FitsSigned w64 n
ConstantInRange (constant.String units) = UnitsInRange units

abbrev pub ElementInRange : ElementType → Type 0
ElementInRange (Base b) = Unit {0}
ElementInRange (Class name) = UnitsInRange name

abbrev pub TypeInRange : FieldType → Type 0
TypeInRange t = ElementInRange t.element

abbrev pub MethodTypeInRange : MethodDescriptor → Type 0
MethodTypeInRange d = All TypeInRange d.parameters × OfSome TypeInRange d.return_type

abbrev pub ClassRefInRange : ClassRef → Type 0
ClassRefInRange (class_ref.Class name) = UnitsInRange name
ClassRefInRange (class_ref.Array t) = TypeInRange t

abbrev pub FieldRefInRange : FieldRef → Type 0
FieldRefInRange f = ClassRefInRange f.class × UnitsInRange f.name × TypeInRange f.descriptor

abbrev pub MethodRefInRange : MethodRef → Type 0
MethodRefInRange m = ClassRefInRange m.class × UnitsInRange m.name × MethodTypeInRange m.descriptor

abbrev pub InstrInRange : Instr → Type 0
InstrInRange (instr.Plain p) = PlainInRange p
InstrInRange (instr.Constant c) = ConstantInRange c
InstrInRange (instr.Field op f) = FieldRefInRange f
InstrInRange (instr.Invoke op m) = MethodRefInRange m
InstrInRange (instr.New name) = UnitsInRange name
InstrInRange (instr.Type op c) = ClassRefInRange c
InstrInRange other = Unit {0}

abbrev pub HandlerInRange : Handler → Type 0
HandlerInRange h = OfSome UnitsInRange h.catch_type

abbrev pub CodeInRange : Code → Type 0
CodeInRange c = All InstrInRange c.instructions × All HandlerInRange c.handlers

abbrev pub FieldInRange : Field → Type 0
FieldInRange f = UnitsInRange f.name × TypeInRange f.descriptor × OfSome ConstantInRange f.constant

abbrev pub MethodInRange : Method → Type 0
MethodInRange m = UnitsInRange m.name × MethodTypeInRange m.descriptor × OfSome CodeInRange m.code

pub record InRange (c : ClassParts) : Type 0 where
  pub name : UnitsInRange c.name
  pub superclass : OfSome UnitsInRange c.superclass
  pub interfaces : All UnitsInRange c.interfaces
  pub fields : All FieldInRange c.fields
  pub methods : All MethodInRange c.methods
  pub source_file : OfSome UnitsInRange c.source_file
