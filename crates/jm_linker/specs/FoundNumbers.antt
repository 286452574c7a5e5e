-- What a reference means, by numbers.
use Rattle.std.specs.Prelude.{◌≡◌, ℕ, List, Option, Some, None, slice_get}
use Rattle.jm_program.specs.declared.class.ClassParts.{ClassParts}
use Rattle.jm_program.specs.declared.reference.ClassRef.TheVariants as named
use Rattle.jm_program.specs.declared.reference.MethodRef.{MethodRef}
use Rattle.jm_world.specs.Classes.{FoundField, FoundMethod}
use Rattle.jm_world.specs.Loads.{Refusal, class_refusal}
use Rattle.jm_world.specs.Resolution.{resolve_method}
use Rattle.jm_linked.specs.Links.{IsFieldOf, IsMethodOf, NamesClass}
use Rattle.jm_linked.specs.Methods.{selector_of}
use Rattle.jm_linked.specs.declared.instruction.InvokedMethod.{InvokedMethod}
use Rattle.jm_linked.specs.declared.instruction.MemberNumber.{MemberNumber}
use Rattle.jm_linker.specs.declared.references.FoundMember.{FoundMember}

-- the class and the number of the field, or the method, that was found
pub record FindsField (o : Option FoundField) (member : FoundMember) : Type 0 where
  pub found : FoundField
  pub is : o ≡ Some found
  pub class : found.class ≡ member.class.now
  pub at : slice_get found.class.fields member.number ≡ Some found.field

pub record FindsMethod (o : Option FoundMethod) (member : FoundMember) : Type 0 where
  pub found : FoundMethod
  pub is : o ≡ Some found
  pub class : found.class ≡ member.class.now
  pub at : slice_get found.class.methods member.number ≡ Some found.method

-- the number of what was found
pub record NumbersField (program : List ClassParts) (o : Option FoundField) (n : MemberNumber) : Type 0 where
  pub found : FoundField
  pub is : o ≡ Some found
  pub numbered : IsFieldOf program n found

pub record NumbersMethod (program : List ClassParts) (o : Option FoundMethod) (n : MemberNumber) : Type 0 where
  pub found : FoundMethod
  pub is : o ≡ Some found
  pub numbered : IsMethodOf program n found

-- the class that an invoke names, and the method that it means there
pub record Invokes (program : List ClassParts) (m : MethodRef) (n : InvokedMethod) : Type 0 where
  pub name : List ℕ
  pub class : m.class ≡ named.Class name
  pub named : NamesClass program n.named name
  pub method : NumbersMethod program (resolve_method program name m.name m.descriptor) n.found
  pub selected : selector_of program m.name m.descriptor ≡ Some n.selector

-- of a row of an exception table, by its catch type
abbrev pub catch_type_refusal : List ClassParts → Option (List ℕ) → Option Refusal
catch_type_refusal program o = elim o [ None ↦ None | Some name ↦ class_refusal program name ]
