-- What a symbolic reference to a field or a method means (JVMS 5.4.3), and which method is
-- selected (JVMS 5.4.5, 6.5).
use Rattle.std.specs.Prelude.{ℕ, zero, suc, List, [], ◌∷◌, ◌++◌, Option, Some, None, Bool, true, false, ◌&&◌, not, option_to_list}
use Rattle.jm_program.specs.Names.{same_text, is_init}
use Rattle.jm_program.specs.Flags.{is_static, is_private}
use Rattle.jm_program.specs.declared.class.ClassParts.{ClassParts}
use Rattle.jm_program.specs.declared.class.Field.{Field}
use Rattle.jm_program.specs.declared.class.Method.{Method}
use Rattle.jm_program.specs.declared.descriptor.FieldType.{FieldType}
use Rattle.jm_program.specs.declared.descriptor.MethodDescriptor.{MethodDescriptor}
use Rattle.jm_world.specs.Classes.{FoundField, FoundMethod, class_named, height, field_in, method_in, string_class}
use Rattle.jm_world.specs.Hierarchy.{chain}

-- the first that is found under one of the names
abbrev pub first_found : {A : Type 0} → (List ℕ → Option A) → List (List ℕ) → Option A
first_found find [] = None
first_found find (x ∷ xs) = elim (find x) [ Some a ↦ Some a | None ↦ first_found find xs ]

-- the fields that a program can name: the one field of String has no name for it
abbrev pub nameable : ClassParts → List Field
nameable c = elim (same_text c.name string_class) [ true ↦ [] | false ↦ c.fields ]

-- the superinterfaces and then the superclass
abbrev pub interfaces_first : ClassParts → List (List ℕ)
interfaces_first c = c.interfaces ++ option_to_list c.superclass

-- the class, its superinterfaces, its superclass, each with all above it (JVMS 5.4.3.2)
abbrev pub field_from : ℕ → List ClassParts → List ℕ → FieldType → List ℕ → Option FoundField
field_from zero program name t class = None
field_from (suc n) program name t class = elim (class_named program class) [
  | None ↦ None
  | Some c ↦ elim (field_in (nameable c) name t) [ Some f ↦ Some (record { class = c; field = f }) | None ↦ first_found (λ above. field_from n program name t above) (interfaces_first c) ]
]

unfoldable pub resolve_field : List ClassParts → List ℕ → List ℕ → FieldType → Option FoundField
resolve_field program class name t = field_from (height program) program name t class

-- a method of the first class of the list that has one
abbrev pub method_along : List ClassParts → List ℕ → MethodDescriptor → Option FoundMethod
method_along [] name t = None
method_along (c ∷ cs) name t = elim (method_in c.methods name t) [ Some m ↦ Some (record { class = c; method = m }) | None ↦ method_along cs name t ]

abbrev pub method_from : ℕ → List ClassParts → List ℕ → MethodDescriptor → List ℕ → Option FoundMethod
method_from zero program name t class = None
method_from (suc n) program name t class = elim (class_named program class) [
  | None ↦ None
  | Some c ↦ elim (method_in c.methods name t) [ Some m ↦ Some (record { class = c; method = m }) | None ↦ first_found (λ above. method_from n program name t above) (interfaces_first c) ]
]

-- <init> is the named class's own; else the class and its superclasses, and then the
-- superinterfaces (JVMS 5.4.3.3, 5.4.3.4)
abbrev pub resolved_among : List ClassParts → ℕ → List ClassParts → List ℕ → List ℕ → MethodDescriptor → Option FoundMethod
resolved_among [] depth program class name t = None
resolved_among (c ∷ cs) depth program class name t = elim (is_init name) [
  | true ↦ method_along (c ∷ []) name t
  | false ↦ elim (method_along (c ∷ cs) name t) [ Some found ↦ Some found | None ↦ method_from depth program name t class ]
]

unfoldable pub resolve_method : List ClassParts → List ℕ → List ℕ → MethodDescriptor → Option FoundMethod
resolve_method program class name t = resolved_among (chain program class) (height program) program class name t

-- the first method along the classes that is no static one, and no private one unless these count
abbrev pub counts : Bool → Method → Bool
counts private_too m = not (is_static m.flags) && elim private_too [ true ↦ true | false ↦ not (is_private m.flags) ]

abbrev pub instance_in : Bool → Option Method → Option Method
instance_in private_too None = None
instance_in private_too (Some m) = elim (counts private_too m) [ true ↦ Some m | false ↦ None ]

abbrev pub instance_along : Bool → List ClassParts → List ℕ → MethodDescriptor → Option FoundMethod
instance_along private_too [] name t = None
instance_along private_too (c ∷ cs) name t = elim (instance_in private_too (method_in c.methods name t)) [ Some m ↦ Some (record { class = c; method = m }) | None ↦ instance_along private_too cs name t ]

-- the method that invokevirtual and invokeinterface select for an object of the class: the first
-- from the class up, static and private ones passed over (JVMS 6.5 invokevirtual)
unfoldable pub select : List ClassParts → List ℕ → List ℕ → MethodDescriptor → Option FoundMethod
select program class name t = instance_along false (chain program class) name t

-- the method that invokespecial finds from a class up: static ones are passed over, private ones
-- count (JVMS 6.5 invokespecial)
unfoldable pub select_special : List ClassParts → List ℕ → List ℕ → MethodDescriptor → Option FoundMethod
select_special program class name t = instance_along true (chain program class) name t
