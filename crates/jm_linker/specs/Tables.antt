-- Tables by name: of a class's members, and of a program's classes.
use Rattle.std.specs.Prelude.{◌≡◌, ◌<◌, ◌^◌, ℕ, List, length, Some, option_map, slice_get}
use Rattle.std.specs.Borrow.{Bor}
use Rattle.std.specs.BTreeMap.{BTreeMap, get}
use Rattle.std.specs.Cmp.Lexicographic.{slice_cmp}
use Rattle.std.specs.declared.cmp.Ordering.{Ordering}
use Rattle.std.specs.Ordering.{nat_cmp}
use Rattle.jm_program.specs.declared.class.ClassParts.{ClassParts}
use Rattle.jm_program.specs.declared.class.Field.{Field}
use Rattle.jm_program.specs.declared.class.Method.{Method}
use Rattle.jm_program.specs.declared.descriptor.FieldType.{FieldType}
use Rattle.jm_program.specs.declared.descriptor.MethodDescriptor.{MethodDescriptor}
use Rattle.jm_world.specs.Classes.{field_in, method_in}
use Rattle.jm_linker.specs.BuiltInClasses.{number_from}
use Rattle.jm_linker.specs.Keys.{IsFieldKey, IsMethodKey}
use Rattle.jm_linker.specs.declared.key.FieldKey.{FieldKey}
use Rattle.jm_linker.specs.declared.key.MethodKey.{MethodKey}
use Rattle.jm_linker.specs.declared.members.MemberTables.{MemberTables}
use Rattle.jm_linker.specs.declared.members.NumberedField.{NumberedField}
use Rattle.jm_linker.specs.declared.members.NumberedMethod.{NumberedMethod}
use Rattle.jm_linker.specs.contracts.key.FieldKeyOrd.TheImpl as field_ord
use Rattle.jm_linker.specs.contracts.key.MethodKeyOrd.TheImpl as method_ord

-- the table has each of the fields under its name and type, and no others
abbrev pub HasFields : BTreeMap FieldKey NumberedField → List Field → Type 0
HasFields table fields = (key : FieldKey) (name : List ℕ) (t : FieldType) → IsFieldKey key name t
    → option_map (λ f. f.field.now) (get (field_ord.ghosts).cmp table key) ≡ field_in fields name t

abbrev pub HasMethods : BTreeMap MethodKey NumberedMethod → List Method → Type 0
HasMethods table methods = (key : MethodKey) (name : List ℕ) (t : MethodDescriptor) → IsMethodKey key name t
    → option_map (λ m. m.method.now) (get (method_ord.ghosts).cmp table key) ≡ method_in methods name t

-- each field of the table stands among the fields under its number
abbrev pub NumbersFields : BTreeMap FieldKey NumberedField → List Field → Type 0
NumbersFields table fields = (key : FieldKey) (f : NumberedField) → get (field_ord.ghosts).cmp table key ≡ Some f → slice_get fields f.number ≡ Some f.field.now

abbrev pub NumbersMethods : BTreeMap MethodKey NumberedMethod → List Method → Type 0
NumbersMethods table methods = (key : MethodKey) (m : NumberedMethod) → get (method_ord.ghosts).cmp table key ≡ Some m
    → slice_get methods m.number ≡ Some m.method.now

-- names in the order of their code units
abbrev pub by_units : Bor (List ℕ) → Bor (List ℕ) → Ordering
by_units x y = slice_cmp nat_cmp x.now y.now

-- the table has the number of the first class of each name
abbrev pub HasNumbers : BTreeMap (Bor (List ℕ)) ℕ → List ClassParts → Type 0
HasNumbers table program = (name : Bor (List ℕ)) → get by_units table name ≡ number_from 0 program name.now

-- the tables have the members of the class
abbrev pub HasMembers : MemberTables → ClassParts → Type 0
HasMembers tables class =
    HasFields tables.fields class.fields × NumbersFields tables.fields class.fields
    × HasMethods tables.methods class.methods × NumbersMethods tables.methods class.methods

-- the members of the class have numbers in 32 bits
abbrev pub HasShortNumbers : ClassParts → Type 0
HasShortNumbers class = (length class.fields < 2 ^ 32) × (length class.methods < 2 ^ 32)
