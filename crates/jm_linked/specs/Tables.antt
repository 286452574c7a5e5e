-- What a program's classes have, by their numbers (JVMS 2.4, 2.5.3, 2.7, 5.3.5, 5.4.5, 5.5).
use Rattle.std.specs.Prelude.{◌≡◌, ℕ, ◌<◌, List, [], ◌∷◌, ◌++◌, map, length, Option, Some, None, IfSome, true, false, option_map, slice_get}
use Rattle.jm_program.specs.Flags.{is_static}
use Rattle.jm_program.specs.declared.class.ClassParts.{ClassParts}
use Rattle.jm_program.specs.declared.class.Field.{Field}
use Rattle.jm_program.specs.declared.class.Method.{Method}
use Rattle.jm_program.specs.declared.constant.Constant.{Constant}
use Rattle.jm_program.specs.declared.constant.Constant.TheVariants as constant
use Rattle.jm_program.specs.declared.descriptor.MethodDescriptor.{MethodDescriptor}
use Rattle.jm_builtins.specs.Numbers.{built_in_names}
use Rattle.jm_world.specs.Hierarchy.{is_subclass}
use Rattle.jm_world.specs.Initialization.{initializer_of}
use Rattle.jm_world.specs.Loading.{literal_texts}
use Rattle.jm_world.specs.Resolution.{select}
use Rattle.jm_tables.specs.Tables.{row_at}
use Rattle.jm_tables.specs.FieldKinds.{AreKinds}
use Rattle.jm_tables.specs.Hierarchies.{is_above}
use Rattle.jm_tables.specs.Layouts.{IsLayout, classes_of}
use Rattle.jm_tables.specs.MethodTables.{IsNumberOf}
use Rattle.jm_tables.specs.Numbering.{name_of}
use Rattle.jm_linked.specs.Methods.{all_methods, code_numbers, selector_of}
use Rattle.jm_linked.specs.declared.method.LinkedConstant.{LinkedConstant}
use Rattle.jm_linked.specs.declared.method.LinkedConstant.TheVariants as linked
use Rattle.jm_linked.specs.declared.tables.Tables.{Tables}

-- the names of all classes by number: the built-in ones first
unfoldable pub all_names : List ClassParts → List (List ℕ)
all_names program = built_in_names ++ map (λ c. c.name) program

-- for each class and selector stands the number of the method that the model selects, if it selects one
abbrev pub AreSelected : List ClassParts → List (List (Option ℕ)) → Type 0
AreSelected program table = (name : List ℕ) (t : MethodDescriptor) (selector class : ℕ) → selector_of program name t ≡ Some selector
    → class < length (all_names program)
    → IsNumberOf (all_methods program) (row_at table class selector) (select program (name_of (all_names program) class) name t)

-- the number is that of the superclass of the name, if there is one
pub record IsSuperclass (program : List ClassParts) (superclass : Option (List ℕ)) (number : Option ℕ) : Type 0 where
  pub named : option_map (name_of (all_names program)) number ≡ superclass
  pub within : IfSome number (λ n. n < length (all_names program))

-- each class's superclass by number, at the class's own number
abbrev pub AreSuperclasses : List ClassParts → List (Option ℕ) → Type 0
AreSuperclasses program numbers = (class : ℕ) (c : ClassParts) → slice_get (classes_of program) class ≡ Some c
    → (number : Option ℕ) × (slice_get numbers class ≡ Some number) × IsSuperclass program c.superclass number

-- the number is that of the class's initializer among its methods, if it has one (JVMS 2.9)
abbrev pub IsInitializer : ClassParts → Option ℕ → Type 0
IsInitializer c None = initializer_of (Some c) ≡ None
IsInitializer c (Some n) = (m : Method) × (slice_get c.methods n ≡ Some m) × (initializer_of (Some c) ≡ Some (record { class = c; method = m }))

-- each of the program's classes' initializer, at the class's number among them
abbrev pub AreInitializers : List ClassParts → List (Option ℕ) → Type 0
AreInitializers program numbers = (class : ℕ) (c : ClassParts) → slice_get program class ≡ Some c
    → (number : Option ℕ) × (slice_get numbers class ≡ Some number) × IsInitializer c number

-- the constant with a string by its number among the literals (JVMS 4.7.2, 5.1)
abbrev pub IsConstant : List ClassParts → LinkedConstant → Constant → Type 0
IsConstant program (linked.Int n) c = c ≡ constant.Int n
IsConstant program (linked.Long n) c = c ≡ constant.Long n
IsConstant program (linked.Literal n) c = (units : List ℕ) × (c ≡ constant.String units) × (slice_get (literal_texts program) n ≡ Some units)

abbrev pub IsConstantOf : List ClassParts → Option LinkedConstant → Option Constant → Type 0
IsConstantOf program None None = Unit {0}
IsConstantOf program (Some x) (Some c) = IsConstant program x c
IsConstantOf program None (Some c) = ⊥
IsConstantOf program (Some x) None = ⊥

-- the constant with which a field begins, a static one's: that of another is ignored (JVMS 4.7.2)
abbrev pub static_constant : Field → Option Constant
static_constant f = elim (is_static f.flags) [ true ↦ f.constant | false ↦ None ]

-- the constants of fields, in their order
abbrev pub AreConstants : List ClassParts → List (Option LinkedConstant) → List Field → Type 0
AreConstants program [] [] = Unit {0}
AreConstants program (x ∷ xs) (f ∷ fs) = IsConstantOf program x (static_constant f) × AreConstants program xs fs
AreConstants program [] (f ∷ fs) = ⊥
AreConstants program (x ∷ xs) [] = ⊥

-- those of each of the program's classes, at the class's number among them
abbrev pub HaveConstants : List ClassParts → List (List (Option LinkedConstant)) → Type 0
HaveConstants program table = (class : ℕ) (c : ClassParts) → slice_get program class ≡ Some c
    → (constants : List (Option LinkedConstant)) × (slice_get table class ≡ Some constants) × AreConstants program constants c.fields

-- one class is another or has it above itself just where the model says so, the fields have the
-- model's places and numbers and hold the model's kinds of values, the model's methods are selected,
-- those with code have numbers in their order, and each class has its superclass's number, its
-- initializer's and its constants
pub record AreTables (program : List ClassParts) (tables : Tables) : Type 0 where
  pub hierarchy : (class above : ℕ) → class < length (all_names program) → above < length (all_names program)
      → is_above tables.hierarchy class above ≡ is_subclass program (name_of (all_names program) class) (name_of (all_names program) above)
  pub layout : IsLayout program (all_names program) tables.layout
  pub kinds : AreKinds program (all_names program) tables.kinds
  pub selected : AreSelected program tables.selected
  pub codes : tables.codes ≡ code_numbers program
  pub superclasses : AreSuperclasses program tables.superclasses
  pub initializers : AreInitializers program tables.initializers
  pub constants : HaveConstants program tables.constants
