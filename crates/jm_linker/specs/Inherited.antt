-- What is gathered of each class for the tables of a program: the numbers of those right above it, and its fields.
use Rattle.std.specs.Prelude.{◌≡◌, ℕ, List, [], ◌∷◌, Option, Some, None, slice_get, length}
use Rattle.jm_program.specs.declared.class.ClassParts.{ClassParts}
use Rattle.jm_world.specs.Hierarchy.{parents}
use Rattle.jm_tables.specs.Hierarchies.{own_cell}
use Rattle.jm_tables.specs.declared.extent.DeclaredFields.{DeclaredFields}
use Rattle.jm_tables.specs.declared.inheritance.Declared.{Declared}
use Rattle.jm_tables.specs.FieldKinds.{AreKinds}
use Rattle.jm_tables.specs.Layouts.{IsLayout}
use Rattle.jm_linked.specs.Links.{class_numbered}
use Rattle.jm_linked.specs.Methods.{code_numbers}
use Rattle.jm_linked.specs.Tables.{AreInitializers, AreSuperclasses, HaveConstants, all_names}
use Rattle.jm_linker.specs.NumberedClasses.{AreNumbers}
use Rattle.jm_linker.specs.declared.tables.FieldTables.{FieldTables}
use Rattle.jm_linker.specs.declared.tables.OwnTables.{OwnTables}

-- the class of a number with the numbers of those right above it, and with its own cell
pub record IsClass (program : List ClassParts) (class : ℕ) (d : Declared) : Type 0 where
  pub parts : ClassParts
  pub numbered : class_numbered program class ≡ Some parts
  pub above : AreNumbers program d.above.items (parents (Some parts))
  pub own : d.own.items ≡ own_cell class ∷ []

-- so many classes, from the first on
pub record AreClasses (program : List ClassParts) (many : ℕ) (classes : List Declared) : Type 0 where
  pub length : length classes ≡ many
  pub each : (class : ℕ) (d : Declared) → slice_get classes class ≡ Some d → IsClass program class d

-- the first of the numbers above a class that has a superclass
abbrev pub first_of : Option (List ℕ) → List ℕ → Option ℕ
first_of None above = None
first_of (Some name) above = slice_get above 0

pub record IsItsFields (program : List ClassParts) (declarations : List Declared) (class : ℕ) (d : DeclaredFields) : Type 0 where
  pub parts : ClassParts
  pub numbered : class_numbered program class ≡ Some parts
  pub declaration : Declared
  pub declaration_is : slice_get declarations class ≡ Some declaration
  pub superclass : d.superclass ≡ first_of parts.superclass declaration.above.items
  pub fields : d.fields.now ≡ parts.fields

pub record AreTheirFields (program : List ClassParts) (declarations : List Declared) (many : ℕ) (classes : List DeclaredFields) : Type 0 where
  pub length : length classes ≡ many
  pub each : (class : ℕ) (d : DeclaredFields) → slice_get classes class ≡ Some d → IsItsFields program declarations class d

-- the tables of a program's fields and superclasses
pub record AreFieldTables (program : List ClassParts) (tables : FieldTables) : Type 0 where
  pub layout : IsLayout program (all_names program) tables.layout
  pub kinds : AreKinds program (all_names program) tables.kinds
  pub superclasses : AreSuperclasses program tables.superclasses

-- the tables of what its classes declare
pub record AreOwnTables (program : List ClassParts) (tables : OwnTables) : Type 0 where
  pub codes : tables.codes ≡ code_numbers program
  pub initializers : AreInitializers program tables.initializers
  pub constants : HaveConstants program tables.constants
