-- Selectors by name and type, and the methods that a class declares by selector (JVMS 5.4.5, 6.5 invokevirtual).
use Rattle.std.specs.Prelude.{◌≡◌, ◌&&◌, ℕ, ◌+◌, List, [], cond, drop, map, Some, None, false, length, slice_get, option_to_list}
use Rattle.std.specs.List.{All}
use Rattle.std.specs.BTreeMap.{BTreeMap, get}
use Rattle.jm_program.specs.Names.{same_text}
use Rattle.jm_program.specs.declared.class.ClassParts.{ClassParts}
use Rattle.jm_program.specs.declared.class.Method.{Method}
use Rattle.jm_program.specs.declared.descriptor.MethodDescriptor.{MethodDescriptor}
use Rattle.jm_world.specs.Classes.{FoundMethod, method_in}
use Rattle.jm_world.specs.Loads.{duplicate_methods}
use Rattle.jm_world.specs.Resolution.{instance_in}
use Rattle.jm_world.specs.Types.{same_method_type}
use Rattle.jm_tables.specs.Tables.{IsCellOf, empty_row, with_cells}
use Rattle.jm_tables.specs.declared.table.Cell.{Cell}
use Rattle.jm_tables.specs.MethodTables.{IsNumberOf, found_in}
use Rattle.jm_tables.specs.declared.inheritance.Declared.{Declared}
use Rattle.jm_linked.specs.Links.{class_numbered}
use Rattle.jm_linked.specs.Methods.{all_methods, first_named, selector_of}
use Rattle.jm_linker.specs.Inherited.{first_of}
use Rattle.jm_linker.specs.Keys.{IsMethodKey}
use Rattle.jm_linker.specs.declared.key.MethodKey.{MethodKey}
use Rattle.jm_linker.specs.declared.selectors.ClassMethod.{ClassMethod}
use Rattle.jm_linker.specs.contracts.key.MethodKeyOrd.TheImpl as method_ord

abbrev pub found_methods : List ClassMethod → List FoundMethod
found_methods ms = map (λ (m : ClassMethod). record { class = m.class.now; method = m.method.now }) ms

-- the table has the number, counted from a number, of the first of the methods of each name and type
abbrev pub HasFirst : ℕ → BTreeMap MethodKey ℕ → List FoundMethod → Type 0
HasFirst k table methods = (key : MethodKey) (name : List ℕ) (t : MethodDescriptor) → IsMethodKey key name t
    → get (method_ord.ghosts).cmp table key ≡ first_named k methods name t

-- of the methods from one up to another only the first counts
abbrev pub Leads : List ClassMethod → ℕ → ℕ → Type 0
Leads ms i next = (x : ClassMethod) → slice_get ms i ≡ Some x → (name : List ℕ) (t : MethodDescriptor)
    → first_named i (found_methods (drop i ms)) name t
    ≡ cond (same_text x.method.now.name name && same_method_type x.method.now.descriptor t) (Some i) (first_named next (found_methods (drop next ms)) name t)

-- in the columns of their selectors, cells have the numbers of those methods of a class that can be selected
abbrev pub AreOwn : List ClassParts → ClassParts → List Method → List Cell → Type 0
AreOwn program c methods cells = (name : List ℕ) (t : MethodDescriptor) (selector : ℕ) → selector_of program name t ≡ Some selector
    → IsNumberOf (all_methods program) (with_cells empty_row cells selector) (found_in c (instance_in false (method_in methods name t)))

-- so do those of the first methods of a class, where none stands twice in it
pub record AreOwnCells (program : List ClassParts) (c : ClassParts) (methods : List Method) (list : List Cell) : Type 0 where
  pub own : duplicate_methods [] c.methods ≡ None → AreOwn program c methods list
  pub cells : All (IsCellOf (length (all_methods program))) list

-- the methods of a class that stand among all from a number on
abbrev pub StandFrom : List ClassParts → ℕ → ClassParts → Type 0
StandFrom program before c = (i : ℕ) (m : Method) → slice_get c.methods i ≡ Some m
    → slice_get (all_methods program) (before + i) ≡ Some (record { class = c; method = m })

-- the class of a number with its superclass's number and the cells of its methods
pub record IsItsMethods (program : List ClassParts) (declarations : List Declared) (class : ℕ) (d : Declared) : Type 0 where
  pub parts : ClassParts
  pub numbered : class_numbered program class ≡ Some parts
  pub declaration : Declared
  pub declaration_is : slice_get declarations class ≡ Some declaration
  pub superclass : d.above.items ≡ option_to_list (first_of parts.superclass declaration.above.items)
  pub own : AreOwnCells program parts parts.methods d.own.items

pub record AreTheirMethods (program : List ClassParts) (declarations : List Declared) (many : ℕ) (classes : List Declared) : Type 0 where
  pub length : length classes ≡ many
  pub each : (class : ℕ) (d : Declared) → slice_get classes class ≡ Some d → IsItsMethods program declarations class d
