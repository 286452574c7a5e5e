-- The first class from a name up in which something is found: the class itself, its superinterfaces,
-- its superclass, each with all above it.
use Rattle.std.specs.Prelude.{◌≡◌, ℕ, zero, suc, List, [], ◌∷◌, Option, Some, None, Bool, true, false, is_some}
use Rattle.std.specs.BTreeMap.{BTreeMap, get}
use Rattle.std.specs.Ordering.{nat_cmp}
use Rattle.jm_program.specs.Names.{same_text}
use Rattle.jm_program.specs.declared.class.ClassParts.{ClassParts}
use Rattle.jm_world.specs.Classes.{class_named, field_in, method_in}
use Rattle.jm_world.specs.Resolution.{first_found, instance_in, interfaces_first, nameable}
use Rattle.jm_linker.specs.declared.sought.Sought.{Sought}
use Rattle.jm_linker.specs.declared.sought.Sought.TheVariants as sought
use Rattle.jm_linked.specs.Links.{NamesClass}
use Rattle.jm_linker.specs.declared.walk.Pending.{Pending}

abbrev pub sought_in : Sought → ClassParts → Bool
sought_in (sought.Class name) c = same_text c.name name.now
sought_in (sought.Field f) c = is_some (field_in (nameable c) f.now.field.now.name f.now.field.now.descriptor)
sought_in (sought.Method m) c = is_some (method_in c.methods m.now.method.now.name m.now.method.now.descriptor)
sought_in (sought.Instance m) c = is_some (instance_in true (method_in c.methods m.now.method.now.name m.now.method.now.descriptor))

unfoldable pub above_from : (ClassParts → Bool) → ℕ → List ClassParts → List ℕ → Option ClassParts
above_from test zero program name = None
above_from test (suc n) program name = elim (class_named program name) [
  | None ↦ None
  | Some c ↦ elim (test c) [ true ↦ Some c | false ↦ first_found (above_from test n program) (interfaces_first c) ]
]

-- the first of some names
unfoldable pub above_any : (ClassParts → Bool) → ℕ → List ClassParts → List (List ℕ) → Option ClassParts
above_any test n program names = first_found (above_from test n program) names

abbrev pub or_found : Option ClassParts → Option ClassParts → Option ClassParts
or_found (Some c) next = Some c
or_found None next = next

-- what is still to be looked at, the last first
unfoldable pub found_pending : (ClassParts → Bool) → List ClassParts → List Pending → Option ClassParts
found_pending test program [] = None
found_pending test program (p ∷ ps) = or_found (found_pending test program ps) (above_any test p.depth program p.names.now)

-- what the class of the number gives
abbrev pub Gives : (ClassParts → Bool) → ℕ → List ClassParts → ℕ → Option ClassParts → Type 0
Gives test depth program number found = (name : List ℕ) → NamesClass program number name → above_from test depth program name ≡ found

-- of the last names above a class: what they and all after them give is what the class gives
abbrev pub Says : (ClassParts → Bool) → List ClassParts → Pending → Option ClassParts → Type 0
Says test program p found = elim p.below [ None ↦ Unit {0} | Some number ↦ Gives test (suc p.depth) program number found ]

unfoldable pub AllSay : (ClassParts → Bool) → List ClassParts → List Pending → Type 0
AllSay test program [] = Unit {0}
AllSay test program (p ∷ ps) = Says test program p (found_pending test program (p ∷ ps)) × AllSay test program ps

-- the walks that are kept, by the class's number and by how many classes above it, were in vain
abbrev pub AllVain : (ClassParts → Bool) → List ClassParts → BTreeMap ℕ ℕ → Type 0
AllVain test program kept = (number depth : ℕ) → get nat_cmp kept number ≡ Some depth → Gives test (suc depth) program number None

-- the first of a list of classes
abbrev pub first_along : (ClassParts → Bool) → List ClassParts → Option ClassParts
first_along test [] = None
first_along test (c ∷ cs) = elim (test c) [ true ↦ Some c | false ↦ first_along test cs ]
