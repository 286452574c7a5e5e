-- Objects as they lie in blocks; their values name places.
use Rattle.std.specs.Prelude.{ℕ, List, slice_set}
use Rattle.jm_values.specs.declared.value.Value.{Value}
use Rattle.jm_heap.specs.declared.class_id.ClassId.{ClassId}
use Rattle.jm_blocks.specs.declared.header.Header.{Header}

-- an object: its number in the world, its class or array type, how many collections it has survived,
-- and its fields or elements
pub record Object : Type 0 where
  pub serial : ℕ
  pub class : ClassId
  pub age : ℕ
  pub values : List Value

-- an object by its header and its values
abbrev pub object_of : Header → List Value → Object
object_of h vs = record { serial = h.serial; class = h.class; age = h.age; values = vs }

-- the object at another age
abbrev pub aged : ℕ → Object → Object
aged age o = record { serial = o.serial; class = o.class; age = age; values = o.values }

-- the object with one value changed
abbrev pub with_value : Object → ℕ → Value → Object
with_value o i v = record { serial = o.serial; class = o.class; age = o.age; values = slice_set o.values i v }
