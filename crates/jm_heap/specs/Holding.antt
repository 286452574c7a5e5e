-- What the objects of a heap hold: values of their types.
use Rattle.std.specs.Prelude.{◌≡◌, ℕ, Some}
use Rattle.jm_values.specs.Content.{Content, serial_at, object_at}
use Rattle.jm_values.specs.Objects.{ObjectOf}
use Rattle.jm_values.specs.declared.value.Value.{Value}
use Rattle.jm_heap.specs.Packing.{Fits, kind_of}
use Rattle.jm_heap.specs.declared.class_id.ClassId.{ClassId}

-- the value is one that the object at a place can hold, by its type
abbrev pub CanHold : Content ClassId → ℕ → Value → Type 0
CanHold c p v = (k : ℕ) (o : ObjectOf ClassId) → serial_at c p ≡ Some k → object_at c k ≡ Some o → Fits (kind_of o.type) v
