-- What a heap of generations holds.
use Rattle.std.specs.Prelude.{◌≡◌, ℕ, ◌<◌, ◌^◌, Some, true, false}
use Rattle.jm_values.specs.declared.value.Value.{Value}
use Rattle.jm_values.specs.Objects.{ObjectOf}
use Rattle.jm_heap.specs.declared.class_id.ClassId.{ClassId}
use Rattle.jm_blocks.specs.Objects.{Object}
use Rattle.jm_blocks.specs.Stores.{Blocks, IsSet, store_cells}
use Rattle.jm_barrier.specs.Remembered.{noted}
use Rattle.jm_nursery.specs.Nurseries.{Young, nursery_at}
use Rattle.jm_copy.specs.Image.{bare}
use Rattle.jm_gen_heap.specs.Generations.{Generations}
use Rattle.jm_gen_heap.specs.Invariant.{AreGenerations}
use Rattle.jm_gen_heap.specs.Steps.{IsNew, IsPut}
use Rattle.jm_gen_heap.specs.Pointers.{Noted, all_of, names_young}

-- the generations of these parts
abbrev pub held : ℕ → ℕ → Young → Blocks → Noted → Generations
held limit next young tenured pointers = record { limit = limit; next = next; nurseries = young.lanes; tenured = tenured; remembered = all_of pointers }

-- what holds of the parts
pub record AreHeld (limit next : ℕ) (young : Young) (tenured : Blocks) (cells : ℕ) (pointers : Noted) : Type 0 where
  pub small : limit < 2 ^ 32
  pub same : young.limit ≡ limit
  pub counted : cells ≡ store_cells tenured.lists
  pub keeps : AreGenerations (held limit next young tenured pointers)

-- a new object was put into the nursery of a number
pub record IsPutNew (g h : Generations) (p n : ℕ) (x : ObjectOf ClassId) : Type 0 where
  pub object : Object
  pub put : IsPut g h p object
  pub fresh : IsNew g object
  pub shape : bare object ≡ x
  pub nursery : nursery_at p ≡ Some n

-- one value of an old object is another, and the object is noted where it now names a young one
pub record IsSetOld (old new : Blocks) (before after : Noted) (p i : ℕ) (v : Value) : Type 0 where
  pub set : IsSet old new p i v
  pub lane : new.lane ≡ old.lane
  pub cells : store_cells new.lists ≡ store_cells old.lists
  pub added : names_young v ≡ true → after ≡ record { noted = noted before.noted p; left = before.left }
  pub same : names_young v ≡ false → after ≡ before
