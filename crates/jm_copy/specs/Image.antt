-- What a collection leaves of the objects that it was given (Marlow, Harris, James and Peyton Jones 2008,
-- "Parallel Generational-Copying Garbage Collection with a Block-Structured Heap").
use Rattle.std.specs.Prelude.{◌≡◌, ℕ, zero, suc, List, map, Option, Some, option_map, unwrap_or}
use Rattle.jm_values.specs.Objects.{ObjectOf}
use Rattle.jm_values.specs.Reach.{Reach}
use Rattle.jm_values.specs.Rename.{rename}
use Rattle.jm_heap.specs.declared.class_id.ClassId.{ClassId}
use Rattle.jm_blocks.specs.Objects.{Object}

-- an object by its class and values, as reach sees it
abbrev pub bare : Object → ObjectOf ClassId
bare o = record { type = o.class; values = o.values }

abbrev pub bare_at : (ℕ → Option Object) → ℕ → Option (ObjectOf ClassId)
bare_at old p = option_map bare (old p)

-- a condemned object is at the place, and the roots reach it through condemned objects
pub record IsReached (old : ℕ → Option Object) (roots : List ℕ) (p : ℕ) : Type 0 where
  pub there : (o : Object) × (old p ≡ Some o)
  pub reach : Reach (bare_at old) roots p

-- a place under its new number, or itself where it has none
abbrev pub renamed : (ℕ → Option ℕ) → ℕ → ℕ
renamed moved p = unwrap_or (moved p) p

-- ages rise by one, up to 2, the age of the old
abbrev pub older : ℕ → ℕ
older zero = 1
older (suc age) = 2

abbrev pub copy_of : (ℕ → Option ℕ) → Object → Object
copy_of moved o = record { serial = o.serial; class = o.class; age = older o.age; values = map (rename (renamed moved)) o.values }

-- the new objects are the condemned ones that are reached, each once, under new places
pub record IsImage (old : ℕ → Option Object) (roots : List ℕ) (new : ℕ → Option Object) (new_roots : List ℕ) (moved : ℕ → Option ℕ) : Type 0 where
  pub reached : (p n : ℕ) → moved p ≡ Some n → IsReached old roots p
  pub all : (p : ℕ) → IsReached old roots p → (n : ℕ) × (moved p ≡ Some n)
  pub apart : (p q n : ℕ) → moved p ≡ Some n → moved q ≡ Some n → p ≡ q
  pub onto : (n : ℕ) (a : Object) → new n ≡ Some a → (p : ℕ) × (moved p ≡ Some n)
  pub copied : (p n : ℕ) → moved p ≡ Some n → (o : Object) × (old p ≡ Some o) × (new n ≡ Some (copy_of moved o))
  pub moved_roots : new_roots ≡ map (renamed moved) roots
