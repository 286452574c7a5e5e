-- The references among the values of an object.
use Rattle.std.specs.Prelude.{◌≡◌, ◌≢◌, ℕ, ◌<◌, ◌≤◌, List, Option, Some, None, length, slice_get}
use Rattle.jm_values.specs.declared.value.Value.{Value}
use Rattle.jm_values.specs.declared.value.Value.TheVariants.{Ref}
use Rattle.jm_heap.specs.declared.storage.Storage.{Storage as Kind}
use Rattle.jm_heap.specs.Packing.{Fits, kind_of}
use Rattle.jm_blocks.specs.Objects.{Object}
use Rattle.jm_copy.specs.declared.copies.Named.{Named}

-- none from a number on, and below another
abbrev pub NoneNamed : List Value → ℕ → ℕ → Type 0
NoneNamed vs k j = (i p : ℕ) → k ≤ i → i < j → slice_get vs i ≢ Some (Ref p)

-- behind one value there may be more references, below a number that ends them; they lie as a reference does
pub record IsEnded (vs : List Value) (kind : Kind) (k end : ℕ) : Type 0 where
  pub inside : k < end
  pub within : end ≤ length vs
  pub none : NoneNamed vs end (length vs)
  pub fits : (p : ℕ) → Fits kind (Ref p)

-- the first one from a number on
pub record IsNamed (vs : List Value) (kind : Kind) (k : ℕ) (r : Named) : Type 0 where
  pub from_on : k ≤ r.number
  pub here : slice_get vs r.number ≡ Some (Ref r.place)
  pub before : NoneNamed vs k r.number
  pub ended : IsEnded vs kind r.number r.end

abbrev pub NamesFirst : List Value → Kind → ℕ → Option Named → Type 0
NamesFirst vs kind k None = NoneNamed vs k (length vs)
NamesFirst vs kind k (Some r) = IsNamed vs kind k r

abbrev pub NamesNext : Object → ℕ → Option Named → Type 0
NamesNext a k r = NamesFirst a.values (kind_of a.class) k r
