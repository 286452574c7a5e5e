-- What stands before copiers: the places that their own objects name which are not scanned yet.
use Rattle.std.specs.Prelude.{◌≡◌, ◌≢◌, ◌⊎◌, ℕ, List, Some, true, slice_get}
use Rattle.jm_values.specs.declared.value.Value.TheVariants.{Ref}
use Rattle.jm_heap.specs.Allocation.{AllPlaces}
use Rattle.jm_blocks.specs.Objects.{Object}
use Rattle.jm_copy.specs.Copies.{made}
use Rattle.jm_copy.specs.Marks.{AreMarks, is_ahead}
use Rattle.jm_par_copy.specs.declared.copier.Copier.{Copier}

-- one of an object's values names the place
abbrev pub IsNamedBy : Object → ℕ → Type 0
IsNamedBy a p = (i : ℕ) × (slice_get a.values i ≡ Some (Ref p))

-- one of a copier's own objects names it which is not scanned yet
pub record IsAhead (c : Copier) (p : ℕ) : Type 0 where
  pub place : ℕ
  pub object : Object
  pub there : made c.own.to place ≡ Some object
  pub ahead : is_ahead c.own.to.young.lane c.marks place ≡ true
  pub named : IsNamedBy object p

-- so for one of several copiers
abbrev pub IsAtFront : List Copier → ℕ → Type 0
IsAtFront cs p = (i : ℕ) × (c : Copier) × (slice_get cs i ≡ Some c) × IsAhead c p

-- each place of a list is one of another list, or that holds of it
abbrev pub IsOneOf : List ℕ → ℕ → Type 0
IsOneOf ps p = (i : ℕ) × (slice_get ps i ≡ Some p)

abbrev pub Adds : (ℕ → Type 0) → List ℕ → List ℕ → Type 0
Adds is ps qs = AllPlaces (λ p. IsOneOf ps p ⊎ is p) qs

abbrev pub AddsNamed : Object → List ℕ → List ℕ → Type 0
AddsNamed a ps qs = Adds (IsNamedBy a) ps qs

abbrev pub AddsAhead : Copier → List ℕ → List ℕ → Type 0
AddsAhead c ps qs = Adds (IsAhead c) ps qs

-- the marks of a copier's own stores are such, and the stores are two
abbrev pub CanWalk : Copier → Type 0
CanWalk c = AreMarks c.own.to c.marks × (c.own.to.tenured.lane ≢ c.own.to.young.lane)

abbrev pub CanWalkAll : List Copier → Type 0
CanWalkAll cs = (i : ℕ) (c : Copier) → slice_get cs i ≡ Some c → CanWalk c
