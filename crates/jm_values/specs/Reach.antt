-- What is reached among objects that refer to one another by numbers, and its cells (JVMS 2.5.3).
use Rattle.std.specs.Prelude.{ℕ, zero, suc, ◌+◌, List, [], ◌∷◌, Option, Bool, true, false, nat_eq}
use Rattle.jm_values.specs.Shape.{Among}
use Rattle.jm_values.specs.Objects.{ObjectOf, refs_of, cells_of}

-- the least set that has the roots and is closed under fields and elements
pub data Reach {T : Type 0} (objects : ℕ → Option (ObjectOf T)) (roots : List ℕ) : ℕ → Type 0 where
  root : (k : ℕ) → Among k roots → Reach objects roots k
  field : (j k : ℕ) → Reach objects roots j → Among k (refs_of (objects j)) → Reach objects roots k

abbrev pub is_among : ℕ → List ℕ → Bool
is_among k [] = false
is_among k (x ∷ xs) = elim (nat_eq k x) [ true ↦ true | false ↦ is_among k xs ]

-- the same set as a list without repeats: each reference is followed once, down to a depth
abbrev pub visit_all : (ℕ → List ℕ → List ℕ) → List ℕ → List ℕ → List ℕ
visit_all visit [] seen = seen
visit_all visit (k ∷ ks) seen = visit_all visit ks (visit k seen)

abbrev pub visit : {T : Type 0} → ℕ → (ℕ → Option (ObjectOf T)) → ℕ → List ℕ → List ℕ
visit zero objects k seen = seen
visit (suc n) objects k seen = elim (is_among k seen) [ true ↦ seen | false ↦ visit_all (visit n objects) (refs_of (objects k)) (k ∷ seen) ]

unfoldable pub reached : {T : Type 0} → ℕ → (ℕ → Option (ObjectOf T)) → List ℕ → List ℕ
reached depth objects roots = visit_all (visit depth objects) roots []

abbrev pub cells : {T : Type 0} → (T → ℕ → ℕ) → (ℕ → Option (ObjectOf T)) → List ℕ → ℕ
cells sizes objects [] = 0
cells sizes objects (k ∷ ks) = cells_of sizes (objects k) + cells sizes objects ks

-- the cells of what is reached; a depth of as many objects as there are is enough
unfoldable pub reached_cells : {T : Type 0} → (T → ℕ → ℕ) → ℕ → (ℕ → Option (ObjectOf T)) → List ℕ → ℕ
reached_cells sizes depth objects roots = cells sizes objects (reached depth objects roots)

-- no number stands twice
abbrev pub AllDistinct : List ℕ → Type 0
AllDistinct [] = Unit {0}
AllDistinct (x ∷ xs) = (Among x xs → ⊥) × AllDistinct xs
