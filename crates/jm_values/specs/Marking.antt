-- What is reached from places, found by marking serials.
use Rattle.std.specs.Prelude.{◌≡◌, ◌⊎◌, ◌↔◌, ℕ, ◌+◌, List, Option, Some, None, length}
use Rattle.jm_values.specs.Shape.{Among}
use Rattle.jm_values.specs.Content.{Content, Reached, serial_at, name_of}
use Rattle.jm_values.specs.Reach.{AllDistinct}

-- exactly the serials of what is reached from places
abbrev pub AreReached : {T : Type 0} → Content T → List ℕ → List ℕ → Type 0
AreReached c roots serials = (k : ℕ) → Among k serials ↔ Reached c roots k

-- where the object of a serial that is reached from places lies; none of a serial that is not
abbrev pub FindsReached : {T : Type 0} → Content T → List ℕ → ℕ → Option ℕ → Type 0
FindsReached c roots k None = Reached c roots k → ⊥
FindsReached c roots k (Some p) = Reached c roots k × (serial_at c p ≡ Some k)

-- an object lies at the place
abbrev pub Lies : {T : Type 0} → Content T → ℕ → Type 0
Lies c p = (k : ℕ) × (serial_at c p ≡ Some k)

-- one of the places names the serial
abbrev pub IsNamed : {T : Type 0} → Content T → List ℕ → ℕ → Type 0
IsNamed c places k = (p : ℕ) × Among p places × (name_of c p ≡ k)

-- each serial of a list has been seen; of those that are new a place is also pending
pub record MarkedAll {T : Type 0} (c : Content T) (serials seen waiting now pending : List ℕ) : Type 0 where
  pub all : (k : ℕ) → Among k serials → Among k now
  pub keeps : (k : ℕ) → Among k seen → Among k now
  pub stays : (p : ℕ) → Among p waiting → Among p pending
  pub new_seen : (k : ℕ) → Among k now → Among k seen ⊎ (Among k serials × IsNamed c pending k)
  pub new_pending : (p : ℕ) → Among p pending → Among p waiting ⊎ (Among (name_of c p) serials × Lies c p)
  pub distinct : AllDistinct seen → AllDistinct now
  pub count : length now + length waiting ≡ length seen + length pending
