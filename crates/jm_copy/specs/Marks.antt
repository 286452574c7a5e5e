-- How far the scan of the two stores has come.
use Rattle.std.specs.Prelude.{◌≡◌, ◌≢◌, ◌⊎◌, ℕ, ◌+◌, ◌≤◌, List, length, Option, Some, None, Bool, true, false, nat_eq, if◌then◌else◌}
use Rattle.jm_values.specs.declared.value.Value.{Value}
use Rattle.jm_blocks.specs.Objects.{Object, with_value}
use Rattle.jm_blocks.specs.Places.{lane_of}
use Rattle.jm_blocks.specs.Stores.{Blocks, HasObject, objects_in}
use Rattle.jm_copy.specs.Copying.{Progress}
use Rattle.jm_copy.specs.Copies.{is_above, made, IsCopying, IsMark}
use Rattle.jm_copy.specs.Pointing.{names_lane}
use Rattle.jm_copy.specs.declared.copies.Copies.{Copies}
use Rattle.jm_copy.specs.declared.scan.Marks.{Marks}

-- whether a place is not scanned yet
abbrev pub is_ahead : ℕ → Marks → ℕ → Bool
is_ahead lane m n = if nat_eq (lane_of n) lane then is_above m.young n else is_above m.tenured n

-- all values of what is marked are forwarded, and none of what is ahead
unfoldable pub progress : ℕ → Marks → Progress
progress lane m n count = if is_ahead lane m n then 0 else count

-- of the object at s the first j values, and of the others as many as before
unfoldable pub at : Progress → ℕ → ℕ → Progress
at done s j n count = if nat_eq n s then j else done n count

abbrev pub first_marks : Copies → Marks
first_marks c = record { young = None; tenured = c.kept }

-- an object is scanned
abbrev pub passed : ℕ → Marks → ℕ → Marks
passed lane m s = if nat_eq (lane_of s) lane then record { young = Some s; tenured = m.tenured } else record { young = m.young; tenured = Some s }

-- the mark of the store that an object is in
abbrev pub mark_of : ℕ → Marks → ℕ → Option ℕ
mark_of lane m n = if nat_eq (lane_of n) lane then m.young else m.tenured

-- the marks are places of objects, and the old one is not below the kept
pub record AreMarks (c : Copies) (m : Marks) : Type 0 where
  pub young : IsMark c.young m.young
  pub tenured : IsMark c.tenured m.tenured
  pub past : (n : ℕ) → is_above m.tenured n ≡ true → is_above c.kept n ≡ true

-- nothing of a store is ahead, or this object is the first of it
abbrev pub IsPassed : Blocks → Option ℕ → Type 0
IsPassed s mark = (q : ℕ) → HasObject s q → is_above mark q ≡ false

pub record IsNextOf (s : Blocks) (mark : Option ℕ) (p : ℕ) : Type 0 where
  pub there : HasObject s p
  pub above : is_above mark p ≡ true
  pub least : (q : ℕ) → HasObject s q → is_above mark q ≡ true → p ≤ q

abbrev pub AllPassed : Copies → Marks → Type 0
AllPassed c m = IsPassed c.young m.young × IsPassed c.tenured m.tenured

abbrev pub IsNext : Copies → Marks → ℕ → Type 0
IsNext c m p = (lane_of p ≡ c.young.lane × IsNextOf c.young m.young p) ⊎ ((lane_of p ≢ c.young.lane) × IsNextOf c.tenured m.tenured p)

-- of the object at a place one value more is forwarded, or all are
abbrev pub ForwardsValue : List Blocks → List ℕ → Copies → Copies → ℕ → ℕ → Type 0
ForwardsValue stores roots c d p j =
    (done : Progress) → IsCopying stores roots c (at done p j) → IsCopying stores roots d (at done p (j + 1))

abbrev pub ScansObject : List Blocks → List ℕ → Copies → Copies → ℕ → Type 0
ScansObject stores roots c d p =
    (done : Progress) → IsCopying stores roots c (at done p 0)
    → (a : Object) × (made d p ≡ Some a) × IsCopying stores roots d (at done p (length a.values))

-- where the old store had an object, it has it still, and below it nothing more; or all but the one at a place
abbrev pub AllStay : Copies → Copies → Type 0
AllStay c d = (m n : ℕ) → HasObject c.tenured m → n ≤ m → objects_in d.tenured n ≡ objects_in c.tenured n

abbrev pub OthersStay : Copies → Copies → ℕ → Type 0
OthersStay c d p = (m n : ℕ) → HasObject c.tenured m → n ≤ m → n ≢ p → objects_in d.tenured n ≡ objects_in c.tenured n

-- one value of the object a at a place is another, which names a young one or not
abbrev pub BecomesValue : Copies → Copies → ℕ → ℕ → Object → Bool → Type 0
BecomesValue c d p j a names = (v : Value) × (made d p ≡ Some (with_value a j v)) × (names ≡ names_lane c.young.lane v)
