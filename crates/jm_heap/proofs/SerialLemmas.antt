-- The places and serials of what lies in slots, each once.
use Rattle.std.proofs.Common.{◌≡◌, ℕ, zero, suc, ◌<◌, List, [], ◌∷◌, Some, None, refl, sym, ap, inl, inr, arith}
use Rattle.std.specs.Prelude.{slice_get}
use Rattle.jm_values.specs.Shape.{Among}
use Rattle.jm_values.specs.Reach.{AllDistinct}
use Rattle.jm_values.specs.Content as content
use Rattle.jm_heap.specs.Slots.{residents_from, serials_of, Object, Slot}
use Rattle.jm_heap.proofs.ContentLemmas.{Apart, tail_apart}

-- a serial of what lies in slots
pub record At (slots : List Slot) (k : ℕ) : Type 0 where
  pub slot : ℕ
  pub object : Object
  pub taken : slice_get slots slot ≡ Some (Some object)
  pub serial : object.serial ≡ k

tail_at : (s : Slot) (slots : List Slot) (k : ℕ) → At slots k → At (s ∷ slots) k
tail_at s slots k a = record { slot = suc a.slot; object = a.object; taken = a.taken; serial = a.serial }

pub serial_lies : (slots : List Slot) (k : ℕ) → Among k (serials_of slots) → At slots k
serial_lies [] k a = absurd a
serial_lies (None ∷ slots) k a = tail_at None slots k (serial_lies slots k a)
serial_lies (Some o ∷ slots) k (inl e) = record { slot = zero; object = o; taken = refl; serial = sym e }
serial_lies (Some o ∷ slots) k (inr a) = tail_at (Some o) slots k (serial_lies slots k a)

pub serial_listed : (slots : List Slot) (j : ℕ) (o : Object) → slice_get slots j ≡ Some (Some o) → Among o.serial (serials_of slots)
serial_listed [] j o e = cc
serial_listed (None ∷ slots) zero o e = cc
serial_listed (None ∷ slots) (suc j) o e = serial_listed slots j o e
serial_listed (Some a ∷ slots) zero o e = let same : a ≡ o = cc in inl (ap (λ x. x.serial) (sym same))
serial_listed (Some a ∷ slots) (suc j) o e = inr (serial_listed slots j o e)

pub serials_distinct : (slots : List Slot) → Apart slots → AllDistinct (serials_of slots)
serials_distinct [] h = tt
serials_distinct (None ∷ slots) h = serials_distinct slots (tail_apart None slots h)
serials_distinct (Some o ∷ slots) h = (λ a. other (serial_lies slots o.serial a), serials_distinct slots (tail_apart (Some o) slots h))
  where
    other : At slots o.serial → ⊥
    other a = let same : zero ≡ suc a.slot = h zero (suc a.slot) o a.object refl a.taken (sym a.serial) in absurd (omega arith)

-- the residents have the serials of the slots, and places that rise
pub serials_are : (name : ℕ → ℕ) (i : ℕ) (slots : List Slot) → content.serials_of (residents_from name i slots) ≡ serials_of slots
serials_are name i [] = refl
serials_are name i (None ∷ slots) = serials_are name (suc i) slots
serials_are name i (Some o ∷ slots) = ap (λ l. o.serial ∷ l) (serials_are name (suc i) slots)

place_above : (name : ℕ → ℕ) (i : ℕ) (slots : List Slot) (p : ℕ) → Among p (content.places_of (residents_from name i slots)) → i < p
place_above name i [] p a = absurd a
place_above name i (None ∷ slots) p a = let above = place_above name (suc i) slots p a in omega (arith, above)
place_above name i (Some o ∷ slots) p (inl e) = omega (arith, e)
place_above name i (Some o ∷ slots) p (inr a) = let above = place_above name (suc i) slots p a in omega (arith, above)

pub places_distinct : (name : ℕ → ℕ) (i : ℕ) (slots : List Slot) → AllDistinct (content.places_of (residents_from name i slots))
places_distinct name i [] = tt
places_distinct name i (None ∷ slots) = places_distinct name (suc i) slots
places_distinct name i (Some o ∷ slots) = (λ a. let above = place_above name (suc i) slots (suc i) a in omega (arith, above), places_distinct name (suc i) slots)
