-- What a write to a slot changes.
use Rattle.std.proofs.Common.{◌≡◌, ◌≢◌, ℕ, zero, suc, ◌+◌, ◌<◌, ◌^◌, List, [], ◌∷◌, ◌++◌, Option, Some, None, refl, sym, ap, ◌∙◌, subst, length, arith, get_or}
use Rattle.std.specs.Prelude.{slice_get, slice_set, slice_index_or}
use Rattle.std.proofs.lemmas.List.Sums.{sum_by-set, sum_by_push}
use Rattle.std.proofs.lemmas.List.{append_assoc, length-set}
use Rattle.std.proofs.lemmas.Option.{get_or_from_slice_get, slice_get_within, slice_get-get_or}
use Rattle.jm_program.proofs.Sequences.{got_last, got_written, got_unwritten, got_before_last}
use Rattle.jm_values.specs.declared.value.Value.{Value}
use Rattle.jm_heap.specs.Cells.{class_size}
use Rattle.jm_heap.specs.Slots.{object_in, object_of, object_cells, slot_cells, slots_cells, set_value, with_value, Object, Slot}
use Rattle.jm_heap.specs.Stored.{AreTaken, Stored, StoredAll, Written}

pub get_past : {X : Type 0} (xs : List X) → slice_get xs (length xs) ≡ None
get_past [] = refl
get_past (y ∷ xs) = get_past xs

-- the objects at other places stay
pub others_set : (slots : List Slot) (m : ℕ) (s : Slot) (q : ℕ) → q ≢ suc m → object_in (slice_set slots m s) q ≡ object_in slots q
others_set slots m s zero h = refl
others_set slots m s (suc j) h = ap object_of (got_unwritten slots m j s (λ e. h (ap suc e)))

pub others_push : (slots : List Slot) (s : Slot) (q : ℕ) → q ≢ suc (length slots) → object_in (slots ++ s ∷ []) q ≡ object_in slots q
others_push slots s zero h = refl
others_push slots s (suc j) h = ap object_of (got_before_last slots s j (λ e. h (ap suc e)))

-- cells at a write
pub cells_set : (slots : List Slot) (m : ℕ) (s t : Slot) → slice_get slots m ≡ Some s → slots_cells (slice_set slots m t) + slot_cells s ≡ slots_cells slots + slot_cells t
cells_set slots m s t e =
    let within : m < length slots = slice_get_within slots m s e in
    let at : get_or slots m s ≡ s = get_or_from_slice_get slots m s s e in
    subst (λ x. slots_cells (slice_set slots m t) + slot_cells x ≡ slots_cells slots + slot_cells t) at (sum_by-set slot_cells slots m t s within)

-- a place with an object has a slot
pub slot_at : (slots : List Slot) (m : ℕ) (a : Object) → object_in slots (suc m) ≡ Some a → slice_get slots m ≡ Some (Some a)
slot_at slots m a e = by (slice_get slots m) e
  where
    by : (s : Option Slot) → object_of s ≡ Some a → s ≡ Some (Some a)
    by None h = cc
    by (Some s) h = ap Some h

written_at : (slots : List Slot) (m i : ℕ) (v : Value) (o : Object) → slice_get slots m ≡ Some (Some o) → Written slots (slice_set slots m (Some (set_value o i v))) (suc m) i v
written_at slots m i v o e = record {
  others = λ q h. others_set slots m (Some new) q h;
  written = λ a h k. let same : o ≡ a = one a h in (new, ap object_of (got_written slots m (Some new) (slice_get_within slots m (Some o) e)), record { serial = ap (λ x. x.serial) same; class = ap (λ x. x.class) same; values = ap (λ x. slice_set x.values i v) same });
  cells = let total : slots_cells (slice_set slots m (Some new)) + object_cells o ≡ slots_cells slots + object_cells new = cells_set slots m (Some o) (Some new) e in
      let many : class_size o.class (length (slice_set o.values i v)) ≡ class_size o.class (length o.values) = ap (class_size o.class) (length-set o.values i v) in
      omega (arith, total, many);
  many = length-set slots m (Some new);
}
  where
    new : Object
    new = set_value o i v

    one : (a : Object) → object_of (slice_get slots m) ≡ Some a → o ≡ a
    one a h = let k : object_of (Some (Some o)) ≡ Some a = subst (λ s. object_of s ≡ Some a) e h in cc

-- the slot that is read where an object lies
pub slot_read : (slots : List Slot) (p m : ℕ) (s : Slot) (a : Object) → p ≡ suc m → s ≡ slice_index_or slots m s → object_in slots p ≡ Some a → s ≡ Some a
slot_read slots p m s a e r h =
    let there : slice_get slots m ≡ Some (Some a) = slot_at slots m a (subst (λ q. object_in slots q ≡ Some a) e h) in
    let within : m < length slots = slice_get_within slots m (Some a) there in
    let read : slice_get slots m ≡ Some s = slice_get-get_or slots m s within ∙ ap Some (sym r) in
    cc

-- a write of one value, from what the code read
pub write_at : (slots : List Slot) (p m i : ℕ) (v : Value) (s : Slot) (a : Object) → p ≡ suc m → s ≡ slice_index_or slots m s → object_in slots p ≡ Some a → Written slots (slice_set slots m (with_value s i v)) p i v
write_at slots p m i v s a e r h =
    let there : slice_get slots m ≡ Some (Some a) = slot_at slots m a (subst (λ q. object_in slots q ≡ Some a) e h) in
    let taken : Some a ≡ s = sym (slot_read slots p m s a e r h) in
    subst (λ q. Written slots (slice_set slots m (with_value s i v)) q i v) (sym e) (subst (λ (t : Slot). Written slots (slice_set slots m (with_value t i v)) (suc m) i v) taken (written_at slots m i v a there))

-- an object comes to a free slot, or to a new one
pub stored_in_free : (slots : List Slot) (p m : ℕ) (o : Object) → p ≡ suc m → slice_get slots m ≡ Some None → length slots < 2 ^ 63 → Stored slots (slice_set slots m (Some o)) p o
stored_in_free slots p m o e found few =
    subst (λ q. Stored slots (slice_set slots m (Some o)) q o) (sym e) (record {
      fresh = ap object_of found;
      stored = ap object_of (got_written slots m (Some o) (slice_get_within slots m None found));
      others = λ q h. others_set slots m (Some o) q h;
      cells = let total : slots_cells (slice_set slots m (Some o)) + 0 ≡ slots_cells slots + object_cells o = cells_set slots m None (Some o) found in omega (arith, total);
      few = let same : length (slice_set slots m (Some o)) ≡ length slots = length-set slots m (Some o) in omega (arith, same, few);
    })

pub stored_at_end : (slots : List Slot) (p : ℕ) (o : Object) → p ≡ suc (length slots) → length slots < 9223372036854775807 → Stored slots (slots ++ Some o ∷ []) p o
stored_at_end slots p o e few =
    subst (λ q. Stored slots (slots ++ Some o ∷ []) q o) (sym e) (record {
      fresh = ap object_of (get_past slots);
      stored = ap object_of (got_last slots (Some o));
      others = λ q h. others_push slots (Some o) q h;
      cells = sum_by_push slot_cells slots (Some o);
      few = let many : length (slots ++ Some o ∷ []) ≡ suc (length slots) = longer slots in omega (arith, many, few);
    })
  where
    longer : (xs : List Slot) → length (xs ++ Some o ∷ []) ≡ suc (length xs)
    longer [] = refl
    longer (x ∷ xs) = ap suc (longer xs)

-- the first of slots in which objects lie, and the rest
pub is_taken : (s : Slot) (slots : List Slot) → AreTaken (s ∷ slots) → (a : Object) × (s ≡ Some a)
is_taken None slots h = absurd h
is_taken (Some a) slots h = (a, refl)

pub rest_taken : (s : Slot) (slots : List Slot) → AreTaken (s ∷ slots) → AreTaken slots
rest_taken None slots h = absurd h
rest_taken (Some a) slots h = h

-- what is still to be stored, after one more
pub stored_one_more : (first now then last : List Slot) (places places_then : List ℕ) (ps : List ℕ) (p : ℕ) (a : Object) (s : Slot) (rest all : List Slot) → s ≡ Some a → Stored now then p a → places_then ≡ places ++ p ∷ [] → ((after : List Slot) (qs : List ℕ) → StoredAll now after qs (s ∷ rest) → StoredAll first after (places ++ qs) all) → StoredAll then last ps rest → StoredAll first last (places_then ++ ps) all
stored_one_more first now then last places places_then ps p a s rest all e one more so_far later =
    let whole : StoredAll now last (p ∷ ps) (s ∷ rest) = subst (λ t. StoredAll now last (p ∷ ps) (t ∷ rest)) (sym e) (then, one, later) in
    let list : places ++ p ∷ ps ≡ places_then ++ ps = sym (ap (λ l. l ++ ps) more ∙ append_assoc places (p ∷ []) ps) in
    subst (λ l. StoredAll first last l all) list (so_far last (p ∷ ps) whole)
