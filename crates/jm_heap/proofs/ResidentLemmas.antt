-- The serials of residents, in another order.
use Rattle.std.proofs.Common.{◌≡◌, ◌⊎◌, ℕ, zero, suc, ◌≤◌, List, [], ◌∷◌, Some, true, false, refl, sym, ap, ◌∙◌, subst, inl, inr, arith}
use Rattle.std.specs.Prelude.{nat_eq, sum_by}
use Rattle.std.specs.Ordering.{nat_cmp}
use Rattle.std.specs.List.Sorted.{IsPermutation, IsSorted}
use Rattle.std.proofs.lemmas.Bool.Decides.{eqb_tells}
use Rattle.std.proofs.lemmas.List.Sums.{sum_by-cons}
use Rattle.std.proofs.lemmas.List.Sorted.{sum_by-IsPermutation}
use Rattle.jm_values.specs.Shape.{Among}
use Rattle.jm_values.specs.Reach.{AllDistinct}
use Rattle.jm_values.specs.Content.{Content, serial_at}
use Rattle.jm_heap.specs.Residents.{AreResident}
use Rattle.jm_heap.specs.Slots.{AreSound, object_in, object_of, serial_of, serials_of, content_of, Object, Slot}
use Rattle.jm_heap.specs.declared.class_id.ClassId.{ClassId}
use Rattle.jm_heap.proofs.CellLemmas.{Told}
use Rattle.jm_heap.proofs.ContentLemmas.{apart_of, serial_of_place}
use Rattle.jm_heap.proofs.SerialLemmas.{serial_lies, serial_listed, serials_distinct}
use Rattle.jm_heap.proofs.SlotLemmas.{slot_at}
use Rattle.jm_heap.proofs.SoundLemmas.{behind}

-- how often a number stands in a list
abbrev one_if : ℕ → ℕ → ℕ
one_if k x = elim (nat_eq k x) as (λ _. ℕ) [ true ↦ 1 | false ↦ 0 ]

abbrev times : ℕ → List ℕ → ℕ
times k xs = sum_by (one_if k) xs

pub one_here : (k x : ℕ) → nat_eq k x ≡ true → one_if k x ≡ 1
one_here k x e = ap (λ b. elim b as (λ _. ℕ) [ true ↦ 1 | false ↦ 0 ]) e

pub none_here : (k x : ℕ) → nat_eq k x ≡ false → one_if k x ≡ 0
none_here k x e = ap (λ b. elim b as (λ _. ℕ) [ true ↦ 1 | false ↦ 0 ]) e

pub times_among : (k : ℕ) (xs : List ℕ) → Among k xs → 1 ≤ times k xs
times_among k [] a = absurd a
times_among k (x ∷ xs) a = by (times_among k xs) (eqb_tells k x) a
  where
    by : (Among k xs → 1 ≤ times k xs) → Told k x → (k ≡ x) ⊎ Among k xs → 1 ≤ times k (x ∷ xs)
    by later (inl t) h = let one = one_here k x t.0 in let total = sum_by-cons (one_if k) x xs in omega (arith, one, total)
    by later (inr t) (inl h) = absurd (t.1 h)
    by later (inr t) (inr h) = let total = sum_by-cons (one_if k) x xs in omega (arith, later h, total)

pub among_times : (k : ℕ) (xs : List ℕ) → 1 ≤ times k xs → Among k xs
among_times k [] h = absurd (omega (arith, h))
among_times k (x ∷ xs) h = by (among_times k xs) (eqb_tells k x)
  where
    by : (1 ≤ times k xs → Among k xs) → Told k x → (k ≡ x) ⊎ Among k xs
    by later (inl t) = inl t.1
    by later (inr t) = let none = none_here k x t.0 in let total = sum_by-cons (one_if k) x xs in inr (later (omega (arith, none, total, h)))

pub none_if_not_among : (k : ℕ) (xs : List ℕ) → (Among k xs → ⊥) → times k xs ≡ 0
none_if_not_among k [] n = refl
none_if_not_among k (x ∷ xs) n = by (none_if_not_among k xs (λ a. n (inr a))) (eqb_tells k x)
  where
    by : times k xs ≡ 0 → Told k x → times k (x ∷ xs) ≡ 0
    by later (inl t) = absurd (n (inl t.1))
    by later (inr t) = let none = none_here k x t.0 in let total = sum_by-cons (one_if k) x xs in omega (arith, none, total, later)

pub times_distinct : (k : ℕ) (xs : List ℕ) → AllDistinct xs → times k xs ≤ 1
times_distinct k [] d = omega arith
times_distinct k (x ∷ xs) d = by (times_distinct k xs d.1) (eqb_tells k x)
  where
    by : times k xs ≤ 1 → Told k x → times k (x ∷ xs) ≤ 1
    by later (inl t) =
        let one = one_here k x t.0 in
        let total = sum_by-cons (one_if k) x xs in
        let none = none_if_not_among k xs (λ a. d.0 (subst (λ n. Among n xs) t.1 a)) in
        omega (arith, one, total, none)
    by later (inr t) = let none = none_here k x t.0 in let total = sum_by-cons (one_if k) x xs in omega (arith, none, total, later)

pub distinct_times : (xs : List ℕ) → ((k : ℕ) → times k xs ≤ 1) → AllDistinct xs
distinct_times [] h = tt
distinct_times (x ∷ xs) h = (λ a. twice (times_among x xs a) (eqb_tells x x), distinct_times xs (λ k. let total = sum_by-cons (one_if k) x xs in let few = h k in omega (arith, total, few)))
  where
    twice : 1 ≤ times x xs → Told x x → ⊥
    twice m (inl t) = let one = one_here x x t.0 in let total = sum_by-cons (one_if x) x xs in let few = h x in absurd (omega (arith, one, total, few, m))
    twice m (inr t) = t.1 refl

module _ (limit next : ℕ) (slots : List Slot) (s : AreSound next slots) (found sorted : List ℕ) (is : found ≡ serials_of slots) (moved : IsPermutation found sorted) where
  same_times : (k : ℕ) → times k sorted ≡ times k (serials_of slots)
  same_times k = sum_by-IsPermutation (one_if k) found sorted moved ∙ ap (times k) is

  listed : (k : ℕ) → Among k sorted → (p : ℕ) × (serial_at (content_of limit next slots) p ≡ Some k)
  listed k a =
      let many = times_among k sorted a in
      let same = same_times k in
      let lies = serial_lies slots k (among_times k (serials_of slots) (omega (arith, many, same))) in
      (suc lies.slot, serial_of_place limit next slots (suc lies.slot) ∙ ap (λ x. serial_of (object_of x)) lies.taken ∙ ap Some lies.serial)

  lies_listed : (k : ℕ) → (p : ℕ) × (serial_at (content_of limit next slots) p ≡ Some k) → Among k sorted
  lies_listed k h = at h.0 (behind (object_in slots h.0) k (sym (serial_of_place limit next slots h.0) ∙ h.1))
    where
      at : (p : ℕ) → (a : Object) × (object_in slots p ≡ Some a) × (a.serial ≡ k) → Among k sorted
      at zero x = cc
      at (suc i) x =
          let there = serial_listed slots i x.0 (slot_at slots i x.0 x.1) in
          let many = times_among k (serials_of slots) (subst (λ n. Among n (serials_of slots)) x.2 there) in
          let same = same_times k in
          among_times k sorted (omega (arith, many, same))

  resident_here : IsSorted nat_cmp sorted → AreResident (content_of limit next slots) sorted
  resident_here up = record {
    sorted = up;
    once = distinct_times sorted (λ k. let same = same_times k in let few = times_distinct k (serials_of slots) (serials_distinct slots (apart_of next slots s)) in omega (arith, same, few));
    same = λ k. (listed k, lies_listed k);
  }

pub are_resident : (limit next : ℕ) (slots : List Slot) (d : Content ClassId) → content_of limit next slots ≡ d → AreSound next slots → (found sorted : List ℕ) → found ≡ serials_of slots → IsPermutation found sorted → IsSorted nat_cmp sorted → AreResident d sorted
are_resident limit next slots d e s found sorted is moved up = subst (λ x. AreResident x sorted) e (resident_here limit next slots s found sorted is moved up)
