-- The array of a literal's chars, whose elements are set one after the other.
use Rattle.std.proofs.Common.{◌≡◌, ℕ, zero, suc, ◌+◌, ◌-◌, ◌<◌, List, [], ◌∷◌, ◌++◌, Some, refl, sym, ap, ◌∙◌, subst, length, get_or, arith, add-one}
use Rattle.std.proofs.Common.{length-append}
use Rattle.std.specs.Prelude.{map, pos, slice_get, slice_set}
use Rattle.std.proofs.lemmas.Option.{slice_get-get_or}
use Rattle.jm_program.specs.declared.descriptor.BaseType.TheVariants as base
use Rattle.jm_program.proofs.Sequences.{got_last}
use Rattle.jm_values.specs.declared.value.Value.{Value}
use Rattle.jm_values.specs.declared.value.Value.TheVariants.{Int}
use Rattle.jm_values.specs.Objects.{ObjectOf, copies}
use Rattle.jm_values.specs.Content.{Content, HasValue, IsSet, serial_at, object_at}
use Rattle.jm_heap.specs.declared.class_id.ClassId.{ClassId}
use Rattle.jm_heap.specs.declared.class_id.ClassId.TheVariants.{Array}
use Rattle.jm_heap.specs.declared.class_id.Element.TheVariants.{Base}
use Rattle.jm_heap.specs.Packing.{Fits, kind_of}
use Rattle.jm_heap.specs.declared.storage.Storage.TheVariants as kind
use Rattle.jm_machine.specs.FirstObjects.{Holds, HasLast, Turns, blank_chars, char_array}
use Rattle.jm_machine.proofs.Holding.{last_set, only_object}

abbrev pub chars_of : List Value → ObjectOf ClassId
chars_of vs = record { type = Array (record { dimensions = 0; element = Base base.Char }); values = vs }

-- the elements once so many are set
abbrev pub filled : List ℕ → ℕ → List Value
filled [] n = []
filled (u ∷ us) zero = Int (pos 0) ∷ filled us zero
filled (u ∷ us) (suc n) = Int (pos u) ∷ filled us n

none_filled : (us : List ℕ) → copies (length us) (Int (pos 0)) ≡ filled us 0
none_filled [] = refl
none_filled (u ∷ us) = ap (λ vs. Int (pos 0) ∷ vs) (none_filled us)

all_filled : (us : List ℕ) → filled us (length us) ≡ map (λ u. Int (pos u)) us
all_filled [] = refl
all_filled (u ∷ us) = ap (λ vs. Int (pos u) ∷ vs) (all_filled us)

more_filled : (us : List ℕ) (n u : ℕ) → slice_get us n ≡ Some u → slice_set (filled us n) n (Int (pos u)) ≡ filled us (suc n)
more_filled [] n u e = cc
more_filled (x ∷ us) zero u e = let same : x ≡ u = cc in ap (λ y. Int (pos y) ∷ filled us zero) (sym same)
more_filled (x ∷ us) (suc n) u e = ap (λ vs. Int (pos x) ∷ vs) (more_filled us n u e)

next_is : (us : List ℕ) (n u : ℕ) → slice_get us n ≡ Some u → slice_get (filled us n) n ≡ Some (Int (pos 0))
next_is [] n u e = cc
next_is (x ∷ us) zero u e = refl
next_is (x ∷ us) (suc n) u e = next_is us n u e

abbrev pub filled_chars : List ℕ → ℕ → ObjectOf ClassId
filled_chars us n = chars_of (filled us n)

pub first_filled : (c : Content ClassId) (roots us : List ℕ) → Turns c c roots (blank_chars us) (filled_chars us 0)
first_filled c roots us = record {
  limit = refl;
  holds = λ front h. subst (λ vs. Holds c roots (front ++ chars_of vs ∷ [])) (none_filled us) h;
}

pub last_filled : (old new : Content ClassId) (roots us : List ℕ) (n : ℕ) → n ≡ length us → Turns old new roots (blank_chars us) (filled_chars us n)
    → Turns old new roots (blank_chars us) (char_array us)
last_filled old new roots us n e t = subst (Turns old new roots (blank_chars us)) (ap (filled_chars us) e ∙ ap chars_of (all_filled us)) t

-- there are as many roots
last_root : (c : Content ClassId) (roots : List ℕ) (front : List (ObjectOf ClassId)) (o : ObjectOf ClassId) → Holds c roots (front ++ o ∷ [])
    → length roots ≡ length front + 1
last_root c roots front o h = h.many ∙ length-append front (o ∷ [])

-- the element that is set, and what comes of it
module _ (old now : Content ClassId) (roots us : List ℕ) (p n many : ℕ) (l : HasLast old roots (blank_chars us))
    (t : Turns old now roots (blank_chars us) (filled_chars us n))
    (count : many ≡ length roots) (at : slice_get roots (many - 1) ≡ Some p) (within : n < length us) where
  here : slice_get us n ≡ Some (get_or us n 0)
  here = slice_get-get_or us n 0 within

  last_at : (front : List (ObjectOf ClassId)) → Holds old roots (front ++ blank_chars us ∷ []) → slice_get roots (length front) ≡ Some p
  last_at front h =
      let long = last_root old roots front (blank_chars us) h in
      let same : many - 1 ≡ length front = omega arith in
      subst (λ k. slice_get roots k ≡ Some p) same at

  pub element_there : (v : Value) × HasValue now p n v
  element_there =
      let h = t.holds l.front l.holds in
      let lies = h.places (length l.front) p (last_at l.front l.holds) in
      let is = h.objects_are (length l.front) (filled_chars us n) (got_last l.front (filled_chars us n)) in
      (Int (pos 0), (length l.front, filled_chars us n, lies, is, next_is us n (get_or us n 0) here))

  pub element_fits : (v : Value) → Fits kind.Chars v → (k : ℕ) (o : ObjectOf ClassId) → serial_at now p ≡ Some k → object_at now k ≡ Some o
      → Fits (kind_of o.type) v
  unfolding element_there
  element_fits v fits k o lies is =
      let there = element_there.1 in
      let same = only_object now p there.0 k there.1 o there.2 there.3 lies is in
      subst (λ x. Fits (kind_of x.type) v) (sym same) fits

  pub element_set : (new : Content ClassId) (v : Value) → v ≡ Int (pos (get_or us n 0)) → IsSet now new p n v
      → Turns old new roots (blank_chars us) (filled_chars us (n + 1))
  element_set new v char set = let s = subst (IsSet now new p n) char set in record {
    limit = s.limit ∙ t.limit;
    holds = λ front h. subst (λ vs. Holds new roots (front ++ chars_of vs ∷ []))
        (more_filled us n (get_or us n 0) here ∙ ap (filled us) (sym (add-one n)))
        (last_set now new roots front (filled_chars us n) p n (Int (pos (get_or us n 0))) (t.holds front h) (last_at front h) s);
  }
