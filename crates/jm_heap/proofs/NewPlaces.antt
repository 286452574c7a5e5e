-- Where the objects lie that are resident and were not before.
use Rattle.std.proofs.Common.{◌≡◌, ◌≢◌, ◌⊎◌, ℕ, ◌+◌, ◌-◌, ◌<◌, ◌≤◌, List, [], length, Some, Bool, true, false, refl, ap, ◌∙◌, subst, inl, inr, arith}
use Rattle.std.specs.Prelude.{nat_eq, nat_lt, slice_get}
use Rattle.std.proofs.lemmas.Bool.Decides.{eqb_tells, nat_tests}
use Rattle.jm_values.proofs.Lists.{get_there}
use Rattle.jm_values.specs.Content.{Content, IsSound, serial_at, object_at}
use Rattle.jm_values.proofs.SoundContents.{place_of_serial, serial_below, object_of_place}
use Rattle.jm_heap.specs.Allocation.{AllPlaces, NewLie}
use Rattle.jm_heap.specs.Collection.{AreAsBeforeMaking, IsAsBefore, IsAsBeforeMaking}

module _ {T : Type 0} (lies : ℕ → Type 0) (old new : Content T) where
  -- nothing is new where all was there before
  pub none_new : IsAsBefore old new → NewLie lies old new
  none_new before p k at none =
      let there = object_of_place new p k at in
      let was : object_at old k ≡ Some there.0 = before k there.0 there.1 in
      absurd (cc)

  -- nor where nothing has changed
  pub none_new_same : new ≡ old → NewLie lies old new
  none_new_same same = none_new (λ k o h. subst (λ c. object_at c k ≡ Some o) same h)

  -- all but what has the next serial was there before
  pub new_by_serial : IsAsBeforeMaking old new → ((p : ℕ) → serial_at new p ≡ Some old.next → lies p) → NewLie lies old new
  new_by_serial before next p k at none = by (eqb_tells k old.next)
    where
      by : ((nat_eq k old.next ≡ true) × (k ≡ old.next)) ⊎ ((nat_eq k old.next ≡ false) × (k ≢ old.next)) → lies p
      by (inl t) = next p (subst (λ j. serial_at new p ≡ Some j) t.1 at)
      by (inr t) =
          let there = object_of_place new p k at in
          let was : object_at old k ≡ Some there.0 = before k there.0 t.1 there.1 in
          absurd (cc)

  -- one object was made, at a place that lies so
  pub new_there : IsSound new → IsAsBeforeMaking old new → (place : ℕ) → serial_at new place ≡ Some old.next → lies place → NewLie lies old new
  new_there sound before place placed lie =
      new_by_serial before (λ p at. subst lies (place_of_serial new sound place p old.next placed at) lie)

  -- none was made
  pub none_made : IsSound new → IsAsBeforeMaking old new → new.next ≡ old.next → NewLie lies old new
  none_made sound before next = new_by_serial before (λ p at. absurd (beyond (serial_below new sound p old.next at)))
    where
      beyond : old.next < new.next → ⊥
      beyond h = omega (arith, h, next)

  -- many were made, at places that lie so
  pub new_all_there : IsSound new → AreAsBeforeMaking old new → (places : List ℕ) → new.next ≡ old.next + length places
      → ((i p : ℕ) → slice_get places i ≡ Some p → serial_at new p ≡ Some (old.next + i)) → AllPlaces lies places → NewLie lies old new
  new_all_there sound before places next placed lie p k at none = by (nat_lt k old.next) refl
    where
      by : (b : Bool) → nat_lt k old.next ≡ b → lies p
      by true t =
          let there = object_of_place new p k at in
          let less : k < old.next = grind (arith, nat_tests) in
          let was : object_at old k ≡ Some there.0 = before k there.0 less there.1 in
          absurd (cc)
      by false t =
          let most : old.next ≤ k = grind (arith, nat_tests) in
          let below = serial_below new sound p k at in
          let within : k - old.next < length places = omega (arith, below, next, most) in
          let one = get_there places (k - old.next) within in
          let serial : serial_at new one.0 ≡ Some k = placed (k - old.next) one.0 one.1 ∙ ap Some (omega (arith, most)) in
          subst lies (place_of_serial new sound one.0 p k serial at) (lie (k - old.next) one.0 one.1)

  -- none was made, of many
  pub none_made_of_all : IsSound new → AreAsBeforeMaking old new → new.next ≡ old.next → NewLie lies old new
  none_made_of_all sound before next =
      new_all_there sound before [] (omega (arith, next)) (λ i p e. cc) (λ i p e. cc)
