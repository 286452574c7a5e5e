-- What lies at a place lies in the store of its lane.
use Rattle.std.proofs.Common.{◌≡◌, ◌≢◌, ◌⊎◌, ℕ, ◌+◌, ◌-◌, List, [], ◌∷◌, Option, Some, None, refl, sym, ap, ◌∙◌, inl, inr, length, arith, length-append}
use Rattle.std.specs.Prelude.{slice_get}
use Rattle.std.proofs.lemmas.Bool.Decides.{eqb_tells}
use Rattle.jm_program.proofs.Sequences.{got_last, got_before_last}
use Rattle.jm_blocks.specs.Objects.{Object}
use Rattle.jm_blocks.specs.Places.{lane_of}
use Rattle.jm_blocks.specs.Stores.{Blocks, objects_in}
use Rattle.jm_blocks.proofs.Placing.{lies_in}
use Rattle.jm_nursery.specs.Nurseries.{AreNurseries}
use Rattle.jm_copy.specs.Condemned.{AreLanes, objects_at, object_of_store}
use Rattle.jm_copy.proofs.Numbering.{lane_there}
use Rattle.jm_gen_heap.specs.Generations.{Generations, IsYoung, stores_of, lying, old_lane}
use Rattle.jm_gen_heap.proofs.Showing.{Told}

-- sixteen nurseries, and the old objects in the lane after theirs
pub record AreLaned (g : Generations) : Type 0 where
  pub nurseries : AreNurseries g.nurseries
  pub tenured : g.tenured.lane ≡ old_lane

-- an object lies in a nursery, or is an old one
pub record LiesYoung (g : Generations) (p : ℕ) (a : Object) : Type 0 where
  pub young : IsYoung p
  pub lies : objects_at g.nurseries p ≡ Some a

pub record LiesOld (g : Generations) (p : ℕ) (a : Object) : Type 0 where
  pub lane : lane_of p ≡ old_lane
  pub lies : objects_in g.tenured p ≡ Some a

pub nursery_lanes : (stores : List Blocks) → AreNurseries stores → AreLanes stores
nursery_lanes stores n = record { many = omega (arith, n.many); numbered = n.numbered }

module _ {g : Generations} (l : AreLaned g) where
  pub lanes : AreLanes (stores_of g)
  lanes = record {
    many = omega (arith, length-append g.nurseries (g.tenured ∷ []), l.nurseries.many);
    numbered = λ n s e. by n s e (eqb_tells n (length g.nurseries));
  }
    where
      by : (n : ℕ) (s : Blocks) → slice_get (stores_of g) n ≡ Some s → Told n (length g.nurseries) → s.lane ≡ n + 1
      by n s e (inl t) =
          let end : Some s ≡ Some g.tenured = sym e ∙ ap (slice_get (stores_of g)) t.1 ∙ got_last g.nurseries g.tenured in
          let same : s ≡ g.tenured = cc in
          let lane : s.lane ≡ old_lane = ap (λ x. x.lane) same ∙ l.tenured in
          omega (arith, lane, t.1, l.nurseries.many)
      by n s e (inr t) = l.nurseries.numbered n s (sym (got_before_last g.nurseries g.tenured n t.1) ∙ e)

  pub lying_young : (p : ℕ) → IsYoung p → lying g p ≡ objects_at g.nurseries p
  unfolding objects_at
  lying_young p y = ap (λ s. object_of_store s p) (got_before_last g.nurseries g.tenured (lane_of p - 1) (λ e. omega (arith, e, l.nurseries.many, y.some, y.few)))

  pub lying_old : (p : ℕ) → lane_of p ≡ old_lane → lying g p ≡ objects_in g.tenured p
  unfolding objects_at
  lying_old p e =
      let number : lane_of p - 1 ≡ length g.nurseries = omega (arith, e, l.nurseries.many) in
      ap (λ n. object_of_store (slice_get (stores_of g) n) p) number ∙ ap (λ s. object_of_store s p) (got_last g.nurseries g.tenured)

  pub lies_where : (p : ℕ) (a : Object) → lying g p ≡ Some a → LiesYoung g p a ⊎ LiesOld g p a
  lies_where p a e = by (eqb_tells (lane_of p) old_lane)
    where
      by : Told (lane_of p) old_lane → LiesYoung g p a ⊎ LiesOld g p a
      by (inl t) = inr (record { lane = t.1; lies = sym (lying_old p t.1) ∙ e })
      by (inr t) =
          let there = lane_there (stores_of g) p a lanes e in
          let many = length-append g.nurseries (g.tenured ∷ []) in
          let away : lane_of p ≢ 17 = t.1 in
          let young : IsYoung p = record { some = there.0; few = omega (arith, there.1, many, l.nurseries.many, away) } in
          inl (record { young = young; lies = sym (lying_young p young) ∙ e })

  pub young_lies : (p : ℕ) (a : Object) → objects_at g.nurseries p ≡ Some a → IsYoung p × (lying g p ≡ Some a)
  young_lies p a e =
      let there = lane_there g.nurseries p a (nursery_lanes g.nurseries l.nurseries) e in
      let young : IsYoung p = record { some = there.0; few = omega (arith, there.1, l.nurseries.many) } in
      (young, lying_young p young ∙ e)

  pub old_lies : (p : ℕ) (a : Object) → objects_in g.tenured p ≡ Some a → (lane_of p ≡ old_lane) × (lying g p ≡ Some a)
  old_lies p a e =
      let lane : lane_of p ≡ old_lane = (lies_in g.tenured p a e).lane ∙ l.tenured in
      (lane, lying_old p lane ∙ e)

-- no place is in both
pub not_both : (p : ℕ) → IsYoung p → lane_of p ≡ old_lane → ⊥
not_both p y e = omega (arith, e, y.few)

-- generations that have the same in each lane
pub same_lying : {g h : Generations} → AreLaned g → AreLaned h → (p : ℕ) → (IsYoung p → objects_at h.nurseries p ≡ objects_at g.nurseries p) → (lane_of p ≡ old_lane → objects_in h.tenured p ≡ objects_in g.tenured p) → lying h p ≡ lying g p
same_lying {g = g} {h = h} l m p young old = by (lying g p) refl (lying h p) refl
  where
    in_young : IsYoung p → lying h p ≡ lying g p
    in_young y = lying_young m p y ∙ young y ∙ sym (lying_young l p y)

    in_old : lane_of p ≡ old_lane → lying h p ≡ lying g p
    in_old e = lying_old m p e ∙ old e ∙ sym (lying_old l p e)

    of_old : {a : Object} → LiesYoung g p a ⊎ LiesOld g p a → lying h p ≡ lying g p
    of_old (inl x) = in_young x.young
    of_old (inr x) = in_old x.lane

    of_new : {a : Object} → LiesYoung h p a ⊎ LiesOld h p a → lying h p ≡ lying g p
    of_new (inl x) = in_young x.young
    of_new (inr x) = in_old x.lane

    by : (x : Option Object) → lying g p ≡ x → (y : Option Object) → lying h p ≡ y → lying h p ≡ lying g p
    by (Some a) e y f = of_old (lies_where l p a e)
    by None e (Some b) f = of_new (lies_where m p b f)
    by None e None f = f ∙ sym e
