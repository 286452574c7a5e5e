-- Generations without objects.
use Rattle.std.proofs.Common.{◌≡◌, ◌⊎◌, ℕ, ◌-◌, List, [], Option, Some, None, refl, sym, ◌∙◌, inl, inr, arith}
use Rattle.std.specs.Prelude.{slice_get}
use Rattle.jm_blocks.specs.Objects.{Object}
use Rattle.jm_blocks.specs.Places.{lane_of}
use Rattle.jm_blocks.specs.Stores.{Blocks, objects_in}
use Rattle.jm_nursery.specs.Nurseries.{AreNurseries, lane_cells, young_cells}
use Rattle.jm_copy.specs.Condemned.{objects_at, object_of_store}
use Rattle.jm_gen_heap.specs.Generations.{Generations, lying, old_lane}
use Rattle.jm_gen_heap.specs.Invariant.{AreGenerations}
use Rattle.jm_gen_heap.proofs.Lanes.{AreLaned, LiesYoung, LiesOld, lies_where}
use Rattle.jm_gen_heap.proofs.CountingResidents.{no_cells, none_has, counted_none}

module _ (limit : ℕ) (nurseries : List Blocks) (tenured : Blocks) (r : AreNurseries nurseries) (none : young_cells nurseries ≡ 0) (lane : tenured.lane ≡ old_lane) (bare : lane_cells tenured ≡ 0) where
  abbrev g : Generations
  g = record { limit = limit; next = 0; nurseries = nurseries; tenured = tenured; remembered = [] }

  laned : AreLaned g
  laned = record { nurseries = r; tenured = lane }

  no_young : (p : ℕ) (a : Object) → objects_at nurseries p ≡ Some a → ⊥
  unfolding objects_at
  no_young p a e = by (slice_get nurseries (lane_of p - 1)) refl e
    where
      by : (x : Option Blocks) → slice_get nurseries (lane_of p - 1) ≡ x → object_of_store x p ≡ Some a → ⊥
      by None f k = cc
      by (Some s) f k = let here = no_cells s (none_has nurseries (lane_of p - 1) s none f) p in let both : None ≡ Some a = sym here ∙ k in cc

  no_old : (p : ℕ) (a : Object) → objects_in tenured p ≡ Some a → ⊥
  no_old p a e = let both : None ≡ Some a = sym (no_cells tenured bare p) ∙ e in cc

  nothing_lies : (p : ℕ) (a : Object) → lying g p ≡ Some a → ⊥
  nothing_lies p a e = by (lies_where laned p a e)
    where
      by : LiesYoung g p a ⊎ LiesOld g p a → ⊥
      by (inl y) = no_young p a y.lies
      by (inr o) = no_old p a o.lies

  pub started : AreGenerations g
  started = record {
    nurseries = r;
    tenured = lane;
    told = record { apart = λ p q a b e f s. absurd (nothing_lies p a e); below = λ p a e. absurd (nothing_lies p a e); closed = λ p q a e k. absurd (nothing_lies p a e) };
    aged = record { young = λ p a e. absurd (no_young p a e); old = λ p a e. absurd (no_old p a e) };
    remembered = record { covers = λ p q a e k y. absurd (no_old p a e); old = λ p k. absurd k };
    counted = counted_none g none bare;
    within = (omega (arith, none, bare));
  }
