-- Stores that are handed over.
use Rattle.std.proofs.Common.{◌≡◌, ◌≢◌, ℕ, Option, Some, None, refl, sym, ◌∙◌}
use Rattle.jm_blocks.specs.Objects.{Object}
use Rattle.jm_blocks.specs.Stores.{Blocks, objects_in}
use Rattle.jm_blocks.proofs.Placing.{lies_in}
use Rattle.jm_gen_heap.specs.Generations.{old_lane}

-- a store of the old lane that has the objects of one of another has none
pub other_lane : (t before : Blocks) → before.lane ≡ old_lane → t.lane ≢ old_lane → ((p : ℕ) → objects_in t p ≡ objects_in before p) → (p : ℕ) → objects_in before p ≡ None
other_lane t before old away same p = by (objects_in before p) refl
  where
    by : (o : Option Object) → objects_in before p ≡ o → objects_in before p ≡ None
    by None e = e
    by (Some o) e =
        let there = (lies_in before p o e).lane in
        let here = (lies_in t p o (same p ∙ e)).lane in
        absurd (away (sym here ∙ there ∙ old))
