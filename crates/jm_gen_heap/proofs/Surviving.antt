-- The survivors lie in the first nursery or among the old objects.
use Rattle.std.proofs.Common.{◌≡◌, ◌≢◌, ℕ, zero, suc, ◌-◌, List, [], ◌∷◌, Option, Some, None, Bool, true, false, cond, refl, sym, ap, ◌∙◌, inl, inr, arith, eq-eqb, ◌||◌}
use Rattle.std.specs.Prelude.{slice_get, nat_eq}
use Rattle.jm_program.proofs.Numbers.{found_unequal}
use Rattle.jm_values.specs.declared.value.Value.{Value}
use Rattle.jm_values.specs.declared.value.Value.TheVariants.{Int, Long, Null, Ref}
use Rattle.jm_values.specs.Shape.{Among}
use Rattle.jm_values.specs.Rename.{stack_shape}
use Rattle.jm_blocks.specs.Places.{lane_of}
use Rattle.jm_blocks.specs.Stores.{Blocks, objects_in}
use Rattle.jm_blocks.proofs.Placing.{elsewhere}
use Rattle.jm_copy.specs.Condemned.{objects_at, object_of_store}
use Rattle.jm_copy.specs.Collected.{survivors, fresh}
use Rattle.jm_copy.specs.Pointing.{points_to}
use Rattle.jm_gen_heap.specs.Collections.{AreSurvivors}

-- nurseries that have the survivors have them in the first
pub first_has : {young : Blocks} {stores : List Blocks} → AreSurvivors young stores → (p : ℕ) → objects_at stores p ≡ objects_in young p
unfolding objects_at
first_has {young = young} {stores = stores} s p = by (lane_of p - 1) refl (slice_get stores (lane_of p - 1)) refl
  where
    lane : young.lane ≡ 1
    lane = s.nurseries.numbered zero young s.first

    away : (k : ℕ) → lane_of p - 1 ≡ suc k → None ≡ objects_in young p
    away k e = sym (elsewhere young p (λ f. absurd (omega (arith, e, f, lane))))

    by : (n : ℕ) → lane_of p - 1 ≡ n → (x : Option Blocks) → slice_get stores (lane_of p - 1) ≡ x → object_of_store x p ≡ objects_in young p
    by zero e x f =
        let here : x ≡ Some young = sym f ∙ ap (slice_get stores) e ∙ s.first in
        ap (λ y. object_of_store y p) here
    by (suc k) e None f = away k e
    by (suc k) e (Some t) f = s.others k t (sym (ap (slice_get stores) e) ∙ f) p ∙ away k e

-- those of the lane of the young lie there, the others among the old objects where none lay
pub survivors_young : (young before tenured : Blocks) (p : ℕ) → lane_of p ≡ young.lane → survivors young before tenured p ≡ objects_in young p
unfolding survivors
survivors_young young before tenured p e = ap (λ b. cond b (objects_in young p) (fresh (objects_in before p) (objects_in tenured p))) (eq-eqb (lane_of p) young.lane e)

pub survivors_old : (young before tenured : Blocks) (p : ℕ) → lane_of p ≢ young.lane → survivors young before tenured p ≡ fresh (objects_in before p) (objects_in tenured p)
unfolding survivors
survivors_old young before tenured p n = ap (λ b. cond b (objects_in young p) (fresh (objects_in before p) (objects_in tenured p))) (found_unequal (lane_of p) young.lane n)

-- values of which one names a place of a lane point there
pub pointing : (lane q : ℕ) (vs : List Value) → Among q (stack_shape.refs vs) → lane_of q ≡ lane → points_to lane vs ≡ true
pointing lane q [] a e = absurd a
pointing lane q (Int n ∷ vs) a e = pointing lane q vs a e
pointing lane q (Long n ∷ vs) a e = pointing lane q vs a e
pointing lane q (Null ∷ vs) a e = pointing lane q vs a e
pointing lane q (Ref p ∷ vs) (inl f) e = ap (λ b. b || points_to lane vs) (eq-eqb (lane_of p) lane (ap lane_of (sym f) ∙ e))
pointing lane q (Ref p ∷ vs) (inr a) e = ap (λ b. nat_eq (lane_of p) lane || b) (pointing lane q vs a e) ∙ either (nat_eq (lane_of p) lane)
  where
    either : (b : Bool) → (b || true) ≡ true
    either true = refl
    either false = refl
