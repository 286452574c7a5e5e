-- One step after another: a collection, and what comes after it.
use Rattle.std.proofs.Common.{◌≡◌, ◌≢◌, ℕ, ◌+◌, ◌<◌, ◌≤◌, ◌^◌, List, Some, sym, ap, ◌∙◌, subst}
use Rattle.std.specs.Prelude.{map}
use Rattle.jm_values.specs.Shape.{Among}
use Rattle.jm_values.specs.Objects.{ObjectOf, refs_of, cells_of, size_by}
use Rattle.jm_values.specs.Reach.{root, field, reached_cells}
use Rattle.jm_values.specs.Content.{Content, Kept, Made, Reached, used_by, object_at, name_of, serial_at}
use Rattle.jm_values.proofs.Reaching.{reach_within}
use Rattle.jm_values.proofs.Agreeing.{cells_agree}
use Rattle.jm_heap.specs.Allocation.{MadeHere}
use Rattle.jm_heap.specs.Cells.{class_size}
use Rattle.jm_heap.specs.Collection.{IsAsBefore, IsAsBeforeMaking}
use Rattle.jm_heap.specs.declared.class_id.ClassId.{ClassId}

module _ {old mid : Content ClassId} {roots moved : List ℕ} (g : Kept old roots mid moved) where
  abbrev InBoth : ℕ → Type 0
  InBoth k = Reached old roots k × Reached mid moved k

  -- what was reached still is
  pub still_reached : (k : ℕ) → Reached old roots k → Reached mid moved k
  still_reached k r = (reach_within InBoth at_root over k r).1
    where
      at_root : (j : ℕ) → Among j (map (name_of old) roots) → InBoth j
      at_root j a = (root j a, root j (subst (λ l. Among j l) (sym g.names) a))

      over : (i j : ℕ) → InBoth i → Among j (refs_of (object_at old i)) → InBoth j
      over i j b a = (field i j b.0 a, field i j b.1 (subst (λ o. Among j (refs_of o)) (sym (g.reached i b.0)) a))

  -- and takes as many cells
  pub still_used : mid.next ≡ old.next → used_by class_size mid moved ≡ used_by class_size old roots
  still_used next =
      ap (λ n. reached_cells class_size n (object_at mid) (map (name_of mid) moved)) next
      ∙ ap (λ l. reached_cells class_size old.next (object_at mid) l) g.names
      ∙ sym (cells_agree class_size class_size (object_at old) (object_at mid) old.next (map (name_of old) roots) (λ k r. ap refs_of (sym (g.reached k r))) (λ k r. ap (λ o. cells_of class_size o) (sym (g.reached k r))))

  -- what is kept twice is kept
  pub kept_twice : (new : Content ClassId) (again : List ℕ) → Kept mid moved new again → Kept old roots new again
  kept_twice new again h = record {
    limit = h.limit ∙ g.limit;
    sound = h.sound;
    names = h.names ∙ g.names;
    resident = h.resident;
    reached = λ k r. h.reached k (still_reached k r) ∙ g.reached k r;
  }

  -- an object that is made after what was kept is made
  pub made_after : mid.next ≡ old.next → (new : Content ClassId) (p : ℕ) (o : ObjectOf ClassId) → MadeHere mid new p o → Made class_size old roots new moved p o
  made_after next new p o m =
      let made = m.made moved g.resident in
      record {
        kept = kept_twice new moved made.kept;
        next = made.next ∙ ap (λ n. n + 1) next;
        placed = subst (λ n. serial_at new p ≡ Some n) next made.placed;
        filled = subst (λ n. object_at new n ≡ Some o) next made.filled;
        fits = subst (λ n. n + size_by class_size o ≤ old.limit) (still_used next) (subst (λ n. used_by class_size mid moved + size_by class_size o ≤ n) g.limit made.fits);
        lasts = subst (λ n. n < 2 ^ 63) next made.lasts;
      }

pub before_made : (old mid new : Content ClassId) (p : ℕ) (o : ObjectOf ClassId) → mid.next ≡ old.next → IsAsBefore old mid → MadeHere mid new p o → IsAsBeforeMaking old new
before_made old mid new p o next g m k x n e = g k x (m.as_before k x (subst (λ j. k ≢ j) (sym next) n) e)
