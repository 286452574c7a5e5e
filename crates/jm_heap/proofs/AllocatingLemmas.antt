-- What making an object after a collection leaves, beside what there was before it.
use Rattle.std.proofs.Common.{◌≡◌, ◌≢◌, ℕ, ◌+◌, ◌<◌, ◌≤◌, ◌^◌, List, Some, sym, ap, ◌∙◌, subst}
use Rattle.std.specs.Prelude.{map}
use Rattle.jm_values.specs.Shape.{Among}
use Rattle.jm_values.specs.Objects.{ObjectOf, refs_of, cells_of, size_by}
use Rattle.jm_values.specs.Reach.{root, field, reached_cells}
use Rattle.jm_values.specs.Content.{Content, Kept, Made, Reached, used_by, object_at, name_of, serial_at}
use Rattle.jm_values.proofs.Reaching.{reach_within}
use Rattle.jm_values.proofs.Agreeing.{cells_agree}
use Rattle.jm_heap.specs.Allocation.{MadeHere}
use Rattle.jm_heap.specs.Cells.{class_size}
use Rattle.jm_heap.specs.Collection.{Collected, IsAsBeforeMaking}
use Rattle.jm_heap.specs.declared.class_id.ClassId.{ClassId}

-- a heap that has not changed is as before
pub before_same : (old new : Content ClassId) → new ≡ old → IsAsBeforeMaking old new
before_same old new e k x n h = subst (λ c. object_at c k ≡ Some x) e h

module _ (old mid : Content ClassId) (roots : List ℕ) (k : Kept old roots mid roots) where
  abbrev InBoth : ℕ → Type 0
  InBoth j = Reached old roots j × Reached mid roots j

  -- what was reached still is
  still_reached : (j : ℕ) → Reached old roots j → Reached mid roots j
  still_reached j r = (reach_within InBoth at_root over j r).1
    where
      at_root : (i : ℕ) → Among i (map (name_of old) roots) → InBoth i
      at_root i a = (root i a, root i (subst (λ l. Among i l) (sym k.names) a))

      over : (h i : ℕ) → InBoth h → Among i (refs_of (object_at old h)) → InBoth i
      over h i b a = (field h i b.0 a, field h i b.1 (subst (λ o. Among i (refs_of o)) (sym (k.reached h b.0)) a))

  -- and takes as many cells
  pub still_used : mid.next ≡ old.next → used_by class_size mid roots ≡ used_by class_size old roots
  still_used next =
      ap (λ n. reached_cells class_size n (object_at mid) (map (name_of mid) roots)) next
      ∙ ap (λ l. reached_cells class_size old.next (object_at mid) l) k.names
      ∙ sym (cells_agree class_size class_size (object_at old) (object_at mid) old.next (map (name_of old) roots) (λ j r. ap refs_of (sym (k.reached j r))) (λ j r. ap (λ o. cells_of class_size o) (sym (k.reached j r))))

  -- what is kept again was kept at first
  pub kept_on : (new : Content ClassId) → Kept mid roots new roots → Kept old roots new roots
  kept_on new on = record {
    limit = on.limit ∙ k.limit;
    sound = on.sound;
    names = on.names ∙ k.names;
    resident = on.resident;
    reached = λ j r. on.reached j (still_reached j r) ∙ k.reached j r;
  }

module _ (old mid : Content ClassId) (roots : List ℕ) (g : Collected old roots mid) where
  pub made_after : (new : Content ClassId) (p : ℕ) (o : ObjectOf ClassId) → MadeHere mid new p o → Made class_size old roots new roots p o
  made_after new p o m =
      let made = m.made roots g.kept.resident in
      record {
        kept = kept_on old mid roots g.kept new made.kept;
        next = made.next ∙ ap (λ n. n + 1) g.next;
        placed = subst (λ n. serial_at new p ≡ Some n) g.next made.placed;
        filled = subst (λ n. object_at new n ≡ Some o) g.next made.filled;
        fits = subst (λ n. n + size_by class_size o ≤ old.limit) (still_used old mid roots g.kept g.next) (subst (λ n. used_by class_size mid roots + size_by class_size o ≤ n) g.kept.limit made.fits);
        lasts = subst (λ n. n < 2 ^ 63) g.next made.lasts;
      }

  pub before_collected : (new : Content ClassId) → new ≡ mid → IsAsBeforeMaking old new
  before_collected new e k x n h = g.as_before k x (subst (λ c. object_at c k ≡ Some x) e h)

  pub before_made : (new : Content ClassId) (p : ℕ) (o : ObjectOf ClassId) → MadeHere mid new p o → IsAsBeforeMaking old new
  before_made new p o m k x n h = g.as_before k x (m.as_before k x (subst (λ j. k ≢ j) (sym g.next) n) h)
