-- What a store is without its last object.
use Rattle.std.proofs.Common.{◌≡◌, ℕ, ◌<◌, ◌≤◌, Option, Some, None, true, false, refl, sym, ap, ◌∙◌, length, arith}
use Rattle.jm_blocks.specs.Objects.{Object}
use Rattle.jm_blocks.specs.Stores.{Blocks, objects_in, IsLast, IsPopped, Bumped, store_cells}
use Rattle.jm_copy.specs.Copies.{is_above, IsMark}
use Rattle.jm_copy.proofs.Making.{is_over, not_above}
use Rattle.jm_heap.proofs.SizeLaws.{at_least_two}

-- a mark below it is a mark without it, and what is not above the mark is as it was
pub popped_mark : (s t : Blocks) (o : Object) (p : ℕ) (mark : Option ℕ) → Bumped t s p o → is_above mark p ≡ true → IsMark s mark → IsMark t mark
popped_mark s t o p None b e m = m
popped_mark s t o p (Some q) b e m = let over = is_over q p e in (m.0, sym (b.changed.others q (λ h. absurd (omega (arith, over, h)))) ∙ m.1)

pub popped_below : (s t : Blocks) (o : Object) (p n : ℕ) (mark : Option ℕ) → Bumped t s p o → is_above mark p ≡ true → is_above mark n ≡ false → objects_in t n ≡ objects_in s n
popped_below s t o p n mark b e f = sym (b.changed.others n (λ h. let both : true ≡ false = sym e ∙ ap (is_above mark) (sym h) ∙ f in cc))

pub popped_cells : (s t : Blocks) (o : Object) (p : ℕ) → IsPopped s t p o → store_cells t.lists < store_cells s.lists
popped_cells s t o p b = let cells = b.cells in let two = at_least_two o.class (length o.values) in omega (arith, cells, two)

-- where the last object is not above the mark none is
pub none_above : (s : Blocks) (p n : ℕ) (mark : Option ℕ) → IsLast s p → is_above mark p ≡ false → is_above mark n ≡ true → objects_in s n ≡ None
none_above s p n mark last e f = by (objects_in s n) refl
  where
    over : (x : Option ℕ) → is_above x p ≡ false → is_above x n ≡ true → n ≤ p → ⊥
    over None g h le = cc
    over (Some q) g h le = let low = not_above q p g in let high = is_over q n h in absurd (omega (arith, low, high, le))

    by : (x : Option Object) → objects_in s n ≡ x → objects_in s n ≡ None
    by None g = g
    by (Some o) g = absurd (over mark e f (last n (o, g)))
