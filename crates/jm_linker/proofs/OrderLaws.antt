-- The classes of a program that loads can be ordered. Where none came next, a walk up from one that is
-- not placed would come to each class once and then to one that is above itself.
use Rattle.std.proofs.Common.{◌≡◌, ℕ, zero, suc, ◌+◌, ◌-◌, ◌<◌, ◌≤◌, ◌⊎◌, inl, inr, List, Option, Some, Bool, true, false, length, set, replicate}
use Rattle.std.proofs.Common.{refl, sym, ap, subst, ◌∙◌, arith}
use Rattle.std.proofs.lemmas.List.{length-replicate}
use Rattle.std.proofs.lemmas.List.Elements.{All-get_or}
use Rattle.std.proofs.lemmas.Option.{slice_get_within, get_or_from_slice_get}
use Rattle.std.specs.Prelude.{slice_get}
use Rattle.jm_program.specs.declared.class.ClassParts.{ClassParts}
use Rattle.jm_world.specs.Classes.{class_named, height}
use Rattle.jm_world.specs.Hierarchy.{parents, holds_of_any, is_below}
use Rattle.jm_world.specs.Loads.{Loads}
use Rattle.jm_tables.specs.Numbering.{name_of}
use Rattle.jm_tables.specs.declared.inheritance.Declared.{Declared}
use Rattle.jm_tables.proofs.ChainLaws.{below_more_steps}
use Rattle.jm_linked.specs.Tables.{all_names}
use Rattle.jm_linked.proofs.Names.{are_names, name_numbered, found_numbered}
use Rattle.jm_values.proofs.Lists.{get_map, get_there}
use Rattle.jm_linker.specs.Inherited.{AreClasses}
use Rattle.jm_linker.specs.Orders.{is_placed, is_next, HasNext, CanBeOrdered}
use Rattle.jm_linker.proofs.AboveLaws.{any_at, one_further, below_itself, none_above_itself}
use Rattle.jm_linker.proofs.PlacedLaws.{placed_count, count_within, count_more, set_is, set_was, set_length, none_is, none_counted, all_counted, first_or_none, not_next}

module _ (program : List ClassParts) (loads : Loads program) (declarations : List Declared) (are : AreClasses program (height program) declarations) where
  abbrev name : ℕ → List ℕ
  name = name_of (all_names program)

  -- each class that the walk has come to is below the one where it is
  abbrev AreBelow : List Bool → ℕ → Type 0
  AreBelow seen v = (s : ℕ) → is_placed seen s ≡ true → is_below (placed_count seen) program (name s) (name v) ≡ true

  further_below : (seen : List Bool) (v p i : ℕ) (c : ClassParts) → class_named program (name v) ≡ Some c → slice_get (parents (Some c)) i ≡ Some (name p)
      → p < length seen → is_placed seen p ≡ false → AreBelow seen v → AreBelow (set seen p true) p
  further_below seen v p i c is at within unseen below = λ s e.
      subst (λ n. is_below n program (name s) (name p) ≡ true) (sym (one_more (count_more seen p within unseen))) (by s (set_was seen p s e))
    where
      one_more : placed_count (set seen p true) ≡ placed_count seen + 1 → placed_count (set seen p true) ≡ suc (placed_count seen)
      one_more e = omega (arith, e)

      by : (s : ℕ) → (is_placed seen s ≡ true) ⊎ (s ≡ p) → is_below (suc (placed_count seen)) program (name s) (name p) ≡ true
      by s (inl before) = one_further program (placed_count seen) (name s) (name v) c i (name p) is at (below s before)
      by s (inr same) = subst (λ k. is_below (suc (placed_count seen)) program (name k) (name p) ≡ true) (sym same)
          (below_itself program (placed_count seen) (name p))

  back_again : (seen : List Bool) (v p i : ℕ) (c : ClassParts) → placed_count seen ≤ height program → name v ≡ c.name
      → holds_of_any (λ parent. is_below (height program) program parent c.name) (parents (Some c)) ≡ false → slice_get (parents (Some c)) i ≡ Some (name p)
      → is_placed seen p ≡ true → AreBelow seen v → ⊥
  back_again seen v p i c few named none at came below =
      let once = below_more_steps program (placed_count seen) (height program) (name p) (name v) few (below p came) in
      let itself = subst (λ (x : List ℕ). is_below (height program) program (name p) x ≡ true) named once in
      let there = any_at (λ parent. is_below (height program) program parent c.name) (parents (Some c)) i (name p) at itself in
      cc

  -- a class right above that is not placed, to which the walk has not come
  one_up : (placed seen : List Bool) (v : ℕ) → ((k : ℕ) → k < length declarations → is_next declarations placed k ≡ false) → length seen ≡ length declarations
      → v < length declarations → is_placed placed v ≡ false → AreBelow seen v
      → (p : ℕ) × (p < length declarations) × (is_placed placed p ≡ false) × (is_placed seen p ≡ false) × AreBelow (set seen p true) p
  one_up placed seen v none len within unplaced below =
      let d = get_there declarations v within in
      let class = are.each v d.0 d.1 in
      let named = name_numbered program v class.parts class.numbered in
      let found = found_numbered program loads v class.parts class.numbered in
      let is : class_named program (name v) ≡ Some class.parts = ap (class_named program) named ∙ found in
      let up = not_next declarations placed v d.0 d.1 unplaced (none v within) in
      let index = slice_get_within d.0.above.items up.0 up.1 up.2 in
      let above : up.1 < length (all_names program) =
      subst (λ n. n < length (all_names program)) (get_or_from_slice_get d.0.above.items up.0 up.1 0 up.2)
      (All-get_or (λ n. n < length (all_names program)) d.0.above.items up.0 0 index class.above.within) in
      let many = (are_names program loads).many in
      let all = are.length in
      let there : up.1 < length declarations = omega (arith, above, many, all) in
      let at : slice_get (parents (Some class.parts)) up.0 ≡ Some (name up.1) =
      ap (λ xs. slice_get xs up.0) (sym class.above.named) ∙ get_map name d.0.above.items up.0 up.1 up.2 in
      let few : placed_count seen ≤ height program = let most = count_within seen in omega (arith, most, len, all) in
      by up.1 there up.3 (is_placed seen up.1) refl
      (λ came. back_again seen v up.1 up.0 class.parts few named (none_above_itself program loads v class.parts class.numbered) at came below)
      (λ unseen. further_below seen v up.1 up.0 class.parts is at (omega (arith, there, len)) unseen below)
    where
      by : (p : ℕ) → p < length declarations → is_placed placed p ≡ false → (t : Bool) → is_placed seen p ≡ t → (is_placed seen p ≡ true → ⊥)
          → (is_placed seen p ≡ false → AreBelow (set seen p true) p)
          → (q : ℕ) × (q < length declarations) × (is_placed placed q ≡ false) × (is_placed seen q ≡ false) × AreBelow (set seen q true) q
      by p there e true is again further = absurd (again is)
      by p there e false is again further = (p, there, e, is, further is)

  climb : (left : ℕ) (placed seen : List Bool) (v : ℕ) → ((k : ℕ) → k < length declarations → is_next declarations placed k ≡ false) → length seen ≡ length declarations
      → placed_count seen + left ≡ length seen → v < length declarations → is_placed placed v ≡ false → AreBelow seen v → ⊥
  climb zero placed seen v none len more within unplaced below =
      let up = one_up placed seen v none len within unplaced below in
      let there = up.1 in
      let came = all_counted seen up.0 (omega (arith, more)) (omega (arith, there, len)) in
      let unseen = up.3 in
      cc
  climb (suc left) placed seen v none len more within unplaced below =
      let up = one_up placed seen v none len within unplaced below in
      let there = up.1 in
      let count = count_more seen up.0 (omega (arith, there, len)) up.3 in
      let long = set_length seen up.0 in
      climb left placed (set seen up.0 true) up.0 none (long ∙ len) (omega (arith, count, more, long)) there up.2 up.4

  begun : (n v : ℕ) → n ≡ length declarations → v < n → (seen : List Bool) → seen ≡ set (replicate n false) v true → (length seen ≡ length declarations) × AreBelow seen v
  begun n v many within seen e =
      let long : length seen ≡ length declarations = ap length e ∙ set_length (replicate n false) v ∙ length-replicate n false ∙ many in
      let count : placed_count seen ≡ placed_count (replicate n false) + 1 =
      ap placed_count e ∙ count_more (replicate n false) v (let l = length-replicate n false in omega (arith, l, within)) (none_is n v) in
      let none = none_counted n in
      let one : placed_count seen ≡ suc zero = omega (arith, count, none) in (
        long,
        λ s came. subst (λ k. is_below k program (name s) (name v) ≡ true) (sym one)
            (by s (set_was (replicate n false) v s (sym (ap (λ bs. is_placed bs s) e) ∙ came))),
      )
    where
      by : (s : ℕ) → (is_placed (replicate n false) s ≡ true) ⊎ (s ≡ v) → is_below (suc zero) program (name s) (name v) ≡ true
      by s (inl was) = let none = none_is n s in cc
      by s (inr same) = subst (λ k. is_below (suc zero) program (name k) (name v) ≡ true) (sym same) (below_itself program zero (name v))

  -- one that is not placed, and none that comes next
  never : (placed : List Bool) (v : ℕ) → v < length declarations → is_placed placed v ≡ false → ((k : ℕ) → k < length declarations → is_next declarations placed k ≡ false) → ⊥
  never placed v within unplaced none =
      let seen = set (replicate (length declarations) false) v true in
      let start = begun (length declarations) v refl within seen refl in
      let few = count_within seen in
      let left = rest (placed_count seen) (length seen) few in
      climb left.0 placed seen v none start.0 left.1 within unplaced start.1
    where
      rest : (a b : ℕ) → a ≤ b → (c : ℕ) × (a + c ≡ b)
      rest a b l = (b - a, omega (arith, l))

  pub can_be_ordered : CanBeOrdered declarations
  unfolding CanBeOrdered
  can_be_ordered placed v len within unplaced = by (first_or_none (is_next declarations placed) (length declarations))
    where
      by : ((k : ℕ) × (k < length declarations) × (is_next declarations placed k ≡ true)) ⊎ ((k : ℕ) → k < length declarations → is_next declarations placed k ≡ false) → HasNext declarations placed
      by (inl found) = found
      by (inr none) = absurd (never placed v within unplaced none)
