-- An order so far: each class in it comes after those right above it.
use Rattle.std.proofs.Common.{◌≡◌, ℕ, zero, suc, ◌+◌, ◌<◌, ◌≤◌, ◌^◌, ◌⊎◌, inl, inr, List, [], ◌∷◌, ◌++◌, Option, Some, None, Bool, true, false, ◌&&◌, length, set, replicate}
use Rattle.std.proofs.Common.{refl, sym, ap, subst, ◌∙◌, arith}
use Rattle.std.proofs.lemmas.List.{length_push, length-replicate}
use Rattle.std.proofs.lemmas.List.Elements.{All-get_or, All-from_get_or}
use Rattle.std.proofs.lemmas.Option.{slice_get_within, slice_get-get_or}
use Rattle.std.specs.Prelude.{slice_get, slice_index_or}
use Rattle.std.specs.List.{All, list_all}
use Rattle.jm_program.proofs.Sequences.{got_front, got_last as last_is}
use Rattle.jm_tables.specs.declared.inheritance.Declared.{Declared}
use Rattle.jm_tables.specs.Inheriting.{IsOrder, StandsBefore}
use Rattle.jm_linker.specs.Orders.{is_placed, is_next, HasNext, CanBeOrdered}
use Rattle.jm_linker.proofs.PlacedLaws.{placed_count, count_more, set_was, set_length, none_is, none_counted, all_counted, one_is_not, next_is}

abbrev pub ComesAfter : List Declared → List ℕ → ℕ → ℕ → Type 0
ComesAfter classes order i class = (d : Declared) × (slice_get classes class ≡ Some d) × All (StandsBefore order i) d.above.items

pub record AreOrdered (classes : List Declared) (placed : List Bool) (order : List ℕ) : Type 0 where
  pub long : length placed ≡ length classes
  pub count : placed_count placed ≡ length order
  pub stands : (class : ℕ) → is_placed placed class ≡ true → StandsBefore order (length order) class
  pub after : (i class : ℕ) → slice_get order i ≡ Some class → ComesAfter classes order i class

pub none_ordered : (classes : List Declared) → AreOrdered classes (replicate (length classes) false) []
none_ordered classes = record {
  long = length-replicate (length classes) false;
  count = none_counted (length classes);
  stands = λ class e. let none = none_is (length classes) class in cc;
  after = λ i class e. cc;
}

-- some class comes next as long as not all are placed
pub has_next : (classes : List Declared) (placed : List Bool) (order : List ℕ) → CanBeOrdered classes → AreOrdered classes placed order
    → length order < length classes → HasNext classes placed
unfolding CanBeOrdered
has_next classes placed order can are l =
    let count = are.count in let long = are.long in
    let one = one_is_not placed (omega (arith, count, long, l)) in let within = one.1 in
    can placed one.0 long (omega (arith, within, long)) one.2

-- one more
stands_more : (order : List ℕ) (x i class : ℕ) (more : ℕ) → i ≤ more → StandsBefore order i class → StandsBefore (order ++ x ∷ []) more class
stands_more order x i class more l stands = let low = stands.1 in (stands.0, omega (arith, low, l), got_front order (x ∷ []) stands.0 class stands.2)

split_last : (order : List ℕ) (x i class : ℕ) → slice_get (order ++ x ∷ []) i ≡ Some class
    → (slice_get order i ≡ Some class) ⊎ ((i ≡ length order) × (x ≡ class))
split_last [] x zero class e = let same : x ≡ class = cc in inr (refl, same)
split_last [] x (suc i) class e = cc
split_last (y ∷ ys) x zero class e = inl e
split_last (y ∷ ys) x (suc i) class e = by (split_last ys x i class e)
  where
    by : (slice_get ys i ≡ Some class) ⊎ ((i ≡ length ys) × (x ≡ class)) → (slice_get ys i ≡ Some class) ⊎ ((suc i ≡ suc (length ys)) × (x ≡ class))
    by (inl at) = inl at
    by (inr (is, same)) = inr (ap (λ n. suc n) is, same)

each_of : (f : ℕ → Bool) (P : ℕ → Type 0) → ((x : ℕ) → f x ≡ true → P x) → (xs : List ℕ) → list_all f xs ≡ true → All P xs
each_of f P h xs e = All-from_get_or P xs 0 (λ i l. h (slice_index_or xs i 0) (at xs i l e))
  where
    parts : (a b : Bool) → (a && b) ≡ true → (a ≡ true) × (b ≡ true)
    parts true true g = (refl, refl)
    parts true false g = cc
    parts false b g = cc

    at : (ys : List ℕ) (i : ℕ) → i < length ys → list_all f ys ≡ true → f (slice_index_or ys i 0) ≡ true
    at [] i l g = absurd (omega arith)
    at (y ∷ ys) zero l g = (parts (f y) (list_all f ys) g).0
    at (y ∷ ys) (suc i) l g = at ys i (omega arith) (parts (f y) (list_all f ys) g).1

pub one_more : (classes : List Declared) (placed : List Bool) (order : List ℕ) (x : ℕ) → AreOrdered classes placed order → is_next classes placed x ≡ true
    → AreOrdered classes (set placed x true) (order ++ x ∷ [])
one_more classes placed order x are e =
    let next = next_is classes placed x e in
    let long = are.long in
    let there = slice_get_within classes x next.0 next.1 in
    let within : x < length placed = omega (arith, there, long) in
    let pushed : length (order ++ x ∷ []) ≡ length order + 1 = length_push order x in
    let count = count_more placed x within next.2 in let before = are.count in
    record {
      long = set_length placed x ∙ long;
      count = omega (arith, pushed, count, before);
      stands = λ class is. stands class pushed (set_was placed x class is);
      after = λ i class at. after i class next.0 next.1
          (each_of (is_placed placed) (StandsBefore order (length order)) are.stands next.0.above.items next.3) (split_last order x i class at);
    }
  where
    stands : (class : ℕ) → length (order ++ x ∷ []) ≡ length order + 1 → (is_placed placed class ≡ true) ⊎ (class ≡ x)
        → StandsBefore (order ++ x ∷ []) (length (order ++ x ∷ [])) class
    stands class pushed (inl was) = stands_more order x (length order) class (length (order ++ x ∷ [])) (omega (arith, pushed)) (are.stands class was)
    stands class pushed (inr same) = (length order, omega (arith, pushed), last_is order x ∙ ap Some (sym same))

    kept : (i more : ℕ) → i ≤ more → (cs : List ℕ) → All (StandsBefore order i) cs → All (StandsBefore (order ++ x ∷ []) more) cs
    kept i more l cs all = λ k d within. stands_more order x i (slice_index_or cs k d) more l (all k d within)

    after : (i class : ℕ) (d : Declared) → slice_get classes x ≡ Some d → All (StandsBefore order (length order)) d.above.items
        → (slice_get order i ≡ Some class) ⊎ ((i ≡ length order) × (x ≡ class)) → ComesAfter classes (order ++ x ∷ []) i class
    after i class d is all (inl at) = let old = are.after i class at in (old.0, old.1, kept i i (omega arith) old.0.above.items old.2)
    after i class d is all (inr (end, same)) =
        (d, ap (slice_get classes) (sym same) ∙ is, kept (length order) i (omega (arith, end)) d.above.items all)

-- all
pub whole_order : (classes : List Declared) (placed : List Bool) (order : List ℕ) → length classes < 2 ^ 32 → length order ≡ length classes
    → AreOrdered classes placed order → IsOrder classes order
whole_order classes placed order few many are = record {
  few = few;
  many = many;
  all = λ class l. let count = are.count in let long = are.long in
      are.stands class (all_counted placed class (omega (arith, count, long, many)) (omega (arith, l, long)));
  after = are.after;
}
