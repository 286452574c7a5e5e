-- The objects of many shapes, by those of the shapes so far.
use Rattle.std.proofs.Common.{◌≡◌, ℕ, zero, suc, ◌+◌, ◌<◌, ◌≤◌, ◌^◌, List, [], ◌∷◌, ◌++◌, Some, refl, sym, ap, ◌∙◌, subst, length, take, arith, get_or}
use Rattle.std.specs.Prelude.{map, sum_by}
use Rattle.std.proofs.lemmas.List.{length-map, map_push, take-map}
use Rattle.std.proofs.lemmas.List.Elements.{All-push}
use Rattle.std.proofs.lemmas.List.Sums.{sum_by_push, sum_by-take-le}
use Rattle.jm_program.proofs.Sequences.{all_taken}
use Rattle.jm_values.specs.Objects.{ObjectOf, size_by}
use Rattle.jm_values.specs.Rename.{stack_shape}
use Rattle.jm_heap.specs.Cells.{class_size}
use Rattle.jm_heap.specs.NewObject.{new_object, AreShort}
use Rattle.jm_heap.specs.Slots.{Slot}
use Rattle.jm_heap.specs.Stored.{numbered, numbered_from, AreTaken}
use Rattle.jm_heap.specs.declared.class_id.ClassId.{ClassId}
use Rattle.jm_heap.specs.declared.shape.Shape.{Shape}
use Rattle.jm_heap.proofs.MarkLemmas.{take_one_more}
use Rattle.jm_heap.proofs.NewLemmas.{new_refs}

-- the objects of the first shapes
abbrev pub made_of : ℕ → List Shape → List (ObjectOf ClassId)
made_of n shapes = map new_object (take n shapes)

pub all_made_of : (n : ℕ) (shapes : List Shape) → length shapes ≤ n → made_of n shapes ≡ map new_object shapes
all_made_of n shapes h = ap (λ l. map new_object l) (all_taken shapes n h)

numbered_push : (k : ℕ) (os : List (ObjectOf ClassId)) (o : ObjectOf ClassId) (j : ℕ) → j ≡ k + length os → numbered_from k (os ++ o ∷ []) ≡ numbered_from k os ++ Some (numbered j o) ∷ []
numbered_push k [] o j e = ap (λ n. Some (numbered n o) ∷ []) (omega (arith, e))
numbered_push k (x ∷ os) o j e = ap (λ l. Some (numbered k x) ∷ l) (numbered_push (k + 1) os o j (omega (arith, e)))

many_taken : {X : Type 0} (n : ℕ) (xs : List X) → n ≤ length xs → length (take n xs) ≡ n
many_taken zero xs h = refl
many_taken (suc n) [] h = absurd (omega (arith, h))
many_taken (suc n) (x ∷ xs) h = ap suc (many_taken n xs (omega (arith, h)))

any_default : {X : Type 0} (xs : List X) (n : ℕ) (d e : X) → n < length xs → get_or xs n d ≡ get_or xs n e
any_default [] n d e h = absurd (omega (arith, h))
any_default (x ∷ xs) zero d e h = refl
any_default (x ∷ xs) (suc n) d e h = any_default xs n d e (omega (arith, h))

-- with one more shape
module _ (shapes : List Shape) (n : ℕ) (d : Shape) (within : n < length shapes) where
  one_more_made : made_of (n + 1) shapes ≡ made_of n shapes ++ new_object (get_or shapes n d) ∷ []
  one_more_made =
      ap (λ l. map new_object l) (take_one_more shapes n (get_or shapes n d) within (any_default shapes n d (get_or shapes n d) within))
      ∙ map_push new_object (take n shapes) (get_or shapes n d)

  pub more_cells : (so_far more : ℕ) → so_far ≡ sum_by (size_by class_size) (made_of n shapes) → more ≡ size_by class_size (new_object (get_or shapes n d)) → so_far + more ≡ sum_by (size_by class_size) (made_of (n + 1) shapes)
  more_cells so_far more e one =
      let sum = ap (λ l. sum_by (size_by class_size) l) one_more_made ∙ sum_by_push (size_by class_size) (made_of n shapes) (new_object (get_or shapes n d)) in
      omega (arith, e, one, sum)

  pub more_short : AreShort (made_of n shapes) → length (new_object (get_or shapes n d)).values < 2 ^ 32 → AreShort (made_of (n + 1) shapes)
  more_short h few = subst AreShort (sym one_more_made) (All-push (λ o. length o.values < 2 ^ 32) (made_of n shapes) (new_object (get_or shapes n d)) h few)

  pub more_numbered : (first serial : ℕ) (slots : List Slot) (slot : Slot) → serial ≡ first + n → slots ≡ numbered_from first (made_of n shapes) → slot ≡ Some (numbered serial (new_object (get_or shapes n d))) → slots ++ slot ∷ [] ≡ numbered_from first (made_of (n + 1) shapes)
  more_numbered first serial slots slot e made one =
      let many : length (made_of n shapes) ≡ n = length-map (take n shapes) new_object ∙ many_taken n shapes (omega (arith, within)) in
      ap (λ l. l ++ slot ∷ []) made
      ∙ ap (λ (x : Slot). numbered_from first (made_of n shapes) ++ x ∷ []) one
      ∙ sym (numbered_push first (made_of n shapes) (new_object (get_or shapes n d)) serial (omega (arith, e, many)))
      ∙ ap (λ l. numbered_from first l) (sym one_more_made)

-- those so far take no more cells than all
pub cells_so_far : (shapes : List Shape) (n : ℕ) → sum_by (size_by class_size) (made_of n shapes) ≤ sum_by (size_by class_size) (map new_object shapes)
cells_so_far shapes n = subst (λ l. sum_by (size_by class_size) l ≤ sum_by (size_by class_size) (map new_object shapes)) (take-map new_object n shapes) (sum_by-take-le (size_by class_size) (map new_object shapes) n)

pub numbered_taken : (first : ℕ) (os : List (ObjectOf ClassId)) → AreTaken (numbered_from first os)
numbered_taken first [] = tt
numbered_taken first (o ∷ os) = numbered_taken (first + 1) os

-- a new object names nothing, and one of few cells has few values
abbrev pub AreNew : List (ObjectOf ClassId) → Type 0
AreNew [] = Unit {0}
AreNew (o ∷ os) = (stack_shape.refs o.values ≡ []) × (length o.values < 2 ^ 32) × AreNew os

pub are_new : (shapes : List Shape) → AreShort (map new_object shapes) → AreNew (map new_object shapes)
are_new [] h = tt
are_new (s ∷ shapes) h = (new_refs s, h zero (new_object s) (omega arith), are_new shapes (λ k d l. h (suc k) d (omega (arith, l))))
