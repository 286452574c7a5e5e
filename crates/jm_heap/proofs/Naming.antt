-- Arrays that were made at once, while their elements come to name those below them.
use Rattle.std.proofs.Common.{◌≡◌, ◌⊎◌, ℕ, zero, suc, ◌+◌, ◌*◌, ◌<◌, ◌≤◌, List, [], ◌∷◌, ◌++◌, Some, refl, sym, ap, ◌∙◌, subst, length, inl, inr, arith}
use Rattle.std.proofs.Common.{append_assoc}
use Rattle.std.proofs.lemmas.List.{append-nil}
use Rattle.std.specs.Prelude.{slice_get, slice_set, get_or, Bool, true, false, ◌==◌}
use Rattle.std.proofs.Math.Nat.{suc-mul}
use Rattle.std.proofs.lemmas.Bool.Decides.{nat_tests}
use Rattle.std.proofs.lemmas.Option.{same_Some, slice_get_within}
use Rattle.jm_values.specs.declared.value.Value.{Value}
use Rattle.jm_values.specs.declared.value.Value.TheVariants.{Ref}
use Rattle.jm_values.specs.ArraysOfArrays.{each_from, refs_from, tree, new_tree, tree_arrays}
use Rattle.jm_values.specs.Content.{Content, AllResident, IsSound, IsSet, HasValue, serial_at, object_at, name_of}
use Rattle.jm_values.specs.Objects.{ObjectOf, copies, default_of}
use Rattle.jm_values.specs.Rename.{rename}
use Rattle.jm_values.proofs.ArraysOfArrays.{each_many, new_tree_many, refs_many, some_arrays, tree_many}
use Rattle.jm_heap.specs.Holding.{CanHold}
use Rattle.jm_heap.specs.NewObject.{operand_of_component}
use Rattle.jm_heap.specs.Packing.{Fits, kind_of, kind_of_element}
use Rattle.jm_heap.specs.Trees.{AreFrom, LieFrom, OnlyFrom, component_below, dimensions_of, serial_of_first}
use Rattle.jm_heap.specs.declared.class_id.ClassId.{ClassId}
use Rattle.jm_heap.specs.declared.class_id.ClassId.TheVariants.{Array}
use Rattle.jm_heap.specs.declared.class_id.Component.{Component}
use Rattle.jm_heap.specs.declared.class_id.Element.{Element}

-- objects of serials that follow one another
pub from_tail : (c : Content ClassId) (k : ℕ) (o : ObjectOf ClassId) (os : List (ObjectOf ClassId)) → AreFrom c k (o ∷ os) → AreFrom c (k + 1) os
from_tail c k o os h i x e = subst (λ j. object_at c j ≡ Some x) (omega arith) (h (suc i) x e)

pub from_head : (c : Content ClassId) (k : ℕ) (o : ObjectOf ClassId) (os : List (ObjectOf ClassId)) → AreFrom c k (o ∷ os) → object_at c k ≡ Some o
from_head c k o os h = subst (λ j. object_at c j ≡ Some o) (omega arith) (h 0 o refl)

pub from_cons : (c : Content ClassId) (k : ℕ) (o : ObjectOf ClassId) (os : List (ObjectOf ClassId)) → object_at c k ≡ Some o → AreFrom c (k + 1) os
    → AreFrom c k (o ∷ os)
from_cons c k o os first rest zero x e = let same : o ≡ x = cc in subst (λ j. object_at c j ≡ Some x) (omega arith) (first ∙ ap Some same)
from_cons c k o os first rest (suc i) x e = subst (λ j. object_at c j ≡ Some x) (omega arith) (rest i x e)

pub from_append : (c : Content ClassId) (k : ℕ) (xs ys : List (ObjectOf ClassId)) → AreFrom c k xs → AreFrom c (k + length xs) ys → AreFrom c k (xs ++ ys)
from_append c k [] ys a b = subst (λ j. AreFrom c j ys) (omega arith) b
from_append c k (x ∷ xs) ys a b =
    from_cons c k x (xs ++ ys) (from_head c k x xs a)
    (from_append c (k + 1) xs ys (from_tail c k x xs a) (subst (λ j. AreFrom c j ys) (omega arith) b))

pub from_front : (c : Content ClassId) (k : ℕ) (xs ys : List (ObjectOf ClassId)) → AreFrom c k (xs ++ ys) → AreFrom c k xs
from_front c k [] ys h = λ i x e. cc
from_front c k (x ∷ xs) ys h = from_cons c k x xs (from_head c k x (xs ++ ys) h) (from_front c (k + 1) xs ys (from_tail c k x (xs ++ ys) h))

pub from_back : (c : Content ClassId) (k : ℕ) (xs ys : List (ObjectOf ClassId)) → AreFrom c k (xs ++ ys) → AreFrom c (k + length xs) ys
from_back c k [] ys h = subst (λ j. AreFrom c j ys) (omega arith) h
from_back c k (x ∷ xs) ys h = subst (λ j. AreFrom c j ys) (omega arith) (from_back c (k + 1) xs ys (from_tail c k x (xs ++ ys) h))

-- they stay where others alone have changed
pub from_stays : (c d : Content ClassId) (k from count : ℕ) (os : List (ObjectOf ClassId)) → OnlyFrom from count c d
    → (k + length os ≤ from) ⊎ (from + count ≤ k) → AreFrom c k os → AreFrom d k os
from_stays c d k from count os only apart h i o e =
    let within = slice_get_within os i o e in
    only.others (k + i) (beside apart within) ∙ h i o e
  where
    beside : (k + length os ≤ from) ⊎ (from + count ≤ k) → i < length os → (k + i < from) ⊎ (from + count ≤ k + i)
    beside (inl below) w = inl (omega (arith, below, w))
    beside (inr above) w = inr (omega (arith, above))

pub places_stay : (c d : Content ClassId) (k from count : ℕ) (places : List ℕ) → OnlyFrom from count c d → LieFrom c k places → LieFrom d k places
places_stay c d k from count places only h i p e = only.serials p ∙ h i p e

pub first_stays : (c d : Content ClassId) (from count : ℕ) (places : List ℕ) → OnlyFrom from count c d → serial_of_first d places ≡ serial_of_first c places
unfolding name_of
first_stays c d from count places only = rw (only.serials (get_or places 0 0)) refl

-- what changes in a part changes in the whole, and one change after another
pub only_in : (c d : Content ClassId) (from count k many : ℕ) → OnlyFrom from count c d → k ≤ from → from + count ≤ k + many → OnlyFrom k many c d
only_in c d from count k many only low high = record {
  limit = only.limit;
  next = only.next;
  sound = only.sound;
  serials = only.serials;
  others = λ j apart. only.others j (elim apart [ inl below ↦ inl (omega (arith, below, low)) | inr above ↦ inr (omega (arith, above, high)) ]);
}

pub only_then : (c d e : Content ClassId) (from count : ℕ) → OnlyFrom from count c d → OnlyFrom from count d e → OnlyFrom from count c e
only_then c d e from count one two = record {
  limit = two.limit ∙ one.limit;
  next = two.next ∙ one.next;
  sound = two.sound;
  serials = λ p. two.serials p ∙ one.serials p;
  others = λ j apart. two.others j apart ∙ one.others j apart;
}

-- one value was set
pub set_only : (c d : Content ClassId) (p k i : ℕ) (v : Value) → serial_at c p ≡ Some k → IsSet c d p i v → OnlyFrom k 1 c d
set_only c d p k i v at set = record {
  limit = set.limit;
  next = set.next;
  sound = set.sound;
  serials = set.serials;
  others = λ j apart. set.others k j at (λ same. elim apart [ inl below ↦ absurd (omega (arith, below, same)) | inr above ↦ absurd (omega (arith, above, same)) ]);
}

-- one more at the end
pub each_more : {A : Type 0} (made : ℕ → List A) (n first apart : ℕ) → each_from (suc n) made first apart ≡ each_from n made first apart ++ made (first + n * apart)
each_more made zero first apart = append-nil (made first) ∙ ap made (omega arith)
each_more made (suc n) first apart =
    ap (λ l. made first ++ l) (each_more made n (first + apart) apart ∙ ap (λ k. each_from n made (first + apart) apart ++ made k) next)
    ∙ sym (append_assoc (made first) (each_from n made (first + apart) apart) (made (first + suc n * apart)))
  where
    next : first + apart + n * apart ≡ first + suc n * apart
    next = omega (arith, suc-mul n apart)

refs_more : (n first apart : ℕ) → refs_from (suc n) first apart ≡ refs_from n first apart ++ Ref (first + n * apart) ∷ []
refs_more zero first apart = ap (λ k. Ref k ∷ []) (omega arith)
refs_more (suc n) first apart =
    ap (λ l. Ref first ∷ l) (refs_more n (first + apart) apart ∙ ap (λ k. refs_from n (first + apart) apart ++ Ref k ∷ []) next)
  where
    next : first + apart + n * apart ≡ first + suc n * apart
    next = omega (arith, suc-mul n apart)

-- the value behind the first so many of a list
get_behind : (xs ys : List Value) (y : Value) → slice_get (xs ++ y ∷ ys) (length xs) ≡ Some y
get_behind [] ys y = refl
get_behind (x ∷ xs) ys y = get_behind xs ys y

set_behind : (xs ys : List Value) (y z : Value) → slice_set (xs ++ y ∷ ys) (length xs) z ≡ xs ++ z ∷ ys
set_behind [] ys y z = refl
set_behind (x ∷ xs) ys y z = ap (λ l. x ∷ l) (set_behind xs ys y z)

-- an array whose first elements name the arrays below them, so many of which are finished
pub record AreNamed (c : Content ClassId) (k : ℕ) (type : ClassId) (v : Value) (made : ℕ → List (ObjectOf ClassId)) (new : List (ObjectOf ClassId)) (apart done left : ℕ) : Type 0 where
  pub outer : object_at c k ≡ Some (record { type = type; values = refs_from done (k + 1) apart ++ copies left v })
  pub named : AreFrom c (k + 1) (each_from done made (k + 1) apart)
  pub unnamed : AreFrom c (k + 1 + done * apart) (each_from left (λ j. new) 0 0)

module _ {k : ℕ} {type : ClassId} {v : Value} {made : ℕ → List (ObjectOf ClassId)} {new : List (ObjectOf ClassId)} {apart : ℕ} where
  pub none_named : (c : Content ClassId) (count : ℕ) → AreFrom c k (record { type = type; values = copies count v } ∷ each_from count (λ j. new) 0 0)
      → AreNamed c k type v made new apart 0 count
  none_named c count h = record {
    outer = from_head c k _ _ h;
    named = λ i x e. cc;
    unnamed = subst (λ j. AreFrom c j (each_from count (λ j. new) 0 0)) (omega arith) (from_tail c k _ _ h);
  }

  pub all_named : (c : Content ClassId) (count : ℕ) → AreNamed c k type v made new apart count 0
      → AreFrom c k (record { type = type; values = refs_from count (k + 1) apart } ∷ each_from count made (k + 1) apart)
  all_named c count h =
      from_cons c k _ _
      (h.outer ∙ ap (λ vs. Some (record { type = type; values = vs })) (append-nil (refs_from count (k + 1) apart)))
      h.named

  module _ (c : Content ClassId) (done left : ℕ) (h : AreNamed c k type v made new apart done (suc left)) where
    pub element_there : (p : ℕ) → serial_at c p ≡ Some k → HasValue c p done v
    element_there p at =
        let there = get_behind (refs_from done (k + 1) apart) (copies left v) v in
        (k, _, at, h.outer, subst (λ i. slice_get (refs_from done (k + 1) apart ++ v ∷ copies left v) i ≡ Some v) (refs_many done (k + 1) apart) there)

    module _ (d e : Content ClassId) (p q : ℕ) (at : serial_at c p ≡ Some k) (below : serial_at c q ≡ Some (k + 1 + done * apart))
        (set : IsSet c d p done (Ref q)) where
      named_value : rename (name_of c) (Ref q) ≡ Ref (k + 1 + done * apart)
      unfolding name_of
      named_value = rw below refl

      outer_then : object_at d k ≡ Some (record { type = type; values = refs_from (suc done) (k + 1) apart ++ copies left v })
      outer_then =
          set.changed k _ at h.outer
          ∙ ap (λ vs. Some (record { type = type; values = vs }))
          (ap (λ x. slice_set (refs_from done (k + 1) apart ++ v ∷ copies left v) done x) named_value
          ∙ subst (λ i. slice_set (refs_from done (k + 1) apart ++ v ∷ copies left v) i (Ref (k + 1 + done * apart))
          ≡ refs_from done (k + 1) apart ++ Ref (k + 1 + done * apart) ∷ copies left v) (refs_many done (k + 1) apart)
          (set_behind (refs_from done (k + 1) apart) (copies left v) v (Ref (k + 1 + done * apart)))
          ∙ sym (append_assoc (refs_from done (k + 1) apart) (Ref (k + 1 + done * apart) ∷ []) (copies left v))
          ∙ ap (λ l. l ++ copies left v) (sym (refs_more done (k + 1) apart)))

      -- the arrays below the element are still new
      pub still_new : AreFrom d (k + 1 + done * apart) new
      still_new =
          from_stays c d (k + 1 + done * apart) k 1 new (set_only c d p k done (Ref q) at set) (inr (omega arith))
          (from_front c (k + 1 + done * apart) new (each_from left (λ j. new) 0 0) h.unnamed)

      pub next_named : length new ≡ apart → ((j : ℕ) → length (made j) ≡ apart) → ((n j : ℕ) → length (each_from n made j apart) ≡ n * apart)
          → AreFrom e (k + 1 + done * apart) (made (k + 1 + done * apart)) → OnlyFrom (k + 1 + done * apart) apart d e
          → AreNamed e k type v made new apart (suc done) left
      next_named many_new many each finished only =
          let first = set_only c d p k done (Ref q) at set in
          let length_named = each done (k + 1) in
          let named_d = from_stays c d (k + 1) k 1 _ first (inr (omega arith)) h.named in
          let named_e = from_stays d e (k + 1) (k + 1 + done * apart) apart _ only (inl (omega (arith, length_named))) named_d in
          let rest = from_back c (k + 1 + done * apart) new (each_from left (λ j. new) 0 0) h.unnamed in
          let rest_at : AreFrom c (k + 1 + done * apart + apart) (each_from left (λ j. new) 0 0) =
          subst (λ n. AreFrom c (k + 1 + done * apart + n) (each_from left (λ j. new) 0 0)) many_new rest in
          let rest_d = from_stays c d (k + 1 + done * apart + apart) k 1 _ first (inr (omega arith)) rest_at in
          let rest_e = from_stays d e (k + 1 + done * apart + apart) (k + 1 + done * apart) apart _ only (inr (omega arith)) rest_d in
          let all = from_append e (k + 1) (each_from done made (k + 1) apart) (made (k + 1 + done * apart)) named_e
          (subst (λ n. AreFrom e n (made (k + 1 + done * apart))) (omega (arith, length_named)) finished) in
          record {
            outer = only.others k (inl (omega arith)) ∙ outer_then;
            named = subst (AreFrom e (k + 1)) (sym (each_more made done (k + 1) apart)) all;
            unnamed = subst (λ n. AreFrom e n (each_from left (λ j. new) 0 0)) (omega (arith, suc-mul done apart)) rest_e;
          }

-- an array that has arrays below it
module _ (c : Component) (n : ℕ) where
  pub tree_above : (below : List ℕ) (k : ℕ) → 0 < length below → tree (dimensions_of c (n ∷ below)) k
      ≡ record { type = Array c; values = refs_from n (k + 1) (tree_arrays (dimensions_of (component_below c) below)) }
      ∷ each_from n (tree (dimensions_of (component_below c) below)) (k + 1) (tree_arrays (dimensions_of (component_below c) below))
  tree_above [] k some = absurd (omega (arith, some))
  tree_above (m ∷ ns) k some = refl

  pub new_above : (below : List ℕ) → 0 < length below → new_tree (dimensions_of c (n ∷ below))
      ≡ record { type = Array c; values = copies n (default_of (operand_of_component c)) }
      ∷ each_from n (λ j. new_tree (dimensions_of (component_below c) below)) 0 0
  new_above [] some = absurd (omega (arith, some))
  new_above (m ∷ ns) some = refl

  pub arrays_above : (below : List ℕ) → 0 < length below
      → tree_arrays (dimensions_of c (n ∷ below)) ≡ 1 + n * tree_arrays (dimensions_of (component_below c) below)
  arrays_above [] some = absurd (omega (arith, some))
  arrays_above (m ∷ ns) some = refl

  pub array_below : (below : List ℕ) → 0 < length below → 1 ≤ tree_arrays (dimensions_of (component_below c) below)
  array_below [] some = absurd (omega (arith, some))
  array_below (m ∷ ns) some =
      some_arrays (record { type = Array (component_below c); count = m; element = default_of (operand_of_component (component_below c)) })
      (dimensions_of (component_below (component_below c)) ns)

-- how many arrays lie below an element
abbrev pub each : Component → List ℕ → ℕ
each component below = tree_arrays (dimensions_of (component_below component) below)

-- so many elements of the array at a place among those of a list name the arrays below them, and these are
-- finished; next is the number of the one that comes
pub record IsNaming (old c : Content ClassId) (places : List ℕ) (first : ℕ) (component : Component) (below : List ℕ) (count index next : ℕ) : Type 0 where
  pub left : ℕ
  pub all : index + left ≡ count
  pub named : AreNamed c (serial_of_first old places + first) (Array component) (default_of (operand_of_component component))
      (tree (dimensions_of (component_below component) below)) (new_tree (dimensions_of (component_below component) below))
      (tree_arrays (dimensions_of (component_below component) below)) index left
  pub only : OnlyFrom (serial_of_first old places + first) (1 + count * tree_arrays (dimensions_of (component_below component) below)) old c
  pub next_is : next ≡ first + 1 + index * tree_arrays (dimensions_of (component_below component) below)

-- an array of a list, by its number, that has arrays below it
pub record HasBelow (old : Content ClassId) (places : List ℕ) (first : ℕ) (component : Component) (counts below : List ℕ) (count : ℕ) : Type 0 where
  pub is : counts ≡ count ∷ below
  pub some : 0 < length below
  pub lie : LieFrom old (serial_of_first old places) places
  pub there : first + tree_arrays (dimensions_of component counts) ≤ length places

pub not_empty : (xs : List ℕ) (b : Bool) → b ≡ (length xs == 0) → b ≡ false → 0 < length xs
not_empty [] b is other = cc
not_empty (x ∷ xs) b is other = omega arith

pub is_none : (xs : List ℕ) (b : Bool) → b ≡ (length xs == 0) → b ≡ true → length xs ≡ 0
is_none xs b is other = let empty : (length xs == 0) ≡ true = sym is ∙ other in grind (arith, nat_tests)

-- an array that has none below it is as it was made
pub last_named : (c : Content ClassId) (k : ℕ) (component : Component) (count : ℕ) (counts below : List ℕ) → counts ≡ count ∷ below → length below ≡ 0
    → AreFrom c k (new_tree (dimensions_of component counts)) → AreFrom c k (tree (dimensions_of component counts) k)
last_named c k component count counts [] is none new =
    subst (λ ns. AreFrom c k (tree (dimensions_of component ns) k)) (sym is) (subst (λ ns. AreFrom c k (new_tree (dimensions_of component ns))) is new)
last_named c k component count counts (m ∷ ns) is none new = absurd (omega (arith, none))

pub has_below : {old : Content ClassId} {places : List ℕ} {first : ℕ} {component : Component} {counts below : List ℕ} {count : ℕ}
    → counts ≡ count ∷ below → 0 < length below → LieFrom old (serial_of_first old places) places
    → first + tree_arrays (dimensions_of component counts) ≤ length places → HasBelow old places first component counts below count
has_below is some lie there = record { is = is; some = some; lie = lie; there = there }

module _ {old : Content ClassId} {places : List ℕ} {first : ℕ} {component : Component} {counts below : List ℕ} {count : ℕ}
    (b : HasBelow old places first component counts below count) where
  all_there : first + (1 + count * each component below) ≤ length places
  all_there = subst (λ n. first + n ≤ length places) (arrays_above component count below b.some) (subst (λ ns. first + tree_arrays (dimensions_of component ns) ≤ length places) b.is b.there)

  pub begins : IsSound old → AreFrom old (serial_of_first old places + first) (new_tree (dimensions_of component counts))
      → IsNaming old old places first component below count 0 (first + 1)
  begins sound new = record {
    left = count;
    all = omega arith;
    named = none_named old count (subst (AreFrom old (serial_of_first old places + first)) (ap (λ ns. new_tree (dimensions_of component ns)) b.is ∙ new_above component count below b.some) new);
    only = record { limit = refl; next = refl; sound = sound; serials = λ p. refl; others = λ j apart. refl };
    next_is = omega arith;
  }

  pub ends : {c : Content ClassId} {index next : ℕ} → IsNaming old c places first component below count index next → count ≤ index
      → AreFrom c (serial_of_first old places + first) (tree (dimensions_of component counts) (serial_of_first old places + first))
  ends {c} {index} {next} h last =
      subst (AreFrom c (serial_of_first old places + first)) (sym (ap (λ ns. tree (dimensions_of component ns) (serial_of_first old places + first)) b.is ∙ tree_above component count below (serial_of_first old places + first) b.some))
      (all_named c count (finished h.left (omega (arith, h.all, last)) (omega (arith, h.all, last)) h.named))
    where
      finished : (left : ℕ) → left ≡ 0 → index ≡ count
          → AreNamed c (serial_of_first old places + first) (Array component) (default_of (operand_of_component component))
          (tree (dimensions_of (component_below component) below)) (new_tree (dimensions_of (component_below component) below)) (each component below) index left
          → AreNamed c (serial_of_first old places + first) (Array component) (default_of (operand_of_component component))
          (tree (dimensions_of (component_below component) below)) (new_tree (dimensions_of (component_below component) below)) (each component below) count 0
      finished left none done n = rw (none, done) at n

  pub ends_only : {c : Content ClassId} {index next : ℕ} → IsNaming old c places first component below count index next
      → OnlyFrom (serial_of_first old places + first) (tree_arrays (dimensions_of component counts)) old c
  ends_only {c} h = subst (λ n. OnlyFrom (serial_of_first old places + first) n old c) (sym (ap (λ ns. tree_arrays (dimensions_of component ns)) b.is ∙ arrays_above component count below b.some)) h.only

  module _ {c : Content ClassId} {index next : ℕ} (h : IsNaming old c places first component below count index next) (more : index < count) where
    pub one_each : index * each component below + each component below ≤ count * each component below
    one_each = mul_below index count more (each component below)
      where
        mul_below : (i n : ℕ) → i < n → (m : ℕ) → i * m + m ≤ n * m
        mul_below i zero l m = absurd (omega (arith, l))
        mul_below zero (suc n) l m = omega (arith, suc-mul n m)
        mul_below (suc i) (suc n) l m = let below = mul_below i n (omega (arith, l)) m in omega (arith, below, suc-mul n m, suc-mul i m)

    pub next_there : next + each component below ≤ length places
    next_there = omega (arith, h.next_is, one_each, all_there)

    pub next_within : next < length places
    next_within = let one = array_below component count below b.some in omega (arith, next_there, one)

    pub first_within : first < length places
    first_within = omega (arith, all_there)

    module _ {p q : ℕ} (outer : slice_get places first ≡ Some p) (inner : slice_get places next ≡ Some q) where
      outer_at : serial_at c p ≡ Some (serial_of_first old places + first)
      outer_at = h.only.serials p ∙ b.lie first p outer

      inner_at : serial_at c q ≡ Some (serial_of_first old places + first + 1 + index * each component below)
      inner_at = h.only.serials q ∙ b.lie next q inner ∙ ap Some (omega (arith, h.next_is))

      pub names_element : (v : Value) × HasValue c p index v
      names_element = by h.left refl
        where
          by : (left : ℕ) → h.left ≡ left → (v : Value) × HasValue c p index v
          by zero none = absurd (omega (arith, h.all, more, none))
          by (suc left) e = (_, element_there c index left (rw e at h.named) p outer_at)

      pub element_below : AllResident c (q ∷ [])
      element_below r (inl same) = (_, ap (serial_at c) same ∙ inner_at)
      element_below r (inr none) = absurd none

      pub can_name : 0 < component.dimensions → CanHold c p (Ref q)
      can_name deep k o at object = subst (λ t. Fits (kind_of t) (Ref q)) type (references component.dimensions component.element deep)
        where
          serial : Some k ≡ Some (serial_of_first old places + first)
          serial = sym at ∙ outer_at

          same : Some o ≡ Some (record { type = Array component; values = refs_from index (serial_of_first old places + first + 1) (each component below) ++ copies h.left (default_of (operand_of_component component)) })
          same = sym object ∙ ap (object_at c) (same_Some k (serial_of_first old places + first) serial) ∙ h.named.outer

          type : Array component ≡ o.type
          type = sym (ap (λ (x : ObjectOf ClassId). x.type) (same_Some o _ same))

          references : (n : ℕ) (e : Element) → 0 < n → Fits (kind_of_element n e) (Ref q)
          references zero e l = absurd (omega (arith, l))
          references (suc n) e l = tt

      module _ {d : Content ClassId} (set : IsSet c d p index (Ref q)) where
        outer_only : OnlyFrom (serial_of_first old places + first) 1 c d
        outer_only = set_only c d p (serial_of_first old places + first) index (Ref q) outer_at set

        first_same : serial_of_first d places ≡ serial_of_first old places
        first_same =
            first_stays c d (serial_of_first old places + first) 1 places outer_only
            ∙ first_stays old c (serial_of_first old places + first) (1 + count * each component below) places h.only

        from_next : serial_of_first old places + first + 1 + index * each component below ≡ serial_of_first d places + next
        from_next = omega (arith, h.next_is, first_same)

        pub then_lie : LieFrom d (serial_of_first d places) places
        then_lie =
            subst (λ k. LieFrom d k places) (sym first_same)
            (places_stay c d (serial_of_first old places) (serial_of_first old places + first) 1 places outer_only
            (places_stay old c (serial_of_first old places) (serial_of_first old places + first) (1 + count * each component below) places h.only b.lie))

        pub then_new : AreFrom d (serial_of_first d places + next) (new_tree (dimensions_of (component_below component) below))
        then_new = by h.left refl
          where
            by : (left : ℕ) → h.left ≡ left → AreFrom d (serial_of_first d places + next) (new_tree (dimensions_of (component_below component) below))
            by zero none = absurd (omega (arith, h.all, more, none))
            by (suc left) e =
                subst (λ k. AreFrom d k (new_tree (dimensions_of (component_below component) below))) from_next
                (still_new c index left (rw e at h.named) d d p q outer_at inner_at set)

        module _ {e : Content ClassId} (finished : AreFrom e (serial_of_first d places + next) (tree (dimensions_of (component_below component) below) (serial_of_first d places + next)))
            (only : OnlyFrom (serial_of_first d places + next) (each component below) d e) where
          all_only : OnlyFrom (serial_of_first old places + first) (1 + count * each component below) old e
          all_only =
              only_then old d e (serial_of_first old places + first) (1 + count * each component below)
              (only_then old c d (serial_of_first old places + first) (1 + count * each component below) h.only
              (only_in c d (serial_of_first old places + first) 1 (serial_of_first old places + first) (1 + count * each component below) outer_only (omega arith) (omega arith)))
              (only_in d e (serial_of_first d places + next) (each component below) (serial_of_first old places + first) (1 + count * each component below) only
              (omega (arith, from_next)) (omega (arith, from_next, one_each)))

          pub then_named : IsNaming old e places first component below count (index + 1) (next + each component below)
          then_named = by h.left refl
            where
              by : (left : ℕ) → h.left ≡ left → IsNaming old e places first component below count (index + 1) (next + each component below)
              by zero none = absurd (omega (arith, h.all, more, none))
              by (suc left) is = subst (λ i. IsNaming old e places first component below count i (next + each component below)) (omega arith) (record {
                left = left;
                all = omega (arith, h.all, is);
                named = next_named c index left (rw is at h.named) d e p q outer_at inner_at set
                    (new_tree_many (dimensions_of (component_below component) below))
                    (tree_many (dimensions_of (component_below component) below))
                    (λ n j. each_many n (tree (dimensions_of (component_below component) below)) (each component below) j (each component below) (tree_many (dimensions_of (component_below component) below)))
                    (subst (λ k. AreFrom e k (tree (dimensions_of (component_below component) below) k)) (sym from_next) finished)
                    (subst (λ k. OnlyFrom k (each component below) d e) (sym from_next) only);
                only = all_only;
                next_is = omega (arith, h.next_is, suc-mul index (each component below));
              })

        -- the same, said of what is the component below
        pub named_so : {e : Content ClassId} (other : Component) (result : ℕ) → other ≡ component_below component
            → AreFrom e (serial_of_first d places + next) (tree (dimensions_of other below) (serial_of_first d places + next))
            → OnlyFrom (serial_of_first d places + next) (tree_arrays (dimensions_of other below)) d e
            → result ≡ next + tree_arrays (dimensions_of other below) → IsNaming old e places first component below count (index + 1) result
        named_so {e} other result is finished only behind =
            subst (IsNaming old e places first component below count (index + 1)) (sym (behind ∙ ap (λ x. next + tree_arrays (dimensions_of x below)) is))
            (then_named
            (subst (λ x. AreFrom e (serial_of_first d places + next) (tree (dimensions_of x below) (serial_of_first d places + next))) is finished)
            (subst (λ x. OnlyFrom (serial_of_first d places + next) (tree_arrays (dimensions_of x below)) d e) is only))
