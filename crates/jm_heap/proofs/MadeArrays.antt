-- Arrays of arrays: their shapes in a list, and what is left when they were made and named.
use Rattle.std.proofs.Common.{◌≡◌, ℕ, suc, ◌+◌, ◌<◌, ◌≤◌, List, [], ◌∷◌, ◌++◌, Option, Some, None, refl, sym, ap, ◌∙◌, subst, length, inl, inr, arith}
use Rattle.std.proofs.Common.{append_assoc}
use Rattle.std.specs.Prelude.{MatchOption, is_some, Bool, true, false, ◌-◌, drop, get_or, map, nat_lt, slice_get, sum_by}
use Rattle.std.proofs.lemmas.Bool.Decides.{nat_tests}
use Rattle.jm_values.proofs.Lists.{get_there}
use Rattle.jm_values.proofs.SoundContents.{object_below}
use Rattle.std.proofs.lemmas.Option.{slice_get-get_or}
use Rattle.jm_values.specs.ArraysOfArrays.{each_from, new_tree, tree, tree_arrays}
use Rattle.jm_values.specs.Content.{Content, IsSound, Kept, MadeAll, Reached, name_of, object_at}
use Rattle.jm_values.specs.Objects.{ObjectOf, size_by}
use Rattle.jm_heap.specs.Allocation.{AreRefused, NewLie}
use Rattle.jm_heap.specs.Cells.{class_size}
use Rattle.jm_heap.specs.Collection.{AreAsBeforeMaking}
use Rattle.jm_heap.specs.NewObject.{new_object}
use Rattle.jm_heap.specs.Trees.{AreFrom, LieFrom, MadeFrom, OnlyFrom, component_below, dimensions_of, serial_of_first, tree_cells}
use Rattle.jm_heap.specs.declared.class_id.ClassId.{ClassId}
use Rattle.jm_heap.specs.declared.class_id.Component.{Component}
use Rattle.jm_heap.specs.declared.fault.HeapFault.{HeapFault}
use Rattle.jm_heap.specs.declared.fault.HeapFault.TheVariants.{OutOfMemory, HeapFull, SerialsEnd}
use Rattle.jm_heap.specs.declared.shape.Shape.{Shape}
use Rattle.jm_heap.specs.declared.shape.Shape.TheVariants as shape
use Rattle.jm_heap.proofs.Counting.{trees_are_counted}
use Rattle.jm_heap.proofs.Naming.{each_more, new_above}

-- the shapes of an array without arrays below it, of one with them, and of one more below
pub last_pushed : (before after : List (ObjectOf ClassId)) (c : Component) (n : ℕ) (counts below : List ℕ) → counts ≡ n ∷ below → length below ≡ 0
    → after ≡ before ++ new_object (shape.Array c n) ∷ [] → after ≡ before ++ new_tree (dimensions_of c counts)
unfolding new_object
last_pushed before after c n counts [] is none made = made ∙ ap (λ ns. before ++ new_tree (dimensions_of c ns)) (sym is)
last_pushed before after c n counts (m ∷ ns) is none made = absurd (omega (arith, none))

pub all_pushed : (before after : List (ObjectOf ClassId)) (c : Component) (n : ℕ) (counts below : List ℕ) → counts ≡ n ∷ below → 0 < length below
    → after ≡ before ++ (new_object (shape.Array c n) ∷ each_from n (λ k. new_tree (dimensions_of (component_below c) below)) 0 0)
    → after ≡ before ++ new_tree (dimensions_of c counts)
unfolding new_object
all_pushed before after c n counts below is some made =
    made ∙ ap (λ l. before ++ l) (sym (new_above c n below some)) ∙ ap (λ ns. before ++ new_tree (dimensions_of c ns)) (sym is)

pub one_pushed : (before now after l : List (ObjectOf ClassId)) (o : ObjectOf ClassId) (i : ℕ) → now ≡ before ++ (o ∷ each_from i (λ k. l) 0 0) → after ≡ now ++ l
    → after ≡ before ++ (o ∷ each_from (i + 1) (λ k. l) 0 0)
one_pushed before now after l o i there made =
    made
    ∙ ap (λ x. x ++ l) there
    ∙ append_assoc before (o ∷ each_from i (λ k. l) 0 0) l
    ∙ ap (λ x. before ++ (o ∷ x)) (sym (each_more (λ k. l) i 0 0))
    ∙ ap (λ j. before ++ (o ∷ each_from j (λ k. l) 0 0)) next
  where
    next : suc i ≡ i + 1
    next = omega arith

-- why none was made is as true of the arrays with their elements as of new ones
module _ (c : Component) (ns : List ℕ) (old : Content ClassId) (roots : List ℕ) where
  same_cells : sum_by (size_by class_size) (new_tree (dimensions_of c ns)) ≡ sum_by (size_by class_size) (tree (dimensions_of c ns) old.next)
  same_cells = let counted = trees_are_counted c ns old.next in counted.cells_new ∙ sym counted.cells

  same_many : length (new_tree (dimensions_of c ns)) ≡ length (tree (dimensions_of c ns) old.next)
  same_many = let counted = trees_are_counted c ns old.next in counted.many_new ∙ sym counted.many

  pub refused_so : (why : HeapFault) → AreRefused old roots (new_tree (dimensions_of c ns)) why → AreRefused old roots (tree (dimensions_of c ns) old.next) why
  refused_so OutOfMemory h = tt
  refused_so HeapFull h = omega (arith, h, same_cells)
  refused_so SerialsEnd h = (omega (arith, h.0, same_cells), omega (arith, h.1, same_many))

  pub too_many : (limit : ℕ) → limit ≡ old.limit → limit < tree_cells c ns → AreRefused old roots (tree (dimensions_of c ns) old.next) HeapFull
  too_many limit is passed = let counted = (trees_are_counted c ns old.next).cells in omega (arith, is, passed, counted)

-- the objects of all shapes in a list that began without any
pub shapes_are : (slice before after : List Shape) (l : List (ObjectOf ClassId)) → slice ≡ after → before ≡ [] → map new_object after ≡ map new_object before ++ l
    → map new_object slice ≡ l
shapes_are slice before after l same none pushed = ap (map new_object) same ∙ pushed ∙ ap (λ x. map new_object x ++ l) none

pub made_new : {old new : Content ClassId} {roots moved : List ℕ} (slice places : List ℕ) (os l : List (ObjectOf ClassId)) → slice ≡ places → os ≡ l
    → MadeAll class_size old roots new moved places os → MadeAll class_size old roots new moved slice l
made_new {old} {new} {roots} {moved} slice places os l same is made =
    subst (λ ps. MadeAll class_size old roots new moved ps l) (sym same) (subst (MadeAll class_size old roots new moved places) is made)

pub none_is_less : (r : Option ℕ) (less : Type 0) (found : ℕ → Type 0) → MatchOption r less found → is_some r ≡ false → less
none_is_less None less found h none = h
none_is_less (Some n) less found h none = cc

pub first_is : (ps : List ℕ) (p d : ℕ) → p ≡ get_or ps 0 d → 0 < length ps → p ≡ get_or ps 0 0
first_is [] p d is some = absurd (omega (arith, some))
first_is (q ∷ qs) p d is some = is

pub refused_new : (old : Content ClassId) (roots : List ℕ) (os l : List (ObjectOf ClassId)) (why : HeapFault) → os ≡ l → AreRefused old roots os why → AreRefused old roots l why
refused_new old roots os l why is refused = subst (λ x. AreRefused old roots x why) is refused

-- new arrays were made
module _ (c : Component) (ns : List ℕ) {old mid : Content ClassId} {roots moved places : List ℕ}
    (made : MadeAll class_size old roots mid moved places (new_tree (dimensions_of c ns))) (some : 0 < length ns) where
  many : length places ≡ tree_arrays (dimensions_of c ns)
  many = made.many ∙ (trees_are_counted c ns 0).many_new

  pub some_places : 0 < length places
  some_places = by ns some many
    where
      by : (ns : List ℕ) → 0 < length ns → length places ≡ tree_arrays (dimensions_of c ns) → 0 < length places
      by [] none m = absurd (omega (arith, none))
      by (n ∷ []) one m = omega (arith, m)
      by (n ∷ m ∷ rest) one is = omega (arith, is)

  pub from_next : serial_of_first mid places ≡ old.next
  unfolding name_of
  from_next = rw (made.placed 0 (get_or places 0 0) (slice_get-get_or places 0 0 some_places)) (omega arith)

  pub lie_there : LieFrom mid (serial_of_first mid places) places
  lie_there = subst (λ k. LieFrom mid k places) (sym from_next) made.placed

  pub new_there : AreFrom mid (serial_of_first mid places + 0) (new_tree (dimensions_of c ns))
  new_there = subst (λ k. AreFrom mid k (new_tree (dimensions_of c ns))) (omega (arith, from_next)) made.filled

  pub enough : 0 + tree_arrays (dimensions_of c ns) ≤ length places
  enough = omega (arith, many)

  -- and then named
  module _ {new : Content ClassId} (named : AreFrom new (serial_of_first mid places + 0) (tree (dimensions_of c ns) (serial_of_first mid places + 0)))
      (only : OnlyFrom (serial_of_first mid places + 0) (tree_arrays (dimensions_of c ns)) mid new) where
    first : serial_of_first mid places + 0 ≡ old.next
    first = omega (arith, from_next)

    -- what was there before is as it was
    before : (k : ℕ) → k < old.next → object_at new k ≡ object_at mid k
    before k l = only.others k (inl (omega (arith, l, first)))

    pub then_as_before : AreAsBeforeMaking old mid → AreAsBeforeMaking old new
    then_as_before as_before k o l there = as_before k o l (sym (before k l) ∙ there)

    names_same : (ps : List ℕ) → map (name_of new) ps ≡ map (name_of mid) ps
    unfolding name_of
    names_same [] = refl
    names_same (p ∷ ps) = rw (only.serials p, names_same ps) refl

    then_kept : IsSound old → Kept old roots new moved
    then_kept sound = record {
      limit = only.limit ∙ made.kept.limit;
      sound = only.sound;
      names = names_same moved ∙ made.kept.names;
      resident = λ p a. let there = made.kept.resident p a in (there.0, only.serials p ∙ there.1);
      reached = λ k reached. unchanged k reached ∙ made.kept.reached k reached;
    }
      where
        unchanged : (k : ℕ) → Reached old roots k → object_at new k ≡ object_at mid k
        unchanged k reached = by (nat_lt k old.next) refl (nat_lt k (old.next + tree_arrays (dimensions_of c ns))) refl
          where
            was_there : (o : ObjectOf ClassId) → old.next ≤ k → object_at mid k ≡ Some o → ⊥
            was_there o most there = let low = object_below old sound k o (sym (made.kept.reached k reached) ∙ there) in omega (arith, most, low)

            by : (b : Bool) → nat_lt k old.next ≡ b → (d : Bool) → nat_lt k (old.next + tree_arrays (dimensions_of c ns)) ≡ d → object_at new k ≡ object_at mid k
            by true t d e = before k (grind (arith, nat_tests))
            by false t false e =
                let high : old.next + tree_arrays (dimensions_of c ns) ≤ k = grind (arith, nat_tests) in
                only.others k (inr (omega (arith, high, first)))
            by false t true e =
                let most : old.next ≤ k = grind (arith, nat_tests) in
                let less : k < old.next + tree_arrays (dimensions_of c ns) = grind (arith, nat_tests) in
                let counted = (trees_are_counted c ns 0).many_new in
                let one = get_there (new_tree (dimensions_of c ns)) (k - old.next) (omega (arith, most, less, counted)) in
                absurd (was_there one.0 most (subst (λ j. object_at mid j ≡ Some one.0) (omega (arith, most)) (made.filled (k - old.next) one.0 one.1)))

    pub then_made : (place : ℕ) → place ≡ get_or places 0 0 → IsSound old → MadeFrom old roots new moved place (tree (dimensions_of c ns) old.next)
    then_made place is sound = (
      drop 1 places,
      record {
        kept = then_kept sound;
        next = only.next ∙ made.next ∙ ap (λ n. old.next + n) (same_many c ns old roots);
        many = ap length listed ∙ made.many ∙ same_many c ns old roots;
        placed = λ i p e. only.serials p ∙ made.placed i p (sym (ap (λ l. slice_get l i) listed) ∙ e);
        filled = subst (λ k. AreFrom new k (tree (dimensions_of c ns) k)) first named;
        fits = omega (arith, made.fits, same_cells c ns old roots);
        lasts = omega (arith, made.lasts, same_many c ns old roots);
      },
    )
      where
        listed : place ∷ drop 1 places ≡ places
        listed = by places is some_places
          where
            by : (ps : List ℕ) → place ≡ get_or ps 0 0 → 0 < length ps → place ∷ drop 1 ps ≡ ps
            by [] e none = absurd (omega (arith, none))
            by (p ∷ ps) e one = ap (λ q. q ∷ ps) e

    pub named_lie : (lies : ℕ → Type 0) → NewLie lies old mid → NewLie lies old new
    named_lie lies lie p k at none = lie p k (sym (only.serials p) ∙ at) none
