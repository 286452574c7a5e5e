-- Making room for an object, and making it, by what a heap promises.
use Rattle.std.proofs.Common.{◌≡◌, ◌≢◌, ℕ, ◌+◌, ◌<◌, ◌≤◌, ◌^◌, List, Some, Bool, true, false, refl, sym, ap, ◌∙◌, subst, inl, arith, ◌⊎◌, inr}
use Rattle.std.specs.Prelude.{Result, Ok, Err, IfOk, OnOk, OnErr, nat_le, nat_eq}
use Rattle.std.proofs.lemmas.Bool.{leb-true}
use Rattle.std.proofs.lemmas.Bool.Decides.{eqb_tells}
use Rattle.jm_values.specs.Shape.{Among}
use Rattle.jm_values.specs.Objects.{ObjectOf, cells_of}
use Rattle.jm_values.specs.Content.{Content, Kept, AllResident, used_by, object_at, serials_of}
use Rattle.jm_heap.specs.Cells.{class_size}
use Rattle.jm_heap.specs.Allocation.{IsRefused, IsRefusedHere, MadeHere}
use Rattle.jm_heap.specs.Collection.{IsAsBefore}
use Rattle.jm_heap.specs.declared.class_id.ClassId.{ClassId}
use Rattle.jm_heap.specs.declared.fault.HeapFault.{HeapFault}
use Rattle.jm_heap.specs.declared.fault.HeapFault.TheVariants.{OutOfMemory, HeapFull, SerialsEnd}
use Rattle.jm_heap.proofs.SweepingLemmas.{kept_same}
use Rattle.jm_heap.proofs.CellLemmas.{cells_at}
use Rattle.jm_blocks.specs.Objects.{Object}
use Rattle.jm_copy.specs.Condemned.{objects_at}
use Rattle.jm_gen_heap.specs.Generations.{Generations, all_cells, lying}
use Rattle.jm_gen_heap.specs.Residents.{content_of}
use Rattle.jm_gen_heap.specs.Invariant.{AreGenerations}
use Rattle.jm_gen_heap.specs.Collections.{LeavesAllReached, WasOld}
use Rattle.jm_gen_heap.proofs.Refusing.{remembered_content}
use Rattle.jm_gen_heap.proofs.ResidentCells.{cells_covered, cells_alike, used_at_most}
use Rattle.jm_gen_heap.proofs.Making.{laned, shown, sound, reached_below}
use Rattle.jm_gen_heap.proofs.Lanes.{lying_young, old_lies, young_lies}
use Rattle.jm_gen_heap.proofs.Following.{still_used}
use Rattle.jm_gen_heap.specs.Held.{IsPutNew}
use Rattle.jm_gen_heap.specs.Allocating.{AllSurvived, Fits, HasAged, OldStay}
use Rattle.jm_gen_heap.specs.Minor.{LeavesMinor}

pub limit_of : (g : Generations) → (content_of g).limit ≡ g.limit
unfolding content_of
limit_of g = refl

pub next_of : (g : Generations) → (content_of g).next ≡ g.next
unfolding content_of
next_of g = refl

-- serials are at their end, and there is room
pub at_end : (g : Generations) → AreGenerations g → (n : ℕ) → all_cells g + n ≤ g.limit → 2 ^ 63 ≤ g.next → (roots : List ℕ) → AllResident (content_of g) roots → (used_by class_size (content_of g) roots + n ≤ (content_of g).limit) × (2 ^ 63 ≤ (content_of g).next)
at_end g v n room end roots r =
    let used = used_at_most (content_of g) roots (reached_below v roots r) in
    let counted = v.counted in
    let limit = limit_of g in
    let next = next_of g in
    (omega (arith, used, counted, room, limit), omega (arith, end, next))

-- what is left as it was takes no more cells
pub fewer : (g h : Generations) → AreGenerations g → AreGenerations h → IsAsBefore (content_of g) (content_of h) → all_cells h ≤ all_cells g
fewer g h v w before =
    let all = cells_covered (content_of h) ks (sound w) (sound w).serials (λ k a. a) in
    let same = cells_alike (object_at (content_of h)) (object_at (content_of g)) ks alike in
    let within = cells_at (content_of g) ks (sound w).serials in
    let old = v.counted in
    let new = w.counted in
    omega (arith, all, same, within, old, new)
  where
    ks : List ℕ
    ks = serials_of (content_of h).residents

    alike : (k : ℕ) → Among k ks → cells_of class_size (object_at (content_of h) k) ≡ cells_of class_size (object_at (content_of g) k)
    alike k a =
        let r = (shown w).listed k a in
        let here = ap (object_at (content_of h)) (sym r.3) ∙ (shown w).objects r.0 r.1 r.2 in
        ap (cells_of class_size) (here ∙ sym (before k _ here))

-- what a minor collection leaves
pub record IsLeft (g h : Generations) (roots moved : List ℕ) : Type 0 where
  pub kept : Kept (content_of g) roots (content_of h) moved
  pub next : (content_of h).next ≡ (content_of g).next
  pub as_before : IsAsBefore (content_of g) (content_of h)

pub minor_left : {g h : Generations} {roots moved : List ℕ} → LeavesMinor g h roots moved → IsLeft g h roots moved
minor_left {g = g} {h = h} {roots = roots} {moved = moved} m =
    let same = remembered_content g m.remembered in
    record {
      kept = subst (λ k. Kept k roots (content_of h) moved) same m.leaves.kept;
      next = m.leaves.next ∙ ap (λ k. k.next) same;
      as_before = subst (λ k. IsAsBefore k (content_of h)) same m.leaves.as_before;
    }

pub minor_stays : {g h : Generations} {roots moved : List ℕ} → LeavesMinor g h roots moved → (n : ℕ) → OldStay g h n
minor_stays {g = g} m n fits k old =
    m.leaves.stays k (inl (record { place = old.place; object = old.object; lies = old.lies; serial = old.serial })) ∙ ap (λ x. object_at x k) (remembered_content g m.remembered)

pub full_left : {g h : Generations} {roots moved : List ℕ} → LeavesAllReached g h roots moved → IsLeft g h roots moved
full_left l = record { kept = l.kept; next = l.next; as_before = l.as_before }

-- a refused collection leaves all as it was
pub same_left : (g h : Generations) (roots moved : List ℕ) → AreGenerations g → AllResident (content_of g) roots → content_of h ≡ content_of g → moved ≡ roots → IsLeft g h roots moved
same_left g h roots moved v r e f = record {
  kept = subst (λ x. Kept (content_of g) roots x moved) (sym e) (subst (λ x. Kept (content_of g) roots (content_of g) x) (sym f) (kept_same (content_of g) roots (sound v) r));
  next = ap (λ x. x.next) e;
  as_before = λ k o there. ap (λ x. object_at x k) (sym e) ∙ there;
}

-- an object fits still after a minor collection
pub minor_fits : {g h : Generations} {roots moved : List ℕ} → AreGenerations g → AreGenerations h → LeavesMinor g h roots moved → (n : ℕ) → Fits g n → Fits h n
minor_fits {g = g} {h = h} v w m n fits =
    let left = minor_left m in
    let cells = fewer g h v w left.as_before in
    let limit : h.limit ≡ g.limit = sym (limit_of h) ∙ left.kept.limit ∙ limit_of g in
    omega (arith, cells, limit, fits)

-- full means that what is reached and the object pass the limit
pub full_passes : {g h : Generations} {roots moved : List ℕ} → LeavesAllReached g h roots moved → (n : ℕ) → (Fits h n → ⊥) → (content_of g).limit < used_by class_size (content_of g) roots + n
full_passes {g = g} {h = h} l n none =
    let counted = l.generations.counted in
    let cells = l.cells in
    let limit : h.limit ≡ (content_of g).limit = sym (limit_of h) ∙ l.kept.limit in
    let passes : h.limit < all_cells h + n = by (nat_le (all_cells h + n) h.limit) refl in
    omega (arith, counted, cells, limit, passes)
  where
    by : (b : Bool) → nat_le (all_cells h + n) h.limit ≡ b → h.limit < all_cells h + n
    by true e = absurd (none (leb-true (all_cells h + n) h.limit e))
    by false e = grind (arith, e)

pub refused_here : (old mid : Content ClassId) (roots moved : List ℕ) (o : ObjectOf ClassId) (f : HeapFault) → Kept old roots mid moved → mid.next ≡ old.next → IsRefusedHere mid o f → IsRefused old roots o f
refused_here old mid roots moved o OutOfMemory k next h = tt
refused_here old mid roots moved o HeapFull k next h = absurd h
refused_here old mid roots moved o SerialsEnd k next h =
    let at = h moved k.resident in
    let used = still_used k next in
    let limit = k.limit in
    (omega (arith, at.0, used, limit), omega (arith, at.1, next))

-- after a minor collection, whether it was refused or not
pub minor_tried : {T E : Type 0} (r : Result T E) (g h : Generations) (roots moved : List ℕ) → AreGenerations g → AllResident (content_of g) roots → OnOk r (LeavesMinor g h roots moved) → OnErr r (content_of h ≡ content_of g) → OnErr r (moved ≡ roots) → IsLeft g h roots moved
minor_tried (Ok x) g h roots moved v r m e f = minor_left m
minor_tried (Err x) g h roots moved v r m e f = same_left g h roots moved v r e f

pub full_tried : {T E : Type 0} (r : Result T E) (g h : Generations) (roots moved : List ℕ) → AreGenerations g → AllResident (content_of g) roots → OnOk r (LeavesAllReached g h roots moved) → OnErr r (h ≡ g) → OnErr r (moved ≡ roots) → IsLeft g h roots moved
full_tried (Ok x) g h roots moved v r m e f = full_left m
full_tried (Err x) g h roots moved v r m e f = same_left g h roots moved v r (ap content_of e) f

-- an old object is resident
pub object_was : (g : Generations) → AreGenerations g → (k : ℕ) → WasOld g k → (x : ObjectOf ClassId) × (object_at (content_of g) k ≡ Some x)
object_was g v k old =
    let lies = (old_lies (laned v) old.place old.object old.lies).1 in
    (_, ap (object_at (content_of g)) (sym old.serial) ∙ (shown v).objects old.place old.object lies)

-- old objects stay when one more is made, or none is
pub stays_made : {E : Type 0} (r : Result ℕ E) (g mid h : Generations) (n : ℕ) (x : ObjectOf ClassId) → OldStay g mid n → AreGenerations g → IfOk r (λ p. MadeHere (content_of mid) (content_of h) p x) → OnErr r (h ≡ mid) → OldStay g h n
stays_made (Ok p) g mid h n x stays v made same fits k old =
    let here = stays fits k old in
    let was = object_was g v k old in
    made.objects k was.0 (here ∙ was.1) ∙ sym was.1
stays_made (Err f) g mid h n x stays v made same fits k old = ap (λ y. object_at (content_of y) k) same ∙ stays fits k old

pub stays_here : (g h : Generations) (n p : ℕ) (x : ObjectOf ClassId) → AreGenerations g → MadeHere (content_of g) (content_of h) p x → OldStay g h n
stays_here g h n p x v made fits k old = let was = object_was g v k old in made.objects k was.0 was.1 ∙ sym was.1

-- an object more beside young ones that have all survived a collection
pub aged_made : {E : Type 0} (r : Result ℕ E) (g mid h : Generations) (n : ℕ) (x : ObjectOf ClassId) → AreGenerations mid → AreGenerations h → (content_of mid).next ≡ (content_of g).next → AllSurvived mid → IfOk r (λ p. IsPutNew mid h p n x) → OnOk r (HasAged g h)
aged_made (Err e) g mid h n x v w next all put = tt
aged_made (Ok p) g mid h n x v w next all put = λ past q a there apart. by q a there apart (eqb_tells q p)
  where
    by : (q : ℕ) (a : Object) → objects_at h.nurseries q ≡ Some a → a.serial ≢ g.next → ((nat_eq q p ≡ true) × (q ≡ p)) ⊎ ((nat_eq q p ≡ false) × (q ≢ p)) → a.age ≡ 1
    by q a there apart (inl same) =
        let lies = (young_lies (laned w) q a there).1 in
        let both : Some a ≡ Some put.object = sym lies ∙ ap (lying h) same.1 ∙ put.put.here in
        let is : a ≡ put.object = cc in
        absurd (apart (ap (λ y. y.serial) is ∙ put.fresh.serial ∙ sym (next_of mid) ∙ next ∙ next_of g))
    by q a there apart (inr other) =
        let lies = young_lies (laned w) q a there in
        all q a (sym (lying_young (laned v) q lies.0) ∙ sym (put.put.others q other.1) ∙ lies.1)
