-- What a collection leaves of the parts of a heap of generations.
use Rattle.std.proofs.Common.{◌≡◌, ◌⊎◌, ℕ, ◌+◌, ◌<◌, ◌^◌, List, [], ◌∷◌, ◌++◌, Option, Some, None, Bool, true, false, zero, refl, sym, ap, ◌∙◌, subst, inl, inr, length, take, drop, arith, length-append}
use Rattle.std.specs.Prelude.{is_some, ◌||◌}
use Rattle.std.proofs.lemmas.List.{take-append-drop, length-map, length-take}
use Rattle.jm_values.specs.Shape.{Among}
use Rattle.jm_values.specs.Rename.{refs, stack_shape}
use Rattle.jm_values.specs.declared.value.Value.{Value}
use Rattle.jm_values.specs.declared.value.Value.TheVariants.{Int, Long, Null, Ref}
use Rattle.jm_values.specs.Content.{AllResident}
use Rattle.jm_values.proofs.Among.{among_left, among_right, among_split}
use Rattle.jm_copy.specs.Image.{renamed}
use Rattle.jm_blocks.specs.Objects.{Object}
use Rattle.jm_blocks.specs.Stores.{Blocks, HasObject, objects_in, store_cells}
use Rattle.jm_blocks.proofs.Lists.{no_blocks}
use Rattle.jm_nursery.specs.Nurseries.{Young, nursery_at}
use Rattle.jm_copy.specs.Collected.{IsCollected}
use Rattle.jm_gen_heap.specs.Generations.{Generations, IsYoung, old_lane, stores_of}
use Rattle.jm_gen_heap.specs.Residents.{content_of}
use Rattle.jm_gen_heap.specs.Invariant.{AreGenerations}
use Rattle.jm_gen_heap.specs.Steps.{with_tenured}
use Rattle.jm_gen_heap.specs.Collections.{AreWhole, AreWrittenBack, IsWhole, LeavesAllReached, collected_as, fields_of, minor_roots}
use Rattle.jm_gen_heap.proofs.Keeping.{full_leaves_reached, minor_leaves_old}
use Rattle.jm_gen_heap.proofs.WritingBack.{same_fields}
use Rattle.jm_gen_heap.proofs.Refusing.{refused_keeps, remembered_content, remembered_keeps, same_content, unmoved}
use Rattle.jm_gen_heap.specs.Allocating.{AllLieAsBefore}
use Rattle.jm_gen_heap.proofs.Storing.{no_nursery}
use Rattle.jm_gen_heap.specs.Copying.{ArePutIn, IsCopied}
use Rattle.jm_gen_heap.specs.Held.{AreHeld, held}
use Rattle.jm_gen_heap.specs.Minor.{LeavesMinor}
use Rattle.jm_gen_heap.specs.Pointers.{Noted, IsSettled, StillPoint, all_of, names_young, points_to_young}

-- values with the name of a young object point to one
pub points : (vs : List Value) (q : ℕ) → Among q (stack_shape.refs vs) → IsYoung q → points_to_young vs ≡ true
points [] q a y = absurd a
points (v ∷ vs) q a y = by v (among_split q (refs v) (stack_shape.refs vs) a) (λ b. points vs q b y)
  where
    named : (b : Bool) → b ≡ true → (b || points_to_young vs) ≡ true
    named true e = refl
    named false e = cc

    later : (b : Bool) → points_to_young vs ≡ true → (b || points_to_young vs) ≡ true
    later true e = refl
    later false e = e

    young : (o : Option ℕ) → nursery_at q ≡ o → is_some (nursery_at q) ≡ true
    young None e = absurd (no_nursery q e y)
    young (Some n) e = ap is_some e

    by : (v : Value) → Among q (refs v) ⊎ Among q (stack_shape.refs vs) → (Among q (stack_shape.refs vs) → points_to_young vs ≡ true) → (names_young v || points_to_young vs) ≡ true
    by (Ref p) (inl (inl same)) more = named (is_some (nursery_at p)) (subst (λ x. is_some (nursery_at x) ≡ true) same (young (nursery_at q) refl))
    by (Ref p) (inl (inr none)) more = absurd none
    by (Int n) (inl none) more = absurd none
    by (Long n) (inl none) more = absurd none
    by Null (inl none) more = absurd none
    by v (inr b) more = later (names_young v) (more b)

-- other places are remembered, where each that points to a young object still is
pub still_held : {limit next cells : ℕ} {young : Young} {tenured : Blocks} {pointers mid : Noted} → AreHeld limit next young tenured cells pointers → StillPoint tenured pointers mid → AreHeld limit next young tenured cells mid × (content_of (held limit next young tenured mid) ≡ content_of (held limit next young tenured pointers))
still_held {limit = limit} {next = next} {young = young} {tenured = tenured} {pointers = pointers} {mid = mid} a s = (
  record {
    small = a.small;
    same = a.same;
    counted = a.counted;
    keeps = remembered_keeps g a.keeps (all_of mid)
        (λ p q o k e m y. s.covers p o k e (points o.values q m y))
        (λ p k. a.keeps.remembered.old p (s.only p k));
  },
  remembered_content g (all_of mid),
)
  where
    g : Generations
    g = held limit next young tenured pointers

-- places of old objects are noted, among them all that name young ones, and a collector made copies of
-- the young objects
pub record IsCopiedYoung (g : Generations) (noted roots : List ℕ) (nurseries : List Blocks) (t : Blocks) (listed found : List ℕ) : Type 0 where
  pub keeps : AreGenerations g
  pub covers : (p q : ℕ) (o : Object) → objects_in g.tenured p ≡ Some o → Among q (stack_shape.refs o.values) → IsYoung q → Among p noted
  pub old : (p : ℕ) → Among p noted → HasObject g.tenured p
  pub resident : AllResident (content_of g) roots
  pub copied : IsCopied g.nurseries g.tenured (roots ++ fields_of g.tenured noted) nurseries t listed found

-- those that a heap noted before
pub settled_copied : {limit next cells : ℕ} {young : Young} {tenured : Blocks} {pointers mid : Noted} {roots places : List ℕ} {nurseries : List Blocks} {t : Blocks} {listed found : List ℕ} → AreHeld limit next young tenured cells pointers → IsSettled tenured pointers mid → AllResident (content_of (held limit next young tenured pointers)) roots → places ≡ roots ++ fields_of tenured mid.noted → IsCopied young.lanes tenured places nurseries t listed found → IsCopiedYoung (held limit next young tenured pointers) mid.noted roots nurseries t listed found
settled_copied {young = young} {tenured = tenured} {nurseries = nurseries} {t = t} {listed = listed} {found = found} a s r e c = record {
  keeps = a.keeps;
  covers = λ p q o there m y. s.covers p o (a.keeps.remembered.covers p q o there m y) there (points o.values q m y);
  old = λ p k. a.keeps.remembered.old p (s.only p k);
  resident = r;
  copied = subst (λ ps. IsCopied young.lanes tenured ps nurseries t listed found) e c;
}

module _ {g : Generations} {noted roots : List ℕ} {nurseries : List Blocks} {t : Blocks} {listed found : List ℕ} (x : IsCopiedYoung g noted roots nurseries t listed found) where
  -- what is to be written back lies there, and is as much as before
  kept_old : (p : ℕ) → Among p noted → (o : Object) × (objects_in g.tenured p ≡ Some o) × (objects_in t p ≡ Some o)
  kept_old p k = let o = x.old p k in (o.0, o.1, x.copied.collected.kept p o.0 o.1)

  pub back_there : (p : ℕ) → Among p noted → HasObject t p
  back_there p k = let o = kept_old p k in (o.0, o.2)

  pub back_enough : length found ≡ length roots + length (fields_of t noted)
  back_enough =
      ap length x.copied.collected.image.moved_roots
      ∙ length-map (roots ++ fields_of g.tenured noted) (renamed x.copied.collected.moved)
      ∙ length-append roots (fields_of g.tenured noted)
      ∙ ap (λ fs. length roots + length fs) (sym (same_fields g.tenured t noted (λ p k. let o = kept_old p k in o.2 ∙ sym o.1)))

  -- once all is written back
  pub minor_done : {t2 : Blocks} → AreWrittenBack noted (drop (length roots) found) t t2 → AreWhole nurseries → IsWhole t2 → LeavesMinor g (collected_as g nurseries t2 (noted ++ listed)) roots (take (length roots) found)
  minor_done {t2 = t2} b w v = record {
    remembered = noted;
    covers = x.covers;
    old = x.old;
    leaves = minor_leaves_old before after (remembered_keeps g x.keeps noted (λ p q o k there m y. x.covers p q o there m y) x.old) roots (take (length roots) found) (subst (λ k. AllResident k roots) (sym (remembered_content g noted)) x.resident) (record {
      limit = refl;
      next = refl;
      young = x.copied.young;
      promoted = t;
      listed = listed;
      fields = drop (length roots) found;
      collected = subst (λ ns. IsCollected g.nurseries g.tenured (minor_roots before roots) x.copied.young t listed ns) (sym (take-append-drop (length roots) found)) x.copied.collected;
      many = (let all = back_enough in let n = length-take (length roots) found in omega (arith, n, all));
      written = b;
      remembered = record {
        promoted = λ p k. among_right p noted listed k;
        still = λ p o k there y. among_left p noted listed k;
        only = λ p k. either p (among_split p noted listed k);
      };
      nurseries = x.copied.survivors;
      young_whole = w zero x.copied.young x.copied.survivors.first;
      old_whole = v;
    });
  }
    where
      before : Generations
      before = with_tenured g g.tenured noted

      after : Generations
      after = collected_as g nurseries t2 (noted ++ listed)

      either : (p : ℕ) → Among p noted ⊎ Among p listed → Among p listed ⊎ Among p noted
      either p (inl k) = inr k
      either p (inr k) = inl k

-- a full collection
pub full_done : {g : Generations} {roots places found : List ℕ} {nurseries : List Blocks} {t : Blocks} {listed : List ℕ} → AreGenerations g → AllResident (content_of g) roots → places ≡ roots → IsCopied (stores_of g) (record { lane = old_lane; lists = [] }) places nurseries t listed found → AreWhole nurseries → IsWhole t → LeavesAllReached g (collected_as g nurseries t listed) roots found
full_done {g = g} {roots = roots} {found = found} {nurseries = nurseries} {t = t} {listed = listed} v r e c w x = full_leaves_reached g (collected_as g nurseries t listed) v roots found r (record {
  limit = refl;
  next = refl;
  before = record { lane = old_lane; lists = [] };
  lane = refl;
  empty = λ p. no_blocks old_lane p;
  young = c.young;
  collected = subst (λ ps. IsCollected (stores_of g) (record { lane = old_lane; lists = [] }) ps c.young t listed found) e c.collected;
  nurseries = c.survivors;
  young_whole = w zero c.young c.survivors.first;
  old_whole = x;
})

-- the stores that are left are put in
stores_held : {limit next cells count : ℕ} {young mid new : Young} {tenured t t2 : Blocks} {pointers after : Noted} {nurseries : List Blocks} {remembered : List ℕ} → AreHeld limit next young tenured cells pointers → ArePutIn mid new nurseries t t2 count → mid.limit ≡ young.limit → all_of after ≡ remembered → AreGenerations (collected_as (held limit next young tenured pointers) nurseries t remembered) → AreHeld limit next new t2 count after × (held limit next new t2 after ≡ collected_as (held limit next young tenured pointers) nurseries t remembered)
stores_held {limit = limit} {next = next} {new = new} {t = t} {t2 = t2} {after = after} {nurseries = nurseries} {remembered = remembered} a put same e v =
    let are : held limit next new t2 after ≡ record { limit = limit; next = next; nurseries = nurseries; tenured = t; remembered = remembered } =
    ap (λ (y : Young). record { limit = limit; next = next; nurseries = y.lanes; tenured = t2; remembered = all_of after }) put.young
    ∙ ap (λ (s : Blocks). record { limit = limit; next = next; nurseries = nurseries; tenured = s; remembered = all_of after }) put.old
    ∙ ap (λ (ps : List ℕ). record { limit = limit; next = next; nurseries = nurseries; tenured = t; remembered = ps }) e in
    (record { small = a.small; same = ap (λ y. y.limit) put.young ∙ same ∙ a.same; counted = put.counted ∙ ap (λ s. store_cells s.lists) (sym put.old); keeps = subst AreGenerations (sym are) v }, are)

-- a minor collection: what is held then, and what it left
pub minor_held : {limit next cells count : ℕ} {young mid new : Young} {tenured t t2 t3 : Blocks} {pointers after : Noted} {noted roots : List ℕ} {nurseries : List Blocks} {listed found : List ℕ} → AreHeld limit next young tenured cells pointers → IsCopiedYoung (held limit next young tenured pointers) noted roots nurseries t listed found → AreWrittenBack noted (drop (length roots) found) t t2 → ArePutIn mid new nurseries t2 t3 count → mid.limit ≡ young.limit → after ≡ record { noted = []; left = noted ++ listed } → AreHeld limit next new t3 count after × LeavesMinor (held limit next young tenured pointers) (held limit next new t3 after) roots (take (length roots) found)
minor_held {limit = limit} {next = next} {young = young} {tenured = tenured} {pointers = pointers} {roots = roots} {found = found} a x b put same e =
    let d = minor_done x b put.young_whole put.old_whole in
    let h = stores_held a put same (ap all_of e) d.leaves.generations in
    (h.0, subst (λ k. LeavesMinor (held limit next young tenured pointers) k roots (take (length roots) found)) (sym h.1) d)

-- and a full one, whose roots are all of the places that were found
pub full_held : {limit next cells count : ℕ} {young mid new : Young} {tenured t t2 : Blocks} {pointers after : Noted} {roots places now : List ℕ} {nurseries : List Blocks} {listed found : List ℕ} → AreHeld limit next young tenured cells pointers → AllResident (content_of (held limit next young tenured pointers)) roots → places ≡ roots → IsCopied (young.lanes ++ tenured ∷ []) (record { lane = old_lane; lists = [] }) places nurseries t listed found → now ≡ take (length roots) found → ArePutIn mid new nurseries t t2 count → mid.limit ≡ young.limit → all_of after ≡ listed → AreHeld limit next new t2 count after × LeavesAllReached (held limit next young tenured pointers) (held limit next new t2 after) roots now
full_held {limit = limit} {next = next} {young = young} {tenured = tenured} {t = t} {pointers = pointers} {roots = roots} {places = places} {now = now} {nurseries = nurseries} {listed = listed} {found = found} a r e c first put same f =
    let d = full_done a.keeps r e c put.young_whole put.old_whole in
    let h = stores_held a put same f d.generations in
    let many : length found ≡ length roots = ap length c.collected.image.moved_roots ∙ length-map places (renamed c.collected.moved) ∙ ap length e in
    let moved : now ≡ found = first ∙ ap (λ n. take n found) (sym many) ∙ all found in
    (h.0, subst (λ k. LeavesAllReached (held limit next young tenured pointers) k roots now) (sym h.1) (subst (λ ps. LeavesAllReached (held limit next young tenured pointers) (collected_as (held limit next young tenured pointers) nurseries t listed) roots ps) (sym moved) d))
  where
    all : (xs : List ℕ) → take (length xs) xs ≡ xs
    all [] = refl
    all (x ∷ xs) = ap (λ ys. x ∷ ys) (all xs)

-- a collection that was refused: the old objects are handed back, and counted anew
pub refused_held : {limit next cells : ℕ} {young new : Young} {tenured : Blocks} {pointers mid : Noted} (t : Blocks) (count : ℕ) → AreHeld limit next young tenured cells pointers → StillPoint tenured pointers mid → new ≡ young → t.lane ≡ old_lane → ((p : ℕ) → objects_in t p ≡ objects_in tenured p) → IsWhole t → (store_cells t.lists < 2 ^ 64 → count ≡ store_cells t.lists) → AreHeld limit next new t count mid × (content_of (held limit next new t mid) ≡ content_of (held limit next young tenured pointers))
refused_held {limit = limit} {next = next} {young = young} {tenured = tenured} {pointers = pointers} {mid = mid} t count a s e lane same whole value =
    let still = still_held a s in
    let g : Generations = held limit next young tenured mid in
    let v : AreGenerations g = still.0.keeps in
    let kept = refused_keeps g v t (lane ∙ sym v.tenured) same whole in
    let content = same_content g v t (lane ∙ sym v.tenured) same in
    let few = kept.within in
    let small = a.small in
    subst (λ y. AreHeld limit next y t count mid × (content_of (held limit next y t mid) ≡ content_of (held limit next young tenured pointers))) (sym e) (record { small = a.small; same = a.same; counted = value (omega (arith, few, small)); keeps = kept }, content ∙ still.1)

-- where a collection of the young objects was refused, all lie as before
pub refused_lie : {limit next cells : ℕ} {young new : Young} {tenured : Blocks} {pointers mid : Noted} (t : Blocks) → AreHeld limit next young tenured cells pointers → StillPoint tenured pointers mid → new ≡ young → t.lane ≡ old_lane → ((p : ℕ) → objects_in t p ≡ objects_in tenured p) → AllLieAsBefore (held limit next young tenured pointers) (held limit next new t mid)
refused_lie {limit = limit} {next = next} {young = young} {tenured = tenured} {pointers = pointers} {mid = mid} t a s e lane same =
    let g : Generations = held limit next young tenured mid in
    let v : AreGenerations g = (still_held a s).0.keeps in
    let u = unmoved g v t (lane ∙ sym v.tenured) same in
    subst (λ y. AllLieAsBefore (held limit next young tenured pointers) (held limit next y t mid)) (sym e) (record { limit = refl; next = refl; places = u.places })
