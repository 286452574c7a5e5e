-- What a heap did, beside the world of the state.
use Rattle.std.proofs.Common.{◌≡◌, ℕ, ◌+◌, List, Option, Some, None, Ok, Err, length, refl, sym, ap, ◌∙◌, subst, arith}
use Rattle.std.specs.Prelude.{◌∷◌, ◌<◌, map, option_map, slice_get, sum_by}
use Rattle.std.proofs.lemmas.List.{length-map}
use Rattle.jm_values.proofs.Lists.{get_map, get_there, got_within}
use Rattle.std.proofs.Math.Path.{fun_ext}
use Rattle.std.specs.List.Sorted.{IsStrictlyIncreasing}
use Rattle.jm_values.specs.Shape.{Among}
use Rattle.jm_values.specs.Objects.{ObjectOf, size_by}
use Rattle.jm_values.specs.Content.{Content, IsSound, Kept, Made, MadeAll, AllResident, Reached, used_by, name_of, object_at, serial_at}
use Rattle.jm_values.specs.Marking.{AreReached, FindsReached}
use Rattle.jm_world.specs.Objects.{Object, cells_of_all, size_of, size}
use Rattle.jm_world.specs.World.{World, reach, reach_cells}
use Rattle.jm_world.specs.Matches.{Parts, Matches, places, as_named}
use Rattle.jm_world.proofs.Making.{cells_of_named, make_all_ends, make_all_full, make_all_goes, make_goes, make_full, make_ends}
use Rattle.jm_world.proofs.Matching.{reaches_alike}
use Rattle.jm_world.proofs.Moved.{HasMoved, all_lie, all_placed, kept_matches, made_all_matches, made_matches, made_lies, put_renamed, put_refs, same_renamed}
use Rattle.jm_world.proofs.PlacesOfParts.{held_of, parts_shape, places_held}
use Rattle.jm_world.proofs.Reaching.{reach_is_least}
use Rattle.jm_heap.specs.Allocation.{AreRefused, IsRefused, IsRefusedHere, MadeHere}
use Rattle.jm_heap.specs.Cells.{class_size}
use Rattle.jm_heap.specs.Collection.{LeavesReached}
use Rattle.jm_heap.specs.Trees.{MadeFrom}
use Rattle.jm_heap.specs.declared.heap.Kind.{Kind}
use Rattle.jm_heap.specs.declared.heap.Kind.TheVariants.{Minor, Full}
use Rattle.jm_heap.specs.declared.class_id.ClassId.{ClassId}
use Rattle.jm_heap.specs.declared.fault.HeapFault.{HeapFault}
use Rattle.jm_heap.specs.declared.fault.HeapFault.TheVariants as fault
use Rattle.jm_linked.specs.Links.{LinkedView}
use Rattle.jm_linked.specs.Named.{named_states}
use Rattle.jm_state.specs.Ends.{MadeAllOrNot, MadeOrNot, halt_from}
use Rattle.jm_state.specs.Parts.{named_type, parts}
use Rattle.jm_state.specs.Places.{IsPutBack, places_of}
use Rattle.jm_state.specs.Reached.{AreReachable, FindsReachable, LeavesReachable}
use Rattle.jm_state.specs.Runnable.{IsRunnable}
use Rattle.jm_state.specs.View.{StateView}
use Rattle.jm_state.proofs.Sizes.{sizes_alike}
use Rattle.jm_state.proofs.Runs.{serials_alike, monitors_alike, runs_alike}
use Rattle.jm_state.proofs.Alike.{places_are, held_put}

-- what a heap did, beside the world of the parts before
module _ {m new : Parts ClassId} {w : World} (h : Matches m w) (a : HasMoved m new) (sizes : (t : ClassId) (n : ℕ) → size_of (m.named t) n ≡ class_size t n)
    (o : ObjectOf ClassId) where
  -- the cells of what the heap would hold are those of what the world would
  cells_alike : used_by class_size m.content (places m) + size_by class_size o ≡ reach_cells w + size (as_named m.named o)
  cells_alike =
      ap (λ n. n + size_by class_size o)
      (ap (λ (s : ClassId → ℕ → ℕ). used_by s m.content (places m)) (sym (fun_ext (λ t. fun_ext (sizes t))))
      ∙ (reaches_alike m w h).cells)
      ∙ ap (λ n. reach_cells w + n) (sym (sizes o.type (length o.values)))

  made_ends : (place : ℕ) → Made class_size m.content (places m) new.content (places new) place o → MadeOrNot (Ok place) new w (as_named m.named o)
  made_ends place made =
      let cells = cells_alike in let limit = h.limit in let next = h.next in
      let f = made.fits in let n = made.lasts in
      let lies = made_lies h a made in
      (λ go. make_goes w (as_named m.named o) go (omega arith) (omega arith), made_matches h a made, lies.0, lies.1)

  refused_ends : (why : HeapFault) → Matches new w → IsRefused m.content (places m) o why → MadeOrNot (Err (halt_from why)) new w (as_named m.named o)
  refused_ends fault.OutOfMemory same why = same
  refused_ends fault.HeapFull same why =
      let cells = cells_alike in let limit = h.limit in
      (λ go. make_full w (as_named m.named o) go (omega arith), same)
  refused_ends fault.SerialsEnd same why =
      let cells = cells_alike in let limit = h.limit in let last = h.next in
      let f = why.0 in let n = why.1 in
      (λ go. make_ends w (as_named m.named o) go (omega arith) (omega arith), same)

-- and what it did with a list
module _ {m new : Parts ClassId} {w : World} (h : Matches m w) (a : HasMoved m new) (sizes : (t : ClassId) (n : ℕ) → size_of (m.named t) n ≡ class_size t n)
    (os : List (ObjectOf ClassId)) where
  all_cells_alike : used_by class_size m.content (places m) + sum_by (size_by class_size) os ≡ reach_cells w + cells_of_all (map (as_named m.named) os)
  all_cells_alike =
      let same : (λ (t : ClassId). size_of (m.named t)) ≡ class_size = fun_ext (λ t. fun_ext (sizes t)) in
      ap (λ n. n + sum_by (size_by class_size) os) (ap (λ (s : ClassId → ℕ → ℕ). used_by s m.content (places m)) (sym same) ∙ (reaches_alike m w h).cells)
      ∙ ap (λ (s : ClassId → ℕ → ℕ). reach_cells w + sum_by (size_by s) os) (sym same)
      ∙ ap (λ n. reach_cells w + n) (sym (cells_of_named m.named os))

  all_made_ends : (place : ℕ) (ps : List ℕ) → MadeAll class_size m.content (places m) new.content (places new) (place ∷ ps) os
      → MadeAllOrNot (Ok place) new w (map (as_named m.named) os)
  all_made_ends place ps made =
      let cells = all_cells_alike in let limit = h.limit in let next = h.next in
      let f = made.fits in let n = made.lasts in let many = length-map os (as_named m.named) in (
        λ go. make_all_goes w (map (as_named m.named) os) go (omega (arith, cells, limit, f)) (omega (arith, next, n, many)),
        made_all_matches h a made,
        subst (λ k. serial_at new.content place ≡ Some k) (omega arith) (all_placed h a made 0 place refl),
        lie made,
      )
    where
      lie : MadeAll class_size m.content (places m) new.content (places new) (place ∷ ps) os → (i : ℕ) (o : Object) → slice_get (map (as_named m.named) os) i ≡ Some o
          → option_map (as_named new.named) (object_at new.content (length w.heap + i)) ≡ Some o
      lie made i o e =
          let within : i < length os = omega (arith, got_within (map (as_named m.named) os) i o e, length-map os (as_named m.named)) in
          let one = get_there os i within in
          let same : Some (as_named m.named one.0) ≡ Some o = sym (get_map (as_named m.named) os i one.0 one.1) ∙ e in
          all_lie h a made i one.0 one.1 ∙ same

  all_refused_ends : (why : HeapFault) → Matches new w → AreRefused m.content (places m) os why → MadeAllOrNot (Err (halt_from why)) new w (map (as_named m.named) os)
  all_refused_ends fault.OutOfMemory same why = same
  all_refused_ends fault.HeapFull same why =
      let cells = all_cells_alike in let limit = h.limit in
      (λ go. make_all_full w (map (as_named m.named) os) go (omega (arith, cells, limit, why)), same)
  all_refused_ends fault.SerialsEnd same why =
      let cells = all_cells_alike in let limit = h.limit in let last = h.next in let many = length-map os (as_named m.named) in
      let f = why.0 in let n = why.1 in
      (λ go. make_all_ends w (map (as_named m.named) os) go (omega (arith, cells, limit, f)) (omega (arith, last, many, n)), same)

-- a state beside a world has a sound heap, and the gathered places have objects
module _ (l : LinkedView) (c : Content ClassId) (s : StateView) (b : IsRunnable l s × (w : World) × Matches (parts l c s) w) where
  pub sound : IsSound c
  unfolding parts
  sound = b.2.sound

  pub all_resident : {roots : List ℕ} → roots ≡ places_of s → AllResident c roots
  unfolding parts
  all_resident e = subst (AllResident c) (places_are l c s b.0 ∙ sym e) b.2.resident

-- the places of a state that runs were gathered
pub record HasRoots (l : LinkedView) (c : Content ClassId) (s : StateView) (roots : List ℕ) : Type 0 where
  pub runs : IsRunnable l s
  pub gathered : roots ≡ places_of s

module _ {l : LinkedView} {c : Content ClassId} {s : StateView} {roots : List ℕ} (r : HasRoots l c s roots) where
  from : roots ≡ places (parts l c s)
  from = r.gathered ∙ sym (places_are l c s r.runs)

  -- what a heap did with them, after they were put back
  module _ {t : StateView} {moved : List ℕ} (back : IsPutBack moved s t) where
    module _ (d : Content ClassId) (names : map (name_of d) moved ≡ map (name_of c) roots) where
      put : held_of (parts l d t) ≡ parts_shape.refill moved (held_of (parts l c s))
      put = held_put l c d s t moved r.runs back.held

      named : map (name_of d) moved ≡ map (name_of c) (parts_shape.refs (held_of (parts l c s)))
      named = names ∙ ap (map (name_of c)) (from ∙ places_held (parts l c s))

      to : moved ≡ places (parts l d t)
      to = sym (places_held (parts l d t) ∙ put_refs c d (held_of (parts l c s)) (held_of (parts l d t)) moved put named)

      has_moved : HasMoved (parts l c s) (parts l d t)
      unfolding parts
      has_moved = record {
        held = put_renamed c d (held_of (parts l c s)) (held_of (parts l d t)) moved put named;
        program = refl;
        named = refl;
        classes = ap (named_states l.program) back.moved.classes;
        monitor_serials = monitors_alike back.moved;
        thread_serials = serials_alike back.moved;
        output = back.moved.output;
        stop = back.moved.stop;
      }

    -- the places that were put back are those of the state after
    pub places_back : {d : Content ClassId} → Kept c roots d moved → moved ≡ places_of t
    places_back {d} kept = to d kept.names ∙ places_are l d t (runs_alike back.moved r.runs)

    pub kept_back : {d : Content ClassId} {w : World} → Matches (parts l c s) w → Kept c roots d moved → d.next ≡ c.next → Matches (parts l d t) w
    unfolding parts
    kept_back {d} h kept next =
        kept_matches h (has_moved d kept.names)
        (subst (λ r. Kept c r d (places (parts l d t))) from (subst (Kept c roots d) (to d kept.names) kept)) next

    pub made_back : {d : Content ClassId} {w : World} {place : ℕ} {o : ObjectOf ClassId} → Matches (parts l c s) w → Made class_size c roots d moved place o
        → MadeOrNot (Ok place) (parts l d t) w (as_named (named_type l.program) o)
    unfolding parts
    made_back {d} {w} {place} {o} h made =
        made_ends h (has_moved d made.kept.names) (sizes_alike l.program) o place
        (subst (λ r. Made class_size c r d (places (parts l d t)) place o) from
        (subst (λ r. Made class_size c roots d r place o) (to d made.kept.names) made))

    pub refused_back : {d : Content ClassId} {w : World} (why : HeapFault) (o : ObjectOf ClassId) → Matches (parts l c s) w → Kept c roots d moved
        → d.next ≡ c.next → IsRefused c roots o why → MadeOrNot (Err (halt_from why)) (parts l d t) w (as_named (named_type l.program) o)
    unfolding parts
    refused_back {d} why o h kept next refused =
        refused_ends h (has_moved d kept.names) (sizes_alike l.program) o why (kept_back h kept next) (subst (λ r. IsRefused c r o why) from refused)

    pub all_made_back : {d : Content ClassId} {w : World} {place : ℕ} (made : ℕ → List (ObjectOf ClassId)) → Matches (parts l c s) w
        → MadeFrom c roots d moved place (made c.next) → MadeAllOrNot (Ok place) (parts l d t) w (map (as_named (named_type l.program)) (made (length w.heap)))
    unfolding parts
    all_made_back {d} {w} {place} made h from_next =
        let kept = from_next.1.kept in
        let os = made c.next in
        subst (λ k. MadeAllOrNot (Ok place) (parts l d t) w (map (as_named (named_type l.program)) (made k))) h.next
        (all_made_ends h (has_moved d kept.names) (sizes_alike l.program) os place from_next.0
        (subst (λ r. MadeAll class_size c r d (places (parts l d t)) (place ∷ from_next.0) os) from
        (subst (λ r. MadeAll class_size c roots d r (place ∷ from_next.0) os) (to d kept.names) from_next.1)))

    pub all_refused_back : {d : Content ClassId} {w : World} (why : HeapFault) (made : ℕ → List (ObjectOf ClassId)) → Matches (parts l c s) w → Kept c roots d moved
        → d.next ≡ c.next → AreRefused c roots (made c.next) why
        → MadeAllOrNot (Err (halt_from why)) (parts l d t) w (map (as_named (named_type l.program)) (made (length w.heap)))
    unfolding parts
    all_refused_back {d} {w} why made h kept next refused =
        subst (λ k. MadeAllOrNot (Err (halt_from why)) (parts l d t) w (map (as_named (named_type l.program)) (made k))) h.next
        (all_refused_ends h (has_moved d kept.names) (sizes_alike l.program) (made c.next) why (kept_back h kept next) (subst (λ r. AreRefused c r (made c.next) why) from refused))

  -- what is reached from them is what the world reaches
  module _ {w : World} (h : Matches (parts l c s) w) where
    inward : (k : ℕ) → Reached c roots k → Among k (reach w)
    unfolding parts
    inward k x = ((reach_is_least w h.bound).same k).1 (((reaches_alike (parts l c s) w h).same k).0 (subst (λ y. Reached c y k) from x))

    outward : (k : ℕ) → Among k (reach w) → Reached c roots k
    unfolding parts
    outward k a = subst (λ y. Reached c y k) (sym from) (((reaches_alike (parts l c s) w h).same k).1 (((reach_is_least w h.bound).same k).0 a))

    pub reaches : {serials : List ℕ} → AreReached c roots serials → IsStrictlyIncreasing serials → AreReachable w serials
    reaches here rising = record { rising = rising; same = λ k. (λ a. inward k ((here k).0 a), λ a. (here k).1 (outward k a)) }

    pub finds : (k : ℕ) (found : Option ℕ) → FindsReached c roots k found → FindsReachable c w k found
    finds k None unreached = λ a. unreached (outward k a)
    finds k (Some p) here = (inward k here.0, here.1)

    -- so a full collection leaves what the world reaches
    pub leaves : (d : Content ClassId) (kind : Kind) → LeavesReached kind c roots d → LeavesReachable kind d w
    leaves d Minor left = tt
    leaves d Full left = λ k o i. inward k (left k o i)

-- made without a collection
module _ (l : LinkedView) (c : Content ClassId) (s : StateView) {w : World} (h : Matches (parts l c s) w) (o : ObjectOf ClassId) where
  pub made_here : {d : Content ClassId} {place : ℕ} → MadeHere c d place o → MadeOrNot (Ok place) (parts l d s) w (as_named (named_type l.program) o)
  unfolding parts
  made_here {d} {place} here =
      let made = here.made (places (parts l c s)) h.resident in
      let names = subst (λ r. map (name_of d) r ≡ map (name_of c) r) (places_held (parts l c s)) made.kept.names in
      made_ends h (record {
        held = same_renamed c d
            (held_of (parts l c s)) names;
        program = refl;
        named = refl;
        classes = refl;
        monitor_serials = refl;
        thread_serials = refl;
        output = refl;
        stop = refl;
      })
      (sizes_alike l.program) o place made

  pub refused_here : (why : HeapFault) → IsRefusedHere c o why → MadeOrNot (Err (halt_from why)) (parts l c s) w (as_named (named_type l.program) o)
  unfolding parts
  refused_here why refused =
      refused_ends h (record {
        held = refl;
        program = refl;
        named = refl;
        classes = refl;
        monitor_serials = refl;
        thread_serials = refl;
        output = refl;
        stop = refl;
      })
      (sizes_alike l.program) o why h (is_refused why refused)
    where
      is_refused : (why : HeapFault) → IsRefusedHere c o why → IsRefused c (places (parts l c s)) o why
      is_refused fault.OutOfMemory r = tt
      is_refused fault.HeapFull r = absurd r
      is_refused fault.SerialsEnd r = r (places (parts l c s)) h.resident
