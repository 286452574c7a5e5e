-- What is left when the objects of a list have come to places where none lay.
use Rattle.std.proofs.Common.{◌≡◌, ℕ, zero, suc, ◌+◌, ◌<◌, ◌≤◌, ◌^◌, List, [], ◌∷◌, Some, refl, sym, ap, ◌∙◌, subst, length, arith}
use Rattle.std.specs.Prelude.{slice_get, sum_by, Result, Ok, Err, IfOk, IfErr, OnErr}
use Rattle.std.proofs.lemmas.List.Sums.{sum_by-cons}
use Rattle.jm_values.specs.Objects.{ObjectOf, size_by}
use Rattle.jm_values.specs.Content.{Content, IsSound, Kept, Made, MadeAll, AllResident, AreAtEnd, used_by, serial_at, object_at}
use Rattle.jm_heap.specs.Allocation.{AllMadeHere, AreRefused, AreRefusedHere, MadeHere, RoomIsRefused}
use Rattle.jm_heap.specs.Cells.{class_size}
use Rattle.jm_heap.specs.Collection.{AreAsBeforeMaking, Collected, IsTidied, IsUnmoved}
use Rattle.jm_heap.specs.Slots.{AreSound, content_of, slots_cells, Slot}
use Rattle.jm_heap.specs.Stored.{StoredAll, numbered, numbered_from}
use Rattle.jm_heap.specs.declared.class_id.ClassId.{ClassId}
use Rattle.jm_heap.specs.declared.fault.HeapFault.{HeapFault}
use Rattle.jm_heap.specs.declared.fault.HeapFault.TheVariants.{OutOfMemory, HeapFull, SerialsEnd}
use Rattle.jm_heap.proofs.AllocatingLemmas.{kept_on, still_used}
use Rattle.jm_heap.proofs.CellLemmas.{used_at_most}
use Rattle.jm_heap.proofs.ContentLemmas.{cells_of_content}
use Rattle.jm_heap.proofs.MakingLemmas.{made_at, sound_made, new_size}
use Rattle.jm_heap.proofs.ShapesLemmas.{AreNew}
use Rattle.jm_heap.proofs.SoundLemmas.{sound_content}
use Rattle.jm_heap.proofs.SweepingLemmas.{kept_same}

-- the objects of a list have been made, whatever the room for them
pub record ManyMade (old new : Content ClassId) (ps : List ℕ) (os : List (ObjectOf ClassId)) : Type 0 where
  pub kept : (roots : List ℕ) → AllResident old roots → Kept old roots new roots
  pub many : length ps ≡ length os
  pub placed : (i p : ℕ) → slice_get ps i ≡ Some p → serial_at new p ≡ Some (old.next + i)
  pub filled : (i : ℕ) (o : ObjectOf ClassId) → slice_get os i ≡ Some o → object_at new (old.next + i) ≡ Some o
  pub stays : (p k : ℕ) → serial_at old p ≡ Some k → serial_at new p ≡ Some k
  pub objects : (k : ℕ) (x : ObjectOf ClassId) → object_at old k ≡ Some x → object_at new k ≡ Some x
  pub as_before : AreAsBeforeMaking old new

none_made : (c : Content ClassId) → IsSound c → ManyMade c c [] []
none_made c s = record {
  kept = λ roots r. kept_same c roots s r;
  many = refl;
  placed = λ i p e. absurd (cc);
  filled = λ i o e. absurd (cc);
  stays = λ p k e. e;
  objects = λ k x e. e;
  as_before = λ k x l e. e;
}

-- one, and then the others
one_and_others : (old mid new : Content ClassId) (p : ℕ) (o : ObjectOf ClassId) (ps : List ℕ) (os : List (ObjectOf ClassId)) → MadeHere old mid p o → ManyMade mid new ps os → ManyMade old new (p ∷ ps) (o ∷ os)
one_and_others old mid new p o ps os h g = record {
  kept = λ roots r. let m = h.made roots r in kept_on old mid roots m.kept new (g.kept roots m.kept.resident);
  many = ap suc g.many;
  placed = placed;
  filled = filled;
  stays = λ q k e. g.stays q k (h.places q k e);
  objects = λ k x e. g.objects k x (h.objects k x e);
  as_before = λ k x l e. h.as_before k x (λ same. let n : k ≡ old.next = same in omega (arith, l, n)) (g.as_before k x (omega (arith, l, first.next)) e);
}
  where
    first : Made class_size old [] mid [] p o
    first = h.made [] (λ q a. absurd a)

    shift : (i : ℕ) → mid.next + i ≡ old.next + suc i
    shift i = let n = first.next in omega (arith, n)

    zeroth : old.next ≡ old.next + 0
    zeroth = omega arith

    placed : (i q : ℕ) → slice_get (p ∷ ps) i ≡ Some q → serial_at new q ≡ Some (old.next + i)
    placed zero q e = let same : p ≡ q = cc in subst (λ r. serial_at new r ≡ Some (old.next + 0)) same (subst (λ n. serial_at new p ≡ Some n) zeroth (g.stays p old.next first.placed))
    placed (suc i) q e = subst (λ n. serial_at new q ≡ Some n) (shift i) (g.placed i q e)

    filled : (i : ℕ) (x : ObjectOf ClassId) → slice_get (o ∷ os) i ≡ Some x → object_at new (old.next + i) ≡ Some x
    filled zero x e = let same : o ≡ x = cc in subst (λ y. object_at new (old.next + 0) ≡ Some y) same (subst (λ n. object_at new n ≡ Some o) zeroth (g.objects old.next o first.filled))
    filled (suc i) x e = subst (λ n. object_at new n ≡ Some x) (shift i) (g.filled i x e)

-- slots in which the objects of a list have come to places
pub record Grown (limit next last : ℕ) (slots after : List Slot) (ps : List ℕ) (os : List (ObjectOf ClassId)) : Type 0 where
  pub sound : AreSound last after
  pub cells : slots_cells after ≡ slots_cells slots + sum_by (size_by class_size) os
  pub few : length after < 2 ^ 63
  pub made : ManyMade (content_of limit next slots) (content_of limit last after) ps os

pub grown : (limit next last : ℕ) (slots after : List Slot) (ps : List ℕ) (os : List (ObjectOf ClassId)) → AreSound next slots → length slots < 2 ^ 63 → AreNew os → slots_cells slots + sum_by (size_by class_size) os ≤ limit → next + length os ≡ last → last ≤ 2 ^ 63 → StoredAll slots after ps (numbered_from next os) → Grown limit next last slots after ps os
grown limit next last slots after [] [] s few new room e lasts w =
    let same : next ≡ last = omega (arith, e) in
    subst (λ l. Grown limit next l slots after [] []) same (subst (λ x. Grown limit next next slots x [] []) (sym w) (record { sound = s; cells = omega arith; few = few; made = none_made (content_of limit next slots) (sound_content limit next slots s) }))
grown limit next last slots after (p ∷ ps) [] s few new room e lasts w = absurd w
grown limit next last slots after [] (o ∷ os) s few new room e lasts w = absurd w
grown limit next last slots after (p ∷ ps) (o ∷ os) s few new room e lasts w =
    let size = new_size next o in
    let cells = w.1.cells in
    let more : slots_cells w.0 ≡ slots_cells slots + size_by class_size o = omega (arith, cells, size) in
    let total : sum_by (size_by class_size) (o ∷ os) ≡ size_by class_size o + sum_by (size_by class_size) os = sum_by-cons (size_by class_size) o os in
    let one = made_at limit next slots w.0 (content_of limit next slots) refl s p (numbered next o) o w.1 refl refl refl new.0 new.1 (omega (arith, room, total)) (omega (arith, e, lasts)) in
    let later = grown limit (next + 1) last w.0 after ps os (sound_made next slots w.0 s p (numbered next o) o w.1 refl refl new.0 new.1) w.1.few new.2 (omega (arith, room, more, total)) (omega (arith, e)) lasts w.2 in
    record {
      sound = later.sound;
      cells = let all = later.cells in omega (arith, all, more, total);
      few = later.few;
      made = one_and_others (content_of limit next slots) (content_of limit (next + 1) w.0) (content_of limit last after) p o ps os one later.made;
    }

made_with_roots : (limit next last : ℕ) (slots after : List Slot) → AreSound next slots → (ps : List ℕ) (os : List (ObjectOf ClassId)) → Grown limit next last slots after ps os → slots_cells slots + sum_by (size_by class_size) os ≤ limit → next + length os ≡ last → last ≤ 2 ^ 63 → (roots : List ℕ) → AllResident (content_of limit next slots) roots → MadeAll class_size (content_of limit next slots) roots (content_of limit last after) roots ps os
unfolding content_of
made_with_roots limit next last slots after s ps os g room many lasts roots r = record {
  kept = g.made.kept roots r;
  next = sym many;
  many = g.made.many;
  placed = g.made.placed;
  filled = g.made.filled;
  fits = let least = used_at_most limit next slots roots s r in let cells = cells_of_content limit next slots in omega (arith, least, cells, room);
  lasts = omega (arith, many, lasts);
}

pub all_made : (limit next last : ℕ) (slots after : List Slot) (d : Content ClassId) → content_of limit next slots ≡ d → AreSound next slots → (ps : List ℕ) (os : List (ObjectOf ClassId)) → Grown limit next last slots after ps os → slots_cells slots + sum_by (size_by class_size) os ≤ limit → next + length os ≡ last → last ≤ 2 ^ 63 → AllMadeHere d (content_of limit last after) ps os
all_made limit next last slots after d e s ps os g room many lasts =
    subst (λ x. AllMadeHere x (content_of limit last after) ps os) e (record { made = made_with_roots limit next last slots after s ps os g room many lasts; stays = g.made.stays; as_before = g.made.as_before })

end_here : (limit next : ℕ) (slots : List Slot) → AreSound next slots → (os : List (ObjectOf ClassId)) → slots_cells slots + sum_by (size_by class_size) os ≤ limit → 2 ^ 63 < next + length os → (roots : List ℕ) → AllResident (content_of limit next slots) roots → AreAtEnd class_size (content_of limit next slots) roots os
unfolding content_of
end_here limit next slots s os room last roots r =
    let cells = cells_of_content limit next slots in
    let least = used_at_most limit next slots roots s r in
    (omega (arith, cells, least, room), last)

pub all_at_end : (limit next : ℕ) (slots : List Slot) (d : Content ClassId) → content_of limit next slots ≡ d → AreSound next slots → (os : List (ObjectOf ClassId)) → slots_cells slots + sum_by (size_by class_size) os ≤ limit → 2 ^ 63 < next + length os → (roots : List ℕ) → AllResident d roots → AreAtEnd class_size d roots os
all_at_end limit next slots d e s os room last = subst (λ x. (roots : List ℕ) → AllResident x roots → AreAtEnd class_size x roots os) e (end_here limit next slots s os room last)

-- nothing was collected, or all
pub tidied_same : (old new : Content ClassId) (roots : List ℕ) → new ≡ old → IsSound old → AllResident old roots → IsTidied old roots new
tidied_same old new roots e s r = subst (λ x. IsTidied old roots x) (sym e) (record { kept = kept_same old roots s r; next = refl; as_before = λ k o h. h; places = λ p k h f. f })

pub tidied_all : (old new : Content ClassId) (roots : List ℕ) → Collected old roots new → IsTidied old roots new
tidied_all old new roots g = record { kept = g.kept; next = g.next; as_before = g.as_before; places = g.places }

pub least_used : (limit next : ℕ) (slots : List Slot) (d : Content ClassId) → content_of limit next slots ≡ d → AreSound next slots → (roots : List ℕ) → AllResident d roots → used_by class_size d roots ≤ slots_cells slots
least_used limit next slots d e s roots r =
    let cells = cells_of_content limit next slots in
    subst (λ x. AllResident x roots → used_by class_size x roots ≤ slots_cells slots) e (λ q. let least = used_at_most limit next slots roots s q in omega (arith, least, cells)) r

-- what making after that leaves, beside what there was before
module _ (old mid : Content ClassId) (roots : List ℕ) (t : IsTidied old roots mid) where
  pub made_all_after : (new : Content ClassId) (ps : List ℕ) (os : List (ObjectOf ClassId)) → AllMadeHere mid new ps os → MadeAll class_size old roots new roots ps os
  made_all_after new ps os m =
      let made = m.made roots t.kept.resident in
      record {
        kept = kept_on old mid roots t.kept new made.kept;
        next = made.next ∙ ap (λ n. n + length os) t.next;
        many = made.many;
        placed = subst (λ n. (i p : ℕ) → slice_get ps i ≡ Some p → serial_at new p ≡ Some (n + i)) t.next made.placed;
        filled = subst (λ n. (i : ℕ) (o : ObjectOf ClassId) → slice_get os i ≡ Some o → object_at new (n + i) ≡ Some o) t.next made.filled;
        fits = let used = still_used old mid roots t.kept t.next in let limit = t.kept.limit in let fits = made.fits in omega (arith, used, limit, fits);
        lasts = subst (λ n. n + length os ≤ 2 ^ 63) t.next made.lasts;
      }

  pub before_all_made : (new : Content ClassId) (ps : List ℕ) (os : List (ObjectOf ClassId)) → AllMadeHere mid new ps os → AreAsBeforeMaking old new
  before_all_made new ps os m k x l h = t.as_before k x (m.as_before k x (let next = t.next in omega (arith, l, next)) h)

  pub unmoved_all_made : (new : Content ClassId) (ps : List ℕ) (os : List (ObjectOf ClassId)) → AllMadeHere mid new ps os → IsUnmoved old roots new
  unmoved_all_made new ps os m p k r e = m.stays p k (t.places p k r e)

  pub refused_after : (os : List (ObjectOf ClassId)) (fault : HeapFault) → AreRefusedHere mid os fault → AreRefused old roots os fault
  refused_after os OutOfMemory h = tt
  refused_after os HeapFull h = absurd h
  refused_after os SerialsEnd h =
      let end = h roots t.kept.resident in
      let used = still_used old mid roots t.kept t.next in
      let limit = t.kept.limit in
      let next = t.next in
      (let room = end.0 in omega (arith, room, used, limit), let last = end.1 in omega (arith, last, next))

  -- the same of the call that makes them
  pub ok_after : (new : Content ClassId) (os : List (ObjectOf ClassId)) {V : Type 0} (items : V → List ℕ) (r : Result V HeapFault) → IfOk r (λ places. AllMadeHere mid new (items places) os) → IfOk r (λ places. MadeAll class_size old roots new roots (items places) os)
  ok_after new os items (Ok places) m = made_all_after new (items places) os m
  ok_after new os items (Err fault) m = tt

  pub err_after : (os : List (ObjectOf ClassId)) {V : Type 0} (r : Result V HeapFault) → IfErr r (AreRefusedHere mid os) → IfErr r (AreRefused old roots os)
  err_after os (Ok places) h = tt
  err_after os (Err fault) h = refused_after os fault h

  pub unmoved_after : (new : Content ClassId) (os : List (ObjectOf ClassId)) {V : Type 0} (items : V → List ℕ) (r : Result V HeapFault) → IfOk r (λ places. AllMadeHere mid new (items places) os) → OnErr r (new ≡ mid) → IsUnmoved old roots new
  unmoved_after new os items (Ok places) m e = unmoved_all_made new (items places) os m
  unmoved_after new os items (Err fault) m e = subst (λ c. IsUnmoved old roots c) (sym e) t.places

pub room_refused : (c : Content ClassId) (roots : List ℕ) (os : List (ObjectOf ClassId)) (cells : ℕ) (fault : HeapFault) → cells ≡ sum_by (size_by class_size) os → RoomIsRefused c roots cells fault → AreRefused c roots os fault
room_refused c roots os cells OutOfMemory e h = tt
room_refused c roots os cells HeapFull e h = omega (arith, e, h)
room_refused c roots os cells SerialsEnd e h = absurd h
