-- Objects that a heap has made, each at the root of its number: one more, and one that is changed.
use Rattle.std.proofs.Common.{◌≡◌, ◌≢◌, ◌⊎◌, ℕ, zero, suc, ◌+◌, ◌*◌, ◌<◌, ◌≤◌, List, [], ◌∷◌, ◌++◌, Option, Some, None, true, false, refl, sym, ap}
use Rattle.std.proofs.Common.{◌∙◌, subst, inl, inr, length, arith, length-append}
use Rattle.std.specs.Prelude.{map, nat_eq, slice_get, slice_set}
use Rattle.std.proofs.lemmas.Bool.Decides.{eqb_tells}
use Rattle.std.proofs.lemmas.List.{length-map}
use Rattle.jm_program.proofs.Sequences.{got_last, got_before_last}
use Rattle.jm_values.specs.Shape.{Among}
use Rattle.jm_values.specs.Rename.{rename}
use Rattle.jm_values.specs.declared.value.Value.{Value}
use Rattle.jm_values.specs.Objects.{ObjectOf, size_by}
use Rattle.jm_values.specs.Reach.{root, AllDistinct}
use Rattle.jm_values.specs.Content.{Content, Resident, places_of, serials_of, IsSound, AllResident, Made, IsFull, IsAtEnd, IsSet, used_by, serial_at}
use Rattle.jm_values.specs.Content.{object_at, name_of}
use Rattle.jm_values.proofs.Among.{among_map}
use Rattle.jm_values.proofs.Lists.{get_there, got_within, get_map}
use Rattle.jm_values.proofs.SoundContents.{name_is, object_below}
use Rattle.jm_heap.specs.Cells.{class_size}
use Rattle.jm_heap.specs.Allocation.{IsRefused}
use Rattle.jm_heap.specs.declared.class_id.ClassId.{ClassId}
use Rattle.jm_heap.specs.declared.fault.HeapFault.{HeapFault}
use Rattle.jm_heap.specs.declared.fault.HeapFault.TheVariants.{HeapFull, SerialsEnd}
use Rattle.jm_heap.proofs.SizeLaws.{at_least_two as at_least}
use Rattle.jm_machine.specs.Start.{IsEmpty}
use Rattle.jm_machine.specs.FirstObjects.{Holds, HasRoomFor, Adds, cells_of_all}
use Rattle.jm_machine.proofs.WithinCells.{used_at_most}

-- where an element of a list is
pub among_index : (p : ℕ) (ps : List ℕ) → Among p ps → (k : ℕ) × (slice_get ps k ≡ Some p)
among_index p [] a = absurd a
among_index p (q ∷ ps) (inl e) = (0, ap Some (sym e))
among_index p (q ∷ ps) (inr a) = let t = among_index p ps a in (suc t.0, t.1)

index_among : (p : ℕ) (ps : List ℕ) (k : ℕ) → slice_get ps k ≡ Some p → Among p ps
index_among p [] k e = cc
index_among p (q ∷ ps) zero e = inl (cc)
index_among p (q ∷ ps) (suc k) e = inr (index_among p ps k e)

either : (j n : ℕ) → j ≡ n ⊎ j ≢ n
either j n = by (eqb_tells j n)
  where
    by : ((nat_eq j n ≡ true) × (j ≡ n)) ⊎ ((nat_eq j n ≡ false) × (j ≢ n)) → j ≡ n ⊎ j ≢ n
    by (inl t) = inl t.1
    by (inr t) = inr t.1

none_or : {A : Type 0} (x : Option A) → ((y : A) → x ≡ Some y → ⊥) → x ≡ None
none_or None h = refl
none_or (Some y) h = absurd (h y refl)

pub empty_sound : (c : Content ClassId) → IsEmpty c → IsSound c
empty_sound c e = record {
  places = subst (λ (rs : List (Resident ClassId)). AllDistinct (places_of rs)) (sym e.residents) tt;
  serials = subst (λ (rs : List (Resident ClassId)). AllDistinct (serials_of rs)) (sym e.residents) tt;
  below = λ k a. absurd (subst (λ (rs : List (Resident ClassId)). Among k (serials_of rs)) e.residents a);
}

pub holds_none : (c : Content ClassId) → IsSound c → IsEmpty c → Holds c [] []
holds_none c s e = record { sound = s; next = e.next; many = refl; places = λ k p h. cc; objects_are = λ k o h. cc }

module _ (c : Content ClassId) (roots : List ℕ) (objects : List (ObjectOf ClassId)) (h : Holds c roots objects) where
  -- roots are places of objects
  pub all_resident : AllResident c roots
  all_resident p a = let t = among_index p roots a in (t.0, h.places t.0 p t.1)

  pub object_is : (k : ℕ) → object_at c k ≡ slice_get objects k
  object_is k = by (slice_get objects k) refl
    where
      by : (x : Option (ObjectOf ClassId)) → slice_get objects k ≡ x → object_at c k ≡ slice_get objects k
      by (Some o) e = h.objects_are k o e ∙ sym e
      by None e = none_or (object_at c k) (λ o f. past o f (object_below c h.sound k o f)) ∙ sym e
        where
          past : (o : ObjectOf ClassId) → object_at c k ≡ Some o → k < c.next → ⊥
          past o f below =
              let next = h.next in
              let t = get_there objects k (omega arith) in
              let none : Some t.0 ≡ None = sym t.1 ∙ e in
              cc

  pub used : used_by class_size c roots ≤ cells_of_all objects
  used = used_at_most c roots objects object_is

-- one object lies at a place
pub only_object : (c : Content ClassId) (p k j : ℕ) (o x : ObjectOf ClassId) → serial_at c p ≡ Some k → object_at c k ≡ Some o
    → serial_at c p ≡ Some j → object_at c j ≡ Some x → x ≡ o
only_object c p k j o x lies is again that =
    let number : k ≡ j = cc in
    let both : Some o ≡ Some x = sym is ∙ ap (object_at c) number ∙ that in
    cc

two_cells : (o : ObjectOf ClassId) → 2 ≤ size_by class_size o
two_cells o = at_least o.type (length o.values)

cells_least : (os : List (ObjectOf ClassId)) → 2 * length os ≤ cells_of_all os
cells_least [] = omega arith
cells_least (o ∷ os) = let one = two_cells o in let rest = cells_least os in omega (arith, one, rest)

-- neither is the heap full where there is room, nor are there so many objects
module _ (c : Content ClassId) (roots : List ℕ) (o : ObjectOf ClassId) (room : HasRoomFor c roots (o ∷ [])) where
  fits : cells_of_all room.objects + size_by class_size o ≤ c.limit
  fits = let f = room.fits in omega arith

  pub not_full : (fault : HeapFault) → fault ≡ HeapFull → IsRefused c roots o fault → ⊥
  not_full fault e r =
      let full : IsFull class_size c roots o = subst (IsRefused c roots o) e r in
      let within = used c roots room.objects room.holds in
      let least = fits in
      omega (arith, full, within, least)

  pub not_at_end : (fault : HeapFault) → fault ≡ SerialsEnd → IsRefused c roots o fault → ⊥
  not_at_end fault e r =
      let end : IsAtEnd class_size c roots o = subst (IsRefused c roots o) e r in
      let next = room.holds.next in
      let many = cells_least room.objects in
      let one = two_cells o in
      let least = fits in
      let small = room.small in
      let far = end.1 in
      omega (arith, next, many, one, least, small, far)

-- one more object
module _ (old new : Content ClassId) (r0 r1 : List ℕ) (place : ℕ) (o : ObjectOf ClassId) (m : Made class_size old r0 new r1 place o)
    (objects : List (ObjectOf ClassId)) (h : Holds old r0 objects) where
  as_many : length r1 ≡ length objects
  as_many = sym (length-map r1 (name_of new)) ∙ ap length m.kept.names ∙ length-map r0 (name_of old) ∙ h.many

  -- what lay at a root lies at the root that was moved
  stays_at : (k p : ℕ) → slice_get r1 k ≡ Some p → serial_at new p ≡ Some k
  stays_at k p e =
      let there = m.kept.resident p (index_among p r1 k e) in
      let within = got_within r1 k p e in
      let long = as_many in
      let before = h.many in
      let q = get_there r0 k (omega arith) in
      let new_name : slice_get (map (name_of new) r1) k ≡ Some there.0 = get_map (name_of new) r1 k p e ∙ ap Some (name_is new p there.0 there.1) in
      let old_name : slice_get (map (name_of old) r0) k ≡ Some k = get_map (name_of old) r0 k q.0 q.1 ∙ ap Some (name_is old q.0 k (h.places k q.0 q.1)) in
      there.1 ∙ sym new_name ∙ ap (λ ns. slice_get ns k) m.kept.names ∙ old_name

  -- and is what it was
  stays : (k : ℕ) (x : ObjectOf ClassId) → slice_get objects k ≡ Some x → object_at new k ≡ Some x
  stays k x e =
      let within = got_within objects k x e in
      let before = h.many in
      let q = get_there r0 k (omega arith) in
      let named : name_of old q.0 ≡ k = name_is old q.0 k (h.places k q.0 q.1) in
      let first = among_map (name_of old) q.0 r0 (index_among q.0 r0 k q.1) in
      let among : Among k (map (name_of old) r0) = subst (λ n. Among n (map (name_of old) r0)) named first in
      m.kept.reached k (root k among) ∙ h.objects_are k x e

  places_more : (k p : ℕ) → k ≡ length r1 ⊎ k ≢ length r1 → slice_get (r1 ++ place ∷ []) k ≡ Some p → serial_at new p ≡ Some k
  places_more k p (inl at) e =
      let last : Some place ≡ Some p = sym (got_last r1 place) ∙ ap (slice_get (r1 ++ place ∷ [])) (sym at) ∙ e in
      let same : place ≡ p = cc in
      let number : old.next ≡ k = h.next ∙ sym as_many ∙ sym at in
      subst (λ q. serial_at new q ≡ Some k) same (m.placed ∙ ap Some number)
  places_more k p (inr other) e = stays_at k p (sym (got_before_last r1 place k other) ∙ e)

  objects_more : (k : ℕ) (x : ObjectOf ClassId) → k ≡ length objects ⊎ k ≢ length objects → slice_get (objects ++ o ∷ []) k ≡ Some x → object_at new k ≡ Some x
  objects_more k x (inl at) e =
      let last : Some o ≡ Some x = sym (got_last objects o) ∙ ap (slice_get (objects ++ o ∷ [])) (sym at) ∙ e in
      let number : old.next ≡ k = h.next ∙ sym at in
      subst (λ n. object_at new n ≡ Some o) number m.filled ∙ last
  objects_more k x (inr other) e = stays k x (sym (got_before_last objects o k other) ∙ e)

  pub one_more : Holds new (r1 ++ place ∷ []) (objects ++ o ∷ [])
  one_more = record {
    sound = m.kept.sound;
    next = m.next ∙ ap (λ n. n + 1) h.next ∙ sym (length-append objects (o ∷ []));
    many = length-append r1 (place ∷ []) ∙ ap (λ n. n + 1) as_many ∙ sym (length-append objects (o ∷ []));
    places = λ k p e. places_more k p (either k (length r1)) e;
    objects_are = λ k x e. objects_more k x (either k (length objects)) e;
  }

pub added : (old new : Content ClassId) (r0 r1 r2 : List ℕ) (place : ℕ) (o : ObjectOf ClassId) → Made class_size old r0 new r1 place o
    → r2 ≡ r1 ++ place ∷ [] → Adds old r0 new r2 (o ∷ [])
added old new r0 r1 r2 place o m e = record {
  limit = m.kept.limit;
  holds = λ objects h. subst (λ r. Holds new r (objects ++ o ∷ [])) (sym e) (one_more old new r0 r1 place o m objects h);
}

-- the last object has another value
module _ (old new : Content ClassId) (roots : List ℕ) (front : List (ObjectOf ClassId)) (o : ObjectOf ClassId) (p i : ℕ) (v : Value)
    (h : Holds old roots (front ++ o ∷ [])) (at : slice_get roots (length front) ≡ Some p) (s : IsSet old new p i v) where
  number : serial_at old p ≡ Some (length front)
  number = h.places (length front) p at

  abbrev pub changed : ObjectOf ClassId
  changed = record { type = o.type; values = slice_set o.values i (rename (name_of old) v) }

  changed_at : (k : ℕ) (x : ObjectOf ClassId) → k ≡ length front ⊎ k ≢ length front → slice_get (front ++ changed ∷ []) k ≡ Some x → object_at new k ≡ Some x
  changed_at k x (inl same) e =
      let last : Some changed ≡ Some x = sym (got_last front changed) ∙ ap (slice_get (front ++ changed ∷ [])) (sym same) ∙ e in
      let is = s.changed (length front) o number (h.objects_are (length front) o (got_last front o)) in
      ap (object_at new) same ∙ is ∙ last
  changed_at k x (inr other) e =
      s.others (length front) k number other ∙ h.objects_are k x (got_before_last front o k other ∙ sym (got_before_last front changed k other) ∙ e)

  pub last_set : Holds new roots (front ++ changed ∷ [])
  last_set = record {
    sound = s.sound;
    next = s.next ∙ h.next ∙ length-append front (o ∷ []) ∙ sym (length-append front (changed ∷ []));
    many = h.many ∙ length-append front (o ∷ []) ∙ sym (length-append front (changed ∷ []));
    places = λ k q e. s.serials q ∙ h.places k q e;
    objects_are = λ k x e. changed_at k x (either k (length front)) e;
  }
