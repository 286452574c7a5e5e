-- Sound slots show a sound content, whose reach is by serial what it is by place.
use Rattle.std.proofs.Common.{◌≡◌, ℕ, suc, ◌<◌, List, [], ◌∷◌, Option, Some, None, true, refl, sym, ap, ◌∙◌, subst, inl, inr}
use Rattle.std.specs.Prelude.{map, is_some, unwrap_or}
use Rattle.jm_values.specs.declared.value.Value.{Value}
use Rattle.jm_values.specs.declared.value.Value.TheVariants.{Int, Long, Null, Ref}
use Rattle.jm_values.specs.Rename.{rename, stack_shape}
use Rattle.jm_values.specs.Shape.{Among}
use Rattle.jm_values.specs.Reach.{AllDistinct, Reach, root, field}
use Rattle.jm_values.specs.Objects.{refs_of}
use Rattle.jm_values.specs.Content.{Content, IsSound, AllResident, Reached, serial_at, object_at, name_of}
use Rattle.jm_values.proofs.Reaching.{reach_within}
use Rattle.jm_values.proofs.Among.{among_map}
use Rattle.jm_heap.specs.Marks.{objects_of, plain_object}
use Rattle.jm_heap.specs.Slots.{AreSound, object_in, object_of, serial_of, name_in, named_object, content_of, Object, Slot}
use Rattle.jm_heap.specs.declared.class_id.ClassId.{ClassId}
use Rattle.jm_heap.proofs.ContentLemmas.{Shows, slots_show, apart_of}
use Rattle.jm_heap.proofs.SerialLemmas.{At, serial_lies, serials_distinct, serials_are, places_distinct}

-- the object at a place that has a serial
pub behind : (o : Option Object) (k : ℕ) → serial_of o ≡ Some k → (a : Object) × (o ≡ Some a) × (a.serial ≡ k)
behind None k e = cc
behind (Some a) k e = (a, refl, cc)

pub some_object : (o : Option Object) → is_some o ≡ true → (a : Object) × (o ≡ Some a)
some_object None e = cc
some_object (Some a) e = (a, refl)

pub some_is : (o : Option Object) (a : Object) → o ≡ Some a → is_some o ≡ true
some_is o a e = ap is_some e

-- the object at a place of the content
pub at_place : (f : ℕ → Option Object) (c : Content ClassId) → Shows f c → (p k : ℕ) → serial_at c p ≡ Some k → (a : Object) × (f p ≡ Some a) × (a.serial ≡ k)
at_place f c s p k e = behind (f p) k (sym (s.serials p) ∙ e)

pub serial_is : (f : ℕ → Option Object) (c : Content ClassId) → Shows f c → (p : ℕ) (a : Object) → f p ≡ Some a → serial_at c p ≡ Some a.serial
serial_is f c s p a e = s.serials p ∙ ap serial_of e

pub name_is : (f : ℕ → Option Object) (c : Content ClassId) → Shows f c → (p : ℕ) (a : Object) → f p ≡ Some a → name_of c p ≡ a.serial
unfolding name_of
name_is f c s p a e = ap (λ o. unwrap_or o 0) (serial_is f c s p a e)

-- the content of sound slots is sound
pub sound_content : (limit next : ℕ) (slots : List Slot) → AreSound next slots → IsSound (content_of limit next slots)
unfolding content_of
sound_content limit next slots s = record {
  places = places_distinct (name_in slots) 0 slots;
  serials = subst AllDistinct (sym (serials_are (name_in slots) 0 slots)) (serials_distinct slots (apart_of next slots s));
  below = λ k a. low k (serial_lies slots k (subst (Among k) (serials_are (name_in slots) 0 slots) a));
}
  where
    low : (k : ℕ) → At slots k → k < next
    low k x = subst (λ n. n < next) x.serial (s.below (suc x.slot) x.object (ap object_of x.taken))

-- references under their serials
pub refs_renamed : (f : ℕ → ℕ) (vs : List Value) → stack_shape.refs (map (rename f) vs) ≡ map f (stack_shape.refs vs)
refs_renamed f [] = refl
refs_renamed f (Int n ∷ vs) = refs_renamed f vs
refs_renamed f (Long n ∷ vs) = refs_renamed f vs
refs_renamed f (Null ∷ vs) = refs_renamed f vs
refs_renamed f (Ref p ∷ vs) = ap (λ l. f p ∷ l) (refs_renamed f vs)

pub among_of_map : (f : ℕ → ℕ) (k : ℕ) (ps : List ℕ) → Among k (map f ps) → (p : ℕ) × Among p ps × (f p ≡ k)
among_of_map f k [] a = absurd a
among_of_map f k (q ∷ ps) (inl e) = (q, inl refl, sym e)
among_of_map f k (q ∷ ps) (inr a) = let r = among_of_map f k ps a in (r.0, inr r.1, r.2)

-- a place that is reached, with its object and serial
pub record ReachedAt (slots : List Slot) (roots : List ℕ) (k : ℕ) : Type 0 where
  pub place : ℕ
  pub object : Object
  pub lies : object_in slots place ≡ Some object
  pub serial : object.serial ≡ k
  pub reach : Reach (objects_of slots) roots place

-- what is reached by serial is reached by place
pub reached_at : (limit next : ℕ) (slots : List Slot) (roots : List ℕ) → AreSound next slots → AllResident (content_of limit next slots) roots → (k : ℕ) → Reached (content_of limit next slots) roots k → ReachedAt slots roots k
reached_at limit next slots roots s r = reach_within (ReachedAt slots roots) at_root over
  where
    c : Content ClassId
    c = content_of limit next slots

    shows : Shows (object_in slots) (content_of limit next slots)
    shows = slots_show limit next slots s

    from_place : (p k : ℕ) → name_of (content_of limit next slots) p ≡ k → Reach (objects_of slots) roots p → (a : Object) × (object_in slots p ≡ Some a) → ReachedAt slots roots k
    from_place p k e h x = record { place = p; object = x.0; lies = x.1; serial = sym (name_is (object_in slots) (content_of limit next slots) shows p x.0 x.1) ∙ e; reach = h }

    at_root : (k : ℕ) → Among k (map (name_of (content_of limit next slots)) roots) → ReachedAt slots roots k
    at_root k a =
        let m = among_of_map (name_of (content_of limit next slots)) k roots a in
        let t = r m.0 m.1 in
        let x = at_place (object_in slots) (content_of limit next slots) shows m.0 t.0 t.1 in
        from_place m.0 k m.2 (root m.0 m.1) (x.0, x.1)

    over : (j k : ℕ) → ReachedAt slots roots j → Among k (refs_of (object_at (content_of limit next slots) j)) → ReachedAt slots roots k
    over j k x a =
        let here : object_at (content_of limit next slots) j ≡ Some (named_object (name_of (content_of limit next slots)) x.object) = subst (λ n. object_at (content_of limit next slots) n ≡ Some (named_object (name_of (content_of limit next slots)) x.object)) x.serial (shows.objects x.place x.object x.lies) in
        let named : Among k (stack_shape.refs (map (rename (name_of (content_of limit next slots))) x.object.values)) = subst (λ o. Among k (refs_of o)) here a in
        let m = among_of_map (name_of (content_of limit next slots)) k (stack_shape.refs x.object.values) (subst (λ l. Among k l) (refs_renamed (name_of (content_of limit next slots)) x.object.values) named) in
        from_place m.0 k m.2 (field x.place m.0 x.reach (subst (λ o. Among m.0 (refs_of (plain_object o))) (sym x.lies) m.1)) (some_object (object_in slots m.0) (s.closed x.place x.object x.lies m.0 m.1))

-- a place with an object, whose serial is reached
abbrev NamedAt : Content ClassId → List Slot → List ℕ → ℕ → Type 0
NamedAt c slots roots q = ((a : Object) × (object_in slots q ≡ Some a)) × Reached c roots (name_of c q)

-- what is reached by place is reached by serial
pub reached_name : (limit next : ℕ) (slots : List Slot) (roots : List ℕ) → AreSound next slots → AllResident (content_of limit next slots) roots → (p : ℕ) → Reach (objects_of slots) roots p → Reached (content_of limit next slots) roots (name_of (content_of limit next slots) p)
reached_name limit next slots roots s r p h = (reach_within (NamedAt (content_of limit next slots) slots roots) at_root over p h).1
  where
    shows : Shows (object_in slots) (content_of limit next slots)
    shows = slots_show limit next slots s

    at_root : (q : ℕ) → Among q roots → NamedAt (content_of limit next slots) slots roots q
    at_root q a =
        let t = r q a in
        let x = at_place (object_in slots) (content_of limit next slots) shows q t.0 t.1 in
        ((x.0, x.1), root (name_of (content_of limit next slots) q) (among_map (name_of (content_of limit next slots)) q roots a))

    over : (j k : ℕ) → NamedAt (content_of limit next slots) slots roots j → Among k (refs_of (objects_of slots j)) → NamedAt (content_of limit next slots) slots roots k
    over j k x a =
        let o = x.0.0 in
        let named_refs : Among k (stack_shape.refs o.values) = subst (λ o. Among k (refs_of (plain_object o))) x.0.1 a in
        let serial : name_of (content_of limit next slots) j ≡ o.serial = name_is (object_in slots) (content_of limit next slots) shows j o x.0.1 in
        let here : object_at (content_of limit next slots) (name_of (content_of limit next slots) j) ≡ Some (named_object (name_of (content_of limit next slots)) o) = ap (object_at (content_of limit next slots)) serial ∙ shows.objects j o x.0.1 in (
          some_object (object_in slots k) (s.closed j o x.0.1 k named_refs),
          field (name_of (content_of limit next slots) j) (name_of (content_of limit next slots) k) x.1 (subst (λ o. Among (name_of (content_of limit next slots) k) (refs_of o)) (sym here) (subst (λ l. Among (name_of (content_of limit next slots) k) l) (sym (refs_renamed (name_of (content_of limit next slots)) o.values)) (among_map (name_of (content_of limit next slots)) k (stack_shape.refs o.values) named_refs))),
        )
