-- What is left when exactly what is reached was marked, and the rest is gone.
use Rattle.std.proofs.Common.{◌≡◌, ℕ, List, [], ◌∷◌, Some, None, Bool, true, false, refl, sym, ap, ◌∙◌, subst, inl, inr}
use Rattle.std.specs.Prelude.{map, is_some, unwrap_or, Result, Ok, Err, OnOk, OnErr}
use Rattle.jm_values.specs.Rename.{stack_shape}
use Rattle.jm_values.specs.Shape.{Among}
use Rattle.jm_values.specs.Objects.{ObjectOf, refs_of}
use Rattle.jm_values.specs.Reach.{Reach, root, field}
use Rattle.jm_values.specs.Content.{Content, IsSound, Kept, AllResident, Reached, serial_at, object_at, name_of}
use Rattle.jm_heap.specs.Collection.{Collected}
use Rattle.jm_heap.specs.Marks.{AreReached, objects_of, plain_object}
use Rattle.jm_heap.specs.Slots.{AreSound, object_in, serial_of, named_object, content_of, is_marked, Object, Slot}
use Rattle.jm_heap.specs.Stored.{Swept}
use Rattle.jm_heap.specs.declared.class_id.ClassId.{ClassId}
use Rattle.jm_heap.proofs.ContentLemmas.{Shows, slots_show, serial_of_place, named_same}
use Rattle.jm_heap.proofs.SoundLemmas.{ReachedAt, at_place, serial_is, name_is, some_is, sound_content, reached_at, reached_name}

-- names that agree on a list give one list
pub names_same : (f g : ℕ → ℕ) (ns : List ℕ) → ((n : ℕ) → Among n ns → f n ≡ g n) → map f ns ≡ map g ns
names_same f g [] h = refl
names_same f g (n ∷ ns) h = ap (λ k. k ∷ map f ns) (h n (inl refl)) ∙ ap (λ l. g n ∷ l) (names_same f g ns (λ m a. h m (inr a)))

module _ (limit next : ℕ) (slots after : List Slot) (roots : List ℕ) (marks : List Bool) (left : ℕ) (s : AreSound next slots) (r : AllResident (content_of limit next slots) roots) (reached : AreReached slots roots marks) (w : Swept slots after marks left) where
  abbrev old : Content ClassId
  old = content_of limit next slots

  abbrev new : Content ClassId
  new = content_of limit next after

  -- what is there was there, and is marked
  record Was (p : ℕ) (x : Object) : Type 0 where
    lay : object_in slots p ≡ Some x
    marked : is_marked marks p ≡ true

  was : (p : ℕ) (x : Object) → object_in after p ≡ Some x → Was p x
  was p x e = by (is_marked marks p) refl
    where
      by : (b : Bool) → is_marked marks p ≡ b → Was p x
      by true m = record { lay = sym (w.kept p m) ∙ e; marked = m }
      by false m = let none : object_in after p ≡ None = w.gone p m in absurd (cc)

  refs_marked : (p : ℕ) (x : Object) → object_in slots p ≡ Some x → is_marked marks p ≡ true → (q : ℕ) → Among q (stack_shape.refs x.values) → is_marked marks q ≡ true
  refs_marked p x e m q a = reached.marked q (field p q (reached.reached p m) (subst (λ o. Among q (refs_of (plain_object o))) (sym e) a))

  sound_after : AreSound next after
  sound_after = record {
    apart = λ p q x y e f g. s.apart p q x y (was p x e).lay (was q y f).lay g;
    below = λ p x e. s.below p x (was p x e).lay;
    closed = λ p x e q a. let m = was p x e in ap is_some (w.kept q (refs_marked p x m.lay m.marked q a)) ∙ s.closed p x m.lay q a;
    short = λ p x e. s.short p x (was p x e).lay;
  }

  shows : Shows (object_in slots) old
  shows = slots_show limit next slots s

  shows_after : Shows (object_in after) new
  shows_after = slots_show limit next after sound_after

  named : (p : ℕ) → is_marked marks p ≡ true → name_of new p ≡ name_of old p
  unfolding name_of
  named p m = ap (λ o. unwrap_or o 0) (serial_of_place limit next after p ∙ ap serial_of (w.kept p m) ∙ sym (serial_of_place limit next slots p))

  same_object : (p : ℕ) (x : Object) → object_in slots p ≡ Some x → is_marked marks p ≡ true → named_object (name_of new) x ≡ named_object (name_of old) x
  same_object p x e m = named_same (name_of new) (name_of old) x (λ q a. named q (refs_marked p x e m q a))

  root_marked : (p : ℕ) → Among p roots → is_marked marks p ≡ true
  root_marked p a = reached.marked p (root p a)

  resident_after : AllResident new roots
  resident_after p a =
      let t = r p a in
      let x = at_place (object_in slots) old shows p t.0 t.1 in
      (x.0.serial, serial_is (object_in after) new shows_after p x.0 (w.kept p (root_marked p a) ∙ x.1))

  kept_object : (k : ℕ) → ReachedAt slots roots k → object_at new k ≡ object_at old k
  kept_object k x =
      let m = reached.marked x.place x.reach in
      let now : object_at new k ≡ Some (named_object (name_of new) x.object) = subst (λ n. object_at new n ≡ Some (named_object (name_of new) x.object)) x.serial (shows_after.objects x.place x.object (w.kept x.place m ∙ x.lies)) in
      let then : object_at old k ≡ Some (named_object (name_of old) x.object) = subst (λ n. object_at old n ≡ Some (named_object (name_of old) x.object)) x.serial (shows.objects x.place x.object x.lies) in
      now ∙ ap Some (same_object x.place x.object x.lies m) ∙ sym then

  only_before : (k : ℕ) (o : ObjectOf ClassId) → (p : ℕ) × (x : Object) × (object_in after p ≡ Some x) × (x.serial ≡ k) × (o ≡ named_object (name_of new) x) → object_at old k ≡ Some o
  only_before k o f =
      let m = was f.0 f.1 f.2 in
      subst (λ n. object_at old n ≡ Some (named_object (name_of old) f.1)) f.3 (shows.objects f.0 f.1 m.lay) ∙ ap Some (sym (f.4 ∙ same_object f.0 f.1 m.lay m.marked))

  only_reached : (k : ℕ) (o : ObjectOf ClassId) → (p : ℕ) × (x : Object) × (object_in after p ≡ Some x) × (x.serial ≡ k) × (o ≡ named_object (name_of new) x) → Reached old roots k
  only_reached k o f =
      let m = was f.0 f.1 f.2 in
      subst (λ n. Reached old roots n) (name_is (object_in slots) old shows f.0 f.1 m.lay ∙ f.3) (reached_name limit next slots roots s r f.0 (reached.reached f.0 m.marked))

  -- a place whose serial is reached is marked, so it keeps its object
  place_kept : (p k : ℕ) → Reached old roots k → serial_at old p ≡ Some k → serial_at new p ≡ Some k
  place_kept p k h e =
      let x = reached_at limit next slots roots s r k h in
      let a = at_place (object_in slots) old shows p k e in
      let same : x.place ≡ p = s.apart x.place p x.object a.0 x.lies a.1 (x.serial ∙ sym a.2) in
      let kept : object_in after p ≡ object_in slots p = w.kept p (reached.marked p (subst (λ n. Reach (objects_of slots) roots n) same x.reach)) in
      serial_of_place limit next after p ∙ ap serial_of kept ∙ sym (serial_of_place limit next slots p) ∙ e

  collected : Collected old roots new
  unfolding content_of
  collected = record {
    kept = record {
      limit = refl;
      sound = sound_content limit next after sound_after;
      names = names_same (name_of new) (name_of old) roots (λ p a. named p (root_marked p a));
      resident = resident_after;
      reached = λ k h. kept_object k (reached_at limit next slots roots s r k h);
    };
    next = refl;
    as_before = λ k o e. only_before k o (shows_after.only k o e);
    only = λ k o e. only_reached k o (shows_after.only k o e);
    places = place_kept;
  }

pub sound_swept : (limit next : ℕ) (slots after : List Slot) (d : Content ClassId) → content_of limit next slots ≡ d → AreSound next slots → (roots : List ℕ) (marks : List Bool) (left : ℕ) → AllResident d roots → AreReached slots roots marks → Swept slots after marks left → AreSound next after
sound_swept limit next slots after d e s roots marks left r reached w =
    sound_after limit next slots after roots marks left s (subst (λ x. AllResident x roots) (sym e) r) reached w

pub collected_swept : (limit next : ℕ) (slots after : List Slot) (d : Content ClassId) → content_of limit next slots ≡ d → AreSound next slots → (roots : List ℕ) (marks : List Bool) (left : ℕ) → AllResident d roots → AreReached slots roots marks → Swept slots after marks left → Collected d roots (content_of limit next after)
collected_swept limit next slots after d e s roots marks left r reached w =
    subst (λ x. Collected x roots (content_of limit next after)) e (collected limit next slots after roots marks left s (subst (λ x. AllResident x roots) (sym e) r) reached w)

-- roots have objects in their slots
pub roots_lie : (limit next : ℕ) (slots : List Slot) (d : Content ClassId) → content_of limit next slots ≡ d → AreSound next slots → (roots : List ℕ) → AllResident d roots → (p : ℕ) → Among p roots → is_some (object_in slots p) ≡ true
roots_lie limit next slots d e s roots r p a =
    let t = r p a in
    let x = at_place (object_in slots) (content_of limit next slots) (slots_show limit next slots s) p t.0 (subst (λ c. serial_at c p ≡ Some t.0) (sym e) t.1) in
    some_is (object_in slots p) x.0 x.1

-- nothing changed, which keeps all
pub kept_same : (c : Content ClassId) (roots : List ℕ) → IsSound c → AllResident c roots → Kept c roots c roots
kept_same c roots s r = record { limit = refl; sound = s; names = refl; resident = r; reached = λ k h. refl }

pub kept_either : {E : Type 0} (old new : Content ClassId) (roots : List ℕ) (result : Result (Unit {0}) E) → IsSound old → AllResident old roots → OnOk result (Collected old roots new) → OnErr result (new ≡ old) → Kept old roots new roots
kept_either before after roots (Ok u) s r ok err = ok.kept
kept_either before after roots (Err e) s r ok err = subst (λ x. Kept before roots x roots) (sym err) (kept_same before roots s r)
