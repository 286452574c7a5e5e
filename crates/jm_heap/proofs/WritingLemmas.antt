-- What is left when one value of an object is another.
use Rattle.std.proofs.Common.{◌≡◌, ◌≢◌, ◌⊎◌, ℕ, zero, suc, ◌<◌, ◌^◌, List, [], ◌∷◌, Option, Some, None, true, false, refl, sym, ap, ◌∙◌, subst, inl, inr, length}
use Rattle.std.specs.Prelude.{map, slice_set, is_some, nat_eq, unwrap_or}
use Rattle.std.proofs.lemmas.Bool.Decides.{eqb_tells}
use Rattle.std.proofs.lemmas.List.{length-set}
use Rattle.jm_values.specs.declared.value.Value.{Value}
use Rattle.jm_values.specs.Rename.{rename, refs, stack_shape}
use Rattle.jm_values.specs.Shape.{Among}
use Rattle.jm_values.proofs.Among.{among_left, among_right, among_split}
use Rattle.jm_values.proofs.Lists.{map_set}
use Rattle.jm_values.specs.Objects.{ObjectOf}
use Rattle.jm_values.specs.Content.{Content, IsSet, HasValue, AllResident, serial_at, object_at, name_of}
use Rattle.jm_heap.specs.Slots.{AreSound, object_in, serial_of, named_object, content_of, Object, Slot}
use Rattle.jm_heap.specs.Stored.{Written, IsWritten}
use Rattle.jm_heap.specs.declared.class_id.ClassId.{ClassId}
use Rattle.jm_heap.proofs.ContentLemmas.{Shows, slots_show, serial_of_place, named_same}
use Rattle.jm_heap.proofs.SoundLemmas.{at_place, serial_is, some_is, sound_content}
use Rattle.jm_heap.proofs.ReadingLemmas.{value_within, object_read}

among_set : (vs : List Value) (i : ℕ) (v : Value) (q : ℕ) → Among q (stack_shape.refs (slice_set vs i v)) → Among q (stack_shape.refs vs) ⊎ Among q (refs v)
among_set [] i v q a = inl a
among_set (w ∷ vs) zero v q a = by (among_split q (refs v) (stack_shape.refs vs) a)
  where
    by : Among q (refs v) ⊎ Among q (stack_shape.refs vs) → Among q (stack_shape.refs (w ∷ vs)) ⊎ Among q (refs v)
    by (inl m) = inr m
    by (inr m) = inl (among_right q (refs w) (stack_shape.refs vs) m)
among_set (w ∷ vs) (suc i) v q a = by (among_set vs i v q) (among_split q (refs w) (stack_shape.refs (slice_set vs i v)) a)
  where
    later : Among q (stack_shape.refs vs) ⊎ Among q (refs v) → Among q (stack_shape.refs (w ∷ vs)) ⊎ Among q (refs v)
    later (inl m) = inl (among_right q (refs w) (stack_shape.refs vs) m)
    later (inr m) = inr m

    by : (Among q (stack_shape.refs (slice_set vs i v)) → Among q (stack_shape.refs vs) ⊎ Among q (refs v)) → Among q (refs w) ⊎ Among q (stack_shape.refs (slice_set vs i v)) → Among q (stack_shape.refs (w ∷ vs)) ⊎ Among q (refs v)
    by ih (inl m) = inl (among_left q (refs w) (stack_shape.refs vs) m)
    by ih (inr m) = later (ih m)

abbrev Told : ℕ → ℕ → Type 0
Told a b = ((nat_eq a b ≡ true) × (a ≡ b)) ⊎ ((nat_eq a b ≡ false) × (a ≢ b))

-- sound slots, an object at a place, and what a write of one of its values leaves
module _ (limit next : ℕ) (slots after : List Slot) (s : AreSound next slots) (p i : ℕ) (v : Value) (a b : Object) (lies : object_in slots p ≡ Some a) (lie : object_in after p ≡ Some b) (w : IsWritten a b i v) (others : (q : ℕ) → q ≢ p → object_in after q ≡ object_in slots q) (names : (q : ℕ) → Among q (refs v) → is_some (object_in slots q) ≡ true) where
  -- the object at a place before, of one that is there now
  record Before (q : ℕ) (x : Object) : Type 0 where
    object : Object
    lay : object_in slots q ≡ Some object
    serial : x.serial ≡ object.serial
    many : length x.values ≡ length object.values
    refs_from : (k : ℕ) → Among k (stack_shape.refs x.values) → is_some (object_in slots k) ≡ true

  from_both : (k : ℕ) → Among k (stack_shape.refs a.values) ⊎ Among k (refs v) → is_some (object_in slots k) ≡ true
  from_both k (inl m) = s.closed p a lies k m
  from_both k (inr m) = names k m

  before : (q : ℕ) (x : Object) → object_in after q ≡ Some x → Before q x
  before q x e = by (eqb_tells q p)
    where
      by : Told q p → Before q x
      by (inl t) =
          let here : object_in after p ≡ Some x = subst (λ n. object_in after n ≡ Some x) t.1 e in
          let same : b ≡ x = cc in
          record {
            object = a;
            lay = subst (λ n. object_in slots n ≡ Some a) (sym t.1) lies;
            serial = ap (λ y. y.serial) (sym same) ∙ w.serial;
            many = ap (λ y. length y.values) (sym same) ∙ ap (λ (l : List Value). length l) w.values ∙ length-set a.values i v;
            refs_from = λ k m. from_both k (among_set a.values i v k (subst (λ l. Among k (stack_shape.refs l)) (ap (λ y. y.values) (sym same) ∙ w.values) m));
          }
      by (inr t) =
          let same : object_in slots q ≡ Some x = sym (others q t.1) ∙ e in
          record { object = x; lay = same; serial = refl; many = refl; refs_from = λ k m. s.closed q x same k m }

  still : (q : ℕ) → is_some (object_in slots q) ≡ true → is_some (object_in after q) ≡ true
  still q h = by (eqb_tells q p)
    where
      by : Told q p → is_some (object_in after q) ≡ true
      by (inl t) = subst (λ n. is_some (object_in after n) ≡ true) (sym t.1) (some_is (object_in after p) b lie)
      by (inr t) = ap is_some (others q t.1) ∙ h

  sound_after : AreSound next after
  sound_after = record {
    apart = λ q r x y e f g. let m = before q x e in let n = before r y f in s.apart q r m.object n.object m.lay n.lay (sym m.serial ∙ g ∙ n.serial);
    below = λ q x e. let m = before q x e in subst (λ k. k < next) (sym m.serial) (s.below q m.object m.lay);
    closed = λ q x e k m. still k ((before q x e).refs_from k m);
    short = λ q x e. let m = before q x e in subst (λ k. k < 2 ^ 32) (sym m.many) (s.short q m.object m.lay);
  }

  serials_same : (q : ℕ) → serial_of (object_in after q) ≡ serial_of (object_in slots q)
  serials_same q = by (eqb_tells q p)
    where
      by : Told q p → serial_of (object_in after q) ≡ serial_of (object_in slots q)
      by (inl t) = subst (λ n. serial_of (object_in after n) ≡ serial_of (object_in slots n)) (sym t.1) (ap serial_of lie ∙ ap Some w.serial ∙ sym (ap serial_of lies))
      by (inr t) = ap serial_of (others q t.1)

  abbrev old : Content ClassId
  old = content_of limit next slots

  abbrev new : Content ClassId
  new = content_of limit next after

  serials : (q : ℕ) → serial_at new q ≡ serial_at old q
  serials q = serial_of_place limit next after q ∙ serials_same q ∙ sym (serial_of_place limit next slots q)

  named : (q : ℕ) → name_of new q ≡ name_of old q
  unfolding name_of
  named q = ap (λ o. unwrap_or o 0) (serials q)

  shows : Shows (object_in slots) old
  shows = slots_show limit next slots s

  shows_after : Shows (object_in after) new
  shows_after = slots_show limit next after sound_after

  written_object : named_object (name_of new) b ≡ record { type = a.class; values = slice_set (map (rename (name_of old)) a.values) i (rename (name_of old) v) }
  written_object =
      named_same (name_of new) (name_of old) b (λ q m. named q)
      ∙ ap (λ (c : ClassId). record { type = c; values = map (rename (name_of old)) b.values }) w.class
      ∙ ap (λ (l : List Value). record { type = a.class; values = l }) (ap (map (rename (name_of old))) w.values ∙ map_set (rename (name_of old)) a.values i v)

  changed : (k : ℕ) (o : ObjectOf ClassId) → serial_at old p ≡ Some k → object_at old k ≡ Some o → object_at new k ≡ Some (record { type = o.type; values = slice_set o.values i (rename (name_of old) v) })
  changed k o h g =
      let was : o ≡ named_object (name_of old) a = object_read limit next slots old refl s p k a o (sym lies) h g in
      let number : Some a.serial ≡ Some k = sym (serial_is (object_in slots) old shows p a lies) ∙ h in
      let same : b.serial ≡ k = w.serial ∙ cc in
      subst (λ n. object_at new n ≡ Some (named_object (name_of new) b)) same (shows_after.objects p b lie)
      ∙ ap Some (written_object ∙ ap (λ (x : ObjectOf ClassId). record { type = x.type; values = slice_set x.values i (rename (name_of old) v) }) (sym was))

  now_as_before : (j : ℕ) (x : ObjectOf ClassId) → a.serial ≢ j → object_at new j ≡ Some x → object_at old j ≡ Some x
  now_as_before j x n e = by (shows_after.only j x e)
    where
      by : (q : ℕ) × (y : Object) × (object_in after q ≡ Some y) × (y.serial ≡ j) × (x ≡ named_object (name_of new) y) → object_at old j ≡ Some x
      by f =
          let away : f.0 ≢ p = λ t. n (let here : object_in after p ≡ Some f.1 = subst (λ m. object_in after m ≡ Some f.1) t f.2 in let same : b ≡ f.1 = cc in sym w.serial ∙ ap (λ y. y.serial) same ∙ f.3) in
          let lay : object_in slots f.0 ≡ Some f.1 = sym (others f.0 away) ∙ f.2 in
          subst (λ m. object_at old m ≡ Some (named_object (name_of old) f.1)) f.3 (shows.objects f.0 f.1 lay)
          ∙ ap Some (sym (f.4 ∙ named_same (name_of new) (name_of old) f.1 (λ q m. named q)))

  before_as_now : (j : ℕ) (x : ObjectOf ClassId) → a.serial ≢ j → object_at old j ≡ Some x → object_at new j ≡ Some x
  before_as_now j x n e = by (shows.only j x e)
    where
      by : (q : ℕ) × (y : Object) × (object_in slots q ≡ Some y) × (y.serial ≡ j) × (x ≡ named_object (name_of old) y) → object_at new j ≡ Some x
      by f =
          let away : f.0 ≢ p = λ t. n (let here : object_in slots p ≡ Some f.1 = subst (λ m. object_in slots m ≡ Some f.1) t f.2 in let same : a ≡ f.1 = cc in ap (λ y. y.serial) same ∙ f.3) in
          let lies_now : object_in after f.0 ≡ Some f.1 = others f.0 away ∙ f.2 in
          subst (λ m. object_at new m ≡ Some (named_object (name_of new) f.1)) f.3 (shows_after.objects f.0 f.1 lies_now)
          ∙ ap Some (named_same (name_of new) (name_of old) f.1 (λ q m. named q) ∙ sym f.4)

  same_option : (x y : Option (ObjectOf ClassId)) → ((o : ObjectOf ClassId) → x ≡ Some o → y ≡ Some o) → ((o : ObjectOf ClassId) → y ≡ Some o → x ≡ Some o) → x ≡ y
  same_option (Some o) y f g = sym (f o refl)
  same_option None None f g = refl
  same_option None (Some o) f g = g o refl

  other_objects : (k j : ℕ) → serial_at old p ≡ Some k → j ≢ k → object_at new j ≡ object_at old j
  other_objects k j h n =
      let number : Some a.serial ≡ Some k = sym (serial_is (object_in slots) old shows p a lies) ∙ h in
      let away : a.serial ≢ j = λ e. n (let same : a.serial ≡ k = cc in sym e ∙ same) in
      same_option (object_at new j) (object_at old j) (λ x. now_as_before j x away) (λ x. before_as_now j x away)

  is_set : IsSet old new p i v
  unfolding content_of
  is_set = record { limit = refl; next = refl; sound = sound_content limit next after sound_after; serials = serials; changed = changed; others = other_objects }

-- the object that a value is written to
pub target : (limit next : ℕ) (slots : List Slot) (d : Content ClassId) → content_of limit next slots ≡ d → AreSound next slots → (p i : ℕ) (u : Value) → HasValue d p i u → (a : Object) × (object_in slots p ≡ Some a) × (i < length a.values)
target limit next slots d e s p i u h =
    let there : serial_at (content_of limit next slots) p ≡ Some h.0 = subst (λ x. serial_at x p ≡ Some h.0) (sym e) h.2 in
    let x = at_place (object_in slots) (content_of limit next slots) (slots_show limit next slots s) p h.0 there in
    (x.0, x.1, value_within limit next slots d e s p i x.0 u (sym x.1) h)

names_of : (limit next : ℕ) (slots : List Slot) → AreSound next slots → (v : Value) → AllResident (content_of limit next slots) (refs v) → (q : ℕ) → Among q (refs v) → is_some (object_in slots q) ≡ true
names_of limit next slots s v r q m =
    let t = r q m in
    let x = at_place (object_in slots) (content_of limit next slots) (slots_show limit next slots s) q t.0 t.1 in
    some_is (object_in slots q) x.0 x.1

pub sound_written : (limit next : ℕ) (slots after : List Slot) (d : Content ClassId) → content_of limit next slots ≡ d → AreSound next slots → (p i : ℕ) (u v : Value) → HasValue d p i u → AllResident d (refs v) → Written slots after p i v → AreSound next after
sound_written limit next slots after d e s p i u v h r w =
    let t = target limit next slots d e s p i u h in
    let b = w.written t.0 t.1 t.2 in
    sound_after limit next slots after s p i v t.0 b.0 t.1 b.1 b.2 w.others (names_of limit next slots s v (subst (λ x. AllResident x (refs v)) (sym e) r))

pub set_written : (limit next : ℕ) (slots after : List Slot) (d : Content ClassId) → content_of limit next slots ≡ d → AreSound next slots → (p i : ℕ) (u v : Value) → HasValue d p i u → AllResident d (refs v) → Written slots after p i v → IsSet d (content_of limit next after) p i v
set_written limit next slots after d e s p i u v h r w =
    let t = target limit next slots d e s p i u h in
    let b = w.written t.0 t.1 t.2 in
    subst (λ x. IsSet x (content_of limit next after) p i v) e (is_set limit next slots after s p i v t.0 b.0 t.1 b.1 b.2 w.others (names_of limit next slots s v (subst (λ x. AllResident x (refs v)) (sym e) r)))
