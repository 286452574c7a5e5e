-- What is left when an object has come to a place where none lay.
use Rattle.std.proofs.Common.{◌≡◌, ◌≢◌, ℕ, ◌+◌, ◌<◌, ◌≤◌, ◌^◌, ◌⊎◌, List, [], ◌∷◌, Some, None, true, refl, sym, ap, ◌∙◌, subst, inl, inr, length, arith}
use Rattle.std.specs.Prelude.{map, is_some, unwrap_or}
use Rattle.std.proofs.lemmas.Bool.Decides.{eqb_tells}
use Rattle.jm_values.specs.declared.value.Value.{Value}
use Rattle.jm_values.specs.declared.value.Value.TheVariants.{Int, Long, Null, Ref}
use Rattle.jm_values.specs.Rename.{rename, stack_shape}
use Rattle.jm_values.specs.Shape.{Among}
use Rattle.jm_values.specs.Objects.{ObjectOf, size_by}
use Rattle.jm_values.specs.Content.{Content, Kept, Made, IsAtEnd, AllResident, serial_at, object_at, name_of}
use Rattle.jm_heap.specs.Allocation.{MadeHere}
use Rattle.jm_heap.specs.Cells.{class_size, resident_cells}
use Rattle.jm_heap.specs.Slots.{AreSound, object_in, object_cells, serial_of, named_object, content_of, slots_cells, Object, Slot}
use Rattle.jm_heap.specs.Stored.{Stored, numbered}
use Rattle.jm_heap.specs.declared.class_id.ClassId.{ClassId}
use Rattle.jm_heap.proofs.ContentLemmas.{Shows, slots_show, serial_of_place, cells_of_content, named_same}
use Rattle.jm_heap.proofs.SoundLemmas.{at_place, some_object, some_is, sound_content, reached_at}
use Rattle.jm_heap.proofs.SweepingLemmas.{names_same}
use Rattle.jm_heap.proofs.CellLemmas.{Told, used_at_most}

-- an object without references is the same under serials
plain_values : (f : ℕ → ℕ) (vs : List Value) → stack_shape.refs vs ≡ [] → map (rename f) vs ≡ vs
plain_values f [] e = refl
plain_values f (Int n ∷ vs) e = ap (λ l. Int n ∷ l) (plain_values f vs e)
plain_values f (Long n ∷ vs) e = ap (λ l. Long n ∷ l) (plain_values f vs e)
plain_values f (Null ∷ vs) e = ap (λ l. Null ∷ l) (plain_values f vs e)
plain_values f (Ref p ∷ vs) e = cc

-- one size, by type and length
same_size : (a : Object) (o : ObjectOf ClassId) → a.class ≡ o.type → a.values ≡ o.values → object_cells a ≡ size_by class_size o
same_size a o type values = ap (λ (t : ClassId). class_size t (length a.values)) type ∙ ap (λ (l : List Value). class_size o.type (length l)) values

-- sound slots, and an object without references that has come to a free place with the next serial
module _ (limit next : ℕ) (slots after : List Slot) (s : AreSound next slots) (p : ℕ) (a : Object) (w : Stored slots after p a) (number : a.serial ≡ next) (plain : stack_shape.refs a.values ≡ []) (few : length a.values < 2 ^ 32) where
  abbrev old : Content ClassId
  old = content_of limit next slots

  abbrev new : Content ClassId
  new = content_of limit (next + 1) after

  -- what lies at another place lay there, and the other way
  away : (q : ℕ) (x : Object) → object_in slots q ≡ Some x → q ≢ p
  away q x e t = let none : object_in slots q ≡ None = subst (λ n. object_in slots n ≡ None) (sym t) w.fresh in absurd (cc)

  stays : (q : ℕ) (x : Object) → object_in slots q ≡ Some x → object_in after q ≡ Some x
  stays q x e = w.others q (away q x e) ∙ e

  -- what is there is the new object, or lay there
  was : (q : ℕ) (x : Object) → object_in after q ≡ Some x → ((q ≡ p) × (x ≡ a)) ⊎ (object_in slots q ≡ Some x)
  was q x e = by (eqb_tells q p)
    where
      by : Told q p → ((q ≡ p) × (x ≡ a)) ⊎ (object_in slots q ≡ Some x)
      by (inl t) = let here : object_in after p ≡ Some x = subst (λ n. object_in after n ≡ Some x) t.1 e in inl (t.1, cc (w.stored))
      by (inr t) = inr (sym (w.others q t.1) ∙ e)

  sound_after : AreSound (next + 1) after
  sound_after = record {
    apart = λ q r x y e f g. one q r x y (was q x e) (was r y f) g;
    below = λ q x e. low q x (was q x e);
    closed = λ q x e k m. there k (from q x (was q x e) k m);
    short = λ q x e. brief q x (was q x e);
  }
    where
      one : (q r : ℕ) (x y : Object) → ((q ≡ p) × (x ≡ a)) ⊎ (object_in slots q ≡ Some x) → ((r ≡ p) × (y ≡ a)) ⊎ (object_in slots r ≡ Some y) → x.serial ≡ y.serial → q ≡ r
      one q r x y (inl h) (inl k) g = h.0 ∙ sym k.0
      one q r x y (inl h) (inr k) g = let few = s.below r y k in let is : x.serial ≡ a.serial = ap (λ z. z.serial) h.1 in absurd (omega (arith, few, is, number, g))
      one q r x y (inr h) (inl k) g = let few = s.below q x h in let is : y.serial ≡ a.serial = ap (λ z. z.serial) k.1 in absurd (omega (arith, few, is, number, g))
      one q r x y (inr h) (inr k) g = s.apart q r x y h k g

      low : (q : ℕ) (x : Object) → ((q ≡ p) × (x ≡ a)) ⊎ (object_in slots q ≡ Some x) → x.serial < next + 1
      low q x (inl h) = let is : x.serial ≡ a.serial = ap (λ z. z.serial) h.1 in omega (arith, is, number)
      low q x (inr h) = let few = s.below q x h in omega (arith, few)

      from : (q : ℕ) (x : Object) → ((q ≡ p) × (x ≡ a)) ⊎ (object_in slots q ≡ Some x) → (k : ℕ) → Among k (stack_shape.refs x.values) → is_some (object_in slots k) ≡ true
      from q x (inl h) k m = absurd (subst (λ l. Among k l) (ap (λ z. stack_shape.refs z.values) h.1 ∙ plain) m)
      from q x (inr h) k m = s.closed q x h k m

      brief : (q : ℕ) (x : Object) → ((q ≡ p) × (x ≡ a)) ⊎ (object_in slots q ≡ Some x) → length x.values < 2 ^ 32
      brief q x (inl h) = subst (λ (y : Object). length y.values < 2 ^ 32) (sym h.1) few
      brief q x (inr h) = s.short q x h

      there : (k : ℕ) → is_some (object_in slots k) ≡ true → is_some (object_in after k) ≡ true
      there k h = let x = some_object (object_in slots k) h in some_is (object_in after k) x.0 (stays k x.0 x.1)

  shows : Shows (object_in slots) old
  shows = slots_show limit next slots s

  shows_after : Shows (object_in after) new
  shows_after = slots_show limit (next + 1) after sound_after

  same_serial : (q : ℕ) (x : Object) → object_in slots q ≡ Some x → serial_at new q ≡ serial_at old q
  same_serial q x e = serial_of_place limit (next + 1) after q ∙ ap serial_of (stays q x e ∙ sym e) ∙ sym (serial_of_place limit next slots q)

  same_name : (q : ℕ) (x : Object) → object_in slots q ≡ Some x → name_of new q ≡ name_of old q
  unfolding name_of
  same_name q x e = ap (λ o. unwrap_or o 0) (same_serial q x e)

  places : (q k : ℕ) → serial_at old q ≡ Some k → serial_at new q ≡ Some k
  places q k e = let x = at_place (object_in slots) old shows q k e in same_serial q x.0 x.1 ∙ e

  same_named : (q : ℕ) (x : Object) → object_in slots q ≡ Some x → named_object (name_of new) x ≡ named_object (name_of old) x
  same_named q x e = named_same (name_of new) (name_of old) x (λ k m. let y = some_object (object_in slots k) (s.closed q x e k m) in same_name k y.0 y.1)

  objects : (k : ℕ) (x : ObjectOf ClassId) → object_at old k ≡ Some x → object_at new k ≡ Some x
  objects k x e = by (shows.only k x e)
    where
      by : (q : ℕ) × (y : Object) × (object_in slots q ≡ Some y) × (y.serial ≡ k) × (x ≡ named_object (name_of old) y) → object_at new k ≡ Some x
      by f =
          subst (λ m. object_at new m ≡ Some (named_object (name_of new) f.1)) f.3 (shows_after.objects f.0 f.1 (stays f.0 f.1 f.2))
          ∙ ap Some (same_named f.0 f.1 f.2 ∙ sym f.4)

  only_new : (k : ℕ) (x : ObjectOf ClassId) → k ≢ next → object_at new k ≡ Some x → object_at old k ≡ Some x
  only_new k x n e = let f = shows_after.only k x e in by f.0 f.1 f.3 f.4 (was f.0 f.1 f.2)
    where
      by : (q : ℕ) (y : Object) → y.serial ≡ k → x ≡ named_object (name_of new) y → ((q ≡ p) × (y ≡ a)) ⊎ (object_in slots q ≡ Some y) → object_at old k ≡ Some x
      by q y is named (inl h) = absurd (n (sym is ∙ ap (λ z. z.serial) h.1 ∙ number))
      by q y is named (inr h) =
          subst (λ m. object_at old m ≡ Some (named_object (name_of old) y)) is (shows.objects q y h)
          ∙ ap Some (sym (same_named q y h) ∙ sym named)

  module _ (o : ObjectOf ClassId) (type : a.class ≡ o.type) (values : a.values ≡ o.values) where
    filled : object_at new next ≡ Some o
    filled =
        subst (λ n. object_at new n ≡ Some (named_object (name_of new) a)) number (shows_after.objects p a w.stored)
        ∙ ap Some (ap (λ (l : List Value). record { type = a.class; values = l }) (plain_values (name_of new) a.values plain ∙ values) ∙ ap (λ (t : ClassId). record { type = t; values = o.values }) type)

    placed : serial_at new p ≡ Some next
    placed = serial_of_place limit (next + 1) after p ∙ ap serial_of w.stored ∙ ap Some number

    more_cells : resident_cells new ≡ resident_cells old + size_by class_size o
    more_cells =
        let now = cells_of_content limit (next + 1) after in
        let then = cells_of_content limit next slots in
        let same = same_size a o type values in
        omega (arith, now, then, w.cells, same)

    -- roots that are resident, with room for the object and for its serial
    module _ (room : resident_cells old + size_by class_size o ≤ limit) (lasts : next < 2 ^ 63) where
      kept : (roots : List ℕ) → AllResident old roots → Kept old roots new roots
      unfolding content_of
      kept roots r = record {
        limit = refl;
        sound = sound_content limit (next + 1) after sound_after;
        names = names_same (name_of new) (name_of old) roots (λ q m. let t = r q m in let x = at_place (object_in slots) old shows q t.0 t.1 in same_name q x.0 x.1);
        resident = λ q m. let t = r q m in (t.0, places q t.0 t.1);
        reached = λ k h. let x = reached_at limit next slots roots s r k h in let there : object_at old k ≡ Some (named_object (name_of old) x.object) = subst (λ n. object_at old n ≡ Some (named_object (name_of old) x.object)) x.serial (shows.objects x.place x.object x.lies) in objects k (named_object (name_of old) x.object) there ∙ sym there;
      }

      made : (roots : List ℕ) → AllResident old roots → Made class_size old roots new roots p o
      unfolding content_of
      made roots r = record { kept = kept roots r; next = refl; placed = placed; filled = filled; fits = let least = used_at_most limit next slots roots s r in omega (arith, least, room); lasts = lasts }

      made_here : MadeHere old new p o
      unfolding content_of
      made_here = record { made = made; places = places; objects = objects; as_before = only_new; cells = more_cells; within = omega (arith, more_cells, room) }

no_refs : (a : Object) (o : ObjectOf ClassId) → a.values ≡ o.values → stack_shape.refs o.values ≡ [] → stack_shape.refs a.values ≡ []
no_refs a o values plain = ap (λ (l : List Value). stack_shape.refs l) values ∙ plain

as_few : (a : Object) (o : ObjectOf ClassId) → a.values ≡ o.values → length o.values < 2 ^ 32 → length a.values < 2 ^ 32
as_few a o values few = subst (λ (l : List Value). length l < 2 ^ 32) (sym values) few

pub sound_made : (next : ℕ) (slots after : List Slot) → AreSound next slots → (p : ℕ) (a : Object) (o : ObjectOf ClassId) → Stored slots after p a → a.serial ≡ next → a.values ≡ o.values → stack_shape.refs o.values ≡ [] → length o.values < 2 ^ 32 → AreSound (next + 1) after
sound_made next slots after s p a o w number values plain few = sound_after 0 next slots after s p a w number (no_refs a o values plain) (as_few a o values few)

pub made_at : (limit next : ℕ) (slots after : List Slot) (d : Content ClassId) → content_of limit next slots ≡ d → AreSound next slots → (p : ℕ) (a : Object) (o : ObjectOf ClassId) → Stored slots after p a → a.serial ≡ next → a.class ≡ o.type → a.values ≡ o.values → stack_shape.refs o.values ≡ [] → length o.values < 2 ^ 32 → slots_cells slots + size_by class_size o ≤ limit → next < 2 ^ 63 → MadeHere d (content_of limit (next + 1) after) p o
made_at limit next slots after d e s p a o w number type values plain few room lasts =
    let cells = cells_of_content limit next slots in
    subst (λ x. MadeHere x (content_of limit (next + 1) after) p o) e (made_here limit next slots after s p a w number (no_refs a o values plain) (as_few a o values few) o type values (omega (arith, cells, room)) lasts)

-- the cells and the limit, from the fields
pub cells_are : (limit next : ℕ) (slots : List Slot) (d : Content ClassId) → content_of limit next slots ≡ d → resident_cells d ≡ slots_cells slots
cells_are limit next slots d e = ap resident_cells (sym e) ∙ cells_of_content limit next slots

pub limit_is : (limit next : ℕ) (slots : List Slot) (d : Content ClassId) → content_of limit next slots ≡ d → d.limit ≡ limit
unfolding content_of
limit_is limit next slots d e = ap (λ x. x.limit) (sym e)

end_here : (limit next : ℕ) (slots : List Slot) → AreSound next slots → (o : ObjectOf ClassId) → slots_cells slots + size_by class_size o ≤ limit → 2 ^ 63 ≤ next → (roots : List ℕ) → AllResident (content_of limit next slots) roots → IsAtEnd class_size (content_of limit next slots) roots o
unfolding content_of
end_here limit next slots s o room last roots r =
    let cells = cells_of_content limit next slots in
    let least = used_at_most limit next slots roots s r in
    (omega (arith, cells, least, room), last)

pub at_end : (limit next : ℕ) (slots : List Slot) (d : Content ClassId) → content_of limit next slots ≡ d → AreSound next slots → (o : ObjectOf ClassId) → slots_cells slots + size_by class_size o ≤ limit → 2 ^ 63 ≤ next → (roots : List ℕ) → AllResident d roots → IsAtEnd class_size d roots o
at_end limit next slots d e s o room last = subst (λ x. (roots : List ℕ) → AllResident x roots → IsAtEnd class_size x roots o) e (end_here limit next slots s o room last)

pub new_size : (serial : ℕ) (o : ObjectOf ClassId) → object_cells (numbered serial o) ≡ size_by class_size o
new_size serial o = same_size (numbered serial o) o refl refl
