-- What is read at a place of sound slots.
use Rattle.std.proofs.Common.{◌≡◌, ℕ, suc, ◌<◌, ◌^◌, List, Option, [], ◌∷◌, Some, None, refl, sym, ap, ◌∙◌, subst, length, arith}
use Rattle.std.specs.Prelude.{map, slice_get, slice_index_or, option_map}
use Rattle.std.proofs.lemmas.Option.{slice_get-map, slice_get_within, slice_get-get_or}
use Rattle.jm_values.specs.declared.value.Value.{Value}
use Rattle.jm_values.specs.Rename.{rename, refs, value_shape}
use Rattle.jm_values.specs.Objects.{ObjectOf}
use Rattle.jm_values.specs.Content.{Content, HasValue, AllResident, serial_at, object_at, name_of}
use Rattle.jm_values.proofs.Lists.{refs_in}
use Rattle.jm_heap.specs.Slots.{AreSound, object_in, serial_of, class_of, values_of, named_object, content_of, Object, Slot}
use Rattle.jm_heap.specs.declared.class_id.ClassId.{ClassId}
use Rattle.jm_heap.proofs.ContentLemmas.{slots_show, serial_of_place}
use Rattle.jm_heap.proofs.SoundLemmas.{at_place, serial_is, some_object}

-- the serial of a place is that of what lies there
pub serial_there : (limit next : ℕ) (slots : List Slot) (d : Content ClassId) → content_of limit next slots ≡ d → (p k : ℕ) → serial_at d p ≡ Some k → serial_of (object_in slots p) ≡ Some k
serial_there limit next slots d v p k h = sym (serial_of_place limit next slots p) ∙ subst (λ x. serial_at x p ≡ Some k) (sym v) h

-- where there is a serial, an object lies
pub lies : (limit next : ℕ) (slots : List Slot) (d : Content ClassId) → content_of limit next slots ≡ d → AreSound next slots → (p k : ℕ) → serial_at d p ≡ Some k → (a : Object) × (object_in slots p ≡ Some a) × (a.serial ≡ k)
lies limit next slots d v s p k h =
    at_place (object_in slots) (content_of limit next slots) (slots_show limit next slots s) p k (subst (λ x. serial_at x p ≡ Some k) (sym v) h)

-- the object of a place is the one of its slot, with serials for places
object_here : (limit next : ℕ) (slots : List Slot) → AreSound next slots → (p k : ℕ) (a : Object) (o : ObjectOf ClassId) → Some a ≡ object_in slots p → serial_at (content_of limit next slots) p ≡ Some k → object_at (content_of limit next slots) k ≡ Some o → o ≡ named_object (name_of (content_of limit next slots)) a
object_here limit next slots s p k a o e h g =
    let shows = slots_show limit next slots s in
    let serial : Some a.serial ≡ Some k = sym (serial_is (object_in slots) (content_of limit next slots) shows p a (sym e)) ∙ h in
    let same : a.serial ≡ k = cc in
    let here : object_at (content_of limit next slots) k ≡ Some (named_object (name_of (content_of limit next slots)) a) = subst (λ n. object_at (content_of limit next slots) n ≡ Some (named_object (name_of (content_of limit next slots)) a)) same (shows.objects p a (sym e)) in
    cc

pub object_read : (limit next : ℕ) (slots : List Slot) (d : Content ClassId) → content_of limit next slots ≡ d → AreSound next slots → (p k : ℕ) (a : Object) (o : ObjectOf ClassId) → Some a ≡ object_in slots p → serial_at d p ≡ Some k → object_at d k ≡ Some o → o ≡ named_object (name_of d) a
object_read limit next slots d v s p k a o e =
    subst (λ x. serial_at x p ≡ Some k → object_at x k ≡ Some o → o ≡ named_object (name_of x) a) v (object_here limit next slots s p k a o e)

length_map : (f : Value → Value) (vs : List Value) → length (map f vs) ≡ length vs
length_map f [] = refl
length_map f (v ∷ vs) = ap suc (length_map f vs)

pub length_read : (limit next : ℕ) (slots : List Slot) (d : Content ClassId) → content_of limit next slots ≡ d → AreSound next slots → (p k : ℕ) (a : Object) (o : ObjectOf ClassId) → Some a ≡ object_in slots p → serial_at d p ≡ Some k → object_at d k ≡ Some o → length a.values ≡ length o.values
length_read limit next slots d v s p k a o e h g =
    sym (ap (λ x. length x.values) (object_read limit next slots d v s p k a o e h g) ∙ length_map (rename (name_of d)) a.values)

pub length_there : (limit next : ℕ) (slots : List Slot) (d : Content ClassId) → content_of limit next slots ≡ d → AreSound next slots → (p k : ℕ) (o : ObjectOf ClassId) → serial_at d p ≡ Some k → object_at d k ≡ Some o → length (values_of (object_in slots p)) ≡ length o.values
length_there limit next slots d v s p k o h g =
    let a = lies limit next slots d v s p k h in
    ap (λ x. length (values_of x)) a.1 ∙ length_read limit next slots d v s p k a.0 o (sym a.1) h g

pub few_there : (next : ℕ) (slots : List Slot) → AreSound next slots → (p : ℕ) → length (values_of (object_in slots p)) < 2 ^ 32
few_there next slots s p = by (object_in slots p) refl
  where
    by : (o : Option Object) → object_in slots p ≡ o → length (values_of o) < 2 ^ 32
    by None e = omega arith
    by (Some a) e = s.short p a e

pub class_there : (limit next : ℕ) (slots : List Slot) (d : Content ClassId) → content_of limit next slots ≡ d → AreSound next slots → (p k : ℕ) (o : ObjectOf ClassId) → serial_at d p ≡ Some k → object_at d k ≡ Some o → class_of (object_in slots p) ≡ Some o.type
class_there limit next slots d v s p k o h g =
    let a = lies limit next slots d v s p k h in
    ap class_of a.1 ∙ ap (λ x. Some x.type) (sym (object_read limit next slots d v s p k a.0 o (sym a.1) h g))

-- a number that has a value is within the object
pub value_within : (limit next : ℕ) (slots : List Slot) (d : Content ClassId) → content_of limit next slots ≡ d → AreSound next slots → (p i : ℕ) (a : Object) (w : Value) → Some a ≡ object_in slots p → HasValue d p i w → i < length a.values
value_within limit next slots d v s p i a w e h =
    let many = length_read limit next slots d v s p h.0 a h.1 e h.2 h.3 in
    let inside : i < length h.1.values = slice_get_within h.1.values i w h.4 in
    omega (arith, many, inside)

value_here : (limit next : ℕ) (slots : List Slot) → AreSound next slots → (p i : ℕ) (a : Object) (w : Value) → Some a ≡ object_in slots p → slice_get a.values i ≡ Some w → HasValue (content_of limit next slots) p i (rename (name_of (content_of limit next slots)) w)
value_here limit next slots s p i a w e read =
    let shows = slots_show limit next slots s in
    (a.serial, named_object (name_of (content_of limit next slots)) a, serial_is (object_in slots) (content_of limit next slots) shows p a (sym e), shows.objects p a (sym e), slice_get-map (rename (name_of (content_of limit next slots))) a.values i ∙ ap (option_map (rename (name_of (content_of limit next slots)))) read)

pub value_got : (limit next : ℕ) (slots : List Slot) (d : Content ClassId) → content_of limit next slots ≡ d → AreSound next slots → (p i : ℕ) (a : Object) (w : Value) → Some a ≡ object_in slots p → slice_get a.values i ≡ Some w → HasValue d p i (rename (name_of d) w)
value_got limit next slots d v s p i a w e read = subst (λ x. HasValue x p i (rename (name_of x) w)) v (value_here limit next slots s p i a w e read)

value_read : (limit next : ℕ) (slots : List Slot) (d : Content ClassId) → content_of limit next slots ≡ d → AreSound next slots → (p i : ℕ) (a : Object) (w : Value) → Some a ≡ object_in slots p → i < length a.values → w ≡ slice_index_or a.values i w → HasValue d p i (rename (name_of d) w)
value_read limit next slots d v s p i a w e h r = value_got limit next slots d v s p i a w e (slice_get-get_or a.values i w h ∙ ap Some (sym r))

resident_here : (limit next : ℕ) (slots : List Slot) → AreSound next slots → (p i : ℕ) (a : Object) (w : Value) → Some a ≡ object_in slots p → slice_get a.values i ≡ Some w → AllResident (content_of limit next slots) (refs w)
resident_here limit next slots s p i a w e read q m =
    let x = some_object (object_in slots q) (s.closed p a (sym e) q (refs_in value_shape a.values i w q read m)) in
    (x.0.serial, serial_is (object_in slots) (content_of limit next slots) (slots_show limit next slots s) q x.0 x.1)

pub resident_got : (limit next : ℕ) (slots : List Slot) (d : Content ClassId) → content_of limit next slots ≡ d → AreSound next slots → (p i : ℕ) (a : Object) (w : Value) → Some a ≡ object_in slots p → slice_get a.values i ≡ Some w → AllResident d (refs w)
resident_got limit next slots d v s p i a w e read = subst (λ x. AllResident x (refs w)) v (resident_here limit next slots s p i a w e read)

resident_read : (limit next : ℕ) (slots : List Slot) (d : Content ClassId) → content_of limit next slots ≡ d → AreSound next slots → (p i : ℕ) (a : Object) (w : Value) → Some a ≡ object_in slots p → i < length a.values → w ≡ slice_index_or a.values i w → AllResident d (refs w)
resident_read limit next slots d v s p i a w e h r = resident_got limit next slots d v s p i a w e (slice_get-get_or a.values i w h ∙ ap Some (sym r))

-- a number that has a value is within what lies at its place, and reads that value
module _ (limit next : ℕ) (slots : List Slot) (d : Content ClassId) (v : content_of limit next slots ≡ d) (s : AreSound next slots) (p i : ℕ) (u : Value) (has : HasValue d p i u) (values : List Value) (found : values ≡ values_of (object_in slots p)) where
  here : (a : Object) × (object_in slots p ≡ Some a) × (a.serial ≡ has.0)
  here = lies limit next slots d v s p has.0 has.2

  its_values : values ≡ here.0.values
  its_values = found ∙ ap values_of here.1

  within : i < length here.0.values
  within = value_within limit next slots d v s p i here.0 u (sym here.1) has

  pub index_there : i < length values
  index_there = subst (λ (vs : List Value). i < length vs) (sym its_values) within

  read : (w : Value) → w ≡ slice_index_or values i w → w ≡ slice_index_or here.0.values i w
  read w e = subst (λ vs. w ≡ slice_index_or vs i w) its_values e

  pub value_there : (w : Value) → w ≡ slice_index_or values i w → HasValue d p i (rename (name_of d) w)
  value_there w e = value_read limit next slots d v s p i here.0 w (sym here.1) within (read w e)

  pub resident_there : (w : Value) → w ≡ slice_index_or values i w → AllResident d (refs w)
  resident_there w e = resident_read limit next slots d v s p i here.0 w (sym here.1) within (read w e)
