-- What the content says of a place, and what lies there.
use Rattle.std.proofs.Common.{◌≡◌, ℕ, ◌<◌, Some, sym, ap, ◌∙◌, subst, length}
use Rattle.std.specs.Prelude.{slice_get}
use Rattle.std.proofs.lemmas.List.{length-map}
use Rattle.std.proofs.lemmas.Option.{slice_get_within}
use Rattle.jm_values.specs.declared.value.Value.{Value}
use Rattle.jm_values.specs.Rename.{rename, refs, value_shape}
use Rattle.jm_values.specs.Objects.{ObjectOf}
use Rattle.jm_values.specs.Content.{AllResident, HasValue, serial_at, object_at, name_of}
use Rattle.jm_values.proofs.Lists.{get_map, refs_in}
use Rattle.jm_heap.specs.declared.class_id.ClassId.{ClassId}
use Rattle.jm_blocks.specs.Objects.{Object}
use Rattle.jm_gen_heap.specs.Generations.{Generations, lying}
use Rattle.jm_gen_heap.specs.Residents.{named, content_of}
use Rattle.jm_gen_heap.specs.Invariant.{AreGenerations}
use Rattle.jm_gen_heap.proofs.Reaching.{at_place, serial_is, lying_resident}
use Rattle.jm_gen_heap.proofs.Making.{shown}

module _ (g : Generations) (v : AreGenerations g) where
  -- where a serial is, an object lies, and the other way round
  pub place_lies : (p k : ℕ) → serial_at (content_of g) p ≡ Some k → (a : Object) × (lying g p ≡ Some a) × (a.serial ≡ k)
  place_lies p k e = at_place (shown v) p k e

  pub lies_serial : (p : ℕ) (a : Object) → lying g p ≡ Some a → serial_at (content_of g) p ≡ Some a.serial
  lies_serial p a e = serial_is (shown v) p a e

  -- a resident is the object that lies at its place, with serials for places
  pub object_is : (p k : ℕ) (a : Object) (x : ObjectOf ClassId) → serial_at (content_of g) p ≡ Some k → object_at (content_of g) k ≡ Some x → lying g p ≡ Some a → x ≡ named (name_of (content_of g)) a
  object_is p k a x e f l =
      let number : Some a.serial ≡ Some k = sym (lies_serial p a l) ∙ e in
      let serial : a.serial ≡ k = cc in
      let both : Some x ≡ Some (named (name_of (content_of g)) a) = sym f ∙ ap (object_at (content_of g)) (sym serial) ∙ (shown v).objects p a l in
      cc

  pub length_is : (p k : ℕ) (a : Object) (x : ObjectOf ClassId) → serial_at (content_of g) p ≡ Some k → object_at (content_of g) k ≡ Some x → lying g p ≡ Some a → length a.values ≡ length x.values
  length_is p k a x e f l =
      sym (length-map a.values (rename (name_of (content_of g)))) ∙ ap (λ (y : ObjectOf ClassId). length y.values) (sym (object_is p k a x e f l))

  pub class_is : (p k : ℕ) (a : Object) (x : ObjectOf ClassId) → serial_at (content_of g) p ≡ Some k → object_at (content_of g) k ≡ Some x → lying g p ≡ Some a → a.class ≡ x.type
  class_is p k a x e f l = ap (λ (y : ObjectOf ClassId). y.type) (sym (object_is p k a x e f l))

  -- a value of this number is there
  pub value_there : (p i : ℕ) (u : Value) → HasValue (content_of g) p i u → (a : Object) × (lying g p ≡ Some a) × (i < length a.values)
  value_there p i u h =
      let x = place_lies p h.0 h.2 in
      let many = length_is p h.0 x.0 h.1 h.2 h.3 x.1 in
      (x.0, x.1, subst (λ n. i < n) (sym many) (slice_get_within h.1.values i u h.4))

  pub value_is : (p i : ℕ) (a : Object) (w : Value) → lying g p ≡ Some a → slice_get a.values i ≡ Some w → HasValue (content_of g) p i (rename (name_of (content_of g)) w)
  value_is p i a w l e =
      (a.serial, named (name_of (content_of g)) a, lies_serial p a l, (shown v).objects p a l, get_map (rename (name_of (content_of g))) a.values i w e)

  pub value_resident : (p i : ℕ) (a : Object) (w : Value) → lying g p ≡ Some a → slice_get a.values i ≡ Some w → AllResident (content_of g) (refs w)
  value_resident p i a w l e = lying_resident (shown v) (refs w) (λ q k. v.told.closed p q a l (refs_in value_shape a.values i w q e k))
