-- The object of a place that a machine holds.
use Rattle.std.proofs.Common.{◌≡◌, ℕ, List, Option, Some, sym, ap, ◌∙◌, subst}
use Rattle.std.specs.Prelude.{slice_get, option_map}
use Rattle.jm_values.specs.Shape.{Among}
use Rattle.jm_values.specs.Content.{Content, name_of, serial_at, object_at}
use Rattle.jm_world.specs.Matches.{Matches, places, as_named}
use Rattle.jm_values.specs.Objects.{ObjectOf}
use Rattle.jm_values.specs.Reach.{Reach}
use Rattle.jm_world.specs.World.{World, roots}
use Rattle.jm_heap.specs.declared.class_id.ClassId.{ClassId}
use Rattle.jm_state.specs.Parts.{parts, named_type}
use Rattle.jm_state.specs.declared.state.State.{State}
use Rattle.jm_state.specs.declared.thread.StackFrame.{StackFrame}
use Rattle.jm_interp.specs.declared.at.At.{At}
use Rattle.jm_interp.specs.At.{parts_at, OnThread}
use Rattle.jm_interp.specs.Strings.{OfObject}
use Rattle.jm_values.proofs.SoundContents.{object_of_place, name_is}
use Rattle.jm_world.proofs.Changed.{reach_shared, place_stands}

module _ {H : Type 0} {content : H → Content ClassId} {at : At} {old : State H} {fs : List StackFrame} {p : Option ℕ} (h : OnThread content at old fs p) where
  -- the object in the heap, and in every world beside the state
  pub record IsObject (place : ℕ) : Type 0 where
    pub serial : ℕ
    pub object : ObjectOf ClassId
    pub serial_is : serial_at (content old.heap) place ≡ Some serial
    pub object_is : object_at (content old.heap) serial ≡ Some object
    pub in_world : (w : World) → Matches (parts_at content at old) w
        → slice_get w.heap (name_of (content old.heap) place) ≡ Some (as_named (named_type at.linked.now.program) object)
    pub reached : (w : World) → Matches (parts_at content at old) w → Reach (slice_get w.heap) (roots w) (name_of (content old.heap) place)

  pub object_of : (place : ℕ) → Among place (places (parts_at content at old)) → IsObject place
  unfolding parts
  object_of place inside =
      let c = content old.heap in
      let named = as_named (named_type at.linked.now.program) in
      let k = h.beside.matches.resident place inside in
      let o = object_of_place c place k.0 k.1 in
      let stands : (w : World) → Matches (parts_at content at old) w → Reach (slice_get w.heap) (roots w) (name_of c place) = λ w m.
      (place_stands (parts_at content at old) w m (Reach (slice_get w.heap) (roots w)) (reach_shared (parts_at content at old) w m) place inside).1 in
      record {
        serial = k.0;
        object = o.0;
        serial_is = k.1;
        object_is = o.1;
        reached = stands;
        in_world = λ w m.
            sym (m.objects (name_of c place) (stands w m))
            ∙ ap (λ j. option_map named (object_at c j)) (name_is c place k.0 k.1)
            ∙ ap (option_map named) o.1;
      }

  -- what the heap's calls ask of a place, and what they say of its object
  pub lies : {place : ℕ} → IsObject place
      → (k : ℕ) × (o : ObjectOf ClassId) × (serial_at (content old.heap) place ≡ Some k) × (object_at (content old.heap) k ≡ Some o)
  lies t = (t.serial, t.object, t.serial_is, t.object_is)

  pub told : {place : ℕ} {P : ObjectOf ClassId → Type 0} (t : IsObject place)
      → ((k : ℕ) (o : ObjectOf ClassId) → serial_at (content old.heap) place ≡ Some k → object_at (content old.heap) k ≡ Some o → P o) → P t.object
  told t say = say t.serial t.object t.serial_is t.object_is

  -- what is so of it is so of whatever object lies there
  pub said : {place : ℕ} (P : ObjectOf ClassId → Type 0) (t : IsObject place) → P t.object → OfObject (content old.heap) place P
  said P t is k o serial object =
      let serials : Some t.serial ≡ Some k = sym t.serial_is ∙ serial in
      let same : t.serial ≡ k = cc in
      let objects : Some t.object ≡ Some o = sym t.object_is ∙ ap (object_at (content old.heap)) same ∙ object in
      let it : t.object ≡ o = cc in
      subst P it is
