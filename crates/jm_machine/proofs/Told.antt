-- What readers tell beside what the world has.
use Rattle.std.proofs.Common.{None, ◌≡◌, ℕ, suc, ◌<◌, List, [], ◌∷◌, Option, Some, refl, sym, ap, ◌∙◌, subst, length, arith}
use Rattle.std.specs.Prelude.{map, slice_get}
use Rattle.std.proofs.lemmas.Option.{slice_get_within, slice_get_past}
use Rattle.std.proofs.lemmas.List.{length-map}
use Rattle.jm_program.specs.declared.class.ClassParts.{ClassParts}
use Rattle.jm_program.specs.declared.class.Method.{Method}
use Rattle.jm_program.proofs.Sequences.{got_past}
use Rattle.jm_values.specs.Rename.{rename, refs, value_shape, stack_shape}
use Rattle.jm_values.specs.declared.value.Value.{Value}
use Rattle.jm_world.specs.Classes.{name_of_method, method_named}
use Rattle.jm_values.specs.Content.{Content, IsSound, AllResident, HasValue, serial_at, object_at, name_of}
use Rattle.jm_world.specs.Loading.{first_statics}
use Rattle.jm_world.specs.Matches.{as_named}
use Rattle.jm_world.specs.Objects.{FieldName, Object}
use Rattle.jm_values.specs.Objects.{ObjectOf}
use Rattle.jm_world.specs.Renaming.{static_shape}
use Rattle.jm_world.specs.World.{Static}
use Rattle.jm_heap.specs.declared.class_id.ClassId.{ClassId}
use Rattle.jm_linked.specs.Links.{LinkedView, IsLinked, MethodLinks, name_of_number, name_among, name_in_class, member_name}
use Rattle.jm_linked.specs.declared.method.LinkedMethod.{LinkedMethod}
use Rattle.jm_linked.specs.Named.{named_statics}
use Rattle.jm_state.specs.Parts.{named_type, program_class_name, name_in_program}
use Rattle.jm_values.proofs.Marking.{object_there}
use Rattle.jm_values.proofs.SoundContents.{name_is}
use Rattle.jm_values.proofs.Lists.{refs_in}
use Rattle.jm_machine.specs.Seen.{ObjectView, field_seen, fields_of_type, object_or_none, object_seen, statics_seen, view_of_object, with_value}
use Rattle.jm_machine.proofs.StaticFields.{static_read}

-- the method of a number
module _ (l : LinkedView) (linked : IsLinked l) (n : ℕ) (m : LinkedMethod) (at : slice_get l.methods n ≡ Some m) where
  links : MethodLinks l m
  links = linked.methods n m at

  pub class_within : m.class < length l.program
  class_within = slice_get_within l.program m.class links.class links.class_is

  module _ (c : ClassParts) (e : slice_get l.program m.class ≡ Some c) where
    same_class : links.class ≡ c
    same_class = let h : Some links.class ≡ Some c = sym links.class_is ∙ e in cc

    pub member_within : m.member < length c.methods
    member_within = subst (λ (x : ClassParts). m.member < length x.methods) same_class (slice_get_within links.class.methods m.member links.method links.method_is)

    module _ (x : Method) (f : slice_get c.methods m.member ≡ Some x) where
      same_method : links.method ≡ x
      same_method = let h : Some links.method ≡ Some x = sym links.method_is ∙ ap (λ (y : ClassParts). slice_get y.methods m.member) same_class ∙ f in cc

      pub named_by : name_of_number l n ≡ name_of_method (record { class = c; method = x })
      unfolding name_of_number
      named_by = ap (name_among l.program) at ∙ ap (λ o. name_in_class o m.member) e ∙ ap (member_name c) f

      pub found_by : method_named l.program (name_of_method (record { class = c; method = x })) ≡ Some x
      found_by = (λ i. method_named l.program (name_of_method (record { class = sym same_class i; method = sym same_method i }))) ∙ links.named ∙ ap Some same_method

pub class_name_is : (program : List ClassParts) (n : ℕ) (c : ClassParts) → slice_get program n ≡ Some c → program_class_name program n ≡ c.name
unfolding program_class_name
class_name_is program n c e = ap name_in_program e

-- the object at a place
module _ (l : LinkedView) (c : Content ClassId) (p : ℕ) (sound : IsSound c) (there : (k : ℕ) × (serial_at c p ≡ Some k)) where
  pub object : (k : ℕ) × (o : ObjectOf ClassId) × (serial_at c p ≡ Some k) × (object_at c k ≡ Some o)
  object = object_there c p there

  pub seen_is : object_seen l c p ≡ as_named (named_type l.program) object.1
  seen_is = ap (object_or_none (named_type l.program)) (ap (object_at c) (name_is c p object.0 object.2) ∙ object.3)

  fields_seen : (id : ClassId) → id ≡ object.1.type
      → fields_of_type l.program (named_type l.program id) ≡ fields_of_type l.program (object_seen l c p).type
  fields_seen id e =
      ap (λ t. fields_of_type l.program (named_type l.program t)) e ∙ ap (λ (o : Object). fields_of_type l.program o.type) (sym seen_is)

  -- a field and a value of it that are read, by its number
  pub field_told : (o : ObjectView) → view_of_object l c p ≡ o → (id : ClassId) → id ≡ object.1.type → (index : ℕ) (f : Option FieldName) (v : Option Value)
      → f ≡ slice_get (fields_of_type l.program (named_type l.program id)) index → v ≡ slice_get o.object.values index
      → with_value f v ≡ field_seen o index
  field_told o is id e index f v name value =
      let field : f ≡ slice_get (fields_of_type o.program o.object.type) index =
      name ∙ ap (λ fs. slice_get fs index) (fields_seen id e)
      ∙ ap (λ (x : ObjectView). slice_get (fields_of_type x.program x.object.type) index) is in
      (λ i. with_value (field i) (value i))

  pub value_seen : (i : ℕ) (v : Value) → HasValue c p i v → slice_get (object_seen l c p).values i ≡ Some v
  value_seen i v h = ap (λ x. slice_get (object_or_none (named_type l.program) x).values i) (ap (object_at c) (name_is c p h.0 h.2) ∙ h.3) ∙ h.4

pub no_value : (f : Option FieldName) → with_value f None ≡ None
no_value None = refl
no_value (Some f) = refl

-- static fields with their values
named_length : (ss : List Static) (vs : List Value) → length vs ≡ length ss → length (named_statics ss vs) ≡ length vs
named_length [] [] e = refl
named_length [] (v ∷ vs) e = absurd (omega arith)
named_length (s ∷ ss) [] e = absurd (omega arith)
named_length (s ∷ ss) (v ∷ vs) e = ap suc (named_length ss vs (omega arith))

pub statics_length : (l : LinkedView) (c : Content ClassId) (vs : List Value) → length vs ≡ length (first_statics l.program) → length (statics_seen l c vs) ≡ length vs
statics_length l c vs e = length-map (named_statics (first_statics l.program) vs) (static_shape.rename (name_of c)) ∙ named_length (first_statics l.program) vs e

-- a static field that is read, by its number
module _ (l : LinkedView) (c : Content ClassId) (vs : List Value) (i : ℕ) (v : Value) (g : slice_get vs i ≡ Some v) where
  pub static_resident : AllResident c (stack_shape.refs vs) → AllResident c (refs v)
  static_resident all = λ p a. all p (refs_in value_shape vs i v p g a)

  pub static_is : (n : FieldName) → slice_get (map (λ (s : Static). s.field) (first_statics l.program)) i ≡ Some n
      → slice_get (statics_seen l c vs) i ≡ Some (record { field = n; value = rename (name_of c) v })
  static_is n e = static_read (name_of c) (first_statics l.program) vs i n v e g

pub none_past : (l : LinkedView) (c : Content ClassId) (vs : List Value) (i : ℕ) → length vs ≡ length (first_statics l.program)
    → slice_get (map (λ (s : Static). s.field) (first_statics l.program)) i ≡ None → slice_get (statics_seen l c vs) i ≡ None
none_past l c vs i long e =
    let past = got_past (map (λ (s : Static). s.field) (first_statics l.program)) i e in
    slice_get_past (statics_seen l c vs) i
    (omega (arith, past, long, length-map (first_statics l.program) (λ (s : Static). s.field), statics_length l c vs long))
