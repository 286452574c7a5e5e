-- What is shown of an object.
use Rattle.std.proofs.Common.{◌≡◌, ℕ, zero, suc, ◌≤◌, ◌++◌, List, [], ◌∷◌, Bool, true, false, Option, Some, None, length, refl, sym, ap, ◌∙◌, add-one, append_assoc, arith}
use Rattle.std.specs.Prelude.{codes, slice_get, option_map}
use Rattle.std.specs.List.{flat_map, zip}
use Rattle.std.specs.Fmt.{decimal}
use Rattle.jm_program.specs.JasminTypes.{type_line}
use Rattle.jm_program.specs.declared.class.ClassParts.{ClassParts}
use Rattle.jm_program.specs.declared.descriptor.FieldType.{FieldType}
use Rattle.jm_values.specs.Reach.{is_among}
use Rattle.jm_values.specs.Shape.{Among}
use Rattle.jm_values.specs.declared.value.Value.{Value}
use Rattle.jm_values.proofs.Reaching.{among_from_test, not_among_from_test}
use Rattle.jm_world.specs.Types.{ObjectType, instance_of, array_of}
use Rattle.jm_world.specs.Objects.{Object, FieldName, size}
use Rattle.jm_world.specs.World.{World, object_at, reach}
use Rattle.jm_machine.specs.Seen.{ObjectView, fields_of_type, with_value}
use Rattle.jm_debug.specs.Texts.{reference_text, object_type_text}
use Rattle.jm_debug.specs.Views.{lines_from, field_lines, element_lines, part_lines, object_text, header_text, object_lines_of, object_lines}
use Rattle.jm_debug.specs.Session.{ended, bytes_of}

-- the descriptor of an array is a [ and that of its elements
pub array_text : (component : FieldType) → object_type_text (array_of component) ≡ codes "[" ++ type_line component
unfolding object_type_text type_line
array_text component = rw add-one refl

no_value : (f : Option FieldName) → None ≡ with_value f None
no_value None = refl
no_value (Some f) = refl

-- a field and a value of one number
pub zipped : (fs : List FieldName) (vs : List Value) (i : ℕ) → slice_get (zip fs vs) i ≡ with_value (slice_get fs i) (slice_get vs i)
zipped [] vs i = refl
zipped (f ∷ fs) [] zero = refl
zipped (f ∷ fs) (v ∷ vs) zero = refl
zipped (f ∷ fs) [] (suc i) = no_value (slice_get fs i)
zipped (f ∷ fs) (v ∷ vs) (suc i) = zipped fs vs i

-- no more pairs than values
pub zip_short : (fs : List FieldName) (vs : List Value) → length (zip fs vs) ≤ length vs
zip_short [] vs = omega arith
zip_short (f ∷ fs) [] = omega arith
zip_short (f ∷ fs) (v ∷ vs) = let rest : length (zip fs vs) ≤ length vs = zip_short fs vs in omega arith

-- the parts of an object whose kind was read
pub parts_of_instance : (program : List ClassParts) (t : ObjectType) (class : List ℕ) (values : List Value) → instance_of class ≡ t
    → part_lines program t values ≡ lines_from field_lines 0 (zip (fields_of_type program t) values)
parts_of_instance program t class values is = rw (← is) refl

pub parts_of_array : (program : List ClassParts) (t : ObjectType) (component : FieldType) (values : List Value) → array_of component ≡ t
    → part_lines program t values ≡ lines_from element_lines 0 values
parts_of_array program t component values is = rw (← is) refl

-- the line above the parts, in three steps
pub header_written : (k : ℕ) (o : Object) (t : ObjectType) (cells : ℕ) (before a b c : List ℕ) → a ≡ before ++ (reference_text k ++ codes " ") → t ≡ o.type → b ≡ a ++ object_type_text t
    → cells ≡ size o → c ≡ b ++ (codes " " ++ decimal cells ++ codes " cells\n") → c ≡ before ++ ended (header_text k o)
unfolding header_text object_text
header_written k o t cells before a b c first type second count third =
    let typed : b ≡ (before ++ (reference_text k ++ codes " ")) ++ object_type_text o.type = rw (first, type) at second in
    let all : c ≡ ((before ++ (reference_text k ++ codes " ")) ++ object_type_text o.type) ++ (codes " " ++ decimal (size o) ++ codes " cells\n") = rw (typed, count) at third in
    all ∙ simp append_assoc

pub object_written : (program : List ClassParts) (k : ℕ) (o : Object) (a text : List ℕ) → a ≡ ended (header_text k o)
    → text ≡ a ++ flat_map ended (part_lines program o.type o.values) → text ≡ bytes_of (object_lines_of program k o)
unfolding object_lines_of
object_written program k o a text header parts = rw header at parts

-- an object that is reachable, and one that is not
reached_on : (w : World) (k : ℕ) (among : Bool) → is_among k (reach w) ≡ among → (Among k (reach w) → ⊥) → object_lines w k ≡ None
unfolding object_lines
reached_on w k true is not = absurd (not (among_from_test k (reach w) is))
reached_on w k false is not = rw is refl

pub not_reached : (w : World) (k : ℕ) → (Among k (reach w) → ⊥) → object_lines w k ≡ None
not_reached w k not = reached_on w k (is_among k (reach w)) refl not

shown_on : (w : World) (k : ℕ) (o : Object) (text : List ℕ) (among : Bool) → is_among k (reach w) ≡ among → Among k (reach w) → object_at w k ≡ Some o
    → text ≡ bytes_of (object_lines_of w.program k o) → option_map bytes_of (object_lines w k) ≡ Some text
unfolding object_lines
shown_on w k o text false is reached there written = absurd (not_among_from_test k (reach w) is reached)
shown_on w k o text true is reached there written = rw (is, there) (ap Some (sym written))

pub object_shown : (w : World) (k : ℕ) (v : ObjectView) (text : List ℕ) → Among k (reach w) → object_at w k ≡ Some v.object → v.program ≡ w.program
    → text ≡ bytes_of (object_lines_of v.program k v.object) → option_map bytes_of (object_lines w k) ≡ Some text
object_shown w k v text reached there program written = shown_on w k v.object text (is_among k (reach w)) refl reached there (rw program at written)
