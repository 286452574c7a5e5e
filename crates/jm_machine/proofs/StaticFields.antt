-- The static fields of a program, their names and the values with which they begin.
use Rattle.std.proofs.Common.{◌≡◌, ℕ, zero, suc, List, [], ◌∷◌, ◌++◌, Some, refl, sym, ap, ◌∙◌, length}
use Rattle.std.specs.Prelude.{map, slice_get}
use Rattle.std.specs.List.{AllByRecursion, flat_map}
use Rattle.std.proofs.lemmas.List.{map-append, length-map}
use Rattle.jm_program.specs.declared.class.ClassParts.{ClassParts}
use Rattle.jm_program.specs.declared.class.Field.{Field}
use Rattle.jm_program.specs.declared.instruction.operation.OperandType.{OperandType}
use Rattle.jm_program.specs.declared.instruction.operation.OperandType.TheVariants as operand
use Rattle.jm_values.specs.Objects.{default_of}
use Rattle.jm_values.specs.Rename.{rename, refs}
use Rattle.jm_values.specs.Shape.{list_shape}
use Rattle.jm_values.specs.declared.value.Value.{Value}
use Rattle.jm_values.specs.declared.value.Value.TheVariants.{Ref}
use Rattle.jm_world.specs.Loading.{first_statics, out_field, statics_of_class}
use Rattle.jm_world.specs.Objects.{FieldName, field_names}
use Rattle.jm_world.specs.Renaming.{static_shape}
use Rattle.jm_world.specs.Types.{default_value, operand_of}
use Rattle.jm_world.specs.World.{Static}
use Rattle.jm_linked.specs.Named.{named_statics}
use Rattle.jm_machine.specs.StaticFields.{static_fields, static_names, static_values}

abbrev begins : FieldName → Static
begins n = record { field = n; value = default_value n.type }

-- of one class
class_names : (ns : List FieldName) → map (λ (s : Static). s.field) (map begins ns) ≡ ns
class_names [] = refl
class_names (n ∷ ns) = ap (λ xs. n ∷ xs) (class_names ns)

class_values : (c : ClassParts) (fs : List Field)
    → map (λ (s : Static). s.value) (map begins (field_names c fs)) ≡ map (λ (f : Field). default_value f.descriptor) fs
class_values c [] = refl
class_values c (f ∷ fs) = ap (λ xs. default_value f.descriptor ∷ xs) (class_values c fs)

-- of all
pub names_are : (program : List ClassParts) → map (λ (s : Static). s.field) (flat_map statics_of_class program) ≡ static_names program
names_are [] = refl
names_are (c ∷ cs) =
    map-append (λ (s : Static). s.field) (statics_of_class c) (flat_map statics_of_class cs)
    ∙ (λ i. class_names (field_names c (static_fields c.fields)) i ++ names_are cs i)

pub values_are : (program : List ClassParts) → map (λ (s : Static). s.value) (flat_map statics_of_class program) ≡ static_values program
values_are [] = refl
values_are (c ∷ cs) =
    map-append (λ (s : Static). s.value) (statics_of_class c) (flat_map statics_of_class cs)
    ∙ (λ i. class_values c (static_fields c.fields) i ++ values_are cs i)

-- what they begin with is no reference
abbrev IsNoReference : Static → Type 0
IsNoReference s = ((f : ℕ → ℕ) → rename f s.value ≡ s.value) × (refs s.value ≡ [])

default_free : (n : FieldName) (o : OperandType) → operand_of n.type ≡ o → IsNoReference (begins n)
default_free n operand.Int e = (λ f. ap (λ x. rename f (default_of x)) e ∙ sym (ap default_of e), ap (λ x. refs (default_of x)) e)
default_free n operand.Long e = (λ f. ap (λ x. rename f (default_of x)) e ∙ sym (ap default_of e), ap (λ x. refs (default_of x)) e)
default_free n operand.Reference e = (λ f. ap (λ x. rename f (default_of x)) e ∙ sym (ap default_of e), ap (λ x. refs (default_of x)) e)

names_free : (ns : List FieldName) → AllByRecursion IsNoReference (map begins ns)
names_free [] = tt
names_free (n ∷ ns) = (default_free n (operand_of n.type) refl, names_free ns)

both_free : (xs ys : List Static) → AllByRecursion IsNoReference xs → AllByRecursion IsNoReference ys → AllByRecursion IsNoReference (xs ++ ys)
both_free [] ys a b = b
both_free (x ∷ xs) ys a b = (a.0, both_free xs ys a.1 b)

statics_free : (program : List ClassParts) → AllByRecursion IsNoReference (flat_map statics_of_class program)
statics_free [] = tt
statics_free (c ∷ cs) = both_free (statics_of_class c) (flat_map statics_of_class cs) (names_free (field_names c (static_fields c.fields))) (statics_free cs)

renamed_same : (f : ℕ → ℕ) (ss : List Static) → AllByRecursion IsNoReference ss
    → (list_shape static_shape).rename f (named_statics ss (map (λ (s : Static). s.value) ss)) ≡ ss
renamed_same f [] h = refl
renamed_same f (s ∷ ss) h =
    (λ i. (let x : Static = record { field = s.field; value = h.0.0 f i } in x) ∷ renamed_same f ss h.1 i)

no_refs : (ss : List Static) → AllByRecursion IsNoReference ss → (list_shape static_shape).refs (named_statics ss (map (λ (s : Static). s.value) ss)) ≡ []
no_refs [] h = refl
no_refs (s ∷ ss) h = (λ i. h.0.1 i ++ no_refs ss h.1 i)

-- the first static fields, with places for numbers
module _ (program : List ClassParts) (out : ℕ) where
  abbrev first : List Value
  first = Ref out ∷ static_values program

  pub first_named : (f : ℕ → ℕ) → f out ≡ 0 → (list_shape static_shape).rename f (named_statics (first_statics program) first) ≡ first_statics program
  first_named f e =
      (λ i. (let x : Static = record { field = out_field; value = Ref (e i) } in x)
      ∷ (list_shape static_shape).rename f (named_statics (flat_map statics_of_class program) (sym (values_are program) i)))
      ∙ ap (λ ss. (let x : Static = record { field = out_field; value = Ref 0 } in x) ∷ ss)
      (renamed_same f (flat_map statics_of_class program) (statics_free program))

  pub first_refs : (list_shape static_shape).refs (named_statics (first_statics program) first) ≡ out ∷ []
  first_refs =
      ap (λ vs. out ∷ (list_shape static_shape).refs (named_statics (flat_map statics_of_class program) vs)) (sym (values_are program))
      ∙ ap (λ ps. out ∷ ps) (no_refs (flat_map statics_of_class program) (statics_free program))

  pub first_length : length first ≡ length (first_statics program)
  first_length = ap (λ vs. suc (length vs)) (sym (values_are program)) ∙ ap suc (length-map (flat_map statics_of_class program) (λ (s : Static). s.value))

-- one that is read, by its number
pub static_read : (f : ℕ → ℕ) (ss : List Static) (vs : List Value) (i : ℕ) (n : FieldName) (v : Value) → slice_get (map (λ (s : Static). s.field) ss) i ≡ Some n
    → slice_get vs i ≡ Some v → slice_get ((list_shape static_shape).rename f (named_statics ss vs)) i ≡ Some (record { field = n; value = rename f v })
static_read f [] vs i n v e g = cc
static_read f (s ∷ ss) [] i n v e g = cc
static_read f (s ∷ ss) (u ∷ vs) zero n v e g =
    let field : s.field ≡ n = cc in
    let value : u ≡ v = cc in
    (λ j. Some (let x : Static = record { field = field j; value = rename f (value j) } in x))
static_read f (s ∷ ss) (u ∷ vs) (suc i) n v e g = static_read f ss vs i n v e g
