-- The texts of names and types are read back as what they are the texts of.
use Rattle.std.proofs.Common.{◌≡◌, ℕ, zero, suc, ◌+◌, Bool, true, false, not, cond, eqb, leb, ltb, List, [], ◌∷◌, ◌++◌, length, Option, Some, None, Ok, ◌<◌, ◌^◌, refl, ap, arith, replicate}
use Rattle.std.proofs.lemmas.Bool.{eqb-true, leb-true}
use Rattle.std.proofs.lemmas.Bool.Decides.{nat_tests}
use Rattle.std.specs.List.{list_all, slice_split, onto_first}
use Rattle.jm_program.specs.Names.{is_name_unit, is_unqualified, is_class_name, is_method_name, is_invoked_name}
use Rattle.jm_program.specs.Descriptors.{field_text, method_text, descriptor_text, argument_slots, is_named_element, is_field_type, is_method_type, is_descriptor, is_kept_element, is_kept_field_type, is_kept_return_type, is_kept_method_type}
use Rattle.jm_program.specs.References.{type_fits, class_ref_fits}
use Rattle.jm_program.specs.Instructions.{can_be_element, has_dimensions, type_op_fits}
use Rattle.jm_program.proofs.WholeDescriptors.{whole_complete}
use Rattle.jm_program.proofs.NameShapes.{descriptor_shape}
use Rattle.jm_program.specs.declared.descriptor.BaseType.TheVariants as base
use Rattle.jm_program.specs.declared.descriptor.ElementType.{ElementType}
use Rattle.jm_program.specs.declared.descriptor.ElementType.TheVariants.{Base, Class}
use Rattle.jm_program.specs.declared.descriptor.FieldType.{FieldType}
use Rattle.jm_program.specs.declared.descriptor.MethodDescriptor.{MethodDescriptor}
use Rattle.jm_program.specs.declared.descriptor.Descriptor.{Descriptor}
use Rattle.jm_program.specs.declared.descriptor.Descriptor.TheVariants as descriptor
use Rattle.jm_program.specs.declared.reference.ClassRef.{ClassRef}
use Rattle.jm_program.specs.declared.reference.ClassRef.TheVariants as class_ref
use Rattle.jm_program.specs.declared.instruction.operation.TypeOp.{TypeOp}
use Rattle.jm_program.specs.declared.instruction.operation.TypeOp.TheVariants as type
use Rattle.jm_program.proofs.Truths.{both_true}
use Rattle.jm_class_format.specs.Symbols.{element_ref, dimensioned_ref, operand_ref, class_name_of, field_name_of, method_name_of, invoked_name_of, descriptor_of, field_only, method_only, left_out_element, left_out_types, left_out_return, left_out_method_type, field_type_of, with_slots, method_type_of, begins_with_bracket, class_ref_of}
use Rattle.jm_class_writer.specs.PoolUse.{class_text}

-- ---- names

pub class_name_read : (units : List ℕ) → is_class_name units ≡ true → class_name_of units ≡ Ok units
unfolding class_name_of
class_name_read units h = rw h refl

pub field_name_read : (units : List ℕ) → is_unqualified units ≡ true → field_name_of units ≡ Ok units
unfolding field_name_of
field_name_read units h = rw h refl

pub method_name_read : (units : List ℕ) → is_method_name units ≡ true → method_name_of units ≡ Ok units
unfolding method_name_of
method_name_read units h = rw h refl

pub invoked_name_read : (units : List ℕ) → is_invoked_name units ≡ true → invoked_name_of units ≡ Ok units
unfolding invoked_name_of
invoked_name_read units h = rw h refl

-- ---- types

descriptor_read : (d : Descriptor) → is_descriptor d ≡ true → descriptor_of (descriptor_text d) ≡ Ok d
unfolding descriptor_of
descriptor_read d h = rw (whole_complete d (descriptor_shape d h)) (rw h refl)

kept_element : (e : ElementType) → is_kept_element e ≡ true → left_out_element e ≡ None
kept_element (Base base.Byte) h = refl
kept_element (Base base.Char) h = refl
kept_element (Base base.Double) h = absurd cc
kept_element (Base base.Float) h = absurd cc
kept_element (Base base.Int) h = refl
kept_element (Base base.Long) h = refl
kept_element (Base base.Short) h = refl
kept_element (Base base.Boolean) h = refl
kept_element (Class name) h = refl

kept_types : (ts : List FieldType) → list_all is_kept_field_type ts ≡ true → left_out_types ts ≡ None
kept_types [] h = refl
kept_types (t ∷ ts) h =
    let parts = both_true (is_kept_field_type t) (list_all is_kept_field_type ts) h in
    rw (kept_element t.element parts.0) (kept_types ts parts.1)

kept_return : (r : Option FieldType) → is_kept_return_type r ≡ true → left_out_return r ≡ None
kept_return None h = refl
kept_return (Some t) h = kept_element t.element h

kept_method : (d : MethodDescriptor) → is_kept_method_type d ≡ true → left_out_method_type d ≡ None
unfolding left_out_method_type
kept_method d h =
    let parts = both_true (list_all is_kept_field_type d.parameters) (is_kept_return_type d.return_type) h in
    rw (kept_types d.parameters parts.0) (kept_return d.return_type parts.1)

pub field_type_read : (t : FieldType) → type_fits t ≡ true → field_type_of (field_text t) ≡ Ok t
unfolding field_type_of field_only
field_type_read t h =
    let parts = both_true (is_field_type t) (is_kept_field_type t) h in
    rw (descriptor_read (descriptor.Field t) parts.0) (rw (kept_element t.element parts.1) refl)

pub method_type_read : (receiver : ℕ) (d : MethodDescriptor) → is_method_type d ≡ true → is_kept_method_type d ≡ true → leb (argument_slots d + receiver) 255 ≡ true
    → method_type_of receiver (method_text d) ≡ Ok d
unfolding method_type_of method_only with_slots
method_type_read receiver d h kept few = rw (descriptor_read (descriptor.Method d) h) (rw few (rw (kept_method d kept) refl))

-- ---- the names of classes begin with no [

no_bracket : (u : ℕ) → is_name_unit u ≡ true → eqb u 91 ≡ false
no_bracket u h = grind (arith, nat_tests)

first_no_bracket : (u : ℕ) (parts : List (List ℕ)) → list_all is_unqualified (onto_first u parts) ≡ true → eqb u 91 ≡ false
first_no_bracket u [] h =
    let part = both_true (is_unqualified (u ∷ [])) true h in
    no_bracket u (both_true (is_name_unit u) true part.0).0
first_no_bracket u (part ∷ parts) h =
    let first = both_true (is_unqualified (u ∷ part)) (list_all is_unqualified parts) h in
    let units = both_true (not (eqb (length (u ∷ part)) 0)) (list_all is_name_unit (u ∷ part)) first.0 in
    no_bracket u (both_true (is_name_unit u) (list_all is_name_unit part) units.1).0

class_no_bracket_on : (u : ℕ) (parts : List (List ℕ)) (b : Bool) → eqb u 47 ≡ b → list_all is_unqualified (cond b ([] ∷ parts) (onto_first u parts)) ≡ true → eqb u 91 ≡ false
class_no_bracket_on u parts true is h = ap (λ (v : ℕ). eqb v 91) (eqb-true u 47 is)
class_no_bracket_on u parts false is h = first_no_bracket u parts h

class_no_bracket : (units : List ℕ) → is_class_name units ≡ true → begins_with_bracket units ≡ false
class_no_bracket [] h = refl
class_no_bracket (u ∷ units) h = class_no_bracket_on u (slice_split (λ v. eqb v 47) units) (eqb u 47) refl h

array_bracket : (n : ℕ) (back : List ℕ) → ltb 0 n ≡ true → begins_with_bracket (replicate n 91 ++ back) ≡ true
array_bracket zero back h = absurd cc
array_bracket (suc n) back h = refl

-- ---- references

pub class_ref_read : (c : ClassRef) → class_ref_fits c ≡ true → class_ref_of (class_text c) ≡ Ok c
unfolding class_ref_of
class_ref_read (class_ref.Class name) h = rw (class_no_bracket name h) (rw (class_name_read name h) refl)
class_ref_read (class_ref.Array t) h =
    let parts = both_true (ltb 0 t.dimensions) (type_fits t) h in
    rw (array_bracket t.dimensions _ parts.0) (rw (field_type_read t parts.1) refl)

pub class_of_type : (op : TypeOp) (c : ClassRef) → type_op_fits op c ≡ true → class_ref_fits c ≡ true
class_of_type type.NewArray c h = (both_true (class_ref_fits c) (can_be_element c) h).0
class_of_type (type.NewArrays d) c h = (both_true (class_ref_fits c) (has_dimensions c d) h).0
class_of_type type.CheckCast c h = h
class_of_type type.InstanceOf c h = h

pub operand_ref_read : (op : TypeOp) (c : ClassRef) → type_op_fits op c ≡ true → operand_ref op c ≡ Ok c
unfolding element_ref dimensioned_ref
operand_ref_read type.NewArray (class_ref.Class name) h = refl
operand_ref_read type.NewArray (class_ref.Array t) h = rw ((both_true (class_ref_fits (class_ref.Array t)) (ltb t.dimensions 255) h).1) refl
operand_ref_read (type.NewArrays d) c h = rw ((both_true (class_ref_fits c) (has_dimensions c d) h).1) refl
operand_ref_read type.CheckCast c h = refl
operand_ref_read type.InstanceOf c h = refl

-- no type has more dimensions than go into a byte
pub few_dimensions : (c : ClassRef) (d : ℕ) → class_ref_fits c ≡ true → has_dimensions c d ≡ true → d < 2 ^ 8
few_dimensions (class_ref.Class name) d fits h = absurd cc
few_dimensions (class_ref.Array t) d fits h =
    let kept = both_true (ltb 0 t.dimensions) (type_fits t) fits in
    let shaped = both_true (is_field_type t) (is_kept_field_type t) kept.1 in
    let most = both_true (leb t.dimensions 255) (is_named_element t.element) shaped.0 in
    let some = both_true (ltb 0 d) (leb d t.dimensions) h in
    omega (arith, leb-true t.dimensions 255 most.0, leb-true d t.dimensions some.1)
