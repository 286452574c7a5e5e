-- The line of an instruction is laid out, and it is that of the instruction.
use Rattle.std.proofs.Common.{◌≡◌, ℕ, zero, suc, ◌+◌, ◌-◌, ◌<◌, ◌≤◌, ◌^◌, Bool, true, not, ◌&&◌, List, [], ◌∷◌, ◌++◌, length, Some, Ok, refl, replicate, codes}
use Rattle.std.proofs.Common.{ap, sym, ◌∙◌, arith, subst, append_assoc, nat_lt, nat_le, position}
use Rattle.std.specs.Prelude.{ℤ, pos, negsuc, int_le, FitsSigned, min}
use Rattle.std.specs.Int.{w8, w16, w32, w64}
use Rattle.std.specs.List.{list_all, flat_map}
use Rattle.std.specs.Fmt.{decimal, signed_decimal}
use Rattle.std.proofs.lemmas.Int.{ints}
use Rattle.std.proofs.lemmas.List.{append-nil}
use Rattle.std.proofs.lemmas.List.Folds.{list_all-append}
use Rattle.std.proofs.lemmas.Bool.Decides.{nat_tests}
use Rattle.std.proofs.Math.Seq.{take-append_seam, drop-append_seam}
use Rattle.std.proofs.lemmas.Bool.{and_from}
use Rattle.jm_program.specs.Names.{is_class_name, is_unqualified, is_invoked_name, is_method_name, is_clinit}
use Rattle.jm_program.specs.Descriptors.{argument_slots, element_text, field_text, return_text, method_text, is_method_type, is_kept_method_type}
use Rattle.jm_program.specs.Instructions.{instr_fits, has_dimensions, type_op_fits}
use Rattle.jm_program.specs.References.{type_fits, class_ref_fits, field_ref_fits, receiver_slots, method_ref_fits}
use Rattle.jm_program.specs.Texts.{utf16_of}
use Rattle.jm_program.specs.JasminUnits.{name_text, string_text}
use Rattle.jm_program.specs.JasminTypes.{type_line, method_line, class_line, field_ref_line, method_ref_line}
use Rattle.jm_program.specs.JasminInstructions.{simple_line, dimensions_line}
use Rattle.jm_program.specs.Mnemonics.{operand_letter, branch_mnemonic, array_line, primitive_name, return_mnemonic, monitor_mnemonic, field_mnemonic, invoke_mnemonic, type_mnemonic}
use Rattle.jm_program.specs.declared.constant.Constant.{Constant}
use Rattle.jm_program.specs.declared.constant.Constant.TheVariants as constant
use Rattle.jm_program.specs.declared.descriptor.ElementType.{ElementType}
use Rattle.jm_program.specs.declared.descriptor.ElementType.TheVariants.{Base, Class}
use Rattle.jm_program.specs.declared.descriptor.BaseType.{BaseType}
use Rattle.jm_program.specs.declared.descriptor.BaseType.TheVariants as base
use Rattle.jm_program.specs.declared.descriptor.MethodDescriptor.{MethodDescriptor}
use Rattle.jm_program.specs.declared.reference.ClassRef.{ClassRef}
use Rattle.jm_program.specs.declared.reference.ClassRef.TheVariants as class_ref
use Rattle.jm_program.specs.declared.reference.FieldRef.{FieldRef}
use Rattle.jm_program.specs.declared.reference.MethodRef.{MethodRef}
use Rattle.jm_program.specs.declared.instruction.operation.Branch.{Branch}
use Rattle.jm_program.specs.declared.instruction.operation.Branch.TheVariants as branch_op
use Rattle.jm_program.specs.declared.instruction.operation.PrimitiveType.{PrimitiveType}
use Rattle.jm_program.specs.declared.instruction.operation.PrimitiveType.TheVariants as primitive
use Rattle.jm_program.specs.declared.instruction.operation.ArrayOp.{ArrayOp}
use Rattle.jm_program.specs.declared.instruction.operation.ArrayOp.TheVariants as array
use Rattle.jm_program.specs.declared.instruction.operation.FieldOp.{FieldOp}
use Rattle.jm_program.specs.declared.instruction.operation.TypeOp.{TypeOp}
use Rattle.jm_program.specs.declared.instruction.operation.TypeOp.TheVariants as type_op
use Rattle.jm_program.specs.declared.instruction.operation.InvokeOp.{InvokeOp}
use Rattle.jm_program.specs.declared.instruction.operation.InvokeOp.TheVariants as invoke
use Rattle.jm_program.specs.declared.instruction.plain.Plain.{Plain}
use Rattle.jm_program.specs.declared.instruction.plain.Plain.TheVariants as plain
use Rattle.jm_program.specs.declared.instruction.symbolic.Instr.{Instr}
use Rattle.jm_program.specs.declared.instruction.symbolic.Instr.TheVariants as instr
use Rattle.jm_program.proofs.Truths.{both_true}
use Rattle.jm_class_format.specs.Symbols.{class_name_of, class_ref_of, field_type_of, method_ref_of}
use Rattle.jm_class_format.specs.declared.opcode.Opcode.{Opcode}
use Rattle.jm_class_format.specs.declared.opcode.Opcode.TheVariants as opcode
use Rattle.jm_class_writer.specs.PoolUse.{class_text}
use Rattle.jm_class_writer.specs.Ranges.{UnitsInRange, InstrInRange, ConstantInRange, FieldRefInRange, MethodRefInRange, ClassRefInRange}
use Rattle.jm_class_writer.proofs.Symbols.{class_name_read, field_name_read, invoked_name_read, field_type_read, method_type_read, class_ref_read, class_of_type, operand_ref_read, few_dimensions}
use Rattle.jm_jasmin_ops.specs.Operands.{member, field_of, method_at, is_parenthesis}
use Rattle.jm_jasmin_ops.specs.declared.labelled.LabelledInstr.TheVariants as labelled
use Rattle.jm_jasmin.specs.WordForms.{Line, bare, quoted}
use Rattle.jm_jasmin.specs.InstructionForms.{IsBetween, IsUpTo, Element, Operands, InstructionLine, label_of}
use Rattle.jm_jasmin.specs.InstructionForms.Element.{boolean, char, byte, short, int, long}
use Rattle.jm_jasmin.specs.InstructionForms.Operands.{on_array, load_int, load_string, load_long}
use Rattle.jm_jasmin.specs.InstructionForms.Operands.{field, invoke_method, invoke_interface, new, new_array, type, new_arrays}
use Rattle.jm_jasmin.specs.InstructionForms.InstructionLine.{named, branch, branch_wide}
use Rattle.jm_disassembler.specs.Labels.{label_name}
use Rattle.jm_disassembler.specs.Instructions.{front, plain_text, array_text, constant_text, count_text, instr_text}
use Rattle.jm_disassembler.specs.Names.{is_plain, is_plain_type, is_plain_method_type, is_sayable, is_sayable_class, begins_with_quote}
use Rattle.jm_disassembler.specs.Said.{is_no_parenthesis, no_parenthesis, element_no_parenthesis, class_no_parenthesis, field_ref_said, method_ref_said, instr_said}
use Rattle.jm_disassembler.proofs.Laid.{is_word_byte, begins_word, is_word, apart, Laid}
use Rattle.jm_disassembler.proofs.Laid.Laid.{blank, word, string}
use Rattle.jm_disassembler.proofs.Spelled.{Spelled, then_spelled, name_spelled}
use Rattle.jm_disassembler.proofs.Types.{byte_spelled, type_spelled, method_type_spelled, class_spelled}
use Rattle.jm_disassembler.proofs.Numbers.{IsLong, decimal_is, word_of_digits, natural_read, signed_read, signed_word, signed_not_real, signed_not_named}
use Rattle.jm_disassembler.proofs.LabelWords.{name_word, is_label_name}
use Rattle.jm_disassembler.proofs.Strings.{string_inside, string_value}
use Rattle.jm_disassembler.proofs.Mnemonics.{Names, simple_names, load_names, store_names, field_names, type_names, return_names, monitor_names, invoke_names, branch_names, array_names, push_byte_names, push_short_names, constant_names, long_names, increment_names, new_names, throw_names, table_names, lookup_names, primitive_word}
use Rattle.jm_disassembler.proofs.Words.{class_name_word, type_is_word, class_begins, class_is_word, unqualified_no_slash, method_no_slash, found_at, member_is}

-- ---- numbers

pub short_is : (n : ℕ) → n < 2 ^ 16 → IsUpTo 65535 (decimal n) n
short_is n lt = record { value = natural_read n (omega arith); fits = grind (arith, nat_tests) }

pub decimal_word : (n : ℕ) → n < 2 ^ 64 → is_word (decimal n) ≡ true
decimal_word n lt = word_of_digits (decimal n) (decimal_is n lt)

long_8 : (z : ℤ) → FitsSigned w8 z → IsLong z
long_8 (pos n) h = grind (arith, ints)
long_8 (negsuc n) h = grind (arith, ints)

long_16 : (z : ℤ) → FitsSigned w16 z → IsLong z
long_16 (pos n) h = grind (arith, ints)
long_16 (negsuc n) h = grind (arith, ints)

pub long_32 : (z : ℤ) → FitsSigned w32 z → IsLong z
long_32 (pos n) h = grind (arith, ints)
long_32 (negsuc n) h = grind (arith, ints)

pub long_64 : (z : ℤ) → FitsSigned w64 z → IsLong z
long_64 (pos n) h = grind (arith, ints)
long_64 (negsuc n) h = grind (arith, ints)

pub byte_is : (z : ℤ) → FitsSigned w8 z → IsBetween (negsuc 127) (pos 127) (signed_decimal z) z
byte_is z h = record { value = signed_read z (long_8 z h); fits = and_from (int_le (negsuc 127) z) (int_le z (pos 127)) (grind (arith, ints)) (grind (arith, ints)) }

pub signed_short_is : (z : ℤ) → FitsSigned w16 z → IsBetween (negsuc 32767) (pos 32767) (signed_decimal z) z
signed_short_is z h =
    record { value = signed_read z (long_16 z h); fits = and_from (int_le (negsuc 32767) z) (int_le z (pos 32767)) (grind (arith, ints)) (grind (arith, ints)) }

pub int_is : (z : ℤ) → FitsSigned w32 z → IsBetween (negsuc 2147483647) (pos 2147483647) (signed_decimal z) z
int_is z h =
    record {
      value = signed_read z (long_32 z h);
      fits = and_from (int_le (negsuc 2147483647) z) (int_le z (pos 2147483647)) (grind (arith, ints)) (grind (arith, ints));
    }

-- ---- words of the line

abbrev pub plain_words : Plain → Line
plain_words (plain.Simple op) = bare (simple_line op) ∷ []
plain_words (plain.PushByte n) = bare (codes "bipush") ∷ bare (signed_decimal n) ∷ []
plain_words (plain.PushShort n) = bare (codes "sipush") ∷ bare (signed_decimal n) ∷ []
plain_words (plain.Load t n) = bare (operand_letter t ++ codes "load") ∷ bare (decimal n) ∷ []
plain_words (plain.Store t n) = bare (operand_letter t ++ codes "store") ∷ bare (decimal n) ∷ []
plain_words (plain.Increment n by) = bare (codes "iinc") ∷ bare (decimal n) ∷ bare (signed_decimal by) ∷ []
plain_words (plain.Branch op target) = bare (branch_mnemonic op) ∷ bare (label_name target) ∷ []
plain_words (plain.TableSwitch t) = bare (codes "tableswitch") ∷ bare (signed_decimal t.low) ∷ []
plain_words (plain.LookupSwitch l) = bare (codes "lookupswitch") ∷ []

abbrev pub array_words : ArrayOp → Line
array_words (array.New t) = bare (codes "newarray") ∷ bare (primitive_name t) ∷ []
array_words op = bare (array_line op) ∷ []

abbrev pub constant_words : Constant → Line
constant_words (constant.Int n) = bare (codes "ldc") ∷ bare (signed_decimal n) ∷ []
constant_words (constant.Long n) = bare (codes "ldc2_w") ∷ bare (signed_decimal n) ∷ []
constant_words (constant.String units) = bare (codes "ldc") ∷ quoted (34 ∷ (string_text units ++ 34 ∷ [])) ∷ []

-- CLASS/NAME
abbrev pub field_word : FieldRef → List ℕ
field_word f = class_line f.class ++ 47 ∷ name_text f.name

-- CLASS/NAME(TYPES)TYPE
abbrev pub method_word : MethodRef → List ℕ
method_word m = class_line m.class ++ 47 ∷ (name_text m.name ++ method_line m.descriptor)

abbrev pub count_words : InvokeOp → MethodRef → Line
count_words invoke.Interface m = bare (decimal (argument_slots m.descriptor + 1)) ∷ []
count_words _ m = []

abbrev pub dimension_words : TypeOp → Line
dimension_words (type_op.NewArrays d) = bare (decimal d) ∷ []
dimension_words _ = []

abbrev pub instr_words : Instr → Line
instr_words (instr.Plain p) = plain_words p
instr_words (instr.Array op) = array_words op
instr_words (instr.Return op) = bare (return_mnemonic op) ∷ []
instr_words instr.Throw = bare (codes "athrow") ∷ []
instr_words (instr.Monitor op) = bare (monitor_mnemonic op) ∷ []
instr_words (instr.Constant c) = constant_words c
instr_words (instr.Field op f) = bare (field_mnemonic op) ∷ bare (field_word f) ∷ bare (type_line f.descriptor) ∷ []
instr_words (instr.Invoke op m) = bare (invoke_mnemonic op) ∷ bare (method_word m) ∷ count_words op m
instr_words (instr.New name) = bare (codes "new") ∷ bare (name_text name) ∷ []
instr_words (instr.Type op class) = bare (type_mnemonic op) ∷ bare (class_line class) ∷ dimension_words op

-- ---- references

pub field_spelled : (f : FieldRef) → field_ref_said f ≡ true → FieldRefInRange f → Spelled (field_word f) (class_text f.class ++ 47 ∷ f.name)
field_spelled f h all =
    let p = both_true (is_sayable_class f.class && is_plain f.name) (is_plain_type f.descriptor) h in
    let q = both_true (is_sayable_class f.class) (is_plain f.name) p.0 in
    then_spelled (class_line f.class) (47 ∷ name_text f.name) (class_text f.class) (47 ∷ f.name) (class_spelled f.class q.0 all.0)
    (then_spelled (47 ∷ []) (name_text f.name) (47 ∷ []) f.name (byte_spelled 47 refl) (name_spelled f.name q.1 all.1))

field_is_word : (f : FieldRef) → field_ref_fits f ≡ true → field_ref_said f ≡ true → FieldRefInRange f → is_word (field_word f) ≡ true
field_is_word f fits h all =
    let p = both_true (is_sayable_class f.class && is_plain f.name) (is_plain_type f.descriptor) h in
    let q = both_true (is_sayable_class f.class) (is_plain f.name) p.0 in
    let k = both_true (class_ref_fits f.class && is_unqualified f.name) (type_fits f.descriptor) fits in
    let l = both_true (class_ref_fits f.class) (is_unqualified f.name) k.0 in
    and_from (begins_word (field_word f)) (list_all is_word_byte (field_word f)) (class_begins f.class (47 ∷ name_text f.name) l.0 q.0) (field_spelled f h all).bytes

field_form : (op : _) (f : FieldRef) → field_ref_fits f ≡ true → field_ref_said f ≡ true → FieldRefInRange f
    → Operands (opcode.Field op) (bare (field_word f) ∷ bare (type_line f.descriptor) ∷ []) (instr.Field op f)
field_form op f fits h all =
    let p = both_true (is_sayable_class f.class && is_plain f.name) (is_plain_type f.descriptor) h in
    let k = both_true (class_ref_fits f.class && is_unqualified f.name) (type_fits f.descriptor) fits in
    let l = both_true (class_ref_fits f.class) (is_unqualified f.name) k.0 in
    let names : List ℕ × List ℕ = (class_text f.class, f.name) in
    let units = (field_spelled f h all).units_are in
    let parted : member 0 (utf16_of (field_word f)) ≡ Ok names = ap (member 0) units ∙ member_is (class_text f.class) f.name (unqualified_no_slash f.name l.1) in
    let named_so : field_of names ≡ Ok (f.class, f.name) = rw (class_ref_read f.class l.0, field_name_read f.name l.1) refl in
    let types : field_type_of (utf16_of (type_line f.descriptor)) ≡ Ok f.descriptor =
    ap field_type_of (type_spelled f.descriptor p.1 all.2).units_are ∙ field_type_read f.descriptor k.1 in
    field op (field_word f) (type_line f.descriptor) names (f.class, f.name) f.descriptor parted named_so types

pub field_line_form : (op : FieldOp) (f : FieldRef) → field_ref_fits f ≡ true → field_ref_said f ≡ true → FieldRefInRange f
    → InstructionLine (bare (field_mnemonic op) ∷ bare (field_word f) ∷ bare (type_line f.descriptor) ∷ []) (labelled.Named (instr.Field op f))
field_line_form op f fits h all =
    named (field_mnemonic op) (opcode.Field op) (bare (field_word f) ∷ bare (type_line f.descriptor) ∷ []) (instr.Field op f) (field_names op).named
    (field_form op f fits h all)

-- the types of a method behind the (
abbrev types_behind : MethodDescriptor → List ℕ
types_behind d = flat_map field_text d.parameters ++ 41 ∷ return_text d.return_type

said_parts : (m : MethodRef) → method_ref_said m ≡ true
    → (is_sayable_class m.class ≡ true) × (class_no_parenthesis m.class ≡ true) × (is_plain m.name ≡ true) × (no_parenthesis m.name ≡ true)
    × (is_plain_method_type m.descriptor ≡ true)
said_parts m h =
    let a = both_true (is_sayable_class m.class && class_no_parenthesis m.class && is_plain m.name && no_parenthesis m.name) (is_plain_method_type m.descriptor) h in
    let b = both_true (is_sayable_class m.class && class_no_parenthesis m.class && is_plain m.name) (no_parenthesis m.name) a.0 in
    let c = both_true (is_sayable_class m.class && class_no_parenthesis m.class) (is_plain m.name) b.0 in
    let d = both_true (is_sayable_class m.class) (class_no_parenthesis m.class) c.0 in
    (d.0, d.1, c.1, b.1, a.1)

fits_parts : (op : InvokeOp) (m : MethodRef) → method_ref_fits op m ≡ true
    → (class_ref_fits m.class ≡ true) × (is_invoked_name m.name ≡ true) × (is_method_type m.descriptor ≡ true) × (is_kept_method_type m.descriptor ≡ true)
    × (nat_le (argument_slots m.descriptor + receiver_slots op) 255 ≡ true)
fits_parts op m h =
    let few : Bool = nat_le (argument_slots m.descriptor + receiver_slots op) 255 in
    let a = both_true (class_ref_fits m.class && is_invoked_name m.name && is_method_type m.descriptor && is_kept_method_type m.descriptor) few h in
    let b = both_true (class_ref_fits m.class && is_invoked_name m.name && is_method_type m.descriptor) (is_kept_method_type m.descriptor) a.0 in
    let c = both_true (class_ref_fits m.class && is_invoked_name m.name) (is_method_type m.descriptor) b.0 in
    let d = both_true (class_ref_fits m.class) (is_invoked_name m.name) c.0 in
    (d.0, d.1, c.1, b.1, a.1)

method_spelled : (m : MethodRef) → method_ref_said m ≡ true → MethodRefInRange m
    → Spelled (method_word m) ((class_text m.class ++ 47 ∷ m.name) ++ 40 ∷ types_behind m.descriptor)
method_spelled m h all =
    let p = said_parts m h in
    let back = then_spelled (name_text m.name) (method_line m.descriptor) m.name (method_text m.descriptor) (name_spelled m.name p.2 all.1)
    (method_type_spelled m.descriptor p.4 all.2) in
    let whole = then_spelled (class_line m.class) (47 ∷ (name_text m.name ++ method_line m.descriptor)) (class_text m.class) (47 ∷ (m.name ++ method_text m.descriptor))
    (class_spelled m.class p.0 all.0)
    (then_spelled (47 ∷ []) (name_text m.name ++ method_line m.descriptor) (47 ∷ []) (m.name ++ method_text m.descriptor) (byte_spelled 47 refl) back) in
    subst (λ (us : List ℕ). Spelled (method_word m) us) (sym (append_assoc (class_text m.class) (47 ∷ m.name) (method_text m.descriptor))) whole

method_is_word : (op : InvokeOp) (m : MethodRef) → method_ref_fits op m ≡ true → method_ref_said m ≡ true → MethodRefInRange m → is_word (method_word m) ≡ true
method_is_word op m fits h all =
    let p = said_parts m h in
    let k = fits_parts op m fits in
    and_from (begins_word (method_word m)) (list_all is_word_byte (method_word m))
    (class_begins m.class (47 ∷ (name_text m.name ++ method_line m.descriptor)) k.0 p.0) (method_spelled m h all).bytes

letter_no_parenthesis : (b : BaseType) → no_parenthesis (element_text (Base b)) ≡ true
letter_no_parenthesis base.Byte = refl
letter_no_parenthesis base.Char = refl
letter_no_parenthesis base.Double = refl
letter_no_parenthesis base.Float = refl
letter_no_parenthesis base.Int = refl
letter_no_parenthesis base.Long = refl
letter_no_parenthesis base.Short = refl
letter_no_parenthesis base.Boolean = refl

both_no : (a b : List ℕ) → no_parenthesis a ≡ true → no_parenthesis b ≡ true → no_parenthesis (a ++ b) ≡ true
both_no a b p q = rw (list_all-append is_no_parenthesis a b, p, q) refl

element_none : (e : ElementType) → element_no_parenthesis e ≡ true → no_parenthesis (element_text e) ≡ true
element_none (Base b) h = letter_no_parenthesis b
element_none (Class name) h = both_no (76 ∷ name) (59 ∷ []) h refl

brackets_none : (n : ℕ) → no_parenthesis (replicate n 91) ≡ true
brackets_none zero = refl
brackets_none (suc n) = brackets_none n

class_none : (c : ClassRef) → class_no_parenthesis c ≡ true → no_parenthesis (class_text c) ≡ true
class_none (class_ref.Class name) h = h
class_none (class_ref.Array t) h = both_no (replicate t.dimensions 91) (element_text t.element) (brackets_none t.dimensions) (element_none t.element h)

method_read : (op : InvokeOp) (m : MethodRef) → method_ref_fits op m ≡ true
    → method_ref_of op (class_text m.class, m.name, 40 ∷ types_behind m.descriptor) ≡ Ok m
unfolding method_ref_of
method_read op m h =
    let k = fits_parts op m h in
    rw (class_ref_read m.class k.0, invoked_name_read m.name k.1, method_type_read (receiver_slots op) m.descriptor k.2 k.3 k.4) refl

method_found : (op : InvokeOp) (m : MethodRef) → method_ref_fits op m ≡ true → method_ref_said m ≡ true → MethodRefInRange m
    → method_at 0 op (utf16_of (method_word m)) (position is_parenthesis (utf16_of (method_word m))) ≡ Ok m
method_found op m fits h all =
    let p = said_parts m h in
    let k = fits_parts op m fits in
    let name_ok = (both_true (is_method_name m.name) (not (is_clinit m.name)) k.1).0 in
    let first : List ℕ = class_text m.class ++ 47 ∷ m.name in
    let us : List ℕ = first ++ 40 ∷ types_behind m.descriptor in
    let none : no_parenthesis first ≡ true = both_no (class_text m.class) (47 ∷ m.name) (class_none m.class p.1) p.3 in
    let at : position is_parenthesis us ≡ Some (length first) = found_at is_parenthesis first 40 (types_behind m.descriptor) none refl in
    let parted = member_is (class_text m.class) m.name (method_no_slash m.name name_ok) in
    let here : method_at 0 op us (position is_parenthesis us) ≡ Ok m =
    rw (at, take-append_seam first (40 ∷ types_behind m.descriptor), drop-append_seam first (40 ∷ types_behind m.descriptor), parted, method_read op m fits) refl in
    rw (method_spelled m h all).units_are here

-- ---- forms

element_form : (t : PrimitiveType) → Element (primitive_name t) t
unfolding primitive_name
element_form primitive.Boolean = boolean
element_form primitive.Char = char
element_form primitive.Byte = byte
element_form primitive.Short = short
element_form primitive.Int = int
element_form primitive.Long = long

pub array_form : (op : ArrayOp) → InstructionLine (array_words op) (labelled.Named (instr.Array op))
array_form (array.New t) = named (codes "newarray") opcode.NewArray (bare (primitive_name t) ∷ []) _ (array_names (array.New t)).named (new_array (primitive_name t) t (element_form t))
array_form (array.Load k) = named (array_line (array.Load k)) (opcode.Array (array.Load k)) [] _ (array_names (array.Load k)).named (on_array (array.Load k))
array_form (array.Store k) = named (array_line (array.Store k)) (opcode.Array (array.Store k)) [] _ (array_names (array.Store k)).named (on_array (array.Store k))
array_form array.Length = named (array_line array.Length) (opcode.Array array.Length) [] _ (array_names array.Length).named (on_array array.Length)

pub constant_form : (c : Constant) → ConstantInRange c → InstructionLine (constant_words c) (labelled.Named (instr.Constant c))
constant_form (constant.Int n) h =
    named (codes "ldc") opcode.LoadConstant (bare (signed_decimal n) ∷ []) _ constant_names.named
    (load_int (signed_decimal n) n (int_is n h) (signed_not_real n (long_32 n h)) (signed_not_named n (long_32 n h)))
constant_form (constant.Long n) h =
    named (codes "ldc2_w") opcode.LoadLong (bare (signed_decimal n) ∷ []) _ long_names.named
    (load_long (signed_decimal n) n (signed_read n (long_64 n h)) (signed_not_real n (long_64 n h)))
constant_form (constant.String units) h =
    let text : List ℕ = 34 ∷ (string_text units ++ 34 ∷ []) in
    let P : List ℕ → Type 0 = λ us. InstructionLine (bare (codes "ldc") ∷ quoted text ∷ []) (labelled.Named (instr.Constant (constant.String us))) in
    subst P (string_value units h) (named (codes "ldc") opcode.LoadConstant (quoted text ∷ []) _ constant_names.named (load_string text))

-- what a branch says
pub branch_form : (op : Branch) (target : ℕ) → target < 2 ^ 64
    → InstructionLine (bare (branch_mnemonic op) ∷ bare (label_name target) ∷ []) (labelled.Branch op (label_of (label_name target)))
branch_form (branch_op.If c) target lt = branch _ (label_name target) (branch_op.If c) (branch_names (branch_op.If c)).named (is_label_name target lt)
branch_form (branch_op.IfInts c) target lt = branch _ (label_name target) (branch_op.IfInts c) (branch_names (branch_op.IfInts c)).named (is_label_name target lt)
branch_form (branch_op.IfReferences e) target lt =
    branch _ (label_name target) (branch_op.IfReferences e) (branch_names (branch_op.IfReferences e)).named (is_label_name target lt)
branch_form (branch_op.IfNull e) target lt = branch _ (label_name target) (branch_op.IfNull e) (branch_names (branch_op.IfNull e)).named (is_label_name target lt)
branch_form branch_op.Goto target lt = branch _ (label_name target) branch_op.Goto (branch_names branch_op.Goto).named (is_label_name target lt)
branch_form branch_op.GotoW target lt = branch_wide _ (label_name target) branch_op.GotoW (branch_names branch_op.GotoW).named (is_label_name target lt)

pub invoke_form : (op : InvokeOp) (m : MethodRef) → method_ref_fits op m ≡ true → method_ref_said m ≡ true → MethodRefInRange m
    → InstructionLine (bare (invoke_mnemonic op) ∷ bare (method_word m) ∷ count_words op m) (labelled.Named (instr.Invoke op m))
invoke_form invoke.Virtual m fits h all =
    named _ (opcode.Invoke invoke.Virtual) (bare (method_word m) ∷ []) _ (invoke_names invoke.Virtual).named (invoke_method invoke.Virtual (method_word m) m (method_found invoke.Virtual m fits h all))
invoke_form invoke.Special m fits h all =
    named _ (opcode.Invoke invoke.Special) (bare (method_word m) ∷ []) _ (invoke_names invoke.Special).named (invoke_method invoke.Special (method_word m) m (method_found invoke.Special m fits h all))
invoke_form invoke.Static m fits h all =
    named _ (opcode.Invoke invoke.Static) (bare (method_word m) ∷ []) _ (invoke_names invoke.Static).named (invoke_method invoke.Static (method_word m) m (method_found invoke.Static m fits h all))
invoke_form invoke.Interface m fits h all =
    let few : nat_le (argument_slots m.descriptor + 1) 255 ≡ true = (fits_parts invoke.Interface m fits).4 in
    let le : argument_slots m.descriptor + 1 ≤ 255 = grind (arith, nat_tests) in
    let count : IsUpTo 255 (decimal (argument_slots m.descriptor + 1)) (argument_slots m.descriptor + 1) =
    record { value = natural_read (argument_slots m.descriptor + 1) (omega arith); fits = few } in
    named _ opcode.InvokeInterface (bare (method_word m) ∷ bare (decimal (argument_slots m.descriptor + 1)) ∷ []) _ (invoke_names invoke.Interface).named
    (invoke_interface (method_word m) (decimal (argument_slots m.descriptor + 1)) m (method_found invoke.Interface m fits h all) count)

class_read : (op : TypeOp) (c : ClassRef) → type_op_fits op c ≡ true → is_sayable_class c ≡ true → ClassRefInRange c → class_ref_of (utf16_of (class_line c)) ≡ Ok c
class_read op c fits h all = ap class_ref_of (class_spelled c h all).units_are ∙ class_ref_read c (class_of_type op c fits)

-- the dimensions, which are not many
dimension_count : (c : ClassRef) (d : ℕ) → type_op_fits (type_op.NewArrays d) c ≡ true → (has_dimensions c d ≡ true) × (d < 2 ^ 8)
dimension_count c d fits =
    let p = both_true (class_ref_fits c) (has_dimensions c d) fits in
    (p.1, few_dimensions c d p.0 p.1)

pub type_form : (op : TypeOp) (c : ClassRef) → type_op_fits op c ≡ true → is_sayable_class c ≡ true → ClassRefInRange c
    → InstructionLine (bare (type_mnemonic op) ∷ bare (class_line c) ∷ dimension_words op) (labelled.Named (instr.Type op c))
type_form type_op.NewArray c fits h all =
    let op = type_op.NewArray in named _ (opcode.Type op) (bare (class_line c) ∷ []) _ (type_names op).named (type op (class_line c) c c (class_read op c fits h all) (operand_ref_read op c fits))
type_form (type_op.NewArrays d) c fits h all =
    let p = dimension_count c d fits in
    let few : d < 2 ^ 8 = p.1 in
    named _ opcode.NewArrays (bare (class_line c) ∷ bare (decimal d) ∷ []) _ (type_names (type_op.NewArrays d)).named
    (new_arrays (class_line c) (decimal d) d c (class_read (type_op.NewArrays d) c fits h all) p.0 (natural_read d (omega arith)))
type_form type_op.CheckCast c fits h all =
    let op = type_op.CheckCast in named _ (opcode.Type op) (bare (class_line c) ∷ []) _ (type_names op).named (type op (class_line c) c c (class_read op c fits h all) (operand_ref_read op c fits))
type_form type_op.InstanceOf c fits h all =
    let op = type_op.InstanceOf in named _ (opcode.Type op) (bare (class_line c) ∷ []) _ (type_names op).named (type op (class_line c) c c (class_read op c fits h all) (operand_ref_read op c fits))

pub new_form : (name : List ℕ) → is_class_name name ≡ true → is_sayable name ≡ true → UnitsInRange name
    → InstructionLine (bare (codes "new") ∷ bare (name_text name) ∷ []) (labelled.Named (instr.New name))
new_form name fits h all =
    let plain = (both_true (not (begins_with_quote name)) (is_plain name) h).1 in
    let read : class_name_of (utf16_of (name_text name)) ≡ Ok name = ap class_name_of (name_spelled name plain all).units_are ∙ class_name_read name fits in
    named _ opcode.New (bare (name_text name) ∷ []) _ new_names.named (new (name_text name) name read)

-- ---- layout

gap_laid : (k : ℕ) (rest : List ℕ) (ws : Line) → Laid rest ws → Laid (replicate k 32 ++ rest) ws
gap_laid zero rest ws h = h
gap_laid (suc k) rest ws h = blank (gap_laid k rest ws h)

some_gap : (k : ℕ) (rest : List ℕ) → 0 < k → apart (replicate k 32 ++ rest) ≡ true
some_gap zero rest lt = absurd (omega arith)
some_gap (suc k) rest lt = refl

pub front_laid : (m rest : List ℕ) (ws : Line) → is_word m ≡ true → nat_lt (length m) 16 ≡ true → Laid rest ws → Laid (front m ++ rest) (bare m ∷ ws)
front_laid m rest ws is_one is_short h =
    let lt : length m < 16 = grind (arith, nat_tests) in
    let k : ℕ = 16 - length m in
    let some : 0 < k = omega arith in
    subst (λ (t : List ℕ). Laid t (bare m ∷ ws)) (sym (append_assoc m (replicate k 32) rest))
    (word m is_one (some_gap k rest some) (gap_laid k rest ws h))

module _ (tail : List ℕ) (at_end : Laid tail []) (part : apart tail ≡ true) where
  -- a mnemonic alone
  alone : (m : List ℕ) → is_word m ≡ true → Laid (m ++ tail) (bare m ∷ [])
  alone m is_one = word m is_one part at_end

  -- a mnemonic and an operand
  operand : {op : Opcode} (m w : List ℕ) → Names m op → is_word w ≡ true → Laid ((front m ++ w) ++ tail) (bare m ∷ bare w ∷ [])
  operand m w n is_one =
      subst (λ (t : List ℕ). Laid t (bare m ∷ bare w ∷ [])) (sym (append_assoc (front m) w tail))
      (front_laid m (w ++ tail) (bare w ∷ []) n.word n.short (word w is_one part at_end))

  -- a mnemonic and two operands
  operands : {op : Opcode} (m v w : List ℕ) → Names m op → is_word v ≡ true → is_word w ≡ true
      → Laid ((front m ++ (v ++ 32 ∷ w)) ++ tail) (bare m ∷ bare v ∷ bare w ∷ [])
  operands m v w n is_first is_second =
      let back : Laid (v ++ (32 ∷ (w ++ tail))) (bare v ∷ bare w ∷ []) = word v is_first refl (blank (word w is_second part at_end)) in
      let whole = front_laid m (v ++ (32 ∷ (w ++ tail))) (bare v ∷ bare w ∷ []) n.word n.short back in
      let same : (front m ++ (v ++ 32 ∷ w)) ++ tail ≡ front m ++ (v ++ (32 ∷ (w ++ tail))) =
      append_assoc (front m) (v ++ 32 ∷ w) tail ∙ ap (λ (t : List ℕ). front m ++ t) (append_assoc v (32 ∷ w) tail) in
      subst (λ (t : List ℕ). Laid t (bare m ∷ bare v ∷ bare w ∷ [])) (sym same) whole

  plain_laid : (count : ℕ) (p : Plain) → count < 2 ^ 64 → instr_fits count (instr.Plain p) ≡ true → InstrInRange (instr.Plain p)
      → Laid (plain_text p ++ tail) (plain_words p)
  unfolding plain_text
  plain_laid count (plain.Simple op) few fits all = alone (simple_line op) (simple_names op).word
  plain_laid count (plain.PushByte n) few fits all = operand (codes "bipush") (signed_decimal n) push_byte_names (signed_word n (long_8 n all))
  plain_laid count (plain.PushShort n) few fits all = operand (codes "sipush") (signed_decimal n) push_short_names (signed_word n (long_16 n all))
  plain_laid count (plain.Load t n) few fits all = operand (operand_letter t ++ codes "load") (decimal n) (load_names t) (decimal_word n (omega arith))
  plain_laid count (plain.Store t n) few fits all = operand (operand_letter t ++ codes "store") (decimal n) (store_names t) (decimal_word n (omega arith))
  plain_laid count (plain.Increment n by) few fits all =
      let lt : n < 2 ^ 16 = all.0 in
      operands (codes "iinc") (decimal n) (signed_decimal by) increment_names (decimal_word n (omega arith)) (signed_word by (long_16 by all.1))
  plain_laid count (plain.Branch op target) few fits all =
      let lt : target < count = grind (arith, nat_tests) in
      operand (branch_mnemonic op) (label_name target) (branch_names op) (name_word target (omega arith))
  plain_laid count (plain.TableSwitch t) few fits all = operand (codes "tableswitch") (signed_decimal t.low) table_names (signed_word t.low (long_32 t.low all))
  plain_laid count (plain.LookupSwitch l) few fits all = alone (codes "lookupswitch") lookup_names.word

  array_laid : (op : ArrayOp) → Laid (array_text op ++ tail) (array_words op)
  unfolding array_text
  array_laid (array.New t) = operand (codes "newarray") (primitive_name t) (array_names (array.New t)) (primitive_word t)
  array_laid (array.Load k) = alone (array_line (array.Load k)) (array_names (array.Load k)).word
  array_laid (array.Store k) = alone (array_line (array.Store k)) (array_names (array.Store k)).word
  array_laid array.Length = alone (array_line array.Length) (array_names array.Length).word

  constant_laid : (c : Constant) → ConstantInRange c → Laid (constant_text c ++ tail) (constant_words c)
  unfolding constant_text
  constant_laid (constant.Int n) all = operand (codes "ldc") (signed_decimal n) constant_names (signed_word n (long_32 n all))
  constant_laid (constant.Long n) all = operand (codes "ldc2_w") (signed_decimal n) long_names (signed_word n (long_64 n all))
  constant_laid (constant.String units) all =
      let inside : List ℕ = string_text units ++ 34 ∷ [] in
      let back : Laid (34 ∷ (inside ++ tail)) (quoted (34 ∷ inside) ∷ []) = string inside (string_inside units all) part at_end in
      subst (λ (t : List ℕ). Laid t (bare (codes "ldc") ∷ quoted (34 ∷ inside) ∷ [])) (sym (append_assoc (front (codes "ldc")) (34 ∷ inside) tail))
      (front_laid (codes "ldc") (34 ∷ (inside ++ tail)) (quoted (34 ∷ inside) ∷ []) constant_names.word constant_names.short back)

  field_text_is : (f : FieldRef) → field_ref_line f ≡ field_word f ++ 32 ∷ type_line f.descriptor
  unfolding field_ref_line
  field_text_is f =
      let c : List ℕ = class_line f.class in
      let n : List ℕ = name_text f.name in
      let t : List ℕ = type_line f.descriptor in
      append_assoc ((c ++ 47 ∷ []) ++ n) (32 ∷ []) t ∙ ap (λ (x : List ℕ). x ++ 32 ∷ t) (append_assoc c (47 ∷ []) n)

  method_text_is : (m : MethodRef) → method_ref_line m ≡ method_word m
  unfolding method_ref_line
  method_text_is m =
      let c : List ℕ = class_line m.class in
      let n : List ℕ = name_text m.name in
      append_assoc (c ++ 47 ∷ []) n (method_line m.descriptor) ∙ append_assoc c (47 ∷ []) (n ++ method_line m.descriptor)

  field_laid : (op : _) (f : FieldRef) → field_ref_fits f ≡ true → field_ref_said f ≡ true → FieldRefInRange f
      → Laid ((front (field_mnemonic op) ++ field_ref_line f) ++ tail) (bare (field_mnemonic op) ∷ bare (field_word f) ∷ bare (type_line f.descriptor) ∷ [])
  field_laid op f fits h all =
      let types = (both_true (is_sayable_class f.class && is_plain f.name) (is_plain_type f.descriptor) h).1 in
      subst (λ (t : List ℕ). Laid ((front (field_mnemonic op) ++ t) ++ tail) (bare (field_mnemonic op) ∷ bare (field_word f) ∷ bare (type_line f.descriptor) ∷ []))
      (sym (field_text_is f))
      (operands (field_mnemonic op) (field_word f) (type_line f.descriptor) (field_names op) (field_is_word f fits h all) (type_is_word f.descriptor types all.2))

  one_method : (op : InvokeOp) (m : MethodRef) → method_ref_fits op m ≡ true → method_ref_said m ≡ true → MethodRefInRange m
      → Laid ((front (invoke_mnemonic op) ++ (method_ref_line m ++ [])) ++ tail) (bare (invoke_mnemonic op) ∷ bare (method_word m) ∷ [])
  one_method op m fits h all =
      subst (λ (t : List ℕ). Laid ((front (invoke_mnemonic op) ++ t) ++ tail) (bare (invoke_mnemonic op) ∷ bare (method_word m) ∷ []))
      (sym (append-nil (method_ref_line m) ∙ method_text_is m)) (operand (invoke_mnemonic op) (method_word m) (invoke_names op) (method_is_word op m fits h all))

  invoke_laid : (op : InvokeOp) (m : MethodRef) → method_ref_fits op m ≡ true → method_ref_said m ≡ true → MethodRefInRange m
      → Laid ((front (invoke_mnemonic op) ++ (method_ref_line m ++ count_text op m)) ++ tail) (bare (invoke_mnemonic op) ∷ bare (method_word m) ∷ count_words op m)
  unfolding count_text
  invoke_laid invoke.Virtual m fits h all = one_method invoke.Virtual m fits h all
  invoke_laid invoke.Special m fits h all = one_method invoke.Special m fits h all
  invoke_laid invoke.Static m fits h all = one_method invoke.Static m fits h all
  invoke_laid invoke.Interface m fits h all =
      let few : nat_le (argument_slots m.descriptor + 1) 255 ≡ true = (fits_parts invoke.Interface m fits).4 in
      let le : argument_slots m.descriptor + 1 ≤ 255 = grind (arith, nat_tests) in
      let n : ℕ = argument_slots m.descriptor + 1 in
      let least : n ≡ min n 256 = omega arith in
      subst (λ (k : ℕ). Laid ((front (invoke_mnemonic invoke.Interface) ++ (method_ref_line m ++ 32 ∷ decimal k)) ++ tail)
      (bare (invoke_mnemonic invoke.Interface) ∷ bare (method_word m) ∷ bare (decimal n) ∷ [])) least
      (subst (λ (t : List ℕ). Laid ((front (invoke_mnemonic invoke.Interface) ++ (t ++ 32 ∷ decimal n)) ++ tail)
      (bare (invoke_mnemonic invoke.Interface) ∷ bare (method_word m) ∷ bare (decimal n) ∷ []))
      (sym (method_text_is m)) (operands (invoke_mnemonic invoke.Interface) (method_word m) (decimal n) (invoke_names invoke.Interface)
      (method_is_word invoke.Interface m fits h all) (decimal_word n (omega arith))))

  one_type : (op : TypeOp) (c : ClassRef) → type_op_fits op c ≡ true → is_sayable_class c ≡ true → ClassRefInRange c
      → Laid ((front (type_mnemonic op) ++ (class_line c ++ [])) ++ tail) (bare (type_mnemonic op) ∷ bare (class_line c) ∷ [])
  one_type op c fits h all =
      subst (λ (t : List ℕ). Laid ((front (type_mnemonic op) ++ t) ++ tail) (bare (type_mnemonic op) ∷ bare (class_line c) ∷ []))
      (sym (append-nil (class_line c))) (operand (type_mnemonic op) (class_line c) (type_names op) (class_is_word c (class_of_type op c fits) h all))

  type_laid : (op : TypeOp) (c : ClassRef) → type_op_fits op c ≡ true → is_sayable_class c ≡ true → ClassRefInRange c
      → Laid ((front (type_mnemonic op) ++ (class_line c ++ dimensions_line op)) ++ tail) (bare (type_mnemonic op) ∷ bare (class_line c) ∷ dimension_words op)
  unfolding dimensions_line
  type_laid type_op.NewArray c fits h all = one_type type_op.NewArray c fits h all
  type_laid (type_op.NewArrays d) c fits h all =
      let op = type_op.NewArrays d in
      let few : d < 2 ^ 8 = (dimension_count c d fits).1 in
      operands (type_mnemonic op) (class_line c) (decimal d) (type_names op) (class_is_word c (class_of_type op c fits) h all) (decimal_word d (omega arith))
  type_laid type_op.CheckCast c fits h all = one_type type_op.CheckCast c fits h all
  type_laid type_op.InstanceOf c fits h all = one_type type_op.InstanceOf c fits h all

  pub instr_laid : (count : ℕ) (i : Instr) → count < 2 ^ 64 → instr_fits count i ≡ true → instr_said i ≡ true → InstrInRange i
      → Laid (instr_text i ++ tail) (instr_words i)
  unfolding instr_text
  instr_laid count (instr.Plain p) few fits h all = plain_laid count p few fits all
  instr_laid count (instr.Array op) few fits h all = array_laid op
  instr_laid count (instr.Return op) few fits h all = alone (return_mnemonic op) (return_names op).word
  instr_laid count instr.Throw few fits h all = alone (codes "athrow") throw_names.word
  instr_laid count (instr.Monitor op) few fits h all = alone (monitor_mnemonic op) (monitor_names op).word
  instr_laid count (instr.Constant c) few fits h all = constant_laid c all
  instr_laid count (instr.Field op f) few fits h all = field_laid op f fits h all
  instr_laid count (instr.Invoke op m) few fits h all = invoke_laid op m fits h all
  instr_laid count (instr.New name) few fits h all = operand (codes "new") (name_text name) new_names (class_name_word name fits h all)
  instr_laid count (instr.Type op c) few fits h all = type_laid op c fits h all
