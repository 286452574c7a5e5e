-- Which instructions a text can say: those whose names words can spell (Jasmin User Guide, "Instructions").
use Rattle.std.specs.Prelude.{ℕ, ℤ, pos, negsuc, int_le, nat_lt, Bool, true, not, ◌&&◌, ◌||◌, ◌==◌, List, Option, is_some, codes}
use Rattle.std.specs.List.{list_all}
use Rattle.jm_program.specs.Names.{same_text}
use Rattle.jm_program.specs.declared.descriptor.ElementType.{ElementType}
use Rattle.jm_program.specs.declared.descriptor.ElementType.TheVariants.{Base, Class}
use Rattle.jm_program.specs.declared.reference.ClassRef.{ClassRef}
use Rattle.jm_program.specs.declared.reference.ClassRef.TheVariants as class_ref
use Rattle.jm_program.specs.declared.reference.FieldRef.{FieldRef}
use Rattle.jm_program.specs.declared.reference.MethodRef.{MethodRef}
use Rattle.jm_program.specs.declared.constant.Constant.{Constant}
use Rattle.jm_program.specs.declared.constant.Constant.TheVariants as constant
use Rattle.jm_program.specs.declared.instruction.plain.SwitchPair.{SwitchPair}
use Rattle.jm_program.specs.declared.instruction.plain.Plain.{Plain}
use Rattle.jm_program.specs.declared.instruction.plain.Plain.TheVariants as plain
use Rattle.jm_program.specs.declared.instruction.symbolic.Instr.{Instr}
use Rattle.jm_program.specs.declared.instruction.symbolic.Instr.TheVariants as instr
use Rattle.jm_disassembler.specs.Names.{is_unit, is_plain, is_sayable, is_plain_type, is_plain_method_type, is_sayable_class}

abbrev pub is_no_parenthesis : ℕ → Bool
is_no_parenthesis u = not (u == 40)

-- a method's types begin at the first ( of its word
abbrev pub no_parenthesis : List ℕ → Bool
no_parenthesis units = list_all is_no_parenthesis units

abbrev pub element_no_parenthesis : ElementType → Bool
element_no_parenthesis (Base b) = true
element_no_parenthesis (Class name) = no_parenthesis name

abbrev pub class_no_parenthesis : ClassRef → Bool
class_no_parenthesis (class_ref.Class name) = no_parenthesis name
class_no_parenthesis (class_ref.Array t) = element_no_parenthesis t.element

abbrev pub field_ref_said : FieldRef → Bool
field_ref_said f = is_sayable_class f.class && is_plain f.name && is_plain_type f.descriptor

abbrev pub method_ref_said : MethodRef → Bool
method_ref_said m =
    is_sayable_class m.class && class_no_parenthesis m.class && is_plain m.name && no_parenthesis m.name && is_plain_method_type m.descriptor

-- ---- numbers, in the ranges of their places

abbrev pub is_within : ℤ → ℤ → ℤ → Bool
is_within low high n = int_le low n && int_le n high

abbrev pub is_int : ℤ → Bool
is_int n = is_within (negsuc 2147483647) (pos 2147483647) n

abbrev pub is_long : ℤ → Bool
is_long n = is_within (negsuc 9223372036854775807) (pos 9223372036854775807) n

abbrev pub is_short : ℕ → Bool
is_short n = nat_lt n 65536

abbrev pub key_said : SwitchPair → Bool
key_said p = is_int p.key

abbrev pub plain_said : Plain → Bool
plain_said (plain.PushByte n) = is_within (negsuc 127) (pos 127) n
plain_said (plain.PushShort n) = is_within (negsuc 32767) (pos 32767) n
plain_said (plain.Load t n) = is_short n
plain_said (plain.Store t n) = is_short n
plain_said (plain.Increment n by) = is_short n && is_within (negsuc 32767) (pos 32767) by
plain_said (plain.TableSwitch t) = is_int t.low
plain_said (plain.LookupSwitch l) = list_all key_said l.pairs
plain_said _ = true

-- a string can have any code units
abbrev pub constant_said : Constant → Bool
constant_said (constant.Int n) = is_int n
constant_said (constant.Long n) = is_long n
constant_said (constant.String units) = list_all is_unit units

-- ---- instructions

abbrev pub instr_said : Instr → Bool
instr_said (instr.Plain p) = plain_said p
instr_said (instr.Constant c) = constant_said c
instr_said (instr.Field op f) = field_ref_said f
instr_said (instr.Invoke op m) = method_ref_said m
instr_said (instr.New name) = is_sayable name
instr_said (instr.Type op class) = is_sayable_class class
instr_said _ = true

-- ---- members

-- = stands before a value, and so is no name of a field without one
abbrev pub field_name_said : List ℕ → Option Constant → Bool
field_name_said name value = is_sayable name && (is_some value || not (same_text name (codes "=")))

abbrev pub method_name_said : List ℕ → Bool
method_name_said name = is_sayable name && no_parenthesis name
