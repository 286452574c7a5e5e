-- Which instructions a code of so many instructions can have (JVMS 4.9.1, 6.5).
use Rattle.std.specs.Prelude.{ℕ, ℤ, pos, ◌+ℤ◌, List, [], ◌∷◌, Bool, true, false, ◌&&◌, nat_lt, nat_le, int_lt, int_le, length, Option, Some, None}
use Rattle.std.specs.List.{list_all}
use Rattle.jm_program.specs.Names.{is_class_name}
use Rattle.jm_program.specs.References.{class_ref_fits, field_ref_fits, method_ref_fits}
use Rattle.jm_program.specs.declared.instruction.operation.TypeOp.{TypeOp}
use Rattle.jm_program.specs.declared.instruction.operation.TypeOp.TheVariants.{NewArray, NewArrays, CheckCast, InstanceOf}
use Rattle.jm_program.specs.declared.instruction.plain.Plain.{Plain}
use Rattle.jm_program.specs.declared.instruction.plain.Plain.TheVariants as plain
use Rattle.jm_program.specs.declared.instruction.plain.TableSwitch.{TableSwitch}
use Rattle.jm_program.specs.declared.instruction.plain.LookupSwitch.{LookupSwitch}
use Rattle.jm_program.specs.declared.instruction.plain.SwitchPair.{SwitchPair}
use Rattle.jm_program.specs.declared.instruction.symbolic.Instr.{Instr}
use Rattle.jm_program.specs.declared.instruction.symbolic.Instr.TheVariants as instr
use Rattle.jm_program.specs.declared.reference.ClassRef.{ClassRef}
use Rattle.jm_program.specs.declared.reference.ClassRef.TheVariants.{Class, Array}

-- low is at most high, and both are ints (JVMS 6.5 tableswitch)
abbrev pub has_high : TableSwitch → Bool
has_high t = nat_lt 0 (length t.targets) && int_le (t.low +ℤ pos (length t.targets)) (pos 2147483648)

abbrev pub table_fits : ℕ → TableSwitch → Bool
table_fits count t = has_high t && list_all (λ target. nat_lt target count) t.targets && nat_lt t.default count

-- the keys rise strictly, from above the one before them (JVMS 6.5 lookupswitch)
abbrev pub is_above : Option ℤ → ℤ → Bool
is_above None key = true
is_above (Some previous) key = int_lt previous key

abbrev pub keys_rise : Option ℤ → List SwitchPair → Bool
keys_rise previous [] = true
keys_rise previous (pair ∷ pairs) = is_above previous pair.key && keys_rise (Some pair.key) pairs

abbrev pub lookup_fits : ℕ → LookupSwitch → Bool
lookup_fits count l = keys_rise None l.pairs && list_all (λ pair. nat_lt pair.target count) l.pairs && nat_lt l.default count

-- each target is an instruction of the code
abbrev pub plain_fits : ℕ → Plain → Bool
plain_fits count (plain.Branch branch target) = nat_lt target count
plain_fits count (plain.TableSwitch t) = table_fits count t
plain_fits count (plain.LookupSwitch l) = lookup_fits count l
plain_fits count _ = true

-- an array of the type has at most 255 dimensions (JVMS 4.9.1)
abbrev pub can_be_element : ClassRef → Bool
can_be_element (Class name) = true
can_be_element (Array t) = nat_lt t.dimensions 255

-- an array type of so many dimensions or more, and they are one or more (JVMS 6.5 multianewarray)
abbrev pub has_dimensions : ClassRef → ℕ → Bool
has_dimensions (Class name) d = false
has_dimensions (Array t) d = nat_lt 0 d && nat_le d t.dimensions

abbrev pub type_op_fits : TypeOp → ClassRef → Bool
type_op_fits NewArray class = class_ref_fits class && can_be_element class
type_op_fits (NewArrays d) class = class_ref_fits class && has_dimensions class d
type_op_fits _ class = class_ref_fits class

abbrev pub instr_fits : ℕ → Instr → Bool
instr_fits count (instr.Plain p) = plain_fits count p
instr_fits count (instr.Field op field) = field_ref_fits field
instr_fits count (instr.Invoke op method) = method_ref_fits op method
instr_fits count (instr.New name) = is_class_name name
instr_fits count (instr.Type op class) = type_op_fits op class
instr_fits count _ = true
