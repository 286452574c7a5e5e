-- Instructions with what their indexes name (JVMS 4.9.1, 6.5).
use Rattle.std.specs.Prelude.{ℕ, ◌+◌, ◌==◌, Bool, true, false, ◌&&◌, if◌then◌else◌, List, Option, Some, Result, Ok, Err}
use Rattle.std.specs.Option.{ok_or}
use Rattle.jm_bytes.specs.Reading.{and_then}
use Rattle.jm_bytes.specs.Format.{Whole, with_fault_all}
use Rattle.jm_program.specs.Descriptors.{argument_slots}
use Rattle.jm_program.specs.declared.constant.Constant.{Constant}
use Rattle.jm_program.specs.declared.constant.Constant.TheVariants as constant
use Rattle.jm_program.specs.declared.reference.ClassRef.{ClassRef}
use Rattle.jm_program.specs.declared.reference.MethodRef.{MethodRef}
use Rattle.jm_program.specs.declared.instruction.operation.InvokeOp.{InvokeOp}
use Rattle.jm_program.specs.declared.instruction.operation.InvokeOp.TheVariants as invoke
use Rattle.jm_program.specs.declared.instruction.operation.TypeOp.{TypeOp}
use Rattle.jm_program.specs.declared.instruction.symbolic.Instr.{Instr}
use Rattle.jm_program.specs.declared.instruction.symbolic.Instr.TheVariants as instr
use Rattle.jm_class_format.specs.declared.constant_pool.Entry.{Entry}
use Rattle.jm_class_format.specs.declared.constant_pool.Entry.TheVariants as entry
use Rattle.jm_class_format.specs.declared.instruction.IndexedInstr.{IndexedInstr}
use Rattle.jm_class_format.specs.declared.instruction.IndexedInstr.TheVariants as indexed
use Rattle.jm_class_format.specs.declared.instruction.PlacedInstr.{PlacedInstr}
use Rattle.jm_class_format.specs.declared.read_fault.LeftOutPart.TheVariants as part
use Rattle.jm_class_format.specs.declared.read_fault.ReadFault.{ReadFault}
use Rattle.jm_class_format.specs.declared.read_fault.ReadFault.TheVariants as fault
use Rattle.jm_class_format.specs.FileFaults.{bad_index, of_code}
use Rattle.jm_class_format.specs.PoolLookups.{entry_at, text_at, long_at, class_at, field_at, method_at, interface_method_at}
use Rattle.jm_class_format.specs.Symbols.{class_name_of, class_ref_of, operand_ref, field_ref_of, method_ref_of}
use Rattle.jm_class_format.specs.Code.{code}

-- what ldc pushes: an int, or the string of an entry's text; a class is left out (JVMS 6.5 ldc)
unfoldable pub loaded : List Entry → ℕ → Option Entry → Result Constant ReadFault
loaded pool index (Some (entry.Integer n)) = Ok (constant.Int n)
loaded pool index (Some (entry.String text)) = and_then (ok_or (text_at pool text) (bad_index text)) (λ units. Ok (constant.String units))
loaded pool index (Some (entry.Class name)) = Err (fault.LeftOut part.LdcClass)
loaded pool index other = Err (bad_index index)

unfoldable pub loaded_long : List Entry → ℕ → Result Constant ReadFault
loaded_long pool index = and_then (ok_or (long_at pool index) (bad_index index)) (λ n. Ok (constant.Long n))

-- a method of an interface that invokespecial or invokestatic names is left out
abbrev pub calls_interface : InvokeOp → Option (List ℕ × List ℕ × List ℕ) → Bool
calls_interface invoke.Special (Some texts) = true
calls_interface invoke.Static (Some texts) = true
calls_interface op texts = false

-- the method of a class that an index names
unfoldable pub class_method : List Entry → InvokeOp → ℕ → Result MethodRef ReadFault
class_method pool op index =
    if calls_interface op (interface_method_at pool index) then Err (fault.LeftOut part.InterfaceMethod)
    else and_then (ok_or (method_at pool index) (bad_index index)) (λ texts. method_ref_of op texts)

-- the count is that of the argument slots, the receiver included, and a zero follows (JVMS 6.5 invokeinterface)
unfoldable pub counted : ℕ → ℕ → MethodRef → Result MethodRef ReadFault
counted count last method = if (count == argument_slots method.descriptor + 1) && (last == 0) then Ok method else Err fault.BadAttribute

-- the method of an interface that an index names
unfoldable pub interface_method : List Entry → ℕ → ℕ → ℕ → Result MethodRef ReadFault
interface_method pool index count last =
    and_then (ok_or (interface_method_at pool index) (bad_index index)) (λ texts. and_then (method_ref_of invoke.Interface texts) (counted count last))

-- the class, the interface or the array type that an index names
unfoldable pub class_ref_at : List Entry → ℕ → Result ClassRef ReadFault
class_ref_at pool index = and_then (ok_or (class_at pool index) (bad_index index)) class_ref_of

unfoldable pub type_operand : List Entry → TypeOp → ℕ → Result ClassRef ReadFault
type_operand pool op index = and_then (class_ref_at pool index) (operand_ref op)

-- the class or the interface that an index names
unfoldable pub class_name_at : List Entry → ℕ → Result (List ℕ) ReadFault
class_name_at pool index = and_then (ok_or (class_at pool index) (bad_index index)) class_name_of

unfoldable pub named : List Entry → IndexedInstr → Result Instr ReadFault
named pool (indexed.Plain p) = Ok (instr.Plain p)
named pool (indexed.Array op) = Ok (instr.Array op)
named pool (indexed.Return op) = Ok (instr.Return op)
named pool indexed.Throw = Ok instr.Throw
named pool (indexed.Monitor op) = Ok (instr.Monitor op)
named pool (indexed.Constant index) = and_then (loaded pool index (entry_at pool index)) (λ c. Ok (instr.Constant c))
named pool (indexed.LongConstant index) = and_then (loaded_long pool index) (λ c. Ok (instr.Constant c))
named pool (indexed.Field op index) = and_then (ok_or (field_at pool index) (bad_index index)) (λ texts. and_then (field_ref_of texts) (λ f. Ok (instr.Field op f)))
named pool (indexed.Invoke op index) = and_then (class_method pool op index) (λ m. Ok (instr.Invoke op m))
named pool (indexed.InvokeInterface index count last) = and_then (interface_method pool index count last) (λ m. Ok (instr.Invoke invoke.Interface m))
named pool (indexed.New index) = and_then (class_name_at pool index) (λ name. Ok (instr.New name))
named pool (indexed.Type op index) = and_then (type_operand pool op index) (λ c. Ok (instr.Type op c))

abbrev pub placed_named : List Entry → PlacedInstr → Result Instr ReadFault
placed_named pool p = named pool p.instr

-- the code alone, whatever its indexes name
abbrev pub file_code : Whole ReadFault (List PlacedInstr)
file_code = with_fault_all of_code code
