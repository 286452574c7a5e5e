-- The bytes of a Code attribute (JVMS 4.7.3), and of the LineNumberTable in it (JVMS 4.7.12).
use Rattle.std.specs.Prelude.{ℕ, ◌+◌, ◌<◌, ◌==◌, if◌then◌else◌, List, length, Option, Some, None, slice_get, Result, Ok, codes, IsTrue}
use Rattle.std.specs.List.{list_all}
use Rattle.std.specs.Option.{ok_or}
use Rattle.jm_bytes.specs.Reading.{fault_as}
use Rattle.jm_program.specs.Descriptors.{argument_slots}
use Rattle.jm_program.specs.Instructions.{instr_fits}
use Rattle.jm_program.specs.declared.constant.Constant.{Constant}
use Rattle.jm_program.specs.declared.constant.Constant.TheVariants as constant
use Rattle.jm_program.specs.declared.code.Code.{Code}
use Rattle.jm_program.specs.declared.code.Handler.{Handler}
use Rattle.jm_program.specs.declared.code.LineNumber.{LineNumber}
use Rattle.jm_program.specs.declared.reference.MethodRef.{MethodRef}
use Rattle.jm_program.specs.declared.instruction.operation.InvokeOp.{InvokeOp}
use Rattle.jm_program.specs.declared.instruction.operation.InvokeOp.TheVariants as invoke
use Rattle.jm_program.specs.declared.instruction.symbolic.Instr.{Instr}
use Rattle.jm_program.specs.declared.instruction.symbolic.Instr.TheVariants as instr
use Rattle.jm_class_format.specs.declared.instruction.IndexedInstr.{IndexedInstr}
use Rattle.jm_class_format.specs.declared.instruction.IndexedInstr.TheVariants as indexed
use Rattle.jm_encode.specs.declared.encoded.EncodedCode.{EncodedCode}
use Rattle.jm_encode.specs.Encoding.{encoded}
use Rattle.jm_class_writer.specs.declared.fault.WriteFault.{WriteFault}
use Rattle.jm_class_writer.specs.declared.fault.WriteFault.TheVariants as fault
use Rattle.jm_class_writer.specs.Drafts.{Drafting, ◌>>=◌, done, outcome, all_of, each_of, put_bytes, put_u2, put_u4, with_length}
use Rattle.jm_class_writer.specs.Faults.{of_encode}
use Rattle.jm_class_writer.specs.PoolUse.{text_index, class_index, constant_index, class_ref_index, field_ref_index, method_ref_index}

-- ---- instructions, with indexes of the pool for what they name

-- ldc2_w for a long, ldc for the rest (JVMS 6.5 ldc, ldc2_w)
abbrev pub load_of : Constant → ℕ → IndexedInstr
load_of (constant.Long n) index = indexed.LongConstant index
load_of c index = indexed.Constant index

-- invokeinterface has the count of the argument slots, the receiver included, and a zero (JVMS 6.5 invokeinterface)
abbrev pub invoke_of : InvokeOp → MethodRef → ℕ → IndexedInstr
invoke_of invoke.Interface m index = indexed.InvokeInterface index (argument_slots m.descriptor + 1) 0
invoke_of op m index = indexed.Invoke op index

unfoldable pub instr_indexed : Instr → Drafting IndexedInstr
instr_indexed (instr.Plain p) = done (indexed.Plain p)
instr_indexed (instr.Array op) = done (indexed.Array op)
instr_indexed (instr.Return op) = done (indexed.Return op)
instr_indexed instr.Throw = done indexed.Throw
instr_indexed (instr.Monitor op) = done (indexed.Monitor op)
instr_indexed (instr.Constant c) = do
  index ← constant_index c
  done (load_of c index)
instr_indexed (instr.Field op f) = do
  index ← field_ref_index f
  done (indexed.Field op index)
instr_indexed (instr.Invoke op m) = do
  index ← method_ref_index op m
  done (invoke_of op m index)
instr_indexed (instr.New name) = do
  index ← class_index name
  done (indexed.New index)
instr_indexed (instr.Type op c) = do
  index ← class_ref_index c
  done (indexed.Type op index)

-- ---- offsets of instructions by their numbers

-- every number in a class's code has one, so that the fault never comes
unfoldable pub start_of : EncodedCode → ℕ → Result ℕ WriteFault
start_of code n = ok_or (slice_get code.starts n) fault.TooMany

-- the end of a range: before an instruction, or at the code's end
unfoldable pub end_of : EncodedCode → ℕ → Result ℕ WriteFault
end_of code n = if n == length code.starts then Ok (length code.bytes) else start_of code n

unfoldable pub put_start : EncodedCode → ℕ → Drafting (Unit {0})
put_start code n = do
  offset ← outcome (start_of code n)
  put_u2 offset

unfoldable pub put_end : EncodedCode → ℕ → Drafting (Unit {0})
put_end code n = do
  offset ← outcome (end_of code n)
  put_u2 offset

-- ---- the exception table

-- 0 for every class
unfoldable pub put_catch_type : Option (List ℕ) → Drafting (Unit {0})
put_catch_type None = put_u2 0
put_catch_type (Some name) = do
  index ← class_index name
  put_u2 index

unfoldable pub put_handler : EncodedCode → Handler → Drafting (Unit {0})
put_handler code h = do
  _ ← put_start code h.start
  _ ← put_end code h.end
  _ ← put_start code h.target
  put_catch_type h.catch_type

unfoldable pub put_handlers : EncodedCode → List Handler → Drafting (Unit {0})
put_handlers code hs = do
  _ ← put_u2 (length hs)
  all_of (put_handler code) hs

-- ---- line numbers: one attribute, where there are any

unfoldable pub put_line : EncodedCode → LineNumber → Drafting (Unit {0})
put_line code l = do
  _ ← put_start code l.start
  put_u2 l.line

unfoldable pub put_lines : EncodedCode → List LineNumber → Drafting (Unit {0})
put_lines code ls = do
  _ ← put_u2 (length ls)
  all_of (put_line code) ls

-- the index of an attribute's name
unfoldable pub put_name : List ℕ → Drafting (Unit {0})
put_name name = do
  index ← text_index name
  put_u2 index

unfoldable pub put_line_table : EncodedCode → List LineNumber → Drafting (Unit {0})
put_line_table code ls = do
  _ ← put_u2 1
  _ ← put_name (codes "LineNumberTable")
  with_length (put_lines code ls)

unfoldable pub put_code_attributes : EncodedCode → List LineNumber → Drafting (Unit {0})
put_code_attributes code ls = if length ls == 0 then put_u2 0 else put_line_table code ls

-- ---- the attribute

unfoldable pub put_instructions : EncodedCode → Drafting (Unit {0})
put_instructions code = do
  _ ← put_u4 (length code.bytes)
  put_bytes code.bytes

unfoldable pub code_encoded : List Instr → Drafting EncodedCode
code_encoded instrs = do
  all ← each_of instr_indexed instrs
  outcome (fault_as of_encode (encoded all))

unfoldable pub put_code_body : Code → Drafting (Unit {0})
put_code_body c = do
  _ ← put_u2 c.max_stack
  _ ← put_u2 c.max_locals
  code ← code_encoded c.instructions
  _ ← put_instructions code
  _ ← put_handlers code c.handlers
  put_code_attributes code c.lines

-- a method's code has an instruction, and each can stand in some code
abbrev pub InstructionsFit : Option Code → Type 0
InstructionsFit None = Unit {0}
InstructionsFit (Some c) = (0 < length c.instructions) × ((count : ℕ) × IsTrue (list_all (instr_fits count) c.instructions))
