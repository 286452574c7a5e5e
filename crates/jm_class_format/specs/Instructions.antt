-- Which bytes spell which instruction (JVMS 6.5). What an instruction names is an index of the constant pool, and a target is
-- an offset from the start of the code.
use Rattle.std.specs.Prelude.{ℕ, ℤ, pos, negsuc, ◌+◌, ◌-◌, ◌%◌, ◌+ℤ◌, ◌-ℤ◌, ◌==◌, Bool, true, false, if◌then◌else◌, List, [], ◌∷◌, ◌++◌, length, Option, Some, None, slice_get, Result, Ok, Err}
use Rattle.std.specs.Option.{option_map}
use Rattle.jm_bytes.specs.Format.{Format, ◌>>=◌, done, outcome, given, guard, nothing, u1, u2, s1, s2, s4, some_bytes, many, repeated}
use Rattle.jm_program.specs.Instructions.{is_above}
use Rattle.jm_program.specs.declared.instruction.operation.PrimitiveType.{PrimitiveType}
use Rattle.jm_program.specs.declared.instruction.operation.PrimitiveType.TheVariants as primitive
use Rattle.jm_program.specs.declared.instruction.operation.ArrayOp.TheVariants as array
use Rattle.jm_program.specs.declared.instruction.operation.TypeOp.TheVariants as type
use Rattle.jm_program.specs.declared.instruction.plain.SwitchPair.{SwitchPair}
use Rattle.jm_program.specs.declared.instruction.plain.Plain.TheVariants as plain
use Rattle.jm_class_format.specs.declared.opcode.Opcode.{Opcode}
use Rattle.jm_class_format.specs.declared.opcode.Opcode.TheVariants as opcode
use Rattle.jm_class_format.specs.declared.opcode.LeftOutOp.{LeftOutOp}
use Rattle.jm_class_format.specs.declared.opcode.LeftOutOp.TheVariants as left_out
use Rattle.jm_class_format.specs.declared.instruction.IndexedInstr.{IndexedInstr}
use Rattle.jm_class_format.specs.declared.instruction.IndexedInstr.TheVariants as indexed
use Rattle.jm_class_format.specs.declared.fault.CodeFault.{CodeFault}
use Rattle.jm_class_format.specs.declared.fault.CodeFault.TheVariants as fault
use Rattle.jm_class_format.specs.Opcodes.{opcode_at}

-- ---- branches: offsets are signed, from the branch's own opcode (JVMS 6.5 goto)

-- the offset from the start of the code; before it stands no instruction, and so none at the largest number
unfoldable pub offset_of : ℤ → ℕ
offset_of (pos n) = n
offset_of (negsuc n) = 0xFFFFFFFF

-- where a branch at an offset jumps to by so far
unfoldable pub target_from : ℕ → ℤ → ℕ
target_from at jump = offset_of (pos at +ℤ jump)

-- in two bytes
unfoldable pub near_target : ℕ → Format CodeFault ℕ
near_target at = do
  jump ← s2 (fault.Cut at)
  done (target_from at jump)

-- in four bytes
unfoldable pub far_target : ℕ → Format CodeFault ℕ
far_target at = do
  jump ← s4 (fault.Cut at)
  done (target_from at jump)

-- ---- switches

-- up to three bytes of any value, so that what follows stands at a multiple of four from the start of the code
unfoldable pub padding : ℕ → Format CodeFault (List ℕ)
padding at = some_bytes (fault.Cut at) (3 - at % 4)

-- a number that is not negative
unfoldable pub natural : ℤ → Option ℕ
natural (pos n) = Some n
natural (negsuc n) = None

-- how many ints there are from low to high, one at least
unfoldable pub count_from : ℤ → ℤ → Option ℕ
count_from low high = option_map (λ n. n + 1) (natural (high -ℤ low))

-- low, and how many ints there are from low to high
unfoldable pub switch_range : ℕ → Format CodeFault (ℤ × ℕ)
switch_range at = do
  low ← s4 (fault.Cut at)
  high ← s4 (fault.Cut at)
  count ← given (fault.BadOpcode at) (count_from low high)
  done (low, count)

-- JVMS 6.5 tableswitch
unfoldable pub table_switch : ℕ → Format CodeFault IndexedInstr
table_switch at = do
  bytes ← padding at
  default ← far_target at
  ints ← switch_range at
  targets ← many ints.1 (far_target at)
  done (indexed.Plain (plain.TableSwitch (record { low = ints.0; targets = targets; default = default })))

abbrev pub last_key : List SwitchPair → Option ℤ
last_key pairs = option_map (λ (p : SwitchPair). p.key) (slice_get pairs (length pairs - 1))

-- one pair more: its key above the one before it, and its target
unfoldable pub next_pair : ℕ → List SwitchPair → Format CodeFault (List SwitchPair)
next_pair at pairs = do
  key ← s4 (fault.Cut at)
  _ ← guard (fault.BadOpcode at) (is_above (last_key pairs) key)
  target ← far_target at
  done (pairs ++ record { key = key; target = target } ∷ [])

unfoldable pub pair_count : ℕ → Format CodeFault ℕ
pair_count at = do
  count ← s4 (fault.Cut at)
  given (fault.BadOpcode at) (natural count)

-- JVMS 6.5 lookupswitch
unfoldable pub lookup_switch : ℕ → Format CodeFault IndexedInstr
lookup_switch at = do
  bytes ← padding at
  default ← far_target at
  count ← pair_count at
  pairs ← repeated count (next_pair at) []
  done (indexed.Plain (plain.LookupSwitch (record { pairs = pairs; default = default })))

-- ---- newarray (JVMS 6.5 newarray, table 6.5.newarray-A)

unfoldable pub element_at : ℕ → ℕ → Result PrimitiveType CodeFault
element_at at code =
    if code == 4 then Ok primitive.Boolean
    else if code == 5 then Ok primitive.Char
    else if code == 6 then Err (fault.LeftOut left_out.FloatArray)
    else if code == 7 then Err (fault.LeftOut left_out.DoubleArray)
    else if code == 8 then Ok primitive.Byte
    else if code == 9 then Ok primitive.Short
    else if code == 10 then Ok primitive.Int
    else if code == 11 then Ok primitive.Long
    else Err (fault.BadOpcode at)

unfoldable pub new_array : ℕ → Format CodeFault IndexedInstr
new_array at = do
  code ← u1 (fault.Cut at)
  element ← outcome (element_at at code)
  done (indexed.Array (array.New element))

-- ---- multianewarray: whether its type has so many dimensions is told by the class that is named (JVMS 6.5 multianewarray)

unfoldable pub new_arrays : ℕ → Format CodeFault IndexedInstr
new_arrays at = do
  index ← u2 (fault.Cut at)
  dimensions ← u1 (fault.Cut at)
  done (indexed.Type (type.NewArrays dimensions) index)

-- ---- invokeinterface: whether the count and the byte after it are right is told by the method that is named (JVMS 6.5 invokeinterface)

unfoldable pub invoke_interface : ℕ → Format CodeFault IndexedInstr
invoke_interface at = do
  index ← u2 (fault.Cut at)
  count ← u1 (fault.Cut at)
  last ← u1 (fault.Cut at)
  done (indexed.InvokeInterface index count last)

-- ---- iinc, and its wide form

unfoldable pub increment : ℕ → Format CodeFault IndexedInstr
increment at = do
  local ← u1 (fault.Cut at)
  n ← s1 (fault.Cut at)
  done (indexed.Plain (plain.Increment local n))

unfoldable pub wide_increment : ℕ → Format CodeFault IndexedInstr
wide_increment at = do
  local ← u2 (fault.Cut at)
  n ← s2 (fault.Cut at)
  done (indexed.Plain (plain.Increment local n))

-- ---- wide (JVMS 6.5 wide)

-- a left-out instruction that wide can stand before
abbrev pub can_be_wide : LeftOutOp → Bool
can_be_wide left_out.FLoad = true
can_be_wide left_out.DLoad = true
can_be_wide left_out.FStore = true
can_be_wide left_out.DStore = true
can_be_wide left_out.Ret = true
can_be_wide other = false

unfoldable pub no_wide : ℕ → LeftOutOp → CodeFault
no_wide at op = if can_be_wide op then fault.LeftOut op else fault.BadOpcode at

-- what follows wide and the opcode that it widens
unfoldable pub wide_operands : ℕ → Opcode → Format CodeFault IndexedInstr
wide_operands at (opcode.Load kind) = do
  local ← u2 (fault.Cut at)
  done (indexed.Plain (plain.Load kind local))
wide_operands at (opcode.Store kind) = do
  local ← u2 (fault.Cut at)
  done (indexed.Plain (plain.Store kind local))
wide_operands at opcode.Increment = wide_increment at
wide_operands at (opcode.LeftOut op) = nothing (no_wide at op)
wide_operands at other = nothing (fault.BadOpcode at)

unfoldable pub wide : ℕ → Format CodeFault IndexedInstr
wide at = do
  byte ← u1 (fault.Cut at)
  kind ← given (fault.BadOpcode at) (opcode_at byte)
  wide_operands at kind

-- ---- all instructions

-- what follows an opcode, in the instruction that stands at an offset
unfoldable pub operands : ℕ → Opcode → Format CodeFault IndexedInstr
operands at (opcode.Simple simple) = done (indexed.Plain (plain.Simple simple))
operands at (opcode.Array op) = done (indexed.Array op)
operands at (opcode.Return op) = done (indexed.Return op)
operands at opcode.Throw = done indexed.Throw
operands at (opcode.Monitor op) = done (indexed.Monitor op)
operands at opcode.PushByte = do
  n ← s1 (fault.Cut at)
  done (indexed.Plain (plain.PushByte n))
operands at opcode.PushShort = do
  n ← s2 (fault.Cut at)
  done (indexed.Plain (plain.PushShort n))
operands at opcode.LoadConstant = do
  index ← u1 (fault.Cut at)
  done (indexed.Constant index)
operands at opcode.LoadConstantWide = do
  index ← u2 (fault.Cut at)
  done (indexed.Constant index)
operands at opcode.LoadLong = do
  index ← u2 (fault.Cut at)
  done (indexed.LongConstant index)
operands at (opcode.Load kind) = do
  local ← u1 (fault.Cut at)
  done (indexed.Plain (plain.Load kind local))
operands at (opcode.Store kind) = do
  local ← u1 (fault.Cut at)
  done (indexed.Plain (plain.Store kind local))
operands at opcode.Increment = increment at
operands at (opcode.Branch branch) = do
  target ← near_target at
  done (indexed.Plain (plain.Branch branch target))
operands at (opcode.BranchWide branch) = do
  target ← far_target at
  done (indexed.Plain (plain.Branch branch target))
operands at opcode.TableSwitch = table_switch at
operands at opcode.LookupSwitch = lookup_switch at
operands at (opcode.Field op) = do
  index ← u2 (fault.Cut at)
  done (indexed.Field op index)
operands at (opcode.Invoke op) = do
  index ← u2 (fault.Cut at)
  done (indexed.Invoke op index)
operands at opcode.InvokeInterface = invoke_interface at
operands at opcode.New = do
  index ← u2 (fault.Cut at)
  done (indexed.New index)
operands at opcode.NewArray = new_array at
operands at (opcode.Type op) = do
  index ← u2 (fault.Cut at)
  done (indexed.Type op index)
operands at opcode.NewArrays = new_arrays at
operands at opcode.Wide = wide at
operands at (opcode.LeftOut op) = nothing (fault.LeftOut op)

unfoldable pub instruction : ℕ → Format CodeFault IndexedInstr
instruction at = do
  byte ← u1 (fault.Cut at)
  kind ← given (fault.BadOpcode at) (opcode_at byte)
  operands at kind
