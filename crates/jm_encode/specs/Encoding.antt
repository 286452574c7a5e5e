-- The bytes of a code from its instructions (JVMS 4.7.3, 6.5). What an instruction names is an index of the constant pool, and a
-- target is the number of an instruction.
use Rattle.std.specs.Prelude.{ℕ, ℤ, pos, negsuc, ◌+◌, ◌-◌, ◌*◌, ◌%◌, ◌+ℤ◌, ◌-ℤ◌, Bool, true, false, ◌&&◌, nat_lt, nat_le, int_le, if◌then◌else◌, List, [], ◌∷◌, ◌++◌, length, replicate, slice_get, None, Result, Ok, Err}
use Rattle.std.specs.Option.{ok_or}
use Rattle.std.specs.Int.{w8, w16, w32, to_be_bytes}
use Rattle.jm_bytes.specs.Reading.{and_then}
use Rattle.jm_bytes.specs.Writing.{signed_bytes}
use Rattle.jm_program.specs.Instructions.{has_high, keys_rise}
use Rattle.jm_program.specs.declared.instruction.operation.Branch.{Branch}
use Rattle.jm_program.specs.declared.instruction.operation.Branch.TheVariants as branch
use Rattle.jm_program.specs.declared.instruction.operation.ArrayOp.{ArrayOp}
use Rattle.jm_program.specs.declared.instruction.operation.ArrayOp.TheVariants as array
use Rattle.jm_program.specs.declared.instruction.operation.InvokeOp.TheVariants as invoke
use Rattle.jm_program.specs.declared.instruction.operation.TypeOp.{TypeOp}
use Rattle.jm_program.specs.declared.instruction.operation.TypeOp.TheVariants as type
use Rattle.jm_program.specs.declared.instruction.plain.SwitchPair.{SwitchPair}
use Rattle.jm_program.specs.declared.instruction.plain.TableSwitch.{TableSwitch}
use Rattle.jm_program.specs.declared.instruction.plain.LookupSwitch.{LookupSwitch}
use Rattle.jm_program.specs.declared.instruction.plain.Plain.{Plain}
use Rattle.jm_program.specs.declared.instruction.plain.Plain.TheVariants as plain
use Rattle.jm_class_format.specs.declared.instruction.IndexedInstr.{IndexedInstr}
use Rattle.jm_class_format.specs.declared.instruction.IndexedInstr.TheVariants as indexed
use Rattle.jm_class_format.specs.declared.instruction.PlacedInstr.{PlacedInstr}
use Rattle.jm_encode.specs.declared.encoded.EncodedCode.{EncodedCode}
use Rattle.jm_encode.specs.declared.fault.EncodeFault.{EncodeFault}
use Rattle.jm_encode.specs.declared.fault.EncodeFault.TheVariants as fault
use Rattle.jm_encode.specs.OpcodeBytes.{simple_byte, load_byte, store_byte, branch_byte, array_load_byte, array_store_byte, element_code, return_byte, monitor_byte, field_byte, invoke_byte, type_byte}

-- ---- which instructions have bytes

-- A switch keeps its rules (JVMS 6.5 tableswitch, lookupswitch), and an interface method is invoked by its own instruction, whose
-- operands are more (JVMS 6.5 invokeinterface).
unfoldable pub has_bytes : IndexedInstr → Bool
has_bytes (indexed.Plain (plain.TableSwitch t)) = has_high t
has_bytes (indexed.Plain (plain.LookupSwitch l)) = keys_rise None l.pairs
has_bytes (indexed.Invoke invoke.Interface index) = false
has_bytes other = true

-- ---- how many bytes an instruction takes at an offset

-- up to three, so that what follows stands at a multiple of four from the start of the code (JVMS 6.5 tableswitch)
abbrev pub padding_size : ℕ → ℕ
padding_size at = 3 - at % 4

-- the widened form where the index does not go into a byte (JVMS 6.5 wide)
unfoldable pub local_size : ℕ → ℕ
local_size local = if nat_le local 255 then 2 else 4

-- iinc in a byte and a signed byte
unfoldable pub is_short_increment : ℕ → ℤ → Bool
is_short_increment local n = nat_le local 255 && int_le (negsuc 127) n && int_le n (pos 127)

unfoldable pub plain_size : ℕ → Plain → ℕ
plain_size at (plain.Simple simple) = 1
plain_size at (plain.PushByte n) = 2
plain_size at (plain.PushShort n) = 3
plain_size at (plain.Load kind local) = local_size local
plain_size at (plain.Store kind local) = local_size local
plain_size at (plain.Increment local n) = if is_short_increment local n then 3 else 6
plain_size at (plain.Branch branch.GotoW target) = 5
plain_size at (plain.Branch branch target) = 3
plain_size at (plain.TableSwitch t) = 1 + padding_size at + 12 + 4 * length t.targets
plain_size at (plain.LookupSwitch l) = 1 + padding_size at + 8 + 8 * length l.pairs

unfoldable pub array_size : ArrayOp → ℕ
array_size (array.New element) = 2
array_size other = 1

-- multianewarray has its dimensions in a byte more
unfoldable pub type_size : TypeOp → ℕ
type_size (type.NewArrays d) = 4
type_size other = 3

unfoldable pub size_at : ℕ → IndexedInstr → ℕ
size_at at (indexed.Plain p) = plain_size at p
size_at at (indexed.Array op) = array_size op
size_at at (indexed.Return op) = 1
size_at at indexed.Throw = 1
size_at at (indexed.Monitor op) = 1
size_at at (indexed.Constant index) = if nat_le index 255 then 2 else 3
size_at at (indexed.InvokeInterface index count last) = 5
size_at at (indexed.Type op index) = type_size op
size_at at other = 3

-- the instructions one after the other from an offset on, each with its own
unfoldable pub placed_from : ℕ → List IndexedInstr → List PlacedInstr
placed_from at [] = []
placed_from at (instr ∷ instrs) = record { offset = at; instr = instr } ∷ placed_from (at + size_at at instr) instrs

unfoldable pub starts_from : ℕ → List IndexedInstr → List ℕ
starts_from at [] = []
starts_from at (instr ∷ instrs) = at ∷ starts_from (at + size_at at instr) instrs

-- the offset behind the last one
unfoldable pub end_from : ℕ → List IndexedInstr → ℕ
end_from at [] = at
end_from at (instr ∷ instrs) = end_from (at + size_at at instr) instrs

-- ---- branches: a target is written as the signed distance from the branch's own opcode (JVMS 6.5 goto)

unfoldable pub distance : List ℕ → ℕ → ℕ → Result ℤ EncodeFault
distance starts at target = and_then (ok_or (slice_get starts target) fault.BadTarget) (λ start. Ok (pos start -ℤ pos at))

-- in two bytes
unfoldable pub in_16_bits : ℤ → Result ℤ EncodeFault
in_16_bits jump = if int_le (negsuc 32767) jump && int_le jump (pos 32767) then Ok jump else Err fault.BranchTooFar

unfoldable pub near_text : List ℕ → ℕ → ℕ → Result (List ℕ) EncodeFault
near_text starts at target = and_then (distance starts at target) (λ jump. and_then (in_16_bits jump) (λ jump. Ok (signed_bytes w16 jump)))

-- in four bytes
unfoldable pub far_text : List ℕ → ℕ → ℕ → Result (List ℕ) EncodeFault
far_text starts at target = and_then (distance starts at target) (λ jump. Ok (signed_bytes w32 jump))

unfoldable pub branch_text : List ℕ → ℕ → Branch → ℕ → Result (List ℕ) EncodeFault
branch_text starts at branch.GotoW target = and_then (far_text starts at target) (λ text. Ok (branch_byte branch.GotoW ∷ text))
branch_text starts at branch target = and_then (near_text starts at target) (λ text. Ok (branch_byte branch ∷ text))

-- ---- switches

-- what is written of each, one after the other, or the first fault
unfoldable pub texts : {F A B : Type 0} → (A → Result (List B) F) → List A → Result (List B) F
texts text [] = Ok []
texts text (x ∷ xs) = and_then (text x) (λ front. and_then (texts text xs) (λ back. Ok (front ++ back)))

-- the opcode of a switch, and its padding, which is written as zeros
unfoldable pub switch_text : ℕ → ℕ → List ℕ
switch_text at byte = byte ∷ replicate (padding_size at) 0

-- low and high, where there are so many ints from low to high
unfoldable pub range_text : ℤ → ℕ → List ℕ
range_text low count = signed_bytes w32 low ++ signed_bytes w32 ((low +ℤ pos count) -ℤ pos 1)

-- JVMS 6.5 tableswitch: the default, low, high, and the targets
unfoldable pub table_text : List ℕ → ℕ → TableSwitch → Result (List ℕ) EncodeFault
table_text starts at t =
    and_then (far_text starts at t.default) (λ default.
    and_then (texts (far_text starts at) t.targets) (λ targets.
    Ok (switch_text at 170 ++ (default ++ (range_text t.low (length t.targets) ++ targets)))))

unfoldable pub pair_text : List ℕ → ℕ → SwitchPair → Result (List ℕ) EncodeFault
pair_text starts at pair = and_then (far_text starts at pair.target) (λ target. Ok (signed_bytes w32 pair.key ++ target))

-- JVMS 6.5 lookupswitch: the default, how many pairs there are, and the pairs
unfoldable pub lookup_text : List ℕ → ℕ → LookupSwitch → Result (List ℕ) EncodeFault
lookup_text starts at l =
    and_then (far_text starts at l.default) (λ default.
    and_then (texts (pair_text starts at) l.pairs) (λ pairs.
    Ok (switch_text at 171 ++ (default ++ (to_be_bytes w32 (length l.pairs) ++ pairs)))))

-- ---- all instructions

-- a load or store, behind wide where its index does not go into a byte (JVMS 6.5 wide)
unfoldable pub local_text : ℕ → ℕ → List ℕ
local_text byte local = if nat_le local 255 then byte ∷ to_be_bytes w8 local else 196 ∷ byte ∷ to_be_bytes w16 local

-- JVMS 6.5 iinc, wide
unfoldable pub increment_text : ℕ → ℤ → List ℕ
increment_text local n =
    if is_short_increment local n then 132 ∷ (to_be_bytes w8 local ++ signed_bytes w8 n) else 196 ∷ 132 ∷ (to_be_bytes w16 local ++ signed_bytes w16 n)

-- JVMS 6.5 ldc, ldc_w
unfoldable pub constant_text : ℕ → List ℕ
constant_text index = if nat_le index 255 then 18 ∷ to_be_bytes w8 index else 19 ∷ to_be_bytes w16 index

unfoldable pub plain_text : List ℕ → ℕ → Plain → Result (List ℕ) EncodeFault
plain_text starts at (plain.Simple simple) = Ok (simple_byte simple ∷ [])
plain_text starts at (plain.PushByte n) = Ok (16 ∷ signed_bytes w8 n)
plain_text starts at (plain.PushShort n) = Ok (17 ∷ signed_bytes w16 n)
plain_text starts at (plain.Load kind local) = Ok (local_text (load_byte kind) local)
plain_text starts at (plain.Store kind local) = Ok (local_text (store_byte kind) local)
plain_text starts at (plain.Increment local n) = Ok (increment_text local n)
plain_text starts at (plain.Branch branch target) = branch_text starts at branch target
plain_text starts at (plain.TableSwitch t) = table_text starts at t
plain_text starts at (plain.LookupSwitch l) = lookup_text starts at l

unfoldable pub array_text : ArrayOp → List ℕ
array_text (array.Load kind) = array_load_byte kind ∷ []
array_text (array.Store kind) = array_store_byte kind ∷ []
array_text (array.New element) = 188 ∷ element_code element ∷ []
array_text array.Length = 190 ∷ []

unfoldable pub type_text : TypeOp → ℕ → List ℕ
type_text (type.NewArrays d) index = type_byte (type.NewArrays d) ∷ (to_be_bytes w16 index ++ to_be_bytes w8 d)
type_text other index = type_byte other ∷ to_be_bytes w16 index

-- the bytes of an instruction that stands at an offset
unfoldable pub text_at : List ℕ → ℕ → IndexedInstr → Result (List ℕ) EncodeFault
text_at starts at (indexed.Plain p) = plain_text starts at p
text_at starts at (indexed.Array op) = Ok (array_text op)
text_at starts at (indexed.Return op) = Ok (return_byte op ∷ [])
text_at starts at indexed.Throw = Ok (191 ∷ [])
text_at starts at (indexed.Monitor op) = Ok (monitor_byte op ∷ [])
text_at starts at (indexed.Constant index) = Ok (constant_text index)
text_at starts at (indexed.LongConstant index) = Ok (20 ∷ to_be_bytes w16 index)
text_at starts at (indexed.Field op index) = Ok (field_byte op ∷ to_be_bytes w16 index)
text_at starts at (indexed.Invoke op index) = Ok (invoke_byte op ∷ to_be_bytes w16 index)
text_at starts at (indexed.InvokeInterface index count last) = Ok (185 ∷ (to_be_bytes w16 index ++ (to_be_bytes w8 count ++ to_be_bytes w8 last)))
text_at starts at (indexed.New index) = Ok (187 ∷ to_be_bytes w16 index)
text_at starts at (indexed.Type op index) = Ok (type_text op index)

abbrev pub placed_text : List ℕ → PlacedInstr → Result (List ℕ) EncodeFault
placed_text starts p = text_at starts p.offset p.instr

-- ---- a code: at most 65,535 bytes (JVMS 4.7.3, code_length)

unfoldable pub all_starts : List IndexedInstr → Result (List ℕ) EncodeFault
all_starts instrs = if nat_lt 65535 (end_from 0 instrs) then Err fault.CodeTooLong else Ok (starts_from 0 instrs)

-- The bytes and the offsets. That the code is too long is looked at first, and then each instruction in order.
unfoldable pub encoded : List IndexedInstr → Result EncodedCode EncodeFault
encoded instrs =
    and_then (all_starts instrs) (λ starts.
    and_then (texts (placed_text starts) (placed_from 0 instrs)) (λ bytes.
    Ok (record { bytes = bytes; starts = starts })))
