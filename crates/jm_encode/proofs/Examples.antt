-- Worked codes, computed by the definitions.
use Rattle.std.proofs.Common.{◌≡◌, ℕ, ◌+◌, List, [], ◌∷◌, ◌++◌, take, Result, Ok, Err, refl, replicate}
use Rattle.std.specs.Prelude.{ℤ, pos, negsuc}
use Rattle.jm_bytes.specs.Reading.{and_then}
use Rattle.jm_program.specs.declared.instruction.plain.Plain.TheVariants as plain
use Rattle.jm_program.specs.declared.instruction.plain.Simple.TheVariants as simple
use Rattle.jm_program.specs.declared.instruction.operation.StackOp.TheVariants as stack_op
use Rattle.jm_program.specs.declared.instruction.operation.SmallInt.TheVariants as int
use Rattle.jm_program.specs.declared.instruction.operation.OperandType.TheVariants as operand
use Rattle.jm_program.specs.declared.instruction.operation.Branch.TheVariants as branch
use Rattle.jm_program.specs.declared.instruction.operation.FieldOp.TheVariants as field
use Rattle.jm_program.specs.declared.instruction.operation.InvokeOp.TheVariants as invoke
use Rattle.jm_program.specs.declared.instruction.operation.ReturnOp.TheVariants as return
use Rattle.jm_class_format.specs.declared.instruction.IndexedInstr.{IndexedInstr}
use Rattle.jm_class_format.specs.declared.instruction.IndexedInstr.TheVariants as indexed
use Rattle.jm_encode.specs.declared.fault.EncodeFault.{EncodeFault}
use Rattle.jm_encode.specs.declared.fault.EncodeFault.TheVariants as fault
use Rattle.jm_encode.specs.OpcodeBytes.{int_byte, load_byte, stack_byte, simple_byte, branch_byte, return_byte, field_byte, invoke_byte}
use Rattle.jm_encode.specs.Encoding.{local_size, is_short_increment, plain_size, size_at, placed_from, starts_from, end_from, distance, in_16_bits, near_text, far_text, branch_text, texts, switch_text, range_text, table_text, pair_text, lookup_text, local_text, increment_text, constant_text, plain_text, text_at, all_starts, encoded}

nop : IndexedInstr
nop = indexed.Plain (plain.Simple simple.Nop)

pop : IndexedInstr
pop = indexed.Plain (plain.Simple (simple.Stack stack_op.Pop))

goto : ℕ → IndexedInstr
goto target = indexed.Plain (plain.Branch branch.Goto target)

void_return : IndexedInstr
void_return = indexed.Return return.Void

-- ldc of an index up to 255, and ldc_w above it
constants : encoded (indexed.Constant 255 ∷ pop ∷ indexed.Constant 256 ∷ pop ∷ void_return ∷ [])
    ≡ Ok (record {
      bytes = 0x12 ∷ 0xFF ∷ 0x57 ∷ 0x13 ∷ 0x01 ∷ 0x00 ∷ 0x57 ∷ 0xB1 ∷ [];
      starts = 0 ∷ 2 ∷ 3 ∷ 6 ∷ 7 ∷ [];
    })
unfolding pop void_return stack_byte simple_byte return_byte plain_size size_at placed_from starts_from end_from texts constant_text plain_text text_at all_starts encoded
constants = refl

-- nops, and iconst_1, tableswitch 0 to 1; each target has nine bytes: getstatic, bipush, invokevirtual, return
print : ℤ → List IndexedInstr
print n = indexed.Field field.GetStatic 7 ∷ indexed.Plain (plain.PushByte n) ∷ indexed.Invoke invoke.Virtual 9 ∷ void_return ∷ []

switching : ℕ → List IndexedInstr
switching nops =
    replicate nops nop ++ (indexed.Plain (plain.Simple (simple.IntConstant int.One)) ∷ indexed.Plain (plain.TableSwitch (record { low = pos 0; targets = (nops + 2) ∷ (nops + 6) ∷ []; default = nops + 10 })) ∷ (print (pos 10) ++ (print (pos 20) ++ print (pos 30))))

begins : ℕ → List IndexedInstr → Result (List ℕ) EncodeFault
begins n instrs = and_then (encoded instrs) (λ code. Ok (take n code.bytes))

-- the padding is zeros up to a multiple of four, none where the opcode is right before one
padding_none : begins 24 (switching 2)
    ≡ Ok (0 ∷ 0 ∷ 4 ∷ 0xAA ∷ 0 ∷ 0 ∷ 0 ∷ 0x27 ∷ 0 ∷ 0 ∷ 0 ∷ 0 ∷ 0 ∷ 0 ∷ 0 ∷ 1 ∷ 0 ∷ 0 ∷ 0 ∷ 0x15 ∷ 0 ∷ 0 ∷ 0 ∷ 0x1E ∷ [])
unfolding begins switching print nop void_return int_byte simple_byte return_byte field_byte invoke_byte plain_size size_at placed_from starts_from end_from distance far_text texts switch_text range_text table_text plain_text text_at all_starts encoded
padding_none = refl

padding_one : begins 8 (switching 1) ≡ Ok (0 ∷ 4 ∷ 0xAA ∷ 0 ∷ 0 ∷ 0 ∷ 0 ∷ 0x28 ∷ [])
unfolding begins switching print nop void_return int_byte simple_byte return_byte field_byte invoke_byte plain_size size_at placed_from starts_from end_from distance far_text texts switch_text range_text table_text plain_text text_at all_starts encoded
padding_one = refl

padding_two : begins 8 (switching 0) ≡ Ok (4 ∷ 0xAA ∷ 0 ∷ 0 ∷ 0 ∷ 0 ∷ 0 ∷ 0x29 ∷ [])
unfolding begins switching print nop void_return int_byte simple_byte return_byte field_byte invoke_byte plain_size size_at placed_from starts_from end_from distance far_text texts switch_text range_text table_text plain_text text_at all_starts encoded
padding_two = refl

padding_three : begins 12 (switching 3) ≡ Ok (0 ∷ 0 ∷ 0 ∷ 4 ∷ 0xAA ∷ 0 ∷ 0 ∷ 0 ∷ 0 ∷ 0 ∷ 0 ∷ 0x2A ∷ [])
unfolding begins switching print nop void_return int_byte simple_byte return_byte field_byte invoke_byte plain_size size_at placed_from starts_from end_from distance far_text texts switch_text range_text table_text plain_text text_at all_starts encoded
padding_three = refl

-- lookupswitch of -1 and 5: default, how many pairs, pairs
pairs : encoded (nop ∷ indexed.Plain (plain.LookupSwitch (record { pairs = record { key = negsuc 0; target = 0 } ∷ record { key = pos 5; target = 2 } ∷ []; default = 1 })) ∷ void_return ∷ [])
    ≡ Ok (record {
      bytes = 0 ∷ 0xAB ∷ 0 ∷ 0 ∷ 0 ∷ 0 ∷ 0 ∷ 0 ∷ 0 ∷ 0 ∷ 0 ∷ 2 ∷ 0xFF ∷ 0xFF ∷ 0xFF ∷ 0xFF ∷ 0xFF ∷ 0xFF ∷ 0xFF ∷ 0xFF ∷ 0 ∷ 0 ∷ 0 ∷ 5 ∷ 0 ∷ 0 ∷ 0 ∷ 0x1B ∷ 0xB1 ∷ [];
      starts = 0 ∷ 1 ∷ 28 ∷ [];
    })
unfolding nop void_return simple_byte return_byte plain_size size_at placed_from starts_from end_from distance far_text texts switch_text pair_text lookup_text plain_text text_at all_starts encoded
pairs = refl

-- a distance is from the branch's own opcode: goto to itself and back, goto_w on by five
branches : encoded (nop ∷ goto 0 ∷ goto 2 ∷ indexed.Plain (plain.Branch branch.GotoW 4) ∷ void_return ∷ [])
    ≡ Ok (record {
      bytes = 0 ∷ 0xA7 ∷ 0xFF ∷ 0xFF ∷ 0xA7 ∷ 0 ∷ 0 ∷ 0xC8 ∷ 0 ∷ 0 ∷ 0 ∷ 5 ∷ 0xB1 ∷ [];
      starts = 0 ∷ 1 ∷ 4 ∷ 7 ∷ 12 ∷ [];
    })
unfolding nop goto void_return simple_byte branch_byte return_byte plain_size size_at placed_from starts_from end_from distance in_16_bits near_text far_text branch_text texts plain_text text_at all_starts encoded
branches = refl

-- the widened forms of an index above 255 and of a constant outside a byte
wides : encoded (indexed.Plain (plain.Load operand.Int 255) ∷ indexed.Plain (plain.Load operand.Int 256) ∷ indexed.Plain (plain.Increment 255 (negsuc 127)) ∷ indexed.Plain (plain.Increment 255 (pos 128)) ∷ indexed.Plain (plain.Increment 256 (negsuc 0)) ∷ [])
    ≡ Ok (record {
      bytes = 0x15 ∷ 0xFF ∷ 0xC4 ∷ 0x15 ∷ 0x01 ∷ 0x00 ∷ 0x84 ∷ 0xFF ∷ 0x80 ∷ 0xC4 ∷ 0x84 ∷ 0x00 ∷ 0xFF ∷ 0x00 ∷ 0x80 ∷ 0xC4 ∷ 0x84 ∷ 0x01 ∷ 0x00 ∷ 0xFF ∷ 0xFF ∷ [];
      starts = 0 ∷ 2 ∷ 6 ∷ 9 ∷ 15 ∷ [];
    })
unfolding load_byte local_size is_short_increment plain_size size_at placed_from starts_from end_from texts local_text increment_text plain_text text_at all_starts encoded
wides = refl

-- a target behind the last instruction
no_target : encoded (goto 1 ∷ []) ≡ Err fault.BadTarget
unfolding goto branch_byte plain_size size_at placed_from starts_from end_from distance near_text branch_text texts plain_text text_at all_starts encoded
no_target = refl

-- a switch of so many targets
long_switch : ℕ → IndexedInstr
long_switch count = indexed.Plain (plain.TableSwitch (record { low = pos 0; targets = replicate count 0; default = 0 }))

-- 3 + 13 + 4 * 8188 = 32,768 bytes are too far
far : encoded (goto 2 ∷ long_switch 8188 ∷ void_return ∷ []) ≡ Err fault.BranchTooFar
unfolding goto long_switch void_return branch_byte plain_size size_at placed_from starts_from end_from distance in_16_bits near_text branch_text texts plain_text text_at all_starts encoded
far = refl

-- 16 + 4 * 16380 = 65,536 bytes
long : encoded (long_switch 16380 ∷ []) ≡ Err fault.CodeTooLong
unfolding long_switch plain_size size_at end_from all_starts encoded
long = refl
