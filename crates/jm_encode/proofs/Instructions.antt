-- What is written for an instruction spells it, its targets as offsets, takes the size that it has, and those offsets have the numbers of the targets.
use Rattle.std.proofs.Common.{◌≡◌, ℕ, ◌+◌, ◌*◌, ◌^◌, ◌<◌, ◌≤◌, Bool, true, false, cond, List, [], ◌∷◌, ◌++◌, length, Some, Result, Ok, refl, sym, subst, arith}
use Rattle.std.specs.Prelude.{ℤ, pos, negsuc, int_le, nat_le, ◌&&◌, FitsSigned}
use Rattle.std.specs.Int.{w8, w16, to_be_bytes}
use Rattle.std.proofs.lemmas.Bool.{leb-true}
use Rattle.std.proofs.lemmas.Bool.Decides.{nat_tests}
use Rattle.jm_bytes.specs.Reading.{and_then}
use Rattle.jm_bytes.specs.Format.{u1, u2, s1, s2}
use Rattle.jm_bytes.specs.Laws.{and_then_ok, same_Ok}
use Rattle.jm_bytes.specs.Writing.{signed_bytes}
use Rattle.jm_bytes.proofs.Spelled.{u1_text, u2_text, s1_text, s2_text}
use Rattle.jm_program.specs.declared.instruction.operation.OperandType.{OperandType}
use Rattle.jm_program.specs.declared.instruction.operation.Branch.{Branch}
use Rattle.jm_program.specs.declared.instruction.operation.Branch.TheVariants as branch
use Rattle.jm_program.specs.declared.instruction.operation.ArrayOp.{ArrayOp}
use Rattle.jm_program.specs.declared.instruction.operation.ArrayOp.TheVariants as array
use Rattle.jm_program.specs.declared.instruction.operation.InvokeOp.{InvokeOp}
use Rattle.jm_program.specs.declared.instruction.operation.InvokeOp.TheVariants as invoke
use Rattle.jm_program.specs.declared.instruction.operation.TypeOp.{TypeOp}
use Rattle.jm_program.specs.declared.instruction.operation.TypeOp.TheVariants as type
use Rattle.jm_program.specs.declared.instruction.plain.Plain.{Plain}
use Rattle.jm_program.specs.declared.instruction.plain.Plain.TheVariants as plain
use Rattle.jm_program.proofs.Truths.{both_true as both}
use Rattle.jm_class_format.specs.declared.opcode.Opcode.{Opcode}
use Rattle.jm_class_format.specs.declared.opcode.Opcode.TheVariants as opcode
use Rattle.jm_class_format.specs.declared.fault.CodeFault.TheVariants as code_fault
use Rattle.jm_class_format.specs.declared.instruction.IndexedInstr.{IndexedInstr}
use Rattle.jm_class_format.specs.declared.instruction.IndexedInstr.TheVariants as indexed
use Rattle.jm_class_format.specs.Opcodes.{opcode_at}
use Rattle.jm_class_format.specs.Instructions.{near_target, far_target, new_array, new_arrays, invoke_interface, increment, wide_increment, wide_operands, wide, operands, instruction}
use Rattle.jm_class_format.specs.Code.{plain_numbered, instr_numbered}
use Rattle.jm_encode.specs.declared.fault.EncodeFault.{EncodeFault}
use Rattle.jm_encode.specs.OpcodeBytes.{simple_byte, load_byte, store_byte, branch_byte, array_load_byte, array_store_byte, element_code, return_byte, monitor_byte, field_byte, invoke_byte, type_byte}
use Rattle.jm_encode.specs.Encoding.{has_bytes, local_size, is_short_increment, plain_size, array_size, type_size, size_at, near_text, far_text, branch_text, local_text, increment_text, constant_text, plain_text, array_text, type_text, text_at}
use Rattle.jm_encode.specs.Ranges.{PlainInRange, InRange}
use Rattle.jm_encode.proofs.Rows.{simple_row, load_row, store_row, branch_row, array_load_row, array_store_row, element_row, return_row, monitor_row, field_row, virtual_row, special_row, static_row, type_row, push_byte_row, push_short_row, load_constant_row, load_constant_wide_row, load_long_row, increment_row, table_switch_row, lookup_switch_row, interface_row, new_row, new_array_row, length_row, throw_row, wide_row}
use Rattle.jm_encode.proofs.Opcodes.{instruction_text, last_text}
use Rattle.jm_encode.proofs.Targets.{offset_in, AreStarts, near_is, far_is, number_there}
use Rattle.jm_encode.proofs.Switches.{table_at, lookup_at, table_is, lookup_is}

-- ---- with offsets for targets

abbrev pub plain_at : List ℕ → Plain → Plain
plain_at starts (plain.Branch branch target) = plain.Branch branch (offset_in starts target)
plain_at starts (plain.TableSwitch t) = plain.TableSwitch (table_at starts t)
plain_at starts (plain.LookupSwitch l) = plain.LookupSwitch (lookup_at starts l)
plain_at starts other = other

abbrev pub instr_at : List ℕ → IndexedInstr → IndexedInstr
instr_at starts (indexed.Plain p) = indexed.Plain (plain_at starts p)
instr_at starts other = other

pub record InstrSpelled (starts : List ℕ) (at : ℕ) (instr : IndexedInstr) (text : List ℕ) : Type 0 where
  pub size : length text ≡ size_at at instr
  pub spelled : (instruction at).Spells text (instr_at starts instr)
  pub numbered : instr_numbered starts (instr_at starts instr) ≡ Ok instr

-- the one text that there is
this_text : (starts : List ℕ) (at : ℕ) (instr : IndexedInstr) (one text : List ℕ) → InstrSpelled starts at instr one → ◌≡◌ {A = Result (List ℕ) EncodeFault} (Ok one) (Ok text) → InstrSpelled starts at instr text
this_text starts at instr one text h e = subst (InstrSpelled starts at instr) (same_Ok {F = EncodeFault} one text e) h

-- ---- loads and stores, short and wide

wide_text : (at byte : ℕ) (op : Opcode) (back : List ℕ) (instr : IndexedInstr) → opcode_at byte ≡ Some op → (wide_operands at op).Spells back instr → (instruction at).Spells (196 ∷ byte ∷ back) instr
unfolding operands wide
wide_text at byte op back instr e h = instruction_text at 196 opcode.Wide (byte ∷ back) instr wide_row
    (record {
      front = byte ∷ [];
      back = back;
      value = byte;
      parts = refl;
      first = (refl, omega arith);
      second = record { front = []; back = back; value = op; parts = refl; first = (refl, e); second = h };
    })

pub local_text_size : (byte local : ℕ) → length (local_text byte local) ≡ local_size local
unfolding local_text local_size
local_text_size byte local = elim (nat_le local 255) as (λ b. length (cond b (byte ∷ to_be_bytes w8 local) (196 ∷ byte ∷ to_be_bytes w16 local)) ≡ cond b 2 4) [ true ↦ refl | false ↦ refl ]

load_spelled : (at local : ℕ) (kind : OperandType) → local < 2 ^ 16 → (instruction at).Spells (local_text (load_byte kind) local) (indexed.Plain (plain.Load kind local))
unfolding local_text operands wide_operands
load_spelled at local kind range =
    (elim (nat_le local 255) as (λ b. nat_le local 255 ≡ b → (instruction at).Spells (cond b (load_byte kind ∷ to_be_bytes w8 local) (196 ∷ load_byte kind ∷ to_be_bytes w16 local)) (indexed.Plain (plain.Load kind local))) [
      | true ↦ λ e. let le = leb-true local 255 e in instruction_text at (load_byte kind) (opcode.Load kind) (to_be_bytes w8 local) _ (load_row kind) (last_text (u1 (code_fault.Cut at)) (λ n. indexed.Plain (plain.Load kind n)) (to_be_bytes w8 local) local (u1_text local (omega arith)))
      | false ↦ λ e. wide_text at (load_byte kind) (opcode.Load kind) (to_be_bytes w16 local) _ (load_row kind) (last_text (u2 (code_fault.Cut at)) (λ n. indexed.Plain (plain.Load kind n)) (to_be_bytes w16 local) local (u2_text local range))
    ]) refl

store_spelled : (at local : ℕ) (kind : OperandType) → local < 2 ^ 16 → (instruction at).Spells (local_text (store_byte kind) local) (indexed.Plain (plain.Store kind local))
unfolding local_text operands wide_operands
store_spelled at local kind range =
    (elim (nat_le local 255) as (λ b. nat_le local 255 ≡ b → (instruction at).Spells (cond b (store_byte kind ∷ to_be_bytes w8 local) (196 ∷ store_byte kind ∷ to_be_bytes w16 local)) (indexed.Plain (plain.Store kind local))) [
      | true ↦ λ e. let le = leb-true local 255 e in instruction_text at (store_byte kind) (opcode.Store kind) (to_be_bytes w8 local) _ (store_row kind) (last_text (u1 (code_fault.Cut at)) (λ n. indexed.Plain (plain.Store kind n)) (to_be_bytes w8 local) local (u1_text local (omega arith)))
      | false ↦ λ e. wide_text at (store_byte kind) (opcode.Store kind) (to_be_bytes w16 local) _ (store_row kind) (last_text (u2 (code_fault.Cut at)) (λ n. indexed.Plain (plain.Store kind n)) (to_be_bytes w16 local) local (u2_text local range))
    ]) refl

-- ---- iinc

fits_8 : (z : ℤ) → int_le (negsuc 127) z ≡ true → int_le z (pos 127) ≡ true → FitsSigned w8 z
fits_8 (pos n) low high = let le = leb-true n 127 high in record { sfits = omega arith }
fits_8 (negsuc n) low high = let le : n ≤ 127 = grind (arith, nat_tests) in record { sfits = omega arith }

short_parts : (local : ℕ) (n : ℤ) → is_short_increment local n ≡ true → (local < 2 ^ 8) × FitsSigned w8 n
unfolding is_short_increment
short_parts local n h =
    let a = both (nat_le local 255 && int_le (negsuc 127) n) (int_le n (pos 127)) h in
    let b = both (nat_le local 255) (int_le (negsuc 127) n) a.0 in
    let le = leb-true local 255 b.0 in
    (omega arith, fits_8 n b.1 a.1)

pub increment_size : (local : ℕ) (n : ℤ) → length (increment_text local n) ≡ cond (is_short_increment local n) 3 6
unfolding increment_text
increment_size local n = elim (is_short_increment local n) as (λ b. length (cond b (132 ∷ (to_be_bytes w8 local ++ signed_bytes w8 n)) (196 ∷ 132 ∷ (to_be_bytes w16 local ++ signed_bytes w16 n))) ≡ cond b 3 6) [ true ↦ refl | false ↦ refl ]

increment_spelled : (at local : ℕ) (n : ℤ) → local < 2 ^ 16 → FitsSigned w16 n → (instruction at).Spells (increment_text local n) (indexed.Plain (plain.Increment local n))
unfolding increment_text operands wide_operands increment wide_increment
increment_spelled at local n range fits =
    (elim (is_short_increment local n) as (λ b. is_short_increment local n ≡ b → (instruction at).Spells (cond b (132 ∷ (to_be_bytes w8 local ++ signed_bytes w8 n)) (196 ∷ 132 ∷ (to_be_bytes w16 local ++ signed_bytes w16 n))) (indexed.Plain (plain.Increment local n))) [
      | true ↦ λ e. let p = short_parts local n e in instruction_text at 132 opcode.Increment (to_be_bytes w8 local ++ signed_bytes w8 n) _ increment_row
          (record { front = to_be_bytes w8 local; back = signed_bytes w8 n; value = local; parts = refl; first = u1_text local p.0; second = last_text (s1 (code_fault.Cut at)) (λ m. indexed.Plain (plain.Increment local m)) (signed_bytes w8 n) n (s1_text n p.1) })
      | false ↦ λ e. wide_text at 132 opcode.Increment (to_be_bytes w16 local ++ signed_bytes w16 n) _ increment_row
          (record { front = to_be_bytes w16 local; back = signed_bytes w16 n; value = local; parts = refl; first = u2_text local range; second = last_text (s2 (code_fault.Cut at)) (λ m. indexed.Plain (plain.Increment local m)) (signed_bytes w16 n) n (s2_text n fits) })
    ]) refl

-- ---- branches

target_numbered : (starts : List ℕ) (b : Branch) (target : ℕ) → AreStarts starts → target < length starts → instr_numbered starts (indexed.Plain (plain.Branch b (offset_in starts target))) ≡ Ok (indexed.Plain (plain.Branch b target))
unfolding instr_numbered plain_numbered
target_numbered starts b target good lt = rw (number_there starts target good lt) refl

pub record BranchSpelled (starts : List ℕ) (at : ℕ) (b : Branch) (target bytes : ℕ) (text : List ℕ) : Type 0 where
  pub size : length text ≡ bytes
  pub spelled : (instruction at).Spells text (indexed.Plain (plain.Branch b (offset_in starts target)))
  pub numbered : instr_numbered starts (indexed.Plain (plain.Branch b (offset_in starts target))) ≡ Ok (indexed.Plain (plain.Branch b target))

near_branch_is : (starts : List ℕ) (at : ℕ) (b : Branch) (target : ℕ) (text : List ℕ) → AreStarts starts → opcode_at (branch_byte b) ≡ Some (opcode.Branch b) → and_then (near_text starts at target) (λ t. Ok (branch_byte b ∷ t)) ≡ Ok text → BranchSpelled starts at b target 3 text
unfolding operands
near_branch_is starts at b target text good row h =
    let a = and_then_ok (near_text starts at target) (λ t. Ok (branch_byte b ∷ t)) text h in
    let near = near_is starts at target a.0 a.1 in
    subst (BranchSpelled starts at b target 3) (same_Ok {F = EncodeFault} (branch_byte b ∷ a.0) text a.2) (record {
      size = omega (arith, near.1);
      spelled = instruction_text at (branch_byte b) (opcode.Branch b) a.0 _ row (last_text (near_target at) (λ n. indexed.Plain (plain.Branch b n)) a.0 (offset_in starts target) near.2);
      numbered = target_numbered starts b target good near.0;
    })

far_branch_is : (starts : List ℕ) (at : ℕ) (target : ℕ) (text : List ℕ) → AreStarts starts → at ≤ 65535 → and_then (far_text starts at target) (λ t. Ok (branch_byte branch.GotoW ∷ t)) ≡ Ok text → BranchSpelled starts at branch.GotoW target 5 text
unfolding operands
far_branch_is starts at target text good low h =
    let a = and_then_ok (far_text starts at target) (λ t. Ok (branch_byte branch.GotoW ∷ t)) text h in
    let far = far_is starts at target a.0 good low a.1 in
    subst (BranchSpelled starts at branch.GotoW target 5) (same_Ok {F = EncodeFault} (branch_byte branch.GotoW ∷ a.0) text a.2) (record {
      size = omega (arith, far.1);
      spelled = instruction_text at (branch_byte branch.GotoW) (opcode.BranchWide branch.GotoW) a.0 _ (branch_row branch.GotoW) (last_text (far_target at) (λ n. indexed.Plain (plain.Branch branch.GotoW n)) a.0 (offset_in starts target) far.2);
      numbered = target_numbered starts branch.GotoW target good far.0;
    })

branch_is : (starts : List ℕ) (at : ℕ) (b : Branch) (target : ℕ) (text : List ℕ) → AreStarts starts → at ≤ 65535 → branch_text starts at b target ≡ Ok text → BranchSpelled starts at b target (plain_size at (plain.Branch b target)) text
unfolding branch_text plain_size
branch_is starts at (branch.If c) target text good low h = near_branch_is starts at (branch.If c) target text good (branch_row (branch.If c)) h
branch_is starts at (branch.IfInts c) target text good low h = near_branch_is starts at (branch.IfInts c) target text good (branch_row (branch.IfInts c)) h
branch_is starts at (branch.IfReferences e) target text good low h = near_branch_is starts at (branch.IfReferences e) target text good (branch_row (branch.IfReferences e)) h
branch_is starts at (branch.IfNull e) target text good low h = near_branch_is starts at (branch.IfNull e) target text good (branch_row (branch.IfNull e)) h
branch_is starts at branch.Goto target text good low h = near_branch_is starts at branch.Goto target text good (branch_row branch.Goto) h
branch_is starts at branch.GotoW target text good low h = far_branch_is starts at target text good low h

-- ---- those that touch one frame alone

-- how many pairs a code has room for
few_pairs : (at count : ℕ) → at + 8 * count ≤ 65535 → count < 2 ^ 31
few_pairs at count h = omega arith

pub plain_is : (starts : List ℕ) (at : ℕ) (p : Plain) (text : List ℕ) → AreStarts starts → at + size_at at (indexed.Plain p) ≤ 65535 → PlainInRange p → has_bytes (indexed.Plain p) ≡ true → plain_text starts at p ≡ Ok text → InstrSpelled starts at (indexed.Plain p) text
unfolding plain_text size_at plain_size instr_numbered plain_numbered operands has_bytes
plain_is starts at (plain.Simple s) text good room range rule h =
    this_text starts at (indexed.Plain (plain.Simple s)) (simple_byte s ∷ []) text (record {
      size = refl;
      spelled = instruction_text at (simple_byte s) (opcode.Simple s) [] _ (simple_row s) (refl, refl);
      numbered = refl;
    }) h
plain_is starts at (plain.PushByte n) text good room range rule h =
    this_text starts at (indexed.Plain (plain.PushByte n)) (16 ∷ signed_bytes w8 n) text (record {
      size = refl;
      spelled = instruction_text at 16 opcode.PushByte (signed_bytes w8 n) _ push_byte_row (last_text (s1 (code_fault.Cut at)) (λ m. indexed.Plain (plain.PushByte m)) (signed_bytes w8 n) n (s1_text n range));
      numbered = refl;
    }) h
plain_is starts at (plain.PushShort n) text good room range rule h =
    this_text starts at (indexed.Plain (plain.PushShort n)) (17 ∷ signed_bytes w16 n) text (record {
      size = refl;
      spelled = instruction_text at 17 opcode.PushShort (signed_bytes w16 n) _ push_short_row (last_text (s2 (code_fault.Cut at)) (λ m. indexed.Plain (plain.PushShort m)) (signed_bytes w16 n) n (s2_text n range));
      numbered = refl;
    }) h
plain_is starts at (plain.Load kind local) text good room range rule h =
    this_text starts at (indexed.Plain (plain.Load kind local)) (local_text (load_byte kind) local) text (record { size = local_text_size (load_byte kind) local; spelled = load_spelled at local kind range; numbered = refl }) h
plain_is starts at (plain.Store kind local) text good room range rule h =
    this_text starts at (indexed.Plain (plain.Store kind local)) (local_text (store_byte kind) local) text (record { size = local_text_size (store_byte kind) local; spelled = store_spelled at local kind range; numbered = refl }) h
plain_is starts at (plain.Increment local n) text good room range rule h =
    this_text starts at (indexed.Plain (plain.Increment local n)) (increment_text local n) text (record { size = increment_size local n; spelled = increment_spelled at local n range.0 range.1; numbered = refl }) h
plain_is starts at (plain.Branch b target) text good room range rule h =
    let low : at ≤ 65535 = omega arith in
    let is = branch_is starts at b target text good low h in
    record { size = is.size; spelled = is.spelled; numbered = is.numbered }
plain_is starts at (plain.TableSwitch t) text good room range rule h =
    let low : at ≤ 65535 = omega arith in
    let is = table_is starts at t text good low range rule h in
    let P : List ℕ → Type 0 = InstrSpelled starts at (indexed.Plain (plain.TableSwitch t)) in
    subst P (sym is.1) (record {
      size = omega (arith, is.2.size);
      spelled = instruction_text at 170 opcode.TableSwitch is.0 _ table_switch_row is.2.spelled;
      numbered = rw is.2.numbered refl;
    })
plain_is starts at (plain.LookupSwitch l) text good room range rule h =
    let low : at ≤ 65535 = omega arith in
    let few : length l.pairs < 2 ^ 31 = few_pairs at (length l.pairs) (omega arith) in
    let is = lookup_is starts at l text good low range rule few h in
    let P : List ℕ → Type 0 = InstrSpelled starts at (indexed.Plain (plain.LookupSwitch l)) in
    subst P (sym is.1) (record {
      size = omega (arith, is.2.size);
      spelled = instruction_text at 171 opcode.LookupSwitch is.0 _ lookup_switch_row is.2.spelled;
      numbered = rw is.2.numbered refl;
    })

-- ---- those of arrays

array_is : (starts : List ℕ) (at : ℕ) (op : ArrayOp) → InstrSpelled starts at (indexed.Array op) (array_text op)
unfolding array_text size_at array_size instr_numbered operands new_array
array_is starts at (array.Load kind) = record { size = refl; spelled = instruction_text at (array_load_byte kind) (opcode.Array (array.Load kind)) [] _ (array_load_row kind) (refl, refl); numbered = refl }
array_is starts at (array.Store kind) = record { size = refl; spelled = instruction_text at (array_store_byte kind) (opcode.Array (array.Store kind)) [] _ (array_store_row kind) (refl, refl); numbered = refl }
array_is starts at array.Length = record { size = refl; spelled = instruction_text at 190 (opcode.Array array.Length) [] _ length_row (refl, refl); numbered = refl }
array_is starts at (array.New element) =
    record {
      size = refl;
      spelled = instruction_text at 188 opcode.NewArray (element_code element ∷ []) _ new_array_row
          (record {
            front = element_code element ∷ [];
            back = [];
            value = element_code element;
            parts = refl;
            first = (refl, omega arith);
            second = record { front = []; back = []; value = element; parts = refl; first = (refl, element_row at element); second = (refl, refl) };
          });
      numbered = refl;
    }

-- ---- those that name an entry of the pool

invoke_is : (starts : List ℕ) (at : ℕ) (op : InvokeOp) (index : ℕ) → opcode_at (invoke_byte op) ≡ Some (opcode.Invoke op) → index < 2 ^ 16 → InstrSpelled starts at (indexed.Invoke op index) (invoke_byte op ∷ to_be_bytes w16 index)
unfolding size_at instr_numbered operands
invoke_is starts at op index row range =
    record { size = refl; spelled = instruction_text at (invoke_byte op) (opcode.Invoke op) (to_be_bytes w16 index) _ row (last_text (u2 (code_fault.Cut at)) (λ i. indexed.Invoke op i) (to_be_bytes w16 index) index (u2_text index range)); numbered = refl }

constant_is : (starts : List ℕ) (at index : ℕ) → index < 2 ^ 16 → InstrSpelled starts at (indexed.Constant index) (constant_text index)
unfolding constant_text size_at instr_numbered operands
constant_is starts at index range =
    let size : length (constant_text index) ≡ cond (nat_le index 255) 2 3 = elim (nat_le index 255) as (λ b. length (cond b (18 ∷ to_be_bytes w8 index) (19 ∷ to_be_bytes w16 index)) ≡ cond b 2 3) [ true ↦ refl | false ↦ refl ] in
    let spelled : (b : Bool) → nat_le index 255 ≡ b → (instruction at).Spells (cond b (18 ∷ to_be_bytes w8 index) (19 ∷ to_be_bytes w16 index)) (indexed.Constant index) = λ b.
    elim b as (λ b. nat_le index 255 ≡ b → (instruction at).Spells (cond b (18 ∷ to_be_bytes w8 index) (19 ∷ to_be_bytes w16 index)) (indexed.Constant index)) [
      | true ↦ λ e. let le = leb-true index 255 e in instruction_text at 18 opcode.LoadConstant (to_be_bytes w8 index) _ load_constant_row (last_text (u1 (code_fault.Cut at)) (λ i. indexed.Constant i) (to_be_bytes w8 index) index (u1_text index (omega arith)))
      | false ↦ λ e. instruction_text at 19 opcode.LoadConstantWide (to_be_bytes w16 index) _ load_constant_wide_row (last_text (u2 (code_fault.Cut at)) (λ i. indexed.Constant i) (to_be_bytes w16 index) index (u2_text index range))
    ] in
    record { size = size; spelled = spelled (nat_le index 255) refl; numbered = refl }

interface_is : (starts : List ℕ) (at index count last : ℕ) → index < 2 ^ 16 → count < 2 ^ 8 → last < 2 ^ 8 → InstrSpelled starts at (indexed.InvokeInterface index count last) (185 ∷ (to_be_bytes w16 index ++ (to_be_bytes w8 count ++ to_be_bytes w8 last)))
unfolding size_at instr_numbered operands invoke_interface
interface_is starts at index count last range one two =
    record {
      size = refl;
      spelled = instruction_text at 185 opcode.InvokeInterface (to_be_bytes w16 index ++ (to_be_bytes w8 count ++ to_be_bytes w8 last)) _ interface_row
          (record {
            front = to_be_bytes w16 index;
            back = to_be_bytes w8 count ++ to_be_bytes w8 last;
            value = index;
            parts = refl;
            first = u2_text index range;
            second = record { front = to_be_bytes w8 count; back = to_be_bytes w8 last; value = count; parts = refl; first = u1_text count one; second = last_text (u1 (code_fault.Cut at)) (λ l. indexed.InvokeInterface index count l) (to_be_bytes w8 last) last (u1_text last two) };
          });
      numbered = refl;
    }

named_type : (at index : ℕ) (op : TypeOp) → opcode_at (type_byte op) ≡ Some (opcode.Type op) → index < 2 ^ 16 → (instruction at).Spells (type_byte op ∷ to_be_bytes w16 index) (indexed.Type op index)
unfolding operands
named_type at index op row range = instruction_text at (type_byte op) (opcode.Type op) (to_be_bytes w16 index) _ row (last_text (u2 (code_fault.Cut at)) (λ i. indexed.Type op i) (to_be_bytes w16 index) index (u2_text index range))

type_is : (starts : List ℕ) (at : ℕ) (op : TypeOp) (index : ℕ) → InRange (indexed.Type op index) → InstrSpelled starts at (indexed.Type op index) (type_text op index)
unfolding size_at type_size type_text instr_numbered operands new_arrays
type_is starts at type.NewArray index range = record { size = refl; spelled = named_type at index type.NewArray (type_row type.NewArray) range; numbered = refl }
type_is starts at (type.NewArrays d) index range =
    record {
      size = refl;
      spelled = instruction_text at (type_byte (type.NewArrays d)) opcode.NewArrays (to_be_bytes w16 index ++ to_be_bytes w8 d) _ (type_row (type.NewArrays d))
          (record {
            front = to_be_bytes w16 index;
            back = to_be_bytes w8 d;
            value = index;
            parts = refl;
            first = u2_text index range.0;
            second = last_text (u1 (code_fault.Cut at)) (λ n. indexed.Type (type.NewArrays n) index) (to_be_bytes w8 d) d (u1_text d range.1);
          });
      numbered = refl;
    }
type_is starts at type.CheckCast index range = record { size = refl; spelled = named_type at index type.CheckCast (type_row type.CheckCast) range; numbered = refl }
type_is starts at type.InstanceOf index range = record { size = refl; spelled = named_type at index type.InstanceOf (type_row type.InstanceOf) range; numbered = refl }

-- ---- all of them

pub instr_is : (starts : List ℕ) (at : ℕ) (instr : IndexedInstr) (text : List ℕ) → AreStarts starts → at + size_at at instr ≤ 65535 → InRange instr → has_bytes instr ≡ true → text_at starts at instr ≡ Ok text → InstrSpelled starts at instr text
unfolding text_at size_at instr_numbered operands has_bytes
instr_is starts at (indexed.Plain p) text good room range rule h = plain_is starts at p text good room range rule h
instr_is starts at (indexed.Array op) text good room range rule h = this_text starts at (indexed.Array op) (array_text op) text (array_is starts at op) h
instr_is starts at (indexed.Return op) text good room range rule h =
    this_text starts at (indexed.Return op) (return_byte op ∷ []) text (record { size = refl; spelled = instruction_text at (return_byte op) (opcode.Return op) [] _ (return_row op) (refl, refl); numbered = refl }) h
instr_is starts at indexed.Throw text good room range rule h =
    this_text starts at indexed.Throw (191 ∷ []) text (record { size = refl; spelled = instruction_text at 191 opcode.Throw [] _ throw_row (refl, refl); numbered = refl }) h
instr_is starts at (indexed.Monitor op) text good room range rule h =
    this_text starts at (indexed.Monitor op) (monitor_byte op ∷ []) text (record { size = refl; spelled = instruction_text at (monitor_byte op) (opcode.Monitor op) [] _ (monitor_row op) (refl, refl); numbered = refl }) h
instr_is starts at (indexed.Constant index) text good room range rule h = this_text starts at (indexed.Constant index) (constant_text index) text (constant_is starts at index range) h
instr_is starts at (indexed.LongConstant index) text good room range rule h =
    this_text starts at (indexed.LongConstant index) (20 ∷ to_be_bytes w16 index) text (record { size = refl; spelled = instruction_text at 20 opcode.LoadLong (to_be_bytes w16 index) _ load_long_row (last_text (u2 (code_fault.Cut at)) (λ i. indexed.LongConstant i) (to_be_bytes w16 index) index (u2_text index range)); numbered = refl }) h
instr_is starts at (indexed.Field op index) text good room range rule h =
    this_text starts at (indexed.Field op index) (field_byte op ∷ to_be_bytes w16 index) text (record { size = refl; spelled = instruction_text at (field_byte op) (opcode.Field op) (to_be_bytes w16 index) _ (field_row op) (last_text (u2 (code_fault.Cut at)) (λ i. indexed.Field op i) (to_be_bytes w16 index) index (u2_text index range)); numbered = refl }) h
instr_is starts at (indexed.Invoke invoke.Virtual index) text good room range rule h = this_text starts at (indexed.Invoke invoke.Virtual index) (invoke_byte invoke.Virtual ∷ to_be_bytes w16 index) text (invoke_is starts at invoke.Virtual index virtual_row range) h
instr_is starts at (indexed.Invoke invoke.Special index) text good room range rule h = this_text starts at (indexed.Invoke invoke.Special index) (invoke_byte invoke.Special ∷ to_be_bytes w16 index) text (invoke_is starts at invoke.Special index special_row range) h
instr_is starts at (indexed.Invoke invoke.Static index) text good room range rule h = this_text starts at (indexed.Invoke invoke.Static index) (invoke_byte invoke.Static ∷ to_be_bytes w16 index) text (invoke_is starts at invoke.Static index static_row range) h
instr_is starts at (indexed.Invoke invoke.Interface index) text good room range rule h = absurd cc
instr_is starts at (indexed.InvokeInterface index count last) text good room range rule h =
    this_text starts at (indexed.InvokeInterface index count last) (185 ∷ (to_be_bytes w16 index ++ (to_be_bytes w8 count ++ to_be_bytes w8 last))) text (interface_is starts at index count last range.0 range.1 range.2) h
instr_is starts at (indexed.New index) text good room range rule h =
    this_text starts at (indexed.New index) (187 ∷ to_be_bytes w16 index) text (record { size = refl; spelled = instruction_text at 187 opcode.New (to_be_bytes w16 index) _ new_row (last_text (u2 (code_fault.Cut at)) (λ i. indexed.New i) (to_be_bytes w16 index) index (u2_text index range)); numbered = refl }) h
instr_is starts at (indexed.Type op index) text good room range rule h = this_text starts at (indexed.Type op index) (type_text op index) text (type_is starts at op index range) h
