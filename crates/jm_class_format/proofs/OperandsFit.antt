-- An instruction that bytes spell keeps the rules of its operands, whatever its targets are (JVMS 6.5).
use Rattle.std.proofs.Common.{◌≡◌, ℕ, suc, ◌+◌, ◌-◌, Bool, true, false, ◌&&◌, nat_lt, List, [], ◌∷◌, ◌++◌, length, Option, Some, None, refl, sym, ap, subst, ◌∙◌, arith}
use Rattle.std.specs.Prelude.{ℤ, pos, negsuc, ◌+ℤ◌, ◌-ℤ◌, int_le, int_lt, slice_get}
use Rattle.std.specs.Option.{option_map}
use Rattle.std.specs.List.{list_all}
use Rattle.std.specs.Int.{w32, cast_signed, from_be_bytes}
use Rattle.std.proofs.lemmas.Int.{ints}
use Rattle.std.proofs.lemmas.Option.{same_Some}
use Rattle.std.proofs.lemmas.Bool.{and_from}
use mir.Val.{sel}
use Rattle.jm_bytes.specs.Spelling.{IsRun}
use Rattle.jm_program.specs.Instructions.{is_above, keys_rise, has_high}
use Rattle.jm_program.specs.declared.instruction.plain.SwitchPair.{SwitchPair}
use Rattle.jm_program.specs.declared.instruction.plain.Plain.{Plain}
use Rattle.jm_program.specs.declared.instruction.plain.Plain.TheVariants as plain
use Rattle.jm_program.proofs.Truths.{both_true}
use Rattle.jm_class_format.specs.declared.opcode.Opcode.{Opcode}
use Rattle.jm_class_format.specs.declared.opcode.Opcode.TheVariants as opcode
use Rattle.jm_class_format.specs.declared.instruction.IndexedInstr.{IndexedInstr}
use Rattle.jm_class_format.specs.declared.instruction.IndexedInstr.TheVariants as indexed
use Rattle.jm_class_format.specs.declared.instruction.PlacedInstr.{PlacedInstr}
use Rattle.jm_class_format.specs.Instructions.{far_target, natural, count_from, switch_range, table_switch, last_key, next_pair, lookup_switch, new_array, new_arrays, invoke_interface, increment, wide_increment, wide_operands, wide, operands, instruction}
use Rattle.jm_class_format.specs.Code.{placed}
use Rattle.jm_class_format.proofs.Kept.{guard_held, many_count, repeated_keeps}

-- ---- what is kept before targets are numbers of instructions

abbrev pub plain_kept : Plain → Bool
plain_kept (plain.TableSwitch t) = has_high t
plain_kept (plain.LookupSwitch l) = keys_rise None l.pairs
plain_kept _ = true

abbrev pub instr_kept : IndexedInstr → Bool
instr_kept (indexed.Plain p) = plain_kept p
instr_kept _ = true

abbrev Kept : IndexedInstr → Type 0
Kept i = instr_kept i ≡ true

-- ---- tableswitch

below_by : (b : Bool) (n m : ℕ) → nat_lt n 2147483648 ≡ b → int_lt (sel b (pos n) (negsuc m)) (pos 2147483648) ≡ true
below_by true n m h = grind (arith, ints)
below_by false n m h = grind (arith, ints)

-- four bytes in two's complement are an int
signed_small : (n : ℕ) → int_lt (cast_signed w32 n) (pos 2147483648) ≡ true
signed_small n = below_by (nat_lt n 2147483648) n (4294967296 - suc n) refl

difference_is : (z : ℤ) (m : ℕ) → natural z ≡ Some m → z ≡ pos m
unfolding natural
difference_is (pos n) m h = ap pos (same_Some n m h)
difference_is (negsuc n) m h = absurd cc

count_is : (o : Option ℕ) (count : ℕ) → option_map (λ n. n + 1) o ≡ Some count → (m : ℕ) × (o ≡ Some m) × (m + 1 ≡ count)
count_is None count h = absurd cc
count_is (Some m) count h = (m, refl, same_Some (m + 1) count h)

high_kept : (low high : ℤ) (m count : ℕ) → high -ℤ low ≡ pos m → m + 1 ≡ count → int_lt high (pos 2147483648) ≡ true → int_le (low +ℤ pos count) (pos 2147483648) ≡ true
high_kept low high m count is more most = grind (arith, ints)

range_kept : (low high : ℤ) (count : ℕ) → int_lt high (pos 2147483648) ≡ true → count_from low high ≡ Some count → (nat_lt 0 count ≡ true) × (int_le (low +ℤ pos count) (pos 2147483648) ≡ true)
unfolding count_from
range_kept low high count most h =
    let c = count_is (natural (high -ℤ low)) count h in
    let some : nat_lt 0 count ≡ true = grind (arith, c.2) in
    (some, high_kept low high c.0 count (difference_is (high -ℤ low) c.0 c.1) c.2 most)

table_kept : (at : ℕ) (bytes : List ℕ) (i : IndexedInstr) → (table_switch at).Spells bytes i → Kept i
unfolding table_switch switch_range
table_kept at bytes i h =
    let default : ℕ = h.second.value in
    let range = h.second.second.first in
    let low : ℤ = range.value in
    let count : ℕ = range.second.second.value in
    let most : int_lt range.second.value (pos 2147483648) ≡ true = subst (λ (z : ℤ). int_lt z (pos 2147483648) ≡ true) range.second.first.1 (signed_small (from_be_bytes w32 range.second.front)) in
    let kept = range_kept low range.second.value count most range.second.second.first.1 in
    let ints : (low, count) ≡ h.second.second.value = range.second.second.second.1 in
    let targets : List ℕ = h.second.second.second.value in
    let long : length targets ≡ count = many_count (far_target at) h.second.second.value.1 h.second.second.second.front targets h.second.second.second.first ∙ sym (ap (λ (p : ℤ × ℕ). p.1) ints) in
    let high : (nat_lt 0 (length targets) && int_le (low +ℤ pos (length targets)) (pos 2147483648)) ≡ true =
    and_from (nat_lt 0 (length targets)) (int_le (low +ℤ pos (length targets)) (pos 2147483648)) (ap (λ (n : ℕ). nat_lt 0 n) long ∙ kept.0) (ap (λ (n : ℕ). int_le (low +ℤ pos n) (pos 2147483648)) long ∙ kept.1) in
    let made : has_high (record { low = h.second.second.value.0; targets = targets; default = default }) ≡ true = subst (λ (p : ℤ × ℕ). has_high (record { low = p.0; targets = targets; default = default }) ≡ true) ints high in
    subst Kept h.second.second.second.second.1 made

-- ---- lookupswitch

abbrev last_or : Option ℤ → List SwitchPair → Option ℤ
last_or previous [] = previous
last_or previous (p ∷ ps) = last_or (Some p.key) ps

last_is : (p : SwitchPair) (ps : List SwitchPair) → last_key (p ∷ ps) ≡ last_or (Some p.key) ps
last_is p [] = refl
last_is p (q ∷ qs) =
    let k : length (p ∷ q ∷ qs) - 1 ≡ suc (length (q ∷ qs) - 1) = omega arith in
    ap (λ (n : ℕ). option_map (λ (x : SwitchPair). x.key) (slice_get (p ∷ q ∷ qs) n)) k ∙ last_is q qs

last_of : (ps : List SwitchPair) → last_key ps ≡ last_or None ps
last_of [] = refl
last_of (p ∷ ps) = last_is p ps

rise_more : (previous : Option ℤ) (ps : List SwitchPair) (p : SwitchPair) → keys_rise previous ps ≡ true → is_above (last_or previous ps) p.key ≡ true → keys_rise previous (ps ++ p ∷ []) ≡ true
rise_more previous [] p rise above = and_from (is_above previous p.key) true above refl
rise_more previous (q ∷ qs) p rise above =
    let a = both_true (is_above previous q.key) (keys_rise (Some q.key) qs) rise in
    and_from (is_above previous q.key) (keys_rise (Some q.key) (qs ++ p ∷ [])) a.0 (rise_more (Some q.key) qs p a.1 above)

abbrev Rise : List SwitchPair → Type 0
Rise ps = keys_rise None ps ≡ true

next_rises : (at : ℕ) (ps : List SwitchPair) (bytes : List ℕ) (qs : List SwitchPair) → Rise ps → (next_pair at ps).Spells bytes qs → Rise qs
unfolding next_pair
next_rises at ps bytes qs rise h =
    let key : ℤ = h.value in
    let p : SwitchPair = record { key = key; target = h.second.second.value } in
    let above : is_above (last_key ps) key ≡ true = guard_held (is_above (last_key ps) key) h.second.first.1 in
    subst Rise h.second.second.second.1 (rise_more None ps p rise (ap (λ (o : Option ℤ). is_above o key) (sym (last_of ps)) ∙ above))

lookup_kept : (at : ℕ) (bytes : List ℕ) (i : IndexedInstr) → (lookup_switch at).Spells bytes i → Kept i
unfolding lookup_switch
lookup_kept at bytes i h =
    let pairs = h.second.second.second in
    subst Kept pairs.second.1 (repeated_keeps Rise (next_pair at) (next_rises at) h.second.second.value [] pairs.front pairs.value refl pairs.first)

-- ---- all instructions

wide_kept : (at : ℕ) (kind : Opcode) (bytes : List ℕ) (i : IndexedInstr) → (wide_operands at kind).Spells bytes i → Kept i
unfolding wide_operands wide_increment
wide_kept at (opcode.Load kind) bytes i h = subst Kept h.second.1 refl
wide_kept at (opcode.Store kind) bytes i h = subst Kept h.second.1 refl
wide_kept at opcode.Increment bytes i h = subst Kept h.second.second.1 refl
wide_kept at (opcode.LeftOut op) bytes i h = absurd (cc h.1)
wide_kept at other bytes i h = absurd (cc h.1)

operands_kept : (at : ℕ) (kind : Opcode) (bytes : List ℕ) (i : IndexedInstr) → (operands at kind).Spells bytes i → Kept i
unfolding operands increment new_array new_arrays invoke_interface wide
operands_kept at (opcode.Simple simple) bytes i h = subst Kept h.1 refl
operands_kept at (opcode.Array op) bytes i h = subst Kept h.1 refl
operands_kept at (opcode.Return op) bytes i h = subst Kept h.1 refl
operands_kept at opcode.Throw bytes i h = subst Kept h.1 refl
operands_kept at (opcode.Monitor op) bytes i h = subst Kept h.1 refl
operands_kept at opcode.PushByte bytes i h = subst Kept h.second.1 refl
operands_kept at opcode.PushShort bytes i h = subst Kept h.second.1 refl
operands_kept at opcode.LoadConstant bytes i h = subst Kept h.second.1 refl
operands_kept at opcode.LoadConstantWide bytes i h = subst Kept h.second.1 refl
operands_kept at opcode.LoadLong bytes i h = subst Kept h.second.1 refl
operands_kept at (opcode.Load kind) bytes i h = subst Kept h.second.1 refl
operands_kept at (opcode.Store kind) bytes i h = subst Kept h.second.1 refl
operands_kept at opcode.Increment bytes i h = subst Kept h.second.second.1 refl
operands_kept at (opcode.Branch branch) bytes i h = subst Kept h.second.1 refl
operands_kept at (opcode.BranchWide branch) bytes i h = subst Kept h.second.1 refl
operands_kept at opcode.TableSwitch bytes i h = table_kept at bytes i h
operands_kept at opcode.LookupSwitch bytes i h = lookup_kept at bytes i h
operands_kept at (opcode.Field op) bytes i h = subst Kept h.second.1 refl
operands_kept at (opcode.Invoke op) bytes i h = subst Kept h.second.1 refl
operands_kept at opcode.InvokeInterface bytes i h = subst Kept h.second.second.second.1 refl
operands_kept at opcode.New bytes i h = subst Kept h.second.1 refl
operands_kept at opcode.NewArray bytes i h = subst Kept h.second.second.1 refl
operands_kept at (opcode.Type op) bytes i h = subst Kept h.second.1 refl
operands_kept at opcode.NewArrays bytes i h = subst Kept h.second.second.1 refl
operands_kept at opcode.Wide bytes i h = wide_kept at h.second.value h.second.back i h.second.second
operands_kept at (opcode.LeftOut op) bytes i h = absurd (cc h.1)

placed_kept : (at : ℕ) (bytes : List ℕ) (p : PlacedInstr) → (placed at).Spells bytes p → Kept p.instr
unfolding placed instruction
placed_kept at bytes p h =
    let instr = h.second in
    subst (λ (q : PlacedInstr). Kept q.instr) instr.second.1 (operands_kept at instr.first.second.value instr.first.second.back instr.value instr.first.second.second)

pub run_kept : (at : ℕ) (ps : List PlacedInstr) (bytes : List ℕ) → IsRun (λ n. (placed n).Spells) at ps bytes → list_all (λ (p : PlacedInstr). instr_kept p.instr) ps ≡ true
run_kept at [] bytes h = refl
run_kept at (p ∷ ps) bytes h = and_from (instr_kept p.instr) (list_all (λ (p : PlacedInstr). instr_kept p.instr) ps) (placed_kept at h.0 p h.3) (run_kept (at + length h.0) ps h.1 h.4)
