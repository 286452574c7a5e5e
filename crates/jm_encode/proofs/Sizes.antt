-- What is written for an instruction takes the size that it has, whatever numbers it is made of.
use Rattle.std.proofs.Common.{◌≡◌, ℕ, suc, ◌+◌, ◌*◌, true, false, cond, List, [], ◌∷◌, ◌++◌, length, replicate, Result, Ok, refl, sym, ap, ◌∙◌, arith}
use Rattle.std.specs.Prelude.{ℤ, nat_le}
use Rattle.std.specs.Int.{w8, w16, w32, to_be_bytes}
use Rattle.std.proofs.lemmas.List.{length-append, length-replicate}
use Rattle.jm_bytes.specs.Reading.{and_then}
use Rattle.jm_bytes.specs.Laws.{and_then_ok, same_Ok}
use Rattle.jm_bytes.specs.Writing.{signed_bytes}
use Rattle.jm_program.specs.declared.instruction.operation.Branch.{Branch}
use Rattle.jm_program.specs.declared.instruction.operation.Branch.TheVariants as branch
use Rattle.jm_program.specs.declared.instruction.operation.ArrayOp.{ArrayOp}
use Rattle.jm_program.specs.declared.instruction.operation.ArrayOp.TheVariants as array
use Rattle.jm_program.specs.declared.instruction.operation.TypeOp.{TypeOp}
use Rattle.jm_program.specs.declared.instruction.operation.TypeOp.TheVariants as type
use Rattle.jm_program.specs.declared.instruction.plain.SwitchPair.{SwitchPair}
use Rattle.jm_program.specs.declared.instruction.plain.TableSwitch.{TableSwitch}
use Rattle.jm_program.specs.declared.instruction.plain.LookupSwitch.{LookupSwitch}
use Rattle.jm_program.specs.declared.instruction.plain.Plain.{Plain}
use Rattle.jm_program.specs.declared.instruction.plain.Plain.TheVariants as plain
use Rattle.jm_class_format.specs.declared.instruction.IndexedInstr.{IndexedInstr}
use Rattle.jm_class_format.specs.declared.instruction.IndexedInstr.TheVariants as indexed
use Rattle.jm_encode.specs.declared.encoded.EncodedCode.{EncodedCode}
use Rattle.jm_encode.specs.declared.fault.EncodeFault.{EncodeFault}
use Rattle.jm_encode.specs.OpcodeBytes.{simple_byte, load_byte, store_byte, branch_byte, return_byte, monitor_byte, field_byte, invoke_byte}
use Rattle.jm_encode.specs.Encoding.{padding_size, plain_size, array_size, type_size, size_at, distance, in_16_bits, near_text, far_text, branch_text, texts, switch_text, range_text, table_text, pair_text, lookup_text, local_text, increment_text, constant_text, plain_text, array_text, type_text, text_at, placed_text, placed_from, end_from, encoded}
use Rattle.jm_encode.proofs.Instructions.{local_text_size, increment_size}
use Rattle.jm_encode.proofs.Codes.{encoded_ok}
use Rattle.jm_encode.proofs.Switches.{range_size}

-- the one text that there is
one_size : (one text : List ℕ) (n : ℕ) → length one ≡ n → ◌≡◌ {A = Result (List ℕ) EncodeFault} (Ok one) (Ok text) → length text ≡ n
one_size one text n size e = ap (λ (t : List ℕ). length t) (sym (same_Ok {F = EncodeFault} one text e)) ∙ size

-- ---- targets

near_size : (starts : List ℕ) (at target : ℕ) (text : List ℕ) → near_text starts at target ≡ Ok text → length text ≡ 2
unfolding near_text
near_size starts at target text h =
    let a = and_then_ok (distance starts at target) (λ jump. and_then (in_16_bits jump) (λ jump. Ok (signed_bytes w16 jump))) text h in
    let b = and_then_ok (in_16_bits a.0) (λ jump. Ok (signed_bytes w16 jump)) text a.2 in
    one_size (signed_bytes w16 b.0) text 2 refl b.2

far_size : (starts : List ℕ) (at target : ℕ) (text : List ℕ) → far_text starts at target ≡ Ok text → length text ≡ 4
unfolding far_text
far_size starts at target text h =
    let a = and_then_ok (distance starts at target) (λ jump. Ok (signed_bytes w32 jump)) text h in
    one_size (signed_bytes w32 a.0) text 4 refl a.2

near_branch_size : (starts : List ℕ) (at : ℕ) (b : Branch) (target : ℕ) (text : List ℕ) → and_then (near_text starts at target) (λ t. Ok (branch_byte b ∷ t)) ≡ Ok text → length text ≡ 3
near_branch_size starts at b target text h =
    let a = and_then_ok (near_text starts at target) (λ t. Ok (branch_byte b ∷ t)) text h in
    one_size (branch_byte b ∷ a.0) text 3 (omega (arith, near_size starts at target a.0 a.1)) a.2

far_branch_size : (starts : List ℕ) (at : ℕ) (target : ℕ) (text : List ℕ) → and_then (far_text starts at target) (λ t. Ok (branch_byte branch.GotoW ∷ t)) ≡ Ok text → length text ≡ 5
far_branch_size starts at target text h =
    let a = and_then_ok (far_text starts at target) (λ t. Ok (branch_byte branch.GotoW ∷ t)) text h in
    one_size (branch_byte branch.GotoW ∷ a.0) text 5 (omega (arith, far_size starts at target a.0 a.1)) a.2

branch_size : (starts : List ℕ) (at : ℕ) (b : Branch) (target : ℕ) (text : List ℕ) → branch_text starts at b target ≡ Ok text → length text ≡ plain_size at (plain.Branch b target)
unfolding branch_text plain_size
branch_size starts at (branch.If c) target text h = near_branch_size starts at (branch.If c) target text h
branch_size starts at (branch.IfInts c) target text h = near_branch_size starts at (branch.IfInts c) target text h
branch_size starts at (branch.IfReferences e) target text h = near_branch_size starts at (branch.IfReferences e) target text h
branch_size starts at (branch.IfNull e) target text h = near_branch_size starts at (branch.IfNull e) target text h
branch_size starts at branch.Goto target text h = near_branch_size starts at branch.Goto target text h
branch_size starts at branch.GotoW target text h = far_branch_size starts at target text h

-- ---- switches

-- texts of 4 bytes each, one after the other
all_of_4 : {A : Type 0} (text : A → Result (List ℕ) EncodeFault) → ((x : A) (t : List ℕ) → text x ≡ Ok t → length t ≡ 4) → (xs : List A) (t : List ℕ) → texts text xs ≡ Ok t → length t ≡ 4 * length xs
unfolding texts
all_of_4 text one [] t h = one_size [] t 0 refl h
all_of_4 text one (x ∷ xs) t h =
    let a = and_then_ok (text x) (λ front. and_then (texts text xs) (λ back. Ok (front ++ back))) t h in
    let b = and_then_ok (texts text xs) (λ back. Ok (a.0 ++ back)) t a.2 in
    let size : length (a.0 ++ b.0) ≡ 4 * suc (length xs) = omega (arith, length-append a.0 b.0, one x a.0 a.1, all_of_4 text one xs b.0 b.1) in
    one_size (a.0 ++ b.0) t _ size b.2

-- texts of 8 bytes each, one after the other
all_of_8 : {A : Type 0} (text : A → Result (List ℕ) EncodeFault) → ((x : A) (t : List ℕ) → text x ≡ Ok t → length t ≡ 8) → (xs : List A) (t : List ℕ) → texts text xs ≡ Ok t → length t ≡ 8 * length xs
unfolding texts
all_of_8 text one [] t h = one_size [] t 0 refl h
all_of_8 text one (x ∷ xs) t h =
    let a = and_then_ok (text x) (λ front. and_then (texts text xs) (λ back. Ok (front ++ back))) t h in
    let b = and_then_ok (texts text xs) (λ back. Ok (a.0 ++ back)) t a.2 in
    let size : length (a.0 ++ b.0) ≡ 8 * suc (length xs) = omega (arith, length-append a.0 b.0, one x a.0 a.1, all_of_8 text one xs b.0 b.1) in
    one_size (a.0 ++ b.0) t _ size b.2

table_size : (starts : List ℕ) (at : ℕ) (t : TableSwitch) (text : List ℕ) → table_text starts at t ≡ Ok text → length text ≡ plain_size at (plain.TableSwitch t)
unfolding table_text switch_text plain_size
table_size starts at t text h =
    let a = and_then_ok (far_text starts at t.default) (λ default. and_then (texts (far_text starts at) t.targets) (λ targets. Ok (switch_text at 170 ++ (default ++ (range_text t.low (length t.targets) ++ targets))))) text h in
    let b = and_then_ok (texts (far_text starts at) t.targets) (λ targets. Ok (switch_text at 170 ++ (a.0 ++ (range_text t.low (length t.targets) ++ targets)))) text a.2 in
    let zeros : List ℕ = replicate (padding_size at) 0 in
    let range_bytes : List ℕ = range_text t.low (length t.targets) in
    let size : length (170 ∷ (zeros ++ (a.0 ++ (range_bytes ++ b.0)))) ≡ 1 + padding_size at + 12 + 4 * length t.targets =
    omega (arith, length-append zeros (a.0 ++ (range_bytes ++ b.0)), length-append a.0 (range_bytes ++ b.0), length-append range_bytes b.0, length-replicate {A = ℕ} (padding_size at) 0, range_size t.low (length t.targets), far_size starts at t.default a.0 a.1, all_of_4 (far_text starts at) (far_size starts at) t.targets b.0 b.1) in
    one_size (170 ∷ (zeros ++ (a.0 ++ (range_bytes ++ b.0)))) text _ size b.2

pair_size : (starts : List ℕ) (at : ℕ) (pair : SwitchPair) (text : List ℕ) → pair_text starts at pair ≡ Ok text → length text ≡ 8
unfolding pair_text
pair_size starts at pair text h =
    let a = and_then_ok (far_text starts at pair.target) (λ target. Ok (signed_bytes w32 pair.key ++ target)) text h in
    let key : length (signed_bytes w32 pair.key) ≡ 4 = refl in
    one_size (signed_bytes w32 pair.key ++ a.0) text 8 (omega (arith, length-append (signed_bytes w32 pair.key) a.0, key, far_size starts at pair.target a.0 a.1)) a.2

lookup_size : (starts : List ℕ) (at : ℕ) (l : LookupSwitch) (text : List ℕ) → lookup_text starts at l ≡ Ok text → length text ≡ plain_size at (plain.LookupSwitch l)
unfolding lookup_text switch_text plain_size
lookup_size starts at l text h =
    let a = and_then_ok (far_text starts at l.default) (λ default. and_then (texts (pair_text starts at) l.pairs) (λ pairs. Ok (switch_text at 171 ++ (default ++ (to_be_bytes w32 (length l.pairs) ++ pairs))))) text h in
    let b = and_then_ok (texts (pair_text starts at) l.pairs) (λ pairs. Ok (switch_text at 171 ++ (a.0 ++ (to_be_bytes w32 (length l.pairs) ++ pairs)))) text a.2 in
    let zeros : List ℕ = replicate (padding_size at) 0 in
    let count : List ℕ = to_be_bytes w32 (length l.pairs) in
    let four : length count ≡ 4 = refl in
    let size : length (171 ∷ (zeros ++ (a.0 ++ (count ++ b.0)))) ≡ 1 + padding_size at + 8 + 8 * length l.pairs =
    omega (arith, length-append zeros (a.0 ++ (count ++ b.0)), length-append a.0 (count ++ b.0), length-append count b.0, length-replicate {A = ℕ} (padding_size at) 0, four, far_size starts at l.default a.0 a.1, all_of_8 (pair_text starts at) (pair_size starts at) l.pairs b.0 b.1) in
    one_size (171 ∷ (zeros ++ (a.0 ++ (count ++ b.0)))) text _ size b.2

-- ---- all instructions

plain_text_size : (starts : List ℕ) (at : ℕ) (p : Plain) (text : List ℕ) → plain_text starts at p ≡ Ok text → length text ≡ plain_size at p
unfolding plain_text plain_size
plain_text_size starts at (plain.Simple s) text h = one_size (simple_byte s ∷ []) text 1 refl h
plain_text_size starts at (plain.PushByte n) text h = one_size (16 ∷ signed_bytes w8 n) text 2 refl h
plain_text_size starts at (plain.PushShort n) text h = one_size (17 ∷ signed_bytes w16 n) text 3 refl h
plain_text_size starts at (plain.Load kind local) text h = one_size (local_text (load_byte kind) local) text _ (local_text_size (load_byte kind) local) h
plain_text_size starts at (plain.Store kind local) text h = one_size (local_text (store_byte kind) local) text _ (local_text_size (store_byte kind) local) h
plain_text_size starts at (plain.Increment local n) text h = one_size (increment_text local n) text _ (increment_size local n) h
plain_text_size starts at (plain.Branch b target) text h = branch_size starts at b target text h
plain_text_size starts at (plain.TableSwitch t) text h = table_size starts at t text h
plain_text_size starts at (plain.LookupSwitch l) text h = lookup_size starts at l text h

array_text_size : (op : ArrayOp) → length (array_text op) ≡ array_size op
unfolding array_text array_size
array_text_size (array.Load kind) = refl
array_text_size (array.Store kind) = refl
array_text_size (array.New element) = refl
array_text_size array.Length = refl

type_text_size : (op : TypeOp) (index : ℕ) → length (type_text op index) ≡ type_size op
unfolding type_text type_size
type_text_size type.NewArray index = refl
type_text_size (type.NewArrays d) index = refl
type_text_size type.CheckCast index = refl
type_text_size type.InstanceOf index = refl

constant_size : (index : ℕ) → length (constant_text index) ≡ cond (nat_le index 255) 2 3
unfolding constant_text
constant_size index = elim (nat_le index 255) as (λ b. length (cond b (18 ∷ to_be_bytes w8 index) (19 ∷ to_be_bytes w16 index)) ≡ cond b 2 3) [ true ↦ refl | false ↦ refl ]

text_size : (starts : List ℕ) (at : ℕ) (instr : IndexedInstr) (text : List ℕ) → text_at starts at instr ≡ Ok text → length text ≡ size_at at instr
unfolding text_at size_at
text_size starts at (indexed.Plain p) text h = plain_text_size starts at p text h
text_size starts at (indexed.Array op) text h = one_size (array_text op) text _ (array_text_size op) h
text_size starts at (indexed.Return op) text h = one_size (return_byte op ∷ []) text 1 refl h
text_size starts at indexed.Throw text h = one_size (191 ∷ []) text 1 refl h
text_size starts at (indexed.Monitor op) text h = one_size (monitor_byte op ∷ []) text 1 refl h
text_size starts at (indexed.Constant index) text h = one_size (constant_text index) text _ (constant_size index) h
text_size starts at (indexed.LongConstant index) text h = one_size (20 ∷ to_be_bytes w16 index) text 3 refl h
text_size starts at (indexed.Field op index) text h = one_size (field_byte op ∷ to_be_bytes w16 index) text 3 refl h
text_size starts at (indexed.Invoke op index) text h = one_size (invoke_byte op ∷ to_be_bytes w16 index) text 3 refl h
text_size starts at (indexed.InvokeInterface index count last) text h = one_size (185 ∷ (to_be_bytes w16 index ++ (to_be_bytes w8 count ++ to_be_bytes w8 last))) text 5 refl h
text_size starts at (indexed.New index) text h = one_size (187 ∷ to_be_bytes w16 index) text 3 refl h
text_size starts at (indexed.Type op index) text h = one_size (type_text op index) text _ (type_text_size op index) h

-- one after the other
run_size : (starts : List ℕ) (at : ℕ) (instrs : List IndexedInstr) (text : List ℕ) → texts (placed_text starts) (placed_from at instrs) ≡ Ok text → at + length text ≡ end_from at instrs
unfolding texts placed_from end_from
run_size starts at [] text h = omega (arith, one_size [] text 0 refl h)
run_size starts at (instr ∷ instrs) text h =
    let next : ℕ = at + size_at at instr in
    let a = and_then_ok (text_at starts at instr) (λ front. and_then (texts (placed_text starts) (placed_from next instrs)) (λ back. Ok (front ++ back))) text h in
    let b = and_then_ok (texts (placed_text starts) (placed_from next instrs)) (λ back. Ok (a.0 ++ back)) text a.2 in
    let whole : length text ≡ length a.0 + length b.0 = one_size (a.0 ++ b.0) text _ (length-append a.0 b.0) b.2 in
    omega (arith, whole, text_size starts at instr a.0 a.1, run_size starts next instrs b.0 b.1)

pub encoded_size : (instrs : List IndexedInstr) (e : EncodedCode) → encoded instrs ≡ Ok e → length e.bytes ≡ end_from 0 instrs
encoded_size instrs e h = omega (arith, run_size e.starts 0 instrs e.bytes (encoded_ok instrs e h).2)
