-- What is written for a code spells it.
use Rattle.std.proofs.Common.{◌≡◌, ℕ, zero, suc, ◌+◌, ◌<◌, ◌≤◌, Bool, true, false, cond, List, [], ◌∷◌, ◌++◌, length, map, get_or, Ok, Err, refl, sym, ap, subst, ◌∙◌, arith}
use Rattle.std.specs.Prelude.{nat_lt, ◌==◌, All}
use Rattle.std.specs.List.{list_all}
use Rattle.std.proofs.lemmas.Bool.{lt-ltb, ltb-false, ne_eqb}
use Rattle.std.proofs.lemmas.List.{append-nil, length-append}
use Rattle.std.proofs.lemmas.List.Elements.{All-head, All-tail}
use Rattle.jm_bytes.specs.Spelling.{IsRun}
use Rattle.jm_bytes.specs.Reading.{and_then, each}
use Rattle.jm_bytes.specs.Laws.{and_then_ok, same_Ok}
use Rattle.jm_bytes.proofs.Spelled.{guard_text}
use Rattle.jm_program.specs.declared.instruction.operation.Branch.TheVariants as branch
use Rattle.jm_program.specs.declared.instruction.operation.ArrayOp.TheVariants as array
use Rattle.jm_program.specs.declared.instruction.operation.TypeOp.TheVariants as type
use Rattle.jm_program.specs.declared.instruction.plain.Plain.{Plain}
use Rattle.jm_program.specs.declared.instruction.plain.Plain.TheVariants as plain
use Rattle.jm_program.proofs.Truths.{both_true as both}
use Rattle.jm_class_format.specs.declared.fault.CodeFault.TheVariants as code_fault
use Rattle.jm_class_format.specs.declared.instruction.IndexedInstr.{IndexedInstr}
use Rattle.jm_class_format.specs.declared.instruction.IndexedInstr.TheVariants as indexed
use Rattle.jm_class_format.specs.declared.instruction.PlacedInstr.{PlacedInstr}
use Rattle.jm_class_format.specs.Instructions.{instruction}
use Rattle.jm_class_format.specs.Code.{placed, numbered, all_numbered, code}
use Rattle.jm_encode.specs.declared.encoded.EncodedCode.{EncodedCode}
use Rattle.jm_encode.specs.declared.fault.EncodeFault.{EncodeFault}
use Rattle.jm_encode.specs.declared.fault.EncodeFault.TheVariants as fault
use Rattle.jm_encode.specs.Encoding.{has_bytes, local_size, plain_size, array_size, type_size, size_at, placed_from, starts_from, end_from, texts, text_at, placed_text, all_starts, encoded}
use Rattle.jm_encode.specs.Ranges.{InRange}
use Rattle.jm_encode.proofs.Targets.{offset_in, AreStarts}
use Rattle.jm_encode.proofs.Instructions.{instr_at, instr_is}

-- ---- each instruction takes a byte at least

some_of : (b : Bool) (m n : ℕ) → 0 < m → 0 < n → 0 < cond b m n
some_of true m n h k = h
some_of false m n h k = k

plain_some : (at : ℕ) (p : Plain) → 0 < plain_size at p
unfolding plain_size local_size
plain_some at (plain.Simple s) = omega arith
plain_some at (plain.PushByte n) = omega arith
plain_some at (plain.PushShort n) = omega arith
plain_some at (plain.Load kind local) = some_of _ 2 4 (omega arith) (omega arith)
plain_some at (plain.Store kind local) = some_of _ 2 4 (omega arith) (omega arith)
plain_some at (plain.Increment local n) = some_of _ 3 6 (omega arith) (omega arith)
plain_some at (plain.Branch (branch.If c) target) = omega arith
plain_some at (plain.Branch (branch.IfInts c) target) = omega arith
plain_some at (plain.Branch (branch.IfReferences e) target) = omega arith
plain_some at (plain.Branch (branch.IfNull e) target) = omega arith
plain_some at (plain.Branch branch.Goto target) = omega arith
plain_some at (plain.Branch branch.GotoW target) = omega arith
plain_some at (plain.TableSwitch t) = omega arith
plain_some at (plain.LookupSwitch l) = omega arith

pub size_some : (at : ℕ) (instr : IndexedInstr) → 0 < size_at at instr
unfolding size_at array_size type_size
size_some at (indexed.Plain p) = plain_some at p
size_some at (indexed.Array (array.Load kind)) = omega arith
size_some at (indexed.Array (array.Store kind)) = omega arith
size_some at (indexed.Array (array.New element)) = omega arith
size_some at (indexed.Array array.Length) = omega arith
size_some at (indexed.Return op) = omega arith
size_some at indexed.Throw = omega arith
size_some at (indexed.Monitor op) = omega arith
size_some at (indexed.Constant index) = some_of _ 2 3 (omega arith) (omega arith)
size_some at (indexed.LongConstant index) = omega arith
size_some at (indexed.Field op index) = omega arith
size_some at (indexed.Invoke op index) = omega arith
size_some at (indexed.InvokeInterface index count last) = omega arith
size_some at (indexed.New index) = omega arith
size_some at (indexed.Type type.NewArray index) = omega arith
size_some at (indexed.Type (type.NewArrays d) index) = omega arith
size_some at (indexed.Type type.CheckCast index) = omega arith
size_some at (indexed.Type type.InstanceOf index) = omega arith

-- ---- where instructions begin

pub starts_length : (at : ℕ) (instrs : List IndexedInstr) → length (starts_from at instrs) ≡ length instrs
unfolding starts_from
starts_length at [] = refl
starts_length at (instr ∷ instrs) = ap suc (starts_length (at + size_at at instr) instrs)

pub end_above : (at : ℕ) (instrs : List IndexedInstr) → at ≤ end_from at instrs
unfolding end_from
end_above at [] = omega arith
end_above at (instr ∷ instrs) = omega (arith, end_above (at + size_at at instr) instrs)

start_above : (at : ℕ) (instrs : List IndexedInstr) (k : ℕ) → k < length (starts_from at instrs) → at ≤ offset_in (starts_from at instrs) k
unfolding starts_from
start_above at [] k lt = absurd (omega arith)
start_above at (instr ∷ instrs) zero lt = omega arith
start_above at (instr ∷ instrs) (suc k) lt = omega (arith, start_above (at + size_at at instr) instrs k (omega arith))

pub start_below : (at : ℕ) (instrs : List IndexedInstr) (k : ℕ) → k < length (starts_from at instrs) → offset_in (starts_from at instrs) k < end_from at instrs
unfolding starts_from end_from
start_below at [] k lt = absurd (omega arith)
start_below at (instr ∷ instrs) zero lt = omega (arith, size_some at instr, end_above (at + size_at at instr) instrs)
start_below at (instr ∷ instrs) (suc k) lt = start_below (at + size_at at instr) instrs k (omega arith)

pub starts_rise : (at : ℕ) (instrs : List IndexedInstr) (i j : ℕ) → i < j → j < length (starts_from at instrs) → offset_in (starts_from at instrs) i < offset_in (starts_from at instrs) j
unfolding starts_from
starts_rise at [] i j less lt = absurd (omega arith)
starts_rise at (instr ∷ instrs) i zero less lt = absurd (omega arith)
starts_rise at (instr ∷ instrs) zero (suc j) less lt = omega (arith, size_some at instr, start_above (at + size_at at instr) instrs j (omega arith))
starts_rise at (instr ∷ instrs) (suc i) (suc j) less lt = starts_rise (at + size_at at instr) instrs i j (omega arith) (omega arith)

pub starts_are : (instrs : List IndexedInstr) → end_from 0 instrs ≤ 65535 → AreStarts (starts_from 0 instrs)
starts_are instrs short = record { rising = starts_rise 0 instrs; low = λ i lt. omega (arith, start_below 0 instrs i lt) }

-- ---- one after the other

-- with offsets for targets
abbrev pub placed_at : List ℕ → PlacedInstr → PlacedInstr
placed_at starts p = record { offset = p.offset; instr = instr_at starts p.instr }

placed_is : (starts : List ℕ) (at : ℕ) (instr : IndexedInstr) (text : List ℕ) → at < 65535 → (instruction at).Spells text (instr_at starts instr) → (placed at).Spells text (record { offset = at; instr = instr_at starts instr })
unfolding placed
placed_is starts at instr text lt h =
    record {
      front = [];
      back = text;
      value = tt;
      parts = refl;
      first = guard_text (code_fault.BadOpcode 65535) (nat_lt at 65535) (lt-ltb at 65535 lt);
      second = record { front = text; back = []; value = instr_at starts instr; parts = sym (append-nil text); first = h; second = (refl, refl) };
    }

pub record RunSpelled (starts : List ℕ) (at : ℕ) (instrs : List IndexedInstr) (text : List ℕ) : Type 0 where
  pub size : at + length text ≡ end_from at instrs
  pub spelled : IsRun (λ n. (placed n).Spells) at (map (placed_at starts) (placed_from at instrs)) text
  pub each_numbered : each (numbered starts) (map (placed_at starts) (placed_from at instrs)) ≡ Ok (placed_from at instrs)

pub run_is : (starts : List ℕ) (at : ℕ) (instrs : List IndexedInstr) (text : List ℕ) → AreStarts starts → end_from at instrs ≤ 65535 → All InRange instrs → list_all has_bytes instrs ≡ true → texts (placed_text starts) (placed_from at instrs) ≡ Ok text → RunSpelled starts at instrs text
unfolding texts placed_from end_from each numbered
run_is starts at [] text good short range rule h =
    subst (RunSpelled starts at []) (same_Ok {F = EncodeFault} [] text h) (record { size = omega arith; spelled = refl; each_numbered = refl })
run_is starts at (instr ∷ instrs) text good short range rule h =
    let next : ℕ = at + size_at at instr in
    let a = and_then_ok (text_at starts at instr) (λ front. and_then (texts (placed_text starts) (placed_from next instrs)) (λ back. Ok (front ++ back))) text h in
    let b = and_then_ok (texts (placed_text starts) (placed_from next instrs)) (λ back. Ok (a.0 ++ back)) text a.2 in
    let above = end_above next instrs in
    let some = size_some at instr in
    let rules = both (has_bytes instr) (list_all has_bytes instrs) rule in
    let here = instr_is starts at instr a.0 good (omega arith) (All-head InRange instr instrs range) rules.0 a.1 in
    let further = run_is starts next instrs b.0 good short (All-tail InRange instr instrs range) rules.1 b.1 in
    let behind : next ≡ at + length a.0 = omega (arith, here.size) in
    let size : at + length (a.0 ++ b.0) ≡ end_from next instrs = omega (arith, length-append a.0 b.0, behind, further.size) in
    let rest : IsRun (λ n. (placed n).Spells) (at + length a.0) (map (placed_at starts) (placed_from next instrs)) b.0 = subst (λ (n : ℕ). IsRun (λ m. (placed m).Spells) n (map (placed_at starts) (placed_from next instrs)) b.0) behind further.spelled in
    let all_numbers : each (numbered starts) (map (placed_at starts) (record { offset = at; instr = instr } ∷ placed_from next instrs)) ≡ Ok (record { offset = at; instr = instr } ∷ placed_from next instrs) = rw (here.numbered, further.each_numbered) refl in
    subst (RunSpelled starts at (instr ∷ instrs)) (same_Ok {F = EncodeFault} (a.0 ++ b.0) text b.2) (record {
      size = size;
      spelled = (a.0, b.0, refl, placed_is starts at instr a.0 (omega arith) here.spelled, rest);
      each_numbered = all_numbers;
    })

offsets_are : (starts : List ℕ) (at : ℕ) (instrs : List IndexedInstr) → map (λ (p : PlacedInstr). p.offset) (map (placed_at starts) (placed_from at instrs)) ≡ starts_from at instrs
unfolding placed_from starts_from
offsets_are starts at [] = refl
offsets_are starts at (instr ∷ instrs) = ap (λ (ns : List ℕ). at ∷ ns) (offsets_are starts (at + size_at at instr) instrs)

placed_length : (starts : List ℕ) (at : ℕ) (instrs : List IndexedInstr) → length (map (placed_at starts) (placed_from at instrs)) ≡ length instrs
unfolding placed_from
placed_length starts at [] = refl
placed_length starts at (instr ∷ instrs) = ap suc (placed_length starts (at + size_at at instr) instrs)

-- ---- a code

pub starts_ok : (instrs : List IndexedInstr) (starts : List ℕ) → all_starts instrs ≡ Ok starts → (end_from 0 instrs ≤ 65535) × (starts_from 0 instrs ≡ starts)
unfolding all_starts
starts_ok instrs starts h =
    (elim (nat_lt 65535 (end_from 0 instrs)) as (λ b. nat_lt 65535 (end_from 0 instrs) ≡ b → cond b (Err fault.CodeTooLong) (Ok (starts_from 0 instrs)) ≡ Ok starts → (end_from 0 instrs ≤ 65535) × (starts_from 0 instrs ≡ starts)) [
      | true ↦ λ long k. absurd cc
      | false ↦ λ short k. (ltb-false 65535 (end_from 0 instrs) short, same_Ok {F = EncodeFault} (starts_from 0 instrs) starts k)
    ]) refl h

-- what is encoded is short enough, and its parts are those of the definition
pub encoded_ok : (instrs : List IndexedInstr) (e : EncodedCode) → encoded instrs ≡ Ok e → (end_from 0 instrs ≤ 65535) × (starts_from 0 instrs ≡ e.starts) × (texts (placed_text e.starts) (placed_from 0 instrs) ≡ Ok e.bytes)
unfolding encoded
encoded_ok instrs e h =
    let a = and_then_ok (all_starts instrs) (λ starts. and_then (texts (placed_text starts) (placed_from 0 instrs)) (λ bytes. Ok (record { bytes = bytes; starts = starts }))) e h in
    let b = and_then_ok (texts (placed_text a.0) (placed_from 0 instrs)) (λ bytes. Ok (record { bytes = bytes; starts = a.0 })) e a.2 in
    let ok = starts_ok instrs a.0 a.1 in
    let is : ◌≡◌ {A = EncodedCode} (record { bytes = b.0; starts = a.0 }) e = same_Ok {F = EncodeFault} (record { bytes = b.0; starts = a.0 }) e b.2 in
    let P : EncodedCode → Type 0 = λ x. (end_from 0 instrs ≤ 65535) × (starts_from 0 instrs ≡ x.starts) × (texts (placed_text x.starts) (placed_from 0 instrs) ≡ Ok x.bytes) in
    subst P is (ok.0, ok.1, b.1)

pub encoded_is : (instrs : List IndexedInstr) (e : EncodedCode) → All InRange instrs → list_all has_bytes instrs ≡ true → encoded instrs ≡ Ok e → RunSpelled e.starts 0 instrs e.bytes
encoded_is instrs e range rule h =
    let ok = encoded_ok instrs e h in
    run_is e.starts 0 instrs e.bytes (subst AreStarts ok.1 (starts_are instrs ok.0)) ok.0 range rule ok.2

pub encoded_spelled : (instrs : List IndexedInstr) (e : EncodedCode) → 0 < length instrs → All InRange instrs → list_all has_bytes instrs ≡ true → encoded instrs ≡ Ok e → code.Spells e.bytes (placed_from 0 instrs)
unfolding code all_numbered
encoded_spelled instrs e some range rule h =
    let run = encoded_is instrs e range rule h in
    let ok = encoded_ok instrs e h in
    let ps : List PlacedInstr = map (placed_at e.starts) (placed_from 0 instrs) in
    let filled : (length ps == 0) ≡ false = ne_eqb (length ps) 0 (omega (arith, placed_length e.starts 0 instrs)) in
    let starts : map (λ (p : PlacedInstr). p.offset) ps ≡ e.starts = offsets_are e.starts 0 instrs ∙ ok.1 in
    let numbers : all_numbered ps ≡ Ok (placed_from 0 instrs) = rw (filled, starts) run.each_numbered in
    (ps, run.spelled, numbers)

pub placed_offsets : (at : ℕ) (instrs : List IndexedInstr) → map (λ (p : PlacedInstr). p.offset) (placed_from at instrs) ≡ starts_from at instrs
unfolding placed_from starts_from
placed_offsets at [] = refl
placed_offsets at (instr ∷ instrs) = ap (λ (ns : List ℕ). at ∷ ns) (placed_offsets (at + size_at at instr) instrs)

pub placed_instrs : (at : ℕ) (instrs : List IndexedInstr) → map (λ (p : PlacedInstr). p.instr) (placed_from at instrs) ≡ instrs
unfolding placed_from
placed_instrs at [] = refl
placed_instrs at (instr ∷ instrs) = ap (λ (xs : List IndexedInstr). instr ∷ xs) (placed_instrs (at + size_at at instr) instrs)

-- ---- the instruction at a number

pub placed_there : (at : ℕ) (instrs : List IndexedInstr) (i : ℕ) (d : PlacedInstr) (e : IndexedInstr) → i < length instrs → get_or (placed_from at instrs) i d ≡ record { offset = offset_in (starts_from at instrs) i; instr = get_or instrs i e }
unfolding placed_from starts_from
placed_there at [] i d e lt = absurd (omega arith)
placed_there at (instr ∷ instrs) zero d e lt = refl
placed_there at (instr ∷ instrs) (suc i) d e lt = placed_there (at + size_at at instr) instrs i d e (omega arith)

pub placed_count : (at : ℕ) (instrs : List IndexedInstr) → length (placed_from at instrs) ≡ length instrs
unfolding placed_from
placed_count at [] = refl
placed_count at (instr ∷ instrs) = ap suc (placed_count (at + size_at at instr) instrs)

-- each ends inside the code
pub room_there : (at : ℕ) (instrs : List IndexedInstr) (i : ℕ) (e : IndexedInstr) → i < length instrs → offset_in (starts_from at instrs) i + size_at (offset_in (starts_from at instrs) i) (get_or instrs i e) ≤ end_from at instrs
unfolding starts_from end_from
room_there at [] i e lt = absurd (omega arith)
room_there at (instr ∷ instrs) zero e lt = end_above (at + size_at at instr) instrs
room_there at (instr ∷ instrs) (suc i) e lt = room_there (at + size_at at instr) instrs i e (omega arith)
