-- Each target of a class's code is an instruction of that code, so that what is encoded never lacks one.
use Rattle.std.proofs.Common.{◌≡◌, ℕ, suc, ◌+◌, ◌<◌, Bool, true, false, cond, List, [], ◌∷◌, length, Result, Ok, Err, refl, ap, subst}
use Rattle.std.specs.Prelude.{ℤ, pos, negsuc, ◌&&◌, int_le, nat_lt}
use Rattle.std.specs.List.{list_all}
use Rattle.std.specs.Int.{w16, w32}
use Rattle.std.proofs.lemmas.Bool.{ltb-true, and_from}
use Rattle.std.proofs.lemmas.Option.{slice_get-get_or}
use Rattle.jm_bytes.specs.Laws.{and_then_ok, same_Ok}
use Rattle.jm_bytes.specs.Reading.{and_then}
use Rattle.jm_bytes.specs.Writing.{signed_bytes}
use Rattle.jm_program.specs.Instructions.{has_high, plain_fits, instr_fits}
use Rattle.jm_program.specs.declared.instruction.operation.Branch.{Branch}
use Rattle.jm_program.specs.declared.instruction.operation.Branch.TheVariants as branch
use Rattle.jm_program.specs.declared.instruction.plain.SwitchPair.{SwitchPair}
use Rattle.jm_program.specs.declared.instruction.plain.Plain.{Plain}
use Rattle.jm_program.specs.declared.instruction.plain.Plain.TheVariants as plain
use Rattle.jm_class_format.specs.declared.instruction.IndexedInstr.{IndexedInstr}
use Rattle.jm_class_format.specs.declared.instruction.IndexedInstr.TheVariants as indexed
use Rattle.jm_encode.specs.declared.encoded.EncodedCode.{EncodedCode}
use Rattle.jm_encode.specs.declared.fault.EncodeFault.{EncodeFault}
use Rattle.jm_encode.specs.declared.fault.EncodeFault.TheVariants as fault
use Rattle.jm_encode.specs.Encoding.{distance, in_16_bits, near_text, far_text, branch_text, texts, table_text, pair_text, lookup_text, plain_text, text_at, placed_text, placed_from, starts_from, size_at, end_from, all_starts, encoded}
use Rattle.jm_encode.proofs.Codes.{starts_length}
use Rattle.jm_program.specs.declared.constant.Constant.{Constant}
use Rattle.jm_program.specs.declared.constant.Constant.TheVariants as constant
use Rattle.jm_program.specs.declared.reference.MethodRef.{MethodRef}
use Rattle.jm_program.specs.declared.instruction.operation.InvokeOp.{InvokeOp}
use Rattle.jm_program.specs.declared.instruction.operation.InvokeOp.TheVariants as invoke
use Rattle.jm_program.specs.declared.instruction.symbolic.Instr.{Instr}
use Rattle.jm_program.specs.declared.instruction.symbolic.Instr.TheVariants as instr
use Rattle.jm_program.proofs.Truths.{both_true}
use Rattle.jm_class_writer.specs.declared.fault.WriteFault.{WriteFault}
use Rattle.jm_class_writer.specs.Drafts.{DraftParts, Drafting, each_of}
use Rattle.jm_class_writer.specs.PoolUse.{class_index, constant_index, class_ref_index, field_ref_index, method_ref_index}
use Rattle.jm_class_writer.specs.CodeParts.{load_of, invoke_of, instr_indexed}

-- not for a target that is missing
abbrev pub Found : {A : Type 0} → Result A EncodeFault → Type 0
Found (Ok x) = Unit {0}
Found (Err e) = ¬ (e ≡ fault.BadTarget)

found_then : {A B : Type 0} (r : Result A EncodeFault) (f : A → Result B EncodeFault) → Found r → ((x : A) → Found (f x)) → Found (and_then r f)
found_then (Ok x) f h k = k x
found_then (Err e) f h k = h

pub never_bad : {A : Type 0} (r : Result A EncodeFault) → Found r → ¬ (r ≡ Err fault.BadTarget)
never_bad (Ok x) h is = absurd cc
never_bad {A} (Err e) h is = subst (λ (r : Result A EncodeFault). Found r) is h refl

-- ---- one target

distance_found : (starts : List ℕ) (at target : ℕ) → target < length starts → Found (distance starts at target)
unfolding distance
distance_found starts at target lt = rw (slice_get-get_or starts target 0 lt) tt

near_or_far : (b : Bool) (jump : ℤ) → Found (cond b (Ok jump) (Err fault.BranchTooFar))
near_or_far true jump = tt
near_or_far false jump = λ is. absurd cc

near_found : (starts : List ℕ) (at target : ℕ) → target < length starts → Found (near_text starts at target)
unfolding near_text in_16_bits
near_found starts at target lt =
    found_then (distance starts at target) (λ jump. and_then (in_16_bits jump) (λ jump. Ok (signed_bytes w16 jump))) (distance_found starts at target lt)
    (λ jump. found_then (in_16_bits jump) (λ jump. Ok (signed_bytes w16 jump)) (near_or_far (int_le (negsuc 32767) jump && int_le jump (pos 32767)) jump) (λ jump. tt))

far_found : (starts : List ℕ) (at target : ℕ) → target < length starts → Found (far_text starts at target)
unfolding far_text
far_found starts at target lt = found_then (distance starts at target) (λ jump. Ok (signed_bytes w32 jump)) (distance_found starts at target lt) (λ jump. tt)

branch_found : (starts : List ℕ) (at : ℕ) (b : Branch) (target : ℕ) → target < length starts → Found (branch_text starts at b target)
unfolding branch_text
branch_found starts at (branch.If c) target lt = found_then (near_text starts at target) _ (near_found starts at target lt) (λ text. tt)
branch_found starts at (branch.IfInts c) target lt = found_then (near_text starts at target) _ (near_found starts at target lt) (λ text. tt)
branch_found starts at (branch.IfReferences e) target lt = found_then (near_text starts at target) _ (near_found starts at target lt) (λ text. tt)
branch_found starts at (branch.IfNull e) target lt = found_then (near_text starts at target) _ (near_found starts at target lt) (λ text. tt)
branch_found starts at branch.Goto target lt = found_then (near_text starts at target) _ (near_found starts at target lt) (λ text. tt)
branch_found starts at branch.GotoW target lt = found_then (far_text starts at target) _ (far_found starts at target lt) (λ text. tt)

-- ---- the targets of an instruction

texts_found : {A : Type 0} (text : A → Result (List ℕ) EncodeFault) (p : A → Bool) → ((x : A) → p x ≡ true → Found (text x)) → (xs : List A) → list_all p xs ≡ true → Found (texts text xs)
unfolding texts
texts_found text p one [] h = tt
texts_found text p one (x ∷ xs) h =
    let both = both_true (p x) (list_all p xs) h in
    found_then (text x) _ (one x both.0) (λ front. found_then (texts text xs) _ (texts_found text p one xs both.1) (λ back. tt))

plain_found : (starts : List ℕ) (at : ℕ) (p : Plain) → plain_fits (length starts) p ≡ true → Found (plain_text starts at p)
unfolding plain_text table_text lookup_text pair_text
plain_found starts at (plain.Simple s) h = tt
plain_found starts at (plain.PushByte n) h = tt
plain_found starts at (plain.PushShort n) h = tt
plain_found starts at (plain.Load kind local) h = tt
plain_found starts at (plain.Store kind local) h = tt
plain_found starts at (plain.Increment local n) h = tt
plain_found starts at (plain.Branch b target) h = branch_found starts at b target (ltb-true target (length starts) h)
plain_found starts at (plain.TableSwitch t) h =
    let all = both_true (has_high t && list_all (λ target. nat_lt target (length starts)) t.targets) (nat_lt t.default (length starts)) h in
    let targets = both_true (has_high t) (list_all (λ target. nat_lt target (length starts)) t.targets) all.0 in
    found_then (far_text starts at t.default) _ (far_found starts at t.default (ltb-true t.default (length starts) all.1))
    (λ default. found_then (texts (far_text starts at) t.targets) _ (texts_found (far_text starts at) (λ target. nat_lt target (length starts)) (λ target k. far_found starts at target (ltb-true target (length starts) k)) t.targets targets.1) (λ text. tt))
plain_found starts at (plain.LookupSwitch l) h =
    let all = both_true _ (nat_lt l.default (length starts)) h in
    let pairs = both_true _ (list_all (λ (pair : SwitchPair). nat_lt pair.target (length starts)) l.pairs) all.0 in
    found_then (far_text starts at l.default) _ (far_found starts at l.default (ltb-true l.default (length starts) all.1))
    (λ default. found_then (texts (pair_text starts at) l.pairs) _
    (texts_found (pair_text starts at) (λ (pair : SwitchPair). nat_lt pair.target (length starts))
    (λ pair k. found_then (far_text starts at pair.target) _ (far_found starts at pair.target (ltb-true pair.target (length starts) k)) (λ text. tt)) l.pairs pairs.1) (λ text. tt))

-- ---- those of a code's instructions, one after the other

abbrev pub targets_fit : ℕ → IndexedInstr → Bool
targets_fit count (indexed.Plain p) = plain_fits count p
targets_fit count other = true

instr_found : (starts : List ℕ) (at : ℕ) (i : IndexedInstr) → targets_fit (length starts) i ≡ true → Found (text_at starts at i)
unfolding text_at
instr_found starts at (indexed.Plain p) h = plain_found starts at p h
instr_found starts at (indexed.Array op) h = tt
instr_found starts at (indexed.Return op) h = tt
instr_found starts at indexed.Throw h = tt
instr_found starts at (indexed.Monitor op) h = tt
instr_found starts at (indexed.Constant index) h = tt
instr_found starts at (indexed.LongConstant index) h = tt
instr_found starts at (indexed.Field op index) h = tt
instr_found starts at (indexed.Invoke op index) h = tt
instr_found starts at (indexed.InvokeInterface index count last) h = tt
instr_found starts at (indexed.New index) h = tt
instr_found starts at (indexed.Type op index) h = tt

placed_found : (starts : List ℕ) (at : ℕ) (is : List IndexedInstr) → list_all (targets_fit (length starts)) is ≡ true → Found (texts (placed_text starts) (placed_from at is))
unfolding texts placed_from
placed_found starts at [] h = tt
placed_found starts at (i ∷ is) h =
    let both = both_true (targets_fit (length starts) i) (list_all (targets_fit (length starts)) is) h in
    found_then (text_at starts at i) _ (instr_found starts at i both.0) (λ front. found_then (texts (placed_text starts) (placed_from (at + size_at at i) is)) _ (placed_found starts (at + size_at at i) is both.1) (λ back. tt))

code_found : (b : Bool) (is : List IndexedInstr) → list_all (targets_fit (length is)) is ≡ true
    → Found {A = EncodedCode} (and_then (cond b (Err fault.CodeTooLong) (Ok (starts_from 0 is))) (λ starts. and_then (texts (placed_text starts) (placed_from 0 is)) (λ bytes. Ok (record { bytes = bytes; starts = starts }))))
code_found true is h = λ is. absurd cc
code_found false is h =
    let fit : list_all (targets_fit (length (starts_from 0 is))) is ≡ true = rw (starts_length 0 is) h in
    found_then {B = EncodedCode} (texts (placed_text (starts_from 0 is)) (placed_from 0 is)) (λ bytes. Ok (record { bytes = bytes; starts = starts_from 0 is })) (placed_found (starts_from 0 is) 0 is fit) (λ bytes. tt)

encoded_found : (is : List IndexedInstr) → list_all (targets_fit (length is)) is ≡ true → Found (encoded is)
unfolding encoded all_starts
encoded_found is h = code_found (nat_lt 65535 (end_from 0 is)) is h

-- ---- instructions with indexes keep their targets

kept : (count : ℕ) (j : IndexedInstr) (a : DraftParts) (x : IndexedInstr × DraftParts) → targets_fit count j ≡ true → ◌≡◌ {A = Result (IndexedInstr × DraftParts) WriteFault} (Ok (j, a)) (Ok x) → targets_fit count x.0 ≡ true
kept count j a x fit h = subst (λ (y : IndexedInstr × DraftParts). targets_fit count y.0 ≡ true) (same_Ok {F = WriteFault} (j, a) x h) fit

kept_at : (count : ℕ) (make : ℕ → IndexedInstr) (index : Drafting ℕ) (a : DraftParts) (x : IndexedInstr × DraftParts) → ((n : ℕ) → targets_fit count (make n) ≡ true) → and_then (index a) (λ p. Ok (make p.0, p.1)) ≡ Ok x → targets_fit count x.0 ≡ true
kept_at count make index a x fit h =
    let p = and_then_ok (index a) (λ p. Ok (make p.0, p.1)) x h in
    kept count (make p.0.0) p.0.1 x (fit p.0.0) p.2

load_kept : (count : ℕ) (c : Constant) (n : ℕ) → targets_fit count (load_of c n) ≡ true
load_kept count (constant.Int z) n = refl
load_kept count (constant.Long z) n = refl
load_kept count (constant.String units) n = refl

invoke_kept : (count : ℕ) (op : InvokeOp) (m : MethodRef) (n : ℕ) → targets_fit count (invoke_of op m n) ≡ true
invoke_kept count invoke.Virtual m n = refl
invoke_kept count invoke.Special m n = refl
invoke_kept count invoke.Static m n = refl
invoke_kept count invoke.Interface m n = refl

instr_kept : (count : ℕ) (i : Instr) (a : DraftParts) (x : IndexedInstr × DraftParts) → instr_fits count i ≡ true → instr_indexed i a ≡ Ok x → targets_fit count x.0 ≡ true
unfolding instr_indexed
instr_kept count (instr.Plain p) a x fits h = kept count (indexed.Plain p) a x fits h
instr_kept count (instr.Array op) a x fits h = kept count (indexed.Array op) a x refl h
instr_kept count (instr.Return op) a x fits h = kept count (indexed.Return op) a x refl h
instr_kept count instr.Throw a x fits h = kept count indexed.Throw a x refl h
instr_kept count (instr.Monitor op) a x fits h = kept count (indexed.Monitor op) a x refl h
instr_kept count (instr.Constant c) a x fits h = kept_at count (load_of c) (constant_index c) a x (load_kept count c) h
instr_kept count (instr.Field op f) a x fits h = kept_at count (indexed.Field op) (field_ref_index f) a x (λ n. refl) h
instr_kept count (instr.Invoke op m) a x fits h = kept_at count (invoke_of op m) (method_ref_index op m) a x (invoke_kept count op m) h
instr_kept count (instr.New name) a x fits h = kept_at count indexed.New (class_index name) a x (λ n. refl) h
instr_kept count (instr.Type op c) a x fits h = kept_at count (indexed.Type op) (class_ref_index c) a x (λ n. refl) h

pub all_kept : (count : ℕ) (is : List Instr) (a : DraftParts) (x : List IndexedInstr × DraftParts) → list_all (instr_fits count) is ≡ true → each_of instr_indexed is a ≡ Ok x
    → (list_all (targets_fit count) x.0 ≡ true) × (length x.0 ≡ length is)
unfolding each_of
all_kept count [] a x fits h = subst (λ (y : List IndexedInstr × DraftParts). (list_all (targets_fit count) y.0 ≡ true) × (length y.0 ≡ 0)) (same_Ok {F = WriteFault} ([], a) x h) (refl, refl)
all_kept count (i ∷ is) a x fits h =
    let both = both_true (instr_fits count i) (list_all (instr_fits count) is) fits in
    let p = and_then_ok (instr_indexed i a) (λ y. and_then (each_of instr_indexed is y.1) (λ ys. Ok (y.0 ∷ ys.0, ys.1))) x h in
    let q = and_then_ok (each_of instr_indexed is p.0.1) (λ ys. Ok (p.0.0 ∷ ys.0, ys.1)) x p.2 in
    let first = instr_kept count i a p.0 both.0 p.1 in
    let rest = all_kept count is p.0.1 q.0 both.1 q.1 in
    subst (λ (y : List IndexedInstr × DraftParts). (list_all (targets_fit count) y.0 ≡ true) × (length y.0 ≡ suc (length is))) (same_Ok {F = WriteFault} (p.0.0 ∷ q.0.0, q.0.1) x q.2)
    (and_from (targets_fit count p.0.0) (list_all (targets_fit count) q.0.0) first rest.0, ap suc rest.1)

pub no_bad_target : (is : List Instr) (a : DraftParts) (all : List IndexedInstr) (b : DraftParts) → list_all (instr_fits (length is)) is ≡ true → each_of instr_indexed is a ≡ Ok (all, b) → ¬ (encoded all ≡ Err fault.BadTarget)
no_bad_target is a all b fits h =
    let k = all_kept (length is) is a (all, b) fits h in
    let fit : list_all (targets_fit (length all)) all ≡ true = rw k.1 k.0 in
    never_bad (encoded all) (encoded_found all fit)
