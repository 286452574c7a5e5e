-- What stands behind its length is short enough for it: the bytes that each step puts are counted (JVMS 4.7, attribute_length).
use Rattle.std.proofs.Common.{◌≡◌, ℕ, ◌+◌, ◌*◌, ◌<◌, ◌≤◌, Bool, true, false, cond, ltb, eqb, List, [], ◌∷◌, ◌++◌, length, Option, Some, None, Result, Ok, Err, refl, sym, ap, subst, ◌∙◌, arith}
use Rattle.std.specs.Prelude.{codes}
use Rattle.std.specs.Int.{w16, w32, to_be_bytes}
use Rattle.std.proofs.lemmas.Bool.{ltb-true, lt-ltb}
use Rattle.std.proofs.lemmas.List.{length-append}
use Rattle.jm_bytes.specs.Laws.{and_then_ok, same_Ok, fault_as_ok}
use Rattle.jm_bytes.specs.Reading.{and_then, fault_as}
use Rattle.jm_program.specs.Descriptors.{field_text, method_text}
use Rattle.jm_program.specs.declared.constant.Constant.{Constant}
use Rattle.jm_program.specs.declared.constant.Constant.TheVariants as constant
use Rattle.jm_program.specs.declared.reference.ClassRef.{ClassRef}
use Rattle.jm_program.specs.declared.reference.FieldRef.{FieldRef}
use Rattle.jm_program.specs.declared.reference.MethodRef.{MethodRef}
use Rattle.jm_program.specs.declared.instruction.operation.InvokeOp.{InvokeOp}
use Rattle.jm_program.specs.declared.instruction.symbolic.Instr.{Instr}
use Rattle.jm_program.specs.declared.instruction.symbolic.Instr.TheVariants as instr
use Rattle.jm_program.specs.declared.code.Code.{Code}
use Rattle.jm_program.specs.declared.code.Handler.{Handler}
use Rattle.jm_program.specs.declared.code.LineNumber.{LineNumber}
use Rattle.jm_class_format.specs.declared.constant_pool.Entry.{Entry}
use Rattle.jm_class_format.specs.declared.instruction.IndexedInstr.{IndexedInstr}
use Rattle.jm_class_format.specs.declared.instruction.IndexedInstr.TheVariants as indexed
use Rattle.jm_pool.specs.declared.constant.Constant.{Constant as PoolConstant}
use Rattle.jm_pool.specs.declared.constant.Constant.TheVariants as pool
use Rattle.jm_pool.specs.Building.{interned}
use Rattle.jm_encode.specs.declared.encoded.EncodedCode.{EncodedCode}
use Rattle.jm_encode.specs.Encoding.{encoded}
use Rattle.jm_encode.proofs.Codes.{encoded_ok}
use Rattle.jm_encode.proofs.Sizes.{encoded_size}
use Rattle.jm_class_writer.specs.declared.fault.WriteFault.{WriteFault}
use Rattle.jm_class_writer.specs.declared.fault.WriteFault.TheVariants as fault
use Rattle.jm_class_writer.specs.Drafts.{DraftParts, Drafting, add_bytes, done, outcome, all_of, each_of, put_bytes, put_u2, put_u4, opened, closed, with_length}
use Rattle.jm_class_writer.specs.Faults.{of_builder, of_encode}
use Rattle.jm_class_writer.specs.PoolUse.{entry_index, text_index, class_index, string_index, constant_index, name_and_type_index, class_text, class_ref_index, field_ref_index, method_entry, method_ref_index}
use Rattle.jm_class_writer.specs.CodeParts.{load_of, invoke_of, instr_indexed, start_of, end_of, put_start, put_end, put_catch_type, put_handler, put_handlers, put_line, put_lines, put_name, put_line_table, put_code_attributes, put_instructions, code_encoded, put_code_body}
use Rattle.jm_class_writer.specs.ClassParts.{put_constant}
use Rattle.jm_class_writer.specs.Lengths.{LengthFits}
use Rattle.jm_class_writer.proofs.Growth.{step_ok, only_put}

-- at most so many bytes more
abbrev Within : ℕ → DraftParts → DraftParts → Type 0
Within n a b = length b.written ≤ length a.written + n

added : (bytes : List ℕ) (a b : DraftParts) → add_bytes bytes a ≡ b → length b.written ≡ length a.written + length bytes
added bytes a b same = ap (λ (d : DraftParts). length d.written) (sym same) ∙ length-append a.written bytes

u2_added : (n : ℕ) (a : DraftParts) (z : Unit {0} × DraftParts) → put_u2 n a ≡ Ok z → (n < 65536) × Within 2 a z.1
unfolding put_u2
u2_added n a z h =
    let g = only_put (ltb n 65536) (add_bytes (to_be_bytes w16 n) a) z h in
    let size : length z.1.written ≡ length a.written + 2 = added (to_be_bytes w16 n) a z.1 g.1 in
    (ltb-true n 65536 g.0, omega (arith, size))

u4_added : (n : ℕ) (a : DraftParts) (z : Unit {0} × DraftParts) → put_u4 n a ≡ Ok z → Within 4 a z.1
unfolding put_u4
u4_added n a z h =
    let g = only_put (ltb n 4294967296) (add_bytes (to_be_bytes w32 n) a) z h in
    let size : length z.1.written ≡ length a.written + 4 = added (to_be_bytes w32 n) a z.1 g.1 in
    omega (arith, size)

bytes_added : (bytes : List ℕ) (a : DraftParts) (z : Unit {0} × DraftParts) → put_bytes bytes a ≡ Ok z → Within (length bytes) a z.1
unfolding put_bytes
bytes_added bytes a z h =
    let same : add_bytes bytes a ≡ z.1 = ap (λ (x : Unit {0} × DraftParts). x.1) (same_Ok {F = WriteFault} (tt, add_bytes bytes a) z h) in
    omega (arith, added bytes a z.1 same)

-- ---- an index puts nothing

entry_puts_nothing : (c : PoolConstant) (a : DraftParts) (x : ℕ × DraftParts) → entry_index c a ≡ Ok x → x.1.written ≡ a.written
unfolding entry_index
entry_puts_nothing c a x h =
    let made : ℕ × List Entry → ℕ × DraftParts = λ y. (y.0, record { entries = y.1; written = a.written }) in
    let p = and_then_ok (fault_as of_builder (interned a.entries c)) (λ y. Ok (made y)) x h in
    ap (λ (y : ℕ × DraftParts). y.1.written) (sym (same_Ok {F = WriteFault} (made p.0) x p.2))

class_puts_nothing : (name : List ℕ) (a : DraftParts) (x : ℕ × DraftParts) → class_index name a ≡ Ok x → x.1.written ≡ a.written
unfolding class_index
class_puts_nothing name a x h =
    let p = step_ok (text_index name) (λ i. entry_index (pool.Class i)) a x h in
    entry_puts_nothing (pool.Class p.0.0) p.0.1 x p.2 ∙ entry_puts_nothing (pool.Utf8 name) a p.0 p.1

constant_puts_nothing : (c : Constant) (a : DraftParts) (x : ℕ × DraftParts) → constant_index c a ≡ Ok x → x.1.written ≡ a.written
unfolding constant_index string_index
constant_puts_nothing (constant.Int n) a x h = entry_puts_nothing (pool.Integer n) a x h
constant_puts_nothing (constant.Long n) a x h = entry_puts_nothing (pool.Long n) a x h
constant_puts_nothing (constant.String units) a x h =
    let p = step_ok (text_index units) (λ i. entry_index (pool.String i)) a x h in
    entry_puts_nothing (pool.String p.0.0) p.0.1 x p.2 ∙ entry_puts_nothing (pool.Utf8 units) a p.0 p.1

-- a number that is put behind a step that puts nothing
behind : (a b : DraftParts) (n : ℕ) (z : Unit {0} × DraftParts) → b.written ≡ a.written → put_u2 n b ≡ Ok z → Within 2 a z.1
behind a b n z same h = omega (arith, ap (λ (l : List ℕ). length l) same, (u2_added n b z h).1)

pub constant_added : (c : Constant) (a : DraftParts) (z : Unit {0} × DraftParts) → put_constant c a ≡ Ok z → Within 2 a z.1
unfolding put_constant
constant_added c a z h =
    let p = step_ok (constant_index c) (λ i. put_u2 i) a z h in
    behind a p.0.1 p.0.0 z (constant_puts_nothing c a p.0 p.1) p.2

pub name_added : (name : List ℕ) (a : DraftParts) (z : Unit {0} × DraftParts) → put_name name a ≡ Ok z → Within 2 a z.1
unfolding put_name
name_added name a z h =
    let p = step_ok (text_index name) (λ i. put_u2 i) a z h in
    behind a p.0.1 p.0.0 z (entry_puts_nothing (pool.Utf8 name) a p.0 p.1) p.2

-- ---- the tables of a code

-- an offset that was found
outcome_added : (r : Result ℕ WriteFault) (a : DraftParts) (z : Unit {0} × DraftParts) → and_then (outcome r a) (λ x. put_u2 x.0 x.1) ≡ Ok z → Within 2 a z.1
outcome_added (Ok n) a z h = (u2_added n a z h).1
outcome_added (Err e) a z h = absurd cc

start_added : (code : EncodedCode) (n : ℕ) (a : DraftParts) (z : Unit {0} × DraftParts) → put_start code n a ≡ Ok z → Within 2 a z.1
unfolding put_start
start_added code n a z h = outcome_added (start_of code n) a z h

end_added : (code : EncodedCode) (n : ℕ) (a : DraftParts) (z : Unit {0} × DraftParts) → put_end code n a ≡ Ok z → Within 2 a z.1
unfolding put_end
end_added code n a z h = outcome_added (end_of code n) a z h

catch_type_added : (t : Option (List ℕ)) (a : DraftParts) (z : Unit {0} × DraftParts) → put_catch_type t a ≡ Ok z → Within 2 a z.1
unfolding put_catch_type
catch_type_added None a z h = (u2_added 0 a z h).1
catch_type_added (Some name) a z h =
    let p = step_ok (class_index name) (λ i. put_u2 i) a z h in
    behind a p.0.1 p.0.0 z (class_puts_nothing name a p.0 p.1) p.2

handler_added : (code : EncodedCode) (row : Handler) (a : DraftParts) (z : Unit {0} × DraftParts) → put_handler code row a ≡ Ok z → Within 8 a z.1
unfolding put_handler
handler_added code row a z h =
    let p = step_ok (put_start code row.start) (λ _ draft. and_then (put_end code row.end draft) (λ x. and_then (put_start code row.target x.1) (λ y. put_catch_type row.catch_type y.1))) a z h in
    let q = step_ok (put_end code row.end) (λ _ draft. and_then (put_start code row.target draft) (λ y. put_catch_type row.catch_type y.1)) p.0.1 z p.2 in
    let r = step_ok (put_start code row.target) (λ _. put_catch_type row.catch_type) q.0.1 z q.2 in
    omega (arith, start_added code row.start a p.0 p.1, end_added code row.end p.0.1 q.0 q.1, start_added code row.target q.0.1 r.0 r.1, catch_type_added row.catch_type r.0.1 z r.2)

line_added : (code : EncodedCode) (l : LineNumber) (a : DraftParts) (z : Unit {0} × DraftParts) → put_line code l a ≡ Ok z → Within 8 a z.1
unfolding put_line
line_added code l a z h =
    let p = step_ok (put_start code l.start) (λ _. put_u2 l.line) a z h in
    omega (arith, start_added code l.start a p.0 p.1, (u2_added l.line p.0.1 z p.2).1)

-- rows of at most eight bytes each
rows_added : {A : Type 0} (f : A → Drafting (Unit {0})) → ((x : A) (a : DraftParts) (z : Unit {0} × DraftParts) → f x a ≡ Ok z → Within 8 a z.1) → (xs : List A) (a : DraftParts) (z : Unit {0} × DraftParts) → all_of f xs a ≡ Ok z → Within (8 * length xs) a z.1
unfolding all_of
rows_added f one [] a z h =
    let same : a ≡ z.1 = ap (λ (x : Unit {0} × DraftParts). x.1) (same_Ok {F = WriteFault} (tt, a) z h) in
    omega (arith, ap (λ (d : DraftParts). length d.written) same)
rows_added f one (x ∷ xs) a z h =
    let p = step_ok (f x) (λ _. all_of f xs) a z h in
    omega (arith, one x a p.0 p.1, rows_added f one xs p.0.1 z p.2)

-- a count and so many rows
table_added : {A : Type 0} (f : A → Drafting (Unit {0})) → ((x : A) (a : DraftParts) (z : Unit {0} × DraftParts) → f x a ≡ Ok z → Within 8 a z.1) → (xs : List A) (a : DraftParts) (z : Unit {0} × DraftParts) → and_then (put_u2 (length xs) a) (λ x. all_of f xs x.1) ≡ Ok z → Within 524290 a z.1
table_added f one xs a z h =
    let p = step_ok (put_u2 (length xs)) (λ _. all_of f xs) a z h in
    let count = u2_added (length xs) a p.0 p.1 in
    omega (arith, count.0, count.1, rows_added f one xs p.0.1 z p.2)

handlers_added : (code : EncodedCode) (hs : List Handler) (a : DraftParts) (z : Unit {0} × DraftParts) → put_handlers code hs a ≡ Ok z → Within 524290 a z.1
unfolding put_handlers
handlers_added code hs a z h = table_added (put_handler code) (handler_added code) hs a z h

pub lines_added : (code : EncodedCode) (ls : List LineNumber) (a : DraftParts) (z : Unit {0} × DraftParts) → put_lines code ls a ≡ Ok z → Within 524290 a z.1
unfolding put_lines
lines_added code ls a z h = table_added (put_line code) (line_added code) ls a z h

-- ---- behind a length

four_bytes : (n : ℕ) → length (to_be_bytes w32 n) ≡ 4
four_bytes n = refl

closed_added : (before : List ℕ) (d : DraftParts) (z : Unit {0} × DraftParts) → closed before d ≡ Ok z → length z.1.written ≡ length before + (4 + length d.written)
unfolding closed
closed_added before d z h =
    let g = only_put (ltb (length d.written) 4294967296) (record { entries = d.entries; written = before ++ to_be_bytes w32 (length d.written) ++ d.written }) z h in
    let same : length z.1.written ≡ length (before ++ to_be_bytes w32 (length d.written) ++ d.written) = ap (λ (x : DraftParts). length x.written) (sym g.1) in
    omega (arith, same, length-append (before ++ to_be_bytes w32 (length d.written)) d.written, length-append before (to_be_bytes w32 (length d.written)), four_bytes (length d.written))

-- a part with its length takes four bytes more
with_length_added : (n : ℕ) (body : Drafting (Unit {0})) (a : DraftParts) (z : Unit {0} × DraftParts) → ((x : Unit {0} × DraftParts) → body (opened a) ≡ Ok x → Within n (opened a) x.1) → with_length body a ≡ Ok z → Within (4 + n) a z.1
unfolding with_length
with_length_added n body a z law h =
    let p = and_then_ok (body (opened a)) (λ x. closed a.written x.1) z h in
    omega (arith, closed_added a.written p.0.1 z p.2, law p.0 p.1)

not_long : (b : Bool) (a : DraftParts) (e : WriteFault) → b ≡ true → ¬ (cond {A = Result (Unit {0} × DraftParts) WriteFault} b (Ok (tt, a)) (Err fault.TooMany) ≡ Err e)
not_long true a e h k = absurd cc
not_long false a e h k = absurd cc

own_fault : (r : Result (Unit {0} × DraftParts) WriteFault) (before : List ℕ) (e : WriteFault) → ((x : Unit {0} × DraftParts) → r ≡ Ok x → length x.1.written < 4294967296) → and_then r (λ x. closed before x.1) ≡ Err e → r ≡ Err e
unfolding closed
own_fault (Ok x) before e short h =
    let after : DraftParts = record { entries = x.1.entries; written = before ++ to_be_bytes w32 (length x.1.written) ++ x.1.written } in
    absurd (not_long (ltb (length x.1.written) 4294967296) after e (lt-ltb (length x.1.written) 4294967296 (short x refl)) h)
own_fault (Err f) before e short h = h

length_fits : (n : ℕ) (body : Drafting (Unit {0})) (d : DraftParts) → n < 4294967296 → ((x : Unit {0} × DraftParts) → body (opened d) ≡ Ok x → Within n (opened d) x.1) → LengthFits body d
unfolding with_length
length_fits n body d few law e h = own_fault (body (opened d)) d.written e (λ x k. omega (arith, few, law x k)) h

-- ---- instructions put nothing while they are indexed and encoded

pair_puts_nothing : (name descriptor : List ℕ) (a : DraftParts) (x : ℕ × DraftParts) → name_and_type_index name descriptor a ≡ Ok x → x.1.written ≡ a.written
unfolding name_and_type_index
pair_puts_nothing name descriptor a x h =
    let p = step_ok (text_index name) (λ first draft. and_then (text_index descriptor draft) (λ y. entry_index (pool.NameAndType first y.0) y.1)) a x h in
    let q = step_ok (text_index descriptor) (λ second. entry_index (pool.NameAndType p.0.0 second)) p.0.1 x p.2 in
    entry_puts_nothing (pool.NameAndType p.0.0 q.0.0) q.0.1 x q.2 ∙ entry_puts_nothing (pool.Utf8 descriptor) p.0.1 q.0 q.1 ∙ entry_puts_nothing (pool.Utf8 name) a p.0 p.1

class_ref_puts_nothing : (c : ClassRef) (a : DraftParts) (x : ℕ × DraftParts) → class_ref_index c a ≡ Ok x → x.1.written ≡ a.written
unfolding class_ref_index
class_ref_puts_nothing c a x h = class_puts_nothing (class_text c) a x h

field_puts_nothing : (f : FieldRef) (a : DraftParts) (x : ℕ × DraftParts) → field_ref_index f a ≡ Ok x → x.1.written ≡ a.written
unfolding field_ref_index
field_puts_nothing f a x h =
    let p = step_ok (class_ref_index f.class) (λ class draft. and_then (name_and_type_index f.name (field_text f.descriptor) draft) (λ y. entry_index (pool.Fieldref class y.0) y.1)) a x h in
    let q = step_ok (name_and_type_index f.name (field_text f.descriptor)) (λ n. entry_index (pool.Fieldref p.0.0 n)) p.0.1 x p.2 in
    entry_puts_nothing (pool.Fieldref p.0.0 q.0.0) q.0.1 x q.2 ∙ pair_puts_nothing f.name (field_text f.descriptor) p.0.1 q.0 q.1 ∙ class_ref_puts_nothing f.class a p.0 p.1

method_puts_nothing : (op : InvokeOp) (m : MethodRef) (a : DraftParts) (x : ℕ × DraftParts) → method_ref_index op m a ≡ Ok x → x.1.written ≡ a.written
unfolding method_ref_index
method_puts_nothing op m a x h =
    let p = step_ok (class_ref_index m.class) (λ class draft. and_then (name_and_type_index m.name (method_text m.descriptor) draft) (λ y. entry_index (method_entry op class y.0) y.1)) a x h in
    let q = step_ok (name_and_type_index m.name (method_text m.descriptor)) (λ n. entry_index (method_entry op p.0.0 n)) p.0.1 x p.2 in
    entry_puts_nothing (method_entry op p.0.0 q.0.0) q.0.1 x q.2 ∙ pair_puts_nothing m.name (method_text m.descriptor) p.0.1 q.0 q.1 ∙ class_ref_puts_nothing m.class a p.0 p.1

done_puts_nothing : {A : Type 0} (v : A) (a : DraftParts) (x : A × DraftParts) → done v a ≡ Ok x → x.1.written ≡ a.written
done_puts_nothing {A} v a x h = ap (λ (y : A × DraftParts). y.1.written) (sym (same_Ok {F = WriteFault} (v, a) x h))

instr_puts_nothing : (i : Instr) (a : DraftParts) (x : IndexedInstr × DraftParts) → instr_indexed i a ≡ Ok x → x.1.written ≡ a.written
unfolding instr_indexed
instr_puts_nothing (instr.Plain p) a x h = done_puts_nothing (indexed.Plain p) a x h
instr_puts_nothing (instr.Array op) a x h = done_puts_nothing (indexed.Array op) a x h
instr_puts_nothing (instr.Return op) a x h = done_puts_nothing (indexed.Return op) a x h
instr_puts_nothing instr.Throw a x h = done_puts_nothing indexed.Throw a x h
instr_puts_nothing (instr.Monitor op) a x h = done_puts_nothing (indexed.Monitor op) a x h
instr_puts_nothing (instr.Constant c) a x h =
    let p = step_ok (constant_index c) (λ i. done (load_of c i)) a x h in
    done_puts_nothing (load_of c p.0.0) p.0.1 x p.2 ∙ constant_puts_nothing c a p.0 p.1
instr_puts_nothing (instr.Field op f) a x h =
    let p = step_ok (field_ref_index f) (λ i. done (indexed.Field op i)) a x h in
    done_puts_nothing (indexed.Field op p.0.0) p.0.1 x p.2 ∙ field_puts_nothing f a p.0 p.1
instr_puts_nothing (instr.Invoke op m) a x h =
    let p = step_ok (method_ref_index op m) (λ i. done (invoke_of op m i)) a x h in
    done_puts_nothing (invoke_of op m p.0.0) p.0.1 x p.2 ∙ method_puts_nothing op m a p.0 p.1
instr_puts_nothing (instr.New name) a x h =
    let p = step_ok (class_index name) (λ i. done (indexed.New i)) a x h in
    done_puts_nothing (indexed.New p.0.0) p.0.1 x p.2 ∙ class_puts_nothing name a p.0 p.1
instr_puts_nothing (instr.Type op c) a x h =
    let p = step_ok (class_ref_index c) (λ i. done (indexed.Type op i)) a x h in
    done_puts_nothing (indexed.Type op p.0.0) p.0.1 x p.2 ∙ class_ref_puts_nothing c a p.0 p.1

each_puts_nothing : (is : List Instr) (a : DraftParts) (x : List IndexedInstr × DraftParts) → each_of instr_indexed is a ≡ Ok x → x.1.written ≡ a.written
unfolding each_of
each_puts_nothing [] a x h = done_puts_nothing {A = List IndexedInstr} [] a x h
each_puts_nothing (i ∷ is) a x h =
    let p = step_ok (instr_indexed i) (λ y draft. and_then (each_of instr_indexed is draft) (λ ys. done (y ∷ ys.0) ys.1)) a x h in
    let q = step_ok (each_of instr_indexed is) (λ ys. done (p.0.0 ∷ ys)) p.0.1 x p.2 in
    done_puts_nothing (p.0.0 ∷ q.0.0) q.0.1 x q.2 ∙ each_puts_nothing is p.0.1 q.0 q.1 ∙ instr_puts_nothing i a p.0 p.1

-- the bytes of a code are few, and they are not put yet
few_bytes : (is : List Instr) (a : DraftParts) (x : EncodedCode × DraftParts) → code_encoded is a ≡ Ok x → (length x.0.bytes < 65536) × (x.1.written ≡ a.written)
unfolding code_encoded
few_bytes is a x h =
    let p = step_ok (each_of instr_indexed is) (λ all. outcome (fault_as of_encode (encoded all))) a x h in
    let q = and_then_ok (fault_as of_encode (encoded p.0.0)) (λ v. Ok (v, p.0.1)) x p.2 in
    let e : encoded p.0.0 ≡ Ok q.0 = fault_as_ok of_encode (encoded p.0.0) q.0 q.1 in
    let few : length q.0.bytes < 65536 = omega (arith, encoded_size p.0.0 q.0 e, (encoded_ok p.0.0 q.0 e).0) in
    let P : EncodedCode × DraftParts → Type 0 = λ y. (length y.0.bytes < 65536) × (y.1.written ≡ a.written) in
    subst P (same_Ok {F = WriteFault} (q.0, p.0.1) x q.2) (few, each_puts_nothing is a p.0 p.1)

-- ---- the code

line_table_added : (code : EncodedCode) (ls : List LineNumber) (a : DraftParts) (z : Unit {0} × DraftParts) → put_line_table code ls a ≡ Ok z → Within 524298 a z.1
unfolding put_line_table
line_table_added code ls a z h =
    let p = step_ok (put_u2 1) (λ _ draft. and_then (put_name (codes "LineNumberTable") draft) (λ x. with_length (put_lines code ls) x.1)) a z h in
    let q = step_ok (put_name (codes "LineNumberTable")) (λ _. with_length (put_lines code ls)) p.0.1 z p.2 in
    let lines = with_length_added 524290 (put_lines code ls) q.0.1 z (λ x k. lines_added code ls (opened q.0.1) x k) q.2 in
    omega (arith, (u2_added 1 a p.0 p.1).1, name_added (codes "LineNumberTable") p.0.1 q.0 q.1, lines)

either_added : (b : Bool) (code : EncodedCode) (ls : List LineNumber) (a : DraftParts) (z : Unit {0} × DraftParts) → (cond b (put_u2 0) (put_line_table code ls)) a ≡ Ok z → Within 524298 a z.1
either_added true code ls a z h = omega (arith, (u2_added 0 a z h).1)
either_added false code ls a z h = line_table_added code ls a z h

code_attributes_added : (code : EncodedCode) (ls : List LineNumber) (a : DraftParts) (z : Unit {0} × DraftParts) → put_code_attributes code ls a ≡ Ok z → Within 524298 a z.1
unfolding put_code_attributes
code_attributes_added code ls a z h = either_added (eqb (length ls) 0) code ls a z h

pub code_added : (c : Code) (a : DraftParts) (z : Unit {0} × DraftParts) → put_code_body c a ≡ Ok z → Within 1114131 a z.1
unfolding put_code_body put_instructions
code_added c a z h =
    let p = step_ok (put_u2 c.max_stack) (λ _ draft. and_then (put_u2 c.max_locals draft) (λ x. and_then (code_encoded c.instructions x.1) (λ y. and_then (put_instructions y.0 y.1) (λ v. and_then (put_handlers y.0 c.handlers v.1) (λ w. put_code_attributes y.0 c.lines w.1))))) a z h in
    let q = step_ok (put_u2 c.max_locals) (λ _ draft. and_then (code_encoded c.instructions draft) (λ y. and_then (put_instructions y.0 y.1) (λ v. and_then (put_handlers y.0 c.handlers v.1) (λ w. put_code_attributes y.0 c.lines w.1)))) p.0.1 z p.2 in
    let e = step_ok (code_encoded c.instructions) (λ y draft. and_then (put_instructions y draft) (λ v. and_then (put_handlers y c.handlers v.1) (λ w. put_code_attributes y c.lines w.1))) q.0.1 z q.2 in
    let i = step_ok (put_instructions e.0.0) (λ _ draft. and_then (put_handlers e.0.0 c.handlers draft) (λ w. put_code_attributes e.0.0 c.lines w.1)) e.0.1 z e.2 in
    let t = step_ok (put_handlers e.0.0 c.handlers) (λ _. put_code_attributes e.0.0 c.lines) i.0.1 z i.2 in
    let u = step_ok (put_u4 (length e.0.0.bytes)) (λ _. put_bytes e.0.0.bytes) e.0.1 i.0 i.1 in
    let few = few_bytes c.instructions q.0.1 e.0 e.1 in
    omega (
      arith,
      (u2_added c.max_stack a p.0 p.1).1,
      (u2_added c.max_locals p.0.1 q.0 q.1).1,
      few.0,
      ap (λ (l : List ℕ). length l) few.1,
      u4_added (length e.0.0.bytes) e.0.1 u.0 u.1,
      bytes_added e.0.0.bytes u.0.1 i.0 u.2,
      handlers_added e.0.0 c.handlers i.0.1 t.0 t.1,
      code_attributes_added e.0.0 c.lines t.0.1 z t.2,
    )

-- ---- each part that stands behind its length

pub constant_length : (value : Constant) (d : DraftParts) → LengthFits (put_constant value) d
constant_length value d = length_fits 2 (put_constant value) d (omega arith) (λ x h. constant_added value (opened d) x h)

pub name_length : (units : List ℕ) (d : DraftParts) → LengthFits (put_name units) d
name_length units d = length_fits 2 (put_name units) d (omega arith) (λ x h. name_added units (opened d) x h)

pub lines_length : (code : EncodedCode) (ls : List LineNumber) (d : DraftParts) → LengthFits (put_lines code ls) d
lines_length code ls d = length_fits 524290 (put_lines code ls) d (omega arith) (λ x h. lines_added code ls (opened d) x h)

pub code_length : (c : Code) (d : DraftParts) → LengthFits (put_code_body c) d
code_length c d = length_fits 1114131 (put_code_body c) d (omega arith) (λ x h. code_added c (opened d) x h)
