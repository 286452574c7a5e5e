-- A class whose counts and texts a class file can say is not refused for one of them: no step that puts it gives that fault.
use Rattle.std.proofs.Common.{◌≡◌, ℕ, zero, suc, ◌+◌, ◌<◌, ◌≤◌, ◌^◌, Bool, true, false, cond, ltb, eqb, leb, List, [], ◌∷◌, ◌++◌, length, get_or, slice_get, Option, Some, None, Result, Ok, Err, refl, sym, subst, arith}
use Rattle.std.specs.Prelude.{codes, not, ◌&&◌, ◌||◌}
use Rattle.std.specs.Int.{w16, w32, to_be_bytes}
use Rattle.std.specs.List.{All, list_all}
use Rattle.std.specs.Result.{IsOk}
use Rattle.std.proofs.lemmas.Bool.{lt-ltb, le-leb, leb-true}
use Rattle.std.proofs.lemmas.Option.{slice_get_within, get_or_from_slice_get}
use Rattle.jm_bytes.specs.Laws.{ok_or_ok}
use Rattle.jm_bytes.specs.Reading.{and_then, fault_as}
use Rattle.jm_program.specs.Descriptors.{field_text, method_text}
use Rattle.jm_program.specs.Instructions.{instr_fits}
use Rattle.jm_program.specs.Codes.{handler_fits, line_fits, code_fits}
use Rattle.jm_program.specs.Flags.{is_interface, is_abstract}
use Rattle.jm_program.specs.Fits.{method_fits, body_fits, method_slots, is_class_initializer, Fits}
use Rattle.jm_program.specs.declared.constant.Constant.{Constant}
use Rattle.jm_program.specs.declared.constant.Constant.TheVariants as constant
use Rattle.jm_program.specs.declared.reference.ClassRef.{ClassRef}
use Rattle.jm_program.specs.declared.reference.FieldRef.{FieldRef}
use Rattle.jm_program.specs.declared.reference.MethodRef.{MethodRef}
use Rattle.jm_program.specs.declared.instruction.operation.InvokeOp.{InvokeOp}
use Rattle.jm_program.specs.declared.instruction.operation.InvokeOp.TheVariants as invoke
use Rattle.jm_program.specs.declared.instruction.symbolic.Instr.{Instr}
use Rattle.jm_program.specs.declared.instruction.symbolic.Instr.TheVariants as instr
use Rattle.jm_program.specs.declared.code.Code.{Code}
use Rattle.jm_program.specs.declared.code.Handler.{Handler}
use Rattle.jm_program.specs.declared.code.LineNumber.{LineNumber}
use Rattle.jm_program.specs.declared.class.Version.{Version}
use Rattle.jm_program.specs.declared.class.Field.{Field}
use Rattle.jm_program.specs.declared.class.Method.{Method}
use Rattle.jm_program.specs.declared.class.ClassParts.{ClassParts}
use Rattle.jm_program.proofs.Truths.{both_true}
use Rattle.jm_class_format.specs.ModifiedUtf8.{unit_bytes, text_bytes}
use Rattle.jm_class_format.specs.PoolLookups.{entry_at}
use Rattle.jm_class_format.specs.declared.constant_pool.Entry.{Entry}
use Rattle.jm_class_format.specs.declared.instruction.IndexedInstr.{IndexedInstr}
use Rattle.jm_class_format.specs.declared.instruction.IndexedInstr.TheVariants as indexed
use Rattle.jm_pool.specs.declared.builder_fault.BuilderFault.{BuilderFault}
use Rattle.jm_pool.specs.declared.builder_fault.BuilderFault.TheVariants as builder
use Rattle.jm_pool.specs.declared.constant.Constant.{Constant as PoolConstant}
use Rattle.jm_pool.specs.declared.constant.Constant.TheVariants as pool
use Rattle.jm_pool.specs.Building.{entry_for, places, index_among, fits_length, extended, found_or, interned, pool_bytes}
use Rattle.jm_pool.proofs.BuildingLaws.{interned_is, interning_few, interned_names}
use Rattle.jm_encode.specs.declared.encoded.EncodedCode.{EncodedCode}
use Rattle.jm_encode.specs.declared.fault.EncodeFault.{EncodeFault}
use Rattle.jm_encode.specs.declared.fault.EncodeFault.TheVariants as encode
use Rattle.jm_encode.specs.Encoding.{encoded, starts_from, end_from}
use Rattle.jm_encode.proofs.Targets.{offset_in}
use Rattle.jm_encode.proofs.Codes.{start_below, encoded_ok}
use Rattle.jm_encode.proofs.Sizes.{encoded_size}
use Rattle.jm_class_writer.specs.declared.fault.WriteFault.{WriteFault}
use Rattle.jm_class_writer.specs.declared.fault.WriteFault.TheVariants as fault
use Rattle.jm_class_writer.specs.Drafts.{DraftParts, Drafting, add_bytes, done, outcome, all_of, each_of, put_bytes, put_u2, put_u4, opened, closed, with_length}
use Rattle.jm_class_writer.specs.Faults.{of_builder, of_encode}
use Rattle.jm_class_writer.specs.PoolUse.{entry_index, text_index, class_index, string_index, constant_index, name_and_type_index, class_text, class_ref_index, field_ref_index, method_entry, method_ref_index}
use Rattle.jm_class_writer.specs.CodeParts.{load_of, invoke_of, instr_indexed, start_of, end_of, put_start, put_end, put_catch_type, put_handler, put_handlers, put_line, put_lines, put_name, put_line_table, put_code_attributes, put_instructions, code_encoded, put_code_body}
use Rattle.jm_class_writer.specs.ClassParts.{put_class, put_superclass, put_interfaces, put_head, put_constant, put_field_attributes, put_field, put_fields, put_method_attributes, put_method, put_methods, put_class_attributes, put_body, put_contents, nothing_written, put_version, written}
use Rattle.jm_class_writer.specs.Ranges.{OfSome}
use Rattle.jm_class_writer.specs.Limits.{IsShort, ConstantIsShort, FieldRefIsShort, MethodRefIsShort, InstrIsShort, CodeWithin, FieldWithin, MethodWithin, WithinLimits}
use Rattle.jm_class_writer.specs.Places.{PlacesFound}
use Rattle.jm_class_writer.proofs.PartLaws.{all_head, all_tail}
use Rattle.jm_class_writer.proofs.PlaceLaws.{all_found, places_found}
use Rattle.jm_class_writer.proofs.LengthLaws.{constant_added, name_added, lines_added, code_added}

-- ---- steps that never give the fault

-- the pool keeps its limit
abbrev Small : DraftParts → Type 0
Small d = length d.entries ≤ 65534

-- a value of some kind and a pool within its limit, or another fault
abbrev Never : {A : Type 0} → (A → Type 0) → Result (A × DraftParts) WriteFault → Type 0
Never P (Ok x) = P x.0 × Small x.1
Never P (Err e) = ¬ (e ≡ fault.TooMany)

abbrev Anything : {A : Type 0} → A → Type 0
Anything x = Unit {0}

abbrev IsIndex : ℕ → Type 0
IsIndex i = i < 65536

never_then : {A B : Type 0} (P : A → Type 0) (Q : B → Type 0) (r : Result (A × DraftParts) WriteFault) (g : A → DraftParts → Result (B × DraftParts) WriteFault) → Never P r
    → ((x : A) (b : DraftParts) → r ≡ Ok (x, b) → P x → Small b → Never Q (g x b)) → Never Q (and_then r (λ x. g x.0 x.1))
never_then P Q (Ok x) g h k = k x.0 x.1 refl h.0 h.1
never_then P Q (Err e) g h k = h

-- a step without a value, and another
then_never : {B : Type 0} (Q : B → Type 0) (r : Result (Unit {0} × DraftParts) WriteFault) (g : DraftParts → Result (B × DraftParts) WriteFault) → Never Anything r → ((b : DraftParts) → Small b → Never Q (g b)) → Never Q (and_then r (λ x. g x.1))
then_never Q (Ok x) g h k = k x.1 h.1
then_never Q (Err e) g h k = h

put_never : (b : Bool) (d : DraftParts) → b ≡ true → Small d → Never Anything (cond {A = Result (Unit {0} × DraftParts) WriteFault} b (Ok (tt, d)) (Err fault.TooMany))
put_never true d h s = (tt, s)
put_never false d h s = absurd cc

u2_never : (n : ℕ) (d : DraftParts) → n < 65536 → Small d → Never Anything (put_u2 n d)
unfolding put_u2
u2_never n d lt s = put_never (ltb n 65536) (add_bytes (to_be_bytes w16 n) d) (lt-ltb n 65536 lt) s

u4_never : (n : ℕ) (d : DraftParts) → n < 4294967296 → Small d → Never Anything (put_u4 n d)
unfolding put_u4
u4_never n d lt s = put_never (ltb n 4294967296) (add_bytes (to_be_bytes w32 n) d) (lt-ltb n 4294967296 lt) s

bytes_never : (bytes : List ℕ) (d : DraftParts) → Small d → Never Anything (put_bytes bytes d)
unfolding put_bytes
bytes_never bytes d s = (tt, s)

-- ---- indexes

full_is : (b : Bool) (x : ℕ × List Entry) → ¬ (cond {A = Result (ℕ × List Entry) BuilderFault} b (Ok x) (Err builder.PoolFull) ≡ Err builder.TooMany)
full_is true x h = absurd cc
full_is false x h = absurd cc

by_found : (b : Bool) (o : Option ℕ) (entries more : List Entry) → b ≡ true → ¬ (cond {A = Result (ℕ × List Entry) BuilderFault} b (found_or o entries (extended entries more)) (Err builder.TooMany) ≡ Err builder.TooMany)
unfolding extended
by_found true (Some i) entries more t h = absurd cc
by_found true None entries more t h = full_is (leb (length entries + length more) 65534) (length entries + 1, entries ++ more) h
by_found false o entries more t h = absurd cc

not_too_long : (entries : List Entry) (c : PoolConstant) → fits_length c ≡ true → ¬ (interned entries c ≡ Err builder.TooMany)
unfolding interned
not_too_long entries c fits h = by_found (fits_length c) (index_among 1 entries c) entries (places c) fits h

index_within : (entries : List Entry) (i : ℕ) (e : Entry) → entry_at entries i ≡ Some e → i ≤ length entries
unfolding entry_at
index_within entries zero e h = absurd cc
index_within entries (suc i) e h = let lt : i < length entries = slice_get_within entries i e h in omega arith

by_interned : (c : PoolConstant) (d : DraftParts) (r : Result (ℕ × List Entry) BuilderFault) → interned d.entries c ≡ r → fits_length c ≡ true → Small d
    → Never IsIndex (and_then (fault_as of_builder r) (λ x. Ok (x.0, record { entries = x.1; written = d.written })))
by_interned c d (Ok x) h fits s =
    let few = interning_few d.entries c x.0 x.1 (interned_is d.entries c x.0 x.1 h).1 s in
    let within = index_within x.1 x.0 (entry_for c) (interned_names d.entries c x.0 x.1 h) in
    (omega (arith, few, within), few)
by_interned c d (Err builder.PoolFull) h fits s = λ is. absurd cc
by_interned c d (Err builder.TooMany) h fits s = absurd (not_too_long d.entries c fits h)
by_interned c d (Err builder.OutOfMemory) h fits s = λ is. absurd cc

entry_never : (c : PoolConstant) (d : DraftParts) → fits_length c ≡ true → Small d → Never IsIndex (entry_index c d)
unfolding entry_index
entry_never c d fits s = by_interned c d (interned d.entries c) refl fits s

text_never : (units : List ℕ) (d : DraftParts) → IsShort units → Small d → Never IsIndex (text_index units d)
unfolding fits_length
text_never units d short s = entry_never (pool.Utf8 units) d (le-leb (length (text_bytes units)) 65535 short) s

class_never : (units : List ℕ) (d : DraftParts) → IsShort units → Small d → Never IsIndex (class_index units d)
unfolding class_index fits_length
class_never units d short s = never_then IsIndex IsIndex (text_index units d) (λ i. entry_index (pool.Class i)) (text_never units d short s) (λ i b e p t. entry_never (pool.Class i) b refl t)

constant_never : (c : Constant) (d : DraftParts) → ConstantIsShort c → Small d → Never IsIndex (constant_index c d)
unfolding constant_index string_index fits_length
constant_never (constant.Int n) d short s = entry_never (pool.Integer n) d refl s
constant_never (constant.Long n) d short s = entry_never (pool.Long n) d refl s
constant_never (constant.String units) d short s = never_then IsIndex IsIndex (text_index units d) (λ i. entry_index (pool.String i)) (text_never units d short s) (λ i b e p t. entry_never (pool.String i) b refl t)

pair_never : (name descriptor : List ℕ) (d : DraftParts) → IsShort name → IsShort descriptor → Small d → Never IsIndex (name_and_type_index name descriptor d)
unfolding name_and_type_index fits_length
pair_never name descriptor d short both s =
    never_then IsIndex IsIndex (text_index name d) (λ first draft. and_then (text_index descriptor draft) (λ y. entry_index (pool.NameAndType first y.0) y.1)) (text_never name d short s)
    (λ i b e p t. never_then IsIndex IsIndex (text_index descriptor b) (λ second. entry_index (pool.NameAndType i second)) (text_never descriptor b both t) (λ j c f q u. entry_never (pool.NameAndType i j) c refl u))

class_ref_never : (c : ClassRef) (d : DraftParts) → IsShort (class_text c) → Small d → Never IsIndex (class_ref_index c d)
unfolding class_ref_index
class_ref_never c d short s = class_never (class_text c) d short s

field_ref_never : (f : FieldRef) (d : DraftParts) → FieldRefIsShort f → Small d → Never IsIndex (field_ref_index f d)
unfolding field_ref_index fits_length
field_ref_never f d short s =
    never_then IsIndex IsIndex (class_ref_index f.class d) (λ class draft. and_then (name_and_type_index f.name (field_text f.descriptor) draft) (λ y. entry_index (pool.Fieldref class y.0) y.1)) (class_ref_never f.class d short.0 s)
    (λ i b e p t. never_then IsIndex IsIndex (name_and_type_index f.name (field_text f.descriptor) b) (λ n. entry_index (pool.Fieldref i n)) (pair_never f.name (field_text f.descriptor) b short.1 short.2 t) (λ j c k q u. entry_never (pool.Fieldref i j) c refl u))

entry_fits : (op : InvokeOp) (class pair : ℕ) → fits_length (method_entry op class pair) ≡ true
unfolding fits_length
entry_fits invoke.Virtual class pair = refl
entry_fits invoke.Special class pair = refl
entry_fits invoke.Static class pair = refl
entry_fits invoke.Interface class pair = refl

method_ref_never : (op : InvokeOp) (m : MethodRef) (d : DraftParts) → MethodRefIsShort m → Small d → Never IsIndex (method_ref_index op m d)
unfolding method_ref_index
method_ref_never op m d short s =
    never_then IsIndex IsIndex (class_ref_index m.class d) (λ class draft. and_then (name_and_type_index m.name (method_text m.descriptor) draft) (λ y. entry_index (method_entry op class y.0) y.1)) (class_ref_never m.class d short.0 s)
    (λ i b e p t. never_then IsIndex IsIndex (name_and_type_index m.name (method_text m.descriptor) b) (λ n. entry_index (method_entry op i n)) (pair_never m.name (method_text m.descriptor) b short.1 short.2 t) (λ j c k q u. entry_never (method_entry op i j) c (entry_fits op i j) u))

-- an index that is put
index_never : (r : Result (ℕ × DraftParts) WriteFault) → Never IsIndex r → Never Anything (and_then r (λ x. put_u2 x.0 x.1))
index_never r h = never_then IsIndex Anything r (λ i. put_u2 i) h (λ i b e p t. u2_never i b p t)

name_never : (name : List ℕ) (d : DraftParts) → IsShort name → Small d → Never Anything (put_name name d)
unfolding put_name
name_never name d short s = index_never (text_index name d) (text_never name d short s)

put_class_never : (name : List ℕ) (d : DraftParts) → IsShort name → Small d → Never Anything (put_class name d)
unfolding put_class
put_class_never name d short s = index_never (class_index name d) (class_never name d short s)

put_constant_never : (c : Constant) (d : DraftParts) → ConstantIsShort c → Small d → Never Anything (put_constant c d)
unfolding put_constant
put_constant_never c d short s = index_never (constant_index c d) (constant_never c d short s)

-- ---- instructions

instr_never : (i : Instr) (d : DraftParts) → InstrIsShort i → Small d → Never Anything (instr_indexed i d)
unfolding instr_indexed
instr_never (instr.Plain p) d short s = (tt, s)
instr_never (instr.Array op) d short s = (tt, s)
instr_never (instr.Return op) d short s = (tt, s)
instr_never instr.Throw d short s = (tt, s)
instr_never (instr.Monitor op) d short s = (tt, s)
instr_never (instr.Constant c) d short s = never_then IsIndex Anything (constant_index c d) (λ i. done (load_of c i)) (constant_never c d short s) (λ i b e p t. (tt, t))
instr_never (instr.Field op f) d short s = never_then IsIndex Anything (field_ref_index f d) (λ i. done (indexed.Field op i)) (field_ref_never f d short s) (λ i b e p t. (tt, t))
instr_never (instr.Invoke op m) d short s = never_then IsIndex Anything (method_ref_index op m d) (λ i. done (invoke_of op m i)) (method_ref_never op m d short s) (λ i b e p t. (tt, t))
instr_never (instr.New name) d short s = never_then IsIndex Anything (class_index name d) (λ i. done (indexed.New i)) (class_never name d short s) (λ i b e p t. (tt, t))
instr_never (instr.Type op c) d short s = never_then IsIndex Anything (class_ref_index c d) (λ i. done (indexed.Type op i)) (class_ref_never c d short s) (λ i b e p t. (tt, t))

each_never : (is : List Instr) (d : DraftParts) → All InstrIsShort is → Small d → Never Anything (each_of instr_indexed is d)
unfolding each_of
each_never [] d short s = (tt, s)
each_never (i ∷ is) d short s =
    never_then Anything Anything (instr_indexed i d) (λ y draft. and_then (each_of instr_indexed is draft) (λ ys. done (y ∷ ys.0) ys.1)) (instr_never i d (all_head InstrIsShort i is short) s)
    (λ y b e p t. never_then Anything Anything (each_of instr_indexed is b) (λ ys. done (y ∷ ys)) (each_never is b (all_tail InstrIsShort i is short) t) (λ ys c f q u. (tt, u)))

-- two bytes can say the offsets of a code, and its length
abbrev IsLaid : EncodedCode → Type 0
IsLaid e = (length e.bytes < 65536) × ((k : ℕ) → k < length e.starts → offset_in e.starts k < 65536)

by_encoded : (all : List IndexedInstr) (r : Result EncodedCode EncodeFault) (d : DraftParts) → encoded all ≡ r → Small d → Never IsLaid (outcome (fault_as of_encode r) d)
by_encoded all (Ok e) d h s =
    let ok = encoded_ok all e h in
    let few : length e.bytes < 65536 = omega (arith, encoded_size all e h, ok.0) in
    let laid : (k : ℕ) → k < length e.starts → offset_in e.starts k < 65536 = λ k lt.
    (let before : k < length (starts_from 0 all) = subst (λ (l : List ℕ). k < length l) (sym ok.1) lt in
    let below : offset_in e.starts k < end_from 0 all = subst (λ (l : List ℕ). offset_in l k < end_from 0 all) ok.1 (start_below 0 all k before) in
    omega (arith, below, ok.0)) in
    ((few, laid), s)
by_encoded all (Err encode.BadTarget) d h s = λ is. absurd cc
by_encoded all (Err encode.BranchTooFar) d h s = λ is. absurd cc
by_encoded all (Err encode.CodeTooLong) d h s = λ is. absurd cc
by_encoded all (Err encode.OutOfMemory) d h s = λ is. absurd cc

encoded_never : (is : List Instr) (d : DraftParts) → All InstrIsShort is → Small d → Never IsLaid (code_encoded is d)
unfolding code_encoded
encoded_never is d short s = never_then Anything IsLaid (each_of instr_indexed is d) (λ all. outcome (fault_as of_encode (encoded all))) (each_never is d short s) (λ all b e p t. by_encoded all (encoded all) b refl t)

-- ---- offsets

offset_never : (r : Result ℕ WriteFault) (d : DraftParts) → IsOk r → ((v : ℕ) → r ≡ Ok v → v < 65536) → Small d → Never Anything (and_then (outcome r d) (λ x. put_u2 x.0 x.1))
offset_never (Ok v) d ok few s = u2_never v d (few v refl) s
offset_never (Err e) d ok few s = absurd cc

start_few : (e : EncodedCode) (n v : ℕ) → IsLaid e → start_of e n ≡ Ok v → v < 65536
unfolding start_of
start_few e n v laid h =
    let got : slice_get e.starts n ≡ Some v = ok_or_ok (slice_get e.starts n) fault.TooMany v h in
    let is : get_or e.starts n 0 ≡ v = get_or_from_slice_get e.starts n v 0 got in
    omega (arith, laid.1 n (slice_get_within e.starts n v got), is)

by_end : (b : Bool) (e : EncodedCode) (n v : ℕ) → IsLaid e → cond b (Ok (length e.bytes)) (start_of e n) ≡ Ok v → v < 65536
by_end true e n v laid h = let is : length e.bytes ≡ v = cc in omega (arith, laid.0, is)
by_end false e n v laid h = start_few e n v laid h

end_few : (e : EncodedCode) (n v : ℕ) → IsLaid e → end_of e n ≡ Ok v → v < 65536
unfolding end_of
end_few e n v laid h = by_end (eqb n (length e.starts)) e n v laid h

start_never : (e : EncodedCode) (n : ℕ) (d : DraftParts) → IsLaid e → IsOk (start_of e n) → Small d → Never Anything (put_start e n d)
unfolding put_start
start_never e n d laid ok s = offset_never (start_of e n) d ok (λ v h. start_few e n v laid h) s

end_never : (e : EncodedCode) (n : ℕ) (d : DraftParts) → IsLaid e → IsOk (end_of e n) → Small d → Never Anything (put_end e n d)
unfolding put_end
end_never e n d laid ok s = offset_never (end_of e n) d ok (λ v h. end_few e n v laid h) s

-- ---- lists

all_never : {A : Type 0} (f : A → Drafting (Unit {0})) (P Q : A → Type 0) → ((x : A) (d : DraftParts) → P x → Q x → Small d → Never Anything (f x d)) → (xs : List A) (d : DraftParts) → All P xs → All Q xs → Small d → Never Anything (all_of f xs d)
unfolding all_of
all_never f P Q one [] d p q s = (tt, s)
all_never f P Q one (x ∷ xs) d p q s = then_never Anything (f x d) (all_of f xs) (one x d (all_head P x xs p) (all_head Q x xs q) s) (λ b t. all_never f P Q one xs b (all_tail P x xs p) (all_tail Q x xs q) t)

table_never : {A : Type 0} (f : A → Drafting (Unit {0})) (P Q : A → Type 0) → ((x : A) (d : DraftParts) → P x → Q x → Small d → Never Anything (f x d)) → (xs : List A) (d : DraftParts) → length xs ≤ 65535 → All P xs → All Q xs → Small d → Never Anything (and_then (put_u2 (length xs) d) (λ x. all_of f xs x.1))
table_never f P Q one xs d few p q s = then_never Anything (put_u2 (length xs) d) (all_of f xs) (u2_never (length xs) d (omega (arith, few)) s) (λ b t. all_never f P Q one xs b p q t)

-- ---- behind a length

by_closed : (r : Result (Unit {0} × DraftParts) WriteFault) (before : List ℕ) → Never Anything r → ((x : Unit {0} × DraftParts) → r ≡ Ok x → length x.1.written < 4294967296) → Never Anything (and_then r (λ x. closed before x.1))
unfolding closed
by_closed (Ok x) before h short = put_never (ltb (length x.1.written) 4294967296) (record { entries = x.1.entries; written = before ++ to_be_bytes w32 (length x.1.written) ++ x.1.written }) (lt-ltb (length x.1.written) 4294967296 (short x refl)) h.1
by_closed (Err e) before h short = h

length_never : (n : ℕ) (body : Drafting (Unit {0})) (d : DraftParts) → n < 4294967296 → Never Anything (body (opened d)) → ((x : Unit {0} × DraftParts) → body (opened d) ≡ Ok x → length x.1.written ≤ n) → Never Anything (with_length body d)
unfolding with_length
length_never n body d few h within = by_closed (body (opened d)) d.written h (λ x k. omega (arith, few, within x k))

-- ---- the code

catch_type_never : (t : Option (List ℕ)) (d : DraftParts) → OfSome IsShort t → Small d → Never Anything (put_catch_type t d)
unfolding put_catch_type
catch_type_never None d short s = u2_never 0 d (omega arith) s
catch_type_never (Some name) d short s = index_never (class_index name d) (class_never name d short s)

abbrev IsPlaced : EncodedCode → Handler → Type 0
IsPlaced e h = IsOk (start_of e h.start) × IsOk (end_of e h.end) × IsOk (start_of e h.target)

handler_never : (e : EncodedCode) → IsLaid e → (h : Handler) (d : DraftParts) → IsPlaced e h → OfSome IsShort h.catch_type → Small d → Never Anything (put_handler e h d)
unfolding put_handler
handler_never e laid h d placed short s =
    then_never Anything (put_start e h.start d) (λ b. and_then (put_end e h.end b) (λ x. and_then (put_start e h.target x.1) (λ y. put_catch_type h.catch_type y.1))) (start_never e h.start d laid placed.0 s)
    (λ b t. then_never Anything (put_end e h.end b) (λ c. and_then (put_start e h.target c) (λ y. put_catch_type h.catch_type y.1)) (end_never e h.end b laid placed.1 t)
    (λ c u. then_never Anything (put_start e h.target c) (put_catch_type h.catch_type) (start_never e h.target c laid placed.2 u) (λ k v. catch_type_never h.catch_type k short v)))

line_never : (e : EncodedCode) → IsLaid e → (l : LineNumber) (d : DraftParts) → IsOk (start_of e l.start) → l.line < 2 ^ 16 → Small d → Never Anything (put_line e l d)
unfolding put_line
line_never e laid l d placed few s = then_never Anything (put_start e l.start d) (put_u2 l.line) (start_never e l.start d laid placed s) (λ b t. u2_never l.line b few t)

-- what the tables of a code need of it
record TablesFit (e : EncodedCode) (c : Code) : Type 0 where
  laid : IsLaid e
  places : PlacesFound e c
  within : CodeWithin c

handlers_never : (e : EncodedCode) (c : Code) (d : DraftParts) → TablesFit e c → Small d → Never Anything (put_handlers e c.handlers d)
unfolding put_handlers
handlers_never e c d fit s = table_never (put_handler e) (IsPlaced e) (λ h. OfSome IsShort h.catch_type) (λ h b p q t. handler_never e fit.laid h b p q t) c.handlers d fit.within.handlers fit.places.0 fit.within.caught s

lines_never : (e : EncodedCode) (c : Code) (d : DraftParts) → TablesFit e c → Small d → Never Anything (put_lines e c.lines d)
unfolding put_lines
lines_never e c d fit s = table_never (put_line e) (λ l. IsOk (start_of e l.start)) (λ l. l.line < 2 ^ 16) (λ l b p q t. line_never e fit.laid l b p q t) c.lines d fit.within.lines fit.places.1 fit.within.numbers s

short_name : (name : List ℕ) → leb (length (text_bytes name)) 65535 ≡ true → IsShort name
short_name name h = leb-true (length (text_bytes name)) 65535 h

line_table_never : (e : EncodedCode) (c : Code) (d : DraftParts) → TablesFit e c → Small d → Never Anything (put_line_table e c.lines d)
unfolding put_line_table unit_bytes
line_table_never e c d fit s =
    then_never Anything (put_u2 1 d) (λ b. and_then (put_name (codes "LineNumberTable") b) (λ x. with_length (put_lines e c.lines) x.1)) (u2_never 1 d (omega arith) s)
    (λ b t. then_never Anything (put_name (codes "LineNumberTable") b) (with_length (put_lines e c.lines)) (name_never (codes "LineNumberTable") b (short_name (codes "LineNumberTable") refl) t)
    (λ k u. length_never 524290 (put_lines e c.lines) k (omega arith) (lines_never e c (opened k) fit u) (λ x h. lines_added e c.lines (opened k) x h)))

either_never : (b : Bool) (e : EncodedCode) (c : Code) (d : DraftParts) → TablesFit e c → Small d → Never Anything ((cond b (put_u2 0) (put_line_table e c.lines)) d)
either_never true e c d fit s = u2_never 0 d (omega arith) s
either_never false e c d fit s = line_table_never e c d fit s

code_attributes_never : (e : EncodedCode) (c : Code) (d : DraftParts) → TablesFit e c → Small d → Never Anything (put_code_attributes e c.lines d)
unfolding put_code_attributes
code_attributes_never e c d fit s = either_never (eqb (length c.lines) 0) e c d fit s

instructions_never : (e : EncodedCode) (d : DraftParts) → IsLaid e → Small d → Never Anything (put_instructions e d)
unfolding put_instructions
instructions_never e d laid s = then_never Anything (put_u4 (length e.bytes) d) (put_bytes e.bytes) (u4_never (length e.bytes) d (omega (arith, laid.0)) s) (λ b t. bytes_never e.bytes b t)

code_never : (slots : ℕ) (c : Code) (d : DraftParts) → CodeWithin c → code_fits slots c ≡ true → Small d → Never Anything (put_code_body c d)
unfolding put_code_body
code_never slots c d within fits s =
    let lines = both_true (leb slots c.max_locals && ltb 0 (length c.instructions) && list_all (instr_fits (length c.instructions)) c.instructions && list_all (handler_fits (length c.instructions)) c.handlers) (list_all (line_fits (length c.instructions)) c.lines) fits in
    let handlers = both_true (leb slots c.max_locals && ltb 0 (length c.instructions) && list_all (instr_fits (length c.instructions)) c.instructions) (list_all (handler_fits (length c.instructions)) c.handlers) lines.0 in
    let instrs = both_true (leb slots c.max_locals && ltb 0 (length c.instructions)) (list_all (instr_fits (length c.instructions)) c.instructions) handlers.0 in
    then_never Anything (put_u2 c.max_stack d) (λ b. and_then (put_u2 c.max_locals b) (λ x. and_then (code_encoded c.instructions x.1) (λ y. and_then (put_instructions y.0 y.1) (λ v. and_then (put_handlers y.0 c.handlers v.1) (λ w. put_code_attributes y.0 c.lines w.1)))))
    (u2_never c.max_stack d within.max_stack s)
    (λ b t. then_never Anything (put_u2 c.max_locals b) (λ k. and_then (code_encoded c.instructions k) (λ y. and_then (put_instructions y.0 y.1) (λ v. and_then (put_handlers y.0 c.handlers v.1) (λ w. put_code_attributes y.0 c.lines w.1))))
    (u2_never c.max_locals b within.max_locals t)
    (λ k u. never_then IsLaid Anything (code_encoded c.instructions k) (λ e m. and_then (put_instructions e m) (λ v. and_then (put_handlers e c.handlers v.1) (λ w. put_code_attributes e c.lines w.1))) (encoded_never c.instructions k within.instructions u)
    (λ e m made laid v.
    (let fit : TablesFit e c = record { laid = laid; places = places_found c k e m instrs.1 handlers.1 lines.1 made; within = within } in
    then_never Anything (put_instructions e m) (λ n. and_then (put_handlers e c.handlers n) (λ w. put_code_attributes e c.lines w.1)) (instructions_never e m laid v)
    (λ n w. then_never Anything (put_handlers e c.handlers n) (put_code_attributes e c.lines) (handlers_never e c n fit w) (λ o z. code_attributes_never e c o fit z))))))

-- ---- fields and methods

field_attributes_never : (o : Option Constant) (d : DraftParts) → OfSome ConstantIsShort o → Small d → Never Anything (put_field_attributes o d)
unfolding put_field_attributes unit_bytes
field_attributes_never None d short s = u2_never 0 d (omega arith) s
field_attributes_never (Some value) d short s =
    then_never Anything (put_u2 1 d) (λ b. and_then (put_name (codes "ConstantValue") b) (λ x. with_length (put_constant value) x.1)) (u2_never 1 d (omega arith) s)
    (λ b t. then_never Anything (put_name (codes "ConstantValue") b) (with_length (put_constant value)) (name_never (codes "ConstantValue") b (short_name (codes "ConstantValue") refl) t)
    (λ k u. length_never 2 (put_constant value) k (omega arith) (put_constant_never value (opened k) short u) (λ x h. constant_added value (opened k) x h)))

field_never : (f : Field) (d : DraftParts) → FieldWithin f → Small d → Never Anything (put_field f d)
unfolding put_field
field_never f d within s =
    then_never Anything (put_u2 f.flags.bits d) (λ b. and_then (put_name f.name b) (λ x. and_then (put_name (field_text f.descriptor) x.1) (λ y. put_field_attributes f.constant y.1))) (u2_never f.flags.bits d within.flags s)
    (λ b t. then_never Anything (put_name f.name b) (λ k. and_then (put_name (field_text f.descriptor) k) (λ y. put_field_attributes f.constant y.1)) (name_never f.name b within.name t)
    (λ k u. then_never Anything (put_name (field_text f.descriptor) k) (put_field_attributes f.constant) (name_never (field_text f.descriptor) k within.descriptor u) (λ m v. field_attributes_never f.constant m within.constant v)))

method_attributes_never : (in_interface : Bool) (m : Method) (o : Option Code) (d : DraftParts) → OfSome CodeWithin o → body_fits in_interface m o ≡ true → Small d → Never Anything (put_method_attributes o d)
unfolding put_method_attributes unit_bytes
method_attributes_never in_interface m None d within fits s = u2_never 0 d (omega arith) s
method_attributes_never in_interface m (Some c) d within fits s =
    let code : code_fits (method_slots m) c ≡ true = (both_true (not (is_abstract m.flags) && (not in_interface || is_class_initializer m)) (code_fits (method_slots m) c) fits).1 in
    then_never Anything (put_u2 1 d) (λ b. and_then (put_name (codes "Code") b) (λ x. with_length (put_code_body c) x.1)) (u2_never 1 d (omega arith) s)
    (λ b t. then_never Anything (put_name (codes "Code") b) (with_length (put_code_body c)) (name_never (codes "Code") b (short_name (codes "Code") refl) t)
    (λ k u. length_never 1114131 (put_code_body c) k (omega arith) (code_never (method_slots m) c (opened k) within code u) (λ x h. code_added c (opened k) x h)))

method_never : (in_interface : Bool) (m : Method) (d : DraftParts) → MethodWithin m → method_fits in_interface m ≡ true → Small d → Never Anything (put_method m d)
unfolding put_method
method_never in_interface m d within fits s =
    let body : body_fits in_interface m m.code ≡ true = (both_true _ _ fits).1 in
    then_never Anything (put_u2 m.flags.bits d) (λ b. and_then (put_name m.name b) (λ x. and_then (put_name (method_text m.descriptor) x.1) (λ y. put_method_attributes m.code y.1))) (u2_never m.flags.bits d within.flags s)
    (λ b t. then_never Anything (put_name m.name b) (λ k. and_then (put_name (method_text m.descriptor) k) (λ y. put_method_attributes m.code y.1)) (name_never m.name b within.name t)
    (λ k u. then_never Anything (put_name (method_text m.descriptor) k) (put_method_attributes m.code) (name_never (method_text m.descriptor) k within.descriptor u) (λ n v. method_attributes_never in_interface m m.code n within.code body v)))

-- ---- the class

superclass_never : (o : Option (List ℕ)) (d : DraftParts) → OfSome IsShort o → Small d → Never Anything (put_superclass o d)
unfolding put_superclass
superclass_never None d short s = u2_never 0 d (omega arith) s
superclass_never (Some name) d short s = put_class_never name d short s

head_never : (c : ClassParts) (d : DraftParts) → WithinLimits c → Small d → Never Anything (put_head c d)
unfolding put_head put_interfaces
head_never c d within s =
    then_never Anything (put_u2 c.flags.bits d) (λ b. and_then (put_class c.name b) (λ x. and_then (put_superclass c.superclass x.1) (λ y. put_interfaces c.interfaces y.1))) (u2_never c.flags.bits d within.flags s)
    (λ b t. then_never Anything (put_class c.name b) (λ k. and_then (put_superclass c.superclass k) (λ y. put_interfaces c.interfaces y.1)) (put_class_never c.name b within.name t)
    (λ k u. then_never Anything (put_superclass c.superclass k) (put_interfaces c.interfaces) (superclass_never c.superclass k within.superclass u)
    (λ m v. table_never put_class IsShort IsShort (λ name n p q w. put_class_never name n p w) c.interfaces m within.interface_count within.interfaces within.interfaces v)))

class_attributes_never : (o : Option (List ℕ)) (d : DraftParts) → OfSome IsShort o → Small d → Never Anything (put_class_attributes o d)
unfolding put_class_attributes unit_bytes
class_attributes_never None d short s = u2_never 0 d (omega arith) s
class_attributes_never (Some units) d short s =
    then_never Anything (put_u2 1 d) (λ b. and_then (put_name (codes "SourceFile") b) (λ x. with_length (put_name units) x.1)) (u2_never 1 d (omega arith) s)
    (λ b t. then_never Anything (put_name (codes "SourceFile") b) (with_length (put_name units)) (name_never (codes "SourceFile") b (short_name (codes "SourceFile") refl) t)
    (λ k u. length_never 2 (put_name units) k (omega arith) (name_never units (opened k) short u) (λ x h. name_added units (opened k) x h)))

body_never : (c : ClassParts) (d : DraftParts) → WithinLimits c → Fits c → Small d → Never Anything (put_body c d)
unfolding put_body put_fields put_methods
body_never c d within fits s =
    then_never Anything (put_fields c.fields d) (λ b. and_then (put_methods c.methods b) (λ y. put_class_attributes c.source_file y.1))
    (table_never put_field FieldWithin FieldWithin (λ f b p q t. field_never f b p t) c.fields d within.field_count within.fields within.fields s)
    (λ b t. then_never Anything (put_methods c.methods b) (put_class_attributes c.source_file)
    (table_never put_method MethodWithin (λ m. method_fits (is_interface c.flags) m ≡ true) (λ m k p q u. method_never (is_interface c.flags) m k p q u) c.methods b within.method_count within.methods
    (all_found (method_fits (is_interface c.flags)) (λ m. method_fits (is_interface c.flags) m ≡ true) (λ m h. h) c.methods fits.methods) t)
    (λ k u. class_attributes_never c.source_file k within.source_file u))

contents_never : (c : ClassParts) (d : DraftParts) → WithinLimits c → Fits c → Small d → Never Anything (put_contents c d)
unfolding put_contents
contents_never c d within fits s = then_never Anything (put_head c d) (put_body c) (head_never c d within s) (λ b t. body_never c b within fits t)

version_never : (v : Version) (d : DraftParts) → v.minor < 2 ^ 16 → v.major < 2 ^ 16 → Small d → Never Anything (put_version v d)
unfolding put_version
version_never v d minor major s =
    then_never Anything (put_u4 0xCAFEBABE d) (λ b. and_then (put_u2 v.minor b) (λ x. put_u2 v.major x.1)) (u4_never 0xCAFEBABE d (omega arith) s)
    (λ b t. then_never Anything (put_u2 v.minor b) (put_u2 v.major) (u2_never v.minor b minor t) (λ k u. u2_never v.major k major u))

both_never : (r q : Result (Unit {0} × DraftParts) WriteFault) (join : DraftParts → DraftParts → List ℕ) → Never Anything r → Never Anything q → ¬ (and_then r (λ v. and_then q (λ x. Ok (join v.1 x.1))) ≡ Err fault.TooMany)
both_never (Ok v) (Ok x) join h k is = absurd cc
both_never (Ok v) (Err e) join h k is = let same : e ≡ fault.TooMany = cc in k same
both_never (Err e) q join h k is = let same : e ≡ fault.TooMany = cc in h same

pub never_too_many : (c : ClassParts) → WithinLimits c → Fits c → ¬ (written c ≡ Err fault.TooMany)
unfolding written
never_too_many c within fits h =
    both_never (put_version c.version nothing_written) (put_contents c nothing_written) (λ v x. v.written ++ pool_bytes x.entries ++ x.written)
    (version_never c.version nothing_written within.minor within.major (omega arith)) (contents_never c nothing_written within fits (omega arith)) h
