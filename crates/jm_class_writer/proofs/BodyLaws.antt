-- What is written behind the length of a Code attribute spells the code (JVMS 4.7.3, 4.7.12).
use Rattle.std.proofs.Common.{◌≡◌, ℕ, zero, suc, ◌<◌, Bool, true, false, cond, ◌&&◌, eqb, leb, ltb, List, [], ◌∷◌, ◌++◌, length, map, Option, Some, None, Result, Ok, refl, sym, ap, subst, ◌∙◌, arith, slice_get}
use Rattle.std.specs.Prelude.{codes}
use Rattle.std.specs.List.{All, list_all, position}
use Rattle.std.proofs.lemmas.Bool.{eqb-true, ltb-true, lt-ltb, and_from}
use Rattle.std.proofs.lemmas.Bool.Decides.{nat_tests}
use Rattle.std.proofs.lemmas.Option.{slice_get_within, get_or_from_slice_get}
use Rattle.jm_bytes.specs.Laws.{and_then_ok, same_Ok, ok_or_ok, fault_as_ok}
use Rattle.jm_bytes.specs.Reading.{and_then, fault_as, each}
use Rattle.jm_bytes.specs.Format.{Format, ◌>>=◌, done, outcome, guard, u2, u4, repeated, within}
use Rattle.jm_program.specs.Names.{same_text, is_class_name}
use Rattle.jm_program.specs.Instructions.{instr_fits}
use Rattle.jm_program.specs.Codes.{catch_type_fits, handler_fits, line_fits}
use Rattle.jm_program.specs.declared.instruction.symbolic.Instr.{Instr}
use Rattle.jm_program.specs.declared.code.Code.{Code}
use Rattle.jm_program.specs.declared.code.Handler.{Handler}
use Rattle.jm_program.specs.declared.code.LineNumber.{LineNumber}
use Rattle.jm_program.proofs.Truths.{both_true}
use Rattle.jm_class_format.specs.declared.constant_pool.Entry.{Entry}
use Rattle.jm_class_format.specs.declared.instruction.IndexedInstr.{IndexedInstr}
use Rattle.jm_class_format.specs.declared.instruction.PlacedInstr.{PlacedInstr}
use Rattle.jm_class_format.specs.declared.read_fault.ReadFault.{ReadFault}
use Rattle.jm_class_format.specs.declared.read_fault.ReadFault.TheVariants as read
use Rattle.jm_class_format.specs.declared.fault.CodeFault.TheVariants as code_fault
use Rattle.jm_class_format.specs.PoolLookups.{entry_at}
use Rattle.jm_class_format.specs.NamedCode.{named, placed_named, file_code}
use Rattle.jm_class_format.specs.Code as code
use Rattle.jm_class_format.specs.CodeAttribute as attribute
use Rattle.jm_class_format.specs.CodeAttribute.{Places}
use Rattle.jm_pool.specs.Building.{Begins, Sound}
use Rattle.jm_encode.specs.declared.encoded.EncodedCode.{EncodedCode}
use Rattle.jm_encode.specs.Encoding.{encoded, has_bytes, placed_from, starts_from, end_from}
use Rattle.jm_encode.specs.Ranges as ranges
use Rattle.jm_encode.proofs.Targets.{AreStarts, offset_in, number_there}
use Rattle.jm_encode.proofs.Codes.{starts_length, start_below, starts_are, encoded_ok, encoded_is, encoded_spelled, placed_offsets, placed_instrs}
use Rattle.jm_class_writer.specs.declared.fault.WriteFault.{WriteFault}
use Rattle.jm_class_writer.specs.declared.fault.WriteFault.TheVariants as fault
use Rattle.jm_class_writer.specs.Drafts as drafts
use Rattle.jm_class_writer.specs.Drafts.{DraftParts, Drafting, put_bytes, put_u2, put_u4, opened, with_length}
use Rattle.jm_class_writer.specs.Faults.{of_encode}
use Rattle.jm_class_writer.specs.PoolUse.{class_index}
use Rattle.jm_class_writer.specs.CodeParts.{instr_indexed, start_of, end_of, put_start, put_end, put_catch_type, put_handler, put_handlers, put_line, put_lines, put_name, put_line_table, put_code_attributes, put_instructions, code_encoded, put_code_body}
use Rattle.jm_class_writer.specs.Ranges.{OfSome, UnitsInRange, InstrInRange, HandlerInRange}
use Rattle.jm_class_writer.proofs.Growth.{step_ok, begins_on, Grows, grows_on, grows_same, Writes, writes_then, writes_done, writes_outcome, writes_guard, writes_last, writes_u2, writes_u4}
use Rattle.jm_class_writer.proofs.PoolLaws.{IsClass, class_indexed, writes_after}
use Rattle.jm_class_writer.proofs.PartLaws.{name_writes, count_writes, length_writes, all_head, all_tail}
use Rattle.jm_class_writer.proofs.TextRanges.{ascii_in_range}
use Rattle.jm_class_writer.proofs.ClassLaws.{class_name_named, all_both, CodeLaw}
use Rattle.jm_class_writer.proofs.CodeLaws.{instr_law}
use Rattle.std.proofs.lemmas.List.Elements.{All-nil, All-cons}

-- ---- offsets and numbers of instructions

-- the offsets of a code, one above the other and inside it
record Laid (e : EncodedCode) : Type 0 where
  starts : AreStarts e.starts
  inside : (k : ℕ) → k < length e.starts → offset_in e.starts k < length e.bytes

abbrev places : EncodedCode → Places
places e = record { starts = e.starts; size = length e.bytes }

-- the reader's number of an offset is the reverse of the encoder's
number_read : (starts : List ℕ) (n : ℕ) → AreStarts starts → n < length starts → attribute.number_at starts (offset_in starts n) ≡ Ok n
unfolding attribute.number_at code.number_of
number_read starts n good lt =
    let place : position (λ start. eqb start (offset_in starts n)) starts ≡ Some n = ok_or_ok (position (λ start. eqb start (offset_in starts n)) starts) code_fault.BadTarget n (number_there starts n good lt) in
    rw place refl

-- where an instruction begins
start_found : (e : EncodedCode) (n offset : ℕ) → start_of e n ≡ Ok offset → (n < length e.starts) × (offset_in e.starts n ≡ offset)
unfolding start_of
start_found e n offset h =
    let got : slice_get e.starts n ≡ Some offset = ok_or_ok (slice_get e.starts n) fault.TooMany offset h in
    (slice_get_within e.starts n offset got, get_or_from_slice_get e.starts n offset 0 got)

start_numbered : (e : EncodedCode) (n offset : ℕ) → Laid e → start_of e n ≡ Ok offset → attribute.number_at e.starts offset ≡ Ok n
start_numbered e n offset laid h =
    let p = start_found e n offset h in
    ap (attribute.number_at e.starts) (sym p.1) ∙ number_read e.starts n laid.starts p.0

end_on : (e : EncodedCode) (n offset : ℕ) (b : Bool) → eqb n (length e.starts) ≡ b → Laid e → cond b (Ok (length e.bytes)) (start_of e n) ≡ Ok offset → attribute.end_at (places e) offset ≡ Ok n
unfolding attribute.end_at
end_on e n offset true is laid h =
    let same : length e.bytes ≡ offset = same_Ok {F = WriteFault} (length e.bytes) offset h in
    let here : eqb offset (length e.bytes) ≡ true = grind (arith, nat_tests) in
    rw here (ap (λ (k : ℕ). Ok k) (sym (eqb-true n (length e.starts) is)))
end_on e n offset false is laid h =
    let p = start_found e n offset h in
    let below : offset_in e.starts n < length e.bytes = laid.inside n p.0 in
    let other : eqb offset (length e.bytes) ≡ false = grind (arith, nat_tests) in
    rw other (start_numbered e n offset laid h)

end_numbered : (e : EncodedCode) (n offset : ℕ) → Laid e → end_of e n ≡ Ok offset → attribute.end_at (places e) offset ≡ Ok n
unfolding end_of
end_numbered e n offset laid h = end_on e n offset (eqb n (length e.starts)) refl laid h

-- an offset that is put, and the number that it is read as
record Offset (number : ℕ → Result ℕ ReadFault) (n : ℕ) (a b : DraftParts) : Type 0 where
  offset : ℕ
  writes : Writes (λ es. u2 read.BadAttribute) offset a b
  is : number offset ≡ Ok n

start_put : (e : EncodedCode) (n : ℕ) (a : DraftParts) (z : Unit {0} × DraftParts) → Laid e → put_start e n a ≡ Ok z → Offset (attribute.number_at e.starts) n a z.1
unfolding put_start
start_put e n a z laid h =
    let p = step_ok (drafts.outcome (start_of e n)) put_u2 a z h in
    let q = and_then_ok (start_of e n) (λ v. Ok (v, a)) p.0 p.1 in
    let same : ◌≡◌ {A = ℕ × DraftParts} (q.0, a) p.0 = same_Ok {F = WriteFault} (q.0, a) p.0 q.2 in
    let put : put_u2 q.0 a ≡ Ok z = ap (λ (x : ℕ × DraftParts). put_u2 x.0 x.1) same ∙ p.2 in
    record { offset = q.0; writes = writes_u2 read.BadAttribute q.0 a z put; is = start_numbered e n q.0 laid q.1 }

end_put : (e : EncodedCode) (n : ℕ) (a : DraftParts) (z : Unit {0} × DraftParts) → Laid e → put_end e n a ≡ Ok z → Offset (attribute.end_at (places e)) n a z.1
unfolding put_end
end_put e n a z laid h =
    let p = step_ok (drafts.outcome (end_of e n)) put_u2 a z h in
    let q = and_then_ok (end_of e n) (λ v. Ok (v, a)) p.0 p.1 in
    let same : ◌≡◌ {A = ℕ × DraftParts} (q.0, a) p.0 = same_Ok {F = WriteFault} (q.0, a) p.0 q.2 in
    let put : put_u2 q.0 a ≡ Ok z = ap (λ (x : ℕ × DraftParts). put_u2 x.0 x.1) same ∙ p.2 in
    record { offset = q.0; writes = writes_u2 read.BadAttribute q.0 a z put; is = end_numbered e n q.0 laid q.1 }

-- ---- the exception table

catch_named : (name : List ℕ) → is_class_name name ≡ true → (final : List Entry) (i : ℕ) → IsClass name final i → attribute.catch_type final i ≡ Ok (Some name)
unfolding attribute.catch_type entry_at
catch_named name fits final zero h = absurd cc
catch_named name fits final (suc i) h = rw (class_name_named name fits final (suc i) h) refl

-- the class that is caught, and what is made with it
catch_writes : {B : Type 0} (g : Option (List ℕ) → B) (caught : Option (List ℕ)) (a : DraftParts) (z : Unit {0} × DraftParts) → OfSome UnitsInRange caught → catch_type_fits caught ≡ true → put_catch_type caught a ≡ Ok z
    → Writes (λ es. u2 read.BadAttribute >>= (λ i. outcome (attribute.catch_type es i) >>= (λ c. done (g c)))) (g caught) a z.1
unfolding put_catch_type attribute.catch_type
catch_writes g None a z r fits h =
    writes_then (λ es. u2 read.BadAttribute) (λ es i. outcome (attribute.catch_type es i) >>= (λ c. done (g c))) 0 (g None) a z.1 z.1 (writes_u2 read.BadAttribute 0 a z h)
    (writes_last (λ es. outcome (attribute.catch_type es 0)) g None z.1 z.1 (writes_outcome (λ es. attribute.catch_type es 0) None z.1 (λ final b. refl)))
catch_writes g (Some name) a z r fits h =
    let p = step_ok (class_index name) put_u2 a z h in
    let i = class_indexed name a p.0 r p.1 in
    let put = writes_u2 read.BadAttribute p.0.0 p.0.1 z p.2 in
    writes_then (λ es. u2 read.BadAttribute) (λ es j. outcome (attribute.catch_type es j) >>= (λ c. done (g c))) p.0.0 (g (Some name)) a z.1 z.1 (writes_after (IsClass name) (λ es. u2 read.BadAttribute) p.0.0 a p.0 z.1 i put)
    (writes_last (λ es. outcome (attribute.catch_type es p.0.0)) g (Some name) z.1 z.1
    (writes_outcome (λ es. attribute.catch_type es p.0.0) (Some name) z.1 (λ final b. catch_named name fits final p.0.0 (i.names final (begins_on p.0.1.entries z.1.entries final put.grows.begins b)))))

-- start_pc, end_pc and handler_pc
range_writes : (e : EncodedCode) (h : Handler) (a b c d : DraftParts) → ltb h.start h.end ≡ true → Offset (attribute.number_at e.starts) h.start a b → Offset (attribute.end_at (places e)) h.end b c → Offset (attribute.number_at e.starts) h.target c d
    → Writes (λ es. attribute.handler_places (places e)) (h.start, h.end, h.target) a d
unfolding attribute.handler_places
range_writes e h a b c d some s t u =
    writes_then (λ es. u2 read.BadAttribute) (λ es start_pc. u2 read.BadAttribute >>= (λ end_pc. u2 read.BadAttribute >>= (λ handler_pc. outcome (attribute.number_at e.starts start_pc) >>= (λ start. outcome (attribute.end_at (places e) end_pc) >>= (λ end. outcome (attribute.number_at e.starts handler_pc) >>= (λ target. guard read.BadAttribute (ltb start end) >>= (λ _. done (start, end, target))))))))
    s.offset (h.start, h.end, h.target) a b d s.writes
    (writes_then (λ es. u2 read.BadAttribute) (λ es end_pc. u2 read.BadAttribute >>= (λ handler_pc. outcome (attribute.number_at e.starts s.offset) >>= (λ start. outcome (attribute.end_at (places e) end_pc) >>= (λ end. outcome (attribute.number_at e.starts handler_pc) >>= (λ target. guard read.BadAttribute (ltb start end) >>= (λ _. done (start, end, target)))))))
    t.offset (h.start, h.end, h.target) b c d t.writes
    (writes_then (λ es. u2 read.BadAttribute) (λ es handler_pc. outcome (attribute.number_at e.starts s.offset) >>= (λ start. outcome (attribute.end_at (places e) t.offset) >>= (λ end. outcome (attribute.number_at e.starts handler_pc) >>= (λ target. guard read.BadAttribute (ltb start end) >>= (λ _. done (start, end, target))))))
    u.offset (h.start, h.end, h.target) c d d u.writes
    (writes_then (λ es. outcome (attribute.number_at e.starts s.offset)) (λ es start. outcome (attribute.end_at (places e) t.offset) >>= (λ end. outcome (attribute.number_at e.starts u.offset) >>= (λ target. guard read.BadAttribute (ltb start end) >>= (λ _. done (start, end, target)))))
    h.start (h.start, h.end, h.target) d d d (writes_outcome (λ es. attribute.number_at e.starts s.offset) h.start d (λ final b. s.is))
    (writes_then (λ es. outcome (attribute.end_at (places e) t.offset)) (λ es end. outcome (attribute.number_at e.starts u.offset) >>= (λ target. guard read.BadAttribute (ltb h.start end) >>= (λ _. done (h.start, end, target))))
    h.end (h.start, h.end, h.target) d d d (writes_outcome (λ es. attribute.end_at (places e) t.offset) h.end d (λ final b. t.is))
    (writes_then (λ es. outcome (attribute.number_at e.starts u.offset)) (λ es target. guard read.BadAttribute (ltb h.start h.end) >>= (λ _. done (h.start, h.end, target)))
    h.target (h.start, h.end, h.target) d d d (writes_outcome (λ es. attribute.number_at e.starts u.offset) h.target d (λ final b. u.is))
    (writes_last (λ es. guard read.BadAttribute (ltb h.start h.end)) (λ _. (h.start, h.end, h.target)) tt d d (writes_guard read.BadAttribute (ltb h.start h.end) d some)))))))

handler_writes : (count : ℕ) (e : EncodedCode) → Laid e → (h : Handler) (a : DraftParts) (z : Unit {0} × DraftParts) → HandlerInRange h × (handler_fits count h ≡ true) → put_handler e h a ≡ Ok z → Writes (λ es. attribute.handler es (places e)) h a z.1
unfolding put_handler attribute.handler
handler_writes count e laid h a z r k =
    let caught = both_true (ltb h.start h.end && leb h.end count && ltb h.target count) (catch_type_fits h.catch_type) r.1 in
    let target = both_true (ltb h.start h.end && leb h.end count) (ltb h.target count) caught.0 in
    let range = both_true (ltb h.start h.end) (leb h.end count) target.0 in
    let p = step_ok (put_start e h.start) (λ _ draft. and_then (put_end e h.end draft) (λ x. and_then (put_start e h.target x.1) (λ y. put_catch_type h.catch_type y.1))) a z k in
    let q = step_ok (put_end e h.end) (λ _ draft. and_then (put_start e h.target draft) (λ y. put_catch_type h.catch_type y.1)) p.0.1 z p.2 in
    let s = step_ok (put_start e h.target) (λ _. put_catch_type h.catch_type) q.0.1 z q.2 in
    let placed = range_writes e h a p.0.1 q.0.1 s.0.1 range.0 (start_put e h.start a p.0 laid p.1) (end_put e h.end p.0.1 q.0 laid q.1) (start_put e h.target q.0.1 s.0 laid s.1) in
    writes_then (λ es. attribute.handler_places (places e)) (λ es range. u2 read.BadAttribute >>= (λ i. outcome (attribute.catch_type es i) >>= (λ c. done (record { start = range.0; end = range.1; target = range.2; catch_type = c }))))
    (h.start, h.end, h.target) h a s.0.1 z.1 placed
    (catch_writes (λ c. record { start = h.start; end = h.end; target = h.target; catch_type = c }) h.catch_type s.0.1 z r.0 caught.1 s.2)

handlers_writes : (count : ℕ) (e : EncodedCode) → Laid e → (hs : List Handler) (a : DraftParts) (z : Unit {0} × DraftParts) → All HandlerInRange hs → list_all (handler_fits count) hs ≡ true → put_handlers e hs a ≡ Ok z
    → Writes (λ es. attribute.handlers es (places e)) hs a z.1
unfolding put_handlers attribute.handlers
handlers_writes count e laid hs a z r fits h =
    count_writes read.BadAttribute (put_handler e) (λ es. attribute.handler es (places e)) (λ x. HandlerInRange x × (handler_fits count x ≡ true)) (handler_writes count e laid) hs a z (all_both HandlerInRange (handler_fits count) hs r fits) h

-- ---- line numbers

line_writes : (e : EncodedCode) → Laid e → (l : LineNumber) (a : DraftParts) (z : Unit {0} × DraftParts) → Unit {0} → put_line e l a ≡ Ok z → Writes (λ es. attribute.line_number (places e)) l a z.1
unfolding put_line attribute.line_number
line_writes e laid l a z r h =
    let p = step_ok (put_start e l.start) (λ _. put_u2 l.line) a z h in
    let s = start_put e l.start a p.0 laid p.1 in
    writes_then (λ es. u2 read.BadAttribute) (λ es start_pc. outcome (attribute.number_at e.starts start_pc) >>= (λ start. u2 read.BadAttribute >>= (λ line. done (record { start = start; line = line }))))
    s.offset l a p.0.1 z.1 s.writes
    (writes_then (λ es. outcome (attribute.number_at e.starts s.offset)) (λ es start. u2 read.BadAttribute >>= (λ line. done (record { start = start; line = line })))
    l.start l p.0.1 p.0.1 z.1 (writes_outcome (λ es. attribute.number_at e.starts s.offset) l.start p.0.1 (λ final b. s.is))
    (writes_last (λ es. u2 read.BadAttribute) (λ line. record { start = l.start; line = line }) l.line p.0.1 z.1 (writes_u2 read.BadAttribute l.line p.0.1 z p.2)))

lines_writes : (e : EncodedCode) → Laid e → (ls : List LineNumber) (a : DraftParts) (z : Unit {0} × DraftParts) → put_lines e ls a ≡ Ok z → Writes (λ es. attribute.line_numbers (places e)) ls a z.1
unfolding put_lines attribute.line_numbers
lines_writes e laid ls a z h = count_writes read.BadAttribute (put_line e) (λ es. attribute.line_number (places e)) (λ _. Unit {0}) (line_writes e laid) ls a z (λ k d lt. tt) h

table_writes : (e : EncodedCode) → Laid e → (ls : List LineNumber) (a : DraftParts) (z : Unit {0} × DraftParts) → put_line_table e ls a ≡ Ok z → Writes (λ es. attribute.code_attributes es (places e)) ls a z.1
unfolding put_line_table attribute.code_attributes attribute.code_attribute attribute.code_attribute_info repeated
table_writes e laid ls a z h =
    let p = step_ok (put_u2 1) (λ _ draft. and_then (put_name (codes "LineNumberTable") draft) (λ x. with_length (put_lines e ls) x.1)) a z h in
    let q = step_ok (put_name (codes "LineNumberTable")) (λ _. with_length (put_lines e ls)) p.0.1 z p.2 in
    let body : Writes (λ es. attribute.whole_info read.BadAttribute (attribute.line_numbers (places e))) ls q.0.1 z.1 =
    length_writes read.BadAttribute (λ es. attribute.line_numbers (places e)) ls (put_lines e ls) q.0.1 z (λ x k. lines_writes e laid ls (opened q.0.1) x k) q.2 in
    let info : Writes (λ es. attribute.code_attribute_info (places e) [] true) ls q.0.1 z.1 =
    writes_last (λ es. attribute.whole_info read.BadAttribute (attribute.line_numbers (places e))) (λ more. more) ls q.0.1 z.1 body in
    let one : Writes (λ es. attribute.code_attribute es (places e) []) ls p.0.1 z.1 =
    writes_then (attribute.attribute_name read.BadAttribute) (λ es name. attribute.code_attribute_info (places e) [] (same_text name (codes "LineNumberTable"))) (codes "LineNumberTable") ls p.0.1 q.0.1 z.1
    (name_writes read.BadAttribute (codes "LineNumberTable") p.0.1 q.0 (ascii_in_range (codes "LineNumberTable") refl) q.1) info in
    writes_then (λ es. u2 read.BadAttribute) (λ es count. repeated count (attribute.code_attribute es (places e)) []) 1 ls a p.0.1 z.1 (writes_u2 read.BadAttribute 1 a p.0 p.1)
    (writes_then (λ es. attribute.code_attribute es (places e) []) (λ es found. repeated 0 (attribute.code_attribute es (places e)) found) ls ls p.0.1 z.1 z.1 one (writes_done ls z.1))

attributes_writes : (e : EncodedCode) → Laid e → (ls : List LineNumber) (a : DraftParts) (z : Unit {0} × DraftParts) → put_code_attributes e ls a ≡ Ok z → Writes (λ es. attribute.code_attributes es (places e)) ls a z.1
unfolding put_code_attributes attribute.code_attributes repeated
attributes_writes e laid [] a z h =
    writes_then (λ es. u2 read.BadAttribute) (λ es count. repeated count (attribute.code_attribute es (places e)) []) 0 [] a z.1 z.1 (writes_u2 read.BadAttribute 0 a z h) (writes_done {A = List LineNumber} [] z.1)
attributes_writes e laid (l ∷ ls) a z h =
    let some : eqb (length (l ∷ ls)) 0 ≡ false = grind (arith, nat_tests) in
    let table : put_line_table e (l ∷ ls) a ≡ Ok z = rw some at h in
    table_writes e laid (l ∷ ls) a z table

-- ---- instructions

-- instructions with their indexes, made from those by name
record AllIndexed (instrs : List Instr) (a : DraftParts) (x : List IndexedInstr × DraftParts) : Type 0 where
  same : x.1.written ≡ a.written
  grows : Grows a x.1
  names : (final : List Entry) → Begins x.1.entries final → each (named final) x.0 ≡ Ok instrs
  range : All ranges.InRange x.0
  ruled : list_all has_bytes x.0 ≡ true
  count : length x.0 ≡ length instrs

instrs_law : (count : ℕ) (instrs : List Instr) (a : DraftParts) (x : List IndexedInstr × DraftParts) → Sound a.entries → All InstrInRange instrs → list_all (instr_fits count) instrs ≡ true → drafts.each_of instr_indexed instrs a ≡ Ok x → AllIndexed instrs a x
unfolding drafts.each_of each
instrs_law count [] a x s r fits h =
    subst (λ (y : List IndexedInstr × DraftParts). AllIndexed [] a y) (same_Ok {F = WriteFault} ([], a) x h)
    (record { same = refl; grows = grows_same a a refl; names = λ final b. refl; range = All-nil ranges.InRange; ruled = refl; count = refl })
instrs_law count (i ∷ is) a x s r fits h =
    let fit = both_true (instr_fits count i) (list_all (instr_fits count) is) fits in
    let p = and_then_ok (instr_indexed i a) (λ y. and_then (drafts.each_of instr_indexed is y.1) (λ z. Ok (y.0 ∷ z.0, z.1))) x h in
    let q = and_then_ok (drafts.each_of instr_indexed is p.0.1) (λ z. Ok (p.0.0 ∷ z.0, z.1)) x p.2 in
    let one = instr_law count i a p.0 (all_head InstrInRange i is r) fit.0 p.1 in
    let rest = instrs_law count is p.0.1 q.0 (one.grows.sound s) (all_tail InstrInRange i is r) fit.1 q.1 in
    subst (λ (y : List IndexedInstr × DraftParts). AllIndexed (i ∷ is) a y) (same_Ok {F = WriteFault} (p.0.0 ∷ q.0.0, q.0.1) x q.2)
    (record {
      same = rest.same ∙ one.same;
      grows = grows_on a p.0.1 q.0.1 one.grows rest.grows;
      names = λ final b. rw (one.names final (begins_on p.0.1.entries q.0.1.entries final rest.grows.begins b)) (rw (rest.names final b) refl);
      range = All-cons ranges.InRange p.0.0 q.0.0 (one.range s) rest.range;
      ruled = and_from (has_bytes p.0.0) (list_all has_bytes q.0.0) one.ruled rest.ruled;
      count = ap suc rest.count;
    })

each_placed : (final : List Entry) (ps : List PlacedInstr) → each (placed_named final) ps ≡ each (named final) (map (λ (p : PlacedInstr). p.instr) ps)
unfolding each
each_placed final [] = refl
each_placed final (p ∷ ps) = rw (each_placed final ps) refl

-- ---- the code of the instructions

-- the code that was made of them, and its bytes
record Encodes (instrs : List Instr) (a : DraftParts) (x : EncodedCode × DraftParts) : Type 0 where
  all : List IndexedInstr
  same : x.1.written ≡ a.written
  grows : Grows a x.1
  names : (final : List Entry) → Begins x.1.entries final → each (named final) all ≡ Ok instrs
  spelled : code.code.Spells x.0.bytes (placed_from 0 all)
  laid : Laid x.0
  starts : map (λ (p : PlacedInstr). p.offset) (placed_from 0 all) ≡ x.0.starts
  some : 0 < length x.0.bytes
  few : length x.0.bytes < 65536

encodes : (count : ℕ) (instrs : List Instr) (a : DraftParts) (x : EncodedCode × DraftParts) → Sound a.entries → All InstrInRange instrs → list_all (instr_fits count) instrs ≡ true → 0 < length instrs → code_encoded instrs a ≡ Ok x → Encodes instrs a x
unfolding code_encoded
encodes count instrs a x s r fits some h =
    let p = step_ok (drafts.each_of instr_indexed instrs) (λ all. drafts.outcome (fault_as of_encode (encoded all))) a x h in
    let all = instrs_law count instrs a p.0 s r fits p.1 in
    let q = and_then_ok (fault_as of_encode (encoded p.0.0)) (λ v. Ok (v, p.0.1)) x p.2 in
    let e : encoded p.0.0 ≡ Ok q.0 = fault_as_ok of_encode (encoded p.0.0) q.0 q.1 in
    let ok = encoded_ok p.0.0 q.0 e in
    let size : length q.0.bytes ≡ end_from 0 p.0.0 = omega (arith, (encoded_is p.0.0 q.0 all.range all.ruled e).size) in
    let there : 0 < length p.0.0 = omega (arith, all.count, some) in
    let inside : (k : ℕ) → k < length q.0.starts → offset_in q.0.starts k < length q.0.bytes = λ k lt.
    (let before : k < length (starts_from 0 p.0.0) = subst (λ (l : List ℕ). k < length l) (sym ok.1) lt in
    let below : offset_in q.0.starts k < end_from 0 p.0.0 = subst (λ (l : List ℕ). offset_in l k < end_from 0 p.0.0) ok.1 (start_below 0 p.0.0 k before) in
    omega (arith, size, below)) in
    let first : 0 < length q.0.starts = subst (λ (l : List ℕ). 0 < length l) ok.1 (omega (arith, starts_length 0 p.0.0, there)) in
    let above : offset_in q.0.starts 0 < length q.0.bytes = inside 0 first in
    subst (λ (y : EncodedCode × DraftParts). Encodes instrs a y) (same_Ok {F = WriteFault} (q.0, p.0.1) x q.2)
    (record {
      all = p.0.0;
      same = all.same;
      grows = all.grows;
      names = all.names;
      spelled = encoded_spelled p.0.0 q.0 there all.range all.ruled e;
      laid = record { starts = subst AreStarts ok.1 (starts_are p.0.0 ok.0); inside = inside };
      starts = placed_offsets 0 p.0.0 ∙ ok.1;
      some = omega (arith, above);
      few = omega (arith, size, ok.0);
    })

-- what follows steps that put nothing
writes_behind : {A : Type 0} (f : List Entry → Format ReadFault A) (v : A) (a b c : DraftParts) → b.written ≡ a.written → Grows a b → Writes f v b c → Writes f v a c
writes_behind f v a b c same grows w = record {
  text = w.text;
  bytes = w.bytes ∙ ap (λ (t : List ℕ). t ++ w.text) same;
  grows = grows_on a b c grows w.grows;
  spells = w.spells;
}

bytes_put : (bytes : List ℕ) (a : DraftParts) (z : Unit {0} × DraftParts) → put_bytes bytes a ≡ Ok z → drafts.add_bytes bytes a ≡ z.1
unfolding put_bytes
bytes_put bytes a z h = ap (λ (x : Unit {0} × DraftParts). x.1) (same_Ok {F = WriteFault} (tt, drafts.add_bytes bytes a) z h)

length_fits : (n : ℕ) → 0 < n → n < 65536 → (ltb 0 n && ltb n 65536) ≡ true
length_fits n some few = and_from (ltb 0 n) (ltb n 65536) (lt-ltb 0 n some) (lt-ltb n 65536 few)

size_writes : (n : ℕ) (a : DraftParts) (z : Unit {0} × DraftParts) → 0 < n → n < 65536 → put_u4 n a ≡ Ok z → Writes (λ es. attribute.code_length) n a z.1
unfolding attribute.code_length
size_writes n a z some few h =
    writes_then (λ es. u4 read.BadAttribute) (λ es n. guard read.BadAttribute (ltb 0 n && ltb n 65536) >>= (λ _. done n)) n n a z.1 z.1 (writes_u4 read.BadAttribute n a z h)
    (writes_last (λ es. guard read.BadAttribute (ltb 0 n && ltb n 65536)) (λ _. n) tt z.1 z.1 (writes_guard read.BadAttribute (ltb 0 n && ltb n 65536) z.1 (length_fits n some few)))

limits_writes : (slots stack locals : ℕ) (a : DraftParts) (p q : Unit {0} × DraftParts) → leb slots locals ≡ true → put_u2 stack a ≡ Ok p → put_u2 locals p.1 ≡ Ok q → Writes (λ es. attribute.limits slots) (stack, locals) a q.1
unfolding attribute.limits
limits_writes slots stack locals a p q fits h k =
    writes_then (λ es. u2 read.BadAttribute) (λ es max_stack. u2 read.BadAttribute >>= (λ max_locals. guard read.BadAttribute (leb slots max_locals) >>= (λ _. done (max_stack, max_locals)))) stack (stack, locals) a p.1 q.1 (writes_u2 read.BadAttribute stack a p h)
    (writes_then (λ es. u2 read.BadAttribute) (λ es max_locals. guard read.BadAttribute (leb slots max_locals) >>= (λ _. done (stack, max_locals))) locals (stack, locals) p.1 q.1 q.1 (writes_u2 read.BadAttribute locals p.1 q k)
    (writes_last (λ es. guard read.BadAttribute (leb slots locals)) (λ _. (stack, locals)) tt q.1 q.1 (writes_guard read.BadAttribute (leb slots locals) q.1 fits)))

tables_writes : (count : ℕ) (e : EncodedCode) → Laid e → (c : Code) (a : DraftParts) (t z : Unit {0} × DraftParts) → All HandlerInRange c.handlers → list_all (handler_fits count) c.handlers ≡ true → put_handlers e c.handlers a ≡ Ok t → put_code_attributes e c.lines t.1 ≡ Ok z
    → Writes (λ es. attribute.code_tables es (places e)) (c.handlers, c.lines) a z.1
unfolding attribute.code_tables
tables_writes count e laid c a t z r fits h k =
    writes_then (λ es. attribute.handlers es (places e)) (λ es hs. attribute.code_attributes es (places e) >>= (λ lines. done (hs, lines))) c.handlers (c.handlers, c.lines) a t.1 z.1 (handlers_writes count e laid c.handlers a t r fits h)
    (writes_last (λ es. attribute.code_attributes es (places e)) (λ lines. (c.handlers, lines)) c.lines t.1 z.1 (attributes_writes e laid c.lines t.1 z k))

-- ---- the whole

abbrev placed_at : ℕ → List ℕ → Places
placed_at size starts = record { starts = starts; size = size }

-- what stands behind the limits
body_behind : (slots : ℕ) (c : Code) (a : DraftParts) (e : EncodedCode × DraftParts) (u i t z : Unit {0} × DraftParts) → Encodes c.instructions a e → All HandlerInRange c.handlers → list_all (handler_fits (length c.instructions)) c.handlers ≡ true
    → put_u4 (length e.0.bytes) e.1 ≡ Ok u → put_bytes e.0.bytes u.1 ≡ Ok i → put_handlers e.0 c.handlers i.1 ≡ Ok t → put_code_attributes e.0 c.lines t.1 ≡ Ok z
    → Writes (λ es. attribute.code_length >>= (λ size. within read.BadAttribute size file_code >>= (λ placed. outcome (each (placed_named es) placed) >>= (λ instrs. attribute.code_tables es (attribute.places_of size placed) >>= (λ tables.
    done (record { max_stack = c.max_stack; max_locals = c.max_locals; instructions = instrs; handlers = tables.0; lines = tables.1 })))))) c a z.1
body_behind slots c a e u i t z made r fits h1 h2 h3 h4 =
    let placed : List PlacedInstr = placed_from 0 made.all in
    let size = size_writes (length e.0.bytes) e.1 u made.some made.few h1 in
    let added : drafts.add_bytes e.0.bytes u.1 ≡ i.1 = bytes_put e.0.bytes u.1 i h2 in
    let bytes : Writes (λ es. within read.BadAttribute (length e.0.bytes) file_code) placed u.1 i.1 = record {
      text = e.0.bytes;
      bytes = sym (ap (λ (d : DraftParts). d.written) added);
      grows = grows_same u.1 i.1 (sym (ap (λ (d : DraftParts). d.entries) added));
      spells = λ final b. (refl, made.spelled);
    } in
    let begins : Begins e.1.entries i.1.entries = begins_on e.1.entries u.1.entries i.1.entries size.grows.begins bytes.grows.begins in
    let same_places : places e.0 ≡ attribute.places_of (length e.0.bytes) placed = ap (placed_at (length e.0.bytes)) (sym made.starts) in
    let tables : Writes (λ es. attribute.code_tables es (attribute.places_of (length e.0.bytes) placed)) (c.handlers, c.lines) i.1 z.1 =
    subst (λ (p : Places). Writes (λ es. attribute.code_tables es p) (c.handlers, c.lines) i.1 z.1) same_places (tables_writes (length c.instructions) e.0 made.laid c i.1 t z r fits h3 h4) in
    writes_behind (λ es. attribute.code_length >>= (λ size. within read.BadAttribute size file_code >>= (λ placed. outcome (each (placed_named es) placed) >>= (λ instrs. attribute.code_tables es (attribute.places_of size placed) >>= (λ tables.
    done (record { max_stack = c.max_stack; max_locals = c.max_locals; instructions = instrs; handlers = tables.0; lines = tables.1 })))))) c a e.1 z.1 made.same made.grows
    (writes_then (λ es. attribute.code_length) (λ es size. within read.BadAttribute size file_code >>= (λ placed. outcome (each (placed_named es) placed) >>= (λ instrs. attribute.code_tables es (attribute.places_of size placed) >>= (λ tables.
    done (record { max_stack = c.max_stack; max_locals = c.max_locals; instructions = instrs; handlers = tables.0; lines = tables.1 }))))) (length e.0.bytes) c e.1 u.1 z.1 size
    (writes_then (λ es. within read.BadAttribute (length e.0.bytes) file_code) (λ es placed. outcome (each (placed_named es) placed) >>= (λ instrs. attribute.code_tables es (attribute.places_of (length e.0.bytes) placed) >>= (λ tables.
    done (record { max_stack = c.max_stack; max_locals = c.max_locals; instructions = instrs; handlers = tables.0; lines = tables.1 })))) placed c u.1 i.1 z.1 bytes
    (writes_then (λ es. outcome (each (placed_named es) placed)) (λ es instrs. attribute.code_tables es (attribute.places_of (length e.0.bytes) placed) >>= (λ tables.
    done (record { max_stack = c.max_stack; max_locals = c.max_locals; instructions = instrs; handlers = tables.0; lines = tables.1 }))) c.instructions c i.1 i.1 z.1
    (writes_outcome (λ es. each (placed_named es) placed) c.instructions i.1 (λ final b. each_placed final placed ∙ ap (each (named final)) (placed_instrs 0 made.all) ∙ made.names final (begins_on e.1.entries i.1.entries final begins b)))
    (writes_last (λ es. attribute.code_tables es (attribute.places_of (length e.0.bytes) placed)) (λ tables. record { max_stack = c.max_stack; max_locals = c.max_locals; instructions = c.instructions; handlers = tables.0; lines = tables.1 }) (c.handlers, c.lines) i.1 z.1 tables))))

pub code_law : CodeLaw
unfolding put_code_body put_instructions attribute.code_body
code_law slots c a z s r fits h =
    let lines = both_true (leb slots c.max_locals && ltb 0 (length c.instructions) && list_all (instr_fits (length c.instructions)) c.instructions && list_all (handler_fits (length c.instructions)) c.handlers) (list_all (line_fits (length c.instructions)) c.lines) fits in
    let handlers = both_true (leb slots c.max_locals && ltb 0 (length c.instructions) && list_all (instr_fits (length c.instructions)) c.instructions) (list_all (handler_fits (length c.instructions)) c.handlers) lines.0 in
    let instrs = both_true (leb slots c.max_locals && ltb 0 (length c.instructions)) (list_all (instr_fits (length c.instructions)) c.instructions) handlers.0 in
    let some = both_true (leb slots c.max_locals) (ltb 0 (length c.instructions)) instrs.0 in
    let p = step_ok (put_u2 c.max_stack) (λ _ draft. and_then (put_u2 c.max_locals draft) (λ x. and_then (code_encoded c.instructions x.1) (λ y. and_then (put_instructions y.0 y.1) (λ v. and_then (put_handlers y.0 c.handlers v.1) (λ w. put_code_attributes y.0 c.lines w.1))))) a z h in
    let q = step_ok (put_u2 c.max_locals) (λ _ draft. and_then (code_encoded c.instructions draft) (λ y. and_then (put_instructions y.0 y.1) (λ v. and_then (put_handlers y.0 c.handlers v.1) (λ w. put_code_attributes y.0 c.lines w.1)))) p.0.1 z p.2 in
    let e = step_ok (code_encoded c.instructions) (λ y draft. and_then (put_instructions y draft) (λ v. and_then (put_handlers y c.handlers v.1) (λ w. put_code_attributes y c.lines w.1))) q.0.1 z q.2 in
    let i = step_ok (put_instructions e.0.0) (λ _ draft. and_then (put_handlers e.0.0 c.handlers draft) (λ w. put_code_attributes e.0.0 c.lines w.1)) e.0.1 z e.2 in
    let t = step_ok (put_handlers e.0.0 c.handlers) (λ _. put_code_attributes e.0.0 c.lines) i.0.1 z i.2 in
    let u = step_ok (put_u4 (length e.0.0.bytes)) (λ _. put_bytes e.0.0.bytes) e.0.1 i.0 i.1 in
    let limits = limits_writes slots c.max_stack c.max_locals a p.0 q.0 some.0 p.1 q.1 in
    let made = encodes (length c.instructions) c.instructions q.0.1 e.0 (limits.grows.sound s) r.0 instrs.1 (ltb-true 0 (length c.instructions) some.1) e.1 in
    writes_then (λ es. attribute.limits slots) (λ es limit. attribute.code_length >>= (λ size. within read.BadAttribute size file_code >>= (λ placed. outcome (each (placed_named es) placed) >>= (λ instrs. attribute.code_tables es (attribute.places_of size placed) >>= (λ tables.
    done (record { max_stack = limit.0; max_locals = limit.1; instructions = instrs; handlers = tables.0; lines = tables.1 })))))) (c.max_stack, c.max_locals) c a q.0.1 z.1 limits
    (body_behind slots c q.0.1 e.0 u.0 i.0 t.0 z made r.1 handlers.1 u.1 u.2 t.1 t.2)
