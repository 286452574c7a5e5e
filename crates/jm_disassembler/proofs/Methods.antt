-- The lines of a method.
use Rattle.std.proofs.Common.{◌≡◌, ℕ, ◌+◌, ◌<◌, ◌^◌, Bool, true, false, not, ◌&&◌, ◌||◌, List, [], ◌∷◌, ◌++◌, length, Option, Some, None, Ok, refl, codes}
use Rattle.std.proofs.Common.{ap, sym, ◌∙◌, arith, subst, append_assoc, nat_lt, nat_le}
use Rattle.std.specs.Prelude.{if◌then◌else◌, All}
use Rattle.std.specs.List.{list_all, flat_map}
use Rattle.std.specs.Fmt.{decimal}
use Rattle.std.proofs.lemmas.Bool.Decides.{nat_tests}
use Rattle.std.proofs.lemmas.Bool.{and_from}
use Rattle.jm_bytes.specs.Reading.{each}
use Rattle.jm_program.specs.Flags.{is_static, is_synchronized, is_native, is_abstract}
use Rattle.jm_program.specs.Names.{same_text, is_method_name, is_init, is_clinit}
use Rattle.jm_program.specs.Texts.{utf16_of}
use Rattle.jm_program.specs.Descriptors.{argument_slots, field_text, return_text, method_text, is_method_type, is_kept_method_type}
use Rattle.jm_program.specs.Instructions.{instr_fits}
use Rattle.jm_program.specs.Codes.{catch_type_fits, handler_fits, line_fits, code_fits}
use Rattle.jm_program.specs.Fits.{is_class_initializer, is_finalizer, method_slots, body_fits, method_fits}
use Rattle.jm_program.specs.JasminUnits.{name_text}
use Rattle.jm_program.specs.JasminTypes.{method_line}
use Rattle.jm_program.specs.declared.class.Method.{Method}
use Rattle.jm_program.specs.declared.code.Code.{Code}
use Rattle.jm_program.specs.declared.code.Handler.{Handler}
use Rattle.jm_program.specs.declared.code.LineNumber.{LineNumber}
use Rattle.jm_program.specs.declared.instruction.symbolic.Instr.{Instr}
use Rattle.jm_program.proofs.Truths.{both_true, not_true}
use Rattle.jm_program.proofs.Texts.{text_is}
use Rattle.jm_class_format.specs.Members.{own_receiver}
use Rattle.jm_class_format.specs.Symbols.{class_name_of}
use Rattle.jm_class_writer.specs.Ranges.{OfSome, UnitsInRange, InstrInRange, HandlerInRange, MethodTypeInRange}
use Rattle.jm_class_writer.proofs.PartLaws.{all_tail, all_head}
use Rattle.jm_class_writer.proofs.Symbols.{class_name_read, method_name_read, method_type_read}
use Rattle.jm_jasmin.specs.declared.item.Item.{Item}
use Rattle.jm_jasmin.specs.declared.item.Item.TheVariants as item
use Rattle.jm_jasmin.specs.MethodHeader.{is_misplaced_abstract, left_out_method}
use Rattle.jm_jasmin.specs.Items.{instruction_count, label_value, stack_limit, locals_limit, locals_accepted, accepted}
use Rattle.jm_jasmin.specs.Body.{empty_range, checked_locals, checked_count, code_of}
use Rattle.jm_jasmin.specs.WordForms.{Line, bare}
use Rattle.jm_jasmin.specs.MethodForms.{without_code, catch_row, catch_words, MethodLine, BodyLine, BodyLines, MethodLines}
use Rattle.jm_jasmin.specs.MethodForms.MethodLine.{method as method_line_is}
use Rattle.jm_jasmin.specs.MethodForms.BodyLine.{stack, locals, catch, catch_all}
use Rattle.jm_jasmin.specs.MethodForms.BodyLines.{ends as no_more, and_line}
use Rattle.jm_jasmin.specs.MethodForms.MethodLines.{method as method_lines_are}
use Rattle.jm_disassembler.specs.Names.{is_plain, is_sayable, begins_with_quote, is_plain_method_type}
use Rattle.jm_disassembler.specs.Said.{is_short, instr_said, no_parenthesis, method_name_said}
use Rattle.jm_disassembler.specs.Labels.{label_name, marks_of}
use Rattle.jm_disassembler.specs.Bodies.{caught_said, handler_said, lines_said, sizes_said, code_said, caught_text, handler_text, limit_text, body_text, code_text}
use Rattle.jm_disassembler.specs.Flags.{member_rows, flags_text, flags_said, member_note}
use Rattle.jm_disassembler.specs.Members.{body_of, method_text as text_of_method}
use Rattle.jm_disassembler.specs.Unsaid.{method_part}
use Rattle.jm_disassembler.proofs.Laid.{is_word, begins_word, is_word_byte, Laid, Texts}
use Rattle.jm_disassembler.proofs.Laid.Laid.{ends, blank, word}
use Rattle.jm_disassembler.proofs.Laid.Texts.{line}
use Rattle.jm_disassembler.proofs.Spelled.{Spelled, then_spelled, name_spelled}
use Rattle.jm_disassembler.proofs.Types.{ascii_spelled, method_type_spelled}
use Rattle.jm_disassembler.proofs.LabelWords.{name_of_label, name_word}
use Rattle.jm_disassembler.proofs.Words.{name_begins, class_name_word, method_some}
use Rattle.jm_disassembler.proofs.Instructions.{short_is, decimal_word}
use Rattle.jm_disassembler.proofs.Marks.{handler_parts}
use Rattle.jm_disassembler.proofs.Bodies.{EachOf, Sayable, LineInRange, Before, before_other, body_lines, body_items, body_laid, body_goes}
use Rattle.jm_disassembler.proofs.Codes.{Starts, SayableCode, handler_item, handler_items, code_items, code_comes}
use Rattle.jm_disassembler.proofs.FlagWords.{flag_words, member_flags, flags_are, flags_laid, note_laid, note_apart}

-- ---- a code that can be said

-- each number of it is one of its type
pub record CodeNumbers (c : Code) : Type 0 where
  pub stack : c.max_stack < 2 ^ 16
  pub locals : c.max_locals < 2 ^ 16
  pub lines : EachOf LineInRange c.lines
  pub instructions : All InstrInRange c.instructions
  pub handlers : All HandlerInRange c.handlers

sayable_all : (n : ℕ) (is : List Instr) → list_all (instr_fits n) is ≡ true → list_all instr_said is ≡ true → All InstrInRange is → EachOf (Sayable n) is
sayable_all n [] fits said range = tt
sayable_all n (i ∷ is) fits said range =
    let a = both_true (instr_fits n i) (list_all (instr_fits n) is) fits in
    let b = both_true (instr_said i) (list_all instr_said is) said in
    (record { fits = a.0; said = b.0; range = all_head InstrInRange i is range }, sayable_all n is a.1 b.1 (all_tail InstrInRange i is range))

starts_all : (n : ℕ) (ls : List LineNumber) → list_all (line_fits n) ls ≡ true → EachOf (Starts n) ls
starts_all n [] h = tt
starts_all n (l ∷ ls) h =
    let p = both_true (line_fits n l) (list_all (line_fits n) ls) h in
    let fits : nat_lt l.start n ≡ true = p.0 in
    (below l.start n fits, starts_all n ls p.1)
  where
    below : (a b : ℕ) → nat_lt a b ≡ true → a < b
    below a b h = grind (arith, nat_tests)

-- what is said of a code, one by one
pub said_of_code : (c : Code) → code_said c ≡ true
    → (is_short c.max_stack ≡ true) × (is_short c.max_locals ≡ true) × (nat_lt (length c.instructions) 4294967295 ≡ true)
    × (list_all handler_said c.handlers ≡ true) × (list_all instr_said c.instructions ≡ true) × (lines_said 0 c.lines ≡ true)
said_of_code c said =
    let a = both_true (sizes_said c && list_all handler_said c.handlers && list_all instr_said c.instructions) (lines_said 0 c.lines) said in
    let b = both_true (sizes_said c && list_all handler_said c.handlers) (list_all instr_said c.instructions) a.0 in
    let d = both_true (sizes_said c) (list_all handler_said c.handlers) b.0 in
    let e = both_true (is_short c.max_stack && is_short c.max_locals) (nat_lt (length c.instructions) 4294967295) d.0 in
    let f = both_true (is_short c.max_stack) (is_short c.max_locals) e.0 in
    (f.0, f.1, e.1, d.1, b.1, a.1)

pub code_sayable : (slots : ℕ) (c : Code) → code_fits slots c ≡ true → code_said c ≡ true → CodeNumbers c → SayableCode slots c
code_sayable slots c fits said numbers =
    let n : ℕ = length c.instructions in
    let a = both_true (nat_le slots c.max_locals && nat_lt 0 n && list_all (instr_fits n) c.instructions && list_all (handler_fits n) c.handlers)
    (list_all (line_fits n) c.lines) fits in
    let b = both_true (nat_le slots c.max_locals && nat_lt 0 n && list_all (instr_fits n) c.instructions) (list_all (handler_fits n) c.handlers) a.0 in
    let d = both_true (nat_le slots c.max_locals && nat_lt 0 n) (list_all (instr_fits n) c.instructions) b.0 in
    let e = both_true (nat_le slots c.max_locals) (nat_lt 0 n) d.0 in
    let p = said_of_code c said in
    let few : nat_lt n 4294967295 ≡ true = p.2 in
    record {
      few = grind (arith, nat_tests);
      some = e.1;
      locals = e.0;
      instructions = sayable_all n c.instructions d.1 p.4 numbers.instructions;
      instructions_fit = d.1;
      handlers = b.1;
      lines = p.5;
      starts = starts_all n c.lines a.1;
    }

pub handlers_said : (c : Code) → code_said c ≡ true → list_all handler_said c.handlers ≡ true
handlers_said c said = (said_of_code c said).3

-- ---- the exception table

abbrev pub handler_words : Handler → Line
handler_words h = catch_words (caught_text h.catch_type) (label_name h.start) (label_name h.end) (label_name h.target)

abbrev pub handler_rows : List Handler → List Line
handler_rows [] = []
handler_rows (h ∷ hs) = handler_words h ∷ handler_rows hs

caught_word : (o : Option (List ℕ)) → catch_type_fits o ≡ true → caught_said o ≡ true → OfSome UnitsInRange o → is_word (caught_text o) ≡ true
caught_word None fits said range = refl
caught_word (Some name) fits said range =
    class_name_word name fits (both_true (is_sayable name) (if same_text name (codes "all") then false else true) said).0 range

-- the places of a row are instructions, of so many
places_few : (n : ℕ) (h : Handler) → n < 2 ^ 64 → handler_fits n h ≡ true → (h.start < 2 ^ 64) × (h.end < 2 ^ 64) × (h.target < 2 ^ 64)
places_few n h few fits =
    let p = handler_parts n h fits in
    let a : nat_lt h.start h.end ≡ true = p.0 in
    let b : nat_le h.end n ≡ true = p.1 in
    let c : nat_lt h.target n ≡ true = p.2 in
    let start : h.start < 2 ^ 64 = grind (arith, nat_tests) in
    let end : h.end < 2 ^ 64 = grind (arith, nat_tests) in
    let target : h.target < 2 ^ 64 = grind (arith, nat_tests) in
    (start, end, target)

handler_laid : (n : ℕ) (h : Handler) → n < 2 ^ 64 → handler_fits n h ≡ true → handler_said h ≡ true → HandlerInRange h → Laid (handler_text h) (handler_words h)
unfolding handler_text
handler_laid n h few fits said range =
    let p = places_few n h few fits in
    let caught = caught_word h.catch_type (handler_parts n h fits).3 said range in
    let target : Laid (label_name h.target ++ 10 ∷ []) (bare (label_name h.target) ∷ []) = word (label_name h.target) (name_word h.target p.2) refl ends in
    let using_it = blank (word (codes "using") refl refl (blank target)) in
    let end = word (label_name h.end) (name_word h.end p.1) refl using_it in
    let to_end = blank (word (codes "to") refl refl (blank end)) in
    let start = word (label_name h.start) (name_word h.start p.0) refl to_end in
    let from_start = blank (word (codes "from") refl refl (blank start)) in
    blank (blank (word (codes ".catch") refl refl (blank (word (caught_text h.catch_type) caught refl from_start))))

handlers_laid : (n : ℕ) (hs : List Handler) → n < 2 ^ 64 → list_all (handler_fits n) hs ≡ true → list_all handler_said hs ≡ true → All HandlerInRange hs
    → (rest : List ℕ) (lines : List Line) → Texts rest lines → Texts (flat_map handler_text hs ++ rest) (handler_rows hs ++ lines)
handlers_laid n [] few fits said range rest lines t = t
handlers_laid n (h ∷ hs) few fits said range rest lines t =
    let a = both_true (handler_fits n h) (list_all (handler_fits n) hs) fits in
    let b = both_true (handler_said h) (list_all handler_said hs) said in
    subst (λ (x : List ℕ). Texts x (handler_rows (h ∷ hs) ++ lines)) (sym (append_assoc (handler_text h) (flat_map handler_text hs) rest))
    (line (handler_laid n h few a.0 b.0 (all_head HandlerInRange h hs range)) (handlers_laid n hs few a.1 b.1 (all_tail HandlerInRange h hs range) rest lines t))

not_all : (name : List ℕ) → is_plain name ≡ true → UnitsInRange name → (if same_text name (codes "all") then false else true) ≡ true
    → same_text (name_text name) (codes "all") ≡ false
not_all name plain range said = by (same_text (name_text name) (codes "all")) refl
  where
    test : (b : Bool) → (if b then false else true) ≡ true → b ≡ false
    test true h = absurd cc
    test false h = refl

    same_as : name ≡ codes "all" → same_text name (codes "all") ≡ true
    same_as e = ap (λ (n : List ℕ). same_text n (codes "all")) e

    by : (b : Bool) → same_text (name_text name) (codes "all") ≡ b → b ≡ false
    by true e =
        let text : name_text name ≡ codes "all" = text_is (name_text name) (codes "all") e in
        let same : name ≡ codes "all" =
        sym (name_spelled name plain range).units_are ∙ ap utf16_of text ∙ (ascii_spelled (codes "all") refl).units_are in
        absurd (cc (same_as same, test (same_text name (codes "all")) said))
    by false e = refl

caught_form : (before : ℕ) (o : Option (List ℕ)) (start end target : List ℕ) → catch_type_fits o ≡ true → caught_said o ≡ true → OfSome UnitsInRange o
    → BodyLine before (catch_words (caught_text o) start end target) (item.Catch (catch_row o start end target))
caught_form before None start end target fits said range = catch_all start end target
caught_form before (Some name) start end target fits said range =
    let p = both_true (is_sayable name) (if same_text name (codes "all") then false else true) said in
    let plain = (both_true (not (begins_with_quote name)) (is_plain name) p.0).1 in
    let read : class_name_of (utf16_of (name_text name)) ≡ Ok name = ap class_name_of (name_spelled name plain range).units_are ∙ class_name_read name fits in
    catch (name_text name) start end target name (not_all name plain range p.1) read

handler_form : (n before : ℕ) (h : Handler) → n < 2 ^ 64 → handler_fits n h ≡ true → handler_said h ≡ true → HandlerInRange h
    → BodyLine before (handler_words h) (handler_item h)
handler_form n before h few fits said range =
    let p = places_few n h few fits in
    let form = caught_form before h.catch_type (label_name h.start) (label_name h.end) (label_name h.target) (handler_parts n h fits).3 said range in
    let same : item.Catch (catch_row h.catch_type (label_name h.start) (label_name h.end) (label_name h.target)) ≡ handler_item h =
    rw ((name_of_label h.start p.0).units_are, (name_of_label h.end p.1).units_are, (name_of_label h.target p.2).units_are) refl in
    subst (λ (x : Item). BodyLine before (handler_words h) x) same form

module _ (m : Method) where
  handlers_go : (n : ℕ) (hs : List Handler) → n < 2 ^ 64 → list_all (handler_fits n) hs ≡ true → list_all handler_said hs ≡ true → All HandlerInRange hs
      → (pre : List Item) (lines : List Line) (items : List Item) → Before pre 0 0 → ((pre2 : List Item) → Before pre2 0 0 → BodyLines m pre2 lines (pre2 ++ items))
      → BodyLines m pre (handler_rows hs ++ lines) (pre ++ (handler_items hs ++ items))
  handlers_go n [] few fits said range pre lines items b more = more pre b
  handlers_go n (h ∷ hs) few fits said range pre lines items b more =
      let p = both_true (handler_fits n h) (list_all (handler_fits n) hs) fits in
      let q = both_true (handler_said h) (list_all handler_said hs) said in
      let x : Item = handler_item h in
      let next = handlers_go n hs few p.1 q.1 (all_tail HandlerInRange h hs range) (pre ++ x ∷ []) lines items (before_other pre 0 0 x (λ name. refl) refl b) more in
      and_line pre (handler_words h) x (handler_form n (instruction_count pre) h few p.0 q.0 (all_head HandlerInRange h hs range)) refl
      (subst (λ (all : List Item). BodyLines m (pre ++ x ∷ []) (handler_rows hs ++ lines) all) (append_assoc pre (x ∷ []) (handler_items hs ++ items)) next)

-- ---- the lines of a code

abbrev pub stack_words : Code → Line
stack_words c = bare (codes ".limit") ∷ bare (codes "stack") ∷ bare (decimal c.max_stack) ∷ []

abbrev pub locals_words : Code → Line
locals_words c = bare (codes ".limit") ∷ bare (codes "locals") ∷ bare (decimal c.max_locals) ∷ []

abbrev pub code_lines : Code → List Line
code_lines c = stack_words c ∷ locals_words c ∷ (handler_rows c.handlers ++ body_lines (marks_of c) 0 c.instructions c.lines)

limits_laid : (c : Code) → CodeNumbers c → (rest : List ℕ) (lines : List Line) → Texts rest lines
    → Texts (limit_text c ++ rest) (stack_words c ∷ locals_words c ∷ lines)
unfolding limit_text
limits_laid c numbers rest lines t =
    let s : List ℕ = decimal c.max_stack in
    let l : List ℕ = decimal c.max_locals in
    let stack_lt : c.max_stack < 2 ^ 16 = numbers.stack in
    let locals_lt : c.max_locals < 2 ^ 16 = numbers.locals in
    let first : List ℕ = codes "  .limit stack " ++ (s ++ 10 ∷ []) in
    let second : List ℕ = codes "  .limit locals " ++ (l ++ 10 ∷ []) in
    let stack_laid : Laid first (stack_words c) =
    blank (blank (word (codes ".limit") refl refl (blank (word (codes "stack") refl refl (blank (word s (decimal_word c.max_stack (omega arith)) refl ends)))))) in
    let locals_laid : Laid second (locals_words c) =
    blank (blank (word (codes ".limit") refl refl (blank (word (codes "locals") refl refl (blank (word l (decimal_word c.max_locals (omega arith)) refl ends)))))) in
    let parts : (s ++ (10 ∷ second)) ++ rest ≡ (s ++ 10 ∷ []) ++ (second ++ rest) =
    append_assoc s (10 ∷ second) rest ∙ sym (append_assoc s (10 ∷ []) (second ++ rest)) in
    subst (λ (x : List ℕ). Texts (codes "  .limit stack " ++ x) (stack_words c ∷ locals_words c ∷ lines)) (sym parts)
    (line stack_laid (line locals_laid t))

code_laid : (commented : Bool) (slots : ℕ) (c : Code) → SayableCode slots c → list_all handler_said c.handlers ≡ true → CodeNumbers c
    → (rest : List ℕ) (lines : List Line) → Texts rest lines → Texts (code_text commented c ++ rest) (code_lines c ++ lines)
unfolding code_text
code_laid commented slots c s hs numbers rest lines t =
    let n : ℕ = length c.instructions in
    let few : n < 4294967295 = s.few in
    let body : List ℕ = body_text commented (marks_of c) 0 c.instructions c.lines in
    let rows : List Line = body_lines (marks_of c) 0 c.instructions c.lines in
    let hts : List ℕ = flat_map handler_text c.handlers in
    let with_body = body_laid commented (marks_of c) n 0 c.instructions c.lines (omega arith) (omega arith) s.instructions numbers.lines rest lines t in
    let with_handlers = handlers_laid n c.handlers (omega arith) s.handlers hs numbers.handlers (body ++ rest) (rows ++ lines) with_body in
    let with_limits = limits_laid c numbers (hts ++ (body ++ rest)) (handler_rows c.handlers ++ (rows ++ lines)) with_handlers in
    let texts : (limit_text c ++ (hts ++ body)) ++ rest ≡ limit_text c ++ (hts ++ (body ++ rest)) =
    append_assoc (limit_text c) (hts ++ body) rest ∙ ap (λ (x : List ℕ). limit_text c ++ x) (append_assoc hts body rest) in
    subst (λ (x : List ℕ). Texts x (code_lines c ++ lines)) (sym texts)
    (subst (λ (ls : List Line). Texts (limit_text c ++ (hts ++ (body ++ rest))) (stack_words c ∷ locals_words c ∷ ls)) (sym (append_assoc (handler_rows c.handlers) rows lines))
    with_limits)

before_limits : (a b : ℕ) → Before (item.StackLimit a ∷ item.LocalsLimit b ∷ []) 0 0
unfolding instruction_count label_value
before_limits a b = record { counted = refl; fresh = λ t h lt. refl }

code_goes : (m : Method) (c : Code) → is_abstract m.flags ≡ false → SayableCode (method_slots m) c → list_all handler_said c.handlers ≡ true → CodeNumbers c
    → BodyLines m [] (code_lines c) (code_items c)
unfolding stack_limit locals_limit locals_accepted
code_goes m c concrete s hs numbers =
    let n : ℕ = length c.instructions in
    let few : n < 4294967295 = s.few in
    let first : Item = item.StackLimit c.max_stack in
    let second : Item = item.LocalsLimit c.max_locals in
    let body : List Item = body_items (marks_of c) 0 c.instructions c.lines in
    let fine : accepted m 0 (first ∷ []) second ≡ Ok tt = rw (concrete, s.locals) refl in
    and_line [] (stack_words c) first (stack (decimal c.max_stack) c.max_stack (short_is c.max_stack numbers.stack)) refl
    (and_line (first ∷ []) (locals_words c) second (locals (decimal c.max_locals) c.max_locals (short_is c.max_locals numbers.locals)) fine
    (handlers_go m n c.handlers (omega arith) s.handlers hs numbers.handlers (first ∷ second ∷ []) (body_lines (marks_of c) 0 c.instructions c.lines) body
    (before_limits c.max_stack c.max_locals)
    (λ pre b. body_goes m (marks_of c) n 0 c.instructions c.lines pre concrete (omega arith) (omega arith) s.instructions numbers.lines b)))

-- ---- the declaration

-- what is known of a method
pub record SayableMethod (in_interface : Bool) (m : Method) : Type 0 where
  pub fits : method_fits in_interface m ≡ true
  pub flags : flags_said 0 m.flags.bits member_rows ≡ true
  pub name : method_name_said m.name ≡ true
  pub types : is_plain_method_type m.descriptor ≡ true
  pub code : OfSome (λ c. (code_said c ≡ true) × CodeNumbers c) m.code
  pub name_range : UnitsInRange m.name
  pub types_range : MethodTypeInRange m.descriptor
  pub part : method_part m ≡ None

-- the rules of a method, one by one
record MethodRules (in_interface : Bool) (m : Method) : Type 0 where
  name : is_method_name m.name ≡ true
  types : is_method_type m.descriptor ≡ true
  kept : is_kept_method_type m.descriptor ≡ true
  few : nat_le (method_slots m) 255 ≡ true
  alone : (is_static m.flags && is_synchronized m.flags) ≡ false
  ends_well : is_finalizer m ≡ false
  body : body_fits in_interface m m.code ≡ true

rules_of : (in_interface : Bool) (m : Method) → method_fits in_interface m ≡ true → MethodRules in_interface m
rules_of in_interface m h =
    let n : Bool = is_method_name m.name in
    let t : Bool = is_method_type m.descriptor in
    let k : Bool = is_kept_method_type m.descriptor in
    let f : Bool = nat_le (method_slots m) 255 in
    let x : Bool = not (is_native m.flags) in
    let s : Bool = not (is_static m.flags && is_synchronized m.flags) in
    let e : Bool = not (is_finalizer m) in
    let a = both_true (n && t && k && f && x && s && e) (body_fits in_interface m m.code) h in
    let b = both_true (n && t && k && f && x && s) e a.0 in
    let c = both_true (n && t && k && f && x) s b.0 in
    let d = both_true (n && t && k && f) x c.0 in
    let g = both_true (n && t && k) f d.0 in
    let i = both_true (n && t) k g.0 in
    let j = both_true n t i.0 in
    record {
      name = j.0;
      types = j.1;
      kept = i.1;
      few = g.1;
      alone = not_true (is_static m.flags && is_synchronized m.flags) c.1;
      ends_well = not_true (is_finalizer m) b.1;
      body = a.1;
    }

abbrev pub declared : Method → Method
declared m = without_code m.flags.bits m.name m.descriptor

misplaced : (in_interface : Bool) (m : Method) (o : Option Code) → body_fits in_interface m o ≡ true → is_misplaced_abstract (declared m) ≡ false
unfolding is_misplaced_abstract
misplaced in_interface m None h =
    let a = both_true (is_abstract m.flags && not (is_static m.flags) && not (is_init m.name)) (not (is_clinit m.name)) h in
    let b = both_true (is_abstract m.flags && not (is_static m.flags)) (not (is_init m.name)) a.0 in
    let c = both_true (is_abstract m.flags) (not (is_static m.flags)) b.0 in
    rw (c.0, not_true (is_static m.flags) c.1, not_true (is_init m.name) b.1, not_true (is_clinit m.name) a.1) refl
misplaced in_interface m (Some code) h =
    let a = both_true (not (is_abstract m.flags) && (not in_interface || is_class_initializer m)) (code_fits (method_slots m) code) h in
    let b = both_true (not (is_abstract m.flags)) (not in_interface || is_class_initializer m) a.0 in
    rw (not_true (is_abstract m.flags) b.0) refl

-- what an interface does not leave out
interface_keeps : (in_interface : Bool) (m : Method) (o : Option Code) → body_fits in_interface m o ≡ true
    → (in_interface && not (is_abstract m.flags) && not (is_class_initializer m)) ≡ false
interface_keeps in_interface m None h =
    let a = both_true (is_abstract m.flags && not (is_static m.flags) && not (is_init m.name)) (not (is_clinit m.name)) h in
    let b = both_true (is_abstract m.flags && not (is_static m.flags)) (not (is_init m.name)) a.0 in
    let c = both_true (is_abstract m.flags) (not (is_static m.flags)) b.0 in
    by in_interface (is_abstract m.flags) (is_class_initializer m) c.0
  where
    by : (i a c : Bool) → a ≡ true → (i && not a && not c) ≡ false
    by true true c e = refl
    by true false c e = absurd cc
    by false a c e = refl
interface_keeps in_interface m (Some code) h =
    let a = both_true (not (is_abstract m.flags) && (not in_interface || is_class_initializer m)) (code_fits (method_slots m) code) h in
    let b = both_true (not (is_abstract m.flags)) (not in_interface || is_class_initializer m) a.0 in
    by in_interface (is_abstract m.flags) (is_class_initializer m) b.1
  where
    by : (i a c : Bool) → (not i || c) ≡ true → (i && not a && not c) ≡ false
    by true true c e = refl
    by true false true e = refl
    by true false false e = absurd cc
    by false a c e = refl

nothing_left_out : (in_interface : Bool) (m : Method) → MethodRules in_interface m → left_out_method in_interface (declared m) ≡ None
unfolding left_out_method
nothing_left_out in_interface m r = rw (r.alone, r.ends_well, interface_keeps in_interface m m.code r.body) refl

-- NAME(TYPES)TYPE
abbrev pub declared_word : Method → List ℕ
declared_word m = name_text m.name ++ method_line m.descriptor

declared_spelled : (in_interface : Bool) (m : Method) → SayableMethod in_interface m → Spelled (declared_word m) (m.name ++ method_text m.descriptor)
declared_spelled in_interface m s =
    let p = both_true (is_sayable m.name) (no_parenthesis m.name) s.name in
    let plain = (both_true (not (begins_with_quote m.name)) (is_plain m.name) p.0).1 in
    then_spelled (name_text m.name) (method_line m.descriptor) m.name (method_text m.descriptor) (name_spelled m.name plain s.name_range)
    (method_type_spelled m.descriptor s.types s.types_range)

declared_is_word : (in_interface : Bool) (m : Method) → SayableMethod in_interface m → is_word (declared_word m) ≡ true
declared_is_word in_interface m s =
    let r = rules_of in_interface m s.fits in
    let p = both_true (is_sayable m.name) (no_parenthesis m.name) s.name in
    and_from (begins_word (declared_word m)) (list_all is_word_byte (declared_word m)) (name_begins m.name (method_line m.descriptor) (method_some m.name r.name) p.0)
    (declared_spelled in_interface m s).bytes

abbrev pub head_words : Method → Line
head_words m = bare (codes ".method") ∷ (flag_words m.flags.bits member_rows ++ bare (declared_word m) ∷ [])

head_form : (in_interface : Bool) (m : Method) → SayableMethod in_interface m → MethodLine in_interface (head_words m) (declared m)
head_form in_interface m s =
    let r = rules_of in_interface m s.fits in
    let p = both_true (is_sayable m.name) (no_parenthesis m.name) s.name in
    let few : nat_le (argument_slots m.descriptor + own_receiver m.flags) 255 ≡ true = r.few in
    method_line_is (flag_words m.flags.bits member_rows) (declared_word m) m.name (flat_map field_text m.descriptor.parameters ++ 41 ∷ return_text m.descriptor.return_type)
    m.flags.bits m.descriptor (flags_are 0 m.flags.bits member_rows member_flags s.flags) (declared_spelled in_interface m s).units_are p.1
    (method_name_read m.name r.name) (method_type_read (own_receiver m.flags) m.descriptor r.types r.kept few)
    (misplaced in_interface m m.code r.body) (nothing_left_out in_interface m r)

-- ---- the method

abbrev pub lines_of_body : Option Code → List Line
lines_of_body None = []
lines_of_body (Some c) = code_lines c

abbrev pub items_of_body : Option Code → List Item
items_of_body None = []
items_of_body (Some c) = code_items c

abbrev pub end_words : Line
end_words = bare (codes ".end") ∷ bare (codes "method") ∷ []

abbrev pub method_lines : Method → List Line
method_lines m = head_words m ∷ (lines_of_body m.code ++ end_words ∷ [])

concrete_of : (in_interface : Bool) (m : Method) (c : Code) → body_fits in_interface m (Some c) ≡ true → (is_abstract m.flags ≡ false) × (code_fits (method_slots m) c ≡ true)
concrete_of in_interface m c h =
    let a = both_true (not (is_abstract m.flags) && (not in_interface || is_class_initializer m)) (code_fits (method_slots m) c) h in
    let b = both_true (not (is_abstract m.flags)) (not in_interface || is_class_initializer m) a.0 in
    (not_true (is_abstract m.flags) b.0, a.1)

abstract_of : (in_interface : Bool) (m : Method) → body_fits in_interface m None ≡ true → is_abstract m.flags ≡ true
abstract_of in_interface m h =
    let a = both_true (is_abstract m.flags && not (is_static m.flags) && not (is_init m.name)) (not (is_clinit m.name)) h in
    let b = both_true (is_abstract m.flags && not (is_static m.flags)) (not (is_init m.name)) a.0 in
    (both_true (is_abstract m.flags) (not (is_static m.flags)) b.0).0

no_code : (m : Method) → is_abstract m.flags ≡ true → code_of m 0 0 [] ≡ Ok None
unfolding code_of checked_locals checked_count each empty_range
no_code m h = rw h refl

body_goes_on : (in_interface : Bool) (m : Method) (o : Option Code) → body_fits in_interface m o ≡ true → OfSome (λ c. (code_said c ≡ true) × CodeNumbers c) o
    → BodyLines (declared m) [] (lines_of_body o) (items_of_body o) × (code_of (declared m) 0 0 (items_of_body o) ≡ Ok o)
body_goes_on in_interface m None fits said = (no_more [], no_code (declared m) (abstract_of in_interface m fits))
body_goes_on in_interface m (Some c) fits said =
    let p = concrete_of in_interface m c fits in
    let s = code_sayable (method_slots m) c p.1 said.0 said.1 in
    (code_goes (declared m) c p.0 s (handlers_said c said.0) said.1, code_comes (declared m) c p.0 s)

pub method_form : (in_interface : Bool) (m : Method) → SayableMethod in_interface m → MethodLines in_interface (method_lines m) m
method_form in_interface m s =
    let r = rules_of in_interface m s.fits in
    let b = body_goes_on in_interface m m.code r.body s.code in
    method_lines_are (head_words m) (lines_of_body m.code) (declared m) (items_of_body m.code) m.code (head_form in_interface m s) b.0 b.1

body_laid_out : (commented in_interface : Bool) (m : Method) (o : Option Code) → body_fits in_interface m o ≡ true → OfSome (λ c. (code_said c ≡ true) × CodeNumbers c) o
    → (rest : List ℕ) (lines : List Line) → Texts rest lines → Texts (body_of commented o ++ rest) (lines_of_body o ++ lines)
body_laid_out commented in_interface m None fits said rest lines t = t
body_laid_out commented in_interface m (Some c) fits said rest lines t =
    let p = concrete_of in_interface m c fits in
    code_laid commented (method_slots m) c (code_sayable (method_slots m) c p.1 said.0 said.1) (handlers_said c said.0) said.1 rest lines t

pub method_laid : (commented in_interface : Bool) (m : Method) → SayableMethod in_interface m → (rest : List ℕ) (lines : List Line) → Texts rest lines
    → Texts (text_of_method commented m ++ rest) (method_lines m ++ lines)
unfolding text_of_method
method_laid commented in_interface m s rest lines t =
    let r = rules_of in_interface m s.fits in
    let flags : List ℕ = flags_text m.flags.bits member_rows in
    let w : List ℕ = declared_word m in
    let note : List ℕ = member_note commented m.flags.bits in
    let body : List ℕ = body_of commented m.code in
    let end : List ℕ = codes ".end method\n" in
    let end_laid : Laid end end_words = word (codes ".end") refl refl (blank (word (codes "method") refl refl ends)) in
    let with_end : Texts (end ++ rest) (end_words ∷ lines) = line end_laid t in
    let with_body = body_laid_out commented in_interface m m.code r.body s.code (end ++ rest) (end_words ∷ lines) with_end in
    let name_laid : Laid (w ++ note) (bare w ∷ []) =
    word w (declared_is_word in_interface m s) (note_apart commented _ _ s.flags) (note_laid commented _ _ s.flags) in
    let head_laid : Laid (codes ".method " ++ (flags ++ (w ++ note))) (head_words m) =
    word (codes ".method") refl refl (blank (flags_laid m.flags.bits member_rows member_flags (w ++ note) (bare w ∷ []) name_laid)) in
    let whole = line head_laid with_body in
    let inner : (name_text m.name ++ (method_line m.descriptor ++ (note ++ (body ++ end)))) ++ rest ≡ (w ++ note) ++ (body ++ (end ++ rest)) =
    append_assoc (name_text m.name) (method_line m.descriptor ++ (note ++ (body ++ end))) rest
    ∙ ap (λ (x : List ℕ). name_text m.name ++ x) (append_assoc (method_line m.descriptor) (note ++ (body ++ end)) rest
    ∙ ap (λ (x : List ℕ). method_line m.descriptor ++ x) (append_assoc note (body ++ end) rest ∙ ap (λ (x : List ℕ). note ++ x) (append_assoc body end rest)))
    ∙ sym (append_assoc (name_text m.name) (method_line m.descriptor) (note ++ (body ++ (end ++ rest)))) ∙ sym (append_assoc w note (body ++ (end ++ rest))) in
    let texts : (flags ++ (name_text m.name ++ (method_line m.descriptor ++ (note ++ (body ++ end))))) ++ rest ≡ (flags ++ (w ++ note)) ++ (body ++ (end ++ rest)) =
    append_assoc flags (name_text m.name ++ (method_line m.descriptor ++ (note ++ (body ++ end)))) rest ∙ ap (λ (x : List ℕ). flags ++ x) inner
    ∙ sym (append_assoc flags (w ++ note) (body ++ (end ++ rest))) in
    subst (λ (x : List ℕ). Texts (codes ".method " ++ x) (method_lines m ++ lines)) (sym texts)
    (subst (λ (ls : List Line). Texts (codes ".method " ++ ((flags ++ (w ++ note)) ++ (body ++ (end ++ rest)))) (head_words m ∷ ls))
    (sym (append_assoc (lines_of_body m.code) (end_words ∷ []) lines)) whole)
