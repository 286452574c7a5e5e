-- The lines of a body are laid out, and their items are accepted one after the other.
use Rattle.std.proofs.Common.{◌≡◌, ℕ, suc, ◌+◌, ◌<◌, ◌≤◌, ◌^◌, ◌==◌, Bool, true, false, List, [], ◌∷◌, ◌++◌, length, None, Ok, refl, codes}
use Rattle.std.proofs.Common.{ap, sym, ◌∙◌, arith, subst, append_assoc, nat_lt, eqb-true}
use Rattle.std.specs.Prelude.{if◌then◌else◌}
use Rattle.std.specs.List.{list_all}
use Rattle.std.specs.Fmt.{decimal}
use Rattle.std.proofs.lemmas.List.{append-nil}
use Rattle.std.proofs.lemmas.Bool.Decides.{nat_tests}
use Rattle.std.proofs.lemmas.Bool.{and_from}
use Rattle.jm_program.specs.Flags.{is_abstract}
use Rattle.jm_program.specs.Instructions.{instr_fits}
use Rattle.jm_program.specs.Names.{same_text}
use Rattle.jm_program.specs.Texts.{utf16_of}
use Rattle.jm_program.specs.declared.class.Method.{Method}
use Rattle.jm_program.specs.declared.code.LineNumber.{LineNumber}
use Rattle.jm_program.specs.declared.constant.Constant.{Constant}
use Rattle.jm_program.specs.declared.constant.Constant.TheVariants as constant
use Rattle.jm_program.specs.declared.instruction.operation.ArrayOp.{ArrayOp}
use Rattle.jm_program.specs.declared.instruction.operation.ArrayOp.TheVariants as array
use Rattle.jm_program.specs.declared.instruction.plain.Plain.{Plain}
use Rattle.jm_program.specs.declared.instruction.plain.Plain.TheVariants as plain
use Rattle.jm_program.specs.declared.instruction.symbolic.Instr.{Instr}
use Rattle.jm_program.specs.declared.instruction.symbolic.Instr.TheVariants as instr
use Rattle.jm_program.proofs.Truths.{both_true}
use Rattle.jm_class_writer.specs.Ranges.{InstrInRange}
use Rattle.jm_jasmin_ops.specs.declared.labelled.LabelledInstr.{LabelledInstr}
use Rattle.jm_jasmin.specs.declared.item.Item.{Item}
use Rattle.jm_jasmin.specs.declared.item.Item.TheVariants as item
use Rattle.jm_jasmin.specs.Items.{instruction_here, instruction_count, value_here, label_value, instruction_accepted, accepted, without_last}
use Rattle.jm_jasmin.specs.WordForms.{Word, Line, bare}
use Rattle.jm_jasmin.specs.MethodForms.{BodyLine, BodyLines}
use Rattle.jm_jasmin.specs.MethodForms.BodyLine.{source_line, label, instruction}
use Rattle.jm_jasmin.specs.MethodForms.BodyLines.{ends as no_more, and_line, and_switch}
use Rattle.jm_jasmin.proofs.ItemLaws.{label_kept, count_kept, count_next, label_set}
use Rattle.jm_disassembler.specs.Labels.{label_name, label_word, is_marked}
use Rattle.jm_disassembler.specs.Instructions.{instr_text, rows_text}
use Rattle.jm_disassembler.specs.Said.{instr_said}
use Rattle.jm_disassembler.specs.Bodies.{note, instr_lines, label_text, source_text, source_lines, lines_behind, body_text}
use Rattle.jm_disassembler.proofs.Laid.{in_line, apart, Laid, Texts}
use Rattle.jm_disassembler.proofs.Laid.Laid.{ends, comment, blank, word}
use Rattle.jm_disassembler.proofs.Laid.Texts.{line}
use Rattle.jm_disassembler.proofs.Numbers.{is_decimal, decimal_is}
use Rattle.jm_disassembler.proofs.LabelWords.{label_is_word, label_ends, label_is, other_label}
use Rattle.jm_disassembler.proofs.Instructions.{plain_words, array_words, constant_words, instr_words, instr_laid, short_is, decimal_word}
use Rattle.jm_disassembler.proofs.Switches.{labelled_of, row_lines, Form, instr_form, rows_laid}
use Rattle.jm_disassembler.proofs.Switches.Form.{one, several}

-- ---- the lines, and their items

abbrev pub label_lines : List Bool → ℕ → List Line
label_lines marks k = if is_marked marks k then (bare (label_word k) ∷ []) ∷ [] else []

abbrev pub label_items : List Bool → ℕ → List Item
label_items marks k = if is_marked marks k then item.Label (label_name k) k ∷ [] else []

abbrev pub source_words : LineNumber → Line
source_words l = bare (codes ".line") ∷ bare (decimal l.line) ∷ []

abbrev pub source_rows : ℕ → List LineNumber → List Line
source_rows k [] = []
source_rows k (l ∷ ls) = if l.start == k then source_words l ∷ source_rows k ls else []

abbrev pub source_items : ℕ → List LineNumber → List Item
source_items k [] = []
source_items k (l ∷ ls) = if l.start == k then item.Line l ∷ source_items k ls else []

abbrev pub body_lines : List Bool → ℕ → List Instr → List LineNumber → List Line
body_lines marks k [] ls = label_lines marks k
body_lines marks k (i ∷ is) ls =
    label_lines marks k ++ (source_rows k ls ++ ((instr_words i ∷ row_lines i) ++ body_lines marks (suc k) is (lines_behind k ls)))

abbrev pub body_items : List Bool → ℕ → List Instr → List LineNumber → List Item
body_items marks k [] ls = label_items marks k
body_items marks k (i ∷ is) ls =
    label_items marks k ++ (source_items k ls ++ (item.Instruction (labelled_of i) ∷ body_items marks (suc k) is (lines_behind k ls)))

-- what is known of an instruction among so many
pub record Sayable (count : ℕ) (i : Instr) : Type 0 where
  pub fits : instr_fits count i ≡ true
  pub said : instr_said i ≡ true
  pub range : InstrInRange i

abbrev pub EachOf : {A : Type 0} → (A → Type 0) → List A → Type 0
EachOf P [] = Unit {0}
EachOf P (x ∷ xs) = P x × EachOf P xs

abbrev pub LineInRange : LineNumber → Type 0
LineInRange l = l.line < 2 ^ 16

-- ---- layout

digit_in_line : (b : ℕ) → is_decimal b ≡ true → in_line b ≡ true
digit_in_line b h = grind (arith, nat_tests)

digits_in_line : (ds : List ℕ) → list_all is_decimal ds ≡ true → list_all in_line ds ≡ true
digits_in_line [] h = refl
digits_in_line (b ∷ bs) h =
    let p = both_true (is_decimal b) (list_all is_decimal bs) h in
    and_from (in_line b) (list_all in_line bs) (digit_in_line b p.0) (digits_in_line bs p.1)

note_laid : (commented : Bool) (k : ℕ) → k < 2 ^ 64 → Laid (note commented k) []
note_laid false k lt = ends
note_laid true k lt = blank (blank (comment (32 ∷ decimal k) (digits_in_line (decimal k) (decimal_is k lt).decimals)))

note_apart : (commented : Bool) (k : ℕ) → apart (note commented k) ≡ true
note_apart false k = refl
note_apart true k = refl

texts_as : (a b : List ℕ) (lines : List Line) → a ≡ b → Texts b lines → Texts a lines
texts_as a b lines e h = subst (λ (t : List ℕ). Texts t lines) (sym e) h

abbrev Some1 : Line → Type 0
Some1 ws = (w : Word) × (more : Line) × (ws ≡ w ∷ more)

some_line : {bytes text : List ℕ} {ls : List Line} (ws : Line) → Some1 ws → Laid bytes ws → Texts text ls → Texts (bytes ++ text) (ws ∷ ls)
some_line {bytes} {text} {ls} ws s a b =
    subst (λ (l : Line). Texts (bytes ++ text) (l ∷ ls)) (sym s.2) (line (subst (λ (l : Line). Laid bytes l) s.2 a) b)

plain_some : (p : Plain) → Some1 (plain_words p)
plain_some (plain.Simple op) = (_, _, refl)
plain_some (plain.PushByte n) = (_, _, refl)
plain_some (plain.PushShort n) = (_, _, refl)
plain_some (plain.Load t n) = (_, _, refl)
plain_some (plain.Store t n) = (_, _, refl)
plain_some (plain.Increment n by) = (_, _, refl)
plain_some (plain.Branch op t) = (_, _, refl)
plain_some (plain.TableSwitch t) = (_, _, refl)
plain_some (plain.LookupSwitch l) = (_, _, refl)

array_some : (op : ArrayOp) → Some1 (array_words op)
array_some (array.Load k) = (_, _, refl)
array_some (array.Store k) = (_, _, refl)
array_some (array.New t) = (_, _, refl)
array_some array.Length = (_, _, refl)

constant_some : (c : Constant) → Some1 (constant_words c)
constant_some (constant.Int n) = (_, _, refl)
constant_some (constant.Long n) = (_, _, refl)
constant_some (constant.String units) = (_, _, refl)

words_some : (i : Instr) → Some1 (instr_words i)
words_some (instr.Plain p) = plain_some p
words_some (instr.Array op) = array_some op
words_some (instr.Return op) = (_, _, refl)
words_some instr.Throw = (_, _, refl)
words_some (instr.Monitor op) = (_, _, refl)
words_some (instr.Constant c) = constant_some c
words_some (instr.Field op f) = (_, _, refl)
words_some (instr.Invoke op m) = (_, _, refl)
words_some (instr.New name) = (_, _, refl)
words_some (instr.Type op c) = (_, _, refl)

instr_laid_out : (commented : Bool) (count k : ℕ) (i : Instr) → count < 2 ^ 64 → k < 2 ^ 64 → Sayable count i → (rest : List ℕ) (lines : List Line) → Texts rest lines
    → Texts (instr_lines commented k i ++ rest) ((instr_words i ∷ row_lines i) ++ lines)
unfolding instr_lines
instr_laid_out commented count k i few lt s rest lines h =
    let n : List ℕ = note commented k in
    let t : List ℕ = instr_text i in
    let r : List ℕ = rows_text i in
    let first : Laid (32 ∷ 32 ∷ (t ++ n)) (instr_words i) = blank (blank (instr_laid n (note_laid commented k lt) (note_apart commented k) count i few s.fits s.said s.range)) in
    let parts : (t ++ (n ++ r)) ++ rest ≡ (t ++ n) ++ (r ++ rest) =
    ap (λ (x : List ℕ). x ++ rest) (sym (append_assoc t n r)) ∙ append_assoc (t ++ n) r rest in
    texts_as _ ((32 ∷ 32 ∷ (t ++ n)) ++ (r ++ rest)) _ (ap (λ (x : List ℕ). 32 ∷ 32 ∷ x) parts)
    (some_line (instr_words i) (words_some i) first (rows_laid count i few s.fits s.range rest lines h))

label_laid_by : (marks : List Bool) (k : ℕ) (b : Bool) → is_marked marks k ≡ b → k < 2 ^ 64 → (rest : List ℕ) (lines : List Line) → Texts rest lines
    → Texts (label_text marks k ++ rest) (label_lines marks k ++ lines)
unfolding label_text
label_laid_by marks k true e lt rest lines h = rw e (line (word (label_word k) (label_is_word k lt) refl ends) h)
label_laid_by marks k false e lt rest lines h = rw e h

label_laid : (marks : List Bool) (k : ℕ) → k < 2 ^ 64 → (rest : List ℕ) (lines : List Line) → Texts rest lines
    → Texts (label_text marks k ++ rest) (label_lines marks k ++ lines)
label_laid marks k lt rest lines h = label_laid_by marks k (is_marked marks k) refl lt rest lines h

source_laid : (l : LineNumber) → LineInRange l → Laid (source_text l) (source_words l)
unfolding source_text
source_laid l lt = blank (blank (word (codes ".line") refl refl (blank (word (decimal l.line) (decimal_word l.line (omega arith)) refl ends))))

source_by : (l : LineNumber) (text : List ℕ) (rows : List Line) (b : Bool) → LineInRange l → (rest : List ℕ) (lines : List Line)
    → (Texts (text ++ rest) (rows ++ lines)) → Texts rest lines
    → Texts ((if b then source_text l ++ text else []) ++ rest) ((if b then source_words l ∷ rows else []) ++ lines)
source_by l text rows true lt rest lines more h = texts_as _ (source_text l ++ (text ++ rest)) _ (append_assoc (source_text l) text rest) (line (source_laid l lt) more)
source_by l text rows false lt rest lines more h = h

sources_laid : (k : ℕ) (ls : List LineNumber) → EachOf LineInRange ls → (rest : List ℕ) (lines : List Line) → Texts rest lines
    → Texts (source_lines k ls ++ rest) (source_rows k ls ++ lines)
sources_laid k [] range rest lines h = h
sources_laid k (l ∷ ls) range rest lines h =
    source_by l (source_lines k ls) (source_rows k ls) (l.start == k) range.0 rest lines (sources_laid k ls range.1 rest lines h) h

behind_by : (P : LineNumber → Type 0) (l : LineNumber) (ls more : List LineNumber) (b : Bool) → EachOf P (l ∷ ls) → EachOf P more
    → EachOf P (if b then more else l ∷ ls)
behind_by P l ls more true h k = k
behind_by P l ls more false h k = h

pub behind_range : (P : LineNumber → Type 0) (k : ℕ) (ls : List LineNumber) → EachOf P ls → EachOf P (lines_behind k ls)
behind_range P k [] h = tt
behind_range P k (l ∷ ls) h = behind_by P l ls (lines_behind k ls) (l.start == k) h (behind_range P k ls h.1)

pub body_laid : (commented : Bool) (marks : List Bool) (count k : ℕ) (is : List Instr) (ls : List LineNumber) → count < 2 ^ 64 → k + length is < 2 ^ 64
    → EachOf (Sayable count) is → EachOf LineInRange ls → (rest : List ℕ) (lines : List Line) → Texts rest lines
    → Texts (body_text commented marks k is ls ++ rest) (body_lines marks k is ls ++ lines)
unfolding body_text
body_laid commented marks count k [] ls few lt all range rest lines h = label_laid marks k (omega arith) rest lines h
body_laid commented marks count k (i ∷ is) ls few lt all range rest lines h =
    let behind : List LineNumber = lines_behind k ls in
    let more = body_laid commented marks count (suc k) is behind few (omega arith) all.1 (behind_range LineInRange k ls range) rest lines h in
    let bt : List ℕ = body_text commented marks (suc k) is behind in
    let bl : List Line = body_lines marks (suc k) is behind in
    let il : List ℕ = instr_lines commented k i in
    let one_more = instr_laid_out commented count k i few (omega arith) all.0 (bt ++ rest) (bl ++ lines) more in
    let with_sources = sources_laid k ls range (il ++ (bt ++ rest)) ((instr_words i ∷ row_lines i) ++ (bl ++ lines)) one_more in
    let whole = label_laid marks k (omega arith) _ _ with_sources in
    let texts : (label_text marks k ++ (source_lines k ls ++ (il ++ bt))) ++ rest ≡ label_text marks k ++ (source_lines k ls ++ (il ++ (bt ++ rest))) =
    append_assoc (label_text marks k) (source_lines k ls ++ (il ++ bt)) rest
    ∙ ap (λ (x : List ℕ). label_text marks k ++ x) (append_assoc (source_lines k ls) (il ++ bt) rest ∙ ap (λ (x : List ℕ). source_lines k ls ++ x) (append_assoc il bt rest)) in
    let own : List Line = instr_words i ∷ row_lines i in
    let all_lines : (label_lines marks k ++ (source_rows k ls ++ (own ++ bl))) ++ lines ≡ label_lines marks k ++ (source_rows k ls ++ (own ++ (bl ++ lines))) =
    append_assoc (label_lines marks k) (source_rows k ls ++ (own ++ bl)) lines
    ∙ ap (λ (x : List Line). label_lines marks k ++ x) (append_assoc (source_rows k ls) (own ++ bl) lines ∙ ap (λ (x : List Line). source_rows k ls ++ x) (append_assoc own bl lines)) in
    texts_as _ _ _ texts (subst (λ (l : List Line). Texts (label_text marks k ++ (source_lines k ls ++ (il ++ (bt ++ rest)))) l) (sym all_lines) whole)

-- ---- the items are accepted

-- items with so many instructions, and with no label of a place from another on
pub record Before (pre : List Item) (count from : ℕ) : Type 0 where
  pub counted : instruction_count pre ≡ count
  pub fresh : (t : ℕ) → from ≤ t → t < 2 ^ 64 → label_value pre (label_name t) ≡ None

later : (pre : List Item) (count from to : ℕ) → from ≤ to → Before pre count from → Before pre count to
later pre count from to le b = record { counted = b.counted; fresh = λ t h lt. b.fresh t (omega arith) lt }

pub before_other : (pre : List Item) (count from : ℕ) (x : Item) → ((name : List ℕ) → value_here name x ≡ None) → instruction_here x ≡ 0
    → Before pre count from → Before (pre ++ x ∷ []) count from
before_other pre count from x none no_more_one b = record {
  counted = count_kept pre x no_more_one ∙ b.counted;
  fresh = λ t h lt. label_kept pre x (label_name t) (none (label_name t)) ∙ b.fresh t h lt;
}

before_instruction : (pre : List Item) (k : ℕ) (from : ℕ) (i : LabelledInstr) → Before pre k from → Before (pre ++ item.Instruction i ∷ []) (suc k) from
before_instruction pre k from i b = record {
  counted = omega (arith, count_next pre i, b.counted);
  fresh = λ t h lt. label_kept pre (item.Instruction i) (label_name t) refl ∙ b.fresh t h lt;
}

before_label : (pre : List Item) (k : ℕ) → k < 2 ^ 64 → Before pre k k → Before (pre ++ item.Label (label_name k) k ∷ []) k (suc k)
before_label pre k few b = record {
  counted = count_kept pre (item.Label (label_name k) k) refl ∙ b.counted;
  fresh = λ t h lt. no_label t h lt;
}
  where
    no_label : (t : ℕ) → suc k ≤ t → t < 2 ^ 64 → label_value (pre ++ item.Label (label_name k) k ∷ []) (label_name t) ≡ None
    no_label t h lt =
        let other : (k == t) ≡ false = grind (arith, nat_tests) in
        let names : same_text (label_name k) (label_name t) ≡ false = other_label k t few lt other in
        label_set pre (label_name k) k (label_name t) ∙ rw names (b.fresh t (omega arith) lt)

module _ (m : Method) where
  -- lines and items behind those before them
  abbrev Goes : List Item → List Line → List Item → Type 0
  Goes pre lines items = BodyLines m pre lines (pre ++ items)

  one_step : (pre : List Item) (l : Line) (x : Item) (lines : List Line) (items : List Item) → BodyLine (instruction_count pre) l x → accepted m 0 pre x ≡ Ok tt
      → Goes (pre ++ x ∷ []) lines items → Goes pre (l ∷ lines) (x ∷ items)
  one_step pre l x lines items p a q = and_line pre l x p a (subst (λ (all : List Item). BodyLines m (pre ++ x ∷ []) lines all) (append_assoc pre (x ∷ []) items) q)

  label_goes : (marks : List Bool) (k : ℕ) (pre : List Item) (lines : List Line) (items : List Item) (b : Bool) → is_marked marks k ≡ b → k < 2 ^ 64
      → Before pre k k → ((pre2 : List Item) → Before pre2 k (suc k) → Goes pre2 lines items) → Goes pre (label_lines marks k ++ lines) (label_items marks k ++ items)
  label_goes marks k pre lines items true e lt b more =
      let x : Item = item.Label (label_name k) k in
      let new : label_value pre (label_name k) ≡ None = b.fresh k (omega arith) lt in
      let named_so : item.Label (without_last (utf16_of (label_word k))) (instruction_count pre) ≡ x = rw (label_is k lt, b.counted) refl in
      let form : BodyLine (instruction_count pre) (bare (label_word k) ∷ []) x =
      subst (λ (y : Item). BodyLine (instruction_count pre) (bare (label_word k) ∷ []) y) named_so (label (label_word k) (label_ends k)) in
      rw e (one_step pre (bare (label_word k) ∷ []) x lines items form (rw new refl) (more (pre ++ x ∷ []) (before_label pre k lt b)))
  label_goes marks k pre lines items false e lt b more = rw e (more pre (later pre k k (suc k) (omega arith) b))

  source_form : (pre : List Item) (k from : ℕ) (l : LineNumber) → Before pre k from → l.start ≡ k → LineInRange l
      → BodyLine (instruction_count pre) (source_words l) (item.Line l)
  source_form pre k from l b e lt =
      let P : ℕ → Type 0 = λ n. BodyLine (instruction_count pre) (source_words l) (item.Line (record { start = n; line = l.line })) in
      subst P (b.counted ∙ sym e) (source_line (decimal l.line) l.line (short_is l.line lt))

  abbrev SourcesGo : ℕ → ℕ → List LineNumber → List Line → List Item → Type 0
  SourcesGo k from ls lines items =
      (pre : List Item) → EachOf LineInRange ls → Before pre k from → ((pre2 : List Item) → Before pre2 k from → Goes pre2 lines items)
      → Goes pre (source_rows k ls ++ lines) (source_items k ls ++ items)

  source_goes : (k from : ℕ) (l : LineNumber) (ls : List LineNumber) (pre : List Item) (lines : List Line) (items : List Item) (s : Bool) → (l.start == k) ≡ s
      → EachOf LineInRange (l ∷ ls) → Before pre k from → ((pre2 : List Item) → Before pre2 k from → Goes pre2 lines items)
      → SourcesGo k from ls lines items
      → Goes pre ((if s then source_words l ∷ source_rows k ls else []) ++ lines) ((if s then item.Line l ∷ source_items k ls else []) ++ items)
  source_goes k from l ls pre lines items true e range b more next =
      let same : l.start ≡ k = eqb-true l.start k e in
      one_step pre (source_words l) (item.Line l) (source_rows k ls ++ lines) (source_items k ls ++ items) (source_form pre k from l b same range.0) refl
      (next (pre ++ item.Line l ∷ []) range.1 (before_other pre k from (item.Line l) (λ name. refl) refl b) more)
  source_goes k from l ls pre lines items false e range b more next = more pre b

  sources_go : (k from : ℕ) (ls : List LineNumber) (lines : List Line) (items : List Item) → SourcesGo k from ls lines items
  sources_go k from [] lines items pre range b more = more pre b
  sources_go k from (l ∷ ls) lines items pre range b more =
      source_goes k from l ls pre lines items (l.start == k) refl range b more (sources_go k from ls lines items)

  instr_goes : (count k from : ℕ) (i : Instr) (pre : List Item) (lines : List Line) (items : List Item) → Form i → is_abstract m.flags ≡ false
      → k < 4294967295 → Before pre k from
      → Goes (pre ++ item.Instruction (labelled_of i) ∷ []) lines items
      → Goes pre ((instr_words i ∷ row_lines i) ++ lines) (item.Instruction (labelled_of i) ∷ items)
  unfolding instruction_accepted
  instr_goes count k from i pre lines items f concrete few b more =
      let x : Item = item.Instruction (labelled_of i) in
      let room : nat_lt (instruction_count pre) 4294967295 ≡ true = rw b.counted (grind (arith, nat_tests)) in
      let fine : accepted m 0 pre x ≡ Ok tt = rw (concrete, room) refl in
      elim f [
        | one e h ↦ subst (λ (rows : List Line). Goes pre ((instr_words i ∷ rows) ++ lines) (x ∷ items)) (sym e)
            (one_step pre (instr_words i) x lines items (instruction (instr_words i) (labelled_of i) h) fine more)
        | several h ↦ and_switch pre (instr_words i ∷ row_lines i) (labelled_of i) h fine
            (subst (λ (all : List Item). BodyLines m (pre ++ x ∷ []) lines all) (append_assoc pre (x ∷ []) items) more)
      ]

  pub body_goes : (marks : List Bool) (count k : ℕ) (is : List Instr) (ls : List LineNumber) (pre : List Item) → is_abstract m.flags ≡ false → count < 2 ^ 64
      → k + length is < 4294967295 → EachOf (Sayable count) is → EachOf LineInRange ls → Before pre k k
      → BodyLines m pre (body_lines marks k is ls) (pre ++ body_items marks k is ls)
  body_goes marks count k [] ls pre concrete few lt all range b =
      let last : Goes pre (label_lines marks k ++ []) (label_items marks k ++ []) =
      label_goes marks k pre [] [] (is_marked marks k) refl (omega arith) b (λ pre2 c. subst (λ (all : List Item). BodyLines m pre2 [] all) (sym (append-nil pre2)) (no_more pre2)) in
      subst (λ (lines : List Line). BodyLines m pre lines (pre ++ label_items marks k)) (append-nil (label_lines marks k))
      (subst (λ (items : List Item). BodyLines m pre (label_lines marks k ++ []) (pre ++ items)) (append-nil (label_items marks k)) last)
  body_goes marks count k (i ∷ is) ls pre concrete few lt all range b =
      let behind : List LineNumber = lines_behind k ls in
      let bl : List Line = body_lines marks (suc k) is behind in
      let bi : List Item = body_items marks (suc k) is behind in
      let x : Item = item.Instruction (labelled_of i) in
      let own : List Line = instr_words i ∷ row_lines i in
      let form = instr_form count i few all.0.fits all.0.said all.0.range in
      label_goes marks k pre (source_rows k ls ++ (own ++ bl)) (source_items k ls ++ (x ∷ bi)) (is_marked marks k) refl (omega arith) b
      (λ pre2 c. sources_go k (suc k) ls (own ++ bl) (x ∷ bi) pre2 range c
      (λ pre3 d. instr_goes count k (suc k) i pre3 bl bi form concrete (omega arith) d
      (body_goes marks count (suc k) is behind (pre3 ++ x ∷ []) concrete few (omega arith) all.1 (behind_range LineInRange k ls range) (before_instruction pre3 k (suc k) (labelled_of i) d))))
