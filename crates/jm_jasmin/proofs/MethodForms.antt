-- The lines of a method are read as their forms say.
use Rattle.std.proofs.Common.{◌≡◌, ℕ, suc, ◌+◌, ◌-◌, ◌<◌, ◌==◌, Bool, true, false, List, [], ◌∷◌, ◌++◌, length, drop, Some, None, Result, Ok, refl}
use Rattle.std.proofs.Common.{ap, ◌∙◌, arith, one-add, length-append}
use Rattle.std.specs.Prelude.{codes, nat_le, slice_get, position, ◌&&◌}
use Rattle.std.specs.List.{list_all, position_or_len}
use Rattle.std.proofs.Math.Numerals.{add-one}
use Rattle.std.proofs.Math.Seq.{take-append_seam, drop-append_seam}
use Rattle.jm_program.specs.Texts.{utf16_of}
use Rattle.jm_program.specs.Names.{same_text}
use Rattle.jm_program.specs.declared.class.Method.{Method}
use Rattle.jm_program.specs.declared.descriptor.MethodDescriptor.{MethodDescriptor}
use Rattle.jm_program.proofs.Numbers.{found_less as less}
use Rattle.jm_program.proofs.Truths.{both_true, and_false}
use Rattle.jm_class_format.specs.declared.opcode.Opcode.{Opcode}
use Rattle.jm_class_format.specs.declared.opcode.Opcode.TheVariants as opcode
use Rattle.jm_class_format.specs.Members.{own_receiver}
use Rattle.jm_class_format.specs.Symbols.{class_name_of, method_name_of, method_type_of}
use Rattle.jm_jasmin_lex.specs.Token.{TokenParts}
use Rattle.jm_jasmin_lex.specs.Lines.{first_line}
use Rattle.jm_jasmin_ops.specs.declared.labelled.LabelledInstr.{LabelledInstr}
use Rattle.jm_jasmin_ops.specs.Mnemonics.{opcode_named}
use Rattle.jm_jasmin_ops.specs.Instruction.{instruction_at, instruction_in}
use Rattle.jm_jasmin_ops.specs.declared.fault.AsmFault.{AsmFault}
use Rattle.jm_jasmin.specs.Lines.{begins, line_number, by_line}
use Rattle.jm_jasmin.specs.Words.{with_length, with_length_from, only_operand, operand, short_operand, flags_before}
use Rattle.jm_jasmin.specs.Symbols.{units_at, class_name, class_name_at, method_name, method_type}
use Rattle.jm_jasmin.specs.MethodHeader.{named_method, declarable, method_line, is_misplaced_abstract, left_out_method}
use Rattle.jm_jasmin.specs.Items.{limit_line, line_line, throws_line, catch_type_at, has_catch_words, with_catch_words, catch_line, ends_with_colon}
use Rattle.jm_jasmin.specs.Items.{is_label_line, without_last, label_line, instruction_lines, label_or_instruction, item_at}
use Rattle.jm_jasmin.specs.declared.item.Item.{Item}
use Rattle.jm_jasmin.specs.declared.item.Item.TheVariants as item
use Rattle.jm_jasmin.specs.WordForms.{Line, bare}
use Rattle.jm_jasmin.specs.InstructionForms.{IsUpTo, InstructionLine, default_words, SwitchLines}
use Rattle.jm_jasmin.specs.InstructionForms.SwitchLines.{table, lookup}
use Rattle.jm_jasmin.specs.InstructionForms.InstructionLine.{named, branch, branch_wide}
use Rattle.jm_jasmin.specs.MethodForms.{without_code, no_parenthesis, catch_row, catch_words, MethodLine, BodyLine}
use Rattle.jm_jasmin.specs.MethodForms.MethodLine.{method}
use Rattle.jm_jasmin.specs.MethodForms.BodyLine.{stack, locals, source_line, catch, catch_all, throws, var, label, instruction}
use Rattle.jm_jasmin.proofs.SwitchForms.{table_named, lookup_named, switch_reads}
use Rattle.jm_jasmin.proofs.WordForms.{token_in, standing, Says, Goes, opens, begins_says, first_says, by_front}
use Rattle.jm_jasmin.proofs.WordForms.Says.{line}
use Rattle.jm_jasmin.proofs.HeaderForms.{units_are, parted, flags_are, flags_read, at_least, behind_is}
use Rattle.jm_jasmin.proofs.InstructionForms.{in_line, instruction_reads}
use Rattle.jm_jasmin.proofs.MnemonicForms.{NoDirective, label_text, mnemonic_text, mnemonic_no_colon}

-- ---- .method

ahead : (name types : List ℕ) → list_all no_parenthesis name ≡ true → position_or_len (λ (u : ℕ). u == 40) (name ++ 40 ∷ types) ≡ length name
ahead [] types h = refl
ahead (u ∷ name) types h =
    let p = both_true (no_parenthesis u) (list_all no_parenthesis name) h in
    rw (p.0, ahead name types p.1, one-add) refl

parenthesis_at : (name types : List ℕ) → list_all no_parenthesis name ≡ true → position (λ (u : ℕ). u == 40) (name ++ 40 ∷ types) ≡ Some (length name)
parenthesis_at name types h =
    let within : length name < length (name ++ 40 ∷ types) = omega (arith, length-append name (40 ∷ types)) in
    rw (ahead name types h, less (length name) (length (name ++ 40 ∷ types)) within) refl

declared_so : (in_interface : Bool) (number : ℕ) (m : Method) → is_misplaced_abstract m ≡ false → left_out_method in_interface m ≡ None
    → declarable in_interface number m ≡ Ok m
unfolding declarable
declared_so in_interface number m h k = rw (h, k) refl

named_so : (number bits : ℕ) (name types : List ℕ) (d : MethodDescriptor) → method_name_of name ≡ Ok name
    → method_type_of (own_receiver (record { bits = bits })) (40 ∷ types) ≡ Ok d
    → named_method number bits (name ++ 40 ∷ types) (length name) ≡ Ok (without_code bits name d)
unfolding named_method method_name method_type
named_so number bits name types d h k = rw (take-append_seam name (40 ∷ types), drop-append_seam name (40 ∷ types), h, k) refl

method_by : (in_interface : Bool) (front : List TokenParts) (i bits at : ℕ) (us : List ℕ) (m : Method) → length front - 1 ≡ i
    → nat_le 2 (length front) ≡ true → flags_before 0 front i ≡ Ok bits → units_at front i ≡ Ok us
    → position (λ (u : ℕ). u == 40) us ≡ Some at → named_method (line_number front) bits us at ≡ Ok m → declarable in_interface (line_number front) m ≡ Ok m
    → method_line in_interface front ≡ Ok m
unfolding method_line with_length_from
method_by in_interface front i bits at us m e le f u p n d = rw (le, e, f, u, p, n, d) refl

pub method_line_reads : (in_interface : Bool) (l : Line) (m : Method) → MethodLine in_interface l m → (number : ℕ) (at : ℕ → ℕ)
    → method_line in_interface (standing number at l) ≡ Ok m
method_line_reads in_interface l m (method flags text name types bits d q e all hn ht ha hl) number at =
    let p = parted number (λ k. at (suc k)) flags (bare text ∷ []) in
    let first : TokenParts = token_in number (at 0) (bare (codes ".method")) in
    let f : List TokenParts = standing number (λ k. at (suc k)) flags in
    let t : TokenParts = token_in number (p.0 0) (bare text) in
    let front : List TokenParts = first ∷ (f ++ t ∷ []) in
    let size : length front ≡ suc (suc (length f)) = omega (arith, length-append f (t ∷ [])) in
    let i : ℕ = suc (length f) in
    let read : flags_before 0 front i ≡ Ok bits = flags_are 0 first f (t ∷ []) i refl ∙ flags_read 0 bits flags q number (λ k. at (suc k)) in
    let last : slice_get front i ≡ Some t = behind_is first f (t ∷ []) i 0 (omega arith) in
    let us : units_at front i ≡ Ok (name ++ 40 ∷ types) = units_are front i number (p.0 0) text last ∙ ap Ok e in
    rw p.1 (method_by in_interface front i bits (length name) (name ++ 40 ∷ types) (without_code bits name d) (omega (arith, size))
    (at_least 2 (length front) (omega (arith, size))) read us
    (parenthesis_at name types all) (named_so (line_number front) bits name types d hn ht)
    (declared_so in_interface (line_number front) (without_code bits name d) ha hl))

-- ---- the lines of a body

-- the item in the line of that number
abbrev pub in_that_line : ℕ → Item → Item
in_that_line number (item.Catch row) = item.Catch (record { catch_type = row.catch_type; start = row.start; end = row.end; target = row.target; line = number })
in_that_line number (item.Instruction i) = item.Instruction (in_line number i)
in_that_line number other = other

short_is : (front : List TokenParts) (index number start n : ℕ) (text : List ℕ) → slice_get front index ≡ Some (token_in number start (bare text))
    → IsUpTo 65535 text n → short_operand front index ≡ Ok n
unfolding short_operand operand
short_is front index number start n text h k = rw (h, k.value, k.fits) refl

abbrev pub GoesAt : {A : Type 0} → Result (A × List TokenParts) AsmFault → (ℕ → A) → List Line → List TokenParts → Type 0
GoesAt r x lines us = (number : ℕ) × Goes r (x number) lines us

pub line_read_at : {A : Type 0} (f : List TokenParts → Result A AsmFault) (x : ℕ → A) (l : Line) (lines : List Line) (us : List TokenParts)
    → Says (l ∷ lines) us
    → ((number : ℕ) (at : ℕ → ℕ) → f (standing number at l) ≡ Ok (x number)) → GoesAt (by_line f us) x lines us
line_read_at f x l lines us (line number at w ws {rest = rest} apart says) reads =
    let s : List TokenParts = standing number (λ k. at (suc k)) ws in (
      number,
      (
        rest,
        by_front f (x number) (token_in number (at 0) w ∷ (s ++ rest)) (standing number at (w ∷ ws)) rest (first_says number at w ws rest apart)
            (reads number at),
        says,
        omega (arith, length-append s rest),
      ),
    )

instruction_by : (us front below rest : List TokenParts) (i : LabelledInstr) (used : ℕ) → first_line us ≡ (front, below)
    → instruction_in front below ≡ Ok (record { instruction = i; used = used }) → drop used us ≡ rest
    → instruction_lines us ≡ Ok (item.Instruction i, rest)
unfolding instruction_lines instruction_at
instruction_by us front below rest i used e h d = rw (e, h, d) refl

instruction_read : (l : Line) (i : LabelledInstr) → InstructionLine l i → (lines : List Line) (us : List TokenParts) → Says (l ∷ lines) us
    → GoesAt (instruction_lines us) (λ n. in_that_line n (item.Instruction i)) lines us
instruction_read l i h lines us (line number at w ws {rest = rest} apart says) =
    let s : List TokenParts = standing number (λ k. at (suc k)) ws in
    let back : drop (length s + 1) (token_in number (at 0) w ∷ (s ++ rest)) ≡ rest = rw add-one (drop-append_seam s rest) in (
      number,
      (
        rest,
        instruction_by (token_in number (at 0) w ∷ (s ++ rest)) (standing number at (w ∷ ws)) rest rest (in_line number i) (length s + 1)
            (first_says number at w ws rest apart) (instruction_reads w ws i h number at rest) back,
        says,
        omega (arith, length-append s rest),
      ),
    )

front_says : (l : Line) (lines : List Line) (us : List TokenParts) → Says (l ∷ lines) us
    → (number : ℕ) × (at : ℕ → ℕ) × ((first_line us).0 ≡ standing number at l)
front_says l lines us (line number at w ws {rest = rest} apart says) =
    (number, at, ap (λ (p : List TokenParts × List TokenParts). p.0) (first_says number at w ws rest apart))

no_label : (number : ℕ) (at : ℕ → ℕ) (text : List ℕ) (ws : Line) → ends_with_colon text ≡ false → is_label_line (standing number at (bare text ∷ ws)) ≡ false
unfolding is_label_line
no_label number at text ws h = rw (h, and_false (length (standing number at (bare text ∷ ws)) == 1)) refl

a_label : (number : ℕ) (at : ℕ → ℕ) (text : List ℕ) → ends_with_colon text ≡ true → is_label_line (standing number at (bare text ∷ [])) ≡ true
unfolding is_label_line
a_label number at text h = rw h refl

label_reads : (before number : ℕ) (at : ℕ → ℕ) (text : List ℕ)
    → label_line before (standing number at (bare text ∷ [])) ≡ Ok (item.Label (without_last (utf16_of text)) before)
unfolding label_line units_at operand
label_reads before number at text = refl

by_label : (before : ℕ) (us : List TokenParts) → is_label_line (first_line us).0 ≡ true → label_or_instruction before us ≡ by_line (label_line before) us
unfolding label_or_instruction
by_label before us h = rw h refl

by_instruction : (before : ℕ) (us : List TokenParts) → is_label_line (first_line us).0 ≡ false → label_or_instruction before us ≡ instruction_lines us
unfolding label_or_instruction
by_instruction before us h = rw h refl

no_directives : (before : ℕ) (text : List ℕ) (ws : Line) (lines : List Line) (us : List TokenParts) → NoDirective text
    → Says ((bare text ∷ ws) ∷ lines) us → item_at before us ≡ label_or_instruction before us
unfolding item_at
no_directives before text ws lines us h says =
    let limit : begins (codes ".limit") us ≡ false = begins_says (codes ".limit") ((bare text ∷ ws) ∷ lines) us says ∙ h.limit in
    let source : begins (codes ".line") us ≡ false = begins_says (codes ".line") ((bare text ∷ ws) ∷ lines) us says ∙ h.line in
    let variable : begins (codes ".var") us ≡ false = begins_says (codes ".var") ((bare text ∷ ws) ∷ lines) us says ∙ h.var in
    let thrown : begins (codes ".throws") us ≡ false = begins_says (codes ".throws") ((bare text ∷ ws) ∷ lines) us says ∙ h.throws in
    let caught : begins (codes ".catch") us ≡ false = begins_says (codes ".catch") ((bare text ∷ ws) ∷ lines) us says ∙ h.catch in
    rw (limit, source, variable, thrown, caught) refl

stack_reads : (text : List ℕ) (n : ℕ) → IsUpTo 65535 text n → (number : ℕ) (at : ℕ → ℕ)
    → limit_line (standing number at (bare (codes ".limit") ∷ bare (codes "stack") ∷ bare text ∷ [])) ≡ Ok (item.StackLimit n)
unfolding limit_line with_length
stack_reads text n h number at = rw (short_is (standing number at (bare (codes ".limit") ∷ bare (codes "stack") ∷ bare text ∷ [])) 2 number (at 2) n text
    refl h) refl

locals_reads : (text : List ℕ) (n : ℕ) → IsUpTo 65535 text n → (number : ℕ) (at : ℕ → ℕ)
    → limit_line (standing number at (bare (codes ".limit") ∷ bare (codes "locals") ∷ bare text ∷ [])) ≡ Ok (item.LocalsLimit n)
unfolding limit_line with_length
locals_reads text n h number at = rw (short_is (standing number at (bare (codes ".limit") ∷ bare (codes "locals") ∷ bare text ∷ [])) 2 number (at 2) n text
    refl h) refl

line_reads : (before : ℕ) (text : List ℕ) (n : ℕ) → IsUpTo 65535 text n → (number : ℕ) (at : ℕ → ℕ)
    → line_line before (standing number at (bare (codes ".line") ∷ bare text ∷ [])) ≡ Ok (item.Line (record { start = before; line = n }))
unfolding line_line with_length
line_reads before text n h number at = rw (short_is (standing number at (bare (codes ".line") ∷ bare text ∷ [])) 1 number (at 1) n text refl h) refl

throws_reads : (text : List ℕ) (number : ℕ) (at : ℕ → ℕ) → throws_line (standing number at (bare (codes ".throws") ∷ bare text ∷ [])) ≡ Ok item.Dropped
unfolding throws_line only_operand with_length operand
throws_reads text number at = refl

catch_reads : (text start end target name : List ℕ) → same_text text (codes "all") ≡ false → class_name_of (utf16_of text) ≡ Ok name → (number : ℕ) (at : ℕ → ℕ)
    → catch_line (standing number at (catch_words text start end target)) ≡ Ok (in_that_line number (item.Catch (catch_row (Some name) start end target)))
unfolding catch_line with_length with_catch_words has_catch_words catch_type_at class_name_at class_name units_at operand line_number
catch_reads text start end target name h k number at = rw (h, k) refl

catch_all_reads : (start end target : List ℕ) (number : ℕ) (at : ℕ → ℕ)
    → catch_line (standing number at (catch_words (codes "all") start end target)) ≡ Ok (in_that_line number (item.Catch (catch_row None start end target)))
unfolding catch_line with_length with_catch_words has_catch_words catch_type_at units_at operand line_number
catch_all_reads start end target number at = refl

goes_as : {A : Type 0} (r s : Result (A × List TokenParts) AsmFault) (x : ℕ → A) (lines : List Line) (us : List TokenParts) → s ≡ r → GoesAt r x lines us
    → GoesAt s x lines us
goes_as r s x lines us e g = (g.0, (g.1.0, e ∙ g.1.1, g.1.2, g.1.3))

limit_here : (before : ℕ) (us : List TokenParts) → begins (codes ".limit") us ≡ true → item_at before us ≡ by_line limit_line us
unfolding item_at
limit_here before us h = rw h refl

line_here : (before : ℕ) (us : List TokenParts) → begins (codes ".limit") us ≡ false → begins (codes ".line") us ≡ true
    → item_at before us ≡ by_line (line_line before) us
unfolding item_at
line_here before us a h = rw (a, h) refl

var_here : (before : ℕ) (us : List TokenParts) → begins (codes ".limit") us ≡ false → begins (codes ".line") us ≡ false → begins (codes ".var") us ≡ true
    → item_at before us ≡ by_line (λ _. Ok item.Dropped) us
unfolding item_at
var_here before us a b h = rw (a, b, h) refl

throws_here : (before : ℕ) (us : List TokenParts) → begins (codes ".limit") us ≡ false → begins (codes ".line") us ≡ false
    → begins (codes ".var") us ≡ false → begins (codes ".throws") us ≡ true → item_at before us ≡ by_line throws_line us
unfolding item_at
throws_here before us a b c h = rw (a, b, c, h) refl

catch_here : (before : ℕ) (us : List TokenParts) → begins (codes ".limit") us ≡ false → begins (codes ".line") us ≡ false → begins (codes ".var") us ≡ false
    → begins (codes ".throws") us ≡ false → begins (codes ".catch") us ≡ true
    → item_at before us ≡ by_line catch_line us
unfolding item_at
catch_here before us a b c d h = rw (a, b, c, d, h) refl

module _ (before : ℕ) (lines : List Line) (us : List TokenParts) where
  words_read : (text : List ℕ) (ws : Line) (i : LabelledInstr) → NoDirective text → ends_with_colon text ≡ false
      → InstructionLine (bare text ∷ ws) i → Says ((bare text ∷ ws) ∷ lines) us
      → GoesAt (item_at before us) (λ n. in_that_line n (item.Instruction i)) lines us
  words_read text ws i point colon h says =
      let f = front_says (bare text ∷ ws) lines us says in
      let other : is_label_line (first_line us).0 ≡ false = ap is_label_line f.2 ∙ no_label f.0 f.1 text ws colon in
      goes_as (instruction_lines us) (item_at before us) (λ n. in_that_line n (item.Instruction i)) lines us
      (no_directives before text ws lines us point says ∙ by_instruction before us other) (instruction_read (bare text ∷ ws) i h lines us says)

  instruction_item : (l : Line) (i : LabelledInstr) → InstructionLine l i → Says (l ∷ lines) us
      → GoesAt (item_at before us) (λ n. in_that_line n (item.Instruction i)) lines us
  instruction_item l i (named text op words x names h) says =
      words_read text words i (mnemonic_text text op names) (mnemonic_no_colon text op names)
      (named text op words x names h) says
  instruction_item l i (branch text target op names h) says =
      words_read text (bare target ∷ []) i (mnemonic_text text (opcode.Branch op) names) (mnemonic_no_colon text (opcode.Branch op) names)
      (branch text target op names h) says
  instruction_item l i (branch_wide text target op names h) says =
      words_read text (bare target ∷ []) i (mnemonic_text text (opcode.BranchWide op) names) (mnemonic_no_colon text (opcode.BranchWide op) names)
      (branch_wide text target op names h) says

  -- a line that begins with a mnemonic is no directive and no label
  by_mnemonic : (text : List ℕ) (ws : Line) (op : Opcode) → opcode_named text ≡ Some op → Says ((bare text ∷ ws) ∷ lines) us
      → item_at before us ≡ instruction_lines us
  by_mnemonic text ws op names says =
      let f = front_says (bare text ∷ ws) lines us says in
      let other : is_label_line (first_line us).0 ≡ false = ap is_label_line f.2 ∙ no_label f.0 f.1 text ws (mnemonic_no_colon text op names) in
      no_directives before text ws lines us (mnemonic_text text op names) says ∙ by_instruction before us other

  pub item_read : (l : Line) (i : Item) → BodyLine before l i → Says (l ∷ lines) us → GoesAt (item_at before us) (λ n. in_that_line n i) lines us
  item_read l i (stack text n h) says =
      goes_as (by_line limit_line us) (item_at before us) (λ k. in_that_line k i) lines us
      (limit_here before us (begins_says (codes ".limit") (l ∷ lines) us says))
      (line_read_at limit_line (λ k. in_that_line k i) l lines us says (stack_reads text n h))
  item_read l i (locals text n h) says =
      goes_as (by_line limit_line us) (item_at before us) (λ k. in_that_line k i) lines us
      (limit_here before us (begins_says (codes ".limit") (l ∷ lines) us says))
      (line_read_at limit_line (λ k. in_that_line k i) l lines us says (locals_reads text n h))
  item_read l i (source_line text n h) says =
      goes_as (by_line (line_line before) us) (item_at before us) (λ k. in_that_line k i) lines us
      (line_here before us (begins_says (codes ".limit") (l ∷ lines) us says) (begins_says (codes ".line") (l ∷ lines) us says))
      (line_read_at (line_line before) (λ k. in_that_line k i) l lines us says (line_reads before text n h))
  item_read l i (catch text start end target name h k) says =
      goes_as (by_line catch_line us) (item_at before us) (λ n. in_that_line n i) lines us
      (catch_here before us (begins_says (codes ".limit") (l ∷ lines) us says) (begins_says (codes ".line") (l ∷ lines) us says)
      (begins_says (codes ".var") (l ∷ lines) us says) (begins_says (codes ".throws") (l ∷ lines) us says)
      (begins_says (codes ".catch") (l ∷ lines) us says))
      (line_read_at catch_line (λ n. in_that_line n i) l lines us says (catch_reads text start end target name h k))
  item_read l i (catch_all start end target) says =
      goes_as (by_line catch_line us) (item_at before us) (λ n. in_that_line n i) lines us
      (catch_here before us (begins_says (codes ".limit") (l ∷ lines) us says) (begins_says (codes ".line") (l ∷ lines) us says)
      (begins_says (codes ".var") (l ∷ lines) us says) (begins_says (codes ".throws") (l ∷ lines) us says)
      (begins_says (codes ".catch") (l ∷ lines) us says))
      (line_read_at catch_line (λ n. in_that_line n i) l lines us says (catch_all_reads start end target))
  item_read l i (throws text) says =
      goes_as (by_line throws_line us) (item_at before us) (λ n. in_that_line n i) lines us
      (throws_here before us (begins_says (codes ".limit") (l ∷ lines) us says) (begins_says (codes ".line") (l ∷ lines) us says)
      (begins_says (codes ".var") (l ∷ lines) us says) (begins_says (codes ".throws") (l ∷ lines) us says))
      (line_read_at throws_line (λ n. in_that_line n i) l lines us says (throws_reads text))
  item_read l i (var words) says =
      goes_as (by_line (λ _. Ok item.Dropped) us) (item_at before us) (λ n. in_that_line n i) lines us
      (var_here before us (begins_says (codes ".limit") (l ∷ lines) us says) (begins_says (codes ".line") (l ∷ lines) us says)
      (begins_says (codes ".var") (l ∷ lines) us says))
      (line_read_at (λ _. Ok item.Dropped) (λ n. in_that_line n i) l lines us says (λ number at. refl))
  item_read l i (label text h) says =
      let f = front_says l lines us says in
      let here : is_label_line (first_line us).0 ≡ true = ap is_label_line f.2 ∙ a_label f.0 f.1 text h in
      goes_as (by_line (label_line before) us) (item_at before us) (λ n. in_that_line n i) lines us
      (no_directives before text [] lines us (label_text text h) says ∙ by_label before us here)
      (line_read_at (label_line before) (λ n. in_that_line n i) l lines us says (λ number at. label_reads before number at text))
  item_read l x (instruction l2 i h) says = instruction_item l i h says

-- ---- the lines of a switch

switch_here : (before : ℕ) (own behind : List Line) (i : LabelledInstr) → SwitchLines own i → (us : List TokenParts) → Says (own ++ behind) us
    → item_at before us ≡ instruction_lines us
switch_here before own behind i (table text name low lines targets is_low are some is_label) us says =
    by_mnemonic before ((lines ++ default_words name ∷ []) ++ behind) us (codes "tableswitch") (bare text ∷ []) opcode.TableSwitch table_named says
switch_here before own behind i (lookup name lines pairs are is_label) us says =
    by_mnemonic before ((lines ++ default_words name ∷ []) ++ behind) us (codes "lookupswitch") [] opcode.LookupSwitch lookup_named says

switch_by : (us rest : List TokenParts) (i : LabelledInstr) (used : ℕ) → instruction_at us ≡ Ok (record { instruction = i; used = used }) → drop used us ≡ rest
    → instruction_lines us ≡ Ok (item.Instruction i, rest)
unfolding instruction_lines
switch_by us rest i used h d = rw (h, d) refl

pub switch_goes_on : (own behind : List Line) (i : LabelledInstr) → SwitchLines own i → opens (codes ".end") (own ++ behind) ≡ false
switch_goes_on own behind i (table text name low lines targets is_low are some is_label) = refl
switch_goes_on own behind i (lookup name lines pairs are is_label) = refl

-- the item of a switch, and the tokens behind its lines
pub switch_read : (before : ℕ) (own behind : List Line) (i : LabelledInstr) → SwitchLines own i → (us : List TokenParts) → Says (own ++ behind) us
    → (j : LabelledInstr) × (rest : List TokenParts) × (item_at before us ≡ Ok (item.Instruction j, rest)) × (in_line 0 j ≡ i) × Says behind rest
    × (length rest < length us)
switch_read before own behind i h us says =
    let r = switch_reads own behind i h us says in
    (r.instruction, r.rest, switch_here before own behind i h us says ∙ switch_by us r.rest r.instruction r.used r.reads r.behind_it, r.same, r.says, r.fewer)
