-- The items of a method's lines come to its code.
use Rattle.std.proofs.Common.{◌≡◌, ℕ, suc, ◌+◌, ◌<◌, ◌≤◌, ◌^◌, ◌==◌, Bool, true, false, ◌&&◌, List, [], ◌∷◌, ◌++◌, length, Option, Some, None, Ok, refl}
use Rattle.std.proofs.Common.{ap, sym, ◌∙◌, arith, subst, nat_lt, nat_le, eqb-true}
use Rattle.std.specs.Prelude.{if◌then◌else◌}
use Rattle.std.specs.List.{list_all, flat_map}
use Rattle.std.proofs.lemmas.List.{append-nil}
use Rattle.std.proofs.lemmas.Grind.{flat_map-append}
use Rattle.std.proofs.lemmas.Bool.Decides.{nat_tests}
use Rattle.std.proofs.lemmas.Bool.{and_from}
use Rattle.jm_bytes.specs.Reading.{each}
use Rattle.jm_bytes.specs.Laws.{and_then_ok, same_Ok}
use Rattle.jm_program.specs.Codes.{handler_fits}
use Rattle.jm_program.specs.Instructions.{instr_fits}
use Rattle.jm_program.specs.Names.{same_text}
use Rattle.jm_program.specs.Flags.{is_abstract}
use Rattle.jm_program.specs.Fits.{method_slots}
use Rattle.jm_program.specs.declared.class.Method.{Method}
use Rattle.jm_program.specs.declared.code.Code.{Code}
use Rattle.jm_program.specs.declared.code.Handler.{Handler}
use Rattle.jm_program.specs.declared.code.LineNumber.{LineNumber}
use Rattle.jm_program.specs.declared.instruction.symbolic.Instr.{Instr}
use Rattle.jm_program.proofs.Texts.{text_itself}
use Rattle.jm_program.proofs.Truths.{both_true}
use Rattle.jm_class_format.specs.Symbols.{or_else}
use Rattle.jm_jasmin_ops.specs.declared.fault.AsmFault.{AsmFault}
use Rattle.jm_jasmin.specs.declared.item.Item.{Item}
use Rattle.jm_jasmin.specs.declared.item.Item.TheVariants as item
use Rattle.jm_jasmin.specs.declared.part.Part.{Part}
use Rattle.jm_jasmin.specs.declared.part.Part.TheVariants as part
use Rattle.jm_jasmin.specs.Items.{instruction_here, instruction_count, value_here, label_value, stack_here, stack_limit, locals_here, locals_limit}
use Rattle.jm_jasmin.specs.Labels.{handler_of, part_of}
use Rattle.jm_jasmin.specs.Body.{checked_locals, checked_count, code_of, instruction_in, handler_in, line_in, tables_of, empty_range_in, empty_range}
use Rattle.jm_jasmin.proofs.ItemLaws.{or_assoc}
use Rattle.jm_disassembler.specs.Labels.{label_name, instr_targets, handler_places, marks_of, is_marked}
use Rattle.jm_disassembler.specs.Bodies.{row_said, lines_said, lines_behind}
use Rattle.jm_disassembler.specs.Said.{is_short}
use Rattle.jm_disassembler.proofs.LabelWords.{other_label}
use Rattle.jm_disassembler.proofs.Switches.{Each, Known, labelled_of, instr_found}
use Rattle.jm_disassembler.proofs.Marks.{Up, Marked, handler_parts, instrs_up, handlers_up, code_marked}
use Rattle.jm_disassembler.proofs.Bodies.{label_items, source_items, body_items, Sayable, EachOf, behind_range}

-- ---- items one after the other

or_none : {A : Type 0} (o : Option A) → or_else o None ≡ o
or_none None = refl
or_none (Some x) = refl

pub label_append : (xs ys : List Item) (name : List ℕ) → label_value (xs ++ ys) name ≡ or_else (label_value ys name) (label_value xs name)
unfolding label_value
label_append [] ys name = sym (or_none (label_value ys name))
label_append (x ∷ xs) ys name = rw (label_append xs ys name) (or_assoc (label_value ys name) (label_value xs name) (value_here name x))

pub count_append : (xs ys : List Item) → instruction_count (xs ++ ys) ≡ instruction_count xs + instruction_count ys
unfolding instruction_count
count_append [] ys = omega arith
count_append (x ∷ xs) ys = omega (arith, count_append xs ys)

stack_append : (xs ys : List Item) → stack_limit (xs ++ ys) ≡ or_else (stack_limit ys) (stack_limit xs)
unfolding stack_limit
stack_append [] ys = sym (or_none (stack_limit ys))
stack_append (x ∷ xs) ys = rw (stack_append xs ys) (or_assoc (stack_limit ys) (stack_limit xs) (stack_here x))

locals_append : (xs ys : List Item) → locals_limit (xs ++ ys) ≡ or_else (locals_limit ys) (locals_limit xs)
unfolding locals_limit
locals_append [] ys = sym (or_none (locals_limit ys))
locals_append (x ∷ xs) ys = rw (locals_append xs ys) (or_assoc (locals_limit ys) (locals_limit xs) (locals_here x))

-- no limits
pub record NoLimit (xs : List Item) : Type 0 where
  pub stack : stack_limit xs ≡ None
  pub locals : locals_limit xs ≡ None

no_limit_then : (xs ys : List Item) → NoLimit xs → NoLimit ys → NoLimit (xs ++ ys)
no_limit_then xs ys p q = record { stack = rw (stack_append xs ys, q.stack, p.stack) refl; locals = rw (locals_append xs ys, q.locals, p.locals) refl }

no_limit_none : NoLimit []
unfolding stack_limit locals_limit
no_limit_none = record { stack = refl; locals = refl }

no_limit_more : (x : Item) (xs : List Item) → stack_here x ≡ None → locals_here x ≡ None → NoLimit xs → NoLimit (x ∷ xs)
unfolding stack_limit locals_limit
no_limit_more x xs s l p = record { stack = rw (p.stack, s) refl; locals = rw (p.locals, l) refl }

-- what becomes of each, and no range is empty
pub record Comes (v : List ℕ → Option ℕ) (n : ℕ) (xs : List Item) (ps : List Part) : Type 0 where
  pub parts : each (part_of v n) xs ≡ Ok ps
  pub ranges : empty_range v n xs ≡ None

module _ (v : List ℕ → Option ℕ) (n : ℕ) where
  comes_none : Comes v n [] []
  unfolding each empty_range
  comes_none = record { parts = refl; ranges = refl }

  comes_more : (x : Item) (p : Part) (xs : List Item) (ps : List Part) → part_of v n x ≡ Ok p → empty_range_in v n x ≡ None → Comes v n xs ps
      → Comes v n (x ∷ xs) (p ∷ ps)
  unfolding each empty_range
  comes_more x p xs ps h k c = record { parts = rw (h, c.parts) refl; ranges = rw (k, c.ranges) refl }

  comes_then : (xs ys : List Item) (ps qs : List Part) → Comes v n xs ps → Comes v n ys qs → Comes v n (xs ++ ys) (ps ++ qs)
  unfolding each empty_range
  comes_then [] ys [] qs c d = d
  comes_then [] ys (p ∷ ps) qs c d = absurd (cc (c.parts))
  comes_then (x ∷ xs) ys ps qs c d =
      let a = and_then_ok (part_of v n x) _ ps c.parts in
      let b = and_then_ok (each (part_of v n) xs) _ ps a.2 in
      let e : a.0 ∷ b.0 ≡ ps = same_Ok {F = AsmFault} (a.0 ∷ b.0) ps b.2 in
      let r = neither (empty_range_in v n x) (empty_range v n xs) c.ranges in
      subst (λ (l : List Part). Comes v n (x ∷ (xs ++ ys)) (l ++ qs)) e
      (comes_more x a.0 (xs ++ ys) (b.0 ++ qs) a.1 r.0 (comes_then xs ys b.0 qs (record { parts = b.1; ranges = r.1 }) d))
    where
      neither : (o p : Option AsmFault) → or_else o p ≡ None → (o ≡ None) × (p ≡ None)
      neither None p h = (refl, h)
      neither (Some e) p h = absurd cc

-- ---- the labels of a body

sources_label : (k : ℕ) (ls : List LineNumber) (name : List ℕ) → label_value (source_items k ls) name ≡ None
unfolding label_value
sources_label k [] name = refl
sources_label k (l ∷ ls) name = by (l.start == k) (sources_label k ls name)
  where
    by : (b : Bool) → label_value (source_items k ls) name ≡ None → label_value (if b then item.Line l ∷ source_items k ls else []) name ≡ None
    by true h = rw h refl
    by false h = refl

instruction_label : (x : Item) (xs : List Item) (name : List ℕ) → value_here name x ≡ None → label_value (x ∷ xs) name ≡ label_value xs name
unfolding label_value
instruction_label x xs name h = rw h (or_none (label_value xs name))

-- the label of an instruction, behind those of the instructions after it
body_label : (marks : List Bool) (k : ℕ) (i : Instr) (is : List Instr) (ls : List LineNumber) (name : List ℕ)
    → label_value (body_items marks k (i ∷ is) ls) name
    ≡ or_else (label_value (body_items marks (suc k) is (lines_behind k ls)) name) (label_value (label_items marks k) name)
body_label marks k i is ls name =
    let rest : List Item = body_items marks (suc k) is (lines_behind k ls) in
    let x : Item = item.Instruction (labelled_of i) in
    label_append (label_items marks k) (source_items k ls ++ (x ∷ rest)) name
    ∙ ap (λ (o : Option ℕ). or_else o (label_value (label_items marks k) name))
    (label_append (source_items k ls) (x ∷ rest) name
    ∙ ap (λ (o : Option ℕ). or_else (label_value (x ∷ rest) name) o) (sources_label k ls name)
    ∙ or_none (label_value (x ∷ rest) name) ∙ instruction_label x rest name refl)

here_by : (marks : List Bool) (k : ℕ) (name : List ℕ) (b s : Bool) → is_marked marks k ≡ b → same_text (label_name k) name ≡ s
    → label_value (label_items marks k) name ≡ (if b && s then Some k else None)
unfolding label_value
here_by marks k name true true e f = rw (e, f) refl
here_by marks k name true false e f = rw (e, f) refl
here_by marks k name false s e f = rw e refl

other_here : (marks : List Bool) (k t : ℕ) → k < 2 ^ 64 → t < 2 ^ 64 → (k == t) ≡ false → label_value (label_items marks k) (label_name t) ≡ None
other_here marks k t p q other = by (is_marked marks k) refl
  where
    by : (b : Bool) → is_marked marks k ≡ b → label_value (label_items marks k) (label_name t) ≡ None
    by true e = here_by marks k (label_name t) true false e (other_label k t p q other)
    by false e = here_by marks k (label_name t) false false e (other_label k t p q other)

own_here : (marks : List Bool) (k : ℕ) → is_marked marks k ≡ true → label_value (label_items marks k) (label_name k) ≡ Some k
own_here marks k e = here_by marks k (label_name k) true true e (text_itself (label_name k))

below_body : (marks : List Bool) (k t : ℕ) (is : List Instr) (ls : List LineNumber) → k + length is < 2 ^ 64 → t < k
    → label_value (body_items marks k is ls) (label_name t) ≡ None
below_body marks k t [] ls few lt = other_here marks k t (omega arith) (omega arith) (grind (arith, nat_tests))
below_body marks k t (i ∷ is) ls few lt =
    let other : (k == t) ≡ false = grind (arith, nat_tests) in
    body_label marks k i is ls (label_name t)
    ∙ rw (below_body marks (suc k) t is (lines_behind k ls) (omega arith) (omega arith), other_here marks k t (omega arith) (omega arith) other) refl

here_or_later : (marks : List Bool) (k t : ℕ) (i : Instr) (is : List Instr) (ls : List LineNumber) → k + length (i ∷ is) < 2 ^ 64 → k ≤ t
    → is_marked marks t ≡ true → (b : Bool) → (k == t) ≡ b
    → (suc k ≤ t → label_value (body_items marks (suc k) is (lines_behind k ls)) (label_name t) ≡ Some t)
    → label_value (body_items marks k (i ∷ is) ls) (label_name t) ≡ Some t
here_or_later marks k t i is ls few low m true e later =
    let same : t ≡ k = sym (eqb-true k t e) in
    let own : label_value (label_items marks k) (label_name k) ≡ Some k = own_here marks k (subst (λ (n : ℕ). is_marked marks n ≡ true) same m) in
    let none = below_body marks (suc k) k is (lines_behind k ls) (omega arith) (omega arith) in
    let all_of : label_value (body_items marks k (i ∷ is) ls) (label_name k) ≡ Some k =
    body_label marks k i is ls (label_name k) ∙ rw (none, own) refl in
    subst (λ (n : ℕ). label_value (body_items marks k (i ∷ is) ls) (label_name n) ≡ Some n) (sym same) all_of
here_or_later marks k t i is ls few low m false e later =
    let lt : suc k ≤ t = grind (arith, nat_tests) in
    body_label marks k i is ls (label_name t) ∙ rw (later lt) refl

pub in_body : (marks : List Bool) (k t : ℕ) (is : List Instr) (ls : List LineNumber) → k + length is < 2 ^ 64 → k ≤ t → t ≤ k + length is
    → is_marked marks t ≡ true → label_value (body_items marks k is ls) (label_name t) ≡ Some t
in_body marks k t [] ls few low high m =
    let same : k ≡ t = omega arith in
    subst (λ (n : ℕ). label_value (label_items marks k) (label_name n) ≡ Some n) same (own_here marks k (subst (λ (n : ℕ). is_marked marks n ≡ true) (sym same) m))
in_body marks k t (i ∷ is) ls few low high m =
    here_or_later marks k t i is ls few low m (k == t) refl
    (λ lt. in_body marks (suc k) t is (lines_behind k ls) (omega arith) lt (omega arith) m)

-- ---- its limits, its instructions, and what becomes of its items

label_limit : (marks : List Bool) (k : ℕ) → NoLimit (label_items marks k)
label_limit marks k = by (is_marked marks k)
  where
    by : (b : Bool) → NoLimit (if b then item.Label (label_name k) k ∷ [] else [])
    by true = no_limit_more (item.Label (label_name k) k) [] refl refl no_limit_none
    by false = no_limit_none

source_limit : (k : ℕ) (ls : List LineNumber) → NoLimit (source_items k ls)
source_limit k [] = no_limit_none
source_limit k (l ∷ ls) = by (l.start == k) (source_limit k ls)
  where
    by : (b : Bool) → NoLimit (source_items k ls) → NoLimit (if b then item.Line l ∷ source_items k ls else [])
    by true h = no_limit_more (item.Line l) (source_items k ls) refl refl h
    by false h = no_limit_none

pub body_limit : (marks : List Bool) (k : ℕ) (is : List Instr) (ls : List LineNumber) → NoLimit (body_items marks k is ls)
body_limit marks k [] ls = label_limit marks k
body_limit marks k (i ∷ is) ls =
    let rest : List Item = body_items marks (suc k) is (lines_behind k ls) in
    let x : Item = item.Instruction (labelled_of i) in
    no_limit_then (label_items marks k) (source_items k ls ++ (x ∷ rest)) (label_limit marks k)
    (no_limit_then (source_items k ls) (x ∷ rest) (source_limit k ls) (no_limit_more x rest refl refl (body_limit marks (suc k) is (lines_behind k ls))))

label_count : (marks : List Bool) (k : ℕ) → instruction_count (label_items marks k) ≡ 0
unfolding instruction_count
label_count marks k = by (is_marked marks k)
  where
    by : (b : Bool) → instruction_count (if b then item.Label (label_name k) k ∷ [] else []) ≡ 0
    by true = refl
    by false = refl

source_count : (k : ℕ) (ls : List LineNumber) → instruction_count (source_items k ls) ≡ 0
unfolding instruction_count
source_count k [] = refl
source_count k (l ∷ ls) = by (l.start == k) (source_count k ls)
  where
    by : (b : Bool) → instruction_count (source_items k ls) ≡ 0 → instruction_count (if b then item.Line l ∷ source_items k ls else []) ≡ 0
    by true h = rw h refl
    by false h = refl

one_count : (x : Item) (xs : List Item) → instruction_here x ≡ 1 → instruction_count (x ∷ xs) ≡ instruction_count xs + 1
unfolding instruction_count
one_count x xs h = rw h refl

pub body_count : (marks : List Bool) (k : ℕ) (is : List Instr) (ls : List LineNumber) → instruction_count (body_items marks k is ls) ≡ length is
body_count marks k [] ls = label_count marks k
body_count marks k (i ∷ is) ls =
    let rest : List Item = body_items marks (suc k) is (lines_behind k ls) in
    let x : Item = item.Instruction (labelled_of i) in
    omega (
      arith,
      count_append (label_items marks k) (source_items k ls ++ (x ∷ rest)),
      label_count marks k,
      count_append (source_items k ls) (x ∷ rest),
      source_count k ls,
      one_count x rest refl,
      body_count marks (suc k) is (lines_behind k ls),
    )

-- the parts of a body
abbrev pub label_parts : List Bool → ℕ → List Part
label_parts marks k = if is_marked marks k then part.Nothing ∷ [] else []

abbrev pub source_parts : ℕ → List LineNumber → List Part
source_parts k [] = []
source_parts k (l ∷ ls) = if l.start == k then part.Line l ∷ source_parts k ls else []

abbrev pub body_parts : List Bool → ℕ → List Instr → List LineNumber → List Part
body_parts marks k [] ls = label_parts marks k
body_parts marks k (i ∷ is) ls =
    label_parts marks k ++ (source_parts k ls ++ (part.Instruction i ∷ body_parts marks (suc k) is (lines_behind k ls)))

pub each_front : {A : Type 0} (P : A → Type 0) (xs ys : List A) → Each P (xs ++ ys) → Each P xs × Each P ys
each_front P [] ys h = (tt, h)
each_front P (x ∷ xs) ys h =
    let r = each_front P xs ys h.1 in
    ((h.0, r.0), r.1)

module _ (v : List ℕ → Option ℕ) (n : ℕ) (few : n < 2 ^ 64) where
  label_comes : (marks : List Bool) (k : ℕ) → Comes v n (label_items marks k) (label_parts marks k)
  unfolding part_of
  label_comes marks k = by (is_marked marks k)
    where
      by : (b : Bool) → Comes v n (if b then item.Label (label_name k) k ∷ [] else []) (if b then part.Nothing ∷ [] else [])
      by true = comes_more v n (item.Label (label_name k) k) part.Nothing [] [] refl refl (comes_none v n)
      by false = comes_none v n

  line_comes : (l : LineNumber) → l.start < n → part_of v n (item.Line l) ≡ Ok (part.Line l)
  unfolding part_of
  line_comes l lt =
      let yes : nat_lt l.start n ≡ true = grind (arith, nat_tests) in
      rw yes refl

  source_comes : (k : ℕ) (ls : List LineNumber) → k < n → Comes v n (source_items k ls) (source_parts k ls)
  source_comes k [] lt = comes_none v n
  source_comes k (l ∷ ls) lt = by (l.start == k) refl (source_comes k ls lt)
    where
      by : (b : Bool) → (l.start == k) ≡ b → Comes v n (source_items k ls) (source_parts k ls)
          → Comes v n (if b then item.Line l ∷ source_items k ls else []) (if b then part.Line l ∷ source_parts k ls else [])
      by true e h =
          let same : l.start ≡ k = eqb-true l.start k e in
          comes_more v n (item.Line l) (part.Line l) (source_items k ls) (source_parts k ls) (line_comes l (omega arith)) refl h
      by false e h = comes_none v n

  instr_comes : (i : Instr) → instr_fits n i ≡ true → Each (Known v) (instr_targets i) → part_of v n (item.Instruction (labelled_of i)) ≡ Ok (part.Instruction i)
  unfolding part_of
  instr_comes i fits h = rw (instr_found v n few i fits h) refl

  pub body_comes : (marks : List Bool) (k : ℕ) (is : List Instr) (ls : List LineNumber) → k + length is ≤ n → EachOf (Sayable n) is
      → Each (Known v) (flat_map instr_targets is) → Comes v n (body_items marks k is ls) (body_parts marks k is ls)
  body_comes marks k [] ls le all known = label_comes marks k
  body_comes marks k (i ∷ is) ls le all known =
      let behind : List LineNumber = lines_behind k ls in
      let rest : List Item = body_items marks (suc k) is behind in
      let more : List Part = body_parts marks (suc k) is behind in
      let x : Item = item.Instruction (labelled_of i) in
      let own = each_front (Known v) (instr_targets i) (flat_map instr_targets is) known in
      let tail = body_comes marks (suc k) is behind (omega arith) all.1 own.1 in
      comes_then v n (label_items marks k) (source_items k ls ++ (x ∷ rest)) (label_parts marks k) (source_parts k ls ++ (part.Instruction i ∷ more))
      (label_comes marks k)
      (comes_then v n (source_items k ls) (x ∷ rest) (source_parts k ls) (part.Instruction i ∷ more) (source_comes k ls (omega arith))
      (comes_more v n x (part.Instruction i) rest more (instr_comes i all.0.fits own.0) refl tail))

-- ---- the tables

label_tables : (marks : List Bool) (k : ℕ)
    → (flat_map instruction_in (label_parts marks k) ≡ []) × (flat_map handler_in (label_parts marks k) ≡ []) × (flat_map line_in (label_parts marks k) ≡ [])
label_tables marks k = by (is_marked marks k)
  where
    by : (b : Bool) → (flat_map instruction_in (if b then part.Nothing ∷ [] else []) ≡ []) × (flat_map handler_in (if b then part.Nothing ∷ [] else []) ≡ [])
        × (flat_map line_in (if b then part.Nothing ∷ [] else []) ≡ [])
    by true = (refl, refl, refl)
    by false = (refl, refl, refl)

source_tables : (k : ℕ) (ls : List LineNumber)
    → (flat_map instruction_in (source_parts k ls) ≡ []) × (flat_map handler_in (source_parts k ls) ≡ []) × (flat_map line_in (source_parts k ls) ++ lines_behind k ls ≡ ls)
source_tables k [] = (refl, refl, refl)
source_tables k (l ∷ ls) = by (l.start == k) (source_tables k ls)
  where
    by : (b : Bool)
        → (flat_map instruction_in (source_parts k ls) ≡ []) × (flat_map handler_in (source_parts k ls) ≡ []) × (flat_map line_in (source_parts k ls) ++ lines_behind k ls ≡ ls)
        → (flat_map instruction_in (if b then part.Line l ∷ source_parts k ls else []) ≡ [])
        × (flat_map handler_in (if b then part.Line l ∷ source_parts k ls else []) ≡ [])
        × (flat_map line_in (if b then part.Line l ∷ source_parts k ls else []) ++ (if b then lines_behind k ls else l ∷ ls) ≡ l ∷ ls)
    by true h = (h.0, h.1, ap (λ (x : List LineNumber). l ∷ x) h.2)
    by false h = (refl, refl, refl)

above : (k n : ℕ) → (n == k) ≡ false → nat_le k n ≡ true → nat_le (suc k) n ≡ true
above k n e h = grind (arith, nat_tests)

-- the lines that are left begin behind the instructions
behind_said : (k : ℕ) (ls : List LineNumber) → lines_said k ls ≡ true → lines_said (suc k) (lines_behind k ls) ≡ true
behind_said k [] h = refl
behind_said k (l ∷ ls) h =
    let p = both_true (row_said k l) (lines_said l.start ls) h in
    let q = both_true (nat_le k l.start) (is_short l.line) p.0 in
    by (l.start == k) refl q.0 q.1 p.1
    (λ e. behind_said k ls (subst (λ (n : ℕ). lines_said n ls ≡ true) e p.1))
  where
    by : (b : Bool) → (l.start == k) ≡ b → nat_le k l.start ≡ true → is_short l.line ≡ true → lines_said l.start ls ≡ true → (l.start ≡ k → lines_said (suc k) (lines_behind k ls) ≡ true)
        → lines_said (suc k) (if b then lines_behind k ls else l ∷ ls) ≡ true
    by true e le small more next = next (eqb-true l.start k e)
    by false e le small more next =
        and_from (row_said (suc k) l) (lines_said l.start ls) (and_from (nat_le (suc k) l.start) (is_short l.line) (above k l.start e le) small) more

-- each line begins at an instruction
abbrev pub Starts : ℕ → LineNumber → Type 0
Starts n l = l.start < n

no_lines_left : (n : ℕ) (ls : List LineNumber) → lines_said n ls ≡ true → EachOf (Starts n) ls → ls ≡ []
no_lines_left n [] h e = refl
no_lines_left n (l ∷ ls) h e =
    let p = both_true (row_said n l) (lines_said l.start ls) h in
    let le : nat_le n l.start ≡ true = (both_true (nat_le n l.start) (is_short l.line) p.0).0 in
    let lt : l.start < n = e.0 in
    absurd (contradicts n l.start le lt)
  where
    contradicts : (n m : ℕ) → nat_le n m ≡ true → m < n → ⊥
    contradicts n m h lt = grind (arith, nat_tests)

pub record Tables (ps : List Part) (is : List Instr) (hs : List Handler) (ls : List LineNumber) : Type 0 where
  pub instructions : flat_map instruction_in ps ≡ is
  pub handlers : flat_map handler_in ps ≡ hs
  pub lines : flat_map line_in ps ≡ ls

tables_then : (ps qs : List Part) (is js : List Instr) (hs ks : List Handler) (ls ms : List LineNumber) → Tables ps is hs ls → Tables qs js ks ms
    → Tables (ps ++ qs) (is ++ js) (hs ++ ks) (ls ++ ms)
tables_then ps qs is js hs ks ls ms a b = record {
  instructions = rw (flat_map-append instruction_in ps qs, a.instructions, b.instructions) refl;
  handlers = rw (flat_map-append handler_in ps qs, a.handlers, b.handlers) refl;
  lines = rw (flat_map-append line_in ps qs, a.lines, b.lines) refl;
}

instruction_tables : (i : Instr) (ps : List Part) (is : List Instr) (hs : List Handler) (ls : List LineNumber) → Tables ps is hs ls
    → Tables (part.Instruction i ∷ ps) (i ∷ is) hs ls
instruction_tables i ps is hs ls a = record { instructions = ap (λ (x : List Instr). i ∷ x) a.instructions; handlers = a.handlers; lines = a.lines }

label_none : (marks : List Bool) (k : ℕ) → Tables (label_parts marks k) [] [] []
label_none marks k = let t = label_tables marks k in record { instructions = t.0; handlers = t.1; lines = t.2 }

starts_behind : (n k : ℕ) (ls : List LineNumber) → EachOf (Starts n) ls → EachOf (Starts n) (lines_behind k ls)
starts_behind n k ls h = behind_range (Starts n) k ls h

pub body_tables : (n : ℕ) (marks : List Bool) (k : ℕ) (is : List Instr) (ls : List LineNumber) → k + length is ≡ n → lines_said k ls ≡ true
    → EachOf (Starts n) ls → Tables (body_parts marks k is ls) is [] ls
body_tables n marks k [] ls e said starts =
    let none : ls ≡ [] = no_lines_left n ls (subst (λ (m : ℕ). lines_said m ls ≡ true) (omega (arith, e)) said) starts in
    subst (λ (l : List LineNumber). Tables (label_parts marks k) [] [] l) (sym none) (label_none marks k)
body_tables n marks k (i ∷ is) ls e said starts =
    let behind : List LineNumber = lines_behind k ls in
    let more : List Part = body_parts marks (suc k) is behind in
    let rest = body_tables n marks (suc k) is behind (omega (arith, e)) (behind_said k ls said) (starts_behind n k ls starts) in
    let s = source_tables k ls in
    let source : Tables (source_parts k ls) [] [] (flat_map line_in (source_parts k ls)) = record { instructions = s.0; handlers = s.1; lines = refl } in
    let tail = tables_then (source_parts k ls) (part.Instruction i ∷ more) [] (i ∷ is) [] [] (flat_map line_in (source_parts k ls)) behind source
    (instruction_tables i more is [] behind rest) in
    let whole = tables_then (label_parts marks k) (source_parts k ls ++ (part.Instruction i ∷ more)) [] (i ∷ is) [] [] [] (flat_map line_in (source_parts k ls) ++ behind)
    (label_none marks k) tail in
    subst (λ (l : List LineNumber). Tables (body_parts marks k (i ∷ is) ls) (i ∷ is) [] l) s.2 whole

-- ---- the exception table

abbrev pub handler_item : Handler → Item
handler_item h =
    item.Catch (record { catch_type = h.catch_type; start = label_name h.start; end = label_name h.end; target = label_name h.target; line = 0 })

abbrev pub handler_items : List Handler → List Item
handler_items [] = []
handler_items (h ∷ hs) = handler_item h ∷ handler_items hs

abbrev pub handler_row_parts : List Handler → List Part
handler_row_parts [] = []
handler_row_parts (h ∷ hs) = part.Handler h ∷ handler_row_parts hs

handler_limit : (hs : List Handler) → NoLimit (handler_items hs)
handler_limit [] = no_limit_none
handler_limit (h ∷ hs) = no_limit_more (handler_item h) (handler_items hs) refl refl (handler_limit hs)

handler_count : (hs : List Handler) → instruction_count (handler_items hs) ≡ 0
unfolding instruction_count
handler_count [] = refl
handler_count (h ∷ hs) = rw (handler_count hs) refl

handler_tables : (hs : List Handler) → Tables (handler_row_parts hs) [] hs []
handler_tables [] = record { instructions = refl; handlers = refl; lines = refl }
handler_tables (h ∷ hs) =
    let t = handler_tables hs in
    record { instructions = t.instructions; handlers = ap (λ (x : List Handler). h ∷ x) t.handlers; lines = t.lines }

module _ (v : List ℕ → Option ℕ) (n : ℕ) where
  handler_found : (h : Handler) → handler_fits n h ≡ true → Each (Known v) (handler_places h) → part_of v n (handler_item h) ≡ Ok (part.Handler h)
  unfolding part_of handler_of
  handler_found h fits known =
      let p = handler_parts n h fits in
      let a : nat_lt h.start h.end ≡ true = p.0 in
      let b : nat_le h.end n ≡ true = p.1 in
      let start : nat_lt h.start n ≡ true = grind (arith, nat_tests) in
      rw (known.0, start, known.1.0, known.1.1.0, p.2) refl

  handler_range : (h : Handler) → handler_fits n h ≡ true → Each (Known v) (handler_places h) → empty_range_in v n (handler_item h) ≡ None
  handler_range h fits known = rw (known.0, known.1.0, (handler_parts n h fits).0) refl

  pub handlers_come : (hs : List Handler) → list_all (handler_fits n) hs ≡ true → Each (Known v) (flat_map handler_places hs)
      → Comes v n (handler_items hs) (handler_row_parts hs)
  handlers_come [] fits known = comes_none v n
  handlers_come (h ∷ hs) fits known =
      let p = both_true (handler_fits n h) (list_all (handler_fits n) hs) fits in
      let k = each_front (Known v) (handler_places h) (flat_map handler_places hs) known in
      comes_more v n (handler_item h) (part.Handler h) (handler_items hs) (handler_row_parts hs) (handler_found h p.0 k.0) (handler_range h p.0 k.0)
      (handlers_come hs p.1 k.1)

-- ---- the code

abbrev pub code_items : Code → List Item
code_items c =
    item.StackLimit c.max_stack ∷ item.LocalsLimit c.max_locals ∷ (handler_items c.handlers ++ body_items (marks_of c) 0 c.instructions c.lines)

-- what is known of a code
pub record SayableCode (slots : ℕ) (c : Code) : Type 0 where
  pub few : length c.instructions < 4294967295
  pub some : nat_lt 0 (length c.instructions) ≡ true
  pub locals : nat_le slots c.max_locals ≡ true
  pub instructions : EachOf (Sayable (length c.instructions)) c.instructions
  pub instructions_fit : list_all (instr_fits (length c.instructions)) c.instructions ≡ true
  pub handlers : list_all (handler_fits (length c.instructions)) c.handlers ≡ true
  pub lines : lines_said 0 c.lines ≡ true
  pub starts : EachOf (Starts (length c.instructions)) c.lines

items_stack : (c : Code) → stack_limit (code_items c) ≡ Some c.max_stack
unfolding stack_limit
items_stack c =
    let rest = no_limit_then (handler_items c.handlers) (body_items (marks_of c) 0 c.instructions c.lines) (handler_limit c.handlers) (body_limit (marks_of c) 0 c.instructions c.lines) in
    rw rest.stack refl

items_locals : (c : Code) → locals_limit (code_items c) ≡ Some c.max_locals
unfolding locals_limit
items_locals c =
    let rest = no_limit_then (handler_items c.handlers) (body_items (marks_of c) 0 c.instructions c.lines) (handler_limit c.handlers) (body_limit (marks_of c) 0 c.instructions c.lines) in
    rw rest.locals refl

other_count : (x : Item) (xs : List Item) → instruction_here x ≡ 0 → instruction_count (x ∷ xs) ≡ instruction_count xs
unfolding instruction_count
other_count x xs h = omega (arith, h)

items_count : (c : Code) → instruction_count (code_items c) ≡ length c.instructions
items_count c =
    let body : List Item = body_items (marks_of c) 0 c.instructions c.lines in
    let rest : List Item = handler_items c.handlers ++ body in
    omega (
      arith,
      other_count (item.StackLimit c.max_stack) (item.LocalsLimit c.max_locals ∷ rest) refl,
      other_count (item.LocalsLimit c.max_locals) rest refl,
      count_append (handler_items c.handlers) body,
      handler_count c.handlers,
      body_count (marks_of c) 0 c.instructions c.lines,
    )

items_label : (c : Code) (t : ℕ) → length c.instructions < 4294967295 → t ≤ length c.instructions → is_marked (marks_of c) t ≡ true
    → label_value (code_items c) (label_name t) ≡ Some t
items_label c t few le m =
    let body : List Item = body_items (marks_of c) 0 c.instructions c.lines in
    let rest : List Item = handler_items c.handlers ++ body in
    let found : label_value body (label_name t) ≡ Some t = in_body (marks_of c) 0 t c.instructions c.lines (omega arith) (omega arith) (omega arith) m in
    instruction_label (item.StackLimit c.max_stack) (item.LocalsLimit c.max_locals ∷ rest) (label_name t) refl
    ∙ instruction_label (item.LocalsLimit c.max_locals) rest (label_name t) refl
    ∙ label_append (handler_items c.handlers) body (label_name t) ∙ rw found refl

all_known : (c : Code) (ts : List ℕ) → length c.instructions < 4294967295 → Each (Up (length c.instructions + 1)) ts → Each (Marked (marks_of c)) ts
    → Each (Known (label_value (code_items c))) ts
all_known c [] few up m = tt
all_known c (t ∷ ts) few up m =
    let lt : t < length c.instructions + 1 = up.0 in
    (items_label c t few (omega arith) m.0, all_known c ts few up.1 m.1)

-- with the limits, which say nothing else
limits_come : (v : List ℕ → Option ℕ) (n a b : ℕ) (xs : List Item) (ps : List Part) → Comes v n xs ps
    → Comes v n (item.StackLimit a ∷ item.LocalsLimit b ∷ xs) (part.Nothing ∷ part.Nothing ∷ ps)
unfolding part_of
limits_come v n a b xs ps h =
    comes_more v n (item.StackLimit a) part.Nothing (item.LocalsLimit b ∷ xs) (part.Nothing ∷ ps) refl refl
    (comes_more v n (item.LocalsLimit b) part.Nothing xs ps refl refl h)

pub code_comes : (m : Method) (c : Code) → is_abstract m.flags ≡ false → SayableCode (method_slots m) c → code_of m 0 0 (code_items c) ≡ Ok (Some c)
unfolding code_of checked_locals checked_count tables_of
code_comes m c concrete s =
    let n : ℕ = length c.instructions in
    let xs : List Item = code_items c in
    let v : List ℕ → Option ℕ = label_value xs in
    let marks : List Bool = marks_of c in
    let a = code_marked c s.instructions_fit s.handlers in
    let targets = all_known c (flat_map instr_targets c.instructions) s.few (instrs_up n c.instructions s.instructions_fit) a.targets in
    let places = all_known c (flat_map handler_places c.handlers) s.few (handlers_up n c.handlers s.handlers) a.places in
    let body : List Item = body_items marks 0 c.instructions c.lines in
    let few : length c.instructions < 4294967295 = s.few in
    let ps : List Part = handler_row_parts c.handlers ++ body_parts marks 0 c.instructions c.lines in
    let comes = limits_come v n c.max_stack c.max_locals (handler_items c.handlers ++ body) ps
    (comes_then v n (handler_items c.handlers) body (handler_row_parts c.handlers) (body_parts marks 0 c.instructions c.lines)
    (handlers_come v n c.handlers s.handlers places)
    (body_comes v n (omega arith) marks 0 c.instructions c.lines (omega arith) s.instructions targets)) in
    let t = tables_then (handler_row_parts c.handlers) (body_parts marks 0 c.instructions c.lines) [] c.instructions c.handlers [] [] c.lines
    (handler_tables c.handlers) (body_tables n marks 0 c.instructions c.lines (omega arith) s.lines s.starts) in
    let handlers : flat_map handler_in ps ≡ c.handlers = t.handlers ∙ append-nil c.handlers in
    rw (items_locals c, concrete, s.locals, items_count c, comes.ranges, comes.parts, s.some, items_stack c, t.instructions, handlers, t.lines) refl
