-- Each place that something uses is marked.
use Rattle.std.proofs.Common.{◌≡◌, ℕ, zero, suc, ◌+◌, ◌<◌, Bool, true, false, ◌&&◌, List, [], ◌∷◌, ◌++◌, length, refl, replicate, nat_lt, nat_le}
use Rattle.std.proofs.Common.{◌∙◌, arith}
use Rattle.std.specs.Prelude.{set}
use Rattle.std.specs.List.{list_all, flat_map}
use Rattle.std.proofs.lemmas.List.{length-set, get_or-set_same}
use Rattle.std.specs.Prelude.{None}
use Rattle.std.proofs.lemmas.Bool.Decides.{nat_tests}
use Rattle.jm_program.specs.Codes.{catch_type_fits, handler_fits}
use Rattle.jm_program.specs.Instructions.{has_high, keys_rise, instr_fits}
use Rattle.jm_program.specs.declared.instruction.plain.SwitchPair.{SwitchPair}
use Rattle.jm_program.specs.declared.instruction.plain.Plain.{Plain}
use Rattle.jm_program.specs.declared.instruction.plain.Plain.TheVariants as plain
use Rattle.jm_program.specs.declared.instruction.symbolic.Instr.TheVariants as instr
use Rattle.jm_program.specs.declared.code.Code.{Code}
use Rattle.jm_program.specs.declared.code.Handler.{Handler}
use Rattle.jm_program.specs.declared.instruction.symbolic.Instr.{Instr}
use Rattle.jm_program.proofs.Truths.{both_true}
use Rattle.jm_program.proofs.Sequences.{many_falses}
use Rattle.jm_disassembler.specs.Labels.{pair_targets, plain_targets, instr_targets, handler_places, marked, marks_of, is_marked}
use Rattle.jm_disassembler.proofs.Switches.{Each}

more_marks : (marks : List Bool) (p n : ℕ) → is_marked marks n ≡ true → is_marked (set marks p true) n ≡ true
more_marks [] p n h = h
more_marks (m ∷ ms) zero zero h = refl
more_marks (m ∷ ms) zero (suc n) h = h
more_marks (m ∷ ms) (suc p) zero h = h
more_marks (m ∷ ms) (suc p) (suc n) h = more_marks ms p n h

kept : (marks : List Bool) (ps : List ℕ) (n : ℕ) → is_marked marks n ≡ true → is_marked (marked marks ps) n ≡ true
kept marks [] n h = h
kept marks (p ∷ ps) n h = kept (set marks p true) ps n (more_marks marks p n h)

-- a place that some number of marks has
abbrev pub Up : ℕ → ℕ → Type 0
Up size p = p < size

abbrev pub Marked : List Bool → ℕ → Type 0
Marked marks p = is_marked marks p ≡ true

size_kept : (marks : List Bool) (ps : List ℕ) → length (marked marks ps) ≡ length marks
size_kept marks [] = refl
size_kept marks (p ∷ ps) = size_kept (set marks p true) ps ∙ length-set marks p true

each_kept : (marks : List Bool) (qs ps : List ℕ) → Each (Marked marks) ps → Each (Marked (marked marks qs)) ps
each_kept marks qs [] h = tt
each_kept marks qs (p ∷ ps) h = (kept marks qs p h.0, each_kept marks qs ps h.1)

all_marked : (size : ℕ) (marks : List Bool) (ps : List ℕ) → length marks ≡ size → Each (Up size) ps → Each (Marked (marked marks ps)) ps
all_marked size marks [] e h = tt
all_marked size marks (p ∷ ps) e h =
    let lt : p < size = h.0 in
    let here : is_marked (set marks p true) p ≡ true = get_or-set_same marks p true false (omega arith) in
    (kept (set marks p true) ps p here, all_marked size (set marks p true) ps (length-set marks p true ∙ e) h.1)

pub each_append : {A : Type 0} (P : A → Type 0) (xs ys : List A) → Each P xs → Each P ys → Each P (xs ++ ys)
each_append P [] ys h k = k
each_append P (x ∷ xs) ys h k = (h.0, each_append P xs ys h.1 k)

-- ---- the places of a code

next : (count t : ℕ) → nat_lt t count ≡ true → t < count + 1
next count t h = grind (arith, nat_tests)

targets_up : (count : ℕ) (ts : List ℕ) → list_all (λ (t : ℕ). nat_lt t count) ts ≡ true → Each (Up (count + 1)) ts
targets_up count [] h = tt
targets_up count (t ∷ ts) h =
    let p = both_true (nat_lt t count) (list_all (λ (t : ℕ). nat_lt t count) ts) h in
    (next count t p.0, targets_up count ts p.1)

pairs_up : (count : ℕ) (ps : List SwitchPair) → list_all (λ (p : SwitchPair). nat_lt p.target count) ps ≡ true → Each (Up (count + 1)) (pair_targets ps)
pairs_up count [] h = tt
pairs_up count (p ∷ ps) h =
    let a = both_true (nat_lt p.target count) (list_all (λ (p : SwitchPair). nat_lt p.target count) ps) h in
    (next count p.target a.0, pairs_up count ps a.1)

plain_up : (count : ℕ) (p : Plain) → instr_fits count (instr.Plain p) ≡ true → Each (Up (count + 1)) (plain_targets p)
plain_up count (plain.Simple op) h = tt
plain_up count (plain.PushByte n) h = tt
plain_up count (plain.PushShort n) h = tt
plain_up count (plain.Load t n) h = tt
plain_up count (plain.Store t n) h = tt
plain_up count (plain.Increment n by) h = tt
plain_up count (plain.Branch op t) h = (next count t h, tt)
plain_up count (plain.TableSwitch t) h =
    let a = both_true (has_high t && list_all (λ (t : ℕ). nat_lt t count) t.targets) (nat_lt t.default count) h in
    let b = both_true (has_high t) (list_all (λ (t : ℕ). nat_lt t count) t.targets) a.0 in
    (next count t.default a.1, targets_up count t.targets b.1)
plain_up count (plain.LookupSwitch l) h =
    let a = both_true (keys_rise None l.pairs && list_all (λ (p : SwitchPair). nat_lt p.target count) l.pairs) (nat_lt l.default count) h in
    let b = both_true (keys_rise None l.pairs) (list_all (λ (p : SwitchPair). nat_lt p.target count) l.pairs) a.0 in
    (next count l.default a.1, pairs_up count l.pairs b.1)

instr_up : (count : ℕ) (i : Instr) → instr_fits count i ≡ true → Each (Up (count + 1)) (instr_targets i)
instr_up count (instr.Plain p) h = plain_up count p h
instr_up count (instr.Array op) h = tt
instr_up count (instr.Return op) h = tt
instr_up count instr.Throw h = tt
instr_up count (instr.Monitor op) h = tt
instr_up count (instr.Constant c) h = tt
instr_up count (instr.Field op f) h = tt
instr_up count (instr.Invoke op m) h = tt
instr_up count (instr.New name) h = tt
instr_up count (instr.Type op c) h = tt

pub instrs_up : (count : ℕ) (is : List Instr) → list_all (instr_fits count) is ≡ true → Each (Up (count + 1)) (flat_map instr_targets is)
instrs_up count [] h = tt
instrs_up count (i ∷ is) h =
    let p = both_true (instr_fits count i) (list_all (instr_fits count) is) h in
    each_append (Up (count + 1)) (instr_targets i) (flat_map instr_targets is) (instr_up count i p.0) (instrs_up count is p.1)

-- the parts of a rule for a row of the exception table
pub handler_parts : (count : ℕ) (h : Handler) → handler_fits count h ≡ true
    → (nat_lt h.start h.end ≡ true) × (nat_le h.end count ≡ true) × (nat_lt h.target count ≡ true) × (catch_type_fits h.catch_type ≡ true)
handler_parts count h fits =
    let a = both_true (nat_lt h.start h.end && nat_le h.end count && nat_lt h.target count) (catch_type_fits h.catch_type) fits in
    let b = both_true (nat_lt h.start h.end && nat_le h.end count) (nat_lt h.target count) a.0 in
    let c = both_true (nat_lt h.start h.end) (nat_le h.end count) b.0 in
    (c.0, c.1, b.1, a.1)

handler_up : (count : ℕ) (h : Handler) → handler_fits count h ≡ true → Each (Up (count + 1)) (handler_places h)
handler_up count h fits =
    let p = handler_parts count h fits in
    let a : nat_lt h.start h.end ≡ true = p.0 in
    let b : nat_le h.end count ≡ true = p.1 in
    let start : h.start < count + 1 = grind (arith, nat_tests) in
    let end : h.end < count + 1 = grind (arith, nat_tests) in
    (start, (end, (next count h.target p.2, tt)))

pub handlers_up : (count : ℕ) (hs : List Handler) → list_all (handler_fits count) hs ≡ true → Each (Up (count + 1)) (flat_map handler_places hs)
handlers_up count [] fits = tt
handlers_up count (h ∷ hs) fits =
    let p = both_true (handler_fits count h) (list_all (handler_fits count) hs) fits in
    each_append (Up (count + 1)) (handler_places h) (flat_map handler_places hs) (handler_up count h p.0) (handlers_up count hs p.1)

pub record AllMarked (c : Code) : Type 0 where
  pub targets : Each (Marked (marks_of c)) (flat_map instr_targets c.instructions)
  pub places : Each (Marked (marks_of c)) (flat_map handler_places c.handlers)
  pub size : length (marks_of c) ≡ length c.instructions + 1

pub code_marked : (c : Code) → list_all (instr_fits (length c.instructions)) c.instructions ≡ true
    → list_all (handler_fits (length c.instructions)) c.handlers ≡ true → AllMarked c
code_marked c is hs =
    let n : ℕ = length c.instructions + 1 in
    let fresh : List Bool = replicate n false in
    let ts : List ℕ = flat_map instr_targets c.instructions in
    let ps : List ℕ = flat_map handler_places c.handlers in
    let first : List Bool = marked fresh ts in
    let size : length first ≡ n = size_kept fresh ts ∙ many_falses n in
    record {
      targets = each_kept first ps ts (all_marked n fresh ts (many_falses n) (instrs_up (length c.instructions) c.instructions is));
      places = all_marked n first ps size (handlers_up (length c.instructions) c.handlers hs);
      size = size_kept first ps ∙ size;
    }
