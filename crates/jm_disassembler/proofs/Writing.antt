-- Texts that are written one behind another.
use Rattle.std.proofs.Common.{◌≡◌, ℕ, ◌+◌, ◌-◌, ◌<◌, ◌≤◌, ◌==◌, take, Bool, true, false, List, [], ◌∷◌, ◌++◌, length, get_or, drop, Result, Ok, Err, refl, sym, ap, ◌∙◌, append_assoc, add-one, drop-cons, arith}
use Rattle.std.specs.Prelude.{OnOk, if◌then◌else◌, suc}
use Rattle.std.proofs.lemmas.List.{append-nil, nil_from_length, length-drop, take_all}
use Rattle.std.specs.Prelude.{Option, Some, None}
use Rattle.jm_program.specs.declared.class.Field.{Field}
use Rattle.jm_program.specs.declared.class.Method.{Method}
use Rattle.jm_disassembler.specs.declared.unsaid.FieldPart.{FieldPart}
use Rattle.jm_disassembler.specs.declared.unsaid.MethodPart.{MethodPart}
use Rattle.jm_disassembler.specs.declared.unsaid.Unsaid.{Unsaid}
use Rattle.jm_disassembler.specs.declared.unsaid.Unsaid.TheVariants as unsaid
use Rattle.jm_disassembler.specs.Unsaid.{field_part, numbered_field, fields_part, method_part, numbered_method, methods_part}
use Rattle.jm_program.specs.declared.code.LineNumber.{LineNumber}
use Rattle.jm_program.specs.declared.instruction.symbolic.Instr.{Instr}
use Rattle.jm_disassembler.specs.Bodies.{source_text, source_lines, lines_behind, label_text, instr_lines, body_text}

pub then_written : {A E : Type 0} (r : Result A E) (old mid new a b : List ℕ) → mid ≡ old ++ a → OnOk r (new ≡ mid ++ b) → OnOk r (new ≡ old ++ (a ++ b))
then_written (Ok x) old mid new a b e h = h ∙ ap (λ (t : List ℕ). t ++ b) e ∙ append_assoc old a b
then_written (Err x) old mid new a b e h = tt

pub on_ok : {A E : Type 0} (r : Result A E) (x y z : List ℕ) → OnOk r (x ≡ y) → y ≡ z → OnOk r (x ≡ z)
on_ok (Ok a) x y z h e = h ∙ e
on_ok (Err a) x y z h e = tt

pub rest_of : {A : Type 0} (xs : List A) (at : ℕ) → take (length xs - at) (drop at xs) ≡ drop at xs
rest_of xs at = take_all (length xs - at) (drop at xs) (omega (arith, length-drop at xs))

-- ---- rows of the line number table

row_at : (ls : List LineNumber) (i : ℕ) (x d : LineNumber) → i < length ls → x ≡ get_or ls i d → drop i ls ≡ x ∷ drop (i + 1) ls
row_at ls i x d lt at = drop-cons ls i d lt ∙ rw (add-one, at) refl

cons_lines : (number : ℕ) (x : LineNumber) (ls : List LineNumber) (b : Bool) → (x.start == number) ≡ b
    → (source_lines number (x ∷ ls) ≡ (if b then source_text x ++ source_lines number ls else []))
    × (lines_behind number (x ∷ ls) ≡ (if b then lines_behind number ls else x ∷ ls))
cons_lines number x ls true e = (rw e refl, rw e refl)
cons_lines number x ls false e = (rw e refl, rw e refl)

pub source_next : (number : ℕ) (ls : List LineNumber) (i : ℕ) (x d : LineNumber) (out new total : List ℕ) → i < length ls → x ≡ get_or ls i d
    → (x.start == number) ≡ true → new ≡ out ++ source_text x → out ++ source_lines number (drop i ls) ≡ total → new ++ source_lines number (drop (i + 1) ls) ≡ total
source_next number ls i x d out new total lt at e w h =
    let rest : List LineNumber = drop (i + 1) ls in
    ap (λ (t : List ℕ). t ++ source_lines number rest) w ∙ append_assoc out (source_text x) (source_lines number rest)
    ∙ ap (λ (t : List ℕ). out ++ t) (sym (ap (source_lines number) (row_at ls i x d lt at) ∙ (cons_lines number x rest true e).0)) ∙ h

pub behind_next : (number : ℕ) (ls : List LineNumber) (i : ℕ) (x d : LineNumber) (total : List LineNumber) → i < length ls → x ≡ get_or ls i d
    → (x.start == number) ≡ true → lines_behind number (drop i ls) ≡ total → lines_behind number (drop (i + 1) ls) ≡ total
behind_next number ls i x d total lt at e h =
    sym (ap (lines_behind number) (row_at ls i x d lt at) ∙ (cons_lines number x (drop (i + 1) ls) true e).1) ∙ h

pub source_stop : (number : ℕ) (ls : List LineNumber) (i : ℕ) (x d : LineNumber) (out total : List ℕ) → i < length ls → x ≡ get_or ls i d
    → (x.start == number) ≡ false → out ++ source_lines number (drop i ls) ≡ total → out ≡ total
source_stop number ls i x d out total lt at e h =
    let none : source_lines number (drop i ls) ≡ [] = ap (source_lines number) (row_at ls i x d lt at) ∙ (cons_lines number x (drop (i + 1) ls) false e).0 in
    sym (ap (λ (t : List ℕ). out ++ t) none ∙ append-nil out) ∙ h

pub behind_stop : (number : ℕ) (ls : List LineNumber) (i : ℕ) (x d : LineNumber) (total : List LineNumber) → i < length ls → x ≡ get_or ls i d
    → (x.start == number) ≡ false → lines_behind number (drop i ls) ≡ total → drop i ls ≡ total
behind_stop number ls i x d total lt at e h =
    let rest : List LineNumber = drop (i + 1) ls in
    row_at ls i x d lt at ∙ sym (ap (lines_behind number) (row_at ls i x d lt at) ∙ (cons_lines number x rest false e).1) ∙ h

none_left : (ls : List LineNumber) (i : ℕ) → length ls ≤ i → drop i ls ≡ []
none_left ls i le = nil_from_length (drop i ls) (omega (arith, length-drop i ls))

pub source_end : (number : ℕ) (ls : List LineNumber) (i : ℕ) (out total : List ℕ) → length ls ≤ i → out ++ source_lines number (drop i ls) ≡ total → out ≡ total
source_end number ls i out total le h = sym (ap (λ (l : List LineNumber). out ++ source_lines number l) (none_left ls i le) ∙ append-nil out) ∙ h

pub behind_end : (number : ℕ) (ls : List LineNumber) (i : ℕ) (total : List LineNumber) → length ls ≤ i → lines_behind number (drop i ls) ≡ total → drop i ls ≡ total
behind_end number ls i total le h = none_left ls i le ∙ sym (ap (lines_behind number) (none_left ls i le)) ∙ h

-- ---- instructions

pub body_next : (commented : Bool) (marks : List Bool) (is : List Instr) (ls behind : List LineNumber) (k : ℕ) (i d : Instr) (out one two new total : List ℕ)
    → k < length is → i ≡ get_or is k d → one ≡ out ++ label_text marks k → two ≡ one ++ source_lines k ls → behind ≡ lines_behind k ls
    → new ≡ two ++ instr_lines commented k i → out ++ body_text commented marks k (drop k is) ls ≡ total
    → new ++ body_text commented marks (k + 1) (drop (k + 1) is) behind ≡ total
unfolding body_text
body_next commented marks is ls behind k i d out one two new total lt at a b c e h =
    let rest : List Instr = drop (k + 1) is in
    let here : drop k is ≡ i ∷ rest = drop-cons is k d lt ∙ rw (add-one, at) refl in
    let l : List ℕ = label_text marks k in
    let s : List ℕ = source_lines k ls in
    let t : List ℕ = instr_lines commented k i in
    let u : List ℕ = body_text commented marks (suc k) rest (lines_behind k ls) in
    let last : body_text commented marks (k + 1) rest behind ≡ u = ap (λ (n : ℕ). body_text commented marks n rest behind) (omega arith) ∙ ap (body_text commented marks (suc k) rest) c in
    let all_of : new ≡ ((out ++ l) ++ s) ++ t = e ∙ ap (λ (x : List ℕ). x ++ t) (b ∙ ap (λ (x : List ℕ). x ++ s) a) in
    let front : new ++ u ≡ out ++ (l ++ (s ++ (t ++ u))) =
    ap (λ (x : List ℕ). x ++ u) all_of ∙ append_assoc ((out ++ l) ++ s) t u ∙ append_assoc (out ++ l) s (t ++ u) ∙ append_assoc out l (s ++ (t ++ u)) in
    ap (λ (x : List ℕ). new ++ x) last ∙ front ∙ sym (ap (λ (x : List Instr). out ++ body_text commented marks k x ls) here) ∙ h

pub body_end : (commented : Bool) (marks : List Bool) (is : List Instr) (ls : List LineNumber) (k : ℕ) (out total : List ℕ) → k ≡ length is
    → out ++ body_text commented marks k (drop k is) ls ≡ total → out ++ label_text marks (length is) ≡ total
unfolding body_text
body_end commented marks is ls k out total e h =
    let none : drop k is ≡ [] = nil_from_length (drop k is) (omega (arith, length-drop k is)) in
    ap (λ (n : ℕ). out ++ label_text marks n) (sym e) ∙ sym (ap (λ (l : List Instr). out ++ body_text commented marks k l ls) none) ∙ h

-- ---- members one after the other

pub fields_next : (fs : List Field) (k : ℕ) (x d : Field) (total : Option Unsaid) → k < length fs → x ≡ get_or fs k d → field_part x ≡ None
    → fields_part k (drop k fs) ≡ total → fields_part (k + 1) (drop (k + 1) fs) ≡ total
unfolding fields_part
fields_next fs k x d total lt at e h =
    let rest : List Field = drop (k + 1) fs in
    let here : drop k fs ≡ x ∷ rest = drop-cons fs k d lt ∙ rw (add-one, at) refl in
    ap (λ (n : ℕ). fields_part n rest) (omega arith) ∙ sym (ap (fields_part k) here ∙ ap (λ (o : Option FieldPart). numbered_field k o (fields_part (suc k) rest)) e) ∙ h

pub fields_found : (fs : List Field) (k : ℕ) (x d : Field) (p : FieldPart) (total : Option Unsaid) → k < length fs → x ≡ get_or fs k d → field_part x ≡ Some p
    → fields_part k (drop k fs) ≡ total → Some (unsaid.Field k p) ≡ total
unfolding fields_part
fields_found fs k x d p total lt at e h =
    let rest : List Field = drop (k + 1) fs in
    let here : drop k fs ≡ x ∷ rest = drop-cons fs k d lt ∙ rw (add-one, at) refl in
    sym (ap (fields_part k) here ∙ ap (λ (o : Option FieldPart). numbered_field k o (fields_part (suc k) rest)) e) ∙ h

pub fields_end : (fs : List Field) (k : ℕ) (total : Option Unsaid) → length fs ≤ k → fields_part k (drop k fs) ≡ total → None ≡ total
unfolding fields_part
fields_end fs k total le h =
    let none : drop k fs ≡ [] = nil_from_length (drop k fs) (omega (arith, length-drop k fs)) in
    sym (ap (fields_part k) none) ∙ h

pub methods_next : (ms : List Method) (k : ℕ) (x d : Method) (total : Option Unsaid) → k < length ms → x ≡ get_or ms k d → method_part x ≡ None
    → methods_part k (drop k ms) ≡ total → methods_part (k + 1) (drop (k + 1) ms) ≡ total
unfolding methods_part
methods_next ms k x d total lt at e h =
    let rest : List Method = drop (k + 1) ms in
    let here : drop k ms ≡ x ∷ rest = drop-cons ms k d lt ∙ rw (add-one, at) refl in
    ap (λ (n : ℕ). methods_part n rest) (omega arith) ∙ sym (ap (methods_part k) here ∙ ap (λ (o : Option MethodPart). numbered_method k o (methods_part (suc k) rest)) e) ∙ h

pub methods_found : (ms : List Method) (k : ℕ) (x d : Method) (p : MethodPart) (total : Option Unsaid) → k < length ms → x ≡ get_or ms k d
    → method_part x ≡ Some p → methods_part k (drop k ms) ≡ total → Some (unsaid.Method k p) ≡ total
unfolding methods_part
methods_found ms k x d p total lt at e h =
    let rest : List Method = drop (k + 1) ms in
    let here : drop k ms ≡ x ∷ rest = drop-cons ms k d lt ∙ rw (add-one, at) refl in
    sym (ap (methods_part k) here ∙ ap (λ (o : Option MethodPart). numbered_method k o (methods_part (suc k) rest)) e) ∙ h

pub methods_end : (ms : List Method) (k : ℕ) (total : Option Unsaid) → length ms ≤ k → methods_part k (drop k ms) ≡ total → None ≡ total
unfolding methods_part
methods_end ms k total le h =
    let none : drop k ms ≡ [] = nil_from_length (drop k ms) (omega (arith, length-drop k ms)) in
    sym (ap (methods_part k) none) ∙ h
