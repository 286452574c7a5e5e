-- What holds of each line of fine tokens holds of what is read from them, and the tokens behind it are fine.
use Rattle.std.proofs.Common.{◌≡◌, ℕ, zero, suc, Bool, true, false, List, [], ◌∷◌, ◌++◌, Option, Some, None, Result, Ok, Err, refl, subst, take, drop}
use Rattle.std.specs.Prelude.{if◌then◌else◌, slice_get}
use Rattle.std.specs.List.{list_all}
use Rattle.jm_bytes.specs.Reading.{and_then}
use Rattle.jm_bytes.specs.Laws.{and_then_ok, same_Ok}
use Rattle.jm_program.specs.Texts.{utf16_of}
use Rattle.jm_jasmin_lex.specs.Token.{TokenParts}
use Rattle.jm_jasmin_lex.specs.Lines.{line_len, first_line}
use Rattle.jm_jasmin_ops.specs.declared.fault.AsmFault.{AsmFault}
use Rattle.jm_jasmin_ops.specs.declared.fault.AsmFault.TheVariants as fault
use Rattle.jm_jasmin.specs.Lines.{Reading, is_word_kind, begins, misplaced, by_line, required, optional, taken_on, one_more}
use Rattle.jm_jasmin.specs.Words.{word_text, operand}
use Rattle.jm_jasmin.specs.Words as words
use Rattle.jm_jasmin.specs.Symbols.{units_at}
use Rattle.jm_jasmin.proofs.Readings.{either_way, all_more}
use Rattle.jm_disassembler.proofs.TextTokens.{IsWordText, IsFine, AllFine}

-- ---- parts of fine tokens

pub fine_take : (n : ℕ) (ts : List TokenParts) → AllFine ts → AllFine (take n ts)
fine_take zero ts h = tt
fine_take (suc n) [] h = tt
fine_take (suc n) (t ∷ ts) h = (h.0, fine_take n ts h.1)

pub fine_drop : (n : ℕ) (ts : List TokenParts) → AllFine ts → AllFine (drop n ts)
fine_drop zero ts h = h
fine_drop (suc n) [] h = tt
fine_drop (suc n) (t ∷ ts) h = fine_drop n ts h.1

pub fine_more : (ts : List TokenParts) (t : TokenParts) → AllFine ts → IsFine t → AllFine (ts ++ t ∷ [])
fine_more [] t h one = (one, tt)
fine_more (u ∷ ts) t h one = (h.0, fine_more ts t h.1 one)

pub fine_line : (ts : List TokenParts) → AllFine ts → AllFine (first_line ts).0
unfolding first_line
fine_line ts h = fine_take (line_len ts) ts h

pub fine_rest : (ts : List TokenParts) → AllFine ts → AllFine (first_line ts).1
unfolding first_line
fine_rest ts h = fine_drop (line_len ts) ts h

-- ---- words of a line

kind_by : (b : Bool) (t : TokenParts) (text : List ℕ) → is_word_kind t.kind ≡ b → IsFine t → (if b then Ok t.text else Err (fault.Syntax t.line)) ≡ Ok text → (is_word_kind t.kind ≡ true) × (t.text ≡ text) × IsWordText text
kind_by true t text is fine h = let same : t.text ≡ text = same_Ok {F = AsmFault} t.text text h in (is, same, subst IsWordText same (fine is))
kind_by false t text is fine h = absurd cc

-- the token of a word that was read
pub record WordAt (line : List TokenParts) (index : ℕ) (text : List ℕ) : Type 0 where
  pub token : TokenParts
  pub there : slice_get line index ≡ Some token
  pub kind : is_word_kind token.kind ≡ true
  pub text_is : token.text ≡ text
  pub word : IsWordText text

word_by : (line : List TokenParts) (index number : ℕ) (o : Option TokenParts) (text : List ℕ) → AllFine line → slice_get line index ≡ o → words.word_of number o ≡ Ok text → WordAt line index text
word_by line index number None text fine is h = absurd cc
word_by line index number (Some t) text fine is h =
    let p = kind_by (is_word_kind t.kind) t text refl (fine_at line index t fine is) h in
    record { token = t; there = is; kind = p.0; text_is = p.1; word = p.2 }
  where
    fine_at : (ts : List TokenParts) (i : ℕ) (t : TokenParts) → AllFine ts → slice_get ts i ≡ Some t → IsFine t
    fine_at [] i t h is = absurd cc
    fine_at (u ∷ ts) zero t h is = let same : u ≡ t = cc in subst IsFine same h.0
    fine_at (u ∷ ts) (suc i) t h is = fine_at ts i t h.1 is

pub operand_word : (line : List TokenParts) (index : ℕ) (text : List ℕ) → AllFine line → operand line index ≡ Ok text → WordAt line index text
unfolding operand
operand_word line index text fine h = word_by line index _ (slice_get line index) text fine refl h

-- the units of a word that was read
pub record UnitsAt (line : List TokenParts) (index : ℕ) (us : List ℕ) : Type 0 where
  pub text : List ℕ
  pub at : WordAt line index text
  pub units_are : utf16_of text ≡ us

pub units_word : (line : List TokenParts) (index : ℕ) (us : List ℕ) → AllFine line → units_at line index ≡ Ok us → UnitsAt line index us
unfolding units_at
units_word line index us fine h =
    let make : List ℕ → Result (List ℕ) AsmFault = λ text. Ok (utf16_of text) in
    let a = and_then_ok (operand line index) make us h in
    record { text = a.0; at = operand_word line index a.0 fine a.1; units_are = same_Ok {F = AsmFault} (utf16_of a.0) us a.2 }

-- ---- lines

-- of what is read from fine tokens, with fine tokens behind it
abbrev pub Gives : {A : Type 0} → (A → Type 0) → Reading A → Type 0
Gives {A} P read = (ts : List TokenParts) (p : A × List TokenParts) → AllFine ts → read ts ≡ Ok p → P p.0 × AllFine p.1

abbrev pub OfLine : {A : Type 0} → (A → Type 0) → (List TokenParts → Result A AsmFault) → Type 0
OfLine {A} P f = (line : List TokenParts) (x : A) → AllFine line → f line ≡ Ok x → P x

pub by_line_gives : {A : Type 0} (P : A → Type 0) (f : List TokenParts → Result A AsmFault) → OfLine P f → Gives P (by_line f)
unfolding by_line
by_line_gives {A} P f of ts p fine h =
    let make : A → Result (A × List TokenParts) AsmFault = λ x. Ok (x, (first_line ts).1) in
    let a = and_then_ok (f (first_line ts).0) make p h in
    subst (λ (q : A × List TokenParts). P q.0 × AllFine q.1) (same_Ok {F = AsmFault} (a.0, (first_line ts).1) p a.2)
    (of (first_line ts).0 a.0 (fine_line ts fine) a.1, fine_rest ts fine)

refused : {A : Type 0} (Q : Type 0) (e : AsmFault) (p : A) → Err e ≡ Ok p → Q
refused Q e p h = absurd cc

pub required_gives : {A : Type 0} (P : A → Type 0) (directive : List ℕ) (f : List TokenParts → Result A AsmFault) → OfLine P f → Gives P (required directive f)
unfolding required
required_gives P directive f of ts p fine h =
    let Q : Type 0 = P p.0 × AllFine p.1 in
    either_way Q (begins directive ts) (by_line f ts) (Err (misplaced ts)) p h (by_line_gives P f of ts p fine) (refused Q (misplaced ts) p)

pub optional_gives : {A : Type 0} (P : Option A → Type 0) (directive : List ℕ) (f : List TokenParts → Result A AsmFault) → P None → OfLine (λ x. P (Some x)) f → Gives P (optional directive f)
unfolding optional
optional_gives {A} P directive f none of ts p fine h =
    let some : A → Result (Option A) AsmFault = λ x. Ok (Some x) in
    let line : List TokenParts → Result (Option A) AsmFault = λ l. and_then (f l) some in
    let each : OfLine P line = λ l o lf k. let a = and_then_ok (f l) some o k in subst P (same_Ok {F = AsmFault} (Some a.0) o a.2) (of l a.0 lf a.1) in
    let absent : Option A × List TokenParts = (None, ts) in
    either_way (P p.0 × AllFine p.1) (begins directive ts) (by_line line ts) (Ok absent) p h (by_line_gives P line each ts p fine)
    (λ k. subst (λ (q : Option A × List TokenParts). P q.0 × AllFine q.1) (same_Ok {F = AsmFault} absent p k) (none, fine))

-- ---- lines that are taken on

pub taken_gives : {S : Type 0} (P : S → Type 0) (goes_on : List TokenParts → Bool) (f : S → Reading S) → ((s : S) → P s → Gives P (f s)) → (n : ℕ) (s : S) → P s → Gives P (taken_on goes_on f n s)
unfolding taken_on
taken_gives {S} P goes_on f step zero s h ts p fine e = subst (λ (q : S × List TokenParts). P q.0 × AllFine q.1) (same_Ok {F = AsmFault} (s, ts) p e) (h, fine)
taken_gives {S} P goes_on f step (suc n) s h ts p fine e =
    let here : S × List TokenParts = (s, ts) in
    either_way (P p.0 × AllFine p.1) (goes_on ts) (and_then (f s ts) (λ x. taken_on goes_on f n x.0 x.1)) (Ok here) p e
    (λ k. let a = and_then_ok (f s ts) (λ x. taken_on goes_on f n x.0 x.1) p k in
    let one = step s h ts a.0 fine a.1 in
    taken_gives P goes_on f step n a.0.0 one.0 a.0.1 p one.1 a.2)
    (λ k. subst (λ (q : S × List TokenParts). P q.0 × AllFine q.1) (same_Ok {F = AsmFault} here p k) (h, fine))

more_gives : {A : Type 0} (ok : A → Bool) (read : Reading A) → Gives (λ x. ok x ≡ true) read → (xs : List A) → list_all ok xs ≡ true → Gives (λ ys. list_all ok ys ≡ true) (one_more read xs)
unfolding one_more
more_gives {A} ok read one xs all ts p fine h =
    let make : A × List TokenParts → Result (List A × List TokenParts) AsmFault = λ x. Ok (xs ++ x.0 ∷ [], x.1) in
    let a = and_then_ok (read ts) make p h in
    let here = one ts a.0 fine a.1 in
    subst (λ (q : List A × List TokenParts). (list_all ok q.0 ≡ true) × AllFine q.1) (same_Ok {F = AsmFault} (xs ++ a.0.0 ∷ [], a.0.1) p a.2) (all_more ok xs a.0.0 all here.0, here.1)

pub list_gives : {A : Type 0} (ok : A → Bool) (goes_on : List TokenParts → Bool) (read : Reading A) → Gives (λ x. ok x ≡ true) read → (n : ℕ) → Gives (λ xs. list_all ok xs ≡ true) (taken_on goes_on (one_more read) n [])
list_gives ok goes_on read one n = taken_gives (λ xs. list_all ok xs ≡ true) goes_on (one_more read) (more_gives ok read one) n [] refl
