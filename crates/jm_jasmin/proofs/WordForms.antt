-- Lines of words where they stand, and what is read of them.
use Rattle.std.proofs.Common.{◌≡◌, ℕ, zero, suc, ◌<◌, ◌≤◌, ◌==◌, Bool, true, false, List, [], ◌∷◌, ◌++◌, length, Option, Some, None, Result, Ok, refl}
use Rattle.std.proofs.Common.{ap, ◌∙◌, arith, subst, one-add, append_assoc, length-append}
use Rattle.std.specs.Prelude.{◌&&◌}
use Rattle.std.specs.List.{prefix_len}
use Rattle.std.proofs.lemmas.Bool.{eq-eqb}
use Rattle.std.proofs.lemmas.List.{append-nil}
use Rattle.std.proofs.Math.Seq.{take-append_seam, drop-append_seam}
use Rattle.jm_bytes.specs.Reading.{and_then}
use Rattle.jm_program.specs.Names.{same_text}
use Rattle.jm_jasmin_lex.specs.Token.{TokenParts}
use Rattle.jm_jasmin_lex.specs.Lines.{first_line, line_len}
use Rattle.jm_jasmin_ops.specs.declared.fault.AsmFault.{AsmFault}
use Rattle.jm_jasmin.specs.Lines.{Reading, is_word_kind, begins, line_number, by_line, required, optional, taken_on, one_more}
use Rattle.jm_jasmin.specs.Text.{end_of_text}
use Rattle.jm_jasmin.specs.WordForms.{Word, Line}
use Rattle.jm_jasmin.specs.Each.{EachOf}
use Rattle.jm_jasmin.specs.Each.EachOf.{none, more}
use Rattle.jm_jasmin.proofs.Steps.{more_next, stops}

-- ---- where the words stand

abbrev pub token_in : ℕ → ℕ → Word → TokenParts
token_in number start w = record { kind = w.kind; text = w.text; start = start; line = number }

-- the tokens that say some words in the line of that number, each from its start
abbrev pub standing : ℕ → (ℕ → ℕ) → Line → List TokenParts
standing number at [] = []
standing number at (w ∷ ws) = token_in number (at 0) w ∷ standing number (λ k. at (suc k)) ws

-- what follows stands in another line
abbrev pub Apart : ℕ → List TokenParts → Type 0
Apart number [] = Unit {0}
Apart number (t ∷ ts) = (t.line == number) ≡ false

-- the tokens of some lines, and the end of the text behind them
pub data Says : List Line → List TokenParts → Type 0 where
  nothing : Says [] (end_of_text ∷ [])
  line : (number : ℕ) (at : ℕ → ℕ) (w : Word) (ws : Line) {lines : List Line} {rest : List TokenParts} → Apart number rest → Says lines rest
      → Says ((w ∷ ws) ∷ lines) (token_in number (at 0) w ∷ (standing number (λ k. at (suc k)) ws ++ rest))

-- the value that is read of the tokens at the front, before those of the other lines
abbrev pub Goes : {A : Type 0} → Result (A × List TokenParts) AsmFault → A → List Line → List TokenParts → Type 0
Goes r x lines us = (rest : List TokenParts) × (r ≡ Ok (x, rest)) × Says lines rest × (length rest < length us)

-- ---- one line

in_line : (number : ℕ) (at : ℕ → ℕ) (ws : Line) (rest : List TokenParts) → Apart number rest
    → prefix_len (λ (u : TokenParts). u.line == number) (standing number at ws ++ rest) ≡ length (standing number at ws)
in_line number at [] [] apart = refl
in_line number at [] (t ∷ ts) apart = rw apart refl
in_line number at (w ∷ ws) rest apart = rw (eq-eqb number number refl, in_line number (λ k. at (suc k)) ws rest apart, one-add) refl

len_says : (number : ℕ) (at : ℕ → ℕ) (w : Word) (ws : Line) (rest : List TokenParts) → Apart number rest
    → line_len (token_in number (at 0) w ∷ (standing number (λ k. at (suc k)) ws ++ rest)) ≡ suc (length (standing number (λ k. at (suc k)) ws))
unfolding line_len
len_says number at w ws rest apart = rw (in_line number (λ k. at (suc k)) ws rest apart, one-add) refl

pub first_says : (number : ℕ) (at : ℕ → ℕ) (w : Word) (ws : Line) (rest : List TokenParts) → Apart number rest
    → first_line (token_in number (at 0) w ∷ (standing number (λ k. at (suc k)) ws ++ rest)) ≡ (standing number at (w ∷ ws), rest)
unfolding first_line
first_says number at w ws rest apart =
    let s : List TokenParts = standing number (λ k. at (suc k)) ws in
    rw (len_says number at w ws rest apart) (rw (take-append_seam s rest, drop-append_seam s rest) refl)

pub by_front : {A : Type 0} (f : List TokenParts → Result A AsmFault) (x : A) (us front rest : List TokenParts) → first_line us ≡ (front, rest)
    → f front ≡ Ok x → by_line f us ≡ Ok (x, rest)
unfolding by_line
by_front f x us front rest e h = rw (e, h) refl

pub line_read : {A : Type 0} (f : List TokenParts → Result A AsmFault) (x : A) (l : Line) (lines : List Line) (us : List TokenParts) → Says (l ∷ lines) us
    → ((number : ℕ) (at : ℕ → ℕ) → f (standing number at l) ≡ Ok x) → Goes (by_line f us) x lines us
line_read f x l lines us (line number at w ws {rest = rest} apart says) reads =
    let s : List TokenParts = standing number (λ k. at (suc k)) ws in (
      rest,
      by_front f x (token_in number (at 0) w ∷ (s ++ rest)) (standing number at (w ∷ ws)) rest (first_says number at w ws rest apart)
          (reads number at),
      says,
      omega (arith, length-append s rest),
    )

-- ---- the word that a line begins with

abbrev pub opens : List ℕ → List Line → Bool
opens word [] = false
opens word ([] ∷ lines) = false
opens word ((w ∷ ws) ∷ lines) = is_word_kind w.kind && same_text w.text word

pub begins_says : (word : List ℕ) (lines : List Line) (us : List TokenParts) → Says lines us → begins word us ≡ opens word lines
unfolding begins
begins_says word lines us nothing = refl
begins_says word lines us (line number at w ws apart says) = refl

pub required_read : {A : Type 0} (directive : List ℕ) (f : List TokenParts
    → Result A AsmFault) (x : A) (l : Line) (lines : List Line) (us : List TokenParts) → Says (l ∷ lines) us → opens directive (l ∷ lines) ≡ true
    → ((number : ℕ) (at : ℕ → ℕ) → f (standing number at l) ≡ Ok x) → Goes (required directive f us) x lines us
unfolding required
required_read directive f x l lines us says on reads =
    let g = line_read f x l lines us says reads in
    (g.0, rw (begins_says directive (l ∷ lines) us says ∙ on) g.1, g.2, g.3)

pub optional_read : {A : Type 0} (directive : List ℕ) (f : List TokenParts
    → Result A AsmFault) (x : A) (l : Line) (lines : List Line) (us : List TokenParts) → Says (l ∷ lines) us → opens directive (l ∷ lines) ≡ true
    → ((number : ℕ) (at : ℕ → ℕ) → f (standing number at l) ≡ Ok x) → Goes (optional directive f us) (Some x) lines us
unfolding optional
optional_read {A} directive f x l lines us says on reads =
    let some : List TokenParts → Result (Option A) AsmFault = λ front. and_then (f front) (λ y. Ok (Some y)) in
    let g = line_read some (Some x) l lines us says (λ number at. rw (reads number at) refl) in
    (g.0, rw (begins_says directive (l ∷ lines) us says ∙ on) g.1, g.2, g.3)

pub optional_absent : {A : Type 0} (directive : List ℕ) (f : List TokenParts → Result A AsmFault) (lines : List Line) (us : List TokenParts) → Says lines us
    → opens directive lines ≡ false → optional directive f us ≡ Ok (None, us)
unfolding optional
optional_absent directive f lines us says off = rw (begins_says directive lines us says ∙ off) refl

pub goes_on_with : {S : Type 0} (goes_on : List TokenParts → Bool) (f : S → Reading S) (s t : S) (n : ℕ) (us rest : List TokenParts) → goes_on us ≡ true
    → f s us ≡ Ok (t, rest)
    → taken_on goes_on f (suc n) s us ≡ taken_on goes_on f n t rest
unfolding taken_on
goes_on_with goes_on f s t n us rest on h = rw (on, h) refl

module _ {A : Type 0} (P : List Line → A → Type 0) (directive : List ℕ) (read : Reading A)
    (opening : (ls behind : List Line) (x : A) → P ls x → opens directive (ls ++ behind) ≡ true)
    (reading : (ls behind : List Line) (x : A) (us : List TokenParts) → P ls x → Says (ls ++ behind) us → Goes (read us) x behind us) where
  pub each_read : (lines : List Line) (found : List A) → EachOf P lines found → (behind : List Line) → opens directive behind ≡ false
      → (n : ℕ) (us : List TokenParts) (xs : List A) → length us ≤ n → Says (lines ++ behind) us
      → (rest : List TokenParts) × (taken_on (begins directive) (one_more read) n xs us ≡ Ok (xs ++ found, rest)) × Says behind rest
  each_read lines found none behind off n us xs le says =
      (us, rw append-nil (stops (begins directive) (one_more read) xs n us (begins_says directive behind us says ∙ off)), says)
  each_read lines found (more ls x {rest = others} {xs = ys} p q) behind off zero us xs le says =
      let g = reading ls (others ++ behind) x us p (subst (λ (l : List Line). Says l us) (append_assoc ls others behind) says) in
      absurd (omega (arith, g.3))
  each_read lines found (more ls x {rest = others} {xs = ys} p q) behind off (suc n) us xs le says =
      let here = subst (λ (l : List Line). Says l us) (append_assoc ls others behind) says in
      let g = reading ls (others ++ behind) x us p here in
      let i = each_read others ys q behind off n g.0 (xs ++ x ∷ []) (omega (arith, g.3)) g.2 in
      let on : begins directive us ≡ true = begins_says directive (ls ++ (others ++ behind)) us here ∙ opening ls (others ++ behind) x p in (
        i.0,
        goes_on_with (begins directive) (one_more read) xs (xs ++ x ∷ []) n us g.0 on (more_next read xs us x g.0 g.1) ∙ i.1 ∙ ap
            (λ (l : List A). Ok (l, i.0)) (append_assoc xs (x ∷ []) ys),
        i.2,
      )

-- nothing behind the last line
pub ended : (us : List TokenParts) → Says [] us → line_number us ≡ 0
unfolding line_number
ended us nothing = refl
