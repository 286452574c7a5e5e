-- Readings of an assembler text by its lines (Jasmin User Guide, "Jasmin Syntax"): what the line or the lines at the front of the tokens
-- say, and the tokens behind them, or the fault that ends the reading.
use Rattle.std.specs.Prelude.{◌≡◌, ℕ, zero, suc, Bool, true, false, ◌&&◌, if◌then◌else◌, List, [], ◌∷◌, ◌++◌, Option, Some, None, Result, Ok, Err, slice_get}
use Rattle.jm_bytes.specs.Reading.{and_then}
use Rattle.jm_program.specs.Names.{same_text}
use Rattle.jm_jasmin_lex.specs.Token.{TokenParts}
use Rattle.jm_jasmin_lex.specs.Lines.{first_line}
use Rattle.jm_jasmin_lex.specs.declared.token.TokenKind.{TokenKind}
use Rattle.jm_jasmin_lex.specs.declared.token.TokenKind.TheVariants as kind
use Rattle.jm_jasmin_ops.specs.Profile.{unknown_word}
use Rattle.jm_jasmin_ops.specs.declared.fault.AsmFault.{AsmFault}
use Rattle.jm_jasmin_ops.specs.declared.fault.AsmFault.TheVariants as fault

-- the next step, where the one before did not fail
infixl 10 ◌>>=◌
abbrev pub ◌>>=◌ : {F A B : Type 0} → Result A F → (A → Result B F) → Result B F
r >>= f = and_then r f

abbrev pub Tokens : Type 0
Tokens = List TokenParts

-- what the tokens at the front say, and the tokens behind them
abbrev pub Reading : Type 0 → Type 0
Reading A = List TokenParts → Result (A × List TokenParts) AsmFault

-- ---- words

abbrev pub is_word_kind : TokenKind → Bool
is_word_kind kind.Word = true
is_word_kind kind.Text = false

-- the token is the word
abbrev pub is_word : List ℕ → TokenParts → Bool
is_word word t = is_word_kind t.kind && same_text t.text word

abbrev pub is_word_at : List ℕ → Option TokenParts → Bool
is_word_at word None = false
is_word_at word (Some t) = is_word word t

-- the first token is the word
unfoldable pub begins : List ℕ → List TokenParts → Bool
begins word ts = is_word_at word (slice_get ts 0)

abbrev pub line_at : Option TokenParts → ℕ
line_at None = 0
line_at (Some t) = t.line

-- the line of the first token
unfoldable pub line_number : List TokenParts → ℕ
line_number ts = line_at (slice_get ts 0)

-- ---- lines

-- what a line that begins with a directive says
unfoldable pub by_line : {A : Type 0} → (List TokenParts → Result A AsmFault) → Reading A
by_line f ts = f (first_line ts).0 >>= λ x. Ok (x, (first_line ts).1)

-- the fault of a line that its place does not have: 46 where it begins with a directive that is left out, or else 41
abbrev pub misplaced_by : TokenKind → TokenParts → AsmFault
misplaced_by kind.Word t = unknown_word t.line t.text
misplaced_by kind.Text t = fault.Syntax t.line

abbrev pub misplaced_at : Option TokenParts → AsmFault
misplaced_at None = fault.Syntax 0
misplaced_at (Some t) = misplaced_by t.kind t

unfoldable pub misplaced : List TokenParts → AsmFault
misplaced ts = misplaced_at (slice_get ts 0)

-- of a directive that is due
unfoldable pub required : {A : Type 0} → List ℕ → (List TokenParts → Result A AsmFault) → Reading A
required directive f ts = if begins directive ts then by_line f ts else Err (misplaced ts)

-- of a directive that can be left out
unfoldable pub optional : {A : Type 0} → List ℕ → (List TokenParts → Result A AsmFault) → Reading (Option A)
optional directive f ts = if begins directive ts then by_line (λ line. f line >>= λ x. Ok (Some x)) ts else Ok (None, ts)

-- One line or more after the other, each taking on the state that the ones before left, as long as the test holds of the tokens that are
-- left: for at most so many, of which there are never more than tokens.
unfoldable pub taken_on : {S : Type 0} → (List TokenParts → Bool) → (S → Reading S) → ℕ → S → Reading S
taken_on goes_on f zero s ts = Ok (s, ts)
taken_on goes_on f (suc n) s ts = if goes_on ts then f s ts >>= (λ x. taken_on goes_on f n x.0 x.1) else Ok (s, ts)

-- one more behind the others
unfoldable pub one_more : {A : Type 0} → Reading A → List A → Reading (List A)
one_more read xs ts = read ts >>= λ x. Ok (xs ++ x.0 ∷ [], x.1)

-- ---- what a call gave

-- What a call gave, seen by view, and the tokens it left are the reading's, and so is its fault, but for want of memory.
abbrev pub Reads : {X Y : Type 0} → (X → Y) → Result X AsmFault → List TokenParts → Result (Y × List TokenParts) AsmFault → Type 0
Reads view (Ok x) rest read = read ≡ Ok (view x, rest)
Reads view (Err e) rest read = ¬ (e ≡ fault.OutOfMemory) → read ≡ Err e
