-- The grammar of an assembler text, in the signs of its bytes (Jasmin User Guide, "Tokens", "Comments", "Numbers and Strings").
use Rattle.std.specs.Prelude.{◌≡◌, ℕ, ◌+◌, List, [], ◌∷◌, ◌++◌, length, Bool, true, false, ◌||◌, ◌==◌}
use Rattle.std.specs.Char.{is_ascii_hexdigit}
use Rattle.jm_jasmin_lex.specs.Token.{TokenParts}
use Rattle.jm_jasmin_lex.specs.Tokens.{token_at}
use Rattle.jm_jasmin_lex.specs.declared.token.TokenKind.{TokenKind}
use Rattle.jm_jasmin_lex.specs.declared.token.TokenKind.TheVariants as kind
use Rattle.jm_jasmin_lex.specs.declared.lexer_state.Sign.{Sign}
use Rattle.jm_jasmin_lex.specs.declared.lexer_state.Sign.TheVariants.{Blank, LineEnd, Other}

-- the rest of a word: neither blanks nor line ends
pub data InWord : List Sign → Type 0 where
  word_end : InWord []
  word_byte : (b : ℕ) {signs : List Sign} → InWord signs → InWord (Other b ∷ signs)

-- the rest of a string behind its opening ", up to its closing one, in one line: a \ stands only before n, t, ", \ or u and four digits
pub data InText : List Sign → Type 0 where
  closing : InText (Other 34 ∷ [])
  text_blank : {signs : List Sign} → InText signs → InText (Blank ∷ signs)
  text_byte : (b : ℕ) {signs : List Sign} → (b == 34) ≡ false → (b == 92) ≡ false → InText signs → InText (Other b ∷ signs)
  escape : (b : ℕ) {signs : List Sign} → (b == 110 || b == 116 || b == 34 || b == 92) ≡ true → InText signs → InText (Other 92 ∷ Other b ∷ signs)
  unit : (a b c d : ℕ) {signs : List Sign} → is_ascii_hexdigit a ≡ true → is_ascii_hexdigit b ≡ true → is_ascii_hexdigit c ≡ true → is_ascii_hexdigit d ≡ true → InText signs → InText (Other 92 ∷ Other 117 ∷ Other a ∷ Other b ∷ Other c ∷ Other d ∷ signs)

-- a word begins with neither ; nor ", a string with "
pub data IsToken : TokenKind → List Sign → Type 0 where
  word : (b : ℕ) {signs : List Sign} → (b == 59) ≡ false → (b == 34) ≡ false → InWord signs → IsToken kind.Word (Other b ∷ signs)
  string : {signs : List Sign} → InText signs → IsToken kind.Text (Other 34 ∷ signs)

-- a blank or a line end stands there
pub data Parted : List Sign → Type 0 where
  by_blank : {signs : List Sign} → Parted (Blank ∷ signs)
  by_line_end : {signs : List Sign} → Parted (LineEnd ∷ signs)

-- The tokens of a text from an offset in a line on, in a comment or not: blanks, line ends, comments, and tokens that a blank or
-- a line end follows, each with the text at its span and with its line.
pub data Lie (text : List ℕ) : Bool → ℕ → ℕ → List Sign → List TokenParts → Type 0 where
  nothing : {comment : Bool} {at line : ℕ} → Lie text comment at line [] []
  blank : {comment : Bool} {at line : ℕ} {signs : List Sign} {ts : List TokenParts} → Lie text comment (at + 1) line signs ts → Lie text comment at line (Blank ∷ signs) ts
  line_end : {comment : Bool} {at line : ℕ} {signs : List Sign} {ts : List TokenParts} → Lie text false (at + 1) (line + 1) signs ts → Lie text comment at line (LineEnd ∷ signs) ts
  semicolon : {at line : ℕ} {signs : List Sign} {ts : List TokenParts} → Lie text true (at + 1) line signs ts → Lie text false at line (Other 59 ∷ signs) ts
  in_comment : (b : ℕ) {at line : ℕ} {signs : List Sign} {ts : List TokenParts} → Lie text true (at + 1) line signs ts → Lie text true at line (Other b ∷ signs) ts
  token : (kind : TokenKind) (inside rest : List Sign) {at line : ℕ} {ts : List TokenParts} → IsToken kind inside → Parted rest → Lie text false (at + length inside) line rest ts
      → Lie text false at line (inside ++ rest) (token_at text kind at (at + length inside) line ∷ ts)
