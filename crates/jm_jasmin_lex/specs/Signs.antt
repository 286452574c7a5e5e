-- What each byte of a text is, and where it leads (Jasmin User Guide, "Tokens", "Comments").
use Rattle.std.specs.Prelude.{ℕ, ◌-◌, List, [], ◌∷◌, Bool, false, ◌&&◌, ◌||◌, ◌==◌, nat_le, if◌then◌else◌}
use Rattle.std.specs.Char.{is_ascii_hexdigit}
use Rattle.jm_jasmin_lex.specs.declared.token.TokenKind.TheVariants as kind
use Rattle.jm_jasmin_lex.specs.declared.lexer_state.Sign.{Sign}
use Rattle.jm_jasmin_lex.specs.declared.lexer_state.Sign.TheVariants.{Blank, LineEnd, Other}
use Rattle.jm_jasmin_lex.specs.declared.lexer_state.LexerState.{LexerState}
use Rattle.jm_jasmin_lex.specs.declared.lexer_state.LexerState.TheVariants.{Between, Comment, Word, Text, Escape, Digits, Closed}
use Rattle.jm_jasmin_lex.specs.declared.lexer_state.Step.{Step}
use Rattle.jm_jasmin_lex.specs.declared.lexer_state.Step.TheVariants.{To, Ends, Bad}

-- ---- the signs of a text

abbrev pub begins_with_line_feed : List ℕ → Bool
begins_with_line_feed [] = false
begins_with_line_feed (b ∷ bytes) = b == 10

-- a byte, before these bytes: a carriage return right before a line feed belongs to the line's end
unfoldable pub sign_of : ℕ → List ℕ → Sign
sign_of b bytes =
    if b == 10 then LineEnd
    else if b == 32 || b == 9 || (b == 13 && begins_with_line_feed bytes) then Blank
    else Other b

-- the signs of a text, whose end ends its last line
unfoldable pub signs : List ℕ → List Sign
signs [] = LineEnd ∷ []
signs (b ∷ bytes) = sign_of b bytes ∷ signs bytes

-- ---- where they lead, at an offset

-- a word, a string " or a comment ; begins
unfoldable pub opened : ℕ → ℕ → LexerState
opened at b =
    if b == 59 then Comment
    else if b == 34 then Text at
    else Word at

-- the string goes on, its " closes it, or its \ begins an escape
unfoldable pub in_text : ℕ → ℕ → LexerState
in_text start b =
    if b == 34 then Closed start
    else if b == 92 then Escape start
    else Text start

-- the escapes \n \t \" \\ and \u with four hexadecimal digits
unfoldable pub in_escape : ℕ → ℕ → Step
in_escape start b =
    if b == 110 || b == 116 || b == 34 || b == 92 then To (Text start)
    else if b == 117 then To (Digits start 4)
    else Bad

unfoldable pub in_digits : ℕ → ℕ → ℕ → Step
in_digits start left b =
    if is_ascii_hexdigit b then To (if nat_le left 1 then Text start else Digits start (left - 1))
    else Bad

-- what a sign leads to, by where it stands
unfoldable pub step : ℕ → LexerState → Sign → Step
step at Between (Other b) = To (opened at b)
step at Between Blank = To Between
step at Between LineEnd = To Between
step at Comment (Other b) = To Comment
step at Comment Blank = To Comment
step at Comment LineEnd = To Between
step at (Word start) (Other b) = To (Word start)
step at (Word start) Blank = Ends kind.Word start
step at (Word start) LineEnd = Ends kind.Word start
step at (Text start) (Other b) = To (in_text start b)
step at (Text start) Blank = To (Text start)
step at (Text start) LineEnd = Bad
step at (Escape start) (Other b) = in_escape start b
step at (Escape start) Blank = Bad
step at (Escape start) LineEnd = Bad
step at (Digits start left) (Other b) = in_digits start left b
step at (Digits start left) Blank = Bad
step at (Digits start left) LineEnd = Bad
step at (Closed start) (Other b) = Bad
step at (Closed start) Blank = Ends kind.Text start
step at (Closed start) LineEnd = Ends kind.Text start
