-- The words of a line after its mnemonic, in order (Jasmin User Guide, "Tokens"). The first that is wrong is the fault; a missing one
-- and one too many are 41.
use Rattle.std.specs.Prelude.{ℕ, if◌then◌else◌, List, [], ◌∷◌, Result, Ok, Err}
use Rattle.jm_bytes.specs.Reading.{and_then}
use Rattle.jm_jasmin_lex.specs.Token.{TokenParts}
use Rattle.jm_jasmin_lex.specs.declared.token.TokenKind.{TokenKind}
use Rattle.jm_jasmin_lex.specs.declared.token.TokenKind.TheVariants as kind
use Rattle.jm_jasmin_ops.specs.Label.{LabelParts}
use Rattle.jm_jasmin_ops.specs.Profile.{has_colon, is_offset}
use Rattle.jm_jasmin_ops.specs.declared.fault.AsmLeftOut.TheVariants as what
use Rattle.jm_jasmin_ops.specs.declared.fault.AsmFault.{AsmFault}
use Rattle.jm_jasmin_ops.specs.declared.fault.AsmFault.TheVariants as fault

abbrev pub word_if : TokenKind → ℕ → List ℕ → Result (List ℕ) AsmFault
word_if kind.Word line text = Ok text
word_if kind.Text line text = Err (fault.Syntax line)

-- the text of a word; a string is none
unfoldable pub word : TokenParts → Result (List ℕ) AsmFault
word t = word_if t.kind t.line t.text

-- the name of a label holds no colon, which is 41; a number in its place is an offset, which is left out
abbrev pub label_named : ℕ → List ℕ → Result LabelParts AsmFault
label_named line name =
    if is_offset name then Err (fault.LeftOut what.Offset line)
    else if has_colon name then Err (fault.Syntax line)
    else Ok (record { name = name; line = line })

-- the use of a label, as the target of a branch or a switch
unfoldable pub label : TokenParts → Result LabelParts AsmFault
label t = and_then (word t) (label_named t.line)

-- the next token of a line, and those after it
abbrev pub first : ℕ → List TokenParts → Result (TokenParts × List TokenParts) AsmFault
first line [] = Err (fault.Syntax line)
first line (t ∷ ts) = Ok (t, ts)

-- nothing more
abbrev pub ended : {A : Type 0} → List TokenParts → A → Result A AsmFault
ended [] x = Ok x
ended (t ∷ ts) x = Err (fault.Syntax t.line)

-- one operand
abbrev pub one : {A : Type 0} → ℕ → (TokenParts → Result A AsmFault) → List TokenParts → Result A AsmFault
one line read words = and_then (first line words) (λ p. and_then (read p.0) (ended p.1))

-- two operands, of which the second is read by what the first is
abbrev pub two : {A B : Type 0} → ℕ → (TokenParts → Result A AsmFault) → (A → TokenParts → Result B AsmFault) → List TokenParts → Result B AsmFault
two line read next words = and_then (first line words) (λ p. and_then (read p.0) (λ x. one line (next x) p.1))
