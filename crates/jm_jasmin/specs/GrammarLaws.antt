-- What the forms of lines have to do with what a text denotes.
use Rattle.std.specs.Prelude.{◌≡◌, ℕ, List, Ok}
use Rattle.jm_program.specs.declared.class.ClassParts.{ClassParts}
use Rattle.jm_jasmin_lex.specs.Token.{TokenParts}
use Rattle.jm_jasmin_lex.specs.Tokens.{tokens_of}
use Rattle.jm_jasmin.specs.Text.{denoted}
use Rattle.jm_jasmin.specs.WordForms.{lines_said}
use Rattle.jm_jasmin.specs.ClassForms.{ClassLines}

-- a text whose lines are those of a class denotes the class
abbrev pub LinesDenoteTheirClass : Type 0
LinesDenoteTheirClass = (text : List ℕ) (ts : List TokenParts) (c : ClassParts) → tokens_of text ≡ Ok ts → ClassLines (lines_said ts) c → denoted text ≡ Ok c

-- and so does another text of the same lines
abbrev pub SpacingChangesNothing : Type 0
SpacingChangesNothing =
    (text other : List ℕ) (ts us : List TokenParts) (c : ClassParts) → tokens_of text ≡ Ok ts → tokens_of other ≡ Ok us → lines_said ts ≡ lines_said us
    → ClassLines (lines_said ts) c → denoted other ≡ Ok c

-- the lines of a text are those of one class at most
abbrev pub LinesOfOneClass : Type 0
LinesOfOneClass =
    (text : List ℕ) (ts : List TokenParts) (c d : ClassParts) → tokens_of text ≡ Ok ts → ClassLines (lines_said ts) c → ClassLines (lines_said ts) d → c ≡ d
