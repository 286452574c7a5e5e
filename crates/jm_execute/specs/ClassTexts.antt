-- The text of a class, and what is told of the first part of it that its text cannot say.
use Rattle.std.specs.Prelude.{◌≡◌, ℕ, List, [], ◌++◌, Option, Some, None, Ok, Bool, codes}
use Rattle.std.specs.String.{string_bytes}
use Rattle.jm_program.specs.declared.class.ClassParts.{ClassParts}
use Rattle.jm_jasmin.specs.Text.{denoted}
use Rattle.jm_disassembler.specs.Texts.{class_text}
use Rattle.jm_disassembler.specs.Unsaid.{first_unsaid}
use Rattle.jm_disassembler.specs.PartTexts.{unsaid_text}
use Rattle.jm_disassembler.specs.declared.unsaid.Unsaid.{Unsaid}
use Rattle.jm_execute.specs.FileNames.{file_name_text}
use Rattle.jm_execute.specs.declared.disassembly.ClassText.{ClassText}
use Rattle.jm_explain.specs.declared.status.Status.{Status}
use Rattle.jm_explain.specs.declared.status.Status.TheVariants as ends

-- where each part of a class can be said, its text denotes that very class (Jasmin User Guide)
abbrev pub Denotes : Bool → ClassParts → Type 0
Denotes commented class = first_unsaid class ≡ None → denoted (class_text commented class) ≡ Ok class

-- the text of a class, with comments or without them, and the first part that its text cannot say
pub record IsTextOf (commented : Bool) (class : ClassParts) (t : ClassText) : Type 0 where
  pub text : string_bytes t.text ≡ class_text commented class
  pub unsaid : t.unsaid ≡ first_unsaid class
  pub denotes : Denotes commented class

abbrev pub unsaid_status : Option Unsaid → Status
unsaid_status None = ends.Done
unsaid_status (Some part) = ends.Refused

-- of the class in the file of this name
abbrev pub unsaid_line : List ℕ → Option Unsaid → List ℕ
unsaid_line name None = []
unsaid_line name (Some part) = codes "jm: " ++ (file_name_text name ++ (codes ": 90 NoText(" ++ (unsaid_text part ++ codes ")\n")))
