-- The lines of a method (Jasmin User Guide, "Method Definitions", "Labels", .limit, .line, .var, .throws, .catch).
use Rattle.std.specs.Prelude.{◌≡◌, ℕ, ◌==◌, Bool, true, false, not, List, [], ◌∷◌, ◌++◌, Option, Some, None, Ok, codes}
use Rattle.std.specs.List.{list_all}
use Rattle.jm_class_format.specs.Members.{own_receiver}
use Rattle.jm_class_format.specs.Symbols.{class_name_of, method_name_of, method_type_of}
use Rattle.jm_program.specs.Names.{same_text}
use Rattle.jm_program.specs.Texts.{utf16_of}
use Rattle.jm_program.specs.declared.class.Method.{Method}
use Rattle.jm_program.specs.declared.code.Code.{Code}
use Rattle.jm_program.specs.declared.descriptor.MethodDescriptor.{MethodDescriptor}
use Rattle.jm_jasmin_ops.specs.declared.labelled.LabelledInstr.{LabelledInstr}
use Rattle.jm_jasmin.specs.MethodHeader.{is_misplaced_abstract, left_out_method}
use Rattle.jm_jasmin.specs.Items.{instruction_count, ends_with_colon, without_last, accepted}
use Rattle.jm_jasmin.specs.Body.{code_of}
use Rattle.jm_jasmin.specs.Methods.{with_code}
use Rattle.jm_jasmin.specs.declared.item.CatchRow.{CatchRow}
use Rattle.jm_jasmin.specs.declared.item.Item.{Item}
use Rattle.jm_jasmin.specs.declared.item.Item.TheVariants as item
use Rattle.jm_jasmin.specs.WordForms.{bare, Line}
use Rattle.jm_jasmin.specs.HeaderForms.{Flags}
use Rattle.jm_jasmin.specs.InstructionForms.{IsUpTo, InstructionLine, SwitchLines}

abbrev pub without_code : ℕ → List ℕ → MethodDescriptor → Method
without_code bits name d = record { flags = record { bits = bits }; name = name; descriptor = d; code = None }

abbrev pub no_parenthesis : ℕ → Bool
no_parenthesis u = not (u == 40)

-- .method [flags] NAME(TYPES)TYPE, the name up to the first (
pub data MethodLine (in_interface : Bool) : Line → Method → Type 0 where
  method : (flags : Line) (text name types : List ℕ) (bits : ℕ) (d : MethodDescriptor)
      → Flags 0 flags bits → utf16_of text ≡ name ++ 40 ∷ types → list_all no_parenthesis name ≡ true → method_name_of name ≡ Ok name
      → method_type_of (own_receiver (record { bits = bits })) (40 ∷ types) ≡ Ok d
      → is_misplaced_abstract (without_code bits name d) ≡ false → left_out_method in_interface (without_code bits name d) ≡ None
      → MethodLine in_interface (bare (codes ".method") ∷ (flags ++ bare text ∷ [])) (without_code bits name d)

abbrev pub catch_row : Option (List ℕ) → List ℕ → List ℕ → List ℕ → CatchRow
catch_row caught start end target = record { catch_type = caught; start = utf16_of start; end = utf16_of end; target = utf16_of target; line = 0 }

-- .catch CLASS from L1 to L2 using L3, or all for the class
abbrev pub catch_words : List ℕ → List ℕ → List ℕ → List ℕ → Line
catch_words class start end target =
    bare (codes ".catch") ∷ bare class ∷ bare (codes "from") ∷ bare start ∷ bare (codes "to") ∷ bare end ∷ bare (codes "using") ∷ bare target ∷ []

-- a line behind so many instructions, and what it says
pub data BodyLine (before : ℕ) : Line → Item → Type 0 where
  stack : (text : List ℕ) (n : ℕ) → IsUpTo 65535 text n → BodyLine before (bare (codes ".limit") ∷ bare (codes "stack") ∷ bare text ∷ []) (item.StackLimit n)
  locals : (text : List ℕ) (n : ℕ) → IsUpTo 65535 text n → BodyLine before (bare (codes ".limit") ∷ bare (codes "locals") ∷ bare text ∷ []) (item.LocalsLimit n)
  source_line : (text : List ℕ) (n : ℕ) → IsUpTo 65535 text n
      → BodyLine before (bare (codes ".line") ∷ bare text ∷ []) (item.Line (record { start = before; line = n }))
  catch : (text start end target name : List ℕ) → same_text text (codes "all") ≡ false → class_name_of (utf16_of text) ≡ Ok name
      → BodyLine before (catch_words text start end target) (item.Catch (catch_row (Some name) start end target))
  catch_all : (start end target : List ℕ) → BodyLine before (catch_words (codes "all") start end target) (item.Catch (catch_row None start end target))
  throws : (text : List ℕ) → BodyLine before (bare (codes ".throws") ∷ bare text ∷ []) item.Dropped
  var : (words : Line) → BodyLine before (bare (codes ".var") ∷ words) item.Dropped
  -- NAME:
  label : (text : List ℕ) → ends_with_colon text ≡ true → BodyLine before (bare text ∷ []) (item.Label (without_last (utf16_of text)) before)
  instruction : (l : Line) (i : LabelledInstr) → InstructionLine l i → BodyLine before l (item.Instruction i)

-- lines behind others, whose items are accepted: no limit twice, no label twice, no instruction in an abstract method
pub data BodyLines (m : Method) : List Item → List Line → List Item → Type 0 where
  ends : (items : List Item) → BodyLines m items [] items
  and_line : (items : List Item) (l : Line) (i : Item) {lines : List Line} {all : List Item}
      → BodyLine (instruction_count items) l i → accepted m 0 items i ≡ Ok tt → BodyLines m (items ++ i ∷ []) lines all → BodyLines m items (l ∷ lines) all
  and_switch : (items : List Item) (own : List Line) (i : LabelledInstr) {lines : List Line} {all : List Item}
      → SwitchLines own i → accepted m 0 items (item.Instruction i) ≡ Ok tt → BodyLines m (items ++ item.Instruction i ∷ []) lines all
      → BodyLines m items (own ++ lines) all

-- .method, the lines of its body in any order, and .end method; the items come to the code
pub data MethodLines (in_interface : Bool) : List Line → Method → Type 0 where
  method : (head : Line) (body : List Line) (m : Method) (items : List Item) (code : Option Code) → MethodLine in_interface head m
      → BodyLines m [] body items → code_of m 0 0 items ≡ Ok code
      → MethodLines in_interface (head ∷ (body ++ (bare (codes ".end") ∷ bare (codes "method") ∷ []) ∷ [])) (with_code m code)
