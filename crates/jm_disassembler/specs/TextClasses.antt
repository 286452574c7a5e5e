-- What each class that a text denotes has, so that no text can say a class without it (Jasmin User Guide).
use Rattle.std.specs.Prelude.{◌≡◌, ℕ, Bool, true, false, not, ◌&&◌, ◌||◌, ◌==◌, List, [], ◌∷◌, Option, Some, None, is_some, Ok, if◌then◌else◌, codes}
use Rattle.std.specs.List.{list_all}
use Rattle.std.specs.Str.{IsUtf8}
use Rattle.jm_program.specs.Names.{same_text}
use Rattle.jm_program.specs.Surrogates.{is_high, is_low}
use Rattle.jm_program.specs.declared.descriptor.ElementType.{ElementType}
use Rattle.jm_program.specs.declared.descriptor.ElementType.TheVariants.{Base, Class}
use Rattle.jm_program.specs.declared.descriptor.FieldType.{FieldType}
use Rattle.jm_program.specs.declared.descriptor.MethodDescriptor.{MethodDescriptor}
use Rattle.jm_program.specs.declared.reference.ClassRef.{ClassRef}
use Rattle.jm_program.specs.declared.reference.ClassRef.TheVariants as class_ref
use Rattle.jm_program.specs.declared.class.ClassParts.{ClassParts}
use Rattle.jm_program.specs.declared.class.Field.{Field}
use Rattle.jm_program.specs.declared.class.Method.{Method}
use Rattle.jm_program.specs.declared.code.Code.{Code}
use Rattle.jm_program.specs.declared.code.Handler.{Handler}
use Rattle.jm_program.specs.declared.instruction.symbolic.Instr.{Instr}
use Rattle.jm_program.specs.declared.instruction.symbolic.Instr.TheVariants as instr
use Rattle.jm_jasmin.specs.Text.{denoted}
use Rattle.jm_disassembler.specs.Flags.{member_rows, flags_said, class_flags_said}
use Rattle.jm_disassembler.specs.Said.{no_parenthesis, class_no_parenthesis}
use Rattle.jm_disassembler.specs.Bodies.{lines_said}

-- ---- names

-- neither a tab, a line feed nor a blank
abbrev pub is_word_unit : ℕ → Bool
is_word_unit u = not (u == 9 || u == 10 || u == 32)

-- it is not empty, and begins with neither ; nor "
abbrev pub begins_word : List ℕ → Bool
begins_word [] = false
begins_word (u ∷ us) = not (u == 59 || u == 34)

-- each half of a pair has its partner, behind a first half or behind none
abbrev pub are_paired : Bool → List ℕ → Bool
are_paired waiting [] = not waiting
are_paired true (u ∷ us) = is_low u && are_paired false us
are_paired false (u ∷ us) = if is_high u then are_paired true us else not (is_low u) && are_paired false us

-- of what stands in a word
abbrev pub is_word_part : List ℕ → Bool
is_word_part units = list_all is_word_unit units && are_paired false units

-- of a name that is a word, or that begins one
abbrev pub is_word_name : List ℕ → Bool
is_word_name name = begins_word name && is_word_part name

-- ---- types

abbrev pub is_word_element : ElementType → Bool
is_word_element (Base b) = true
is_word_element (Class name) = is_word_part name

abbrev pub is_word_type : FieldType → Bool
is_word_type t = is_word_element t.element

abbrev pub is_word_return : Option FieldType → Bool
is_word_return None = true
is_word_return (Some t) = is_word_type t

abbrev pub is_word_method_type : MethodDescriptor → Bool
is_word_method_type d = list_all is_word_type d.parameters && is_word_return d.return_type

abbrev pub is_word_class : ClassRef → Bool
is_word_class (class_ref.Class name) = is_word_name name
is_word_class (class_ref.Array t) = is_word_type t

-- ---- members

-- words say its flags, its name, which is = only beside a value, and its type
abbrev pub is_text_field : Field → Bool
is_text_field f =
    flags_said 0 f.flags.bits member_rows && is_word_name f.name && (is_some f.constant || not (same_text f.name (codes "="))) && is_word_type f.descriptor

-- a class by another name than all, or each
abbrev pub is_text_caught : Option (List ℕ) → Bool
is_text_caught None = true
is_text_caught (Some name) = is_word_name name && not (same_text name (codes "all"))

abbrev pub is_text_handler : Handler → Bool
is_text_handler h = is_text_caught h.catch_type

-- words say what it names, and the types of what it invokes begin at the first (
abbrev pub is_text_instr : Instr → Bool
is_text_instr (instr.Field op f) = is_word_class f.class && is_word_part f.name && is_word_type f.descriptor
is_text_instr (instr.Invoke op m) =
    class_no_parenthesis m.class && no_parenthesis m.name && (is_word_class m.class && is_word_part m.name && is_word_method_type m.descriptor)
is_text_instr (instr.New name) = is_word_name name
is_text_instr (instr.Type op class) = is_word_class class
is_text_instr _ = true

-- and its line numbers follow its instructions
abbrev pub is_text_code : Option Code → Bool
is_text_code None = true
is_text_code (Some c) = list_all is_text_handler c.handlers && list_all is_text_instr c.instructions && lines_said 0 c.lines

-- words say its flags, its name and its types, which begin at the first (
abbrev pub is_text_method : Method → Bool
is_text_method m =
    flags_said 0 m.flags.bits member_rows && is_word_name m.name && no_parenthesis m.name && is_word_method_type m.descriptor && is_text_code m.code

-- ---- the class

-- there is one, and it is a word
abbrev pub is_text_super : Option (List ℕ) → Bool
is_text_super None = false
is_text_super (Some name) = is_word_name name

abbrev pub is_text_source : Option (List ℕ) → Bool
is_text_source None = true
is_text_source (Some name) = is_word_name name

-- words say its names and its flags, it has a superclass, and so are its fields and methods
pub record IsTextClass (c : ClassParts) : Type 0 where
  pub source_file : is_text_source c.source_file ≡ true
  pub flags : class_flags_said c.flags ≡ true
  pub name : is_word_name c.name ≡ true
  pub superclass : is_text_super c.superclass ≡ true
  pub interfaces : list_all is_word_name c.interfaces ≡ true
  pub fields : list_all is_text_field c.fields ≡ true
  pub methods : list_all is_text_method c.methods ≡ true

-- of each class that a text denotes
abbrev pub TextsDenoteTextClasses : Type 0
TextsDenoteTextClasses = (text : List ℕ) (c : ClassParts) → IsUtf8 text → denoted text ≡ Ok c → IsTextClass c
