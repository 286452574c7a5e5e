-- What is printed.
use Rattle.std.specs.Prelude.{◌≡◌, ℕ, List, [], ◌∷◌, ◌++◌, Option, Some, None, Result, Ok, Err, Bool, false, nat_eq, slice_get, drop, codes}
use Rattle.jm_builtins.specs.Numbers.{number_of}
use Rattle.jm_builtins.specs.declared.built_in_class.BuiltInClass.TheVariants.{PrintStream}
use Rattle.jm_values.specs.Content.{Content}
use Rattle.jm_values.specs.Shape.{Among}
use Rattle.jm_values.specs.declared.value.Value.{Value}
use Rattle.jm_values.specs.declared.value.Value.TheVariants as value
use Rattle.jm_values.specs.declared.fault.TagFault.{TagFault}
use Rattle.jm_values.specs.declared.fault.TagFault.TheVariants.{WrongTag, Underflow}
use Rattle.jm_world.specs.BuiltInMethods.{with_chars}
use Rattle.jm_world.specs.Here.{Here}
use Rattle.jm_world.specs.Next.{Next}
use Rattle.jm_world.specs.Text.{number_text, char_text, utf8_text, units_of}
use Rattle.jm_heap.specs.declared.class_id.ClassId.{ClassId}
use Rattle.jm_heap.specs.declared.class_id.ClassId.TheVariants.{Instance, Array}
use Rattle.jm_linked.specs.declared.instruction.Printed.{Printed}
use Rattle.jm_linked.specs.declared.instruction.Printed.TheVariants as printed
use Rattle.jm_linked.specs.declared.instruction.PrintMethod.{PrintMethod}
use Rattle.jm_linked.specs.declared.instruction.PrintMethod.TheVariants.{Print, Println, EndLine}
use Rattle.jm_state.specs.declared.halt.Halt.{Halt}
use Rattle.jm_state.specs.declared.halt.Halt.TheVariants.{Stopped, OutOfMemory}
use Rattle.jm_interp.specs.declared.print_operands.Printing.{Printing}
use Rattle.jm_interp.specs.declared.print_operands.Text.{Text}
use Rattle.jm_interp.specs.declared.print_operands.Text.TheVariants as text
use Rattle.jm_interp.specs.Strings.{LiesAt, StringGives, StringHalts}

-- the argument of its type
abbrev pub text_of : Printed → Option Value → Result Text TagFault
text_of k None = Err Underflow
text_of printed.Int (Some (value.Int n)) = Ok (text.Int n)
text_of printed.Char (Some (value.Int n)) = Ok (text.Char n)
text_of printed.Long (Some (value.Long n)) = Ok (text.Long n)
text_of printed.String (Some value.Null) = Ok (text.String None)
text_of printed.String (Some (value.Ref p)) = Ok (text.String (Some p))
text_of k (Some v) = Err WrongTag

-- the receiver: none for null
abbrev pub receiver_of : Option Value → Result (Option ℕ) TagFault
receiver_of None = Err Underflow
receiver_of (Some (value.Int n)) = Err WrongTag
receiver_of (Some (value.Long n)) = Err WrongTag
receiver_of (Some value.Null) = Ok None
receiver_of (Some (value.Ref p)) = Ok (Some p)

abbrev pub printing : Text → Result (Option ℕ) TagFault → Result Printing TagFault
printing t (Err fault) = Err fault
printing t (Ok r) = Ok (record { receiver = r; text = t })

abbrev pub with_text : Result Text TagFault → Option Value → Result Printing TagFault
with_text (Err fault) v = Err fault
with_text (Ok t) v = printing t (receiver_of v)

-- what a method of a print stream takes of the operands, the top first
abbrev pub printing_of : PrintMethod → List Value → Result Printing TagFault
printing_of (Print k) s = with_text (text_of k (slice_get s 0)) (slice_get s 1)
printing_of (Println k) s = with_text (text_of k (slice_get s 0)) (slice_get s 1)
printing_of EndLine s = printing text.Nothing (receiver_of (slice_get s 0))

-- the operands that it leaves
abbrev pub left_by : PrintMethod → List Value → List Value
left_by (Print k) s = drop 1 (drop 1 s)
left_by (Println k) s = drop 1 (drop 1 s)
left_by EndLine s = drop 1 s

-- the argument as the model has it, under another name of its reference
abbrev pub string_of : (ℕ → ℕ) → Option ℕ → List Value
string_of f None = value.Null ∷ []
string_of f (Some p) = value.Ref (f p) ∷ []

abbrev pub arguments_of : (ℕ → ℕ) → Text → List Value
arguments_of f (text.Int n) = value.Int n ∷ []
arguments_of f (text.Long n) = value.Long n ∷ []
arguments_of f (text.Char n) = value.Int n ∷ []
arguments_of f (text.String r) = string_of f r
arguments_of f text.Nothing = []

-- goes on with the bytes of the argument: those of a String are its chars'
abbrev pub with_string : Here → (ℕ → ℕ) → Option ℕ → (List ℕ → Next) → Next
with_string here f None go = go (codes "null")
with_string here f (Some p) go = with_chars here (f p) (λ chars. go (utf8_text (units_of chars)))

abbrev pub with_bytes : Here → (ℕ → ℕ) → Text → (List ℕ → Next) → Next
with_bytes here f (text.Int n) go = go (number_text n)
with_bytes here f (text.Long n) go = go (number_text n)
with_bytes here f (text.Char n) go = go (char_text n)
with_bytes here f (text.String r) go = with_string here f r go
with_bytes here f text.Nothing go = go []

-- the argument's place, if it has one, is among these
abbrev pub TextAmong : List ℕ → Text → Type 0
TextAmong ns (text.String (Some p)) = Among p ns
TextAmong ns _ = Unit {0}

-- the String that is the argument, and the bytes of an argument that is none
abbrev pub string_in : Text → Option ℕ
string_in (text.String r) = r
string_in _ = None

abbrev pub plain_bytes : Text → List ℕ
plain_bytes (text.Int n) = number_text n
plain_bytes (text.Long n) = number_text n
plain_bytes (text.Char n) = char_text n
plain_bytes (text.String r) = codes "null"
plain_bytes text.Nothing = []

-- an object lies at its place; the bytes of the argument, or it has none
abbrev pub TextLies : Content ClassId → Option ℕ → Type 0
TextLies c None = Unit {0}
TextLies c (Some p) = LiesAt c p

abbrev pub TextGives : Content ClassId → Text → Option ℕ → List ℕ → Type 0
TextGives c t None bytes = bytes ≡ plain_bytes t
TextGives c t (Some p) bytes = StringGives c p bytes

abbrev pub TextHalts : Content ClassId → Option ℕ → Halt → Type 0
TextHalts c None (Stopped why) = ⊥
TextHalts c None OutOfMemory = Unit {0}
TextHalts c (Some p) halt = StringHalts c p halt

-- the bytes of the end of the line

abbrev pub line_bytes : PrintMethod → List ℕ
line_bytes (Print k) = []
line_bytes (Println k) = 10 ∷ []
line_bytes EndLine = 10 ∷ []

-- the text of the argument is behind what was written before, and the end of the line behind it
abbrev pub SaysLine : Content ClassId → Text → PrintMethod → List ℕ → List ℕ → Type 0
SaysLine c t method old new = (said : List ℕ) × TextGives c t (string_in t) said × (new ≡ old ++ (said ++ line_bytes method))

-- the mark of java/io/PrintStream
abbrev pub is_print_stream : ClassId → Bool
is_print_stream (Instance n) = nat_eq n (number_of PrintStream)
is_print_stream (Array component) = false
