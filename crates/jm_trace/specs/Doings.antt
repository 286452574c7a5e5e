-- Where a frame stands and what is next in it, in one line.
use Rattle.std.specs.Prelude.{ℕ, ◌+◌, List, [], ◌∷◌, ◌++◌, Option, Some, None, codes, reverse}
use Rattle.jm_program.specs.JasminInstructions.{instr_line}
use Rattle.jm_program.specs.declared.class.ClassParts.{ClassParts}
use Rattle.jm_program.specs.declared.instruction.plain.Plain.{Plain}
use Rattle.jm_program.specs.declared.instruction.plain.Plain.TheVariants as plain
use Rattle.jm_program.specs.declared.instruction.symbolic.Instr.{Instr}
use Rattle.jm_program.specs.declared.instruction.symbolic.Instr.TheVariants as instr
use Rattle.jm_values.specs.declared.value.Value.{Value}
use Rattle.jm_world.specs.Classes.{method_named}
use Rattle.jm_world.specs.Frames.{Frame, method_frame, initialization_frame, entry_frame}
use Rattle.jm_world.specs.Stepping.{instruction_in}
use Rattle.jm_debug.specs.Texts.{value_text, frame_text}

-- ---- instructions

-- the word of a switch, whose line of Jasmin has a line for each target (JVMS 6.5 tableswitch, lookupswitch)
abbrev pub plain_switch : Plain → Option (List ℕ)
plain_switch (plain.TableSwitch t) = Some (codes "tableswitch")
plain_switch (plain.LookupSwitch l) = Some (codes "lookupswitch")
plain_switch _ = None

abbrev pub switch_word : Instr → Option (List ℕ)
switch_word (instr.Plain p) = plain_switch p
switch_word _ = None

-- an instruction in one line: its line of Jasmin, and of a switch its word alone
unfoldable pub instruction_text : Instr → List ℕ
instruction_text i = elim (switch_word i) [ Some word ↦ word | None ↦ instr_line i ]

-- what is next in a method: there may be no instruction of that number
abbrev pub next_text : Option Instr → List ℕ
next_text None = codes "no instruction"
next_text (Some i) = instruction_text i

-- ---- operands

-- the texts of some things by their numbers, from a number on
abbrev pub texts_from : {A : Type 0} → (ℕ → A → List ℕ) → ℕ → List A → List ℕ
texts_from text_at number [] = []
texts_from text_at number (x ∷ xs) = text_at number x ++ texts_from text_at (number + 1) xs

-- the text of one of them, if there is one
abbrev pub texts_of : {A : Type 0} → (ℕ → A → List ℕ) → ℕ → Option A → List ℕ
texts_of text_at number None = []
texts_of text_at number (Some x) = text_at number x

-- an operand, whatever its number is
abbrev pub operand_text : ℕ → Value → List ℕ
operand_text number v = codes " [" ++ value_text v ++ codes "]"

-- the operands, the lowest first, if there are any
unfoldable pub operands_text : List Value → List ℕ
operands_text stack = texts_from operand_text 0 (reverse stack)

-- ---- frames

-- the instruction of a method's frame and its operands; the place of any other frame says what is next
abbrev pub doing_text : List ClassParts → Frame → List ℕ
doing_text program (method_frame m a monitor) = codes ": " ++ next_text (instruction_in (method_named program m) a.at) ++ operands_text a.stack
doing_text program (initialization_frame class stage) = []
doing_text program entry_frame = []

-- PLACE: INSTRUCTION [OPERAND] [OPERAND]
unfoldable pub standing_text : List ClassParts → Frame → List ℕ
standing_text program f = frame_text program f ++ doing_text program f
