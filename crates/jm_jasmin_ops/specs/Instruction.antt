-- The instruction that tokens spell (Jasmin User Guide, "Instructions").
use Rattle.std.specs.Prelude.{ℕ, ◌+◌, List, [], ◌∷◌, length, Result, Ok, Err}
use Rattle.std.specs.Option.{ok_or}
use Rattle.jm_bytes.specs.Reading.{and_then}
use Rattle.jm_program.specs.declared.instruction.operation.ArrayOp.TheVariants as array
use Rattle.jm_program.specs.declared.instruction.operation.InvokeOp.TheVariants as invoke
use Rattle.jm_program.specs.declared.instruction.operation.TypeOp.TheVariants as type
use Rattle.jm_program.specs.declared.instruction.plain.Plain.TheVariants as plain
use Rattle.jm_program.specs.declared.instruction.symbolic.Instr.{Instr}
use Rattle.jm_program.specs.declared.instruction.symbolic.Instr.TheVariants as instr
use Rattle.jm_class_format.specs.declared.opcode.Opcode.{Opcode}
use Rattle.jm_class_format.specs.declared.opcode.Opcode.TheVariants as opcode
use Rattle.jm_jasmin_lex.specs.Token.{TokenParts}
use Rattle.jm_jasmin_lex.specs.Lines.{first_line}
use Rattle.jm_jasmin_ops.specs.Mnemonics.{opcode_named}
use Rattle.jm_jasmin_ops.specs.Profile.{unknown_word}
use Rattle.jm_jasmin_ops.specs.Words.{word, label, ended, one, two}
use Rattle.jm_jasmin_ops.specs.Operands.{signed_byte, signed_short, signed_int, unsigned_short, loaded, loaded_long, element_type, class_name, class_ref, dimensions, field_named, field_typed, method, counted}
use Rattle.jm_jasmin_ops.specs.Switches.{lines_of, table_rows, lookup_rows}
use Rattle.jm_jasmin_ops.specs.declared.labelled.LabelledInstr.TheVariants as labelled
use Rattle.jm_jasmin_ops.specs.declared.labelled.Line.{Line}
use Rattle.jm_jasmin_ops.specs.declared.fault.AsmLeftOut.TheVariants as what
use Rattle.jm_jasmin_ops.specs.declared.fault.AsmFault.{AsmFault}
use Rattle.jm_jasmin_ops.specs.declared.fault.AsmFault.TheVariants as fault

-- iinc: a local variable, then the number that is added to it
abbrev pub increment : ℕ → List TokenParts → Result Instr AsmFault
increment line = two line unsigned_short (λ n t. and_then (signed_short t) (λ by. Ok (instr.Plain (plain.Increment n by))))

-- multianewarray: an array type, then in how many of its dimensions arrays are made
abbrev pub new_arrays : ℕ → List TokenParts → Result Instr AsmFault
new_arrays line = two line (class_ref (type.NewArrays 1)) (λ class t. and_then (dimensions class t) (λ d. Ok (instr.Type (type.NewArrays d) class)))

-- an instruction without a target, by its opcode, the line's number and the words after the mnemonic
unfoldable pub named_instr : ℕ → Opcode → List TokenParts → Result Instr AsmFault
named_instr line (opcode.Simple op) words = ended words (instr.Plain (plain.Simple op))
named_instr line (opcode.Array op) words = ended words (instr.Array op)
named_instr line (opcode.Return op) words = ended words (instr.Return op)
named_instr line opcode.Throw words = ended words instr.Throw
named_instr line (opcode.Monitor op) words = ended words (instr.Monitor op)
named_instr line opcode.PushByte words = and_then (one line signed_byte words) (λ n. Ok (instr.Plain (plain.PushByte n)))
named_instr line opcode.PushShort words = and_then (one line signed_short words) (λ n. Ok (instr.Plain (plain.PushShort n)))
named_instr line opcode.LoadConstant words = and_then (one line loaded words) (λ c. Ok (instr.Constant c))
named_instr line opcode.LoadConstantWide words = and_then (one line loaded words) (λ c. Ok (instr.Constant c))
named_instr line opcode.LoadLong words = and_then (one line loaded_long words) (λ c. Ok (instr.Constant c))
named_instr line (opcode.Load t) words = and_then (one line unsigned_short words) (λ n. Ok (instr.Plain (plain.Load t n)))
named_instr line (opcode.Store t) words = and_then (one line unsigned_short words) (λ n. Ok (instr.Plain (plain.Store t n)))
named_instr line opcode.Increment words = increment line words
named_instr line (opcode.Field op) words = and_then (two line field_named field_typed words) (λ f. Ok (instr.Field op f))
named_instr line (opcode.Invoke op) words = and_then (one line (method op) words) (λ m. Ok (instr.Invoke op m))
named_instr line opcode.InvokeInterface words = and_then (two line (method invoke.Interface) counted words) (λ m. Ok (instr.Invoke invoke.Interface m))
named_instr line opcode.New words = and_then (one line class_name words) (λ name. Ok (instr.New name))
named_instr line opcode.NewArray words = and_then (one line element_type words) (λ t. Ok (instr.Array (array.New t)))
named_instr line (opcode.Type op) words = and_then (one line (class_ref op) words) (λ class. Ok (instr.Type op class))
named_instr line opcode.NewArrays words = new_arrays line words
named_instr line (opcode.LeftOut op) words = Err (fault.LeftOut (what.Instruction op) line)
named_instr line other words = Err (fault.Syntax line)

-- the lines of a table below LOW
unfoldable pub table_instr : ℕ → List TokenParts → List TokenParts → Result Line AsmFault
table_instr line words below =
    and_then (one line signed_int words) (λ low. and_then (table_rows low line [] (length words + 1) (lines_of below)) (λ t. Ok (record { instruction = labelled.TableSwitch t.0; used = t.1 })))

-- the lines of pairs
unfoldable pub lookup_instr : ℕ → List TokenParts → List TokenParts → Result Line AsmFault
lookup_instr line [] below = and_then (lookup_rows line [] 1 (lines_of below)) (λ t. Ok (record { instruction = labelled.LookupSwitch t.0; used = t.1 }))
lookup_instr line (t ∷ words) below = Err (fault.Syntax t.line)

-- by the opcode, the line's number, the words after the mnemonic and the tokens below the line
unfoldable pub operands : ℕ → Opcode → List TokenParts → List TokenParts → Result Line AsmFault
operands line (opcode.Branch op) words below = and_then (one line label words) (λ l. Ok (record { instruction = labelled.Branch op l; used = length words + 1 }))
operands line (opcode.BranchWide op) words below = and_then (one line label words) (λ l. Ok (record { instruction = labelled.Branch op l; used = length words + 1 }))
operands line opcode.TableSwitch words below = table_instr line words below
operands line opcode.LookupSwitch words below = lookup_instr line words below
operands line other words below = and_then (named_instr line other words) (λ i. Ok (record { instruction = labelled.Named i; used = length words + 1 }))

-- the first line's words, and the tokens below it
unfoldable pub instruction_in : List TokenParts → List TokenParts → Result Line AsmFault
instruction_in [] below = Err (fault.Syntax 0)
instruction_in (t ∷ words) below = and_then (word t) (λ w. and_then (ok_or (opcode_named w) (unknown_word t.line w)) (λ op. operands t.line op words below))

-- the instruction at the front of tokens, of which there is one at least, and how many tokens it takes
unfoldable pub instruction_at : List TokenParts → Result Line AsmFault
instruction_at tokens = instruction_in (first_line tokens).0 (first_line tokens).1
