-- The Code attribute (JVMS 4.7.3) and the LineNumberTable attributes in it (JVMS 4.7.12).
use Rattle.std.specs.Prelude.{ℕ, zero, suc, ◌==◌, nat_lt, nat_le, Bool, true, false, ◌&&◌, if◌then◌else◌, List, [], ◌++◌, length, map, Option, Some, None, Result, Ok, codes}
use Rattle.std.specs.Option.{ok_or}
use Rattle.std.specs.List.{position}
use Rattle.jm_bytes.specs.Reading.{and_then, each}
use Rattle.jm_bytes.specs.Format.{Format, ◌>>=◌, done, outcome, given, guard, u2, u4, some_bytes, many, repeated, within, all_of}
use Rattle.jm_program.specs.Names.{same_text}
use Rattle.jm_program.specs.declared.code.Code.{Code}
use Rattle.jm_program.specs.declared.code.Handler.{Handler}
use Rattle.jm_program.specs.declared.code.LineNumber.{LineNumber}
use Rattle.jm_class_format.specs.declared.constant_pool.Entry.{Entry}
use Rattle.jm_class_format.specs.declared.instruction.PlacedInstr.{PlacedInstr}
use Rattle.jm_class_format.specs.declared.read_fault.ReadFault.{ReadFault}
use Rattle.jm_class_format.specs.declared.read_fault.ReadFault.TheVariants as fault
use Rattle.jm_class_format.specs.FileFaults.{bad_index}
use Rattle.jm_class_format.specs.PoolLookups.{text_at}
use Rattle.jm_class_format.specs.NamedCode.{class_name_at, placed_named, file_code}

-- ---- offsets and numbers of instructions

-- where the instructions of a code begin, and how many bytes it has
pub record Places : Type 0 where
  pub starts : List ℕ
  pub size : ℕ

-- the number of the instruction that begins at an offset
unfoldable pub number_at : List ℕ → ℕ → Result ℕ ReadFault
number_at starts offset = ok_or (position (λ start. start == offset) starts) fault.BadAttribute

-- where a range ends: before the instruction at an offset, or at the code's end (JVMS 4.7.3, end_pc)
unfoldable pub end_at : Places → ℕ → Result ℕ ReadFault
end_at places offset = if offset == places.size then Ok (length places.starts) else number_at places.starts offset

-- ---- the exception table

-- any class for 0 (JVMS 4.7.3, catch_type)
unfoldable pub catch_type : List Entry → ℕ → Result (Option (List ℕ)) ReadFault
catch_type pool zero = Ok None
catch_type pool (suc i) = and_then (class_name_at pool (suc i)) (λ name. Ok (Some name))

-- start_pc, end_pc and handler_pc; the range is not empty
unfoldable pub handler_places : Places → Format ReadFault (ℕ × ℕ × ℕ)
handler_places places = do
  start_pc ← u2 fault.BadAttribute
  end_pc ← u2 fault.BadAttribute
  handler_pc ← u2 fault.BadAttribute
  start ← outcome (number_at places.starts start_pc)
  end ← outcome (end_at places end_pc)
  target ← outcome (number_at places.starts handler_pc)
  _ ← guard fault.BadAttribute (nat_lt start end)
  done (start, end, target)

unfoldable pub handler : List Entry → Places → Format ReadFault Handler
handler pool places = do
  range ← handler_places places
  index ← u2 fault.BadAttribute
  caught ← outcome (catch_type pool index)
  done (record { start = range.0; end = range.1; target = range.2; catch_type = caught })

unfoldable pub handlers : List Entry → Places → Format ReadFault (List Handler)
handlers pool places = do
  count ← u2 fault.BadAttribute
  many count (handler pool places)

-- ---- line numbers

unfoldable pub line_number : Places → Format ReadFault LineNumber
line_number places = do
  start_pc ← u2 fault.BadAttribute
  start ← outcome (number_at places.starts start_pc)
  line ← u2 fault.BadAttribute
  done (record { start = start; line = line })

unfoldable pub line_numbers : Places → Format ReadFault (List LineNumber)
line_numbers places = do
  count ← u2 fault.BadAttribute
  many count (line_number places)

-- ---- the attributes of a code: line number tables are joined, in their order; all others are skipped

-- where the bytes that hold an attribute end too early, the fault is given
unfoldable pub attribute_name : ReadFault → List Entry → Format ReadFault (List ℕ)
attribute_name cut pool = do
  index ← u2 cut
  given (bad_index index) (text_at pool index)

-- an attribute's length and bytes
unfoldable pub skipped_info : ReadFault → Format ReadFault (List ℕ)
skipped_info cut = do
  length ← u4 cut
  some_bytes cut length

-- an attribute's length and what its bytes spell, to the last one
unfoldable pub whole_info : {A : Type 0} → ReadFault → Format ReadFault A → Format ReadFault A
whole_info cut body = do
  length ← u4 cut
  within cut length (all_of fault.BadAttribute body)

unfoldable pub code_attribute_info : Places → List LineNumber → Bool → Format ReadFault (List LineNumber)
code_attribute_info places lines true = do
  more ← whole_info fault.BadAttribute (line_numbers places)
  done (lines ++ more)
code_attribute_info places lines false = do
  bytes ← skipped_info fault.BadAttribute
  done lines

-- one attribute more
unfoldable pub code_attribute : List Entry → Places → List LineNumber → Format ReadFault (List LineNumber)
code_attribute pool places lines = do
  name ← attribute_name fault.BadAttribute pool
  code_attribute_info places lines (same_text name (codes "LineNumberTable"))

unfoldable pub code_attributes : List Entry → Places → Format ReadFault (List LineNumber)
code_attributes pool places = do
  count ← u2 fault.BadAttribute
  repeated count (code_attribute pool places) []

-- ---- the attribute

-- max_stack, and max_locals, which holds the arguments
unfoldable pub limits : ℕ → Format ReadFault (ℕ × ℕ)
limits slots = do
  max_stack ← u2 fault.BadAttribute
  max_locals ← u2 fault.BadAttribute
  _ ← guard fault.BadAttribute (nat_le slots max_locals)
  done (max_stack, max_locals)

-- the length of the code, from 1 to 65,535
unfoldable pub code_length : Format ReadFault ℕ
code_length = do
  length ← u4 fault.BadAttribute
  _ ← guard fault.BadAttribute (nat_lt 0 length && nat_lt length 65536)
  done length

abbrev pub places_of : ℕ → List PlacedInstr → Places
places_of size placed = record { starts = map (λ (p : PlacedInstr). p.offset) placed; size = size }

-- handlers and lines of a code with such instructions
unfoldable pub code_tables : List Entry → Places → Format ReadFault (List Handler × List LineNumber)
code_tables pool places = do
  hs ← handlers pool places
  lines ← code_attributes pool places
  done (hs, lines)

-- The code of a method whose arguments, its receiver included, take so many slots. The code is read first, and then what its indexes name.
unfoldable pub code_body : List Entry → ℕ → Format ReadFault Code
code_body pool slots = do
  limit ← limits slots
  size ← code_length
  placed ← within fault.BadAttribute size file_code
  instructions ← outcome (each (placed_named pool) placed)
  tables ← code_tables pool (places_of size placed)
  done (record { max_stack = limit.0; max_locals = limit.1; instructions = instructions; handlers = tables.0; lines = tables.1 })
