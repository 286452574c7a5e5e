-- Which bytes spell which code: instructions from offset 0 to the end, whose targets are numbers of instructions (JVMS 4.7.3, 4.9.1).
use Rattle.std.specs.Prelude.{ℕ, ◌==◌, nat_lt, if◌then◌else◌, List, length, map, Result, Ok, Err}
use Rattle.std.specs.Option.{ok_or}
use Rattle.std.specs.List.{position}
use Rattle.std.proofs.Common.{arith, ap, length-append}
use Rattle.jm_bytes.specs.Spelling.{IsFilled}
use Rattle.jm_bytes.specs.Reading.{and_then, each}
use Rattle.jm_bytes.specs.Format.{Format, Whole, ◌>>=◌, done, guard, each_to_end, mapped}
use Rattle.jm_program.specs.declared.instruction.plain.SwitchPair.{SwitchPair}
use Rattle.jm_program.specs.declared.instruction.plain.TableSwitch.{TableSwitch}
use Rattle.jm_program.specs.declared.instruction.plain.LookupSwitch.{LookupSwitch}
use Rattle.jm_program.specs.declared.instruction.plain.Plain.{Plain}
use Rattle.jm_program.specs.declared.instruction.plain.Plain.TheVariants as plain
use Rattle.jm_class_format.specs.declared.instruction.IndexedInstr.{IndexedInstr}
use Rattle.jm_class_format.specs.declared.instruction.IndexedInstr.TheVariants as indexed
use Rattle.jm_class_format.specs.declared.instruction.PlacedInstr.{PlacedInstr}
use Rattle.jm_class_format.specs.declared.fault.CodeFault.{CodeFault}
use Rattle.jm_class_format.specs.declared.fault.CodeFault.TheVariants as fault
use Rattle.jm_class_format.specs.Instructions.{instruction}

-- An instruction with its offset, its targets still offsets. A code has at most 65,535 bytes (JVMS 4.7.3, code_length), and so none begins behind them.
unfoldable pub placed : ℕ → Format CodeFault PlacedInstr
placed at = do
  _ ← guard (fault.BadOpcode 65535) (nat_lt at 65535)
  instr ← instruction at
  done (record { offset = at; instr = instr })

pub instruction_filled : IsFilled (λ at. (instruction at).Spells)
unfolding instruction
instruction_filled = record { filled = λ at bytes instr h. omega (arith, ap length h.parts, length-append h.front h.back, h.first.0) }

pub placed_filled : IsFilled (λ at. (placed at).Spells)
unfolding placed
placed_filled = record { filled = λ at bytes p h. omega (arith, ap length h.parts, length-append h.front h.back, ap length h.second.parts, length-append h.second.front h.second.back, instruction_filled.filled at h.second.front h.second.value h.second.first) }

-- ---- targets: an offset from the start of the code becomes the number of the instruction that begins there

unfoldable pub number_of : List ℕ → ℕ → Result ℕ CodeFault
number_of starts target = ok_or (position (λ start. start == target) starts) fault.BadTarget

unfoldable pub table_numbered : List ℕ → TableSwitch → Result TableSwitch CodeFault
table_numbered starts t =
    and_then (number_of starts t.default) (λ default. and_then (each (number_of starts) t.targets) (λ targets. Ok (record { low = t.low; targets = targets; default = default })))

unfoldable pub pair_numbered : List ℕ → SwitchPair → Result SwitchPair CodeFault
pair_numbered starts pair = and_then (number_of starts pair.target) (λ target. Ok (record { key = pair.key; target = target }))

unfoldable pub lookup_numbered : List ℕ → LookupSwitch → Result LookupSwitch CodeFault
lookup_numbered starts l =
    and_then (number_of starts l.default) (λ default. and_then (each (pair_numbered starts) l.pairs) (λ pairs. Ok (record { pairs = pairs; default = default })))

unfoldable pub plain_numbered : List ℕ → Plain → Result Plain CodeFault
plain_numbered starts (plain.Branch branch target) = and_then (number_of starts target) (λ n. Ok (plain.Branch branch n))
plain_numbered starts (plain.TableSwitch t) = and_then (table_numbered starts t) (λ s. Ok (plain.TableSwitch s))
plain_numbered starts (plain.LookupSwitch l) = and_then (lookup_numbered starts l) (λ s. Ok (plain.LookupSwitch s))
plain_numbered starts other = Ok other

unfoldable pub instr_numbered : List ℕ → IndexedInstr → Result IndexedInstr CodeFault
instr_numbered starts (indexed.Plain p) = and_then (plain_numbered starts p) (λ q. Ok (indexed.Plain q))
instr_numbered starts other = Ok other

unfoldable pub numbered : List ℕ → PlacedInstr → Result PlacedInstr CodeFault
numbered starts p = and_then (instr_numbered starts p.instr) (λ instr. Ok (record { offset = p.offset; instr = instr }))

-- one instruction at least (JVMS 4.7.3, code_length)
unfoldable pub all_numbered : List PlacedInstr → Result (List PlacedInstr) CodeFault
all_numbered ps = if length ps == 0 then Err (fault.Cut 0) else each (numbered (map (λ (p : PlacedInstr). p.offset) ps)) ps

-- the instructions one after the other, whatever their targets are
abbrev pub placed_code : Whole CodeFault (List PlacedInstr)
placed_code = each_to_end placed placed_filled 0

-- The code of a method. That each target is an instruction is looked at once all instructions are read.
unfoldable pub code : Whole CodeFault (List PlacedInstr)
code = mapped placed_code all_numbered
