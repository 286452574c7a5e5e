-- The local variable that an instruction takes or sets (JVMS 2.6.1); of a long the first of its two.
use Rattle.std.specs.Prelude.{ℕ, Option, Some, None}
use Rattle.jm_program.specs.declared.instruction.plain.Plain.TheVariants as plain
use Rattle.jm_program.specs.declared.instruction.plain.Simple.TheVariants as simple
use Rattle.jm_program.specs.declared.instruction.symbolic.Instr.{Instr}
use Rattle.jm_program.specs.declared.instruction.symbolic.Instr.TheVariants as instr
use Rattle.jm_values.specs.LoadsAndStores.{short_index}

abbrev pub local_of : Instr → Option ℕ
local_of (instr.Plain (plain.Simple (simple.Load t n))) = Some (short_index n)
local_of (instr.Plain (plain.Simple (simple.Store t n))) = Some (short_index n)
local_of (instr.Plain (plain.Load t n)) = Some n
local_of (instr.Plain (plain.Store t n)) = Some n
local_of (instr.Plain (plain.Increment n by)) = Some n
local_of _ = None
