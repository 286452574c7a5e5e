-- Each number of an instruction is one of its type. A call knows this of the instructions that it is given, and a list alone does not.
use Rattle.std.specs.Prelude.{◌<◌, ◌^◌, FitsSigned}
use Rattle.std.specs.List.{All}
use Rattle.std.specs.Int.{w8, w16, w32}
use Rattle.jm_program.specs.declared.instruction.operation.TypeOp.TheVariants as type
use Rattle.jm_program.specs.declared.instruction.plain.SwitchPair.{SwitchPair}
use Rattle.jm_program.specs.declared.instruction.plain.Plain.{Plain}
use Rattle.jm_program.specs.declared.instruction.plain.Plain.TheVariants as plain
use Rattle.jm_class_format.specs.declared.instruction.IndexedInstr.{IndexedInstr}
use Rattle.jm_class_format.specs.declared.instruction.IndexedInstr.TheVariants as indexed

abbrev pub PairInRange : SwitchPair → Type 0
PairInRange pair = FitsSigned w32 pair.key

abbrev pub PlainInRange : Plain → Type 0
PlainInRange (plain.PushByte n) = FitsSigned w8 n
PlainInRange (plain.PushShort n) = FitsSigned w16 n
PlainInRange (plain.Load kind local) = local < 2 ^ 16
PlainInRange (plain.Store kind local) = local < 2 ^ 16
PlainInRange (plain.Increment local n) = (local < 2 ^ 16) × FitsSigned w16 n
PlainInRange (plain.TableSwitch t) = FitsSigned w32 t.low
PlainInRange (plain.LookupSwitch l) = All PairInRange l.pairs
PlainInRange other = Unit {0}

abbrev pub InRange : IndexedInstr → Type 0
InRange (indexed.Plain p) = PlainInRange p
InRange (indexed.Constant index) = index < 2 ^ 16
InRange (indexed.LongConstant index) = index < 2 ^ 16
InRange (indexed.Field op index) = index < 2 ^ 16
InRange (indexed.Invoke op index) = index < 2 ^ 16
InRange (indexed.InvokeInterface index count last) = (index < 2 ^ 16) × (count < 2 ^ 8) × (last < 2 ^ 8)
InRange (indexed.New index) = index < 2 ^ 16
InRange (indexed.Type (type.NewArrays d) index) = (index < 2 ^ 16) × (d < 2 ^ 8)
InRange (indexed.Type op index) = index < 2 ^ 16
InRange other = Unit {0}
