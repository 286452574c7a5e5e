-- The stretches so far.
use Rattle.std.proofs.Common.{take}
use Rattle.jm_shared.specs.Records.{Writes}
use Rattle.jm_shared.proofs.record.RecordText.add_all.Given as goal

abbrev pub invariant-loop-stretch : goal.invariant-loop-stretch
invariant-loop-stretch l =
    Writes (take l.stretch-index l.stretches) l.initial.self.bytes.items l.initial.self.turns l.self.bytes.items l.self.turns
