-- The line stands behind the text as often as it was added.
use Rattle.std.proofs.Common.{◌≡◌, ◌-◌, ◌≤◌, ◌++◌, replicate}
use Rattle.jm_shared.specs.Records.{record_text}
use Rattle.jm_shared.specs.Stretches.{entry_in}
use Rattle.jm_shared.proofs.record.RecordText.add.Given as goal

abbrev pub invariant-loop : goal.invariant-loop
invariant-loop l =
    (l.initial.counter ≤ l.counter)
    × (l.counter - l.initial.counter ≤ l.end - l.initial.counter)
    × (l.self.bytes.items ≡ l.initial.self.bytes.items ++ record_text (replicate (l.counter - l.initial.counter) (entry_in l.stretch)))
