-- The lines so far.
use Rattle.std.proofs.Common.{◌≡◌, take}
use Rattle.std.specs.List.{flat_map}
use Rattle.jm_machine.specs.EndTexts.{ended_line}
use Rattle.jm_explore.proofs.outcome_texts.outcome_lines.Given as goal

abbrev pub invariant-loop-ended : goal.invariant-loop-ended
invariant-loop-ended l = l.lines.items ≡ flat_map (λ e. ended_line e.thread e.class.items) (take l.ended-index l.outcome.ended_by.items)
