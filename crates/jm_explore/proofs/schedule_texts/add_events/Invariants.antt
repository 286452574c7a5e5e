-- The stretch that goes on is told behind those that have ended.
use Rattle.std.proofs.Common.{◌≡◌, ◌≤◌, ◌+◌, ◌++◌, ◌∷◌, drop}
use Rattle.std.specs.List.{flat_map}
use Rattle.jm_explore.specs.ScheduleTexts.{joined, schedule_text, stretch_line, stretches}
use Rattle.jm_explore.proofs.StretchLemmas.{of}
use Rattle.jm_explore.proofs.schedule_texts.add_events.Given as goal

abbrev pub invariant-loop-next : goal.invariant-loop-next
invariant-loop-next l =
    (l.text.items ++ flat_map stretch_line (joined (of l.thread l.count) (stretches (drop l.next-index l.rest))) ≡ l.initial.text.items ++ schedule_text (l.fn.first ∷ l.rest))
    × (l.count ≤ l.next-index + 1)
