-- A stretch ends where another thread's event comes.
use Rattle.std.proofs.Common.{List, ℕ, ◌+◌, ◌++◌, ap, sym, ◌∙◌, append_assoc, arith, drop, slice_index_or}
use Rattle.std.specs.List.{flat_map}
use Rattle.std.proofs.lemmas.List.{at_drop_more}
use Rattle.jm_explore.specs.ScheduleTexts.{joined, stretch_line, stretches}
use Rattle.jm_explore.proofs.StretchLemmas.{of, stretch_ends}
use Rattle.jm_explore.proofs.schedule_texts.add_events.Goals as goal

pub loop-next-preserved : goal.loop-next-preserved
loop-next-preserved c =
    let thread = c.loop-next.thread in
    let count = c.loop-next.count in
    let all = c.args.rest.now in
    let i = c.loop-next.next-index in
    let next = slice_index_or all i 0 in
    let lines = λ (ts : List ℕ). flat_map stretch_line (joined (of thread count) (stretches ts)) in
    let rest = flat_map stretch_line (joined (of next 1) (stretches (drop (i + 1) all))) in
    let there = at_drop_more lines all i 0 c.loop-next-test.true ∙ ap (flat_map stretch_line) (stretch_ends thread count next (drop (i + 1) all) c.if-next-thread.false) in (
      ap (λ (t : List ℕ). t ++ rest) c.in_ok-add_stretch.ensures ∙ append_assoc c.loop-next.text.items (stretch_line (of thread count)) rest
          ∙ ap (λ (t : List ℕ). c.loop-next.text.items ++ t) (sym there) ∙ c.loop-next.invariant.0,
      omega arith,
    )
