-- One line more, or the end.
use Rattle.std.proofs.Common.{refl, ◌∙◌}
use Rattle.jm_execute.proofs.TalkLemmas.{begun, broken_off_at_line, finished, left_unread, one_more, refused_for_memory}
use Rattle.jm_execute.proofs.session.answer_lines.Goals as goal

pub lines-init : goal.lines-init
lines-init g c = record { fresh = c.requires; so_far = λ s session. begun _ _ s _ _ _ _ c.new-unread.ensures session }

pub lines-preserved : goal.lines-preserved
lines-preserved g c = record {
  fresh = c.in-Ok.ensures.same ∙ c.lines.invariant.fresh;
  so_far = λ s session.
      let so_far = c.lines.invariant.so_far s session in
      let read = rw c.in-Ok-Line.field-0-is at c.in-Ok-Line.ensures in
      let answered = rw c.deref.ensures.value at (c.in-Ok.ensures.answered _ so_far.session) in
      one_more _ _ s _ _ _ _ _ _ so_far c.in-Ok-Line.line _ _ _ _ _ read answered;
}

pub returns-in-Err : goal.returns-in-Err
returns-in-Err g c = λ s session.
    let so_far = c.lines.invariant.so_far s session in
    let read = rw c.in-Ok-Line.field-0-is at c.in-Ok-Line.ensures in
    let broken = rw c.deref.ensures.value at (c.in-Err.ensures.answered _ so_far.session) in
    broken_off_at_line _ _ s _ _ _ _ _ _ so_far c.in-Ok-Line.line _ c.answer.new.debugger _ _ _ read broken

pub returns-in-Ok-End : goal.returns-in-Ok-End
returns-in-Ok-End g c = λ s session.
    let so_far = c.lines.invariant.so_far s session in
    let read = rw c.in-Ok-End.field-0-is at c.in-Ok-End.ensures in
    let finishes = rw c.deref-in-Ok-End.ensures.value at (c.answer_last.ensures _ so_far.session) in
    finished _ _ s _ _ _ _ _ _ so_far c.in-Ok-End.line c.next_line.new.self _ _ _ read finishes

pub returns-in-Err-OutOfMemory : goal.returns-in-Err-OutOfMemory
returns-in-Err-OutOfMemory g c = λ s session.
    let so_far = c.lines.invariant.so_far s session in
    let read = rw c.in-Err-OutOfMemory.field-0-is at c.in-Err-OutOfMemory.ensures in
    refused_for_memory _ _ s _ _ _ _ _ _ so_far c.next_line.new.self _ _ _ read (c.end_for_memory.ensures _)

pub returns-in-Err-ReadFailed : goal.returns-in-Err-ReadFailed
returns-in-Err-ReadFailed g c = λ s session.
    let so_far = c.lines.invariant.so_far s session in
    let read = rw c.in-Err-ReadFailed.field-0-is at c.in-Err-ReadFailed.ensures in
    left_unread _ _ s _ _ _ _ _ _ so_far c.next_line.new.self _ _ read c.requires refl
