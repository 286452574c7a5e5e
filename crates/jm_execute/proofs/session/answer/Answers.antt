-- The answer or the refusal is written; for want of memory the session ends.
use Rattle.std.proofs.Common.{ap, sym, ◌∙◌}
use Rattle.jm_debug.specs.Session.{printed}
use Rattle.jm_execute.proofs.TalkLemmas.{line_answered, line_refused_for_memory}
use Rattle.jm_execute.proofs.session.answer.Goals as goal

pub returns-in-Ok-clause-answered : goal.returns-in-Ok-clause-answered
returns-in-Ok-clause-answered g c = λ s session.
    let is = c.in-Ok.ensures s session in
    line_answered _ _ s _ _ _ _ _ (ap printed is.0 ∙ sym c.deref.ensures.value) is.1 c.write_answer.ensures.written c.write_answer.ensures.status

pub returns-in-Err-BadCommand-clause-answered : goal.returns-in-Err-BadCommand-clause-answered
returns-in-Err-BadCommand-clause-answered g c = λ s session.
    let is = rw c.in-Err-BadCommand.field-0-is at (c.in-Err-BadCommand.ensures s session) in
    line_answered _ _ s _ _ _ _ _ (ap printed is.0 ∙ sym c.refusal_line.ensures) is.1 c.write_answer-in-Err-BadCommand.ensures.written c.write_answer-in-Err-BadCommand.ensures.status

pub returns-in-Err-NoSuch-clause-answered : goal.returns-in-Err-NoSuch-clause-answered
returns-in-Err-NoSuch-clause-answered g c = λ s session.
    let is = rw c.in-Err-NoSuch.field-0-is at (c.in-Err-NoSuch.ensures s session) in
    line_answered _ _ s _ _ _ _ _ (ap printed is.0 ∙ sym c.refusal_line-in-Err-NoSuch.ensures) is.1 c.write_answer-in-Err-NoSuch.ensures.written c.write_answer-in-Err-NoSuch.ensures.status

pub returns-in-Err-OutOfMemory-clause-answered : goal.returns-in-Err-OutOfMemory-clause-answered
returns-in-Err-OutOfMemory-clause-answered g c = λ s session. line_refused_for_memory _ c.answer_of.new.debugger s _ _ _ _ (c.end_for_memory.ensures s)
