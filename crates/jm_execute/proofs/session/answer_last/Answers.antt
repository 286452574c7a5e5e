-- There is one line, or none.
use Rattle.std.proofs.Common.{refl}
use Rattle.jm_execute.proofs.TalkLemmas.{is_none, is_some, last_answered, last_broken_off, no_last_line}
use Rattle.jm_execute.proofs.session.answer_last.Goals as goal

pub returns-then-is_empty : goal.returns-then-is_empty
returns-then-is_empty g c = λ s session. no_last_line _ s _ _ _ (is_none c.args.line.now c.if-is_empty.ensures) c.requires.out refl

pub returns-in-Ok : goal.returns-in-Ok
returns-in-Ok g c = λ s session.
    last_answered _ c.answer.new.debugger s _ _ _ _ (is_some c.args.line.now c.if-is_empty.ensures) c.requires.line c.requires.out _ (c.in-Ok.ensures.answered s session) refl

pub returns-in-Err : goal.returns-in-Err
returns-in-Err g c = λ s session.
    last_broken_off _ c.answer.new.debugger s _ _ _ _ (is_some c.args.line.now c.if-is_empty.ensures) c.requires.line (c.in-Err.ensures.answered s session)
