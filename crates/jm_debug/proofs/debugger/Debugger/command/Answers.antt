-- The command that the line denotes is obeyed.
use Rattle.std.proofs.Common.{ℕ, Ok, String, Vec, Global}
use Rattle.jm_program.specs.Texts.{utf16_of}
use Rattle.jm_debug.proofs.Obeying.{unread_in, read, refused_in}
use Rattle.jm_debug.proofs.debugger.Debugger.command.Goals as goal

pub returns-in_err-command-clause-answers : goal.returns-in_err-command-clause-answers
returns-in_err-command-clause-answers g c = λ s at. unread_in _ _ s (utf16_of c.args.line.now) _ _ c.from_residual.ensures.1 c.in_err-command.ensures at

pub returns-in_err-answer-clause-answers : goal.returns-in_err-answer-clause-answers
returns-in_err-answer-clause-answers g c = λ s at.
    refused_in (λ (t : String Global). t.bytes.items) _ _ s (utf16_of c.args.line.now) _ _ _
    c.in_ok-command.ensures c.from_residual-in_err-answer.ensures.1 (c.in_err-answer.ensures.obeys s at)

pub returns-clause-answers : goal.returns-clause-answers
returns-clause-answers g c = λ s at.
    let obeys = c.in_ok-answer.ensures.obeys s at in
    read (λ (v : Vec ℕ Global). v.items) _ s (utf16_of c.args.line.now) _ (Ok c.into_bytes.result)
    c.in_ok-command.ensures (rw c.into_bytes.ensures.value obeys.0, obeys.1)
