-- A text is a command or none; bytes that are no text are none.
use Rattle.std.proofs.Common.{subst, ℕ, List}
use Rattle.std.specs.Prelude.{Vec}
use Rattle.std.specs.declared.alloc.Global.{Global}
use Rattle.jm_program.specs.Texts.{utf16_of}
use Rattle.jm_debug.specs.Answering.{Answers}
use Rattle.jm_execute.proofs.TalkLemmas.{says_of_no_text, says_of_text}
use Rattle.jm_execute.proofs.session.answer_of.Goals as goal

pub returns-in-Ok : goal.returns-in-Ok
returns-in-Ok g c = λ s session.
    let said = subst (λ (text : List ℕ). Answers (λ (v : Vec ℕ Global). v.items) c.command.new.self s (utf16_of text) c.command.result) c.in-Ok.ensures.cases.0 (c.command.ensures.answers s session) in
    says_of_text _ s c.args.line.now c.command.result c.in-Ok.ensures.cases.1 said

pub returns-in-Err : goal.returns-in-Err
returns-in-Err g c = λ s session. says_of_no_text _ s c.args.line.now c.in-Err.ensures.cases.0 session
