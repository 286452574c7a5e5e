-- A line that is UTF-8, or nothing.
use Rattle.std.proofs.Common.{◌∙◌}
use Rattle.std.proofs.lemmas.Str.{is_utf8-from_IsUtf8}
use Rattle.jm_execute.proofs.Quoted.{no_text_in, text_in_line}
use Rattle.jm_execute.proofs.Texts.{no_text}
use Rattle.jm_execute.proofs.quote.text_in.Goals as goal

pub returns-in-Ok : goal.returns-in-Ok
returns-in-Ok c = c.in-Ok.ensures.cases.0 ∙ text_in_line c.args.line.now (is_utf8-from_IsUtf8 c.args.line.now c.in-Ok.ensures.cases.1)

pub returns-in-Err : goal.returns-in-Err
returns-in-Err c = no_text_in c.args.line.now (no_text c.args.line.now c.in-Err.ensures.cases.0)
