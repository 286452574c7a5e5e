-- Bytes are a text exactly where std reads them as one.
use Rattle.std.proofs.Common.{ap, ◌∙◌}
use Rattle.std.proofs.lemmas.Str.{is_utf8-from_IsUtf8}
use Rattle.jm_jasmin_ops.specs.declared.fault.AsmFault.TheVariants.{BadToken}
use Rattle.jm_execute.specs.ProgramFiles.{line_at}
use Rattle.jm_execute.proofs.Texts.{no_text}
use Rattle.jm_execute.proofs.program_file.text_of.Goals as goal

pub returns-in-Ok : goal.returns-in-Ok
returns-in-Ok c = (c.in-Ok.ensures.cases.0, is_utf8-from_IsUtf8 c.args.bytes.now c.in-Ok.ensures.cases.1)

pub returns-in-Err : goal.returns-in-Err
returns-in-Err c = (ap BadToken (c.line_at.ensures ∙ ap (line_at c.args.bytes.now) (c.valid_up_to.ensures ∙ c.in-Err.ensures.valid_len)), no_text c.args.bytes.now c.in-Err.ensures.cases.0)
