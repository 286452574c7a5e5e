-- The text of the line.
use Rattle.std.proofs.Common.{ap, ◌∙◌}
use Rattle.std.proofs.Output.{has_written_of_eq}
use Rattle.std.specs.Str.{trim}
use Rattle.jm_execute.specs.FileNames.{file_name_text}
use Rattle.jm_execute.proofs.quote.write_line.Goals as goal

pub returns : goal.returns
returns g c = λ plain ok.
    has_written_of_eq _ _ _ _ _ (ap file_name_text (c.trim-text.ensures.trim ∙ ap trim c.text_in.ensures)) (c.write.ensures.writes plain ok)
