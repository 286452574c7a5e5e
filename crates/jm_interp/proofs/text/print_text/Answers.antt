use Rattle.std.proofs.Common.{◌∙◌}
use Rattle.jm_interp.proofs.StringText.{cut_back}
use Rattle.jm_interp.proofs.text.print_text.Goals as goal

pub returns-in-Err : goal.returns-in-Err
returns-in-Err g c = (c.in-Err.ensures.0, c.truncate.ensures.items ∙ cut_back _ _ c.in-Err.ensures.1 (c.len-length.ensures ∙ c.args.output.now.ok.0))
