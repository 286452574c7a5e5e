-- One line more.
use Rattle.std.proofs.Common.{◌∙◌}
use Rattle.jm_execute.proofs.Quoted.{one_more}
use Rattle.jm_execute.proofs.quote.behind_lines.Goals as goal

pub loop-preserved : goal.loop-preserved
loop-preserved c = c.behind_line-rest.ensures ∙ one_more c.loop.counter _ _ c.loop.invariant
