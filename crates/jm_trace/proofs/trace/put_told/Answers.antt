-- The event is made before its line is written; where memory was refused nothing is.
use Rattle.jm_page.proofs.Pieces.{put_nothing}
use Rattle.jm_trace.proofs.trace.put_told.Goals as goal

pub returns-in_default-clause-told : goal.returns-in_default-clause-told
returns-in_default-clause-told g c = λ w m. put_nothing g.P.PageWriter.wrote g.P.PageWriter.broke (Unit {0}) g.met.P.PageWriter.wrote_none c.args.page.now _
