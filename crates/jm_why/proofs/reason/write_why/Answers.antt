-- The text, once it stands whole; where memory was refused nothing is written.
use Rattle.jm_page.proofs.Pieces.{put_nothing}
use Rattle.jm_why.proofs.reason.write_why.Goals as goal

pub returns-in_default-clause-written : goal.returns-in_default-clause-written
returns-in_default-clause-written g c = λ w m k. put_nothing g.P.PageWriter.wrote g.P.PageWriter.broke (Unit {0}) g.met.P.PageWriter.wrote_none c.args.page.now _
