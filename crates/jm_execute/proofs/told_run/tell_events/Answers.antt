-- By what writing the text came to.
use Rattle.jm_world.specs.Loading.{loaded_world}
use Rattle.jm_execute.specs.Tellings.{told_run}
use Rattle.jm_execute.specs.Written.{words}
use Rattle.jm_execute.proofs.TextsTold.{text_told}
use Rattle.jm_execute.proofs.told_run.tell_events.Goals as goal

pub returns : goal.returns
returns g c = λ program limit m knows.
    let w = loaded_world program limit in
    text_told (words g.O.Write.contents g.O.Watchable.ends) (words g.E.Write.contents g.E.Watchable.ends) (g.T.Teller.telling c.args.teller.now)
    (told_run program limit (g.S.EventsDue.due c.args.events.now w)) c.tell-written.result c.tell_told.result
    c.args.out.now c.tell-written.new.page c.args.err.now c.tell_told.new.err c.requires.out
    (c.tell-written.ensures.written w m knows) (c.tell_told.ensures _ (c.tell-written.ensures.made w m knows))
