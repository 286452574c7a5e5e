-- What the event gave, and the piece that was written of it.
use Rattle.std.proofs.Common.{ap, ◌∙◌}
use Rattle.std.proofs.lemmas.Result.{err_from_is_err_and}
use Rattle.jm_page.proofs.Pieces.{put_nothing}
use Rattle.jm_world.specs.RoundRobin.{is_blocked}
use Rattle.jm_film.proofs.Fronts.{put_of}
use Rattle.jm_film.proofs.shots.shoot.Goals as goal
use Rattle.jm_film.proofs.Answered.{of_answer}

pub returns-clause-told : goal.returns-clause-told
returns-clause-told g c = λ w m. put_of _ _ c.put_piece.result _ _ _ _ _ (c.in_ok-reply.ensures.written w m) c.requires c.put_piece.ensures.put

pub returns-clause-made : goal.returns-clause-made
returns-clause-made g c = λ w m. of_answer _ c.put_piece.result (c.in_ok-reply.ensures.made w m).0

pub returns-clause-behind : goal.returns-clause-behind
returns-clause-behind g c = λ w m. of_answer _ c.put_piece.result (c.in_ok-reply.ensures.behind w m)

pub returns-clause-seen : goal.returns-clause-seen
returns-clause-seen g c = λ w m.
    of_answer _ c.put_piece.result (c.see.ensures ∙ ap (g.S.EventsDue.seen c.args.events.now) (c.is_blocked.ensures ∙ ap (λ r. is_blocked r.kind) (c.in_ok-reply.ensures.made w m).1))

pub returns-in_err-reply-clause-told : goal.returns-in_err-reply-clause-told
returns-in_err-reply-clause-told g c =
    let p = err_from_is_err_and c.from_residual.result c.from_residual.ensures.1 in
    rw (p.1, p.2) (λ w m. put_nothing g.P.PageWriter.wrote g.P.PageWriter.broke (Unit {0}) g.met.P.PageWriter.wrote_none c.args.page.now _)
