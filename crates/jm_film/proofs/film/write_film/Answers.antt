-- What stands above the events, and the events.
use Rattle.std.proofs.Common.{List, ◌++◌, ap, refl, sym}
use Rattle.std.proofs.lemmas.Result.{err_from_is_err_and}
use Rattle.jm_program.specs.declared.class.ClassParts.{ClassParts}
use Rattle.jm_page.specs.declared.page.TheConstants.{ABOVE, BELOW}
use Rattle.jm_film.specs.FilmPages.{film_page, still_rows}
use Rattle.jm_film.specs.Shots.{shots_from}
use Rattle.jm_film.proofs.Fronts.{put_fault_first, put_last, put_same}
use Rattle.jm_film.proofs.film.write_film.Goals as goal

pub returns-in_err-put_front-clause-written : goal.returns-in_err-put_front-clause-written
unfolding film_page
returns-in_err-put_front-clause-written g c =
    let p = err_from_is_err_and c.from_residual.result c.from_residual.ensures.1 in
    rw (p.1, p.2) (λ w m k.
    let still = λ (program : List ClassParts). ABOVE.now ++ still_rows program c.args.sources.now in
    let below = shots_from w c.args.window.from c.args.window.steps (g.S.EventsDue.due c.args.events.now w) ++ BELOW.now in
    put_fault_first g.P.PageWriter.wrote g.P.PageWriter.broke (Unit {0}) (Unit {0}) _ _ _ (still c.program.result.now) below _
    (ap (λ program. still program ++ below) (sym (c.program.ensures w m))) c.in_err-put_front.ensures.put)

pub returns-clause-written : goal.returns-clause-written
unfolding film_page
returns-clause-written g c = λ w m k.
    let front = put_same g.P.PageWriter.wrote g.P.PageWriter.broke _ _ _ _ (ap (λ program. ABOVE.now ++ still_rows program c.args.sources.now) (c.program.ensures w m)) c.in_ok-put_front.ensures.put in
    put_last _ _ g.met.P.PageWriter.wrote_more g.met.P.PageWriter.broke_behind c.put_shots.result _ _ _ _ _ _ refl front (c.put_shots.ensures.told w m k)
