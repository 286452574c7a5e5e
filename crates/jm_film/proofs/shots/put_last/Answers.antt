-- Another event is due, or none is.
use Rattle.std.proofs.Common.{◌++◌, ap, sym}
use Rattle.std.proofs.lemmas.Result.{err_from_is_err_and}
use Rattle.jm_page.proofs.Pieces.{put_nothing, put_text}
use Rattle.jm_page.specs.declared.page.TheConstants.{BELOW}
use Rattle.jm_film.specs.Shots.{end_row}
use Rattle.jm_film.proofs.shots.put_last.Goals as goal

pub returns-in_err-_due : goal.returns-in_err-_due
returns-in_err-_due g c =
    let p = err_from_is_err_and c.from_residual.result c.from_residual.ensures.1 in
    rw (p.1, p.2) (λ w m k. put_nothing g.P.PageWriter.wrote g.P.PageWriter.broke (Unit {0}) g.met.P.PageWriter.wrote_none c.args.page.now _)

pub returns-in_default : goal.returns-in_default
returns-in_default g c = λ w m k.
    let none = rw c.in_default.is at (c.in_ok-_due.ensures w m k) in
    put_text _ _ c.put_end.result _ _ _ _ (ap (λ es. end_row es ++ BELOW.now) (sym none.0)) c.put_end.ensures

pub returns : goal.returns
returns g c = λ w m k.
    let next = rw c.in-Some.is at (c.in_ok-_due.ensures w m k) in
    put_text _ _ c.put_end-2.result _ _ _ _ (ap (λ es. end_row es ++ BELOW.now) (sym next.one)) c.put_end-2.ensures
