-- It is written whole, or not.
use Rattle.std.proofs.lemmas.Result.{err_from_is_err_and}
use Rattle.jm_page.proofs.Pieces.{put_nothing}
use Rattle.jm_film.proofs.Fronts.{behind_one, put_of}
use Rattle.jm_film.proofs.shots.put_end.Goals as goal

pub returns-in_err-write_row : goal.returns-in_err-write_row
returns-in_err-write_row g c =
    let p = err_from_is_err_and c.from_residual.result c.from_residual.ensures.1 in
    rw (p.1, p.2) (put_nothing g.P.PageWriter.wrote g.P.PageWriter.broke (Unit {0}) g.met.P.PageWriter.wrote_none c.args.page.now _)

pub returns-in_err-extend_from_slice : goal.returns-in_err-extend_from_slice
returns-in_err-extend_from_slice g c =
    let p = err_from_is_err_and c.from_residual-in_err-extend_from_slice.result c.from_residual-in_err-extend_from_slice.ensures.1 in
    rw (p.1, p.2) (put_nothing g.P.PageWriter.wrote g.P.PageWriter.broke (Unit {0}) g.met.P.PageWriter.wrote_none c.args.page.now _)

pub returns : goal.returns
returns g c =
    let whole = behind_one _ _ _ _ _ _ c.in_ok-write_row.ensures.written c.in_ok-extend_from_slice.ensures.items c.as_bytes.ensures.value in
    put_of _ _ c.put_piece.result _ _ _ _ _ whole c.requires c.put_piece.ensures.put
