-- It is written whole, or not.
use Rattle.std.proofs.Common.{ℕ, List, ◌++◌, ap, ◌∙◌}
use Rattle.std.proofs.lemmas.Result.{err_from_is_err_and}
use Rattle.jm_world.specs.World.{World}
use Rattle.jm_machine.specs.View.{MatchesWorld}
use Rattle.jm_page.proofs.Pieces.{put_nothing}
use Rattle.jm_page.specs.Data.{view_text}
use Rattle.jm_film.specs.Shown.{view}
use Rattle.jm_film.proofs.Fronts.{fault_of, written_of}
use Rattle.jm_film.proofs.film.put_view.Goals as goal

pub returns-in_err-number-clause-put : goal.returns-in_err-number-clause-put
returns-in_err-number-clause-put g c =
    let p = err_from_is_err_and c.from_residual.result c.from_residual.ensures.1 in
    rw (p.1, p.2) (λ w m. put_nothing g.P.PageWriter.wrote g.P.PageWriter.broke (Unit {0}) g.met.P.PageWriter.wrote_none c.args.page.now _)

pub returns-in_err-filming-clause-put : goal.returns-in_err-filming-clause-put
returns-in_err-filming-clause-put g c =
    let p = err_from_is_err_and c.from_residual-in_err-filming.result c.from_residual-in_err-filming.ensures.1 in
    rw (p.1, p.2) (λ w m. put_nothing g.P.PageWriter.wrote g.P.PageWriter.broke (Unit {0}) g.met.P.PageWriter.wrote_none c.args.page.now _)

pub returns-in_err-put_piece-clause-put : goal.returns-in_err-put_piece-clause-put
returns-in_err-put_piece-clause-put g c =
    let p = err_from_is_err_and c.from_residual-in_err-put_piece.result c.from_residual-in_err-put_piece.ensures.1 in
    let written = λ (w : World) (m : MatchesWorld c.args.machine.now w).
    c.in_ok-filming.ensures.written w m
    ∙ ap (λ (n : List ℕ). c.args.piece.now.items ++ view_text n (view w c.args.skipped.waiting.items)) (c.as_str.ensures.value ∙ c.in_ok-number.ensures.ok) in
    rw (p.1, p.2) (λ w m. fault_of g.P.PageWriter.wrote g.P.PageWriter.broke (Unit {0}) (Unit {0}) _ _ _ _ _ _ (written w m) c.requires c.in_err-put_piece.ensures.put)

pub returns-clause-put : goal.returns-clause-put
returns-clause-put g c =
    let written = λ (w : World) (m : MatchesWorld c.args.machine.now w).
    c.in_ok-filming.ensures.written w m
    ∙ ap (λ (n : List ℕ). c.args.piece.now.items ++ view_text n (view w c.args.skipped.waiting.items)) (c.as_str.ensures.value ∙ c.in_ok-number.ensures.ok) in
    λ w m. written_of g.P.PageWriter.wrote g.P.PageWriter.broke _ _ _ _ _ (written w m) c.requires c.in_ok-put_piece.ensures.put
