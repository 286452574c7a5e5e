-- The three parts, one behind the other.
use Rattle.std.proofs.Common.{◌∙◌, append_assoc}
use Rattle.std.proofs.lemmas.Result.{err_from_is_err_and}
use Rattle.std.specs.List.{flat_map}
use Rattle.jm_page.specs.Data.{row_text}
use Rattle.jm_page.specs.declared.row.Row.TheVariants.{Title}
use Rattle.jm_page.specs.Listings.{class_rows, source_rows}
use Rattle.jm_page.specs.declared.page.TheConstants.{ABOVE}
use Rattle.jm_page.proofs.Pieces.{put_nothing}
use Rattle.jm_film.specs.FilmPages.{title_of}
use Rattle.jm_film.proofs.Fronts.{fault_of, front_parts, front_whole, put_fault, put_fault_first, put_last, written_of}
use Rattle.jm_film.proofs.front.put_front.Goals as goal

pub returns-in_err-write_top-clause-put : goal.returns-in_err-write_top-clause-put
returns-in_err-write_top-clause-put g c =
    let p = err_from_is_err_and c.from_residual.result c.from_residual.ensures.1 in
    rw (p.1, p.2) (put_nothing g.P.PageWriter.wrote g.P.PageWriter.broke (Unit {0}) g.met.P.PageWriter.wrote_none c.args.page.now _)

pub returns-in_err-put_piece-clause-put : goal.returns-in_err-put_piece-clause-put
returns-in_err-put_piece-clause-put g c =
    let p = err_from_is_err_and c.from_residual-in_err-put_piece.result c.from_residual-in_err-put_piece.ensures.1 in
    let top = (c.in_ok-write_top.ensures ∙ append_assoc c.args.piece.now.items ABOVE.now (row_text Title (title_of c.args.program.now))) in
    rw (p.1, p.2) (put_fault_first g.P.PageWriter.wrote g.P.PageWriter.broke (Unit {0}) (Unit {0}) _ _ _ _ _ _ (front_parts ABOVE.now (row_text Title (title_of c.args.program.now)) (flat_map class_rows c.args.program.now) (flat_map source_rows c.args.sources.now))
    (fault_of g.P.PageWriter.wrote g.P.PageWriter.broke (Unit {0}) (Unit {0}) _ _ _ _ _ _ top c.requires c.in_err-put_piece.ensures.put))

pub returns-in_err-put_classes-clause-put : goal.returns-in_err-put_classes-clause-put
returns-in_err-put_classes-clause-put g c =
    let p = err_from_is_err_and c.from_residual-in_err-put_classes.result c.from_residual-in_err-put_classes.ensures.1 in
    let top = (c.in_ok-write_top.ensures ∙ append_assoc c.args.piece.now.items ABOVE.now (row_text Title (title_of c.args.program.now))) in
    let put = written_of g.P.PageWriter.wrote g.P.PageWriter.broke _ _ _ _ _ top c.requires c.in_ok-put_piece.ensures.put in
    rw (p.1, p.2) (put_fault _ _ g.met.P.PageWriter.wrote_more g.met.P.PageWriter.broke_behind (Unit {0}) (Unit {0}) _ _ _ _ _ _ _ _ (front_parts ABOVE.now (row_text Title (title_of c.args.program.now)) (flat_map class_rows c.args.program.now) (flat_map source_rows c.args.sources.now)) put c.in_err-put_classes.ensures.put)

pub returns-clause-put : goal.returns-clause-put
returns-clause-put g c =
    let top = (c.in_ok-write_top.ensures ∙ append_assoc c.args.piece.now.items ABOVE.now (row_text Title (title_of c.args.program.now))) in
    let put = written_of g.P.PageWriter.wrote g.P.PageWriter.broke _ _ _ _ _ top c.requires c.in_ok-put_piece.ensures.put in
    put_last _ _ g.met.P.PageWriter.wrote_more g.met.P.PageWriter.broke_behind _ _ _ _ _ _ _ (front_whole ABOVE.now (row_text Title (title_of c.args.program.now)) (flat_map class_rows c.args.program.now) (flat_map source_rows c.args.sources.now))
    (g.met.P.PageWriter.wrote_more _ _ _ _ _ put c.in_ok-put_classes.ensures.put) c.put_sources.ensures.put
