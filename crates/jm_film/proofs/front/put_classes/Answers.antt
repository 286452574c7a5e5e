-- Each turn writes the rows of one more.
use Rattle.std.proofs.Common.{◌≤◌, [], length, refl, arith}
use Rattle.std.proofs.lemmas.Result.{err_from_is_err_and}
use Rattle.jm_page.specs.Listings.{class_rows}
use Rattle.jm_film.proofs.Fronts.{all_rows, fault_of, one_more_row, one_next, put_fault, put_refused, put_same, written_of}
use Rattle.jm_film.proofs.front.put_classes.Goals as goal
use Rattle.jm_values.proofs.Lists.{first_left as next_item}

pub loop-class-init : goal.loop-class-init
loop-class-init g c = (c.requires, ([], g.met.P.PageWriter.wrote_none _, refl))

pub loop-class-preserved : goal.loop-class-preserved
loop-class-preserved g c =
    let (empty, (done, wrote, so_far)) = c.loop-class.invariant in
    let xs = c.args.program.now in
    let i = c.loop-class.class-index in
    let put = written_of g.P.PageWriter.wrote g.P.PageWriter.broke _ _ _ _ _ c.in_ok-write_class.ensures.written empty c.in_ok-put_piece.ensures.put in (
      c.in_ok-put_piece.ensures.empty,
      (_, g.met.P.PageWriter.wrote_more _ _ _ done _ wrote put, one_more_row class_rows xs i _ done _ (next_item xs i _ c.loop-class-test.true c.class-item.is) so_far),
    )

pub returns-in_err-write_class-clause-put : goal.returns-in_err-write_class-clause-put
returns-in_err-write_class-clause-put g c =
    let (empty, (done, wrote, so_far)) = c.loop-class.invariant in
    let p = err_from_is_err_and c.from_residual.result c.from_residual.ensures.1 in
    rw (p.1, p.2) (put_refused _ _ g.met.P.PageWriter.wrote_more g.met.P.PageWriter.broke_behind (Unit {0}) g.met.P.PageWriter.wrote_none _ _ done _ _ so_far wrote)

pub returns-in_err-put_piece-clause-put : goal.returns-in_err-put_piece-clause-put
returns-in_err-put_piece-clause-put g c =
    let (empty, (done, wrote, so_far)) = c.loop-class.invariant in
    let xs = c.args.program.now in
    let i = c.loop-class.class-index in
    let left = next_item xs i _ c.loop-class-test.true c.class-item.is in
    let put = fault_of g.P.PageWriter.wrote g.P.PageWriter.broke (Unit {0}) (Unit {0}) _ _ _ _ _ _ c.in_ok-write_class.ensures.written empty c.in_err-put_piece.ensures.put in
    let p = err_from_is_err_and c.from_residual-in_err-put_piece.result c.from_residual-in_err-put_piece.ensures.1 in
    rw (p.1, p.2) (put_fault _ _ g.met.P.PageWriter.wrote_more g.met.P.PageWriter.broke_behind (Unit {0}) (Unit {0}) _ _ _ _ done _ _ _ (one_next class_rows xs i _ done _ left so_far) wrote put)

pub returns-clause-put : goal.returns-clause-put
returns-clause-put g c =
    let (empty, (done, wrote, so_far)) = c.loop-class.invariant in
    let past : length c.args.program.now ≤ c.loop-class.class-index = omega arith in
    put_same g.P.PageWriter.wrote g.P.PageWriter.broke _ _ done _ (all_rows class_rows c.args.program.now c.loop-class.class-index done _ past so_far) wrote
