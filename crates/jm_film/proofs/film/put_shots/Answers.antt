-- The view behind the events that are not shown, and those that are.
use Rattle.std.proofs.Common.{subst}
use Rattle.std.specs.Prelude.{OnOk}
use Rattle.std.proofs.lemmas.Result.{err_from_is_err_and}
use Rattle.jm_machine.specs.View.{MatchesWorld}
use Rattle.jm_page.proofs.Pieces.{put_nothing}
use Rattle.jm_page.specs.declared.page.TheConstants.{BELOW}
use Rattle.jm_film.proofs.Fronts.{put_fault_first, put_last}
use Rattle.jm_film.proofs.Passing.{total_is, world_is}
use Rattle.jm_film.proofs.film.put_shots.Goals as goal

pub returns-in_err-skipped-clause-told : goal.returns-in_err-skipped-clause-told
returns-in_err-skipped-clause-told g c =
    let p = err_from_is_err_and c.from_residual.result c.from_residual.ensures.1 in
    rw (p.1, p.2) (λ w m k. put_nothing g.P.PageWriter.wrote g.P.PageWriter.broke (Unit {0}) g.met.P.PageWriter.wrote_none c.args.page.now _)

pub returns-in_err-filming-clause-told : goal.returns-in_err-filming-clause-told
returns-in_err-filming-clause-told g c =
    let p = err_from_is_err_and c.from_residual-in_err-filming.result c.from_residual-in_err-filming.ensures.1 in
    rw (p.1, p.2) (λ w m k.
    let (now, matches, knows, reached) = c.in_ok-skipped.ensures w m k in
    let total = total_is w _ c.args.window.from now _ _ _ reached c.args.window.steps BELOW.now in
    put_fault_first g.P.PageWriter.wrote g.P.PageWriter.broke (Unit {0}) (Unit {0}) _ _ _ _ _ _ total (c.in_err-filming.ensures.put now matches))

pub returns-clause-told : goal.returns-clause-told
returns-clause-told g c = λ w m k.
    let (now, matches, knows, reached) = c.in_ok-skipped.ensures w m k in
    let total = total_is w _ c.args.window.from now _ _ _ reached c.args.window.steps BELOW.now in
    let shown = rw (c.in_ok-filming.ensures.begun now matches) at (c.show.ensures.told now matches knows) in
    put_last _ _ g.met.P.PageWriter.wrote_more g.met.P.PageWriter.broke_behind c.show.result _ _ _ _ _ _ total (c.in_ok-filming.ensures.put now matches) shown

pub returns-clause-made : goal.returns-clause-made
returns-clause-made g c = λ w m k.
    let (now, matches, knows, reached) = c.in_ok-skipped.ensures w m k in
    subst (λ v. OnOk c.show.result (MatchesWorld c.show.new.machine v)) (world_is w _ c.args.window.from now _ _ _ reached c.args.window.steps) (c.show.ensures.made now matches knows)
