-- Each turn makes an event, and writes its line if it is shown.
use Rattle.std.proofs.Common.{◌≡◌, ◌∷◌, ◌++◌, [], refl, sym, ap, subst, ◌∙◌}
use Rattle.std.proofs.lemmas.Result.{err_from_is_err_and}
use Rattle.jm_world.specs.Run.{after, run_from}
use Rattle.jm_machine.specs.View.{MatchesWorld}
use Rattle.jm_trace.specs.Traces.{trace, trace_from}
use Rattle.jm_trace.proofs.Lines.{fault_told, one_more, written_more, none_due, none_made}
use Rattle.jm_trace.proofs.trace.write_trace.Goals as goal

pub loop-number-init : goal.loop-number-init
loop-number-init g c = λ w m k. (w, m, k, [], g.met.P.PageWriter.wrote_none c.args.page.now, refl, refl)

pub loop-number-preserved : goal.loop-number-preserved
loop-number-preserved g c = λ w m k.
    let so_far = c.loop-number.invariant w m k in
    let now = so_far.0 in
    let event = c.in-Some.due.event in
    let next = rw c.in-Some.is at (c.in-Ok.ensures now so_far.1 so_far.2) in
    let seen = sym (c.in_ok-put_told.ensures.seen now so_far.1) in
    let due = subst (λ s. g.S.EventsDue.due c.loop-number.events now ≡ event ∷ g.S.EventsDue.due s (after now event).world) seen next.one in
    let told = one_more c.args.shown c.loop-number.number c.loop-number.left _ _ now _ _ event c.is_shown-told.ensures c.left_behind-left.ensures due in (
      (after now event).world,
      c.in_ok-put_told.ensures.made now so_far.1,
      subst (λ s. g.S.EventsDue.knows s (after now event).world) seen next.kept,
      _,
      g.met.P.PageWriter.wrote_more _ _ _ _ _ so_far.4 (c.in_ok-put_told.ensures.told now so_far.1),
      written_more so_far.3 _ _ _ _ told so_far.5,
      so_far.6 ∙ ap (run_from now) due,
    )

-- the events that are due could not be told
pub returns-in_default-clause-written : goal.returns-in_default-clause-written
returns-in_default-clause-written g c = λ w m k.
    let so_far = c.loop-number.invariant w m k in
    (so_far.3, (_, so_far.5), so_far.4)

pub returns-in_default-next-clause-written : goal.returns-in_default-next-clause-written
returns-in_default-next-clause-written g c = λ w m k.
    let so_far = c.loop-number.invariant w m k in
    let none = rw c.in_default-next.is at (c.in-Ok.ensures so_far.0 so_far.1 so_far.2) in
    subst (λ t. g.P.PageWriter.wrote c.args.page.now t c.loop-number.page) (none_due c.args.shown c.loop-number.number c.loop-number.left so_far.0 _ so_far.3 _ none.0 so_far.5) so_far.4

pub returns-in_default-next-clause-made : goal.returns-in_default-next-clause-made
returns-in_default-next-clause-made g c = λ w m k.
    let so_far = c.loop-number.invariant w m k in
    let none = rw c.in_default-next.is at (c.in-Ok.ensures so_far.0 so_far.1 so_far.2) in
    subst (MatchesWorld c.loop-number.machine) (none_made so_far.0 _ _ none.0 so_far.6) so_far.1

pub returns-in_err-put_told-clause-written : goal.returns-in_err-put_told-clause-written
returns-in_err-put_told-clause-written g c =
    let p = err_from_is_err_and c.from_residual.result c.from_residual.ensures.1 in
    rw (p.1, p.2) (λ w m k.
    let so_far = c.loop-number.invariant w m k in
    let now = so_far.0 in
    let event = c.in-Some.due.event in
    let next = rw c.in-Some.is at (c.in-Ok.ensures now so_far.1 so_far.2) in
    let told = one_more c.args.shown c.loop-number.number c.loop-number.left _ _ now _ _ event c.is_shown-told.ensures refl next.one in
    fault_told _ _ g.met.P.PageWriter.wrote_more g.met.P.PageWriter.broke_behind (Unit {0}) (Unit {0}) _ _ _ _ so_far.3 _ _ _ (so_far.5 ∙ ap (λ t. so_far.3 ++ t) told) so_far.4 (c.in_err-put_told.ensures.told now so_far.1))

pub returns-clause-written : goal.returns-clause-written
returns-clause-written g c = λ w m k.
    let so_far = c.loop-number.invariant w m k in
    (so_far.3, (_, so_far.5), so_far.4)
