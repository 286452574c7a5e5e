-- Each turn of the loop makes the next of them.
use Rattle.std.proofs.Common.{[], refl, subst, sym}
use Rattle.std.proofs.lemmas.Result.{err_from_is_err_and}
use Rattle.jm_world.specs.Run.{run_from}
use Rattle.jm_machine.specs.View.{MatchesWorld}
use Rattle.jm_execute.proofs.Making.{begun, broken_off, ended, is_due}
use Rattle.jm_execute.proofs.one_worker.make_events.Goals as goal

pub loop-init : goal.loop-init
loop-init g c = record { made = []; has = begun g.R.Origin.first c.args.stress c.args.journal.now c.requires.none c.requires.first; whole = refl; kept = c.requires.knows }

pub returns-in_err-due : goal.returns-in_err-due
returns-in_err-due g c =
    let p = err_from_is_err_and c.from_residual.result c.from_residual.ensures.1 in
    rw p.1 (broken_off g.S.EventsDue.due g.S.EventsDue.knows g.R.Origin.first c.args.stress _ c.loop.source c.loop.journal c.loop.invariant)

pub loop-preserved : goal.loop-preserved
loop-preserved g c =
    let so_far = c.loop.invariant in
    let w = run_from g.R.Origin.first so_far.made in
    c.in_ok-make_due-in-Some.ensures _
    (is_due g.S.EventsDue.due g.S.EventsDue.knows g.R.Origin.first c.args.stress _ c.loop.source c.loop.journal so_far g.S.EventsDue.seen g.S.EventsDue.behind c.in-Some.due c.next.new.self
    (rw c.in-Some.is at (c.in_ok-due.ensures w (subst (λ m. MatchesWorld m w) (sym c.machine.ensures.machine) so_far.has.matches) so_far.kept)))

pub returns-in_err-make_due-in-Some : goal.returns-in_err-make_due-in-Some
returns-in_err-make_due-in-Some g c =
    let so_far = c.loop.invariant in
    let w = run_from g.R.Origin.first so_far.made in
    let p = err_from_is_err_and c.from_residual-in_err-make_due-in-Some.result c.from_residual-in_err-make_due-in-Some.ensures.1 in
    rw p.1 (c.in_err-make_due-in-Some.ensures _
    (is_due g.S.EventsDue.due g.S.EventsDue.knows g.R.Origin.first c.args.stress _ c.loop.source c.loop.journal so_far g.S.EventsDue.seen g.S.EventsDue.behind c.in-Some.due c.next.new.self
    (rw c.in-Some.is at (c.in_ok-due.ensures w (subst (λ m. MatchesWorld m w) (sym c.machine.ensures.machine) so_far.has.matches) so_far.kept))))

pub returns-in-None : goal.returns-in-None
returns-in-None g c =
    let so_far = c.loop.invariant in
    let w = run_from g.R.Origin.first so_far.made in
    let none = rw c.in-None.is at (c.in_ok-due.ensures w (subst (λ m. MatchesWorld m w) (sym c.machine.ensures.machine) so_far.has.matches) so_far.kept) in
    ended g.S.EventsDue.due g.S.EventsDue.knows g.R.Origin.first c.args.stress _ c.loop.source c.loop.journal so_far c.collect.result c.collect.new.journal none.0
    (c.collect.ensures so_far.made so_far.has)

pub returns : goal.returns
returns g c = broken_off g.S.EventsDue.due g.S.EventsDue.knows g.R.Origin.first c.args.stress _ c.loop.source c.loop.journal c.loop.invariant
