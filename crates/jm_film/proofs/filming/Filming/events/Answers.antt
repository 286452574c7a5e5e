-- Each turn makes and writes an event.
use Rattle.std.proofs.Common.{◌≤◌, length, refl, subst, arith}
use Rattle.jm_machine.specs.View.{MatchesWorld}
use Rattle.jm_film.proofs.EventsTold.{one_more_told, one_more_made, all_are_told, all_are_made}
use Rattle.jm_film.proofs.Passing.{next_at}
use Rattle.jm_film.proofs.filming.Filming.events.Goals as goal

pub loop-next-init : goal.loop-next-init
loop-next-init g c = λ w m. (w, m, refl, refl)

pub loop-next-preserved : goal.loop-next-preserved
loop-next-preserved g c = λ w m.
    let so_far = c.loop-next.invariant w m in
    let now = so_far.0 in
    let es = c.args.events.now in
    let i = c.loop-next.next-index in
    let first = next_at es i _ c.loop-next-test.true in (
      _,
      (c.in_ok-event.ensures.made now so_far.1).0,
      one_more_told now _ _ es i _ _ _ _ first (c.in_ok-event.ensures.written now so_far.1) (c.in_ok-event.ensures.behind now so_far.1) so_far.2,
      one_more_made now _ es i _ first so_far.3,
    )

pub returns-clause-written : goal.returns-clause-written
returns-clause-written g c = λ w m.
    let so_far = c.loop-next.invariant w m in
    let past : length c.args.events.now ≤ c.loop-next.next-index = omega arith in
    all_are_told so_far.0 _ c.args.events.now c.loop-next.next-index _ _ past so_far.2

pub returns-clause-made : goal.returns-clause-made
returns-clause-made g c = λ w m.
    let so_far = c.loop-next.invariant w m in
    let past : length c.args.events.now ≤ c.loop-next.next-index = omega arith in
    subst (MatchesWorld c.loop-next.machine) (all_are_made so_far.0 _ c.args.events.now c.loop-next.next-index past so_far.3) so_far.1
