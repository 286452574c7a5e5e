-- Each turn passes over one event.
use Rattle.std.proofs.Common.{◌≡◌, ◌≤◌, ◌∷◌, ap, sym, subst, ◌∙◌, arith}
use Rattle.jm_world.specs.Run.{after}
use Rattle.jm_film.specs.Runs.{waits_behind}
use Rattle.jm_film.proofs.Passing.{at_first, count_is, left_is, one_more, reached}
use Rattle.jm_film.proofs.skipping.skip.Goals as goal

pub loop-count-init : goal.loop-count-init
loop-count-init g c = λ w m k. (w, m, k, at_first w (g.S.EventsDue.due c.args.events.now w) c.new-waiting.result.items c.new-waiting.ensures.items)

pub loop-count-preserved : goal.loop-count-preserved
loop-count-preserved g c = λ w m k.
    let (now, matches, knows, so_far) = c.loop-count.invariant w m k in
    let event = c.in-Some.due.event in
    let next = rw c.in-Some.is at (c.in_ok-due.ensures now matches knows) in
    let seen = c.in_ok-waiting.ensures.seen now matches in
    let due = subst (λ s. g.S.EventsDue.due c.loop-count.events now ≡ event ∷ g.S.EventsDue.due s (after now event).world) (sym seen) next.one in
    let waits = c.in_ok-waiting.ensures.waits now matches ∙ ap (λ ws. waits_behind now ws event) c.deref.ensures.value in (
      (after now event).world,
      c.in_ok-waiting.ensures.made now matches,
      subst (λ s. g.S.EventsDue.knows s (after now event).world) (sym seen) next.kept,
      one_more w now _ _ _ event c.loop-count.count c.loop-count.waiting.items _ due waits so_far,
    )

pub returns-in_default : goal.returns-in_default
returns-in_default g c = λ w m k.
    let (now, matches, knows, so_far) = c.loop-count.invariant w m k in
    let count = c.loop-count.count in
    let due = rw c.in_default.is at (c.in_ok-due.ensures now matches knows) in
    let few : count ≤ c.args.from = omega arith in
    let there = left_is w now _ _ _ count _ (due.0 ∙ sym due.1) so_far in
    (now, matches, due.2, reached w now _ _ c.args.from count _ few (λ less. due.1) there)

pub returns : goal.returns
returns g c = λ w m k.
    let (now, matches, knows, so_far) = c.loop-count.invariant w m k in
    let from = c.args.from in
    let same : c.loop-count.count ≡ from = omega arith in
    let few : from ≤ from = omega arith in
    let there = count_is w now _ _ c.loop-count.count from _ same so_far in
    (now, matches, knows, reached w now _ _ from from _ few (λ less. absurd (omega arith)) there)
