-- Each turn makes an event, and keeps what it came to.
use Rattle.std.proofs.Common.{◌≡◌, ◌∷◌, refl, sym, ap, subst, ◌∙◌}
use Rattle.jm_world.specs.RoundRobin.{is_blocked}
use Rattle.jm_world.specs.Run.{after}
use Rattle.jm_machine.specs.View.{MatchesWorld}
use Rattle.jm_why.specs.Kept.{kept_from}
use Rattle.jm_why.proofs.Watched.{one_kept, one_made, none_kept}
use Rattle.jm_why.proofs.watching.watch.Goals as goal
use Rattle.jm_trace.proofs.Lines.{none_made}

pub loop-made-init : goal.loop-made-init
loop-made-init g c = λ w m k. (w, m, k, ap (λ k. kept_from w k (g.S.EventsDue.due c.args.events.now w)) (sym c.nothing-kept.ensures), refl)

pub loop-made-preserved : goal.loop-made-preserved
loop-made-preserved g c = λ w m k.
    let so_far = c.loop-made.invariant w m k in
    let now = so_far.0 in
    let event = c.in-Some.due.event in
    let next = rw c.in-Some.is at (c.in_ok-due.ensures now so_far.1 so_far.2) in
    let made = c.in_ok-reply.ensures.made now so_far.1 in
    let seen = sym (c.see.ensures ∙ ap (g.S.EventsDue.seen _) (c.is_blocked.ensures ∙ ap (λ r. is_blocked r.kind) made.1)) in
    let due = subst (λ s. g.S.EventsDue.due c.loop-made.events now ≡ event ∷ g.S.EventsDue.due s (after now event).world) seen next.one in (
      (after now event).world,
      made.0,
      subst (λ s. g.S.EventsDue.knows s (after now event).world) seen next.kept,
      one_kept now _ _ _ _ _ event due (c.in_ok-reply.ensures.kept now so_far.1) so_far.3,
      one_made now _ _ _ event due so_far.4,
    )

pub returns-in_default-clause-made : goal.returns-in_default-clause-made
returns-in_default-clause-made g c = λ w m k.
    let so_far = c.loop-made.invariant w m k in
    let none = rw c.in_default.is at (c.in_ok-due.ensures so_far.0 so_far.1 so_far.2) in
    subst (MatchesWorld c.loop-made.machine) (none_made so_far.0 _ _ none.0 so_far.4) so_far.1

pub returns-in_default-clause-kept : goal.returns-in_default-clause-kept
returns-in_default-clause-kept g c = λ w m k.
    let so_far = c.loop-made.invariant w m k in
    let none = rw c.in_default.is at (c.in_ok-due.ensures so_far.0 so_far.1 so_far.2) in
    none_kept so_far.0 _ _ _ none.0 so_far.3
