use Rattle.jm_machine.specs.Collected.{LeavesAfter}
use Rattle.jm_machine.proofs.Collected.{holds_reachable, stopped_leaves, told_ok, stopped_collects, step_collects, minor_collects, full_collects}
use Rattle.std.proofs.Common.{refl, sym, subst, ap, ◌∙◌, MatchResult}
use Rattle.jm_world.specs.Run.{After, after, after_event}
use Rattle.jm_world.specs.Matches.{Matches}
use Rattle.jm_state.specs.Parts.{state_parts}
use Rattle.jm_heap.proofs.NewPlaces.{none_new, none_new_same}
use Rattle.jm_machine.specs.Answered.{IsAnswered, finds_work}
use Rattle.jm_machine.proofs.Events.{after_stop, after_going, some_is, none_is, collected, collection_wants, step_wants}
use Rattle.jm_machine.proofs.event.make_event.Goals as goal

pub returns-then-is_some-clause-event : goal.returns-then-is_some-clause-event
returns-then-is_some-clause-event g c = λ w m.
    let x = some_is c.args.state.now.stop (sym c.is_some.ensures ∙ c.if-is_some.true) in
    after_stop _ _ _ w m x.0 x.1 c.args.event

pub returns-in-Step-clause-event : goal.returns-in-Step-clause-event
returns-in-Step-clause-event g c = λ w m.
    let n = none_is c.args.state.now.stop (sym c.is_some.ensures ∙ c.if-is_some.false) in
    let new = c.step_numbered.new.state in
    subst (λ (a : After). MatchResult c.step_numbered.result (λ k. IsAnswered (state_parts g.H.Heap.content c.args.linked.now new) k a) (λ _. Matches (state_parts g.H.Heap.content c.args.linked.now new) w))
    (sym (after_going _ _ _ w m n c.args.event ∙ ap (after_event w) c.in-Step.is)) (c.step_numbered.ensures.event w m)

pub returns-in-Minor-clause-event : goal.returns-in-Minor-clause-event
returns-in-Minor-clause-event g c = λ w m.
    let n = none_is c.args.state.now.stop (sym c.is_some.ensures ∙ c.if-is_some.false) in
    collected c.collect_kind.result _ w (after w c.args.event) (after_going _ _ _ w m n c.args.event ∙ ap (after_event w) c.in-Minor.is) c.collect_kind.ensures.kind (c.collect_kind.ensures.kept w m)

pub returns-in-Full-clause-event : goal.returns-in-Full-clause-event
returns-in-Full-clause-event g c = λ w m.
    let n = none_is c.args.state.now.stop (sym c.is_some.ensures ∙ c.if-is_some.false) in
    let call = c.collect_kind-in-Full in
    collected call.result _ w (after w c.args.event) (after_going _ _ _ w m n c.args.event ∙ ap (after_event w) c.in-Full.is) call.ensures.kind (call.ensures.kept w m)

pub returns-then-is_some-clause-leaves : goal.returns-then-is_some-clause-leaves
returns-then-is_some-clause-leaves g c w m =
    let x = some_is c.args.state.now.stop (sym c.is_some.ensures ∙ c.if-is_some.true) in
    stopped_leaves _ _ _ w m x.1 c.args.event _

pub returns-in-Full-clause-leaves : goal.returns-in-Full-clause-leaves
returns-in-Full-clause-leaves g c w m =
    let call = c.collect_kind-in-Full in
    told_ok call.result (λ left. subst (λ e. LeavesAfter e (g.H.Heap.content call.new.state.heap) w) (sym c.in-Full.is) (λ none. holds_reachable _ _ _ w (call.ensures.kept w m) left)) (call.ensures.leaves w m)

pub returns-then-is_some-clause-collects : goal.returns-then-is_some-clause-collects
returns-then-is_some-clause-collects g c =
    let x = some_is c.args.state.now.stop (sym c.is_some.ensures ∙ c.if-is_some.true) in
    stopped_collects g.H.Heap.leaves c.args.event _ _ _ _ x.1

pub returns-in-Step-clause-collects : goal.returns-in-Step-clause-collects
returns-in-Step-clause-collects g c = step_collects g.H.Heap.leaves c.args.event _ _ _ _ c.step_numbered.result _ c.in-Step.is

pub returns-in-Minor-clause-collects : goal.returns-in-Minor-clause-collects
returns-in-Minor-clause-collects g c = minor_collects g.H.Heap.leaves c.args.event _ _ _ _ c.collect_kind.result c.in-Minor.is c.collect_kind.ensures.word

pub returns-in-Full-clause-collects : goal.returns-in-Full-clause-collects
returns-in-Full-clause-collects g c = full_collects g.H.Heap.leaves c.args.event _ _ _ _ c.collect_kind-in-Full.result c.in-Full.is c.collect_kind-in-Full.ensures.word

pub returns-then-is_some-clause-nursery : goal.returns-then-is_some-clause-nursery
returns-then-is_some-clause-nursery g c = none_new_same _ _ _ refl

pub returns-in-Minor-clause-nursery : goal.returns-in-Minor-clause-nursery
returns-in-Minor-clause-nursery g c = none_new _ _ _ c.collect_kind.ensures.as_before

pub returns-in-Full-clause-nursery : goal.returns-in-Full-clause-nursery
returns-in-Full-clause-nursery g c = none_new _ _ _ c.collect_kind-in-Full.ensures.as_before

pub returns-in-Step-clause-wants : goal.returns-in-Step-clause-wants
returns-in-Step-clause-wants g c = λ w m.
    step_wants _ _ _ w m (none_is c.args.state.now.stop (sym c.is_some.ensures ∙ c.if-is_some.false)) c.args.event c.in-Step.is c.step_numbered.result (c.step_numbered.ensures.live w m)

pub returns-in-Minor-clause-wants : goal.returns-in-Minor-clause-wants
returns-in-Minor-clause-wants g c = λ w m.
    collection_wants _ _ _ w m (none_is c.args.state.now.stop (sym c.is_some.ensures ∙ c.if-is_some.false)) c.args.event (ap (finds_work w) c.in-Minor.is) c.collect_kind.result

pub returns-in-Full-clause-wants : goal.returns-in-Full-clause-wants
returns-in-Full-clause-wants g c = λ w m.
    collection_wants _ _ _ w m (none_is c.args.state.now.stop (sym c.is_some.ensures ∙ c.if-is_some.false)) c.args.event (ap (finds_work w) c.in-Full.is) c.collect_kind-in-Full.result
