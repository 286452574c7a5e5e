use Rattle.std.proofs.Common.{refl, sym, subst, ap, ◌∙◌, Some, MatchResult}
use Rattle.jm_world.specs.Run.{After}
use Rattle.jm_values.proofs.Outcomes.{on_err}
use Rattle.jm_world.specs.Matches.{Matches}
use Rattle.jm_state.specs.Parts.{state_parts}
use Rattle.jm_heap.proofs.NewPlaces.{none_new_same}
use Rattle.jm_machine.specs.Answered.{IsAnswered}
use Rattle.jm_machine.specs.Threads.{ending_numbered}
use Rattle.jm_machine.proofs.Events.{none_answered, ended_answered, lives, steps}
use Rattle.jm_machine.proofs.event.step_numbered.Goals as goal

pub returns-in-None-clause-event : goal.returns-in-None-clause-event
returns-in-None-clause-event g c = λ w m.
    none_answered _ _ _ w m c.args.number (ap (λ ts. ending_numbered ts c.args.number) (sym c.deref.ensures.value) ∙ sym c.in-None.ensures)

pub step_running-requires-clause-running : goal.step_running-requires-clause-running
step_running-requires-clause-running g c = ap (λ ts. ending_numbered ts c.args.number) (sym c.deref.ensures.value) ∙ sym c.in-Some-Running.ensures ∙ ap Some c.in-Some-Running.field-0-is

pub returns-in-Some-Returned-clause-event : goal.returns-in-Some-Returned-clause-event
returns-in-Some-Returned-clause-event g c = λ w m.
    ended_answered _ _ _ w m c.args.number _ (ap (λ ts. ending_numbered ts c.args.number) (sym c.deref.ensures.value) ∙ sym c.in-Some-Returned.ensures ∙ ap Some c.in-Some-Returned.field-0-is) refl

pub returns-in-Some-EndedBy-clause-event : goal.returns-in-Some-EndedBy-clause-event
returns-in-Some-EndedBy-clause-event g c = λ w m.
    ended_answered _ _ _ w m c.args.number _ (ap (λ ts. ending_numbered ts c.args.number) (sym c.deref.ensures.value) ∙ sym c.in-Some-EndedBy.ensures ∙ ap Some c.in-Some-EndedBy.field-0-is) refl

pub returns-in-Some-Running-clause-event : goal.returns-in-Some-Running-clause-event
returns-in-Some-Running-clause-event g c = λ w m.
    let x = steps _ _ _ w m c.args.number (ap (λ ts. ending_numbered ts c.args.number) (sym c.deref.ensures.value) ∙ sym c.in-Some-Running.ensures ∙ ap Some c.in-Some-Running.field-0-is) in
    let new = c.step_running.new.state in
    subst (λ (a : After). MatchResult c.step_running.result (λ k. IsAnswered (state_parts g.H.Heap.content c.args.linked.now new) k a) (λ _. Matches (state_parts g.H.Heap.content c.args.linked.now new) w)) (sym x.2) (c.step_running.ensures.event w x.0 m x.1)

pub returns-in-None-clause-nursery : goal.returns-in-None-clause-nursery
returns-in-None-clause-nursery g c = none_new_same _ _ _ refl

pub returns-in-Some-Returned-clause-nursery : goal.returns-in-Some-Returned-clause-nursery
returns-in-Some-Returned-clause-nursery g c = none_new_same _ _ _ refl

pub returns-in-Some-EndedBy-clause-nursery : goal.returns-in-Some-EndedBy-clause-nursery
returns-in-Some-EndedBy-clause-nursery g c = none_new_same _ _ _ refl

pub returns-in-Some-Running-clause-live : goal.returns-in-Some-Running-clause-live
returns-in-Some-Running-clause-live g c = λ w m.
    on_err c.step_running.result
    (lives _ _ _ w m c.args.number _ (ap (λ ts. ending_numbered ts c.args.number) (sym c.deref.ensures.value) ∙ sym c.in-Some-Running.ensures ∙ ap Some c.in-Some-Running.field-0-is))
