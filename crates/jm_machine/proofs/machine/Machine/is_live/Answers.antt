use Rattle.std.proofs.Common.{sym, subst, ap, ◌∙◌, Some}
use Rattle.jm_machine.specs.View.{MatchesWorld}
use Rattle.jm_machine.specs.Threads.{ending_numbered}
use Rattle.jm_machine.proofs.Events.{not_live, lives}
use Rattle.jm_machine.proofs.machine.Machine.is_live.Goals as goal

pub returns-in-Some-Running : goal.returns-in-Some-Running
returns-in-Some-Running g c = λ w m.
    sym (lives _ _ _ w (subst (λ v. MatchesWorld v w) (sym c.self.view_is) m) c.args.number _ (ap (λ ts. ending_numbered ts c.args.number) (sym c.deref.ensures.value) ∙ sym c.in-Some-Running.ensures ∙ ap Some c.in-Some-Running.field-0-is))

pub returns-in-Some-Returned : goal.returns-in-Some-Returned
returns-in-Some-Returned g c = λ w m.
    sym (lives _ _ _ w (subst (λ v. MatchesWorld v w) (sym c.self.view_is) m) c.args.number _ (ap (λ ts. ending_numbered ts c.args.number) (sym c.deref.ensures.value) ∙ sym c.in-Some-Returned.ensures ∙ ap Some c.in-Some-Returned.field-0-is))

pub returns-in-Some-EndedBy : goal.returns-in-Some-EndedBy
returns-in-Some-EndedBy g c = λ w m.
    sym (lives _ _ _ w (subst (λ v. MatchesWorld v w) (sym c.self.view_is) m) c.args.number _ (ap (λ ts. ending_numbered ts c.args.number) (sym c.deref.ensures.value) ∙ sym c.in-Some-EndedBy.ensures ∙ ap Some c.in-Some-EndedBy.field-0-is))

pub returns-in-None : goal.returns-in-None
returns-in-None g c = λ w m.
    sym (not_live _ _ _ w (subst (λ v. MatchesWorld v w) (sym c.self.view_is) m) c.args.number (ap (λ ts. ending_numbered ts c.args.number) (sym c.deref.ensures.value) ∙ sym c.in-None.ensures))
