use Rattle.std.proofs.Common.{sym, subst, ◌∙◌}
use Rattle.jm_world.specs.Run.{after}
use Rattle.jm_machine.specs.View.{MatchesWorld}
use Rattle.jm_machine.proofs.Events.{reply_is}
use Rattle.jm_machine.proofs.machine.Machine.step_at.Goals as goal

pub returns-clause-next : goal.returns-clause-next
returns-clause-next g c = λ w m.
    let answered = c.in_ok-kind.ensures.event w (subst (λ v. MatchesWorld v w) (sym c.self.view_is) m) in
    (answered.world, c.reply_of.ensures ∙ sym (answered.reply ∙ reply_is _ _ _ (after w c.args.event).world answered.world c.make_event.new.state.live c.in_ok-kind.kind c.make_event.ensures.runs.live))
