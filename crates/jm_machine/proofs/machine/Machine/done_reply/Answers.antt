use Rattle.std.proofs.Common.{◌∙◌, sym, subst}
use Rattle.jm_world.specs.declared.reply.ReplyKind.TheVariants.{Done}
use Rattle.jm_state.specs.View.{view_of}
use Rattle.jm_machine.specs.View.{MatchesWorld}
use Rattle.jm_machine.proofs.Events.{reply_is}
use Rattle.jm_machine.proofs.machine.Machine.done_reply.Goals as goal

pub returns : goal.returns
returns g c = λ w m.
    let s = c.self.inside.state in
    let heap = g.H.Heap.content s.heap in
    c.reply_of.ensures
    ∙ sym (reply_is c.self.inside.linked heap (view_of s) w (subst (λ v. MatchesWorld v w) (sym c.self.view_is) m) s.live Done c.self.invariant.runs.live)
