-- The reply tells whether the thread could go.
use Rattle.std.proofs.Common.{◌≡◌, is_some, sym, ap, ◌∙◌}
use Rattle.jm_world.specs.Run.{after}
use Rattle.jm_world.specs.declared.event.Event.TheVariants.{Step}
use Rattle.jm_world.specs.declared.reply.Reply.{Reply}
use Rattle.jm_explore.specs.Switches.{is_going}
use Rattle.jm_explore.proofs.Going.{reply_tells, stays, stopped_stays, went_if}
use Rattle.jm_explore.proofs.thread.went.Goals as goal

pub returns-then-is_some-clause-went : goal.returns-then-is_some-clause-went
returns-then-is_some-clause-went g c = λ w m. (sym (stopped_stays w c.args.thread (ap is_some (sym (c.stop.ensures w m)) ∙ sym c.is_some.ensures ∙ c.if-is_some.true)), m)

pub returns-clause-went : goal.returns-clause-went
returns-clause-went g c = λ w m.
    let next = c.in_ok-reply.ensures.next w m in
    let kind : c.is_going.result ≡ is_going (after w (Step c.args.thread)).reply.kind = c.is_going.ensures ∙ ap (λ (r : Reply). is_going r.kind) next.1 in (
      kind ∙ reply_tells w c.args.thread (ap is_some (sym (c.stop.ensures w m)) ∙ sym c.is_some.ensures ∙ c.if-is_some.false),
      went_if c.is_going.result w c.args.thread c.step.new.self next.0 (λ no. stays w c.args.thread (sym kind ∙ no)),
    )
