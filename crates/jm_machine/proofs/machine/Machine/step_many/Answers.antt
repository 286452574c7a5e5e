use Rattle.std.proofs.Common.{◌≡◌, ◌∙◌, sym, subst, arith, rules}
use Rattle.jm_world.specs.declared.reply.ReplyKind.TheVariants.{Done}
use Rattle.jm_state.specs.View.{view_of}
use Rattle.jm_machine.specs.ManySteps.{AreSteps, EndsBy, Wants}
use Rattle.jm_machine.specs.View.{MatchesWorld}
use Rattle.jm_machine.proofs.Events.{reply_is}
use Rattle.jm_machine.proofs.ManySteps.{none_alike, more_alike, more_other, other_differs, one_alike, other_made, step_refused, all_made}
use Rattle.jm_machine.proofs.machine.Machine.step_many.Goals as goal

pub loop-alike-init : goal.loop-alike-init
loop-alike-init g c = record {
  steps = λ w m.
      let s = c.self.inside.state in
      let heap = g.H.Heap.content s.heap in
      none_alike w c.args.thread _ c.reply_of-reply.result m
      (c.reply_of-reply.ensures
      ∙ sym (reply_is c.self.inside.linked heap (view_of s) w (subst (λ v. MatchesWorld v w) (sym c.self.view_is) m) s.live Done c.self.invariant.runs.live));
  within = omega arith;
}

pub returns-in-Other-clause-steps : goal.returns-in-Other-clause-steps
returns-in-Other-clause-steps g c = λ w m.
    let before = c.loop-alike.invariant.steps w m in
    let made = c.in-Other.ensures.steps _ before.world in
    subst (AreSteps w c.args.thread c.run_steps.new.self) (sym c.ended.ensures) (more_other before c.run_steps.new.self _ c.done_reply-next.result made c.done_reply-next.ensures)

pub returns-in-Other-clause-ends : goal.returns-in-Other-clause-ends
returns-in-Other-clause-ends g c =
    let w = c.self.invariant.world in
    let m = subst (λ v. MatchesWorld v w) c.self.view_is c.self.invariant.matches in
    let before = c.loop-alike.invariant.steps w m in
    let made = c.in-Other.ensures.steps _ before.world in
    let few = c.in-Other.ensures.most in
    let other = other_differs before c.run_steps.new.self _ c.done_reply-next.result made c.done_reply-next.ensures in
    subst (EndsBy c.args.most) (sym c.ended.ensures) (omega arith, other)

pub returns-in_default-clause-steps : goal.returns-in_default-clause-steps
returns-in_default-clause-steps g c = λ w m.
    let before = c.loop-alike.invariant.steps w m in
    let run = more_alike before c.run_steps.new.self _ (c.in-Alike.ensures.steps _ before.world) in
    subst (AreSteps w c.args.thread c.step_at.new.self) (sym c.ended-in_default.ensures) (step_refused run c.step_at.new.self (c.in_default.ensures.next _ run.world))

pub returns-then-ne-clause-steps : goal.returns-then-ne-clause-steps
returns-then-ne-clause-steps g c = λ w m.
    let before = c.loop-alike.invariant.steps w m in
    let run = more_alike before c.run_steps.new.self _ (c.in-Alike.ensures.steps _ before.world) in
    let now = c.in-Ok.ensures.next _ run.world in
    subst (AreSteps w c.args.thread c.step_at.new.self) (sym c.ended-then-ne.ensures) (other_made run c.step_at.new.self c.in-Ok.next now.0 now.1)

pub loop-alike-preserved-then-alike-most : goal.loop-alike-preserved-then-alike-most
loop-alike-preserved-then-alike-most g c = record {
  steps = λ w m.
      let before = c.loop-alike.invariant.steps w m in
      let run = more_alike before c.run_steps.new.self _ (c.in-Alike.ensures.steps _ before.world) in
      let now = c.in-Ok.ensures.next _ run.world in
      let same : c.in-Ok.next ≡ c.reply_of-reply.result = search rules in
      one_alike run c.step_at.new.self c.in-Ok.next now.0 now.1 same;
  within = let less = c.if-alike-most.true in omega arith;
}

pub loop-alike-preserved : goal.loop-alike-preserved
loop-alike-preserved g c = record {
  steps = λ w m.
      let before = c.loop-alike.invariant.steps w m in
      more_alike before c.run_steps.new.self _ (c.in-Alike.ensures.steps _ before.world);
  within = let few = c.in-Alike.ensures.most in omega arith;
}

pub returns-clause-steps : goal.returns-clause-steps
returns-clause-steps g c = λ w m.
    let before = c.loop-alike.invariant.steps w m in
    subst (AreSteps w c.args.thread c.loop-alike.self) (sym c.ended-2.ensures) (all_made before c.loop-alike.self before.world)

pub returns-in_default-clause-wants : goal.returns-in_default-clause-wants
returns-in_default-clause-wants g c = λ w m.
    let before = c.loop-alike.invariant.steps w m in
    let run = more_alike before c.run_steps.new.self _ (c.in-Alike.ensures.steps _ before.world) in
    subst (Wants w c.args.thread) (sym c.ended-in_default.ensures) (c.in_default.ensures.wants _ run.world)
