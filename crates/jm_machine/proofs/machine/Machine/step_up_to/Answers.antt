use Rattle.std.proofs.Common.{◌≡◌, ◌∙◌, refl, sym, subst, arith, rules}
use Rattle.jm_world.specs.declared.reply.ReplyKind.TheVariants.{Done}
use Rattle.jm_state.specs.View.{view_of}
use Rattle.jm_machine.specs.UpToPlaces.{AreStepsUpTo}
use Rattle.jm_machine.specs.View.{MatchesWorld}
use Rattle.jm_machine.proofs.Events.{reply_is}
use Rattle.jm_machine.proofs.ManySteps.{none_alike}
use Rattle.jm_machine.proofs.UpToPlaces.{at_place, none_apart, run_made, step_alike, step_none, step_other}
use Rattle.jm_machine.proofs.machine.Machine.step_up_to.Goals as goal

pub loop-made-init : goal.loop-made-init
loop-made-init g c = record {
  steps = λ w m.
      let s = c.self.inside.state in
      let heap = g.H.Heap.content s.heap in
      record {
        alike = none_alike w c.args.thread _ c.reply_of-reply.result m
            (c.reply_of-reply.ensures
            ∙ sym (reply_is c.self.inside.linked heap (view_of s) w (subst (λ v. MatchesWorld v w) (sym c.self.view_is) m)
            s.live Done c.self.invariant.runs.live));
        apart = none_apart _ _ w c.args.thread;
      };
  within = omega arith;
  linked = refl;
}

pub returns-then-free-eq0-clause-steps : goal.returns-then-free-eq0-clause-steps
returns-then-free-eq0-clause-steps g c = λ w m.
    let before = c.loop-made.invariant.steps w m in
    let are = c.free_steps-free.ensures.free _ before.alike.world in
    at_place before c.loop-made.invariant.linked c.free_steps-free.result are c.if-free-eq0.true

pub returns-in_default-clause-steps : goal.returns-in_default-clause-steps
returns-in_default-clause-steps g c = λ w m.
    let before = c.loop-made.invariant.steps w m in
    let are = c.free_steps-free.ensures.free _ before.alike.world in
    let made = c.run_plain-run.ensures.steps _ before.alike.world in
    let run = run_made before c.loop-made.invariant.linked c.free_steps-free.result are _ c.run_plain-run.new.self made c.run_plain-run.ensures.most in
    let ended = step_none before c.loop-made.invariant.linked c.free_steps-free.result are _ c.run_plain-run.new.self made
    c.if-run-free.true c.step_at.new.self (c.in_default.ensures.next _ run.alike.world) (c.in_default.ensures.wants _ run.alike.world) in
    subst (AreStepsUpTo c.args.self.now.linked c.args.places.now w c.args.thread c.step_at.new.self) (sym c.ended.ensures) ended

pub returns-then-ne-clause-steps : goal.returns-then-ne-clause-steps
returns-then-ne-clause-steps g c = λ w m.
    let before = c.loop-made.invariant.steps w m in
    let are = c.free_steps-free.ensures.free _ before.alike.world in
    let made = c.run_plain-run.ensures.steps _ before.alike.world in
    let run = run_made before c.loop-made.invariant.linked c.free_steps-free.result are _ c.run_plain-run.new.self made c.run_plain-run.ensures.most in
    let next = c.in-Ok.ensures.next _ run.alike.world in
    let ended = step_other before c.loop-made.invariant.linked c.free_steps-free.result are _ c.run_plain-run.new.self made
    c.if-run-free.true c.step_at.new.self c.in-Ok.answer next.0 next.1 in
    subst (AreStepsUpTo c.args.self.now.linked c.args.places.now w c.args.thread c.step_at.new.self) (sym c.ended-then-ne.ensures) ended

pub loop-made-preserved-then-run-free : goal.loop-made-preserved-then-run-free
loop-made-preserved-then-run-free g c = record {
  steps = λ w m.
      let before = c.loop-made.invariant.steps w m in
      let are = c.free_steps-free.ensures.free _ before.alike.world in
      let made = c.run_plain-run.ensures.steps _ before.alike.world in
      let run = run_made before c.loop-made.invariant.linked c.free_steps-free.result are _ c.run_plain-run.new.self made c.run_plain-run.ensures.most in
      let next = c.in-Ok.ensures.next _ run.alike.world in
      let same : c.in-Ok.answer ≡ c.reply_of-reply.result = search rules in
      step_alike before c.loop-made.invariant.linked c.free_steps-free.result are _ c.run_plain-run.new.self made
      c.if-run-free.true c.step_at.new.self c.in-Ok.answer next.0 next.1 same;
  within = let few = c.free_steps-free.ensures.most in let less = c.if-run-free.true in omega arith;
  linked = c.step_at.ensures.linked ∙ c.run_plain-run.ensures.linked ∙ c.loop-made.invariant.linked;
}

pub loop-made-preserved : goal.loop-made-preserved
loop-made-preserved g c = record {
  steps = λ w m.
      let before = c.loop-made.invariant.steps w m in
      let are = c.free_steps-free.ensures.free _ before.alike.world in
      let made = c.run_plain-run.ensures.steps _ before.alike.world in
      run_made before c.loop-made.invariant.linked c.free_steps-free.result are _ c.run_plain-run.new.self made c.run_plain-run.ensures.most;
  within = let few = c.free_steps-free.ensures.most in let less = c.run_plain-run.ensures.most in omega arith;
  linked = c.run_plain-run.ensures.linked ∙ c.loop-made.invariant.linked;
}
