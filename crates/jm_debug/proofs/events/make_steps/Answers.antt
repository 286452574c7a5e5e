-- Each turn leads on from the steps before.
use Rattle.std.proofs.Common.{◌≡◌, ◌<◌, ◌-◌, ◌+◌, suc, sym, ap, subst, ◌∙◌, arith}
use Rattle.jm_world.specs.World.{World}
use Rattle.jm_world.specs.Run.{after}
use Rattle.jm_world.specs.declared.event.Event.TheVariants.{Step}
use Rattle.jm_machine.specs.View.{MatchesWorld}
use Rattle.jm_machine.specs.ManySteps.{AreSteps, EndsFor}
use Rattle.jm_debug.specs.Session.{more}
use Rattle.jm_debug.specs.Answering.{repeated}
use Rattle.jm_debug.proofs.Repeats.{repeated_more}
use Rattle.jm_debug.proofs.Stepped.{all_alike, another, none_came}
use Rattle.jm_debug.proofs.events.make_steps.Goals as goal

pub returns-in-AllMade : goal.returns-in-AllMade
returns-in-AllMade g c = λ w m.
    let made = c.loop-made.made in
    let s = c.step_many-steps.result in
    let new = c.step_many-steps.new.self in
    let e = Step c.args.thread in
    let ends : s.alike ≡ c.max-most.result - made = subst (EndsFor (c.max-most.result - made) s) c.in-AllMade.is c.step_many-steps.ensures.ends in
    let are = subst (λ end. AreSteps (repeated made e w) c.args.thread new (record { alike = s.alike; reply = s.reply; end = end })) c.in-AllMade.is
    (c.step_many-steps.ensures.steps _ (c.loop-made.invariant.world w m)) in
    let all : made + s.alike - 1 ≡ c.args.count - 1 = omega arith in
    let led = all_alike w c.args.thread made s.alike s.reply new (omega arith) are in (
      subst (λ n. MatchesWorld new (more n e (after w e)).world) all led.0,
      led.1 ∙ ap (λ n. (more n e (after w e)).reply.kind) all,
    )

pub loop-made-preserved : goal.loop-made-preserved
loop-made-preserved g c =
    let made = c.loop-made.made in
    let s = c.step_many-steps.result in
    let new = c.step_many-steps.new.self in
    let e = Step c.args.thread in
    let ends = subst (EndsFor (c.max-most.result - made) s) c.in-Other.is c.step_many-steps.ensures.ends in
    let few : s.alike < c.max-most.result - made = ends.0 in
    let led = λ (w : World) (m : MatchesWorld c.args.machine.now w). another w c.args.thread made s.alike s.reply new c.in-Other.reply
    (subst (λ end. AreSteps (repeated made e w) c.args.thread new (record { alike = s.alike; reply = s.reply; end = end })) c.in-Other.is
    (c.step_many-steps.ensures.steps _ (c.loop-made.invariant.world w m))) in
    let all : suc (made + s.alike) ≡ made + (s.alike + 1) = omega arith in
    let last : made + s.alike ≡ made + (s.alike + 1) - 1 = omega arith in
    record {
      within = omega arith;
      world = λ w m. subst (MatchesWorld new) (sym (repeated_more (made + s.alike) e w) ∙ ap (λ n. repeated n e w) all) (led w m).0;
      last = λ w m some. (led w m).1 ∙ ap (λ n. (more n e (after w e)).reply.kind) last;
    }

pub returns-in-OutOfMemory : goal.returns-in-OutOfMemory
returns-in-OutOfMemory g c = λ w m.
    let made = c.loop-made.made in
    let s = c.step_many-steps.result in
    let new = c.step_many-steps.new.self in
    let e = Step c.args.thread in
    let few : s.alike < c.max-most.result - made = subst (EndsFor (c.max-most.result - made) s) c.in-OutOfMemory.is c.step_many-steps.ensures.ends in
    let are = subst (λ end. AreSteps (repeated made e w) c.args.thread new (record { alike = s.alike; reply = s.reply; end = end })) c.in-OutOfMemory.is
    (c.step_many-steps.ensures.steps _ (c.loop-made.invariant.world w m)) in
    (made + s.alike, omega arith, none_came w c.args.thread made s.alike s.reply new are)

pub returns : goal.returns
returns g c = λ w m.
    let made = c.loop-made.made in
    let e = Step c.args.thread in
    let all : made ≡ suc (c.args.count - 1) = omega arith in
    let last : made - 1 ≡ c.args.count - 1 = omega arith in
    let some : 0 < made = omega arith in (
      subst (MatchesWorld c.loop-made.machine) (ap (λ n. repeated n e w) all ∙ repeated_more (c.args.count - 1) e w) (c.loop-made.invariant.world w m),
      c.loop-made.invariant.last w m some ∙ ap (λ n. (more n e (after w e)).reply.kind) last,
    )
