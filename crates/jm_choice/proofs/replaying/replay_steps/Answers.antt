-- Steps more agree, or one differs, or one is refused.
use Rattle.std.proofs.Common.{◌≡◌, ◌+◌, ◌-◌, ◌<◌, ap, subst, arith}
use Rattle.jm_world.specs.World.{World}
use Rattle.jm_world.specs.declared.event.Event.TheVariants.{Step}
use Rattle.jm_world.specs.declared.reply.ReplyKind.TheVariants.{Done}
use Rattle.jm_machine.specs.View.{MatchesWorld}
use Rattle.jm_machine.specs.ManySteps.{EndsFor, other_replies}
use Rattle.jm_schedule.specs.Records.{lines_from}
use Rattle.jm_choice.specs.Replays.{Agrees, DiffersAt, StopsWithin, world_behind}
use Rattle.jm_choice.proofs.Entries.{alike_stand, before_agree, last_made, of_run, stands_all, stands_differs, stands_more, stands_stops}
use Rattle.jm_choice.proofs.replaying.replay_steps.Goals as goal

pub returns-in-AllMade : goal.returns-in-AllMade
returns-in-AllMade g c = λ w m.
    let r = c.args.run in
    let s = c.step_many-steps.result in
    let n = c.step_many-steps.new.self in
    let i = c.loop-made.invariant in
    let all : s.alike ≡ r.count - c.loop-made.made = subst (EndsFor (r.count - c.loop-made.made) s) c.in-AllMade.is c.step_many-steps.ensures.ends in
    of_run (λ e k. Agrees w (lines_from r.count r.line r.seat e k) × MatchesWorld n (world_behind w (lines_from r.count r.line r.seat e k))) _ _ _ c.requires.event c.requires.kind
    (stands_all w (c.loop-made.made + s.alike) r.count r.line r.seat (Step c.args.thread) Done n (omega (arith, all, i.within))
    (alike_stand c.args.thread r.seat w c.loop-made.made r.line c.loop-made.machine n s (i.stands w m) c.step_many-steps.ensures.steps (ap other_replies c.in-AllMade.is)))

pub returns-in-OutOfMemory : goal.returns-in-OutOfMemory
returns-in-OutOfMemory g c = λ w m.
    let r = c.args.run in
    let s = c.step_many-steps.result in
    let n = c.step_many-steps.new.self in
    let i = c.loop-made.invariant in
    let few : s.alike < r.count - c.loop-made.made = subst (EndsFor (r.count - c.loop-made.made) s) c.in-OutOfMemory.is c.step_many-steps.ensures.ends in
    of_run (λ e k. (v : World) × StopsWithin w (lines_from r.count r.line r.seat e k) v × MatchesWorld n v) _ _ _ c.requires.event c.requires.kind
    (stands_stops w (c.loop-made.made + s.alike) r.count r.line r.seat (Step c.args.thread) Done n (omega (arith, few, i.within))
    (alike_stand c.args.thread r.seat w c.loop-made.made r.line c.loop-made.machine n s (i.stands w m) c.step_many-steps.ensures.steps (ap other_replies c.in-OutOfMemory.is)))

pub returns-then-not-is_kind : goal.returns-then-not-is_kind
returns-then-not-is_kind g c = λ w m.
    let r = c.args.run in
    let s = c.step_many-steps.result in
    let n = c.step_many-steps.new.self in
    let i = c.loop-made.invariant in
    let few = (subst (EndsFor (r.count - c.loop-made.made) s) c.in-Other.is c.step_many-steps.ensures.ends).0 in
    let so = i.stands w m in
    of_run (λ e k. (v : World) × DiffersAt w (lines_from r.count r.line r.seat e k) (r.line + (c.loop-made.made + s.alike)) v × MatchesWorld n v) _ _ _ c.requires.event c.requires.kind
    (stands_differs w (c.loop-made.made + s.alike) r.count r.line r.seat (Step c.args.thread) Done n c.in-Other.reply (omega (arith, few, i.within))
    (before_agree c.args.thread r.seat w c.loop-made.made r.line c.loop-made.machine n s so c.step_many-steps.ensures.steps c.in-Other.reply c.in-Other.is)
    (last_made c.args.thread r.seat w c.loop-made.made r.line c.loop-made.machine n s so c.step_many-steps.ensures.steps c.in-Other.reply c.in-Other.is)
    (c.is_kind.ensures.other c.if-not-is_kind.true))

pub loop-made-preserved : goal.loop-made-preserved
loop-made-preserved g c =
    let r = c.args.run in
    let s = c.step_many-steps.result in
    let n = c.step_many-steps.new.self in
    let i = c.loop-made.invariant in
    let few = (subst (EndsFor (r.count - c.loop-made.made) s) c.in-Other.is c.step_many-steps.ensures.ends).0 in
    record {
      within = omega (arith, few, i.within);
      stands = λ w m.
          let so = i.stands w m in
          stands_more w (c.loop-made.made + s.alike) r.line r.seat (Step c.args.thread) Done n c.in-Other.reply
          (before_agree c.args.thread r.seat w c.loop-made.made r.line c.loop-made.machine n s so c.step_many-steps.ensures.steps c.in-Other.reply c.in-Other.is)
          (last_made c.args.thread r.seat w c.loop-made.made r.line c.loop-made.machine n s so c.step_many-steps.ensures.steps c.in-Other.reply c.in-Other.is)
          (c.is_kind.ensures.same c.if-not-is_kind.false);
    }

pub returns : goal.returns
returns g c = λ w m.
    let r = c.args.run in
    let n = c.loop-made.machine in
    let i = c.loop-made.invariant in
    of_run (λ e k. Agrees w (lines_from r.count r.line r.seat e k) × MatchesWorld n (world_behind w (lines_from r.count r.line r.seat e k))) _ _ _ c.requires.event c.requires.kind
    (stands_all w c.loop-made.made r.count r.line r.seat (Step c.args.thread) Done n (omega (arith, c.loop-made-test.false, i.within)) (i.stands w m))
