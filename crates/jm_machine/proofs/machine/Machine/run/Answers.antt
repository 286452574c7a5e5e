use Rattle.std.proofs.Common.{subst, take, arith}
use Rattle.jm_world.specs.Run.{run_from}
use Rattle.jm_world.specs.declared.event.Event.TheVariants.{Step}
use Rattle.jm_machine.specs.View.{MatchesWorld}
use Rattle.jm_machine.proofs.EachEvent.{one_more}
use Rattle.jm_machine.proofs.Folds.{run_more, replied}
use Rattle.jm_machine.proofs.machine.Machine.run.Goals as goal

pub loop-made-preserved : goal.loop-made-preserved
loop-made-preserved g c =
    let i = c.loop-made.invariant in
    let made = c.loop-made.made in
    let events = c.args.events.now in
    record {
      run = λ w m.
          let before = i.run w m in
          let now = c.in-Ok-step.ensures.next (run_from w (take made events)) before.0 in (
            subst (MatchesWorld c.step.new.self) (run_more w events made (Step 0) c.loop-made-test.true) now.0,
            replied w events made (Step 0) c.loop-made.replies.items c.push_reserved.new.self.items c.in-Ok-step.reply c.loop-made-test.true c.push_reserved.ensures.items before.1 now.1,
          );
      each = one_more g.H.Heap.leaves _ events made (Step 0) _ _ _ c.loop-made-test.true i.each (record {
        next = λ w m. (c.in-Ok-step.ensures.next w m).0;
        collects = c.in-Ok-step.ensures.collects;
        nursery = c.step.ensures.nursery;
      });
      len = omega arith;
      room = omega arith;
    }
