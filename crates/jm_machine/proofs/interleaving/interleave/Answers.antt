use Rattle.std.proofs.Common.{◌≤◌, ap, ◌∙◌, length, arith, rules}
use Rattle.jm_world.specs.Run.{run_from}
use Rattle.jm_world.specs.declared.event.Event.TheVariants.{Step}
use Rattle.jm_machine.specs.BetweenEvents.{interleaved}
use Rattle.jm_machine.proofs.BetweenEvents.{one_more, all_put, same_world}
use Rattle.jm_machine.proofs.interleaving.interleave.Goals as goal

pub loop-event-preserved : goal.loop-event-preserved
loop-event-preserved c = record {
  items = one_more _ c.args.events.now c.loop-event.event-index (Step 0) _ _ _ c.loop-event-test.true c.loop-event.invariant.items
      c.push_reserved.ensures.items c.push_reserved-in-loop-event.ensures.items;
  len = omega (arith, c.loop-event.invariant.len, c.push_reserved.ensures.len, c.push_reserved-in-loop-event.ensures.len);
  room = omega (arith, c.loop-event.invariant.room, c.push_reserved.ensures.capacity, c.push_reserved-in-loop-event.ensures.capacity);
}

pub returns-clause-events : goal.returns-clause-events
returns-clause-events c =
    let past : length c.args.events.now ≤ c.loop-event.event-index = let test = c.loop-event-test.false in omega arith in
    all_put _ c.args.events.now c.loop-event.event-index _ _ past c.loop-event.invariant.items (search rules)
    ∙ ap (λ e. interleaved e c.args.events.now) c.collection_of-collection.ensures

pub returns-clause-world : goal.returns-clause-world
returns-clause-world c = λ w. ap (run_from w) (returns-clause-events c) ∙ same_world w c.args.kind c.args.events.now
