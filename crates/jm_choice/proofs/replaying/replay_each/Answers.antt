-- An event more agrees, or differs, or is refused.
use Rattle.std.proofs.Common.{arith}
use Rattle.jm_choice.proofs.Entries.{stands_all, stands_differs, stands_more, stands_stops}
use Rattle.jm_choice.proofs.replaying.replay_each.Goals as goal

pub returns-then-not-is_kind : goal.returns-then-not-is_kind
returns-then-not-is_kind g c = λ w m.
    let r = c.args.run in
    let s = c.loop-made.invariant.stands w m in
    stands_differs w c.loop-made.made r.count r.line r.seat r.event r.kind c.step_at.new.self c.in-Ok.reply (omega (arith, c.loop-made-test.true)) s.agrees
    (c.in-Ok.ensures.next _ s.matches) (c.is_kind.ensures.other c.if-not-is_kind.true)

pub returns-in-Err : goal.returns-in-Err
returns-in-Err g c = λ w m.
    let r = c.args.run in
    let s = c.loop-made.invariant.stands w m in
    stands_stops w c.loop-made.made r.count r.line r.seat r.event r.kind c.step_at.new.self (omega (arith, c.loop-made-test.true))
    (record { agrees = s.agrees; matches = c.in-Err.ensures.next _ s.matches })

pub loop-made-preserved : goal.loop-made-preserved
loop-made-preserved g c = record {
  stands = λ w m.
      let r = c.args.run in
      let s = c.loop-made.invariant.stands w m in
      stands_more w c.loop-made.made r.line r.seat r.event r.kind c.step_at.new.self c.in-Ok.reply s.agrees (c.in-Ok.ensures.next _ s.matches) (c.is_kind.ensures.same c.if-not-is_kind.false);
}

pub returns : goal.returns
returns g c = λ w m.
    let r = c.args.run in
    stands_all w c.loop-made.made r.count r.line r.seat r.event r.kind c.loop-made.machine (omega (arith, c.loop-made-test.false, c.loop-made.auto.made-end)) (c.loop-made.invariant.stands w m)
