-- One seat more is dealt out.
use Rattle.std.proofs.Common.{◌<◌, [], sym, ap, ◌∙◌, arith}
use Rattle.jm_shared.specs.Seats.{keeper_with}
use Rattle.jm_shared.proofs.SeatLists.{fresh_next, fresh_dealt}
use Rattle.jm_shared.proofs.SeatSteps.{splits, dealt_one, dealt_rest}
use Rattle.jm_shared.proofs.keeper.deal_seats.Goals as goal

pub split_seat-token-requires : goal.split_seat-token-requires
split_seat-token-requires g c = (c.loop-number.invariant.table ∙ sym (ap (λ t. t.table) c.opened.view_is ∙ c.requires.0), c.opened.invariant.0, splits _ _)

pub invariant_of-push_reserved : goal.invariant_of-push_reserved
invariant_of-push_reserved g c =
    let i = c.loop-number.invariant in
    let s = c.split_seat-token.ensures in
    let n = c.loop-number.number in
    let low : n < c.opened.inside.seats = omega (arith, c.loop-number-test.true) in
    let is = i.view ∙ ap (keeper_with []) (fresh_next n c.opened.inside.seats low) in
    let one = dealt_one _ c.split_seat-token.result.me.0 n _ is (ap (λ m. m.0) s.4) in
    (s.3 ∙ i.table, (one.0, ap (λ m. m.1) s.4), one.1, omega (arith, low, ap (λ t. t.seats) c.opened.view_is, c.requires.1))

pub loop-number-preserved : goal.loop-number-preserved
loop-number-preserved g c =
    let i = c.loop-number.invariant in
    let s = c.split_seat-token.ensures in
    let n = c.loop-number.number in
    let low : n < c.opened.inside.seats = omega (arith, c.loop-number-test.true) in
    let is = i.view ∙ ap (keeper_with []) (fresh_next n c.opened.inside.seats low) in
    let one = dealt_one _ c.split_seat-token.result.me.0 n _ is (ap (λ m. m.0) s.4) in
    record {
      table = s.0 ∙ i.table;
      view = ap (λ m. m.0) s.2 ∙ dealt_rest _ n _ is;
      slots = ap (λ m. m.1) s.2 ∙ i.slots;
      dealt = fresh_dealt _ _ _ n c.opened.inside.seats low one.2 c.push_reserved.ensures.items ∙ i.dealt;
      full = omega (arith, c.push_reserved.ensures.len, i.full);
      room = omega (arith, c.push_reserved.ensures.capacity, i.room);
    }
