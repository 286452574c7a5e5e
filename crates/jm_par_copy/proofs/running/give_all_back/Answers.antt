use Rattle.std.proofs.Common.{arith}
use Rattle.jm_par_copy.proofs.Copiers.{back_keeps}
use Rattle.jm_par_copy.proofs.Placed.{back_keeps_placed, placed_then}
use Rattle.jm_par_copy.proofs.Redealing.{keep_seats, many_seats, seats_then}
use Rattle.jm_par_copy.proofs.running.give_all_back.Goals as goal

pub loop-number-init : goal.loop-number-init
loop-number-init c = ((λ stores roots words aside h. (h, λ young before p. p)), keep_seats c.args.copiers.now.items)

pub give_back_of-requires : goal.give_back_of-requires
give_back_of-requires c =
    let many = many_seats c.args.copiers.now.items c.loop-number.copiers.items c.loop-number.invariant.1 in
    let below = c.loop-number-test.true in
    let count = c.len-count.ensures in
    omega (arith, many, below, count)

pub returns-in_err-give_back_of-clause-seats : goal.returns-in_err-give_back_of-clause-seats
returns-in_err-give_back_of-clause-seats c = seats_then c.args.copiers.now.items c.loop-number.copiers.items c.give_back_of.new.copiers.items c.loop-number.invariant.1 c.give_back_of.ensures.seats

pub loop-number-preserved : goal.loop-number-preserved
loop-number-preserved c = (
  (λ stores roots words aside h.
      let cs = c.args.copiers.now.items in
      let ds = c.loop-number.copiers.items in
      let es = c.give_back_of.new.copiers.items in
      let was = c.loop-number.invariant.0 stores roots words aside h in
      let back = c.in_ok-give_back_of.ensures.back in
      (back_keeps stores roots words ds es aside was.0 back, placed_then cs ds es aside aside aside was.1 (back_keeps_placed stores roots words ds es aside was.0 back))),
  seats_then c.args.copiers.now.items c.loop-number.copiers.items c.give_back_of.new.copiers.items c.loop-number.invariant.1 c.give_back_of.ensures.seats,
)
