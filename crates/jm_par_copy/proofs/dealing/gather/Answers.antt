use Rattle.std.proofs.Common.{arith}
use Rattle.jm_par_copy.proofs.Redealing.{gathered_then, keep_seats, many_seats, none_gathered, seats_then}
use Rattle.jm_par_copy.proofs.dealing.gather.Goals as goal

pub loop-number-init : goal.loop-number-init
loop-number-init c = (none_gathered c.args.copiers.now.items c.args.all.now.items, keep_seats c.args.copiers.now.items)

pub take_from-requires : goal.take_from-requires
take_from-requires c =
    let many = many_seats c.args.copiers.now.items c.loop-number.copiers.items c.loop-number.invariant.1 in
    let below = c.loop-number-test.true in
    let count = c.len-count.ensures in
    omega (arith, many, below, count)

pub returns-in_err-take_from-clause-seats : goal.returns-in_err-take_from-clause-seats
returns-in_err-take_from-clause-seats c = seats_then c.args.copiers.now.items c.loop-number.copiers.items c.take_from.new.copiers.items c.loop-number.invariant.1 c.take_from.ensures.seats

pub loop-number-preserved : goal.loop-number-preserved
loop-number-preserved c = (
  gathered_then c.args.copiers.now.items c.loop-number.copiers.items c.take_from.new.copiers.items c.args.all.now.items c.loop-number.all.items c.take_from.new.all.items c.loop-number.invariant.0 c.in_ok-take_from.ensures.dealt,
  seats_then c.args.copiers.now.items c.loop-number.copiers.items c.take_from.new.copiers.items c.loop-number.invariant.1 c.take_from.ensures.seats,
)
