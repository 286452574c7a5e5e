use Rattle.std.proofs.Common.{arith}
use Rattle.jm_par_copy.proofs.Redealing.{many_seats, seats_then}
use Rattle.jm_par_copy.proofs.Redealt.{deal_keeps_all}
use Rattle.jm_par_copy.proofs.Placed.{deal_keeps_placed, placed_then}
use Rattle.jm_par_copy.proofs.running.share_out.Goals as goal

pub deal-requires : goal.deal-requires
deal-requires c =
    let many = many_seats c.args.copiers.now.items c.give_all_back.new.copiers.items c.give_all_back.ensures.seats in
    let some = c.requires.some in
    record { some = omega (arith, many, some) }

pub returns-in_err-deal-clause-seats : goal.returns-in_err-deal-clause-seats
returns-in_err-deal-clause-seats c = seats_then c.args.copiers.now.items c.give_all_back.new.copiers.items c.deal.new.copiers.items c.give_all_back.ensures.seats c.deal.ensures.seats

pub returns-clause-keeps : goal.returns-clause-keeps
returns-clause-keeps c = λ stores roots words h.
    let cs = c.args.copiers.now.items in
    let ds = c.give_all_back.new.copiers.items in
    let es = c.deal.new.copiers.items in
    let aside = c.args.aside.now.items in
    let rest = c.deal.new.aside.items in
    let was = c.in_ok-give_all_back.ensures.keeps stores roots words aside h in
    let dealt = c.in_ok-deal.ensures.dealt in
    (deal_keeps_all stores roots words ds es aside rest was.0 dealt, placed_then cs ds es aside aside rest was.1 (deal_keeps_placed ds es aside rest dealt))

pub returns-clause-seats : goal.returns-clause-seats
returns-clause-seats c = seats_then c.args.copiers.now.items c.give_all_back.new.copiers.items c.deal.new.copiers.items c.give_all_back.ensures.seats c.deal.ensures.seats
