use Rattle.std.proofs.Common.{◌≡◌, ◌++◌, [], rules, subst, arith}
use Rattle.jm_par_copy.specs.Dealing.{AreGathered}
use Rattle.jm_par_copy.proofs.Redealing.{dealt_then, many_seats, seats_then}
use Rattle.jm_par_copy.proofs.dealing.deal.Goals as goal

pub deal_out-requires : goal.deal_out-requires
deal_out-requires c =
    let many = many_seats c.args.copiers.now.items c.gather.new.copiers.items c.gather.ensures.seats in
    let some = c.requires.some in
    record { some = omega (arith, many, some) }

pub returns-clause-dealt : goal.returns-clause-dealt
returns-clause-dealt c =
    let aside = c.args.aside.now.items in
    let none : c.new-pieces.result.items ≡ [] = search rules in
    let all = subst (λ xs. AreGathered c.args.copiers.now.items c.gather.new.copiers.items xs c.gather.new.all.items) none c.in_ok-gather.ensures.dealt in
    dealt_then c.args.copiers.now.items c.gather.new.copiers.items c.deal_out.new.copiers.items aside (c.gather.new.all.items ++ aside) c.deal_out.new.aside.items (all aside) c.in_ok-deal_out.ensures.dealt

pub returns-clause-seats : goal.returns-clause-seats
returns-clause-seats c = seats_then c.args.copiers.now.items c.gather.new.copiers.items c.deal_out.new.copiers.items c.gather.ensures.seats c.deal_out.ensures.seats

pub returns-in_err-deal_out-clause-seats : goal.returns-in_err-deal_out-clause-seats
returns-in_err-deal_out-clause-seats c = seats_then c.args.copiers.now.items c.gather.new.copiers.items c.deal_out.new.copiers.items c.gather.ensures.seats c.deal_out.ensures.seats
