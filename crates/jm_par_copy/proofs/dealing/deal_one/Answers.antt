use Rattle.jm_par_copy.proofs.Redealing.{aside_is_dealt, keep_seats}
use Rattle.std.proofs.Common.{◌∷◌, subst, sym}
use Rattle.jm_par_copy.specs.Dealing.{AreDealt}
use Rattle.jm_par_copy.proofs.dealing.deal_one.Goals as goal

pub returns-in_err-push-clause-seats : goal.returns-in_err-push-clause-seats
returns-in_err-push-clause-seats c = keep_seats c.args.copiers.now.items

pub returns-then-piece-len-clause-dealt : goal.returns-then-piece-len-clause-dealt
returns-then-piece-len-clause-dealt c =
    subst (λ xs. AreDealt c.args.copiers.now.items (c.args.piece ∷ c.args.aside.now.items) c.args.copiers.now.items xs) (sym c.in_ok-push.ensures.items) (aside_is_dealt c.args.copiers.now.items c.args.piece c.args.aside.now.items)

pub returns-then-piece-len-clause-seats : goal.returns-then-piece-len-clause-seats
returns-then-piece-len-clause-seats c = keep_seats c.args.copiers.now.items

pub returns-then-next-count-clause-dealt : goal.returns-then-next-count-clause-dealt
returns-then-next-count-clause-dealt c = c.in_ok-add.ensures.dealt c.args.aside.now.items

pub returns-clause-dealt : goal.returns-clause-dealt
returns-clause-dealt c = c.in_ok-add.ensures.dealt c.args.aside.now.items
