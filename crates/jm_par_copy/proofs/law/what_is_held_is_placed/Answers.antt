use Rattle.jm_par_copy.proofs.Placed.{back_keeps_placed, deal_keeps_placed, round_keeps_placed}
use Rattle.jm_par_copy.proofs.law.what_is_held_is_placed.Goals as goal

pub returns-clause-round : goal.returns-clause-round
returns-clause-round c = round_keeps_placed

pub returns-clause-back : goal.returns-clause-back
returns-clause-back c = back_keeps_placed

pub returns-clause-dealt : goal.returns-clause-dealt
returns-clause-dealt c = deal_keeps_placed
