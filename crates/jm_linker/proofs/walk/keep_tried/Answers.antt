-- One more walk that is kept.
use Rattle.jm_linker.proofs.WalkLaws.{kept_more}
use Rattle.jm_linker.proofs.walk.keep_tried.Goals as goal

pub returns-in_ok-insert : goal.returns-in_ok-insert
returns-in_ok-insert c = λ test program vain says.
    kept_more test program c.args.tried.now c.insert.new.self c.args.last c.in-Some.number c.in-Some.is c.in_ok-insert.ensures.updates.0 vain says
