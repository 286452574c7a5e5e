use Rattle.jm_copy.proofs.Marking.{first_next, after_next}
use Rattle.jm_copy.proofs.scan.next_of.Goals as goal

pub returns-in-None : goal.returns-in-None
returns-in-None c = first_next c.args.store.now c.args.mark.now c.first.result c.in-None.is c.first.ensures

pub returns-in-Some : goal.returns-in-Some
returns-in-Some c = after_next c.args.store.now c.args.mark.now c.after.result c.in-Some.place c.in-Some.is c.after.ensures
