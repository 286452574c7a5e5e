use Rattle.jm_copy.proofs.Marking.{young_next, old_next}
use Rattle.jm_copy.proofs.scan.next.Goals as goal

pub returns-in-Some : goal.returns-in-Some
returns-in-Some c = young_next c.args.to.now c.args.marks.now c.in-Some.place c.in-Some.ensures

pub returns : goal.returns
returns c = old_next c.args.to.now c.args.marks.now c.next_of-2.result c.requires.apart c.in_default.ensures c.next_of-2.ensures
