use Rattle.jm_copy.proofs.Marking.{beside_next}
use Rattle.jm_copy.proofs.scan.next_after.Goals as goal

pub returns-in-Some : goal.returns-in-Some
returns-in-Some c = beside_next c.args.to.now c.args.marks.now c.args.place c.in-Some.beside c.requires.apart c.requires.passed c.in-Some.ensures
