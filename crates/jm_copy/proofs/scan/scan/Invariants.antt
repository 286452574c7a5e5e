use Rattle.std.proofs.Common.{◌+◌}
use Rattle.std.specs.Prelude.{MatchOption}
use Rattle.jm_copy.specs.Copies.{Extends, IsCopying}
use Rattle.jm_copy.specs.Marks.{AllPassed, AreMarks, IsNext, progress}
use Rattle.jm_copy.specs.Pointing.{IsListed}
use Rattle.jm_copy.proofs.Marking.{left}
use Rattle.jm_copy.proofs.scan.scan.Given as goal

abbrev pub invariant-loop-first : goal.invariant-loop-first
invariant-loop-first l = record {
  copying : IsCopying l.from.stores.now l.from.roots.now l.to (progress l.to.young.lane l.marks);
  marks : AreMarks l.to l.marks;
  next : MatchOption l.first (AllPassed l.to l.marks) (λ p. IsNext l.to l.marks p);
  listed : IsListed l.to.young.lane l.to.tenured l.to.kept l.marks.tenured l.pointing.items;
  extends : Extends l.from.stores.now l.fn.to l.to;
}

-- the places that are left for the two marks
abbrev pub decreases-loop-first : goal.decreases-loop-first
decreases-loop-first l = left l.marks.young + left l.marks.tenured
