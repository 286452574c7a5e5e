use Rattle.std.proofs.Common.{◌≡◌, ℕ, ◌+◌, true}
use Rattle.std.specs.Prelude.{MatchOption}
use Rattle.jm_copy.specs.Marks.{AllPassed, AreMarks, IsNext, is_ahead}
use Rattle.jm_copy.proofs.Marking.{left}
use Rattle.jm_par_copy.specs.Front.{AddsAhead}
use Rattle.jm_par_copy.proofs.front.add_ahead.Given as goal

abbrev pub invariant-loop-first : goal.invariant-loop-first
invariant-loop-first l = record {
  marks : AreMarks l.to l.marks;
  next : MatchOption l.first (AllPassed l.to l.marks) (λ p. IsNext l.to l.marks p);
  further : (n : ℕ) → is_ahead l.to.young.lane l.marks n ≡ true → is_ahead l.to.young.lane l.copier.marks n ≡ true;
  added : AddsAhead l.copier l.fn.places.items l.places.items;
}

-- the places that are left for the two marks
abbrev pub decreases-loop-first : goal.decreases-loop-first
decreases-loop-first l = left l.marks.young + left l.marks.tenured
