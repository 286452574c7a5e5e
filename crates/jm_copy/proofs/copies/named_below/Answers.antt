use Rattle.std.proofs.Common.{◌⊎◌, ◌<◌, ◌≤◌, Some, ap, arith, inl, inr, ◌∙◌}
use Rattle.std.proofs.lemmas.Bool.{cases_lt}
use Rattle.jm_heap.specs.Elements.{elements}
use Rattle.jm_copy.proofs.Scanning.{none_more}
use Rattle.jm_copy.proofs.copies.named_below.Goals as goal

pub loop-number-init : goal.loop-number-init
loop-number-init c = record { from_on = omega arith; none = λ i p from below h. absurd (omega (arith, from, below)) }

pub loop-number-preserved : goal.loop-number-preserved
loop-number-preserved c = record {
  from_on = omega (arith, c.loop-number.invariant.from_on);
  none = none_more (elements c.args.values) c.args.first c.loop-number.number c.get.result c.loop-number.invariant.none c.get.ensures c.in_default.ensures;
}

pub returns-in-Some-clause-names : goal.returns-in-Some-clause-names
returns-in-Some-clause-names c = record {
  from_on = c.loop-number.invariant.from_on;
  here = c.get.ensures ∙ ap (λ v. Some v) c.in-Some.ensures;
  before = c.loop-number.invariant.none;
  ended = record { inside = omega arith; within = c.requires.within; none = c.requires.none; fits = c.requires.fits };
}

pub returns-clause-names : goal.returns-clause-names
returns-clause-names c i p from below h = by (cases_lt i c.args.end)
  where
    by : (i < c.args.end) ⊎ (c.args.end ≤ i) → ⊥
    by (inl lt) = c.loop-number.invariant.none i p from (omega (arith, lt, c.loop-number-test.false)) h
    by (inr le) = c.requires.none i p le below h
