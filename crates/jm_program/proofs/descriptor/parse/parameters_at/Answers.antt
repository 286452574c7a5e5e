-- Each turn reads one type off the front of what is left.
use Rattle.std.proofs.Common.{◌≡◌, ◌∷◌, ◌++◌, [], eqb, true, false, eq-eqb, rules, arith}
use Rattle.std.proofs.lemmas.Bool.{ne_eqb}
use Rattle.jm_program.proofs.ParameterLoop.{with_front, left_at, begins, is_empty, closes, faults, goes_on, field_shorter}
use Rattle.jm_program.proofs.descriptor.parse.parameters_at.Goals as goal

pub returns-then-first-eq-CLOSE : goal.returns-then-first-eq-CLOSE
returns-then-first-eq-CLOSE c =
    let at = rw c.in-Some.ensures at c.loop-first.invariant in
    closes _ _ _ _ (eq-eqb _ _ c.if-first-eq-CLOSE.true) at

pub returns : goal.returns
returns c =
    let at = rw c.in_default.ensures at c.loop-first.invariant in
    is_empty _ _ at

pub loop-first-smaller : goal.loop-first-smaller
loop-first-smaller c =
    let found = rw c.in-Some.ensures at c.in-Ok.ensures in
    let short = field_shorter _ _ _ found in
    rw c.in-Some.ensures short

pub loop-first-preserved : goal.loop-first-preserved
loop-first-preserved c =
    let at = rw c.in-Some.ensures at c.loop-first.invariant in
    let found = rw c.in-Some.ensures at c.in-Ok.ensures in
    rw c.in_ok-push-in-Ok.ensures.items (goes_on _ _ _ _ _ _ (ne_eqb _ _ c.if-first-eq-CLOSE.false) found at)

pub returns-in-Err : goal.returns-in-Err
returns-in-Err c =
    let at = rw c.in-Some.ensures at c.loop-first.invariant in
    let found = rw c.in-Some.ensures at c.in-Err.ensures in
    faults c.in-Err.fault _ _ _ _ (ne_eqb _ _ c.if-first-eq-CLOSE.false) found at
