use Rattle.std.proofs.Common.{◌∙◌, sym}
use Rattle.jm_copy.proofs.Rewinding.{none_above}
use Rattle.jm_copy.proofs.serial.reaches_above.Goals as goal

pub returns-in-Some-clause-above : goal.returns-in-Some-clause-above
returns-in-Some-clause-above c t = (c.in-Some.place, c.in-Some.ensures.0, c.in-Some.ensures.1, sym c.is_above.ensures ∙ t)

pub returns-in-Some-clause-none : goal.returns-in-Some-clause-none
returns-in-Some-clause-none c t n e = none_above c.args.store.now c.in-Some.place n c.args.mark.now c.in-Some.ensures.1 (sym c.is_above.ensures ∙ t) e

pub returns-in-None-clause-none : goal.returns-in-None-clause-none
returns-in-None-clause-none c t n e = c.in-None.ensures n
