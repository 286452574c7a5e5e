-- What a check tells, and the number of the fault.
use Rattle.std.proofs.Common.{◌∙◌}
use Rattle.jm_execute.proofs.Advices.{advised_by, numbered}
use Rattle.jm_execute.proofs.advice.refused_advice.Goals as goal

pub returns-in_ok-text-in-Refused : goal.returns-in_ok-text-in-Refused
returns-in_ok-text-in-Refused c = λ v answer status hinders.
    let is = rw c.in-Refused.is at hinders in
    advised_by c.with_number.result c.args.files.now answer v _ status is
    (numbered _ _ _ _ _ c.with_number.ensures (c.deref.ensures ∙ c.in_ok-text-in-Refused.ensures) (c.deref-in-Refused.ensures ∙ c.in_ok-said-in-Refused.ensures))
