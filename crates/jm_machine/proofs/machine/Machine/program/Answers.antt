use Rattle.std.proofs.Common.{sym, subst, ◌∙◌}
use Rattle.jm_machine.specs.View.{MatchesWorld}
use Rattle.jm_machine.proofs.Events.{program_is}
use Rattle.jm_machine.proofs.machine.Machine.program.Goals as goal

pub returns : goal.returns
returns g c = λ w m. c.classes.ensures.classes ∙ program_is _ _ _ w (subst (λ v. MatchesWorld v w) (sym c.self.view_is) m)
