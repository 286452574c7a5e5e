use Rattle.std.proofs.Common.{sym, subst}
use Rattle.jm_machine.specs.View.{MatchesWorld}
use Rattle.jm_machine.proofs.Events.{live_is}
use Rattle.jm_machine.proofs.machine.Machine.live.Goals as goal

pub returns : goal.returns
returns g c = λ w m. live_is _ _ _ w (subst (λ v. MatchesWorld v w) (sym c.self.view_is) m) _ c.self.invariant.runs.live
