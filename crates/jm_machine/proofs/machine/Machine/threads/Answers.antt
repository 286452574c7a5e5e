use Rattle.std.proofs.Common.{◌≡◌, sym, subst, ◌∙◌, length, rules}
use Rattle.jm_machine.specs.View.{MatchesWorld}
use Rattle.jm_machine.proofs.Events.{made_is}
use Rattle.jm_machine.proofs.machine.Machine.threads.Goals as goal

pub returns : goal.returns
returns g c = λ w m.
    let many : c.len.result ≡ length c.self.inside.state.threads.items = search rules in
    many ∙ made_is _ _ _ w (subst (λ v. MatchesWorld v w) (sym c.self.view_is) m)
