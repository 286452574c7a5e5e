-- The replies are the journal's, since it is legal.
use Rattle.std.proofs.Common.{sym, ap, subst, ◌∙◌}
use Rattle.jm_world.specs.Run.{run_from, replies_from}
use Rattle.jm_machine.specs.View.{MatchesWorld}
use Rattle.jm_shared.specs.Legal.{world_after}
use Rattle.jm_shared.proofs.Replays.{same_output, if_ok, on_ok}
use Rattle.jm_shared.proofs.journal.Journal.run_again.Goals as goal

pub returns-clause-replies : goal.returns-clause-replies
returns-clause-replies g c begins =
    let first = g.R.Origin.first in
    let same = c.deref.ensures.value ∙ c.in-Ok.ensures in
    if_ok _ _ _ c.run.result (c.run.ensures.run first begins) (λ replies made. made.1 ∙ ap (replies_from first) same ∙ sym c.shows.ensures.0)

pub returns-clause-world : goal.returns-clause-world
returns-clause-world g c begins =
    let first = g.R.Origin.first in
    let same = c.deref.ensures.value ∙ c.in-Ok.ensures in
    on_ok _ _ _ c.run.result (c.run.ensures.run first begins)
    (λ replies made. (c.shows.ensures, subst (λ es. MatchesWorld c.run.new.self (run_from first es)) same made.0))

pub returns-clause-output : goal.returns-clause-output
returns-clause-output g c begins =
    let first = g.R.Origin.first in
    let same = c.deref.ensures.value ∙ c.in-Ok.ensures in
    on_ok _ _ _ c.run.result (c.run.ensures.run first begins)
    (λ replies made. same_output c.run.new.self c.args.self.now.machine (world_after first c.args.self.now.entries)
    (subst (λ es. MatchesWorld c.run.new.self (run_from first es)) same made.0) c.shows.ensures.1)
