-- The journal has the collection more, where one is made.
use Rattle.std.proofs.Common.{refl, false}
use Rattle.std.proofs.lemmas.Result.{err_from_is_err_and}
use Rattle.jm_world.specs.Run.{run_from}
use Rattle.jm_execute.proofs.Making.{collected_more, none_collected, unchanged}
use Rattle.jm_execute.proofs.one_worker.collect.Goals as goal

pub returns-in_err-turn-in-Some : goal.returns-in_err-turn-in-Some
returns-in_err-turn-in-Some g c =
    let p = err_from_is_err_and c.from_residual.result c.from_residual.ensures.1 in
    rw p.1 (λ made has.
    unchanged g.R.Origin.first c.args.stress false made c.args.journal.now c.turn.new.self c.in_err-turn-in-Some.ensures.entries (c.in_err-turn-in-Some.ensures.machine (run_from g.R.Origin.first made) has.matches) has)

pub returns-in_ok-turn-in-Some : goal.returns-in_ok-turn-in-Some
returns-in_ok-turn-in-Some g c = λ made has.
    collected_more g.R.Origin.first c.args.stress c.in-Some.kind made _ c.args.journal.now c.turn.new.self c.in-Some.is refl c.collection_of.ensures c.in_ok-turn-in-Some.ensures.entries
    (c.in_ok-turn-in-Some.ensures.machine (run_from g.R.Origin.first made) has.matches).0 has

pub returns-in-None : goal.returns-in-None
returns-in-None g c = λ made has. none_collected g.R.Origin.first c.args.stress made c.args.journal.now c.in-None.is has
