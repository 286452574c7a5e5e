-- Nothing is counted.
use Rattle.std.proofs.Common.{refl}
use Rattle.jm_explore.proofs.Counting.{begun}
use Rattle.jm_explore.proofs.search.nothing_found.Goals as goal

pub returns-clause-tallied : goal.returns-clause-tallied
returns-clause-tallied c = begun (record { told = c.new.result; schedules = 0; runs = c.args.runs }) c.args.runs c.ranges.runs.fits refl refl c.new.ensures.items
