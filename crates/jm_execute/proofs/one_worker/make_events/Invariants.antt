-- The journal has the events so far, and the others are due.
use Rattle.jm_execute.specs.Making.{Stands}
use Rattle.jm_execute.proofs.one_worker.make_events.Given as goal

abbrev pub invariant-loop : goal.invariant-loop
invariant-loop g l = Stands g.S.EventsDue.due g.S.EventsDue.knows g.R.Origin.first l.stress (g.S.EventsDue.due l.initial.source g.R.Origin.first) l.source l.journal
