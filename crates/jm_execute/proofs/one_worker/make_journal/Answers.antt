-- The journal has what was made.
use Rattle.jm_execute.proofs.Making.{journal_ends, journal_kept, journal_made}
use Rattle.jm_execute.proofs.one_worker.make_journal.Goals as goal

pub returns-clause-events : goal.returns-clause-events
returns-clause-events g c = journal_made g.R.Origin.first c.args.stress _ c.make_events-made.new.journal c.make_events-made.result c.make_events-made.ensures

pub returns-clause-ends : goal.returns-clause-ends
returns-clause-ends g c = journal_ends g.R.Origin.first c.args.stress _ c.make_events-made.new.journal c.make_events-made.result c.make_events-made.ensures

pub returns-clause-journal : goal.returns-clause-journal
returns-clause-journal g c =
    journal_kept g.R.Origin.first c.args.stress _ c.make_events-made.new.journal c.make_events-made.result c.entry-legal.ensures.legal c.make_events-made.ensures
