-- The events of the source.
use Rattle.std.proofs.Common.{ap, sym, ◌∙◌}
use Rattle.jm_execute.specs.Beginnings.{beginning}
use Rattle.jm_execute.specs.Sources.{events_made}
use Rattle.jm_execute.specs.Written.{words}
use Rattle.jm_execute.proofs.KeptRecords.{run_of}
use Rattle.jm_execute.proofs.execution.run_by_one_worker.Goals as goal

pub returns-in-Schedule : goal.returns-in-Schedule
returns-in-Schedule g c =
    run_of (words g.O.Write.contents g.O.Watchable.ends) (words g.E.Write.contents g.E.Watchable.ends) c.args.wanted.show_heap c.args.wanted.is_recorded c.args.wanted.stress (beginning c.args.machine) _ _
    c.run_events.result c.args.out.now c.run_events.new.out c.args.err.now c.run_events.new.err
    (c.new-events.ensures ∙ ap (λ s. events_made s (beginning c.args.machine)) (sym c.in-Schedule.is)) c.run_events.ensures

pub run_events-requires-in-RoundRobin-clause-knows : goal.run_events-requires-in-RoundRobin-clause-knows
run_events-requires-in-RoundRobin-clause-knows g c = c.new-events-in-RoundRobin.ensures.knows (beginning c.args.machine)

pub returns-in-RoundRobin : goal.returns-in-RoundRobin
returns-in-RoundRobin g c =
    run_of (words g.O.Write.contents g.O.Watchable.ends) (words g.E.Write.contents g.E.Watchable.ends) c.args.wanted.show_heap c.args.wanted.is_recorded c.args.wanted.stress (beginning c.args.machine) _ _
    c.run_events-in-RoundRobin.result c.args.out.now c.run_events-in-RoundRobin.new.out c.args.err.now c.run_events-in-RoundRobin.new.err
    (c.new-events-in-RoundRobin.ensures.due (beginning c.args.machine) ∙ ap (λ s. events_made s (beginning c.args.machine)) (sym c.in-RoundRobin.is)) c.run_events-in-RoundRobin.ensures
