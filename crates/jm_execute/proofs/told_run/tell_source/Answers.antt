-- The events of the source.
use Rattle.std.proofs.Common.{List, Ok, ap, sym, ◌∙◌}
use Rattle.jm_world.specs.Loading.{loaded_world}
use Rattle.jm_world.specs.declared.event.Event.{Event}
use Rattle.jm_execute.specs.Sources.{events_made}
use Rattle.jm_execute.specs.Tellings.{told_run}
use Rattle.jm_execute.specs.Written.{words}
use Rattle.jm_execute.proofs.TextsTold.{told_of}
use Rattle.jm_execute.proofs.told_run.tell_source.Goals as goal

pub returns-in-Schedule : goal.returns-in-Schedule
returns-in-Schedule g c = λ program limit m.
    let w = loaded_world program limit in
    let same = c.new-events.ensures ∙ ap (λ s. events_made s w) (sym c.in-Schedule.is) in
    told_of (words g.O.Write.contents g.O.Watchable.ends) (words g.E.Write.contents g.E.Watchable.ends) (g.T.Teller.telling c.args.teller.now) _ _ c.tell_events.result c.args.out.now c.tell_events.new.out c.args.err.now c.tell_events.new.err
    (ap (λ (es : List Event). Ok (told_run program limit es)) same) (c.tell_events.ensures program limit m tt)

pub returns-in-RoundRobin : goal.returns-in-RoundRobin
returns-in-RoundRobin g c = λ program limit m.
    let w = loaded_world program limit in
    let same = c.new-events-in-RoundRobin.ensures.due w ∙ ap (λ s. events_made s w) (sym c.in-RoundRobin.is) in
    told_of (words g.O.Write.contents g.O.Watchable.ends) (words g.E.Write.contents g.E.Watchable.ends) (g.T.Teller.telling c.args.teller.now) _ _ c.tell_events-in-RoundRobin.result c.args.out.now c.tell_events-in-RoundRobin.new.out c.args.err.now c.tell_events-in-RoundRobin.new.err
    (ap (λ (es : List Event). Ok (told_run program limit es)) same) (c.tell_events-in-RoundRobin.ensures program limit m (c.new-events-in-RoundRobin.ensures.knows w))
