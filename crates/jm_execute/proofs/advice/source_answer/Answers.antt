-- The events of the source.
use Rattle.std.proofs.Common.{ap, sym, ◌∙◌}
use Rattle.std.specs.String.{string_bytes}
use Rattle.jm_execute.specs.Sources.{events_made}
use Rattle.jm_execute.proofs.Advices.{answered_of}
use Rattle.jm_execute.proofs.advice.source_answer.Goals as goal

pub returns-in-Schedule : goal.returns-in-Schedule
returns-in-Schedule g c = λ w m.
    answered_of string_bytes c.events_answer.result c.args.most w _ _ (c.new-events.ensures ∙ ap (λ s. events_made s w) (sym c.in-Schedule.is)) (c.events_answer.ensures w m tt)

pub returns-in-RoundRobin : goal.returns-in-RoundRobin
returns-in-RoundRobin g c = λ w m.
    answered_of string_bytes c.events_answer-in-RoundRobin.result c.args.most w _ _ (c.new-events-in-RoundRobin.ensures.due w ∙ ap (λ s. events_made s w) (sym c.in-RoundRobin.is))
    (c.events_answer-in-RoundRobin.ensures w m (c.new-events-in-RoundRobin.ensures.knows w))
