use Rattle.std.proofs.Common.{sym, ap, ◌∙◌, Some}
use Rattle.jm_machine.specs.Threads.{ending_numbered}
use Rattle.jm_machine.proofs.Events.{from_one, none_is, running_there}
use Rattle.jm_machine.proofs.event.make_many.Goals as goal

pub run_thread-requires-clause-there : goal.run_thread-requires-clause-there
run_thread-requires-clause-there g c =
    running_there c.args.state.now.threads.items c.args.number
    (ap (λ ts. ending_numbered ts c.args.number) (sym c.deref.ensures.value) ∙ sym c.in-Some-Running.ensures ∙ ap Some c.in-Some-Running.field-0-is)

pub run_thread-requires-clause-from_one : goal.run_thread-requires-clause-from_one
run_thread-requires-clause-from_one g c =
    from_one c.args.state.now.threads.items c.args.number
    (ap (λ ts. ending_numbered ts c.args.number) (sym c.deref.ensures.value) ∙ sym c.in-Some-Running.ensures ∙ ap Some c.in-Some-Running.field-0-is)

pub run_thread-requires-clause-going : goal.run_thread-requires-clause-going
run_thread-requires-clause-going g c = none_is c.args.state.now.stop (sym c.is_some.ensures ∙ c.if-is_some.false)
