use Rattle.std.proofs.Common.{sym, ◌∙◌}
use Rattle.jm_linked.proofs.BuiltInNumbers.{names_built_in}
use Rattle.jm_interp.proofs.Started.{is_among_is}
use Rattle.jm_interp.proofs.Starts.{object_lies, throws_again, method_in, begins}
use Rattle.jm_interp.proofs.thread_starts.start_thread.Goals as goal

pub serial-serial-requires : goal.serial-serial-requires
serial-serial-requires g c = object_lies c.requires.here.0 c.requires.held

pub returns-then-contains-clause-steps : goal.returns-then-contains-clause-steps
returns-then-contains-clause-steps g c =
    throws_again c.requires.here.0 c.requires.held c.serial-serial.ensures c.requires.step
    (is_among_is c.serial-serial.result c.args.state.now.started.keys ∙ sym c.contains.ensures ∙ c.if-contains.true)
    (names_built_in c.args.at.linked.now.program c.number.result _ c.number.ensures.named) c.throws.ensures.does

pub go_on_without-requires : goal.go_on_without-requires
go_on_without-requires g c =
    method_in c.requires.here.0 c.requires.held c.serial-serial.ensures c.requires.step c.in-Ok.ensures.added c.requires.here.1

pub returns-in-Ok-clause-steps : goal.returns-in-Ok-clause-steps
returns-in-Ok-clause-steps g c =
    begins c.requires.here.0 c.requires.held c.serial-serial.ensures c.requires.step c.in-Ok.ensures.added
    (is_among_is c.serial-serial.result c.args.state.now.started.keys ∙ sym c.contains.ensures ∙ c.if-contains.false) c.go_on_without.ensures.does
