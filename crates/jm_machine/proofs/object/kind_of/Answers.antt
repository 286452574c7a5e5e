use Rattle.std.proofs.Common.{sym, ap, ◌∙◌}
use Rattle.jm_world.specs.Types.{instance_of, array_of}
use Rattle.jm_state.specs.Parts.{named_type}
use Rattle.jm_machine.proofs.object.kind_of.Goals as goal

pub returns-in-Instance : goal.returns-in-Instance
unfolding named_type
returns-in-Instance c = ap instance_of c.class_name.ensures ∙ sym (ap (named_type c.args.linked.now.program) c.in-Instance.is)

pub returns-in-Array : goal.returns-in-Array
unfolding named_type
returns-in-Array c =
    ap (λ e. array_of (record { dimensions = c.in-Array.component.dimensions; element = e })) c.element_of.ensures ∙ sym (ap (named_type c.args.linked.now.program) c.in-Array.is)
