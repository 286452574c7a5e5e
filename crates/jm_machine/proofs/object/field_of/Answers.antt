use Rattle.std.proofs.Common.{sym, ap, ◌∙◌}
use Rattle.std.specs.Prelude.{slice_get}
use Rattle.jm_state.specs.Parts.{named_type}
use Rattle.jm_machine.specs.Seen.{fields_of_type}
use Rattle.jm_machine.proofs.object.field_of.Goals as goal

pub returns-in-Instance : goal.returns-in-Instance
unfolding named_type
returns-in-Instance c =
    c.field_in_class.ensures
    ∙ sym (ap (λ t. slice_get (fields_of_type c.args.linked.now.program (named_type c.args.linked.now.program t)) c.args.index) c.in-Instance.is)

pub returns-in-Array : goal.returns-in-Array
unfolding named_type
returns-in-Array c =
    sym (ap (λ t. slice_get (fields_of_type c.args.linked.now.program (named_type c.args.linked.now.program t)) c.args.index) c.in-Array.is)
