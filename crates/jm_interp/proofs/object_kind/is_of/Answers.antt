use Rattle.std.proofs.Common.{◌∙◌}
use Rattle.jm_linked.specs.Links.{class_name_of}
use Rattle.jm_interp.proofs.ThrowRow.{names_known, instance_of_class, array_of_class}
use Rattle.jm_interp.proofs.object_kind.is_of.Goals as goal

pub returns-in-Instance : goal.returns-in-Instance
returns-in-Instance c name above =
    let program = c.args.linked.now.program in
    c.is_subclass.ensures (class_name_of program c.in-Instance.own) name (names_known program c.in-Instance.is c.requires) above
    ∙ instance_of_class program c.in-Instance.is name

pub returns-in-Array : goal.returns-in-Array
returns-in-Array c name above = array_of_class c.args.linked.now.program c.in-Array.is name
