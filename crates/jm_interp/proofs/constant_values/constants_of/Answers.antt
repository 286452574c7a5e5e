use Rattle.std.proofs.Common.{ap, ◌∙◌}
use Rattle.jm_linked.specs.declared.tables.Tables.{Tables}
use Rattle.jm_interp.proofs.ConstantValues.{constants_within, constants_there}
use Rattle.jm_interp.proofs.constant_values.constants_of.Goals as goal

pub bounds-as_slice-class : goal.bounds-as_slice-class
bounds-as_slice-class c =
    constants_within c.args.linked.now c.classes-classes.ensures.linked c.args.class c.requires
    (c.as_slice.ensures ∙ ap (λ (t : Tables). t.constants) c.tables.ensures)

pub returns : goal.returns
returns c =
    constants_there c.args.linked.now c.classes-classes.ensures.linked c.args.class c.requires
    (c.as_slice.ensures ∙ ap (λ (t : Tables). t.constants) c.tables.ensures) c.index-as_slice-class.is c.as_slice-2.ensures
