use Rattle.std.proofs.Common.{Some, sym, ap, ◌∙◌}
use Rattle.jm_tables.specs.Layouts.{slot_at}
use Rattle.jm_linked.specs.declared.tables.Tables.{Tables}
use Rattle.jm_interp.proofs.StaticRows.{number_known, instance_known, nothing_known}
use Rattle.jm_interp.proofs.static_fields.static_number.Goals as goal

pub returns-in-Some-Static : goal.returns-in-Some-Static
returns-in-Some-Static c found numbered static =
    number_known c.args.linked.now c.methods-methods.ensures.linked c.args.field found numbered static c.in-Some-Static.number
    (sym (ap Some c.in-Some-Static.field-0-is) ∙ sym c.in-Some-Static.is ∙ c.slot.ensures
    ∙ ap (λ (t : Tables). slot_at t.layout c.args.field.class c.args.field.member) c.tables.ensures)

pub returns-in-Some-Instance : goal.returns-in-Some-Instance
returns-in-Some-Instance c found numbered static =
    instance_known c.args.linked.now c.methods-methods.ensures.linked c.args.field found numbered static c.in-Some-Instance.field-0-0
    (sym (ap Some c.in-Some-Instance.field-0-is) ∙ sym c.in-Some-Instance.is ∙ c.slot.ensures
    ∙ ap (λ (t : Tables). slot_at t.layout c.args.field.class c.args.field.member) c.tables.ensures)

pub returns-in-None : goal.returns-in-None
returns-in-None c found numbered static =
    nothing_known c.args.linked.now c.methods-methods.ensures.linked c.args.field found numbered static
    (sym c.in-None.is ∙ c.slot.ensures ∙ ap (λ (t : Tables). slot_at t.layout c.args.field.class c.args.field.member) c.tables.ensures)
