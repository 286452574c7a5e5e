use Rattle.std.proofs.Common.{Some, ◌∙◌, ap, refl, sym}
use Rattle.jm_world.specs.Fields.{name_of_field}
use Rattle.jm_tables.specs.Layouts.{slot_at}
use Rattle.jm_linked.specs.declared.tables.Tables.{Tables}
use Rattle.jm_interp.proofs.FieldPlaces.{no_place, its_place}
use Rattle.jm_interp.proofs.FieldRows.{array_place, instance_place}
use Rattle.jm_interp.proofs.Unwound.{names_class}
use Rattle.jm_interp.proofs.fields.place_in.Goals as goal

pub returns-in_default : goal.returns-in_default
returns-in_default c found numbered = (array_place c.args.linked.now.program (name_of_field found) c.in_default.is, refl)

pub returns-then-not-has_fields_of : goal.returns-then-not-has_fields_of
returns-then-not-has_fields_of c found numbered =
    let program = c.args.linked.now.program in
    let within = (c.has_class.ensures found.class numbered.class).0 c.if-not-has_class.false in
    let has = c.has_fields_of.ensures found.class _ numbered.class (names_class program c.in-Instance.class within) in (
      instance_place program (name_of_field found) c.in-Instance.is
          ∙ no_place c.args.linked.now c.methods-methods.ensures.linked c.in-Instance.class within c.args.field found numbered
          (sym has ∙ c.if-not-has_fields_of.true),
      refl,
    )

pub returns-in-Some-Instance : goal.returns-in-Some-Instance
returns-in-Some-Instance c found numbered =
    let program = c.args.linked.now.program in
    let within = (c.has_class.ensures found.class numbered.class).0 c.if-not-has_class.false in
    let has = c.has_fields_of.ensures found.class _ numbered.class (names_class program c.in-Instance.class within) in
    instance_place program (name_of_field found) c.in-Instance.is
    ∙ its_place c.args.linked.now c.methods-methods.ensures.linked c.in-Instance.class within c.args.field found numbered
    (sym has ∙ c.if-not-has_fields_of.false)
    (sym (ap (λ (t : Tables). slot_at t.layout c.args.field.class c.args.field.member) c.tables.ensures) ∙ sym c.slot.ensures
    ∙ c.in-Some-Instance.is ∙ ap Some c.in-Some-Instance.field-0-is)
