use Rattle.std.proofs.Common.{ap, subst, sym, ◌∙◌}
use Rattle.jm_world.specs.Types.{narrow}
use Rattle.jm_interp.specs.ConstantValues.{HasString, IsConstantValue}
use Rattle.jm_interp.proofs.ConstantValues.{found_field, is_numbered, static_there, place_within_all, has_string, constant_given, nowhere_given}
use Rattle.jm_interp.proofs.constant_values.set_constant.Goals as goal

pub value_of-requires : goal.value_of-requires
value_of-requires g c = subst (λ s. HasString s c.args.constant) (sym c.as_slice.ensures.value) (has_string c.requires.0 c.requires.3)

pub index_mut-requires : goal.index_mut-requires
index_mut-requires g c =
    let begins = c.requires.3 in
    place_within_all c.requires.0 begins
    (c.in-Some.ensures (found_field c.requires.0 begins) (is_numbered c.requires.0 begins) (static_there c.requires.0 begins))

pub returns-in-Some-clause-does : goal.returns-in-Some-clause-does
returns-in-Some-clause-does g c parts field begins =
    let value = subst (λ s. IsConstantValue s c.args.constant c.value_of.result) c.as_slice.ensures.value c.value_of.ensures in
    let type = c.type_of_field.ensures parts field begins.class_is.own begins.field_is in
    constant_given c.requires.0 begins c.value_of.result value c.narrow-value.result (c.narrow-value.ensures ∙ ap (λ t. narrow t c.value_of.result) type)
    (c.in-Some.ensures (found_field c.requires.0 begins) (is_numbered c.requires.0 begins) (static_there c.requires.0 begins))

pub returns-in_default-clause-does : goal.returns-in_default-clause-does
returns-in_default-clause-does g c parts field begins =
    let value = subst (λ s. IsConstantValue s c.args.constant c.value_of.result) c.as_slice.ensures.value c.value_of.ensures in
    let type = c.type_of_field.ensures parts field begins.class_is.own begins.field_is in
    nowhere_given c.requires.0 begins c.value_of.result value c.narrow-value.result (c.narrow-value.ensures ∙ ap (λ t. narrow t c.value_of.result) type)
    (c.in_default.ensures (found_field c.requires.0 begins) (is_numbered c.requires.0 begins) (static_there c.requires.0 begins))
