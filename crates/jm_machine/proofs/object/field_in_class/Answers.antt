use Rattle.std.proofs.Common.{◌≡◌, ◌∙◌, ap, sym, length, eqb-true}
use Rattle.std.specs.Prelude.{◌==◌, slice_get}
use Rattle.jm_world.specs.Objects.{instance_fields}
use Rattle.jm_linked.proofs.HeldTypes.{named_at}
use Rattle.jm_linked.specs.Links.{class_name_of}
use Rattle.jm_machine.proofs.InstanceFields.{fields_of_named, fields_of_nameless, names_it, not_empty}
use Rattle.jm_machine.proofs.object.field_in_class.Goals as goal

pub returns-then-is_empty : goal.returns-then-is_empty
returns-then-is_empty c =
    let program = c.args.linked.now.program in
    let name = class_name_of program c.args.class in
    let empty : length name ≡ 0 = eqb-true (length name) 0 (sym (c.if-is_empty.ensures ∙ ap (λ n. length n == 0) c.class_name.ensures)) in
    sym (ap (λ fs. slice_get fs c.args.index) (fields_of_nameless program name empty))

pub instance_field-requires : goal.instance_field-requires
instance_field-requires c =
    let program = c.args.linked.now.program in
    let name = class_name_of program c.args.class in
    let some = not_empty name (c.if-is_empty.ensures ∙ ap (λ n. length n == 0) c.class_name.ensures) in
    (named_at program c.args.class name (names_it program c.args.class some)).1

pub returns : goal.returns
returns c =
    let program = c.args.linked.now.program in
    let name = class_name_of program c.args.class in
    let some = not_empty name (c.if-is_empty.ensures ∙ ap (λ n. length n == 0) c.class_name.ensures) in
    c.instance_field.ensures
    ∙ ap (λ n. slice_get (instance_fields program n) c.args.index) (named_at program c.args.class name (names_it program c.args.class some)).0
    ∙ ap (λ fs. slice_get fs c.args.index) (sym (fields_of_named program name some))
