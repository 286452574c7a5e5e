use Rattle.std.proofs.Common.{◌∙◌, ap, sym, subst, arith}
use Rattle.jm_linked.specs.declared.tables.Tables.{Tables}
use Rattle.jm_tables.specs.Layouts.{size_at}
use Rattle.jm_machine.proofs.InstanceFields.{Sought, enough, has_size, none_above, own_sought, sought_above, sought_first, sought_last}
use Rattle.jm_machine.proofs.instance_fields.instance_field.Goals as goal

pub returns-in_default : goal.returns-in_default
returns-in_default c =
    absurd (has_size c.args.linked.now c.height-left.ensures.linked c.args.class c.args.number c.requires
    (ap (λ (t : Tables). size_at t.layout c.args.class) (sym c.tables.ensures) ∙ sym c.in_default.ensures))

pub loop-left-init : goal.loop-left-init
loop-left-init c =
    subst (λ n. Sought c.args.linked.now.program c.args.class c.args.number n c.args.class c.in-Some.size) (sym c.height-left.ensures.height)
    (sought_first c.args.linked.now c.height-left.ensures.linked c.args.class c.args.number c.requires c.in-Some.size
    (ap (λ (t : Tables). size_at t.layout c.args.class) (sym c.tables.ensures) ∙ sym c.in-Some.ensures))

pub fields_of_class-own-requires : goal.fields_of_class-own-requires
fields_of_class-own-requires c = c.loop-left.invariant.within

pub overflow_sub-inherited : goal.overflow_sub-inherited
overflow_sub-inherited c =
    let are = c.fields_of_class-own.ensures in
    enough c.args.linked.now c.height-left.ensures.linked c.loop-left.invariant c.loop-left-test.true are
    (c.superclass-superclass.ensures are.declaring are.numbered) c.instance_count.ensures

pub returns-then-number-inherited : goal.returns-then-number-inherited
returns-then-number-inherited c =
    let are = c.fields_of_class-own.ensures in
    c.own_field.ensures c.args.linked.now.program c.loop-left.at are
    ∙ sym (own_sought c.args.linked.now c.height-left.ensures.linked c.loop-left.invariant c.loop-left-test.true are
    (c.superclass-superclass.ensures are.declaring are.numbered) c.instance_count.ensures c.if-number-inherited.true)

pub returns-in_default-superclass : goal.returns-in_default-superclass
returns-in_default-superclass c =
    let are = c.fields_of_class-own.ensures in
    sym (none_above c.args.linked.now c.height-left.ensures.linked c.loop-left.invariant c.loop-left-test.true are
    (c.superclass-superclass.ensures are.declaring are.numbered) c.instance_count.ensures c.in_default-superclass.is (omega (arith, c.if-number-inherited.false)))

pub loop-left-preserved : goal.loop-left-preserved
loop-left-preserved c =
    let are = c.fields_of_class-own.ensures in
    sought_above c.args.linked.now c.height-left.ensures.linked c.loop-left.invariant c.loop-left-test.true are
    (c.superclass-superclass.ensures are.declaring are.numbered) c.instance_count.ensures c.in-Some-superclass.is (omega (arith, c.if-number-inherited.false))

pub returns : goal.returns
returns c =
    let past = c.loop-left-test.false in
    sym (sought_last c.args.linked.now.program c.args.class c.args.number c.loop-left.left c.loop-left.at c.loop-left.above c.loop-left.invariant
    (omega (arith, past)))
