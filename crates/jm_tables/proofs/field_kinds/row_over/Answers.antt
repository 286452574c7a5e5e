-- The class's own kinds come after those of its superclass.
use Rattle.std.proofs.Common.{◌∙◌, ◌++◌, List, ap, arith, eqb-true, length, sym}
use Rattle.std.proofs.lemmas.Option.{slice_get_within}
use Rattle.jm_program.specs.declared.instruction.operation.OperandType.{OperandType}
use Rattle.jm_tables.proofs.KindRowLaws.{kept_set, over_none, whole_items, whole_over}
use Rattle.jm_tables.proofs.field_kinds.row_over.Goals as goal

pub returns-then-is_empty-clause-over : goal.returns-then-is_empty-clause-over
returns-then-is_empty-clause-over c = λ kinds has.
    over_none c.args.lists.now.items c.args.above kinds has c.args.own.now (eqb-true (length c.args.own.now) 0 (sym c.if-is_empty.ensures))

pub index_mut-list-requires : goal.index_mut-list-requires
index_mut-list-requires c =
    let whole = c.in_ok-number.ensures.whole c.requires.0 c.requires.1 in
    let less = slice_get_within c.whole_list.new.lists.items c.in_ok-number.number whole.list whole.list_is in
    let long = c.whole_list.new.lists.ok.0 in omega (arith, less, long)

pub returns-clause-over : goal.returns-clause-over
returns-clause-over c = λ kinds has.
    let whole = c.in_ok-number.ensures.whole kinds has in
    whole_over c.whole_list.new.lists.items c.in_ok-number.number c.in-Ok.length kinds c.args.own.now c.extend_from_slice.new.self whole
    (c.in_ok-extend_from_slice.ensures.items ∙ ap (λ (ks : List OperandType). ks ++ c.args.own.now)
    (whole_items c.whole_list.new.lists.items c.in_ok-number.number kinds c.index_mut-list.result.now whole c.index_mut-list.ensures.value))
    (c.in-Ok.ensures.1 ∙ c.len.ensures ∙ c.extend_from_slice.new.self.ok.0)

pub returns-clause-kept : goal.returns-clause-kept
returns-clause-kept c = λ row kinds has.
    let whole = c.in_ok-number.ensures.whole c.requires.0 c.requires.1 in
    kept_set c.whole_list.new.lists.items row kinds (c.in_ok-number.ensures.kept row kinds has) c.in_ok-number.number c.requires.0 c.args.own.now
    c.extend_from_slice.new.self whole
    (c.in_ok-extend_from_slice.ensures.items ∙ ap (λ (ks : List OperandType). ks ++ c.args.own.now)
    (whole_items c.whole_list.new.lists.items c.in_ok-number.number c.requires.0 c.index_mut-list.result.now whole c.index_mut-list.ensures.value))
