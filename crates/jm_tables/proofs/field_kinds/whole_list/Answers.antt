-- The list is all of the row, or a copy of the row's part of it is.
use Rattle.std.proofs.Common.{◌∙◌, ◌≤◌, List, ap, length, subst, sym, take}
use Rattle.std.proofs.lemmas.List.{length-take-le}
use Rattle.jm_program.specs.declared.instruction.operation.OperandType.{OperandType}
use Rattle.jm_tables.specs.FieldKinds.{HasKinds, IsWhole}
use Rattle.jm_tables.proofs.KindRowLaws.{list_read, row_short, head_taken, whole_same, whole_push, kept_push}
use Rattle.jm_tables.proofs.field_kinds.whole_list.Goals as goal

pub returns-then-len-row-clause-whole : goal.returns-then-len-row-clause-whole
returns-then-len-row-clause-whole c = λ kinds has.
    whole_same c.args.lists.now.items c.args.row kinds has c.index-list.result.now
    (list_read c.args.lists.now.items c.args.row kinds has c.index-list.result.now c.index-list.ensures)
    (sym c.index-list.result.now.ok.0 ∙ sym c.len.ensures ∙ c.if-len-row.true)

pub slice_bounds-copy_of-end : goal.slice_bounds-copy_of-end
slice_bounds-copy_of-end c =
    let has = c.requires.1 in
    let short : c.args.row.length ≤ length c.index-list.result.now.items = row_short c.args.lists.now.items c.args.row c.requires.0 has c.index-list.result.now
    (list_read c.args.lists.now.items c.args.row c.requires.0 has c.index-list.result.now c.index-list.ensures) in
    sym (length-take-le c.args.row.length c.deref.result.now
    (subst (λ (ks : List OperandType). c.args.row.length ≤ length ks) (sym c.deref.ensures.value) short))

pub returns-clause-whole : goal.returns-clause-whole
returns-clause-whole c = λ kinds has.
    subst (λ ls. IsWhole ls c.in-Ok.number kinds) (sym c.in_ok-push.ensures.items)
    (whole_push c.args.lists.now.items c.in_ok-copy.copy c.in-Ok.number kinds
    (c.in-Ok.ensures.1 ∙ c.len-2.ensures ∙ c.args.lists.now.ok.0)
    (c.in_ok-copy.ensures ∙ ap (take c.args.row.length) c.deref.ensures.value
    ∙ head_taken c.args.lists.now.items c.args.row kinds has c.index-list.result.now
    (list_read c.args.lists.now.items c.args.row kinds has c.index-list.result.now c.index-list.ensures)))

pub returns-clause-kept : goal.returns-clause-kept
returns-clause-kept c = λ row kinds has.
    subst (λ ls. HasKinds ls row kinds) (sym c.in_ok-push.ensures.items) (kept_push c.args.lists.now.items row kinds has c.in_ok-copy.copy)
