-- What the number in the table says.
use Rattle.std.proofs.Common.{Some, None, sym, ap, subst, ◌∙◌}
use Rattle.std.specs.Prelude.{slice_index_or}
use Rattle.jm_world.specs.Resolution.{select}
use Rattle.jm_tables.specs.Tables.{row_at}
use Rattle.jm_tables.specs.Numbering.{name_of}
use Rattle.jm_linked.specs.Links.{IsLinked, LinkedView}
use Rattle.jm_linked.specs.Tables.{all_names}
use Rattle.jm_linked.proofs.Coded.{method_selected, nothing_selected, number_selected}
use Rattle.jm_linked.proofs.linked.Linked.select.Goals as goal

pub returns-in_default : goal.returns-in_default
returns-in_default c = λ name t e within.
    let l = c.args.self.now in
    let linked = subst IsLinked c.self.view_is c.self.invariant.1 in
    let row = c.select.ensures ∙ ap (λ (v : LinkedView). row_at v.tables.selected c.args.class c.args.selector) c.self.view_is in
    nothing_selected l (select l.program (name_of (all_names l.program) c.args.class) name t)
    (number_selected l linked c.args.class c.args.selector name t None e within (sym c.in_default.is ∙ row))

pub returns-in-Some-number_at : goal.returns-in-Some-number_at
returns-in-Some-number_at c = λ name t e within.
    let l = c.args.self.now in
    let n = c.in-Some.method in
    let linked = subst IsLinked c.self.view_is c.self.invariant.1 in
    let row = c.select.ensures ∙ ap (λ (v : LinkedView). row_at v.tables.selected c.args.class c.args.selector) c.self.view_is in
    let code = c.number_at.ensures ∙ ap (λ cs. slice_index_or cs n None) (c.as_slice.ensures ∙ ap (λ (v : LinkedView). v.tables.codes) c.self.view_is) in
    method_selected l linked n (select l.program (name_of (all_names l.program) c.args.class) name t) (Some c.in-Some-number_at.code)
    (sym c.in-Some-number_at.is ∙ code)
    (number_selected l linked c.args.class c.args.selector name t (Some n) e within (sym c.in-Some.is ∙ row))

pub returns-in-None : goal.returns-in-None
returns-in-None c = λ name t e within.
    let l = c.args.self.now in
    let n = c.in-Some.method in
    let linked = subst IsLinked c.self.view_is c.self.invariant.1 in
    let row = c.select.ensures ∙ ap (λ (v : LinkedView). row_at v.tables.selected c.args.class c.args.selector) c.self.view_is in
    let code = c.number_at.ensures ∙ ap (λ cs. slice_index_or cs n None) (c.as_slice.ensures ∙ ap (λ (v : LinkedView). v.tables.codes) c.self.view_is) in
    method_selected l linked n (select l.program (name_of (all_names l.program) c.args.class) name t) None (sym c.in-None.is ∙ code)
    (number_selected l linked c.args.class c.args.selector name t (Some n) e within (sym c.in-Some.is ∙ row))
