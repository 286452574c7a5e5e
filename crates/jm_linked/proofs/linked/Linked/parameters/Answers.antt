-- What the linked method of the number in the table says.
use Rattle.std.proofs.Common.{Some, None, sym, ap, subst, ◌∙◌}
use Rattle.std.proofs.lemmas.Option.{slice_get-get_or}
use Rattle.std.specs.Prelude.{slice_get, slice_index_or}
use Rattle.jm_linked.specs.Links.{IsLinked, LinkedView}
use Rattle.jm_linked.proofs.Parameters.{parameters_are}
use Rattle.jm_linked.proofs.linked.Linked.parameters.Goals as goal

pub returns : goal.returns
returns c = λ name t e.
    let l = c.args.self.now in
    let n = c.args.selector in
    let k = c.in_ok-code.code in
    let m = c.in_ok-method.method.now in
    let linked = subst IsLinked c.self.view_is c.self.invariant.1 in
    let (within, there) = c.in_ok-method.ensures.lookup.3 in
    let code = c.number_at.ensures ∙ ap (λ cs. slice_index_or cs n None) (c.as_slice.ensures ∙ ap (λ (v : LinkedView). v.tables.codes) c.self.view_is) in
    let at = slice_get-get_or c.as_slice-2.result.now k m within ∙ ap Some (sym (there m)) in
    c.as_slice-3.ensures
    ∙ parameters_are l linked n k name t e (sym c.in_ok-code.was ∙ code) m
    (ap (λ ms. slice_get ms k) (sym (c.as_slice-2.ensures ∙ ap (λ (v : LinkedView). v.methods) c.self.view_is)) ∙ at)
