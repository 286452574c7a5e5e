-- The number that stands in the list.
use Rattle.std.proofs.Common.{None, ap, subst, sym, ◌∙◌}
use Rattle.std.proofs.lemmas.Option.{get_or_from_slice_get}
use Rattle.std.specs.Prelude.{slice_index_or}
use Rattle.jm_linked.specs.Links.{IsLinked, LinkedView}
use Rattle.jm_linked.specs.Tables.{IsSuperclass}
use Rattle.jm_linked.proofs.linked.Linked.superclass.Goals as goal

pub returns : goal.returns
returns c = λ parts at.
    let l = c.args.self.now in
    let linked = subst IsLinked c.self.view_is c.self.invariant.1 in
    let found = linked.tables.superclasses c.args.class parts at in
    let list = c.as_slice.ensures ∙ ap (λ (v : LinkedView). v.tables.superclasses) c.self.view_is in
    subst (IsSuperclass l.program parts.superclass)
    (sym (c.number_at.ensures ∙ ap (λ ns. slice_index_or ns c.args.class None) list ∙ get_or_from_slice_get l.tables.superclasses c.args.class found.0 None
    found.1))
    found.2
