-- What the table says.
use Rattle.std.proofs.Common.{ap, subst, ◌∙◌}
use Rattle.jm_tables.specs.Hierarchies.{is_above}
use Rattle.jm_linked.specs.Links.{IsLinked, LinkedView}
use Rattle.jm_linked.proofs.HeldTypes.{subclass_is}
use Rattle.jm_linked.proofs.linked.Linked.is_subclass.Goals as goal

pub returns : goal.returns
returns c = λ name other a b.
    let l = c.args.self.now in
    let linked = subst IsLinked c.self.view_is c.self.invariant.1 in
    c.is_below.ensures
    ∙ ap (λ (v : LinkedView). is_above v.tables.hierarchy c.args.class c.args.above) c.self.view_is
    ∙ subclass_is l linked c.args.class c.args.above name other a b
