use Rattle.std.proofs.Common.{◌∙◌}
use Rattle.jm_machine.proofs.Literals.{too_small}
use Rattle.jm_machine.proofs.load.is_too_small.Goals as goal

pub returns : goal.returns
returns c =
    let linked = c.classes-classes.ensures.linked in
    too_small c.args.linked.now.program c.literals.result.now c.args.limit c.pass_limit.result c.pass_limit.ensures (c.literals.ensures ∙ linked.literals)
