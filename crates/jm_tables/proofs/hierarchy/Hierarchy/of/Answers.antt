-- What the rows have is what is above.
use Rattle.std.proofs.Common.{◌∙◌, ap, arith}
use Rattle.std.specs.Prelude.{is_some}
use Rattle.jm_tables.proofs.HierarchyLaws.{subclass_found}
use Rattle.jm_tables.proofs.hierarchy.Hierarchy.of.Goals as goal

pub returns-in-Some-clause-above_them : goal.returns-in-Some-clause-above_them
returns-in-Some-clause-above_them c = λ program names heirs class above small less.
    let rows = (rw c.in-Some.is at c.in_ok-rows.ensures).rows in
    ap is_some (rows class above (omega (arith, small, heirs.many)) (let least = c.in-Ok.ensures in omega (arith, less, heirs.many, least)))
    ∙ subclass_found program names c.args.classes.now heirs class above small less
