use Rattle.std.proofs.Common.{arith, ap, length}
use Rattle.jm_blocks.proofs.Spelling.{length_spelled}
use Rattle.jm_blocks.proofs.Sizes.{few_objects, held_by}
use Rattle.jm_blocks.proofs.contents.Contents.len.Goals as goal

pub returns-clause-value : goal.returns-clause-value
returns-clause-value c = omega (arith, c.len.ensures, length_spelled c.self.inside.entries.items c.self.inside.values, ap length c.self.view_is, c.self.inside.entries.ok.0)

pub returns-clause-few : goal.returns-clause-few
returns-clause-few c =
    let few = few_objects c.args.self.now (held_by c.self.inside.entries.items c.self.inside.values c.args.self.now c.self.inside.cells c.self.view_is c.self.invariant) in
    omega (arith, few, c.len.ensures, length_spelled c.self.inside.entries.items c.self.inside.values, ap length c.self.view_is, c.self.inside.entries.ok.0)
