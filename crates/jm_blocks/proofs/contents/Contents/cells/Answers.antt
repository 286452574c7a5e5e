use Rattle.jm_blocks.proofs.Sizes.{held_by, cells_by}
use Rattle.jm_blocks.proofs.contents.Contents.cells.Goals as goal

pub returns-clause-value : goal.returns-clause-value
returns-clause-value c = cells_by c.self.inside.entries.items c.self.inside.values c.args.self.now c.self.inside.cells c.self.view_is c.self.invariant

pub returns-clause-held : goal.returns-clause-held
returns-clause-held c = held_by c.self.inside.entries.items c.self.inside.values c.args.self.now c.self.inside.cells c.self.view_is c.self.invariant
