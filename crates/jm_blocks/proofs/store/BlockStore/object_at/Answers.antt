use Rattle.std.proofs.Common.{◌∙◌, ap, sym}
use Rattle.std.specs.Prelude.{slice_get}
use Rattle.jm_blocks.proofs.Placing.{read_at}
use Rattle.jm_blocks.proofs.Walking.{lies_some}
use Rattle.jm_blocks.proofs.store.BlockStore.object_at.Goals as goal

pub filled-block-requires : goal.filled-block-requires
filled-block-requires c =
    let some = lies_some c.args.self.now c.args.place (c.requires.0, c.requires.1) in
    (some.0, ap (slice_get c.args.self.now.lists) c.of-position.ensures.block ∙ some.1, some.2)

pub object_at-requires : goal.object_at-requires
object_at-requires c = (c.requires.0, read_at c.args.self.now c.args.place c.of-position.result.block c.of-position.result.index c.filled-block.result.now c.requires.0 c.requires.1 c.of-position.ensures.block c.of-position.ensures.index c.filled-block.ensures.value)

pub returns-clause-value : goal.returns-clause-value
returns-clause-value c = c.requires.1 ∙ sym (read_at c.args.self.now c.args.place c.of-position.result.block c.of-position.result.index c.filled-block.result.now c.requires.0 c.requires.1 c.of-position.ensures.block c.of-position.ensures.index c.filled-block.ensures.value) ∙ c.object_at.ensures.value
