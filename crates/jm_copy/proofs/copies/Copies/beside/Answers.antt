use Rattle.std.proofs.Common.{◌∙◌, ap}
use Rattle.jm_blocks.specs.Stores.{objects_in}
use Rattle.jm_copy.proofs.Making.{store_has}
use Rattle.jm_copy.proofs.copies.Copies.beside.Goals as goal

pub beside-requires : goal.beside-requires
beside-requires c = (c.requires.0, ap (λ s. objects_in s c.args.place) c.store.ensures ∙ store_has c.args.self.now c.args.place c.requires.0 c.requires.1)
