use Rattle.std.proofs.Common.{sym, subst}
use Rattle.jm_blocks.specs.Stores.{IsFirst}
use Rattle.jm_blocks.proofs.Walking.{nothing_there, first_there}
use Rattle.jm_blocks.proofs.store.BlockStore.first.Goals as goal

pub returns-in_default : goal.returns-in_default
returns-in_default c = nothing_there c.args.self.now c.in_default.ensures.found

pub returns : goal.returns
returns c = subst (λ p. IsFirst c.args.self.now p) (sym c.place_in.ensures.value) (first_there c.args.self.now c.in-Some.block c.place_in.ensures.lane c.in-Some.ensures.found)
