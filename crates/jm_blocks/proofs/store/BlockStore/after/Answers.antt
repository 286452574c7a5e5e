use Rattle.std.proofs.Common.{◌≡◌, ◌∙◌, Some, ap, arith, sym, subst}
use Rattle.std.specs.Prelude.{slice_get}
use Rattle.std.proofs.lemmas.Option.{slice_get_within, get_or_from_slice_get}
use Rattle.jm_blocks.specs.Stores.{IsAfter}
use Rattle.jm_blocks.proofs.Placing.{lies_in}
use Rattle.jm_blocks.proofs.Walking.{next_in_store, none_after}
use Rattle.jm_blocks.proofs.store.BlockStore.after.Goals as goal

pub returns-in_default-first_block : goal.returns-in_default-first_block
returns-in_default-first_block c =
    let s = c.args.self.now in
    let at = lies_in s c.args.place c.requires.0 c.requires.1 in
    let found : slice_get s.lists c.of.result.block ≡ Some at.block = ap (slice_get s.lists) c.of.ensures.block ∙ at.block_is in
    none_after s c.args.place c.of.result.block c.of.result.index at.block c.requires c.of.ensures.block c.of.ensures.index (slice_get_within s.lists c.of.result.block at.block found) (sym (get_or_from_slice_get s.lists c.of.result.block at.block at.block found)) (omega (arith, c.in_default.ensures at.block at.block_is, c.of.ensures.index)) c.in_default-first_block.ensures.found

pub returns : goal.returns
returns c =
    let s = c.args.self.now in
    let at = lies_in s c.args.place c.requires.0 c.requires.1 in
    let found : slice_get s.lists c.of.result.block ≡ Some at.block = ap (slice_get s.lists) c.of.ensures.block ∙ at.block_is in
    subst (λ p. IsAfter s c.args.place p) (sym c.place_in.ensures.value)
    (next_in_store s c.args.place c.of.result.block c.of.result.index c.in-Some-first_block.later at.block c.place_in.ensures.lane c.requires c.of.ensures.block c.of.ensures.index (slice_get_within s.lists c.of.result.block at.block found) (sym (get_or_from_slice_get s.lists c.of.result.block at.block at.block found)) (omega (arith, c.in_default.ensures at.block at.block_is, c.of.ensures.index)) c.in-Some-first_block.ensures.found)
