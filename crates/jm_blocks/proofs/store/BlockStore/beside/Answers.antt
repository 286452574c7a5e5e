use Rattle.std.proofs.Common.{◌≡◌, ◌+◌, ◌∙◌, Some, refl, ap, arith, sym, subst, length}
use Rattle.std.specs.Prelude.{slice_get}
use Rattle.std.proofs.lemmas.Option.{slice_get_read}
use Rattle.jm_blocks.specs.Places.{place_at}
use Rattle.jm_blocks.specs.Stores.{IsAfter}
use Rattle.jm_blocks.proofs.Placing.{lies_in}
use Rattle.jm_blocks.proofs.Walking.{lies_some, next_in_block}
use Rattle.jm_blocks.proofs.store.BlockStore.beside.Goals as goal

pub filled-block-requires : goal.filled-block-requires
filled-block-requires c =
    let some = lies_some c.args.self.now c.args.place (c.requires.0, c.requires.1) in
    (some.0, ap (slice_get c.args.self.now.lists) c.of-position.ensures.block ∙ some.1, some.2)

pub returns-then-position-len : goal.returns-then-position-len
returns-then-position-len c =
    let s = c.args.self.now in
    let at = lies_in s c.args.place c.requires.0 c.requires.1 in
    let next = next_in_block s c.args.place c.of-position.result.block c.of-position.result.index c.filled-block.result.now c.filled-block.ensures.lane c.requires c.of-position.ensures.block c.of-position.ensures.index c.filled-block.ensures.within c.filled-block.ensures.value (omega (arith, c.if-position-len.true, c.len.ensures.value)) (omega (arith, c.len.ensures.value, c.len.ensures.few)) in
    let place : place_at s.lane c.of-position.result.block (c.of-position.result.index + 1) ≡ c.new.result = omega (arith, at.lane, c.of-position.ensures.lane, c.of-position.ensures.again, c.new.ensures, c.number.ensures.value) in
    subst (λ p. IsAfter s c.args.place p) place next

pub returns : goal.returns
returns c os e =
    let s = c.args.self.now in
    let read : slice_get s.lists c.of-position.result.block ≡ Some c.filled-block.result.now = slice_get_read s.lists (length s.lists) c.of-position.result.block c.filled-block.result.now refl c.filled-block.ensures.within c.filled-block.ensures.value in
    let both : Some c.filled-block.result.now ≡ Some os = sym read ∙ ap (slice_get s.lists) c.of-position.ensures.block ∙ e in
    let same : c.filled-block.result.now ≡ os = cc in
    omega (arith, ap length same, c.len.ensures.value, c.if-position-len.false, c.of-position.ensures.index)
