use Rattle.std.proofs.Common.{◌∙◌, arith}
use Rattle.std.proofs.lemmas.Option.{slice_get_past}
use Rattle.jm_blocks.proofs.Placing.{at_read}
use Rattle.jm_blocks.proofs.Spelling.{object_there}
use Rattle.jm_blocks.proofs.Beginning.{none_kept}
use Rattle.jm_blocks.proofs.store.BlockStore.find_here.Goals as goal

pub returns-in_default : goal.returns-in_default
returns-in_default c = none_kept c.args.self.now c.args.place c.of-position.result.block c.of-position.result.index c.requires c.of-position.ensures.block c.of-position.ensures.index c.in_default.ensures

pub returns-then-position-len : goal.returns-then-position-len
returns-then-position-len c = at_read c.args.self.now c.args.place c.of-position.result.block c.of-position.result.index c.in-Some.block.now c.requires c.of-position.ensures.block c.of-position.ensures.index c.in-Some.ensures.1 c.in-Some.ensures.0 ∙ slice_get_past c.in-Some.block.now c.of-position.result.index (omega (arith, c.if-position-len.true, c.len.ensures.value))

pub returns : goal.returns
returns c =
    let there = object_there c.in-Some.block.now c.of-position.result.index (omega (arith, c.if-position-len.false, c.len.ensures.value)) in
    (there.0, at_read c.args.self.now c.args.place c.of-position.result.block c.of-position.result.index c.in-Some.block.now c.requires c.of-position.ensures.block c.of-position.ensures.index c.in-Some.ensures.1 c.in-Some.ensures.0 ∙ there.1, there.1)
