use Rattle.std.proofs.Common.{◌≡◌, ◌∙◌, arith, sym}
use Rattle.jm_blocks.specs.Places.{block_of, index_of}
use Rattle.jm_barrier.specs.Marks.{number_of}
use Rattle.jm_barrier.proofs.Marking.{put_at, stays_off, within}
use Rattle.jm_barrier.proofs.remembered.unmark.Goals as goal

pub returns-then-is_on : goal.returns-then-is_on
returns-then-is_on c =
    let number : c.number_in_lane-number.result ≡ number_of (block_of c.args.place) (index_of c.args.place) = omega (arith, c.number_in_lane-number.ensures, c.of-position.ensures.block, c.of-position.ensures.index) in
    put_at c.args.lanes.now.items c.args.place c.of-position.result.lane c.number_in_lane-number.result c.index_mut-marks.result.now c.put.new.self _ c.of-position.ensures.lane number (omega (arith, c.of-position.ensures.lanes, c.requires)) c.index_mut-marks.ensures.value (within _ _ (sym c.is_on.ensures ∙ c.if-is_on.true)) c.put.ensures

pub returns-else-is_on : goal.returns-else-is_on
returns-else-is_on c =
    let number : c.number_in_lane-number.result ≡ number_of (block_of c.args.place) (index_of c.args.place) = omega (arith, c.number_in_lane-number.ensures, c.of-position.ensures.block, c.of-position.ensures.index) in
    stays_off c.args.lanes.now.items c.args.place c.of-position.result.lane c.number_in_lane-number.result c.index_mut-marks.result.now c.of-position.ensures.lane number (omega (arith, c.of-position.ensures.lanes, c.requires)) c.index_mut-marks.ensures.value (sym c.is_on.ensures ∙ c.if-is_on.false)
