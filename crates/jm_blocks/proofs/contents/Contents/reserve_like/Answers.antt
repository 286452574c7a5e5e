use Rattle.std.proofs.Common.{arith}
use Rattle.jm_blocks.proofs.Spelling.{entry_there}
use Rattle.jm_blocks.proofs.contents.Contents.reserve_like.Goals as goal
use Rattle.jm_heap.proofs.SizeLaws.{at_least_two}

pub index-entry-requires : goal.index-entry-requires
index-entry-requires c =
    let w = entry_there c.from.inside.entries.items c.from.inside.values c.args.from.now c.args.index c.requires.0 c.from.view_is c.requires.1 in
    omega (arith, w, c.from.inside.entries.ok.0)

pub room_for-objects-requires : goal.room_for-objects-requires
room_for-objects-requires c = let two = at_least_two c.index-entry.result.now.header.class c.index-entry.result.now.length in omega (arith, two, c.cells-cells.ensures)
