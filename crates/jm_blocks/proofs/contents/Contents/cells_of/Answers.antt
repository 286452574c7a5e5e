use Rattle.std.proofs.Common.{arith, ap, sym, ◌∙◌}
use Rattle.jm_blocks.specs.Cells.{object_cells}
use Rattle.jm_blocks.proofs.Sizes.{entry_size}
use Rattle.jm_blocks.proofs.Spelling.{entry_there, read_there, object_is}
use Rattle.jm_blocks.proofs.contents.Contents.cells_of.Goals as goal

pub index-entry-requires : goal.index-entry-requires
index-entry-requires c =
    let w = entry_there c.self.inside.entries.items c.self.inside.values c.args.self.now c.args.index c.requires.0 c.self.view_is c.requires.1 in
    omega (arith, w, c.self.inside.entries.ok.0)

pub returns : goal.returns
returns c o e =
    let there = read_there c.self.inside.entries.items c.self.inside.values c.args.self.now c.args.index c.index-entry.result.now o c.self.view_is c.index-entry.ensures e in
    let is = object_is c.self.inside.entries.items c.self.inside.values c.args.self.now c.args.index c.index-entry.result.now o c.self.view_is c.index-entry.ensures e in
    c.cells.ensures ∙ sym (entry_size c.self.inside.entries.items c.self.inside.values c.self.inside.cells c.args.index c.index-entry.result.now c.self.invariant there) ∙ ap object_cells is
