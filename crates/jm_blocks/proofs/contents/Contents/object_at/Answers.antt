use Rattle.std.proofs.Common.{arith, ap, sym, length, ◌∙◌, refl}
use Rattle.std.specs.Prelude.{slice_get}
use Rattle.std.proofs.lemmas.Option.{slice_get_read}
use Rattle.jm_blocks.proofs.Spelling.{entry_there, entry_within, spelled_get}
use Rattle.jm_blocks.proofs.contents.Contents.object_at.Goals as goal

pub index-entry-requires : goal.index-entry-requires
index-entry-requires c =
    let w = entry_there c.self.inside.entries.items c.self.inside.values c.args.self.now c.args.index c.requires.0 c.self.view_is c.requires.1 in
    omega (arith, w, c.self.inside.entries.ok.0)

pub elements-requires : goal.elements-requires
elements-requires c =
    let w = entry_there c.self.inside.entries.items c.self.inside.values c.args.self.now c.args.index c.requires.0 c.self.view_is c.requires.1 in
    let there = slice_get_read c.self.inside.entries.items (length c.self.inside.entries.items) c.args.index c.index-entry.result.now refl w c.index-entry.ensures in
    rw (c.kind.ensures, c.start.ensures, c.length.ensures.value) (entry_within c.self.inside.entries.items c.self.inside.values c.self.inside.cells c.args.index c.index-entry.result.now c.self.invariant there)

pub returns-clause-value : goal.returns-clause-value
returns-clause-value c =
    let w = entry_there c.self.inside.entries.items c.self.inside.values c.args.self.now c.args.index c.requires.0 c.self.view_is c.requires.1 in
    let there = slice_get_read c.self.inside.entries.items (length c.self.inside.entries.items) c.args.index c.index-entry.result.now refl w c.index-entry.ensures in
    rw (c.header.ensures, c.elements.ensures.values, c.kind.ensures, c.start.ensures, c.length.ensures.value)
    (ap (λ os. slice_get os c.args.index) (sym c.self.view_is)
    ∙ spelled_get c.self.inside.entries.items c.self.inside.values c.args.index c.index-entry.result.now there)
