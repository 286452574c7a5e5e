use Rattle.std.proofs.Common.{ap, ◌∙◌, ◌++◌, [], ◌∷◌, arith, length}
use Rattle.jm_heap.specs.Packing.{list_of}
use Rattle.jm_blocks.specs.Objects.{aged}
use Rattle.jm_blocks.specs.Cells.{object_cells}
use Rattle.jm_blocks.proofs.Spelling.{entry_there, entry_within, read_there, object_is}
use Rattle.jm_blocks.proofs.Sizes.{room_by, few_values, size_bounded}
use Rattle.jm_blocks.proofs.Copied.{block_copied, spelled_copied}
use Rattle.jm_blocks.proofs.contents.Contents.bump_copy.Goals as goal

pub index-entry-requires : goal.index-entry-requires
index-entry-requires c =
    let w = entry_there c.from.inside.entries.items c.from.inside.values c.args.from.now c.args.index c.requires.0 c.from.view_is c.requires.1 in
    omega (arith, w, c.from.inside.entries.ok.0)

pub push_from-requires : goal.push_from-requires
push_from-requires c =
    let there = read_there c.from.inside.entries.items c.from.inside.values c.args.from.now c.args.index c.index-entry.result.now c.requires.0 c.from.view_is c.index-entry.ensures c.requires.1 in
    rw (c.kind.ensures, c.start.ensures, c.length.ensures.value) (entry_within c.from.inside.entries.items c.from.inside.values c.from.inside.cells c.args.index c.index-entry.result.now c.from.invariant there)

pub overflow_cast-start : goal.overflow_cast-start
overflow_cast-start c =
    let room = room_by c.self.inside.entries.items c.self.inside.values c.args.self.now c.self.inside.cells (object_cells c.requires.0) c.self.view_is c.self.invariant c.requires.2 in
    let few = few_values c.self.inside.entries.items c.self.inside.values c.kind.result (object_cells c.requires.0) c.self.inside.cells c.self.invariant room in
    omega (arith, few, c.in_ok-start.ensures.first)

pub invariant_of-self-2 : goal.invariant_of-self-2
invariant_of-self-2 c =
    let es = c.self.inside.entries.items in
    let fs = c.from.inside.entries.items in
    let e = c.index-entry.result.now in
    let o = c.requires.0 in
    let there = read_there fs c.from.inside.values c.args.from.now c.args.index e o c.from.view_is c.index-entry.ensures c.requires.1 in
    let is = object_is fs c.from.inside.values c.args.from.now c.args.index e o c.from.view_is c.index-entry.ensures c.requires.1 in
    let room = room_by es c.self.inside.values c.args.self.now c.self.inside.cells (object_cells o) c.self.view_is c.self.invariant c.requires.2 in
    rw (c.push_entry.ensures, c.reserve.ensures.items, c.in_ok-start.ensures.ok, c.cells.ensures, c.kind.ensures, c.start.ensures, c.length.ensures.value)
    (block_copied es fs c.self.inside.values c.from.inside.values c.self.inside.cells c.from.inside.cells c.args.index c.args.age c.in_ok-start.start e o c.self.invariant c.from.invariant there is (c.in_ok-start.ensures.first ∙ ap (λ k. length (list_of k c.self.inside.values)) c.kind.ensures) (omega (arith, c.length.ensures.value, c.length.ensures.short)) room)

pub returns-clause-ok : goal.returns-clause-ok
returns-clause-ok c o h =
    let es = c.self.inside.entries.items in
    let fs = c.from.inside.entries.items in
    let e = c.index-entry.result.now in
    let there = read_there fs c.from.inside.values c.args.from.now c.args.index e o c.from.view_is c.index-entry.ensures h in
    let is = object_is fs c.from.inside.values c.args.from.now c.args.index e o c.from.view_is c.index-entry.ensures h in
    rw (c.push_entry.ensures, c.reserve.ensures.items, c.in_ok-start.ensures.ok, c.kind.ensures, c.start.ensures, c.length.ensures.value)
    (spelled_copied es fs c.self.inside.values c.from.inside.values c.self.inside.cells c.from.inside.cells c.args.index c.args.age c.in_ok-start.start e o c.self.invariant c.from.invariant there is (c.in_ok-start.ensures.first ∙ ap (λ k. length (list_of k c.self.inside.values)) c.kind.ensures))
    ∙ ap (λ os. os ++ aged c.args.age o ∷ []) c.self.view_is

pub overflow_add-self : goal.overflow_add-self
overflow_add-self c =
    let e = c.index-entry.result.now in
    let most = size_bounded e.header.class e.length in
    omega (arith, most, c.self.invariant.bounded, c.cells.ensures, c.length.ensures.value, c.length.ensures.short)
