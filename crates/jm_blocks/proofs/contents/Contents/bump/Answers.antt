use Rattle.std.proofs.Common.{refl, ap, sym, ◌∙◌, ◌++◌, [], ◌∷◌, arith, length}
use Rattle.jm_heap.specs.Elements.{elements, element_kind}
use Rattle.jm_heap.specs.Packing.{list_of}
use Rattle.jm_heap.specs.Cells.{class_size}
use Rattle.jm_blocks.specs.Objects.{object_of}
use Rattle.jm_blocks.proofs.Spelling.{spelled_more}
use Rattle.jm_blocks.proofs.Sizes.{room_by, block_more, few_values}
use Rattle.jm_blocks.proofs.contents.Contents.bump.Goals as goal

pub overflow_cast-start : goal.overflow_cast-start
overflow_cast-start c =
    let few = few_values c.self.inside.entries.items c.self.inside.values (element_kind c.args.values) (class_size c.args.header.class (length (elements c.args.values))) c.self.inside.cells c.self.invariant (room_by c.self.inside.entries.items c.self.inside.values c.args.self.now c.self.inside.cells (class_size c.args.header.class (length (elements c.args.values))) c.self.view_is c.self.invariant c.requires.room) in
    omega (arith, few, (c.len-start.ensures ∙ ap (λ k. length (list_of k c.self.inside.values)) (c.of.ensures ∙ sym c.requires.same)))

pub invariant_of-self-2 : goal.invariant_of-self-2
invariant_of-self-2 c =
    rw (c.push_reserved.ensures.items, c.new.ensures, c.reserve.ensures.items, c.in_ok-push_elements.ensures.ok, c.size.ensures, c.len-count.ensures) (block_more c.self.inside.entries.items c.self.inside.values (element_kind c.args.values) (elements c.args.values) _ c.self.inside.cells c.self.invariant c.requires.same (c.len-start.ensures ∙ ap (λ k. length (list_of k c.self.inside.values)) (c.of.ensures ∙ sym c.requires.same)) refl c.requires.short (room_by c.self.inside.entries.items c.self.inside.values c.args.self.now c.self.inside.cells (class_size c.args.header.class (length (elements c.args.values))) c.self.view_is c.self.invariant c.requires.room))

pub returns-clause-ok : goal.returns-clause-ok
returns-clause-ok c =
    rw (c.push_reserved.ensures.items, c.new.ensures, c.reserve.ensures.items, c.in_ok-push_elements.ensures.ok, c.len-count.ensures) (spelled_more c.self.inside.entries.items c.self.inside.values c.self.inside.cells (element_kind c.args.values) (elements c.args.values) _ c.self.invariant c.requires.same (c.len-start.ensures ∙ ap (λ k. length (list_of k c.self.inside.values)) (c.of.ensures ∙ sym c.requires.same)) refl) ∙ ap (λ os. os ++ object_of c.args.header (elements c.args.values) ∷ []) c.self.view_is
