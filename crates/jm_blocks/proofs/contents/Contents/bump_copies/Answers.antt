use Rattle.std.proofs.Common.{replicate, ap, sym, ◌∙◌, ◌++◌, [], ◌∷◌, arith}
use Rattle.std.proofs.lemmas.List.{length-replicate}
use Rattle.jm_heap.specs.Cells.{class_size}
use Rattle.jm_blocks.specs.Objects.{object_of}
use Rattle.jm_blocks.proofs.Spelling.{spelled_more}
use Rattle.jm_blocks.proofs.Sizes.{room_by, block_more, few_values}
use Rattle.jm_blocks.proofs.contents.Contents.bump_copies.Goals as goal

pub overflow_cast-start : goal.overflow_cast-start
overflow_cast-start c =
    let few = few_values c.self.inside.entries.items c.self.inside.values c.of-kind.result (class_size c.args.header.class c.args.count) c.self.inside.cells c.self.invariant (room_by c.self.inside.entries.items c.self.inside.values c.args.self.now c.self.inside.cells (class_size c.args.header.class c.args.count) c.self.view_is c.self.invariant c.requires.room) in
    omega (arith, few, c.len-start.ensures)

pub invariant_of-self-2 : goal.invariant_of-self-2
invariant_of-self-2 c =
    rw (c.push_reserved.ensures.items, c.new.ensures, c.reserve.ensures.items, c.in_ok-push.ensures.ok, c.size.ensures) (block_more c.self.inside.entries.items c.self.inside.values c.of-kind.result (replicate c.args.count c.args.value) _ c.self.inside.cells c.self.invariant c.of-kind.ensures c.len-start.ensures (sym (length-replicate c.args.count c.args.value)) (omega (arith, length-replicate c.args.count c.args.value, c.ranges.count)) (room_by c.self.inside.entries.items c.self.inside.values c.args.self.now c.self.inside.cells (class_size c.args.header.class c.args.count) c.self.view_is c.self.invariant c.requires.room))

pub returns-clause-ok : goal.returns-clause-ok
returns-clause-ok c =
    rw (c.push_reserved.ensures.items, c.new.ensures, c.reserve.ensures.items, c.in_ok-push.ensures.ok) (spelled_more c.self.inside.entries.items c.self.inside.values c.self.inside.cells c.of-kind.result (replicate c.args.count c.args.value) _ c.self.invariant c.of-kind.ensures c.len-start.ensures (sym (length-replicate c.args.count c.args.value))) ∙ ap (λ os. os ++ object_of c.args.header (replicate c.args.count c.args.value) ∷ []) c.self.view_is
