use Rattle.std.proofs.Common.{map, ap, sym, ◌∙◌, ◌++◌, [], ◌∷◌, arith, length}
use Rattle.std.proofs.lemmas.List.{length-map}
use Rattle.jm_values.specs.Objects.{default_of}
use Rattle.jm_heap.specs.Cells.{class_size}
use Rattle.jm_blocks.specs.Objects.{object_of}
use Rattle.jm_heap.specs.declared.storage.Storage.TheVariants as kind
use Rattle.jm_blocks.proofs.Spelling.{spelled_more}
use Rattle.jm_blocks.proofs.Sizes.{room_by, block_more, few_values}
use Rattle.jm_blocks.proofs.contents.Contents.bump_defaults.Goals as goal

pub overflow_cast-start : goal.overflow_cast-start
overflow_cast-start c =
    let few = few_values c.self.inside.entries.items c.self.inside.values kind.Fields (class_size c.args.header.class (length c.args.fields.now)) c.self.inside.cells c.self.invariant (room_by c.self.inside.entries.items c.self.inside.values c.args.self.now c.self.inside.cells (class_size c.args.header.class (length c.args.fields.now)) c.self.view_is c.self.invariant c.requires.room) in
    omega (arith, few, c.len-start.ensures)

pub invariant_of-self-2 : goal.invariant_of-self-2
invariant_of-self-2 c =
    rw (c.push_reserved.ensures.items, c.new.ensures, c.reserve.ensures.items, c.in_ok-push_defaults.ensures.ok, c.size.ensures) (block_more c.self.inside.entries.items c.self.inside.values kind.Fields (map default_of c.args.fields.now) _ c.self.inside.cells c.self.invariant c.requires.instance c.len-start.ensures (sym (length-map c.args.fields.now default_of)) (omega (arith, length-map c.args.fields.now default_of, c.requires.short)) (room_by c.self.inside.entries.items c.self.inside.values c.args.self.now c.self.inside.cells (class_size c.args.header.class (length c.args.fields.now)) c.self.view_is c.self.invariant c.requires.room))

pub returns-clause-ok : goal.returns-clause-ok
returns-clause-ok c =
    rw (c.push_reserved.ensures.items, c.new.ensures, c.reserve.ensures.items, c.in_ok-push_defaults.ensures.ok) (spelled_more c.self.inside.entries.items c.self.inside.values c.self.inside.cells kind.Fields (map default_of c.args.fields.now) _ c.self.invariant c.requires.instance c.len-start.ensures (sym (length-map c.args.fields.now default_of))) ∙ ap (λ os. os ++ object_of c.args.header (map default_of c.args.fields.now) ∷ []) c.self.view_is
