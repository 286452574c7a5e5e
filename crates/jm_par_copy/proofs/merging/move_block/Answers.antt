use Rattle.std.proofs.Common.{◌≡◌, ◌<◌, [], ◌∙◌, arith, ap, sym, subst, length}
use Rattle.std.proofs.lemmas.List.{length-set}
use Rattle.std.specs.Prelude.{slice_get}
use Rattle.jm_program.proofs.Sequences.{got_written}
use Rattle.jm_blocks.specs.Stores.{Blocks}
use Rattle.jm_par_copy.specs.Merging.{IsLeft}
use Rattle.jm_par_copy.proofs.Merged.{left_one, moved_block}
use Rattle.jm_par_copy.proofs.merging.move_block.Goals as goal

pub put-requires : goal.put-requires
put-requires c = ap (λ (s : Blocks). slice_get s.lists c.args.number) c.take-first.ensures.left ∙ got_written c.args.to.now.lists c.args.number [] c.requires.opened

pub returns-clause-moved : goal.returns-clause-moved
returns-clause-moved c =
    let both = c.block.ensures in
    let taken = c.take-block.ensures.block in
    let count = c.len-count.ensures.value in
    let none = c.if-count-eq0.false in
    let same : c.block.result.now ≡ c.take-block.result = cc in
    let many = ap length same in
    let some : 0 < length c.take-block.result = omega (arith, many, count, none) in
    moved_block c.args.alloc c.args.from.now c.args.to.now c.take-first.new.self c.take-block.new.self c.put.new.self c.args.number c.take-block.result c.requires.lane c.take-block.ensures.lane c.requires.over c.take-block.ensures.block some c.requires.opened c.take-block.ensures.left c.take-first.ensures.left c.put.ensures

pub returns-clause-left : goal.returns-clause-left
returns-clause-left c = subst (λ s. IsLeft c.args.from.now s c.args.number) (sym c.take-block.ensures.left) (left_one c.args.from.now c.args.number c.take-block.result c.take-block.ensures.block)

pub returns-clause-many : goal.returns-clause-many
returns-clause-many c =
    let put = ap (λ (s : Blocks). length s.lists) c.put.ensures ∙ length-set c.take-first.new.self.lists c.args.number c.take-block.result in
    put ∙ ap (λ (s : Blocks). length s.lists) c.take-first.ensures.left ∙ length-set c.args.to.now.lists c.args.number []
