use Rattle.std.proofs.Common.{◌∙◌, refl}
use Rattle.jm_par_copy.proofs.Merged.{left_above, moved_all, moved_none, moved_then}
use Rattle.jm_par_copy.proofs.merging.move_opened.Goals as goal

pub loop-number-init : goal.loop-number-init
loop-number-init c = record {
  moved = moved_none c.args.from.now c.args.to.now c.requires.over;
  left = λ n h. (h, c.requires.below n h);
  many = refl;
}

pub loop-number-preserved : goal.loop-number-preserved
loop-number-preserved c =
    let i = c.loop-number.invariant in
    let e = c.move_block.ensures in
    record {
      moved = moved_then c.args.from.now c.args.to.now c.loop-number.from c.loop-number.to c.move_block.new.from c.move_block.new.to i.moved e.moved;
      left = left_above c.args.from.now c.loop-number.from c.move_block.new.from c.loop-number.number e.moved.from_lane e.left i.left;
      many = e.many ∙ i.many;
    }

pub returns-clause-all : goal.returns-clause-all
returns-clause-all c =
    let i = c.loop-number.invariant in
    moved_all c.args.from.now c.args.to.now c.loop-number.from c.loop-number.to c.args.count c.loop-number.number i.moved c.requires.above c.loop-number-test.false i.left
