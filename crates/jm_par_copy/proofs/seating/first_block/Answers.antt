use Rattle.std.proofs.Common.{◌∙◌, true, false, arith, sym, subst}
use Rattle.jm_par_copy.specs.Begun.{IsLastOwn}
use Rattle.jm_par_copy.proofs.Begun.{begin_new, begin_there}
use Rattle.jm_par_copy.proofs.seating.first_block.Goals as goal

pub returns-then-last-len-clause-begins : goal.returns-then-last-len-clause-begins
returns-then-last-len-clause-begins c =
    let own = subst (λ k. IsLastOwn c.args.number c.args.copiers k c.last_own-last.result) c.len.ensures.value c.last_own-last.ensures in
    let over = c.if-last-len.true in
    let value = c.len-2.ensures.value in
    begin_new c.args.number c.args.copiers c.args.old.now.lists c.last_own-last.result own (omega (arith, over, value))

pub returns-then-has_room-clause-begins : goal.returns-then-has_room-clause-begins
returns-then-has_room-clause-begins c =
    let own = subst (λ k. IsLastOwn c.args.number c.args.copiers k c.last_own-last.result) c.len.ensures.value c.last_own-last.ensures in
    begin_there c.args.number c.args.copiers c.args.old.now.lists c.last_own-last.result c.block.result.now true own c.block.ensures (sym c.has_room.ensures.value ∙ c.if-has_room.true)

pub returns-clause-begins : goal.returns-clause-begins
returns-clause-begins c =
    let own = subst (λ k. IsLastOwn c.args.number c.args.copiers k c.last_own-last.result) c.len.ensures.value c.last_own-last.ensures in
    begin_there c.args.number c.args.copiers c.args.old.now.lists c.last_own-last.result c.block.result.now false own c.block.ensures (sym c.has_room.ensures.value ∙ c.if-has_room.false)
