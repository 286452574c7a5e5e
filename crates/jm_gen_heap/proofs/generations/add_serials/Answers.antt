use Rattle.std.proofs.Common.{arith}
use Rattle.jm_gen_heap.proofs.Serials.{blocks_next, blocks_all}
use Rattle.jm_gen_heap.proofs.generations.add_serials.Goals as goal

pub loop-number-preserved : goal.loop-number-preserved
loop-number-preserved c = blocks_next c.args.store.now.lists c.loop-number.number c.block.result.now c.args.serials.now.items c.loop-number.serials.items c.add_block.new.serials.items c.block.ensures c.loop-number.invariant c.in_ok-add_block.ensures

pub returns : goal.returns
returns c = blocks_all c.args.store.now.lists c.loop-number.number c.args.serials.now.items c.loop-number.serials.items (omega (arith, c.loop-number-test.false, c.len-number-end.ensures.value)) c.loop-number.invariant
