use Rattle.std.proofs.Common.{◌≡◌, suc, ◌-◌, arith}
use Rattle.jm_heap.proofs.SlotLemmas.{write_at}
use Rattle.jm_heap.proofs.slots.write.Goals as goal

pub returns : goal.returns
returns c =
    let place : c.args.place ≡ suc (c.number-number.result - 1) = omega (arith, c.number-number.ensures.value, c.number-number.ensures.some) in
    rw c.set.ensures (write_at c.args.slots.now.items c.args.place (c.number-number.result - 1) c.args.index c.args.value c.index_mut.result.now c.requires.0 place c.index_mut.ensures.value c.requires.1)
