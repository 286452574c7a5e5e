use Rattle.std.proofs.Common.{arith}
use Rattle.jm_par_copy.proofs.Merged.{filled_within, filled_above}
use Rattle.jm_par_copy.proofs.merging.filled_blocks.Goals as goal

pub returns-in-Some-clause-within : goal.returns-in-Some-clause-within
returns-in-Some-clause-within c =
    let block = c.of.ensures.block in
    let last = filled_within c.args.store.now c.in-Some.place c.in-Some.ensures.0 in
    omega (arith, block, last)

pub returns-in-Some-clause-above : goal.returns-in-Some-clause-above
returns-in-Some-clause-above c n h =
    let block = c.of.ensures.block in
    let last = filled_above c.args.store.now c.in-Some.place c.in-Some.ensures.1 n h in
    omega (arith, block, last)
