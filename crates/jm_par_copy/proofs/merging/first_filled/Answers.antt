use Rattle.std.proofs.Common.{arith}
use Rattle.jm_par_copy.proofs.merging.first_filled.Goals as goal

pub returns-in-Some : goal.returns-in-Some
returns-in-Some c n h =
    let block = c.of.ensures.block in
    let least = c.in-Some.ensures.least n h in
    omega (arith, block, least)
