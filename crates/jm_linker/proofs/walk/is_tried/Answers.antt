-- A walk over fewer classes.
use Rattle.std.proofs.Common.{◌≤◌, sym, arith}
use Rattle.jm_linker.proofs.WalkLaws.{is_vain}
use Rattle.jm_linker.proofs.walk.is_tried.Goals as goal

pub returns-in-Some : goal.returns-in-Some
returns-in-Some c = λ test program vain is name named.
    let fewer : c.args.depth ≤ c.in-Some.most.now = grind (arith, is) in
    is_vain test program c.args.depth c.in-Some.most.now name fewer (vain c.args.number c.in-Some.most.now (sym c.in-Some.ensures.value) name named)
