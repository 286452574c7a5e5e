-- One thread more is listed.
use Rattle.std.proofs.Common.{◌+◌, refl, arith}
use Rattle.jm_events.specs.declared.pass.Pass.{Pass}
use Rattle.jm_events.proofs.Passes.{knows_listed}
use Rattle.jm_events.proofs.pass.Pass.list.Goals as goal

pub loop-self-preserved : goal.loop-self-preserved
loop-self-preserved c = λ w passed all knows.
    let old : Pass = c.loop-self.self in
    let new : Pass = record { ahead = c.push_back.new.self; behind = old.behind; known = old.known + 1 } in
    knows_listed w old new passed (omega (arith, c.loop-self-test.true, all)) refl refl c.in_ok-push_back.ensures.items (c.loop-self.invariant w passed all knows)

pub returns : goal.returns
returns c = λ w passed all knows.
    let so = c.loop-self.invariant w passed all knows in
    let few = so.known in
    (so, omega (arith, all, few, c.loop-self-test.false))
