-- The branches stay if the thread went.
use Rattle.std.proofs.Common.{◌∙◌, sym}
use Rattle.jm_explore.proofs.Offers.{truncated, went_false, went_true}
use Rattle.jm_explore.proofs.thread.go_on.Goals as goal

pub returns-then-branch-clause-went : goal.returns-then-branch-clause-went
returns-then-branch-clause-went g c = λ w m.
    let told = c.in_ok-went.ensures.went w m in
    (sym told.0 ∙ c.if-branch.true, c.in_ok-push_switches.ensures w m, went_true c.in_ok-went.field-0 w c.args.thread c.went.new.machine c.if-branch.true told.1)

pub returns-clause-went : goal.returns-clause-went
returns-clause-went g c = λ w m.
    let told = c.in_ok-went.ensures.went w m in
    let more = c.in_ok-push_switches.ensures w m in (
      sym told.0 ∙ c.if-branch.false,
      truncated c.args.todo.now.items more.added c.push_switches.new.todo.items c.truncate.new.self.items c.len-kept.result more.new_is (c.len-kept.ensures ∙ c.args.todo.now.ok.0) c.truncate.ensures.items,
      went_false c.in_ok-went.field-0 w c.args.thread c.went.new.machine c.if-branch.false told.1,
    )
