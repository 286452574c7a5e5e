-- The last thread, or another.
use Rattle.std.proofs.Common.{subst}
use Rattle.jm_explore.specs.Branches.{Advances}
use Rattle.jm_explore.specs.Switches.{switch_within}
use Rattle.jm_explore.proofs.Offers.{goes_elsewhere, goes_on_not, goes_on_true, goes_within}
use Rattle.jm_explore.proofs.thread.go_within.Goals as goal

pub returns-then-branch-clause-went : goal.returns-then-branch-clause-went
returns-then-branch-clause-went g c = λ w m. goes_within w c.args.last c.args.left c.args.behind c.args.todo.now.items c.go_on.new.todo.items c.go_on.new.machine
    (goes_on_true c.in_ok-go_on.field-0 w c.args.last c.args.left c.args.behind c.args.todo.now.items c.go_on.new.todo.items c.go_on.new.machine c.if-branch.true (c.in_ok-go_on.ensures.went w m))

pub returns-clause-went : goal.returns-clause-went
returns-clause-went g c = λ w m.
    let n = goes_on_not c.in_ok-go_on.field-0 w c.args.last c.args.left c.args.behind c.args.todo.now.items c.go_on.new.todo.items c.go_on.new.machine c.if-branch.false (c.in_ok-go_on.ensures.went w m) in
    subst (λ bs. Advances w (switch_within w c.args.last) c.args.left c.args.behind bs c.go_elsewhere.new.todo.items c.go_elsewhere.new.machine c.in_ok-next.next) n.1
    (goes_elsewhere w c.args.last c.args.left c.args.behind c.go_on.new.todo.items c.go_elsewhere.new.todo.items c.go_elsewhere.new.machine c.in_ok-next.next n.0 (c.in_ok-next.ensures.went w n.2 n.0))
