-- Those above the last thread, and then those up to it.
use Rattle.std.proofs.Common.{subst}
use Rattle.jm_explore.specs.Branches.{GoesAmong}
use Rattle.jm_explore.proofs.Offers.{goes_above, goes_below}
use Rattle.jm_explore.proofs.thread.go_behind.Goals as goal

pub returns-in-Some-clause-went : goal.returns-in-Some-clause-went
returns-in-Some-clause-went g c = λ w m.
    goes_above w c.args.last c.threads-threads.result c.args.left c.args.behind c.in-Some.thread c.args.todo.now.items c.go_among.new.todo.items c.go_among.new.machine (c.threads-threads.ensures w m)
    (subst (λ o. GoesAmong w c.args.last c.threads-threads.result c.args.left c.args.behind c.args.todo.now.items c.go_among.new.todo.items c.go_among.new.machine o) c.in-Some.is (c.in_ok-above.ensures.went w m))

pub returns-in_ok-first-in-None-clause-went : goal.returns-in_ok-first-in-None-clause-went
returns-in_ok-first-in-None-clause-went g c = λ w m.
    let none = subst (λ o. GoesAmong w c.args.last c.threads-threads.result c.args.left c.args.behind c.args.todo.now.items c.go_among.new.todo.items c.go_among.new.machine o) c.in-None.is (c.in_ok-above.ensures.went w m) in
    goes_below w c.args.last c.threads-threads.result c.args.left c.args.behind c.args.todo.now.items c.go_among.new.todo.items c.go_among-in-None.new.todo.items c.go_among.new.machine c.go_among-in-None.new.machine c.in_ok-first-in-None.first
    (c.threads-threads.ensures w m) none (c.in_ok-first-in-None.ensures.went w none.2)
