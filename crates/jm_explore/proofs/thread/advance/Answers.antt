-- The last thread's slice goes on, or is over.
use Rattle.jm_explore.proofs.Going.{nobody_goes}
use Rattle.jm_explore.proofs.Offers.{behind_slice, first_event, within_slice}
use Rattle.jm_explore.proofs.thread.advance.Goals as goal

pub returns-then-goes_on-clause-went : goal.returns-then-goes_on-clause-went
returns-then-goes_on-clause-went g c = λ w m. within_slice w c.args.slice c.in-Some.turn c.args.last c.args.left c.args.behind c.args.todo.now.items c.go_within.new.todo.items c.go_within.new.machine c.in_ok-next.next
    c.in-Some.is c.if-goes_on.true (c.in_ok-next.ensures.went w m)

pub returns-clause-went : goal.returns-clause-went
returns-clause-went g c = λ w m. behind_slice w c.args.slice c.in-Some.turn c.args.last c.args.left c.args.behind c.args.todo.now.items c.go_behind.new.todo.items c.go_behind.new.machine c.in_ok-next-2.next
    c.in-Some.is c.if-goes_on.false (c.in_ok-next-2.ensures.went w m)

pub returns-in-None-clause-went : goal.returns-in-None-clause-went
returns-in-None-clause-went g c = λ w m. first_event w c.args.slice c.args.last c.args.left c.args.behind c.args.todo.now.items c.go_elsewhere.new.todo.items c.go_elsewhere.new.machine c.in_ok-next-in-None.next
    c.in-None.is (c.in_ok-next-in-None.ensures.went w m (nobody_goes w))
