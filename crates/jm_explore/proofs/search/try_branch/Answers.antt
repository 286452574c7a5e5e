-- The path is cut, the events before the branch are made again, and its thread goes or does not.
use Rattle.std.proofs.Common.{◌∙◌, ◌+◌, None, ap, subst, sym}
use Rattle.jm_world.specs.Loading.{loaded_world}
use Rattle.jm_machine.specs.View.{MatchesWorld}
use Rattle.jm_explore.specs.Counts.{below, below_all}
use Rattle.jm_explore.specs.Switches.{turn_from, world_after}
use Rattle.jm_explore.proofs.Counting.{branch_goes, branch_stuck, weighs_as}
use Rattle.jm_explore.proofs.Offers.{went_true}
use Rattle.jm_explore.proofs.Steps.{making_as, turn_more, without_as, world_is}
use Rattle.jm_explore.proofs.search.try_branch.Goals as goal

pub returns-then-not-branch-clause-tried : goal.returns-then-not-branch-clause-tried
returns-then-not-branch-clause-tried g c = λ w is most found todo popped s.
    let m = subst (λ v. MatchesWorld c.run_again.new.machine (world_after v c.truncate.new.self.items)) (sym is) (subst (λ p. MatchesWorld c.run_again.new.machine (world_after (loaded_world c.args.machine.now.linked.program (g.E.EmptyHeaps.limit c.args.heaps.now)) p)) c.deref.ensures.value c.in_ok-run_again.ensures.first) in
    let told = c.in_ok-went.ensures.went (world_after w c.truncate.new.self.items) m in
    without_as w c.args.bounds.slice most c.args.bounds.steps found c.args.path.now.items c.truncate.new.self.items todo c.args.todo.now.items c.args.branch s popped c.truncate.ensures.items (sym told.0 ∙ c.if-not-branch.true)

pub returns-clause-tried : goal.returns-clause-tried
returns-clause-tried g c = λ w is most found todo popped s.
    let cut = c.truncate.new.self.items in
    let m = subst (λ v. MatchesWorld c.run_again.new.machine (world_after v c.truncate.new.self.items)) (sym is) (subst (λ p. MatchesWorld c.run_again.new.machine (world_after (loaded_world c.args.machine.now.linked.program (g.E.EmptyHeaps.limit c.args.heaps.now)) p)) c.deref.ensures.value c.in_ok-run_again.ensures.first) in
    let told = c.in_ok-went.ensures.went (world_after w cut) m in
    let more = c.in-Ok.ensures.items in
    c.in_ok-extend.ensures.made w most found
    (making_as w c.args.bounds.slice most c.args.bounds.steps found c.args.path.now.items cut c.push.new.self.items todo c.args.todo.now.items c.args.branch s popped c.truncate.ensures.items more (sym told.0 ∙ c.if-not-branch.false))
    (turn_more c.args.bounds.slice cut c.push.new.self.items c.args.branch.thread c.last_turn-last.result c.next_turn-turn.result more (c.last_turn-last.ensures ∙ ap (turn_from c.args.bounds.slice None) c.deref-2.ensures.value) c.next_turn-turn.ensures)
    (world_is w cut c.push.new.self.items c.args.branch.thread c.went.new.machine more (went_true c.in_ok-went.field-0 (world_after w cut) c.args.branch.thread c.went.new.machine c.if-not-branch.false told.1))

pub returns-then-not-branch-clause-weighs : goal.returns-then-not-branch-clause-weighs
returns-then-not-branch-clause-weighs g c = λ w is most found todo popped s f.
    let m = subst (λ v. MatchesWorld c.run_again.new.machine (world_after v c.truncate.new.self.items)) (sym is) (subst (λ p. MatchesWorld c.run_again.new.machine (world_after (loaded_world c.args.machine.now.linked.program (g.E.EmptyHeaps.limit c.args.heaps.now)) p)) c.deref.ensures.value c.in_ok-run_again.ensures.first) in
    let told = c.in_ok-went.ensures.went (world_after w c.truncate.new.self.items) m in
    branch_stuck w c.args.bounds.slice most c.args.bounds.steps found c.args.path.now.items c.truncate.new.self.items todo c.args.todo.now.items c.args.branch s popped c.truncate.ensures.items f (sym told.0 ∙ c.if-not-branch.true)

pub returns-clause-weighs : goal.returns-clause-weighs
returns-clause-weighs g c = λ w is most found todo popped s.
    let cut = c.truncate.new.self.items in
    let m = subst (λ v. MatchesWorld c.run_again.new.machine (world_after v c.truncate.new.self.items)) (sym is) (subst (λ p. MatchesWorld c.run_again.new.machine (world_after (loaded_world c.args.machine.now.linked.program (g.E.EmptyHeaps.limit c.args.heaps.now)) p)) c.deref.ensures.value c.in_ok-run_again.ensures.first) in
    let told = c.in_ok-went.ensures.went (world_after w cut) m in
    let more = c.in-Ok.ensures.items in
    weighs_as w c.args.bounds.slice most c.args.bounds.steps c.extend.new.path.items c.extend.new.todo.items c.args.branch.left
    (λ f. below w c.args.bounds.slice c.args.bounds.steps f c.push.new.self.items c.args.branch.left + below_all w c.args.bounds.slice c.args.bounds.steps f c.push.new.self.items c.args.todo.now.items)
    (λ f. below_all w c.args.bounds.slice c.args.bounds.steps f c.args.path.now.items todo)
    (λ f. branch_goes w c.args.bounds.slice most c.args.bounds.steps found c.args.path.now.items cut todo c.args.todo.now.items c.args.branch s popped c.truncate.ensures.items f c.push.new.self.items (sym told.0 ∙ c.if-not-branch.false) more)
    (c.in_ok-extend.ensures.weighs w most found
    (making_as w c.args.bounds.slice most c.args.bounds.steps found c.args.path.now.items cut c.push.new.self.items todo c.args.todo.now.items c.args.branch s popped c.truncate.ensures.items more (sym told.0 ∙ c.if-not-branch.false))
    (turn_more c.args.bounds.slice cut c.push.new.self.items c.args.branch.thread c.last_turn-last.result c.next_turn-turn.result more (c.last_turn-last.ensures ∙ ap (turn_from c.args.bounds.slice None) c.deref-2.ensures.value) c.next_turn-turn.ensures)
    (world_is w cut c.push.new.self.items c.args.branch.thread c.went.new.machine more (went_true c.in_ok-went.field-0 (world_after w cut) c.args.branch.thread c.went.new.machine c.if-not-branch.false told.1)))
