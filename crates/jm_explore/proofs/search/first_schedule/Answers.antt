-- The first schedule goes on from the beginning.
use Rattle.std.proofs.Common.{◌+◌, [], subst, sym}
use Rattle.jm_machine.specs.View.{MatchesWorld}
use Rattle.jm_explore.specs.Counts.{below, below_all}
use Rattle.jm_explore.proofs.Counting.{first_whole, weighs_as}
use Rattle.jm_explore.proofs.Steps.{first_making, first_matches, first_turn}
use Rattle.jm_explore.proofs.search.first_schedule.Goals as goal

pub returns-clause-made : goal.returns-clause-made
returns-clause-made g c = λ w is found path todo.
    c.in_ok-extend.ensures.made w c.args.switches found (first_making w c.args.bounds.slice c.args.switches c.args.bounds.steps found c.args.path.now.items c.args.todo.now.items path todo)
    (first_turn c.args.bounds.slice c.args.path.now.items path) (first_matches w c.args.path.now.items c.begin_again.new.machine path (subst (MatchesWorld c.begin_again.new.machine) (sym is) c.in_ok-begin_again.ensures.first))

pub returns-clause-weighs : goal.returns-clause-weighs
returns-clause-weighs g c = λ w is path todo.
    weighs_as w c.args.bounds.slice c.args.switches c.args.bounds.steps c.extend.new.path.items c.extend.new.todo.items c.args.switches
    (λ f. below w c.args.bounds.slice c.args.bounds.steps f c.args.path.now.items c.args.switches + below_all w c.args.bounds.slice c.args.bounds.steps f c.args.path.now.items c.args.todo.now.items)
    (λ f. below w c.args.bounds.slice c.args.bounds.steps f [] c.args.switches)
    (first_whole w c.args.bounds.slice c.args.bounds.steps c.args.path.now.items c.args.todo.now.items c.args.switches path todo)
    (c.in_ok-extend.ensures.weighs w c.args.switches [] (first_making w c.args.bounds.slice c.args.switches c.args.bounds.steps [] c.args.path.now.items c.args.todo.now.items path todo)
    (first_turn c.args.bounds.slice c.args.path.now.items path) (first_matches w c.args.path.now.items c.begin_again.new.machine path (subst (MatchesWorld c.begin_again.new.machine) (sym is) c.in_ok-begin_again.ensures.first)))
