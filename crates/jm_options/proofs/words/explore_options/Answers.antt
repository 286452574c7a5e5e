-- What the matches of an exploration hold, and what they lack.
use Rattle.std.proofs.Common.{codes}
use Rattle.clap.specs.Words.{found_of, rows_of}
use Rattle.jm_options.proofs.Finding.{given_least, given_most, lacks_part}
use Rattle.jm_options.specs.declared.request.ExploreOptions.{ExploreOptions}
use Rattle.jm_options.proofs.words.explore_options.Goals as goal

pub returns-in_err-number_asked : goal.returns-in_err-number_asked
returns-in_err-number_asked c =
    lacks_part _ _ c.from_residual.result _ c.from_residual.ensures.1 c.in_err-number_asked.ensures (λ (o : ExploreOptions). o.switches) (λ o holds. holds.switches)

pub returns-in_err-number_asked-2 : goal.returns-in_err-number_asked-2
returns-in_err-number_asked-2 c =
    lacks_part _ _ c.from_residual-in_err-number_asked-2.result _ c.from_residual-in_err-number_asked-2.ensures.1 c.in_err-number_asked-2.ensures (λ (o : ExploreOptions). o.steps) (λ o holds. holds.steps)

pub returns-in_err-number_asked-3 : goal.returns-in_err-number_asked-3
returns-in_err-number_asked-3 c =
    lacks_part _ _ c.from_residual-in_err-number_asked-3.result _ c.from_residual-in_err-number_asked-3.ensures.1 c.in_err-number_asked-3.ensures (λ (o : ExploreOptions). o.runs) (λ o holds. holds.runs)

pub returns-in_err-number_asked-4 : goal.returns-in_err-number_asked-4
returns-in_err-number_asked-4 c =
    lacks_part _ _ c.from_residual-in_err-number_asked-4.result _ c.from_residual-in_err-number_asked-4.ensures.1 c.in_err-number_asked-4.ensures (λ (o : ExploreOptions). o.slice) (λ o holds. holds.slice)

pub returns-in_err-number_given : goal.returns-in_err-number_given
returns-in_err-number_given c =
    lacks_part _ _ c.from_residual-in_err-number_given.result _ c.from_residual-in_err-number_given.ensures.1 c.in_err-number_given.ensures (λ (o : ExploreOptions). o.outcome) (λ o holds. holds.outcome)

pub returns-in_err-heap_asked : goal.returns-in_err-heap_asked
returns-in_err-heap_asked c =
    lacks_part _ _ c.from_residual-in_err-heap_asked.result _ c.from_residual-in_err-heap_asked.ensures.1 c.in_err-heap_asked.ensures (λ (o : ExploreOptions). o.heap) (λ o holds. holds.heap)

pub returns-in_err-program_asked : goal.returns-in_err-program_asked
returns-in_err-program_asked c =
    lacks_part _ _ c.from_residual-in_err-program_asked.result _ c.from_residual-in_err-program_asked.ensures.1 c.in_err-program_asked.ensures (λ (o : ExploreOptions). o.program) (λ o holds. holds.program)

pub invariant_of-result : goal.invariant_of-result
invariant_of-result c = record {
  few_switches = c.in_ok-number_asked.ensures.at_most;
  some_steps = c.in_ok-number_asked-2.ensures.at_least;
  few_steps = c.in_ok-number_asked-2.ensures.at_most;
  some_runs = c.in_ok-number_asked-3.ensures.at_least;
  few_runs = c.in_ok-number_asked-3.ensures.at_most;
  some_slice = c.in_ok-number_asked-4.ensures.at_least;
  small_slice = c.in_ok-number_asked-4.ensures.at_most;
  least_heap = c.in_ok-heap_asked.ensures.at_least;
  most_heap = c.in_ok-heap_asked.ensures.at_most;
  some_outcome = given_least (codes "outcome") 1 100000000 (rows_of (found_of c.args.matches.now)) c.in_ok-number_given.field-0 c.in_ok-number_given.ensures;
  few_outcomes = given_most (codes "outcome") 1 100000000 (rows_of (found_of c.args.matches.now)) c.in_ok-number_given.field-0 c.in_ok-number_given.ensures;
}
