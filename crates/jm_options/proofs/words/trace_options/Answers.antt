-- What the matches of a trace hold, and what they lack.
use Rattle.std.proofs.Common.{codes}
use Rattle.clap.specs.Words.{found_of, rows_of}
use Rattle.jm_options.proofs.Finding.{given_least, given_most, lacks_part}
use Rattle.jm_options.specs.declared.request.TraceOptions.{TraceOptions}
use Rattle.jm_options.proofs.words.trace_options.Goals as goal

pub returns-in_err-serial_run : goal.returns-in_err-serial_run
returns-in_err-serial_run c =
    lacks_part _ _ c.from_residual.result _ c.from_residual.ensures.1 c.in_err-serial_run.ensures (λ (o : TraceOptions). o.run) (λ o holds. holds.serial)

pub returns-in_err-number_given : goal.returns-in_err-number_given
returns-in_err-number_given c =
    lacks_part _ _ c.from_residual-in_err-number_given.result _ c.from_residual-in_err-number_given.ensures.1 c.in_err-number_given.ensures (λ (o : TraceOptions). o.thread) (λ o holds. holds.thread)

pub returns-in_err-number_asked : goal.returns-in_err-number_asked
returns-in_err-number_asked c =
    lacks_part _ _ c.from_residual-in_err-number_asked.result _ c.from_residual-in_err-number_asked.ensures.1 c.in_err-number_asked.ensures (λ (o : TraceOptions). o.first) (λ o holds. holds.first)

pub returns-in_err-number_asked-2 : goal.returns-in_err-number_asked-2
returns-in_err-number_asked-2 c =
    lacks_part _ _ c.from_residual-in_err-number_asked-2.result _ c.from_residual-in_err-number_asked-2.ensures.1 c.in_err-number_asked-2.ensures (λ (o : TraceOptions). o.most) (λ o holds. holds.most)

pub invariant_of-result : goal.invariant_of-result
invariant_of-result c = record {
  some_first = c.in_ok-number_asked.ensures.at_least;
  few_first = c.in_ok-number_asked.ensures.at_most;
  some_most = c.in_ok-number_asked-2.ensures.at_least;
  few_most = c.in_ok-number_asked-2.ensures.at_most;
  some_thread = given_least (codes "thread") 1 10000000 (rows_of (found_of c.args.matches.now)) c.in_ok-number_given.field-0 c.in_ok-number_given.ensures;
  few_threads = given_most (codes "thread") 1 10000000 (rows_of (found_of c.args.matches.now)) c.in_ok-number_given.field-0 c.in_ok-number_given.ensures;
}
