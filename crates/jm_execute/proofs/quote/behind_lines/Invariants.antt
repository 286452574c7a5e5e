-- What is left stands behind the lines so far.
use Rattle.std.proofs.Common.{◌≡◌}
use Rattle.jm_execute.specs.Quotes.{behind_lines}
use Rattle.jm_execute.proofs.quote.behind_lines.Given as goal

abbrev pub invariant-loop : goal.invariant-loop
invariant-loop l = l.rest ≡ behind_lines l.counter l.bytes
