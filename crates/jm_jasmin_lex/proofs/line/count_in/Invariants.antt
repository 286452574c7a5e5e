-- What was passed, and the tokens of the line at the front of what is left, are those at the front.
use Rattle.std.proofs.Common.{◌≡◌, ◌+◌, ◌==◌, drop}
use Rattle.std.specs.List.{prefix_len}
use Rattle.jm_jasmin_lex.proofs.line.count_in.Given as goal

abbrev pub invariant-loop-token : goal.invariant-loop-token
invariant-loop-token l = (l.count ≡ l.token-index) × (prefix_len (λ t. t.line == l.line) l.tokens ≡ l.count + prefix_len (λ t. t.line == l.line) (drop l.token-index l.tokens))
