use Rattle.std.proofs.Common.{◌≡◌, ◌++◌}
use Rattle.std.specs.Prelude.{drop}
use Rattle.jm_par_copy.specs.Spans.{spans_of}
use Rattle.jm_par_copy.proofs.spans.join_spans.Given as goal

abbrev pub invariant-loop-copier : goal.invariant-loop-copier
invariant-loop-copier l = l.all.items ++ spans_of (drop l.copier-index l.copiers) ≡ spans_of l.copiers
