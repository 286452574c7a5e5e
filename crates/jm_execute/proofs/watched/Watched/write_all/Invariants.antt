-- What is written and what is left are the bytes.
use Rattle.std.proofs.Common.{◌≡◌, List, ℕ, ◌++◌, length}
use Rattle.jm_execute.specs.Written.{AllWritten, words}
use Rattle.jm_execute.proofs.watched.Watched.write_all.Given as goal

abbrev pub invariant-loop-rest : goal.invariant-loop-rest
invariant-loop-rest g l = record {
  done : List ℕ;
  whole : l.bytes ≡ done ++ l.rest;
  written : AllWritten (words g.W.Write.contents g.W.Watchable.ends) l.initial.self l.self done;
}

abbrev pub decreases-loop-rest : goal.decreases-loop-rest
decreases-loop-rest g l = length l.rest
