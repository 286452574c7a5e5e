use Rattle.std.proofs.Common.{◌≡◌, drop}
use Rattle.jm_jasmin.specs.Words.{flags_from}
use Rattle.jm_jasmin.proofs.words.flags_from.Given as goal

abbrev pub invariant-loop-word : goal.invariant-loop-word
invariant-loop-word l = flags_from l.all (drop l.word-index l.words) ≡ flags_from l.bits l.words
