use Rattle.std.proofs.Common.{◌≡◌, drop}
use Rattle.std.specs.HashMap.{get}
use Rattle.jm_bytes.specs.Reading.{each}
use Rattle.jm_bytes.proofs.Loops.{with_front_all}
use Rattle.jm_program.specs.Names.{same_text}
use Rattle.jm_jasmin.specs.Labels.{pair_of}
use Rattle.jm_jasmin.proofs.labels.pairs.Given as goal

abbrev pub invariant-loop-pair : goal.invariant-loop-pair
invariant-loop-pair l = with_front_all l.all.items (each (pair_of (get same_text l.values) l.count) (drop l.pair-index l.labelled)) ≡ each (pair_of (get same_text l.values) l.count) l.labelled
