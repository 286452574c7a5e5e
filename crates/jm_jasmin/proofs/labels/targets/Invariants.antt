use Rattle.std.proofs.Common.{◌≡◌, drop}
use Rattle.std.specs.HashMap.{get}
use Rattle.jm_bytes.specs.Reading.{each}
use Rattle.jm_bytes.proofs.Loops.{with_front_all}
use Rattle.jm_program.specs.Names.{same_text}
use Rattle.jm_jasmin.specs.Labels.{target}
use Rattle.jm_jasmin.proofs.labels.targets.Given as goal

abbrev pub invariant-loop-label : goal.invariant-loop-label
invariant-loop-label l = with_front_all l.all.items (each (target (get same_text l.values) l.count) (drop l.label-index l.labels)) ≡ each (target (get same_text l.values) l.count) l.labels
