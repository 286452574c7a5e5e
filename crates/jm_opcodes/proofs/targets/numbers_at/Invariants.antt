use Rattle.std.proofs.Common.{◌≡◌, drop}
use Rattle.jm_bytes.specs.Reading.{each}
use Rattle.jm_bytes.proofs.Loops.{with_front_all}
use Rattle.jm_class_format.specs.Code.{number_of}
use Rattle.jm_opcodes.proofs.targets.numbers_at.Given as goal

abbrev pub invariant-loop-target : goal.invariant-loop-target
invariant-loop-target l = with_front_all l.numbers.items (each (number_of l.starts) (drop l.target-index l.targets)) ≡ each (number_of l.starts) l.targets
