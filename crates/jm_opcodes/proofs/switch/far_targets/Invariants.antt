use Rattle.std.proofs.Common.{◌≡◌, ◌-◌}
use Rattle.jm_bytes.specs.Format.{many}
use Rattle.jm_bytes.proofs.Loops.{with_front}
use Rattle.jm_class_format.specs.Instructions.{far_target}
use Rattle.jm_opcodes.proofs.switch.far_targets.Given as goal

abbrev pub invariant-loop : goal.invariant-loop
invariant-loop l = with_front l.targets.items ((many (l.count - l.counter) (far_target l.at)).read l.reader) ≡ (many l.count (far_target l.at)).read l.fn.reader
