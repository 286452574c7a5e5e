use Rattle.std.proofs.Common.{◌≡◌, ◌-◌, []}
use Rattle.jm_bytes.specs.Format.{repeated}
use Rattle.jm_class_format.specs.Instructions.{next_pair}
use Rattle.jm_opcodes.proofs.switch.switch_pairs.Given as goal

abbrev pub invariant-loop : goal.invariant-loop
invariant-loop l = (repeated (l.count - l.counter) (next_pair l.at) l.pairs.items).read l.reader ≡ (repeated l.count (next_pair l.at) []).read l.fn.reader
