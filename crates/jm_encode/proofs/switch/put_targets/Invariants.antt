use Rattle.std.proofs.Common.{◌≡◌, drop}
use Rattle.jm_bytes.proofs.Loops.{with_front_all}
use Rattle.jm_encode.specs.Encoding.{texts, far_text}
use Rattle.jm_encode.proofs.switch.put_targets.Given as goal

abbrev pub invariant-loop-target : goal.invariant-loop-target
invariant-loop-target l = with_front_all l.out.items (texts (far_text l.starts l.at) (drop l.target-index l.targets)) ≡ with_front_all l.initial.out.items (texts (far_text l.starts l.at) l.targets)
