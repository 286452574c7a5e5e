-- The signs so far are written.
use Rattle.std.proofs.Common.{flat_map}
use Rattle.std.specs.Fmt.{HasWritten, IsPlainFormatter}
use Rattle.jm_execute.specs.FileNames.{sign_text}
use Rattle.jm_execute.proofs.file_name.write_signs.Given as goal

abbrev pub invariant-loop-character : goal.invariant-loop-character
invariant-loop-character g l = IsPlainFormatter l.initial.f → HasWritten g.W.Write.write_str_gives l.initial.f (flat_map sign_text l.yielded) l.f
