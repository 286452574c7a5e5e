use Rattle.std.proofs.Common.{◌≡◌, ◌++◌, replicate}
use Rattle.jm_class_writer.proofs.texts.push_dimensions.Given as goal

abbrev pub invariant-loop-dimension : goal.invariant-loop-dimension
invariant-loop-dimension l = l.text.items ≡ l.fn.text.items ++ replicate l._dimension 91
