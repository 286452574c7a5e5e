-- A list begins with itself.
use Rattle.std.proofs.Common.{List, [], sym, append-nil}
use Rattle.jm_program.specs.Lists.{Begins}

pub begins_whole : {A : Type 0} (xs : List A) → Begins xs xs
begins_whole xs = ([], sym (append-nil xs))
