-- What the parameters so far hold.
use Rattle.std.proofs.Common.{◌≡◌, take}
use Rattle.std.specs.Prelude.{map}
use Rattle.jm_linked.specs.Kinds.{kind_of}
use Rattle.jm_linker.proofs.code.parameter_kinds.Given as goal

abbrev pub invariant-loop-parameter : goal.invariant-loop-parameter
invariant-loop-parameter l = l.kinds.items ≡ map kind_of (take l.parameter-index l.parameters)
