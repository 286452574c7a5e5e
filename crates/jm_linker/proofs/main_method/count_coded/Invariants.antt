-- So many of the methods so far have code.
use Rattle.std.proofs.Common.{◌≡◌, ◌≤◌, length, take}
use Rattle.jm_linked.specs.Links.{coded_among}
use Rattle.jm_linker.proofs.main_method.count_coded.Given as goal

abbrev pub invariant-loop-method : goal.invariant-loop-method
invariant-loop-method l = (l.count ≡ length (coded_among 0 0 (take l.method-index l.methods))) × (l.count ≤ l.method-index)
