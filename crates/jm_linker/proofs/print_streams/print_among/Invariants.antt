-- What is left decides.
use Rattle.std.proofs.Common.{◌≡◌, drop}
use Rattle.jm_linked.specs.PrintStreams.{print_among}
use Rattle.jm_linker.proofs.print_streams.print_among.Given as goal

abbrev pub invariant-loop-print : goal.invariant-loop-print
invariant-loop-print l = print_among l.prints l.method ≡ print_among (drop l.print-index l.prints) l.method
