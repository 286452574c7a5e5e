use Rattle.std.proofs.Common.{◌≡◌, ◌-◌}
use Rattle.std.specs.Prelude.{codes}
use Rattle.jm_jasmin.specs.Lines.{begins, by_line, taken_on, one_more}
use Rattle.jm_jasmin.specs.Header.{class_line, interfaces}
use Rattle.jm_jasmin.proofs.header.interfaces.Given as goal

abbrev pub invariant-loop : goal.invariant-loop
invariant-loop l = taken_on (begins (codes ".implements")) (one_more (by_line class_line)) (l.count - l.counter) l.names.items l.lines ≡ interfaces l.fn.lines
