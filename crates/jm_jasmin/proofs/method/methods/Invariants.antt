use Rattle.std.proofs.Common.{◌≡◌, ◌-◌}
use Rattle.std.specs.Prelude.{codes}
use Rattle.jm_jasmin.specs.Lines.{begins, taken_on, one_more}
use Rattle.jm_jasmin.specs.Methods.{method, methods}
use Rattle.jm_jasmin.proofs.method.methods.Given as goal

abbrev pub invariant-loop : goal.invariant-loop
invariant-loop l = taken_on (begins (codes ".method")) (one_more (method l.in_interface)) (l.count - l.counter) l.methods.items l.lines ≡ methods l.in_interface l.fn.lines
