use Rattle.std.proofs.Common.{◌≡◌, ◌-◌}
use Rattle.std.specs.Prelude.{codes}
use Rattle.jm_jasmin.specs.Lines.{begins, by_line, taken_on, one_more}
use Rattle.jm_jasmin.specs.Fields.{field_line, fields}
use Rattle.jm_jasmin.proofs.field.fields.Given as goal

abbrev pub invariant-loop : goal.invariant-loop
invariant-loop l = taken_on (begins (codes ".field")) (one_more (by_line field_line)) (l.count - l.counter) l.fields.items l.lines ≡ fields l.fn.lines
