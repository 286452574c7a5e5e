use Rattle.std.proofs.Common.{◌≡◌, ◌-◌}
use Rattle.jm_bytes.specs.Format.{many}
use Rattle.jm_bytes.proofs.Loops.{with_front}
use Rattle.jm_class_format.specs.CodeAttribute.{line_number, line_numbers}
use Rattle.jm_class_reader.proofs.code_attribute.line_numbers.Given as goal

abbrev pub invariant-loop : goal.invariant-loop
invariant-loop l = with_front l.lines.items ((many (l.count - l.counter) (line_number l.places)).read l.reader) ≡ (line_numbers l.places).read l.fn.reader
