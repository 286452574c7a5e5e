use Rattle.std.proofs.Common.{◌≡◌, ◌-◌}
use Rattle.jm_bytes.specs.Format.{repeated}
use Rattle.jm_class_format.specs.CodeAttribute.{code_attribute, code_attributes}
use Rattle.jm_class_reader.proofs.code_attribute.code_attributes.Given as goal

abbrev pub invariant-loop : goal.invariant-loop
invariant-loop l = (repeated (l.count - l.counter) (code_attribute l.pool l.places) l.lines.items).read l.reader ≡ (code_attributes l.pool l.places).read l.fn.reader
