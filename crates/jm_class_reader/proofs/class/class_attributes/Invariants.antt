use Rattle.std.proofs.Common.{◌≡◌, ◌-◌}
use Rattle.jm_bytes.specs.Format.{repeated}
use Rattle.jm_class_format.specs.ClassFile.{class_attribute, class_attributes}
use Rattle.jm_class_reader.proofs.class.class_attributes.Given as goal

abbrev pub invariant-loop : goal.invariant-loop
invariant-loop l = (repeated (l.count - l.counter) (class_attribute l.pool) l.found).read l.reader ≡ (class_attributes l.pool).read l.fn.reader
