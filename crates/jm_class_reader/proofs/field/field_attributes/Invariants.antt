use Rattle.std.proofs.Common.{◌≡◌, ◌-◌}
use Rattle.jm_bytes.specs.Format.{repeated}
use Rattle.jm_class_format.specs.Members.{field_attribute, field_attributes}
use Rattle.jm_class_reader.proofs.field.field_attributes.Given as goal

abbrev pub invariant-loop : goal.invariant-loop
invariant-loop l = record {
  same : l.symbols ≡ l.fn.symbols;
  so_far : (repeated (l.count - l.counter) (field_attribute l.fn.symbols l.access l.field_type) l.found).read l.reader ≡ (field_attributes l.fn.symbols l.access l.field_type).read l.fn.reader;
}
