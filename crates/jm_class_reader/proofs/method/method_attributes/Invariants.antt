use Rattle.std.proofs.Common.{◌≡◌, ◌-◌}
use Rattle.jm_bytes.specs.Format.{repeated}
use Rattle.jm_class_format.specs.Members.{method_attribute, method_attributes}
use Rattle.jm_class_reader.proofs.method.method_attributes.Given as goal

abbrev pub invariant-loop : goal.invariant-loop
invariant-loop l = record {
  same : l.symbols ≡ l.fn.symbols;
  so_far : (repeated (l.count - l.counter) (method_attribute l.fn.symbols l.in_interface l.method) l.found).read l.reader ≡ (method_attributes l.fn.symbols l.in_interface l.method).read l.fn.reader;
}
