use Rattle.std.proofs.Common.{◌≡◌, ◌-◌}
use Rattle.jm_bytes.specs.Format.{many}
use Rattle.jm_bytes.proofs.Loops.{with_front}
use Rattle.jm_class_format.specs.Members.{method, methods}
use Rattle.jm_class_reader.proofs.method.methods.Given as goal

abbrev pub invariant-loop : goal.invariant-loop
invariant-loop l = record {
  same : l.symbols ≡ l.fn.symbols;
  so_far : with_front l.methods.items ((many (l.count - l.counter) (method l.fn.symbols l.in_interface)).read l.reader) ≡ (methods l.fn.symbols l.in_interface).read l.fn.reader;
}
