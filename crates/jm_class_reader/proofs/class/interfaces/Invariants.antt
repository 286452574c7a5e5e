use Rattle.std.proofs.Common.{◌≡◌, ◌-◌}
use Rattle.jm_bytes.specs.Format.{many}
use Rattle.jm_bytes.proofs.Loops.{with_front}
use Rattle.jm_class_format.specs.ClassFile.{class_name, interfaces}
use Rattle.jm_class_reader.proofs.class.interfaces.Given as goal

abbrev pub invariant-loop : goal.invariant-loop
invariant-loop l = record {
  same : l.symbols ≡ l.fn.symbols;
  so_far : with_front l.names.items ((many (l.count - l.counter) (class_name l.fn.symbols)).read l.reader) ≡ (interfaces l.fn.symbols).read l.fn.reader;
}
