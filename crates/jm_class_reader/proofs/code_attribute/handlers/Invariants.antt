use Rattle.std.proofs.Common.{◌≡◌, ◌-◌}
use Rattle.jm_bytes.specs.Format.{many}
use Rattle.jm_bytes.proofs.Loops.{with_front}
use Rattle.jm_class_format.specs.CodeAttribute.{handler, handlers}
use Rattle.jm_class_reader.proofs.code_attribute.handlers.Given as goal

abbrev pub invariant-loop : goal.invariant-loop
invariant-loop l = record {
  same : l.symbols ≡ l.fn.symbols;
  so_far : with_front l.handlers.items ((many (l.count - l.counter) (handler l.fn.symbols l.places)).read l.reader) ≡ (handlers l.fn.symbols l.places).read l.fn.reader;
}
