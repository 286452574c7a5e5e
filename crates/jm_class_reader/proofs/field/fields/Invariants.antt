use Rattle.std.proofs.Common.{◌≡◌, ◌-◌}
use Rattle.jm_bytes.specs.Format.{many}
use Rattle.jm_bytes.proofs.Loops.{with_front}
use Rattle.jm_class_format.specs.Members.{field, fields}
use Rattle.jm_class_reader.proofs.field.fields.Given as goal

abbrev pub invariant-loop : goal.invariant-loop
invariant-loop l = record {
  same : l.symbols ≡ l.fn.symbols;
  so_far : with_front l.fields.items ((many (l.count - l.counter) (field l.fn.symbols)).read l.reader) ≡ (fields l.fn.symbols).read l.fn.reader;
}
