-- The classes so far are laid out.
use Rattle.std.proofs.Common.{◌≡◌, ℕ, ◌<◌, length, take}
use Rattle.jm_tables.specs.Layouts.{IsRow, statics_of}
use Rattle.jm_tables.proofs.layout.lay_out.Given as goal

abbrev pub invariant-loop-declared : goal.invariant-loop-declared
invariant-loop-declared l = record {
  many : length l.rows.items ≡ l.declared-index;
  rows : (class : ℕ) → class < l.declared-index → IsRow l.classes l.extents l.rows.items class;
  statics : l.statics.items ≡ statics_of 0 (take l.declared-index l.classes);
}
