use Rattle.std.proofs.Common.{◌≡◌, drop}
use Rattle.jm_class_format.specs.Symbols.{left_out_types}
use Rattle.jm_class_format.proofs.types.left_out_types.Given as goal

abbrev pub invariant-loop-field_type : goal.invariant-loop-field_type
invariant-loop-field_type l = left_out_types (drop l.field_type-index l.types) ≡ left_out_types l.types
