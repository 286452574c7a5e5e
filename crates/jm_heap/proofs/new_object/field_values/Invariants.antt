use Rattle.std.proofs.Common.{◌≡◌, take}
use Rattle.std.specs.Prelude.{map}
use Rattle.jm_values.specs.Objects.{default_of}
use Rattle.jm_heap.proofs.new_object.field_values.Given as goal

abbrev pub invariant-loop-field : goal.invariant-loop-field
invariant-loop-field l = l.values.items ≡ map default_of (take l.field-index l.fields)
