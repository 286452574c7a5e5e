-- The keys of the types so far.
use Rattle.std.proofs.Common.{take}
use Rattle.jm_linker.specs.Keys.{AreTypeKeys}
use Rattle.jm_linker.proofs.key.type_keys.Given as goal

abbrev pub invariant-loop-field_type : goal.invariant-loop-field_type
invariant-loop-field_type l = AreTypeKeys l.keys.items (take l.field_type-index l.types)
