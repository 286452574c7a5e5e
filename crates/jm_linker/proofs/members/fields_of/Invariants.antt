-- What is left decides, after those so far, which are in the table.
use Rattle.std.proofs.Common.{◌≡◌, [], take, drop}
use Rattle.jm_world.specs.Loads.{duplicate_fields}
use Rattle.jm_linker.specs.Tables.{HasFields, NumbersFields}
use Rattle.jm_linker.proofs.members.fields_of.Given as goal

abbrev pub invariant-loop-index : goal.invariant-loop-index
invariant-loop-index l =
    (duplicate_fields [] l.fields ≡ duplicate_fields (take l.index l.fields) (drop l.index l.fields))
    × HasFields l.table (take l.index l.fields)
    × NumbersFields l.table l.fields
