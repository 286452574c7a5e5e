-- What is left decides, after those so far, which are in the table.
use Rattle.std.proofs.Common.{◌≡◌, [], take, drop}
use Rattle.jm_world.specs.Loads.{duplicate_methods}
use Rattle.jm_linker.specs.Tables.{HasMethods, NumbersMethods}
use Rattle.jm_linker.proofs.members.methods_of.Given as goal

abbrev pub invariant-loop-index : goal.invariant-loop-index
invariant-loop-index l =
    (duplicate_methods [] l.methods ≡ duplicate_methods (take l.index l.methods) (drop l.index l.methods))
    × HasMethods l.table (take l.index l.methods)
    × NumbersMethods l.table l.methods
