-- The serials of the objects of stores, in the order of their blocks; a place can tell 256 objects of a block.
use Rattle.std.specs.Prelude.{ℕ, List, map, take}
use Rattle.std.specs.List.{flat_map}
use Rattle.jm_blocks.specs.Objects.{Object}
use Rattle.jm_blocks.specs.Stores.{Blocks}

abbrev pub serial_in : Object → ℕ
serial_in o = o.serial

abbrev pub block_serials : List Object → List ℕ
block_serials os = map serial_in os

abbrev pub store_serials : Blocks → List ℕ
store_serials s = flat_map (λ os. block_serials (take 256 os)) s.lists

abbrev pub all_serials : List Blocks → List ℕ
all_serials stores = flat_map store_serials stores
