-- The content of the generations: their objects, with serials for places.
use Rattle.std.specs.Prelude.{ℕ, suc, List, [], ◌∷◌, ◌++◌, map, take, Option, Some, None, unwrap_or}
use Rattle.jm_values.specs.Rename.{rename}
use Rattle.jm_values.specs.Objects.{ObjectOf}
use Rattle.jm_values.specs.Content.{Content, Resident}
use Rattle.jm_heap.specs.declared.class_id.ClassId.{ClassId}
use Rattle.jm_blocks.specs.Objects.{Object}
use Rattle.jm_blocks.specs.Places.{place_at}
use Rattle.jm_blocks.specs.Stores.{Blocks}
use Rattle.jm_gen_heap.specs.Generations.{Generations, stores_of, lying}

-- an object and its place
pub record Placed : Type 0 where
  pub place : ℕ
  pub object : Object

-- the objects of a block from an index on
abbrev pub placed_in_block : ℕ → ℕ → ℕ → List Object → List Placed
placed_in_block lane block index [] = []
placed_in_block lane block index (o ∷ os) = record { place = place_at lane block index; object = o } ∷ placed_in_block lane block (suc index) os

-- those of the blocks of a lane, from a block's number on; a place can tell 256 objects of a block
unfoldable pub placed_in_blocks : ℕ → ℕ → List (List Object) → List Placed
placed_in_blocks lane block [] = []
placed_in_blocks lane block (os ∷ rest) = placed_in_block lane block 0 (take 256 os) ++ placed_in_blocks lane (suc block) rest

-- those of stores
unfoldable pub placed_in : List Blocks → List Placed
placed_in [] = []
placed_in (s ∷ stores) = placed_in_blocks s.lane 0 s.lists ++ placed_in stores

-- the serial of an object, if there is one
abbrev pub serial_of : Option Object → Option ℕ
serial_of None = None
serial_of (Some o) = Some o.serial

-- the serial that a place stands for
abbrev pub serial_name : Generations → ℕ → ℕ
serial_name g p = unwrap_or (serial_of (lying g p)) 0

-- an object by its class and its values under other names
abbrev pub named : (ℕ → ℕ) → Object → ObjectOf ClassId
named name o = record { type = o.class; values = map (rename name) o.values }

abbrev pub resident_of : (ℕ → ℕ) → Placed → Resident ClassId
resident_of name x = record { place = x.place; serial = x.object.serial; object = named name x.object }

-- in the order of stores, blocks and objects
abbrev pub residents_of : Generations → List (Resident ClassId)
residents_of g = map (resident_of (serial_name g)) (placed_in (stores_of g))

unfoldable pub content_of : Generations → Content ClassId
content_of g = record { limit = g.limit; next = g.next; residents = residents_of g }
