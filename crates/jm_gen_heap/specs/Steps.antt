-- What a heap of generations does, by what lies at places afterwards.
use Rattle.std.specs.Prelude.{◌≡◌, ◌≢◌, ◌⊎◌, ℕ, ◌+◌, ◌<◌, ◌≤◌, ◌^◌, List, [], Some, None, slice_set}
use Rattle.jm_values.specs.Shape.{Among}
use Rattle.jm_values.specs.Rename.{refs, stack_shape}
use Rattle.jm_values.specs.declared.value.Value.{Value}
use Rattle.jm_blocks.specs.Objects.{Object, with_value}
use Rattle.jm_blocks.specs.Cells.{object_cells}
use Rattle.jm_blocks.specs.Places.{lane_of}
use Rattle.jm_blocks.specs.Stores.{Blocks}
use Rattle.jm_nursery.specs.Nurseries.{AreNurseries}
use Rattle.jm_gen_heap.specs.Generations.{Generations, IsYoung, lying, old_lane, all_cells}

-- an object that names none, with the next serial, that has survived no collection
pub record IsNew (g : Generations) (o : Object) : Type 0 where
  pub serial : o.serial ≡ g.next
  pub age : o.age ≡ 0
  pub plain : stack_shape.refs o.values ≡ []
  pub lasts : g.next < 2 ^ 63

-- an object lies in a nursery, at a place where none lay, and nothing else has changed
pub record IsPut (g h : Generations) (p : ℕ) (o : Object) : Type 0 where
  pub limit : h.limit ≡ g.limit
  pub next : h.next ≡ g.next + 1
  pub nurseries : AreNurseries h.nurseries
  pub tenured : h.tenured ≡ g.tenured
  pub remembered : h.remembered ≡ g.remembered
  pub young : IsYoung p
  pub fresh : lying g p ≡ None
  pub here : lying h p ≡ Some o
  pub others : (q : ℕ) → q ≢ p → lying h q ≡ lying g q
  pub cells : all_cells h ≡ all_cells g + object_cells o
  pub within : all_cells h ≤ g.limit

-- an old object that gets the name of a young one is remembered from then on
pub record IsNoted (g h : Generations) (p : ℕ) (v : Value) : Type 0 where
  pub covers : lane_of p ≡ old_lane → (q : ℕ) → Among q (refs v) → IsYoung q → Among p h.remembered
  pub keeps : (q : ℕ) → Among q g.remembered → Among q h.remembered
  pub only : (q : ℕ) → Among q h.remembered → Among q g.remembered ⊎ ((q ≡ p) × (lane_of p ≡ old_lane))

-- one value of the object at a place is another
pub record IsWritten (g h : Generations) (p i : ℕ) (v : Value) : Type 0 where
  pub limit : h.limit ≡ g.limit
  pub next : h.next ≡ g.next
  pub nurseries : AreNurseries h.nurseries
  pub tenured : h.tenured.lane ≡ old_lane
  pub object : Object
  pub lay : lying g p ≡ Some object
  pub here : lying h p ≡ Some (with_value object i v)
  pub others : (q : ℕ) → q ≢ p → lying h q ≡ lying g q
  pub noted : IsNoted g h p v
  pub cells : all_cells h ≡ all_cells g

-- the generations with another store for a nursery and another next serial
abbrev pub with_nursery : Generations → ℕ → Blocks → ℕ → Generations
with_nursery g n s next = record { limit = g.limit; next = next; nurseries = slice_set g.nurseries n s; tenured = g.tenured; remembered = g.remembered }

-- and with another store of the old objects, of which these are remembered
abbrev pub with_tenured : Generations → Blocks → List ℕ → Generations
with_tenured g s remembered = record { limit = g.limit; next = g.next; nurseries = g.nurseries; tenured = s; remembered = remembered }
