-- A machine beside a world.
use Rattle.std.specs.Prelude.{◌≡◌, ◌<◌, ◌↔◌, ◌++◌, ℕ, List, Option, option_map, map, length, slice_get}
use Rattle.jm_program.specs.declared.class.ClassParts.{ClassParts}
use Rattle.jm_values.specs.Shape.{list_shape}
use Rattle.jm_world.specs.Types.{ObjectType}
use Rattle.jm_values.specs.Objects.{ObjectOf}
use Rattle.jm_values.specs.Reach.{Reach}
use Rattle.jm_world.specs.Objects.{Object, size_of}
use Rattle.jm_world.specs.World.{World, Thread, Static, Progress, Monitor, Literal, roots, reach_cells}
use Rattle.jm_values.specs.Content.{Content, IsSound, AllResident, Reached, used_by, name_of, object_at}
use Rattle.jm_world.specs.Renaming.{thread_shape, static_shape, monitor_shape, literal_shape}
use Rattle.jm_world.specs.declared.stop.Stop.{Stop}

-- the parts of a machine, as its linked program names them: references are places, but for the
-- objects of ended threads, which are serials; T is how its heap tells classes and array types. It
-- finds monitors and threads by the serials of their objects, which no collection changes
pub record Parts (T : Type 0) : Type 0 where
  pub program : List ClassParts
  -- the class or array type of a T
  pub named : T → ObjectType
  pub content : Content T
  pub literals : List Literal
  pub statics : List Static
  pub classes : List Progress
  pub monitors : List Monitor
  pub threads : List Thread
  pub monitor_serials : List ℕ
  pub thread_serials : List (Option ℕ)
  pub output : List ℕ
  pub stop : Option Stop

-- the places that a machine holds
abbrev pub places : {T : Type 0} → Parts T → List ℕ
places m =
    (list_shape thread_shape).refs m.threads
    ++ (list_shape static_shape).refs m.statics
    ++ (list_shape monitor_shape).refs m.monitors
    ++ (list_shape literal_shape).refs m.literals

-- an object, its type by name
abbrev pub as_named : {T : Type 0} → (T → ObjectType) → ObjectOf T → Object
as_named named o = record { type = named o.type; values = o.values }

-- places renamed to serials, each part is the world's, and what the world reaches is resident and
-- the same; the next serial is the heap's length
pub record Matches {T : Type 0} (m : Parts T) (w : World) : Type 0 where
  pub sound : IsSound m.content
  pub resident : AllResident m.content (places m)
  pub limit : m.content.limit ≡ w.limit
  pub next : m.content.next ≡ length w.heap
  pub bound : (k : ℕ) → Reach (slice_get w.heap) (roots w) k → k < length w.heap
  pub objects : (k : ℕ) → Reach (slice_get w.heap) (roots w) k → option_map (as_named m.named) (object_at m.content k) ≡ slice_get w.heap k
  pub threads : (list_shape thread_shape).rename (name_of m.content) m.threads ≡ w.threads
  pub statics : (list_shape static_shape).rename (name_of m.content) m.statics ≡ w.statics
  pub monitors : (list_shape monitor_shape).rename (name_of m.content) m.monitors ≡ w.monitors
  pub monitor_serials : m.monitor_serials ≡ map (λ (x : Monitor). x.object) w.monitors
  pub thread_serials : m.thread_serials ≡ map (λ (t : Thread). t.object) w.threads
  pub literals : (list_shape literal_shape).rename (name_of m.content) m.literals ≡ w.literals
  pub program : m.program ≡ w.program
  pub classes : m.classes ≡ w.classes
  pub output : m.output ≡ w.output
  pub stop : m.stop ≡ w.stop

-- what a machine reaches from its places is what the world reaches, in as many cells
pub record ReachesAlike {T : Type 0} (m : Parts T) (w : World) : Type 0 where
  pub same : (k : ℕ) → Reached m.content (places m) k ↔ Reach (slice_get w.heap) (roots w) k
  pub cells : used_by (λ t. size_of (m.named t)) m.content (places m) ≡ reach_cells w
