-- A collection between every two events.
use Rattle.std.specs.Prelude.{List, [], ◌∷◌}
use Rattle.jm_world.specs.declared.event.Event.{Event}
use Rattle.jm_world.specs.declared.event.Event.TheVariants as event
use Rattle.jm_heap.specs.declared.heap.Kind.{Kind}
use Rattle.jm_heap.specs.declared.heap.Kind.TheVariants.{Minor, Full}

-- the collection of a kind as an event
abbrev pub collection_of : Kind → Event
collection_of Minor = event.Minor
collection_of Full = event.Full

-- an event before each event of a list, and one after the last
abbrev pub interleaved : Event → List Event → List Event
interleaved collection [] = collection ∷ []
interleaved collection (e ∷ es) = collection ∷ e ∷ interleaved collection es
