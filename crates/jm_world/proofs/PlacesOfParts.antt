-- What holds references in the parts of a machine, as one shape.
use Rattle.std.proofs.Common.{◌≡◌, List, ◌∙◌, ◌++◌, append_assoc}
use Rattle.jm_values.specs.Shape.{Shape, IsShape, list_shape, pair_shape}
use Rattle.jm_values.proofs.Shapes.{list_is_shape, pair_is_shape}
use Rattle.jm_world.specs.Matches.{Parts, places}
use Rattle.jm_world.specs.Renaming.{thread_shape, static_shape, monitor_shape, literal_shape}
use Rattle.jm_world.specs.World.{Thread, Static, Monitor, Literal}
use Rattle.jm_world.proofs.ShapesOfParts.{thread_is_shape, static_is_shape, monitor_is_shape, literal_is_shape}

abbrev pub Held : Type 0
Held = List Thread × (List Static × (List Monitor × List Literal))

abbrev pub held_of : {T : Type 0} → Parts T → Held
held_of m = (m.threads, (m.statics, (m.monitors, m.literals)))

abbrev pub parts_shape : Shape Held
parts_shape = pair_shape (list_shape thread_shape) (pair_shape (list_shape static_shape) (pair_shape (list_shape monitor_shape) (list_shape literal_shape)))

pub parts_is_shape : IsShape Held parts_shape
parts_is_shape =
    pair_is_shape (list_shape thread_shape) (pair_shape (list_shape static_shape) (pair_shape (list_shape monitor_shape) (list_shape literal_shape)))
    (list_is_shape thread_shape thread_is_shape)
    (pair_is_shape (list_shape static_shape) (pair_shape (list_shape monitor_shape) (list_shape literal_shape)) (list_is_shape static_shape static_is_shape)
    (pair_is_shape (list_shape monitor_shape) (list_shape literal_shape) (list_is_shape monitor_shape monitor_is_shape)
    (list_is_shape literal_shape literal_is_shape)))

pub places_held : {T : Type 0} (m : Parts T) → places m ≡ parts_shape.refs (held_of m)
places_held m =
    let ts = (list_shape thread_shape).refs m.threads in
    let ss = (list_shape static_shape).refs m.statics in
    let ms = (list_shape monitor_shape).refs m.monitors in
    let ls = (list_shape literal_shape).refs m.literals in
    append_assoc (ts ++ ss) ms ls ∙ append_assoc ts ss (ms ++ ls)
