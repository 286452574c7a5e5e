-- What a world reaches as a list is the least set.
use Rattle.std.specs.Prelude.{length, slice_get}
use Rattle.jm_values.proofs.Reaching.{reached_is_least}
use Rattle.jm_world.specs.World.{roots, reach}
use Rattle.jm_world.specs.Reaching.{ReachIsLeast}

pub reach_is_least : ReachIsLeast
unfolding reach
reach_is_least w below =
    let least = reached_is_least (slice_get w.heap) (length w.heap) (roots w) below in
    record { same = λ k. (least.0 k, least.1 k); once = least.2 }
