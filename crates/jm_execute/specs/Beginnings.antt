-- The machine with which a run begins.
use Rattle.std.specs.Prelude.{◌≡◌, ℕ}
use Rattle.jm_world.specs.World.{World}
use Rattle.jm_world.specs.Loading.{loaded_world}
use Rattle.jm_machine.specs.View.{MachineView, MatchesWorld}

-- the world of its program and its heap's limit, before the first event
abbrev pub beginning : {H : Type 0} → MachineView H → World
beginning m = loaded_world m.linked.program m.content.limit

-- over a heap of this limit, it matches that world
pub record StandsAtItsBeginning {H : Type 0} (limit : ℕ) (m : MachineView H) : Type 0 where
  pub limit_is : m.content.limit ≡ limit
  pub matches : MatchesWorld m (beginning m)
