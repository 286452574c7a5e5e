-- The world in which a machine begins.
use Rattle.jm_world.specs.World.{World}
use Rattle.jm_world.specs.Loading.{loaded_world}
use Rattle.jm_machine.specs.View.{MachineView}

-- that of its program and its heap's limit
abbrev pub beginning : {H : Type 0} → MachineView H → World
beginning m = loaded_world m.linked.program m.content.limit
