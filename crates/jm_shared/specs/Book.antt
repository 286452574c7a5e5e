-- What contracts see of a journal.
use Rattle.std.specs.Prelude.{List}
use Rattle.jm_world.specs.World.{World}
use Rattle.jm_machine.specs.View.{MachineView, MatchesWorld}
use Rattle.jm_shared.specs.declared.entry.Entry.{Entry}
use Rattle.jm_shared.specs.Legal.{IsLegal, world_after}

pub record Book (H : Type 0) : Type 0 where
  pub machine : MachineView H
  pub entries : List Entry

abbrev pub book : {H : Type 0} → MachineView H → List Entry → Book H
book machine entries = record { machine = machine; entries = entries }

-- the entries are legal from a world on, and the machine matches the world to which they lead
abbrev pub IsRunFrom : {H : Type 0} → World → Book H → Type 0
IsRunFrom first b = IsLegal first b.entries × MatchesWorld b.machine (world_after first b.entries)
