-- A machine's heap is sound.
use Rattle.std.proofs.Common.{subst, sym}
use Rattle.jm_values.specs.Content.{IsSound}
use Rattle.jm_premises.specs.Beginning.{beginning}
use Rattle.jm_premises.proofs.Beginnings.{is_sound}
use Rattle.jm_premises.proofs.machines.residents.Goals as goal

pub resident-requires : goal.resident-requires
resident-requires g c = subst IsSound (sym c.heap.ensures) (is_sound c.args.machine.now (beginning c.args.machine.now) c.requires)
