-- The turns begin in the world of the machine's program and limit; the seats are those of the table.
use Rattle.jm_premises.specs.Beginning.{beginning}
use Rattle.jm_premises.proofs.workers.share_by_two.Given as goal

abbrev pub ghosts-share-S-Origin : goal.ghosts-share-S-Origin
ghosts-share-S-Origin g a = record { first = beginning a.machine }

abbrev pub ghosts-share-S-Sharing : goal.ghosts-share-S-Sharing
ghosts-share-S-Sharing g a = record { table = a.table.table; seats = a.table.seats }
