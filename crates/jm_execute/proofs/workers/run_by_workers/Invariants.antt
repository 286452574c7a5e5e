-- The events begin in the world of the machine's program and limit; the seats are those of the table, one for each worker.
use Rattle.jm_execute.specs.Beginnings.{beginning}
use Rattle.jm_execute.proofs.workers.run_by_workers.Given as goal

abbrev pub ghosts-run_seats-N-Origin : goal.ghosts-run_seats-N-Origin
ghosts-run_seats-N-Origin g a = record { first = beginning a.machine }

abbrev pub ghosts-run_seats-N-Sharing : goal.ghosts-run_seats-N-Sharing
ghosts-run_seats-N-Sharing g a = record { table = a.table.table; seats = a.table.seats }
