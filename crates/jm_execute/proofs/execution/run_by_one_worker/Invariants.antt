-- The events begin in the world of the machine's program and limit.
use Rattle.jm_execute.specs.Beginnings.{beginning}
use Rattle.jm_execute.proofs.execution.run_by_one_worker.Given as goal

abbrev pub ghosts-run_events : goal.ghosts-run_events
ghosts-run_events g a = record { first = beginning a.machine }

abbrev pub ghosts-run_events-2 : goal.ghosts-run_events-2
ghosts-run_events-2 g a = record { first = beginning a.machine }
