-- The events so far, and what the lines that are left make of them.
use Rattle.std.proofs.Common.{◌≡◌, ◌+◌, ◌≤◌, length}
use Rattle.std.specs.Option.{option_copied}
use Rattle.jm_world.specs.Schedules.{schedule}
use Rattle.jm_schedule.proofs.Reading.{lines_left, bytes_left}
use Rattle.jm_schedule.proofs.read.read_schedule.Given as goal

abbrev pub invariant-loop-rest : goal.invariant-loop-rest
invariant-loop-rest l = record {
  so_far : schedule l.bytes ≡ lines_left l.number l.schedule (option_copied l.rest);
  few : length l.schedule ≤ 10000000;
  lines : l.number + bytes_left (option_copied l.rest) ≤ length l.bytes + 1;
}

abbrev pub decreases-loop-rest : goal.decreases-loop-rest
decreases-loop-rest l = bytes_left (option_copied l.rest)
