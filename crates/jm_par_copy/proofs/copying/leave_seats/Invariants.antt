use Rattle.std.proofs.Common.{◌≡◌, ◌+◌, ◌≤◌, ◌++◌, length, vec_len, vec_capacity}
use Rattle.jm_par_copy.specs.Ending.{seats_in}
use Rattle.jm_par_copy.proofs.copying.leave_seats.Given as goal

abbrev pub invariant-loop-copier : goal.invariant-loop-copier
invariant-loop-copier l = record {
  seats : l.seats.items ++ seats_in l.copier-iterator.rest.items ≡ seats_in l.fn.copiers.items;
  room : length l.copier-iterator.rest.items + vec_len l.seats ≤ vec_capacity l.seats;
}
