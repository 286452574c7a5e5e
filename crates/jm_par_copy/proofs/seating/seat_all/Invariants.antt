use Rattle.std.proofs.Common.{◌≡◌, ◌+◌, ◌≤◌, ◌++◌, List, length, vec_len, vec_capacity}
use Rattle.jm_par_copy.specs.Seats.{AreSeatsOf}
use Rattle.jm_par_copy.specs.declared.copier.Copier.{Copier}
use Rattle.jm_par_copy.proofs.seating.seat_all.Given as goal

abbrev pub invariant-loop-seat : goal.invariant-loop-seat
invariant-loop-seat l = record {
  seated : (ends : List Copier) → AreSeatsOf (length l.copiers.items) l.seat-iterator.rest.items l.stores.items ends → AreSeatsOf 0 l.fn.seats.items l.fn.stores.items (l.copiers.items ++ ends);
  many : length l.stores.items ≡ length l.seat-iterator.rest.items;
  room : length l.seat-iterator.rest.items + vec_len l.copiers ≤ vec_capacity l.copiers;
}
