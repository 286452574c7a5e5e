use Rattle.std.proofs.Common.{◌≡◌, ◌≤◌, ◌++◌, List, length, vec_capacity}
use Rattle.jm_copy.specs.declared.copies.Copies.{Copies}
use Rattle.jm_par_copy.specs.Seats.{AreOwnStores}
use Rattle.jm_par_copy.proofs.seating.all_stores.Given as goal

abbrev pub invariant-loop-number : goal.invariant-loop-number
invariant-loop-number l = record {
  own : (us : List Copies) → AreOwnStores l.number l.copiers l.old us → AreOwnStores 0 l.copiers l.old (l.stores.items ++ us);
  many : length l.stores.items ≡ l.number;
  room : l.copiers ≤ vec_capacity l.stores;
}
