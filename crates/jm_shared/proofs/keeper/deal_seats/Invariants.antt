use Rattle.std.proofs.Common.{◌≡◌, ◌-◌, ◌≤◌, [], ◌++◌, vec_len, vec_capacity}
use Rattle.jm_shared.specs.Seats.{keeper_with, fresh_hands}
use Rattle.jm_shared.proofs.keeper.deal_seats.Given as goal

abbrev pub invariant-loop-number : goal.invariant-loop-number
invariant-loop-number g l = record {
  table : l.all.table_id ≡ g.S.Sharing.table;
  view : l.all.me.0 ≡ keeper_with [] (fresh_hands l.number (l.count - l.number));
  slots : l.all.me.1 ≡ [];
  dealt : l.seats.items ++ fresh_hands l.number (l.count - l.number) ≡ fresh_hands 0 l.count;
  full : vec_len l.seats ≡ l.number;
  room : l.count ≤ vec_capacity l.seats;
}
