use Rattle.std.proofs.Common.{◌≡◌, ◌<◌, true, ◌++◌, vec_len}
use Rattle.std.specs.List.{All}
use Rattle.jm_shared.proofs.keeper.SeatTies.compare.Given as goal

-- the seats that came back are with the keeper
abbrev pub invariant-loop-seat : goal.invariant-loop-seat
invariant-loop-seat g l = record {
  table : l.all.table_id ≡ g.S.Sharing.table;
  keeps : l.all.me.0.keeps ≡ true;
  entries : l.all.me.0.entries ≡ l.fn.keeper;
  hands : l.seats.items ++ l.all.me.0.hands ≡ l.fn.seats.items;
  within : All (λ h. h.number < g.S.Sharing.seats) l.all.me.0.hands;
}

abbrev pub decreases-loop-seat : goal.decreases-loop-seat
decreases-loop-seat g l = vec_len l.seats
