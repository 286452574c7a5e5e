-- The seats are of the keeper's table.
use Rattle.std.proofs.Common.{sym, ◌∙◌}
use Rattle.jm_shared.proofs.SeatSteps.{joins, compares}
use Rattle.jm_shared.proofs.keeper.SeatTies.compare.Goals as goal

pub join_seat-requires : goal.join_seat-requires
join_seat-requires g c =
    let named = c.args.self.now.named in
    (c.loop-seat.invariant.table ∙ sym named.0, c.seat.invariant.0 ∙ sym named.0, c.seat.invariant.1.1, named.1, joins _ _ _ _)

pub load-requires : goal.load-requires
load-requires g c =
    let named = c.args.self.now.named in
    (c.loop-seat.invariant.table ∙ sym named.0, named.1, compares _ _ _ (λ n. n) _)
