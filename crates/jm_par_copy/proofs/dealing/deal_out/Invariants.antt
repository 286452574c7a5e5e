use Rattle.std.proofs.Common.{◌<◌, ◌++◌, length}
use Rattle.jm_par_copy.specs.Copiers.{KeepSeats}
use Rattle.jm_par_copy.specs.Dealing.{AreDealt}
use Rattle.jm_par_copy.proofs.dealing.deal_out.Given as goal

abbrev pub invariant-loop-piece : goal.invariant-loop-piece
invariant-loop-piece l =
    AreDealt l.fn.copiers.items (l.fn.pieces.items ++ l.fn.aside.items) l.copiers.items (l.piece-iterator.rest.items ++ l.aside.items)
    × (l.next < length l.copiers.items)
    × KeepSeats l.fn.copiers.items l.copiers.items
