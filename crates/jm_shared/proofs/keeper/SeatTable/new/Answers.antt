-- All seats are fresh.
use Rattle.jm_shared.proofs.SeatSteps.{opens}
use Rattle.jm_shared.proofs.keeper.SeatTable.new.Goals as goal

pub of_words-requires : goal.of_words-requires
of_words-requires c = opens _ _
