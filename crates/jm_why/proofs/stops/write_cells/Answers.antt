-- What is left is the limit without what is reachable.
use Rattle.jm_why.specs.Stops.{full_text}
use Rattle.jm_why.proofs.stops.write_cells.Goals as goal

pub returns : goal.returns
unfolding full_text
returns c = rw (← c.saturating_sub-left.ensures) c.write.ensures.bytes
