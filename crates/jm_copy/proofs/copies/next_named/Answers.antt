use Rattle.jm_copy.proofs.copies.next_named.Goals as goal

pub named_below-requires : goal.named_below-requires
named_below-requires c = record { within = c.requires.within; none = c.requires.none; fits = c.requires.fits }
