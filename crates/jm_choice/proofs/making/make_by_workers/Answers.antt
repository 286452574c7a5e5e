-- The seats are all there, and what they made is the workers' choice.
use Rattle.std.proofs.Common.{sym, ◌∙◌}
use Rattle.jm_choice.proofs.FreshSeats.{have_made, made_by, none_lacks}
use Rattle.jm_choice.proofs.making.make_by_workers.Goals as goal

pub unreachable-requires : goal.unreachable-requires
unreachable-requires g c = none_lacks g.N.Sharing.seats c.args.seats.items c.requires.seats c.in-Err.ensures.missing.0

pub returns-clause-events : goal.returns-clause-events
returns-clause-events g c =
    made_by g.N.Origin.first g.N.Sharing.seats c.args.steps c.args.seats.items c.in-Ok.driven.journal.entries c.requires.seats
    c.in-Ok.ensures.turns c.in-Ok.ensures.legal.0 c.in-Ok.ensures.known c.in-Ok.driven.is_short c.in-Ok.ensures.short

pub returns-clause-whole : goal.returns-clause-whole
returns-clause-whole g c = λ whole.
    have_made g.N.Origin.first g.N.Sharing.seats c.args.steps c.args.seats.items c.in-Ok.driven.journal.entries c.requires.seats
    c.in-Ok.ensures.turns c.in-Ok.ensures.legal.0 c.in-Ok.ensures.known (sym c.in-Ok.ensures.short ∙ whole)
