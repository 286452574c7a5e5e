-- Those that answered alike, and the one that did not.
use Rattle.std.proofs.Common.{ap, refl, false, ◌∙◌}
use Rattle.jm_world.specs.Run.{run_from}
use Rattle.jm_execute.proofs.Making.{all_stands, other_stands, short_stands}
use Rattle.jm_execute.proofs.one_worker.make_steps.Goals as goal

pub returns-in-AllMade : goal.returns-in-AllMade
returns-in-AllMade g c = λ stress events none is.
    let made = c.turns-receipts.ensures in
    all_stands g.S.EventsDue.due g.S.EventsDue.knows g.S.EventsDue.seen g.S.EventsDue.behind g.R.Origin.first stress events c.args.due c.args.source.now
    c.args.journal.now c.turns-receipts.new.self is none c.args.thread c.requires.step c.turns-receipts.result made.receipts.0 made.receipts.2 made.entries
    (made.machine (run_from g.R.Origin.first is.made) is.has.matches) made.ends
    c.see.new.self c.in-AllMade.is c.requires.some (c.see.ensures ∙ ap (λ s. g.S.EventsDue.seen s false) c.see_alike.ensures)

pub returns-in-Other : goal.returns-in-Other
returns-in-Other g c = λ stress events none is.
    let made = c.turns-receipts.ensures in
    other_stands g.S.EventsDue.due g.S.EventsDue.knows g.S.EventsDue.seen g.S.EventsDue.behind g.R.Origin.first stress events c.args.due c.args.source.now
    c.args.journal.now c.turns-receipts.new.self is none c.args.thread c.requires.step c.turns-receipts.result made.receipts.0 made.receipts.2 made.entries
    (made.machine (run_from g.R.Origin.first is.made) is.has.matches) made.ends
    c.see-in-Other.new.self c.in-Other.reply _ c.is_blocked.result c.in-Other.is refl c.is_blocked.ensures
    (c.see-in-Other.ensures ∙ ap (λ s. g.S.EventsDue.seen s c.is_blocked.result) c.see_alike-in-Other.ensures)

pub returns-in-OutOfMemory : goal.returns-in-OutOfMemory
returns-in-OutOfMemory g c = λ stress events none is.
    let made = c.turns-receipts.ensures in
    short_stands g.S.EventsDue.due g.S.EventsDue.knows g.S.EventsDue.seen g.S.EventsDue.behind g.R.Origin.first stress events c.args.due c.args.source.now
    c.args.journal.now c.turns-receipts.new.self is none c.args.thread c.requires.step c.turns-receipts.result made.receipts.0 made.receipts.2 made.entries
    (made.machine (run_from g.R.Origin.first is.made) is.has.matches) made.ends c.in-OutOfMemory.is
