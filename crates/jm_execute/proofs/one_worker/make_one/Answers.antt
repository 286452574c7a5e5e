-- The collection, and then the event, which the source sees.
use Rattle.std.proofs.Common.{ap, false, true, ◌∙◌}
use Rattle.std.proofs.lemmas.Result.{err_from_is_err_and}
use Rattle.jm_world.specs.RoundRobin.{is_blocked}
use Rattle.jm_world.specs.Run.{run_from}
use Rattle.jm_world.specs.declared.reply.Reply.{Reply}
use Rattle.jm_execute.proofs.Making.{none_made, one_made, one_more, unchanged}
use Rattle.jm_execute.proofs.one_worker.make_one.Goals as goal

pub returns-in_err-collect : goal.returns-in_err-collect
returns-in_err-collect g c =
    let p = err_from_is_err_and c.from_residual.result c.from_residual.ensures.1 in
    rw p.1 (λ events is.
    none_made g.S.EventsDue.due g.S.EventsDue.knows g.S.EventsDue.seen g.S.EventsDue.behind g.R.Origin.first c.args.stress events c.args.due c.args.source.now c.args.journal.now is false
    c.collect.new.journal (c.in_err-collect.ensures is.made is.has))

pub returns-in_err-receipt : goal.returns-in_err-receipt
returns-in_err-receipt g c =
    let p = err_from_is_err_and c.from_residual-in_err-receipt.result c.from_residual-in_err-receipt.ensures.1 in
    rw p.1 (λ events is.
    let has = c.in_ok-collect.ensures is.made is.has in
    none_made g.S.EventsDue.due g.S.EventsDue.knows g.S.EventsDue.seen g.S.EventsDue.behind g.R.Origin.first c.args.stress events c.args.due c.args.source.now c.args.journal.now is true c.turn.new.self
    (unchanged g.R.Origin.first c.args.stress true is.made c.collect.new.journal c.turn.new.self c.in_err-receipt.ensures.entries
    (c.in_err-receipt.ensures.machine (run_from g.R.Origin.first is.made) has.matches) has))

pub returns : goal.returns
returns g c = λ events is.
    let has = c.in_ok-collect.ensures is.made is.has in
    let next = c.in_ok-receipt.ensures.machine (run_from g.R.Origin.first is.made) has.matches in
    one_made g.S.EventsDue.due g.S.EventsDue.knows g.S.EventsDue.seen g.S.EventsDue.behind g.R.Origin.first c.args.stress events c.args.due c.args.source.now c.args.journal.now is
    c.see.new.self c.turn.new.self c.is_blocked.result (c.is_blocked.ensures ∙ ap (λ (r : Reply). is_blocked r.kind) next.1) c.see.ensures
    (one_more g.R.Origin.first c.args.stress is.made _ c.collect.new.journal c.turn.new.self c.own_seat.ensures c.in_ok-receipt.ensures.entries next.0 has)
