use Rattle.std.proofs.Common.{Some, None, ap, sym, ◌∙◌}
use Rattle.jm_monitors.specs.Entries.{held_at}
use Rattle.jm_monitors.proofs.Answering.{leaves_as, leaves_none, does_not_leave, leaves_once, leaves_last}
use Rattle.jm_monitors.proofs.monitors.Monitors.exit.Goals as goal

pub returns-in_default-clause-model : goal.returns-in_default-clause-model
returns-in_default-clause-model c = leaves_as c.args.self.now c.args.serial c.args.thread None (leaves_none c.args.self.now c.args.serial c.args.thread c.in_default.ensures.held)

pub returns-then-held-thread-clause-model : goal.returns-then-held-thread-clause-model
returns-then-held-thread-clause-model c = leaves_as c.args.self.now c.args.serial c.args.thread None
    (does_not_leave c.args.self.now c.args.serial c.args.thread (held_at c.args.serial c.in-Some.held) c.in-Some.ensures.held c.if-held-thread.true)

pub returns-then-held-gt1-clause-model : goal.returns-then-held-gt1-clause-model
returns-then-held-gt1-clause-model c = leaves_as c.args.self.now c.args.serial c.args.thread (Some c.recount.new.self)
    (leaves_once c.args.self.now c.args.serial c.args.thread (held_at c.args.serial c.in-Some.held) c.in-Some.ensures.held c.if-held-thread.false c.if-held-gt1.true ∙ ap (λ l. Some l) (sym c.recount.ensures))

pub returns-else-held-gt1-clause-model : goal.returns-else-held-gt1-clause-model
returns-else-held-gt1-clause-model c = leaves_as c.args.self.now c.args.serial c.args.thread (Some c.take.new.self)
    (leaves_last c.args.self.now c.args.serial c.args.thread (held_at c.args.serial c.in-Some.held) c.in-Some.ensures.held c.if-held-thread.false c.if-held-gt1.false ∙ ap (λ l. Some l) (sym c.take.ensures))
