use Rattle.std.proofs.Common.{arith, ap, ◌∙◌, ◌+◌, ◌^◌, ◌≤◌, ◌<◌}
use Rattle.jm_monitors.specs.Entries.{held_at}
use Rattle.jm_monitors.specs.declared.entering.Entering.TheVariants.{Entered, Blocked, CountEnds}
use Rattle.jm_monitors.proofs.Answering.{enters_as, enters_new, is_blocked, count_ends, enters_again}
use Rattle.jm_monitors.proofs.monitors.Monitors.enter.Goals as goal

pub returns-in_default-clause-model : goal.returns-in_default-clause-model
returns-in_default-clause-model c = enters_as c.args.self.now c.args.serial c.args.place c.args.thread Entered c.add.new.self
    (ap (λ l. (Entered, l)) c.in_ok-add.ensures.ok ∙ enters_new c.args.self.now c.args.serial c.args.place c.args.thread c.in_default.ensures.held)

pub returns-then-held-thread-clause-model : goal.returns-then-held-thread-clause-model
returns-then-held-thread-clause-model c = enters_as c.args.self.now c.args.serial c.args.place c.args.thread Blocked c.args.self.now
    (is_blocked c.args.self.now c.args.serial c.args.place c.args.thread (held_at c.args.serial c.in-Some.held) c.in-Some.ensures.held c.if-held-thread.true)

pub returns-then-held-ge-MAX_COUNT-clause-model : goal.returns-then-held-ge-MAX_COUNT-clause-model
returns-then-held-ge-MAX_COUNT-clause-model c =
    let full : 2 ^ 31 ≤ c.in-Some.held.count + 1 = omega (arith, c.if-held-ge-MAX_COUNT.true) in
    enters_as c.args.self.now c.args.serial c.args.place c.args.thread CountEnds c.args.self.now
    (count_ends c.args.self.now c.args.serial c.args.place c.args.thread (held_at c.args.serial c.in-Some.held) c.in-Some.ensures.held c.if-held-thread.false full)

pub returns-clause-model : goal.returns-clause-model
returns-clause-model c =
    let room : c.in-Some.held.count + 1 < 2 ^ 31 = omega (arith, c.if-held-ge-MAX_COUNT.false) in
    enters_as c.args.self.now c.args.serial c.args.place c.args.thread Entered c.recount.new.self
    (ap (λ l. (Entered, l)) c.recount.ensures ∙ enters_again c.args.self.now c.args.serial c.args.place c.args.thread (held_at c.args.serial c.in-Some.held) c.in-Some.ensures.held c.if-held-thread.false room)
