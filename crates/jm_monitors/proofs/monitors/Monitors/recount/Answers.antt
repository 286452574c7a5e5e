use Rattle.std.proofs.Common.{ap, ◌∙◌}
use Rattle.jm_monitors.specs.Entries.{held_of}
use Rattle.jm_monitors.specs.declared.held.Held.{Held}
use Rattle.jm_monitors.proofs.Counted.{rewritten, not_there}
use Rattle.jm_monitors.proofs.monitors.Monitors.recount.Goals as goal

pub returns-in_default : goal.returns-in_default
returns-in_default c = ap (λ m. held_of m.entries) c.get_mut.follows.holds-at-none ∙ not_there c.self.inside.held.entries c.args.self.now c.args.serial c.args.count c.self.view_is c.in_default.ensures.value

pub invariant_of-self-2 : goal.invariant_of-self-2
invariant_of-self-2 c =
    let w : Held = record { place = c.in-Some.held.now.place; owner = c.in-Some.held.now.owner; count = c.args.count } in
    (rewritten c.self.inside.held.entries (c.get_mut.follows.lender w).entries c.args.self.now c.args.serial c.args.count c.in-Some.held.now c.self.view_is c.in-Some.ensures.value (c.get_mut.follows.holds w).0 (c.get_mut.follows.holds w).4 c.self.invariant.counted c.requires).1

pub returns : goal.returns
returns c =
    let w : Held = record { place = c.in-Some.held.now.place; owner = c.in-Some.held.now.owner; count = c.args.count } in
    (rewritten c.self.inside.held.entries (c.get_mut.follows.lender w).entries c.args.self.now c.args.serial c.args.count c.in-Some.held.now c.self.view_is c.in-Some.ensures.value (c.get_mut.follows.holds w).0 (c.get_mut.follows.holds w).4 c.self.invariant.counted c.requires).0
