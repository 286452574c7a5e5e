-- The journal has the entries of the turns more.
use Rattle.std.proofs.Common.{◌≡◌, ◌∙◌, ap, sym, refl, subst, length}
use Rattle.jm_machine.specs.View.{MatchesWorld}
use Rattle.jm_world.specs.Run.{reply}
use Rattle.jm_world.specs.declared.reply.ReplyKind.TheVariants.{Done}
use Rattle.jm_shared.specs.Book.{Book}
use Rattle.jm_shared.specs.Legal.{IsLegal, world_after}
use Rattle.jm_shared.specs.Stretches.{entries_of}
use Rattle.jm_shared.specs.declared.entry.Receipts.{Receipts}
use Rattle.jm_shared.proofs.Stretches.{how_many}
use Rattle.jm_shared.proofs.Turns.{all_turned, no_steps_made}
use Rattle.jm_shared.proofs.journal.Journal.turns.Goals as goal

pub returns-then-not-make_room-clause-receipts : goal.returns-then-not-make_room-clause-receipts
returns-then-not-make_room-clause-receipts g c =
    (refl, sym (how_many _ _ c.self.invariant.0) ∙ ap (λ (b : Book _). length b.entries) c.self.view_is, refl)

pub returns-then-not-make_room-clause-machine : goal.returns-then-not-make_room-clause-machine
returns-then-not-make_room-clause-machine g c = λ w m.
    let here = subst (λ (b : Book _). MatchesWorld b.machine w) (sym c.self.view_is) m in
    no_steps_made w c.args.thread c.self.inside.machine c.no_steps.result here c.no_steps.ensures.none.0 c.no_steps.ensures.none.1
    (c.no_steps.ensures.reply w here)

pub invariant_of-self-2 : goal.invariant_of-self-2
invariant_of-self-2 g c =
    let (legal, matches) = c.self.invariant.1 in
    let last = c.self.inside.last in
    let entries = entries_of c.self.inside.stretches.items last in
    let made = c.step_many-steps.ensures.steps (world_after g.R.Origin.first entries) matches in
    let kept = ap (λ ss. entries_of ss last) c.make_room.ensures.items in
    let receipts : Receipts = record { seat = c.args.seat; number = last.end; thread = c.args.thread; steps = c.step_many-steps.result } in
    (c.add_turns.ensures.rises, all_turned receipts g.R.Origin.first entries _ _ c.step_many-steps.new.self legal made c.add_turns.ensures.entries kept)

pub returns-clause-receipts : goal.returns-clause-receipts
returns-clause-receipts g c = (refl, sym (how_many _ _ c.self.invariant.0) ∙ ap (λ (b : Book _). length b.entries) c.self.view_is, refl)

pub returns-then-not-make_room-clause-legal : goal.returns-then-not-make_room-clause-legal
returns-then-not-make_room-clause-legal g c = subst (λ (b : Book _). IsLegal g.R.Origin.first b.entries) c.self.view_is c.self.invariant.1.0

pub returns-then-not-make_room-clause-reply : goal.returns-then-not-make_room-clause-reply
returns-then-not-make_room-clause-reply g c =
    subst (λ (b : Book _). c.no_steps.result.reply ≡ reply Done (world_after g.R.Origin.first b.entries)) c.self.view_is
    (c.no_steps.ensures.reply _ c.self.invariant.1.1)

pub returns-clause-legal : goal.returns-clause-legal
returns-clause-legal g c = subst (λ (b : Book _). IsLegal g.R.Origin.first b.entries) c.self.view_is c.self.invariant.1.0

pub returns-clause-reply : goal.returns-clause-reply
returns-clause-reply g c =
    let entries = entries_of c.self.inside.stretches.items c.self.inside.last in
    let made = c.step_many-steps.ensures.steps (world_after g.R.Origin.first entries) c.self.invariant.1.1 in
    subst (λ (b : Book _). c.step_many-steps.result.reply ≡ reply Done (world_after g.R.Origin.first b.entries)) c.self.view_is made.reply
