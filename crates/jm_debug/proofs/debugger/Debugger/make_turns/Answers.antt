-- The events that are done lead on, and so does the one that ends them; at a break none is made.
use Rattle.std.proofs.Common.{◌+◌, ◌<◌, refl, rules, sym, subst, arith}
use Rattle.jm_world.specs.Run.{reply}
use Rattle.jm_world.specs.declared.reply.ReplyKind.TheVariants.{Done}
use Rattle.jm_machine.specs.ManySteps.{EndsFor}
use Rattle.jm_machine.specs.UpToPlaces.{EndApart, EndAtPlace}
use Rattle.jm_machine.specs.declared.steps.StepsEnd.TheVariants.{AllMade}
use Rattle.jm_debug.specs.Answering.{DebuggerView, IsMarked, IsSession}
use Rattle.jm_debug.proofs.BreakMarks.{passes}
use Rattle.jm_debug.proofs.LongTurns.{all_on, at_most, none_other, other_last}
use Rattle.jm_debug.proofs.debugger.Debugger.make_turns.Goals as goal

pub returns-in-AtPlace-eq0-clause-moves : goal.returns-in-AtPlace-eq0-clause-moves
returns-in-AtPlace-eq0-clause-moves g c = λ s at alone.
    let here = subst (λ (d : DebuggerView _). IsSession d s) (sym c.self.view_is) at in
    let none = subst (EndAtPlace c.self.inside.machine.linked c.args.marks.now s.world c.args.thread c.step_up_to.new.self) c.in-AtPlace-eq0.field-0-test
    (c.in-AtPlace-eq0.ensures.steps s.world here.world) in
    c.make_one.ensures.moves s c.args.most (record { world = none.steps.world; breaks = here.breaks; cursor = here.cursor }) c.requires.left alone.turn

pub returns-in-AtPlace-clause-moves : goal.returns-in-AtPlace-clause-moves
returns-in-AtPlace-clause-moves g c = λ s at alone.
    let here = subst (λ (d : DebuggerView _). IsSession d s) (sym c.self.view_is) at in
    let marked = subst (λ (d : DebuggerView _). IsMarked d c.args.marks.now) (sym c.self.view_is) c.requires.marked in
    let made = c.in-AtPlace.ensures.steps s.world here.world in
    let some : 0 < c.in-AtPlace.made = let test = c.in-AtPlace.made-test in omega (arith, test) in
    all_on s c.args.thread alone c.in-AtPlace.made (reply Done s.world) c.step_up_to.new.self c.args.most _ AllMade refl some
    (passes c.args.marks.now c.args.thread c.in-AtPlace.made here marked made.apart) made.steps refl here.breaks refl

pub returns-in-Other-clause-moves : goal.returns-in-Other-clause-moves
returns-in-Other-clause-moves g c = λ s at alone.
    let steps = c.in-Ended.steps in
    let new = c.step_up_to.new.self in
    let here = subst (λ (d : DebuggerView _). IsSession d s) (sym c.self.view_is) at in
    let marked = subst (λ (d : DebuggerView _). IsMarked d c.args.marks.now) (sym c.self.view_is) c.requires.marked in
    let ends = subst (EndsFor c.args.most steps) c.in-Other.is c.in-Ended.ensures.ends in
    let are = subst (λ end. EndApart c.self.inside.machine.linked c.args.marks.now s.world c.args.thread new
    (record { alike = steps.alike; reply = steps.reply; end = end })) c.in-Other.is
    (c.in-Ended.ensures.steps s.world here.world) in
    other_last s c.args.thread alone steps.alike steps.reply new c.args.most _ c.in-Other.reply _ ends.0
    (passes c.args.marks.now c.args.thread (steps.alike + 1) here marked are.apart) are.steps refl here.breaks refl c.moved_by.ensures

pub returns-in_default-2 : goal.returns-in_default-2
returns-in_default-2 g c =
    let steps = c.in-Ended.steps in
    let new = c.step_up_to.new.self in
    let some : 0 < steps.alike = omega (arith, c.if-steps-eq0.false) in
    record {
      moves = λ s at alone.
          let here = subst (λ (d : DebuggerView _). IsSession d s) (sym c.self.view_is) at in
          let marked = subst (λ (d : DebuggerView _). IsMarked d c.args.marks.now) (sym c.self.view_is) c.requires.marked in
          let are = c.in-Ended.ensures.steps s.world here.world in
          all_on s c.args.thread alone steps.alike steps.reply new c.args.most _ steps.end (none_other steps.end c.in_default-2.not-Other) some
          (passes c.args.marks.now c.args.thread steps.alike here marked (λ k below. are.apart k (omega arith))) are.steps refl here.breaks refl;
      few = (some, at_most c.args.most steps steps.end c.in-Ended.ensures.ends, omega arith);
      marked = record { linked = search rules; breaks = search rules };
    }
