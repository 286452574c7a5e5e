-- What each command comes to.
use Rattle.std.proofs.Common.{Some, sym, subst}
use Rattle.jm_debug.specs.Views.{where_lines, locals_lines, stack_lines, statics_lines, object_lines, heap_lines, monitor_lines}
use Rattle.jm_debug.specs.Session.{obeyed}
use Rattle.jm_debug.specs.Answering.{DebuggerView, IsSession}
use Rattle.jm_debug.proofs.Obeying.{of_view}
use Rattle.jm_debug.proofs.debugger.Debugger.obey.Goals as goal

pub returns-in-Break-clause-obeys : goal.returns-in-Break-clause-obeys
unfolding obeyed
returns-in-Break-clause-obeys g c = λ s at. rw c.in-Break.is (c.set_break.ensures s at)

pub returns-in-Clear-clause-obeys : goal.returns-in-Clear-clause-obeys
unfolding obeyed
returns-in-Clear-clause-obeys g c = λ s at. rw c.in-Clear.is (c.clear_break-answer.ensures s at)

pub returns-in-Step-clause-obeys : goal.returns-in-Step-clause-obeys
unfolding obeyed
returns-in-Step-clause-obeys g c = λ s at. rw c.in-Step.is (c.step.ensures s at)

pub returns-in-Minor-clause-obeys : goal.returns-in-Minor-clause-obeys
unfolding obeyed
returns-in-Minor-clause-obeys g c = λ s at. rw c.in-Minor.is (c.make.ensures.comes s at)

pub returns-in-Full-clause-obeys : goal.returns-in-Full-clause-obeys
unfolding obeyed
returns-in-Full-clause-obeys g c = λ s at. rw c.in-Full.is (c.make-in-Full.ensures.comes s at)

pub returns-in-Continue-clause-obeys : goal.returns-in-Continue-clause-obeys
unfolding obeyed
returns-in-Continue-clause-obeys g c = λ s at. rw c.in-Continue.is (c.go_on.ensures s at)

pub returns-in-Where-clause-obeys : goal.returns-in-Where-clause-obeys
unfolding obeyed
returns-in-Where-clause-obeys g c = λ s at.
    let here = subst (λ (d : DebuggerView _). IsSession d s) (sym c.self.view_is) at in
    rw c.in-Where.is (of_view _ c.args.self.now s (where_lines s.world c.in-Where.thread) _ (c.frames.ensures s.world here.world) at)

pub returns-in-Locals-clause-obeys : goal.returns-in-Locals-clause-obeys
unfolding obeyed
returns-in-Locals-clause-obeys g c = λ s at.
    let here = subst (λ (d : DebuggerView _). IsSession d s) (sym c.self-in-Locals.view_is) at in
    rw c.in-Locals.is (of_view _ c.args.self.now s (locals_lines s.world c.in-Locals.thread c.in-Locals.frame) _ (c.locals.ensures s.world here.world) at)

pub returns-in-Stack-clause-obeys : goal.returns-in-Stack-clause-obeys
unfolding obeyed
returns-in-Stack-clause-obeys g c = λ s at.
    let here = subst (λ (d : DebuggerView _). IsSession d s) (sym c.self-in-Stack.view_is) at in
    rw c.in-Stack.is (of_view _ c.args.self.now s (stack_lines s.world c.in-Stack.thread c.in-Stack.frame) _ (c.stack.ensures s.world here.world) at)

pub returns-in-Statics-clause-obeys : goal.returns-in-Statics-clause-obeys
unfolding obeyed
returns-in-Statics-clause-obeys g c = λ s at.
    let here = subst (λ (d : DebuggerView _). IsSession d s) (sym c.self-in-Statics.view_is) at in
    rw c.in-Statics.is (of_view _ c.args.self.now s (statics_lines s.world c.in-Statics.class) _ (c.statics-answer.ensures s.world here.world) at)

pub returns-in-Object-clause-obeys : goal.returns-in-Object-clause-obeys
unfolding obeyed
returns-in-Object-clause-obeys g c = λ s at.
    let here = subst (λ (d : DebuggerView _). IsSession d s) (sym c.self-in-Object.view_is) at in
    rw c.in-Object.is (of_view _ c.args.self.now s (object_lines s.world c.in-Object.number) _ (c.object.ensures s.world here.world) at)

pub returns-in-Heap-clause-obeys : goal.returns-in-Heap-clause-obeys
unfolding obeyed
returns-in-Heap-clause-obeys g c = λ s at.
    let here = subst (λ (d : DebuggerView _). IsSession d s) (sym c.self-in-Heap.view_is) at in
    rw c.in-Heap.is (of_view _ c.args.self.now s (Some (heap_lines s.world)) _ (c.heap.ensures s.world here.world) at)

pub returns-in-Monitors-clause-obeys : goal.returns-in-Monitors-clause-obeys
unfolding obeyed
returns-in-Monitors-clause-obeys g c = λ s at.
    let here = subst (λ (d : DebuggerView _). IsSession d s) (sym c.self-in-Monitors.view_is) at in
    rw c.in-Monitors.is (of_view _ c.args.self.now s (Some (monitor_lines s.world)) _ (c.monitors.ensures s.world here.world) at)

-- of the other commands nothing is said
pub returns-in-Minor-clause-collects : goal.returns-in-Minor-clause-collects
returns-in-Minor-clause-collects g c = rw c.in-Minor.is c.make.ensures.collects

pub returns-in-Full-clause-collects : goal.returns-in-Full-clause-collects
returns-in-Full-clause-collects g c = rw c.in-Full.is c.make-in-Full.ensures.collects
