use Rattle.std.proofs.Common.{sym, subst, ap, ◌∙◌, Some}
use Rattle.jm_state.specs.View.{view_of}
use Rattle.jm_machine.specs.Readers.{IsOfProgram}
use Rattle.jm_machine.specs.Threads.{frame_numbered}
use Rattle.jm_machine.specs.View.{MatchesWorld}
use Rattle.jm_machine.proofs.Events.{program_is}
use Rattle.jm_machine.proofs.Reading.{frame_runs, frame_read, frame_resident, no_frame}
use Rattle.jm_machine.proofs.machine.Machine.frame.Goals as goal

pub returns-in-None-clause-frame : goal.returns-in-None-clause-frame
returns-in-None-clause-frame g c = λ w m.
    let s = c.self.inside.state in
    let l = c.self.inside.linked in
    let heap = g.H.Heap.content s.heap in
    no_frame l heap (view_of s) w (subst (λ v. MatchesWorld v w) (sym c.self.view_is) m) c.args.number c.args.depth (ap (λ ts. frame_numbered ts c.args.number c.args.depth) (sym c.deref.ensures.value) ∙ c.in-None.ensures)

pub world_frame-requires-clause-runs : goal.world_frame-requires-clause-runs
world_frame-requires-clause-runs g c =
    let s = c.self.inside.state in
    let l = c.self.inside.linked in
    let heap = g.H.Heap.content s.heap in
    frame_runs l (view_of s) c.self.invariant.runs c.args.number c.args.depth c.in-Some.frame.now (ap (λ ts. frame_numbered ts c.args.number c.args.depth) (sym c.deref.ensures.value) ∙ c.in-Some.ensures)

pub world_frame-requires-clause-resident : goal.world_frame-requires-clause-resident
world_frame-requires-clause-resident g c =
    let s = c.self.inside.state in
    let l = c.self.inside.linked in
    let heap = g.H.Heap.content s.heap in
    frame_resident l heap (view_of s) c.self.invariant.world c.self.invariant.matches c.self.invariant.runs c.args.number c.args.depth c.in-Some.frame.now (ap (λ ts. frame_numbered ts c.args.number c.args.depth) (sym c.deref.ensures.value) ∙ c.in-Some.ensures)

pub returns-in-Some-clause-frame : goal.returns-in-Some-clause-frame
returns-in-Some-clause-frame g c = λ w m.
    let s = c.self.inside.state in
    let l = c.self.inside.linked in
    let heap = g.H.Heap.content s.heap in
    frame_read l heap (view_of s) w (subst (λ v. MatchesWorld v w) (sym c.self.view_is) m) c.args.number c.args.depth c.in-Some.frame.now (ap (λ ts. frame_numbered ts c.args.number c.args.depth) (sym c.deref.ensures.value) ∙ c.in-Some.ensures)
    ∙ ap Some (sym c.world_frame.ensures.frame)

pub returns-in-Some-clause-method : goal.returns-in-Some-clause-method
returns-in-Some-clause-method g c = λ w m.
    let s = c.self.inside.state in
    let l = c.self.inside.linked in
    let heap = g.H.Heap.content s.heap in
    subst (λ p. IsOfProgram p c.world_frame.result) (program_is l heap (view_of s) w (subst (λ v. MatchesWorld v w) (sym c.self.view_is) m)) c.world_frame.ensures.method
