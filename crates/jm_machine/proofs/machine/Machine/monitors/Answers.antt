use Rattle.std.proofs.Common.{sym, subst, ◌∙◌}
use Rattle.jm_state.specs.View.{view_of}
use Rattle.jm_machine.specs.View.{MatchesWorld}
use Rattle.jm_machine.proofs.Reading.{monitors_are, monitors_named, monitors_resident}
use Rattle.jm_machine.proofs.machine.Machine.monitors.Goals as goal

pub world_monitors-requires-clause-resident : goal.world_monitors-requires-clause-resident
world_monitors-requires-clause-resident g c =
    let s = c.self.inside.state in
    let l = c.self.inside.linked in
    let heap = g.H.Heap.content s.heap in
    monitors_resident l heap (view_of s) c.self.invariant.world c.self.invariant.matches c.self.invariant.runs

pub world_monitors-requires-clause-named : goal.world_monitors-requires-clause-named
world_monitors-requires-clause-named g c =
    let s = c.self.inside.state in
    let l = c.self.inside.linked in
    let heap = g.H.Heap.content s.heap in
    monitors_named l heap (view_of s) c.self.invariant.world c.self.invariant.matches

pub returns-in-Ok : goal.returns-in-Ok
returns-in-Ok g c = λ w m.
    let s = c.self.inside.state in
    let l = c.self.inside.linked in
    let heap = g.H.Heap.content s.heap in
    c.in-Ok.ensures ∙ monitors_are l heap (view_of s) w (subst (λ v. MatchesWorld v w) (sym c.self.view_is) m)
