use Rattle.std.proofs.Common.{Some, None, sym, subst}
use Rattle.jm_monitors.specs.Entries.{held_at}
use Rattle.jm_state.specs.View.{view_of}
use Rattle.jm_machine.specs.View.{MatchesWorld}
use Rattle.jm_machine.proofs.Reading.{monitor_read}
use Rattle.jm_machine.proofs.machine.Machine.monitor.Goals as goal

pub returns-in-Some : goal.returns-in-Some
returns-in-Some g c = λ w m.
    let s = c.self.inside.state in
    let l = c.self.inside.linked in
    let heap = g.H.Heap.content s.heap in
    monitor_read l heap (view_of s) w (subst (λ v. MatchesWorld v w) (sym c.self.view_is) m) c.args.number
    (Some (held_at c.args.number c.in-Some.held)) c.in-Some.ensures.held

pub returns-in-None : goal.returns-in-None
returns-in-None g c = λ w m.
    let s = c.self.inside.state in
    let l = c.self.inside.linked in
    let heap = g.H.Heap.content s.heap in
    monitor_read l heap (view_of s) w (subst (λ v. MatchesWorld v w) (sym c.self.view_is) m) c.args.number None c.in-None.ensures.held
