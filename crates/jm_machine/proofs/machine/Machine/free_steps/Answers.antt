use Rattle.std.proofs.Common.{sym, subst}
use Rattle.jm_state.specs.View.{view_of}
use Rattle.jm_machine.specs.CodePlaces.{AreFree, IsFreeIn, top_stands_at}
use Rattle.jm_machine.specs.Threads.{frame_numbered}
use Rattle.jm_machine.specs.View.{MatchesWorld}
use Rattle.jm_machine.proofs.CodePlaces.{free_on_top}
use Rattle.jm_machine.proofs.machine.Machine.free_steps.Goals as goal

pub returns-clause-free : goal.returns-clause-free
returns-clause-free g c = λ w m.
    let s = c.self.inside.state in
    let l = c.self.inside.linked in
    let heap = g.H.Heap.content s.heap in
    subst (λ v. AreFree v.linked c.args.places.now c.free_steps.result (top_stands_at w c.args.thread)) c.self.view_is
    (free_on_top l heap (view_of s) w (subst (λ v. MatchesWorld v w) (sym c.self.view_is) m) c.self.invariant.runs
    c.args.places.now c.args.thread c.free_steps.result
    (subst (λ ts. IsFreeIn c.args.places.now c.free_steps.result (frame_numbered ts c.args.thread 0)) c.deref.ensures.value c.free_steps.ensures.free))
