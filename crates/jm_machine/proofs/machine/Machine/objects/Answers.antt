use Rattle.std.proofs.Common.{sym, subst}
use Rattle.jm_state.specs.View.{view_of}
use Rattle.jm_machine.specs.View.{MatchesWorld}
use Rattle.jm_machine.proofs.ReachedObjects.{are_in_order, tells_reached}
use Rattle.jm_machine.proofs.machine.Machine.objects.Goals as goal

pub new-requires : goal.new-requires
new-requires g c =
    let s = c.self.inside.state in
    let l = c.self.inside.linked in
    let heap = g.H.Heap.content s.heap in
    are_in_order l heap (view_of s) c.self.invariant.world c.self.invariant.matches (c.in-Ok.ensures c.self.invariant.world c.self.invariant.matches)

pub returns-in-Ok : goal.returns-in-Ok
returns-in-Ok g c = λ w m.
    let s = c.self.inside.state in
    let l = c.self.inside.linked in
    let heap = g.H.Heap.content s.heap in
    let here = subst (λ v. MatchesWorld v w) (sym c.self.view_is) m in
    tells_reached l heap (view_of s) w here _ (c.in-Ok.ensures w here) c.new.result c.new.ensures
