use Rattle.std.proofs.Common.{sym, subst}
use Rattle.jm_state.specs.View.{view_of}
use Rattle.jm_machine.specs.View.{MatchesWorld}
use Rattle.jm_state.specs.Reached.{FindsReachable}
use Rattle.jm_machine.proofs.Reading.{is_sound, object_told}
use Rattle.jm_machine.proofs.machine.Machine.object.Goals as goal

pub new-object-requires-clause-sound : goal.new-object-requires-clause-sound
new-object-requires-clause-sound g c =
    let s = c.self.inside.state in
    let l = c.self.inside.linked in
    let heap = g.H.Heap.content s.heap in
    is_sound l heap (view_of s) c.self.invariant.world c.self.invariant.matches

pub returns-in-Ok-Some : goal.returns-in-Ok-Some
returns-in-Ok-Some g c = λ w m.
    let s = c.self.inside.state in
    let l = c.self.inside.linked in
    let heap = g.H.Heap.content s.heap in
    let here = subst (FindsReachable heap w c.args.number) c.in-Ok-Some.field-0-is (c.in-Ok-Some.ensures w (subst (λ v. MatchesWorld v w) (sym c.self.view_is) m)) in
    object_told l heap (view_of s) w (subst (λ v. MatchesWorld v w) (sym c.self.view_is) m) c.args.number c.in-Ok-Some.place here.0 here.1 c.new-object.result
    c.new-object.ensures
