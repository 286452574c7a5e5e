use Rattle.std.proofs.Common.{sym, subst, ap, ◌∙◌}
use Rattle.jm_values.specs.Rename.{stack_shape}
use Rattle.jm_values.specs.Content.{AllResident}
use Rattle.jm_state.specs.View.{view_of}
use Rattle.jm_machine.specs.Seen.{statics_seen}
use Rattle.jm_machine.specs.View.{MatchesWorld}
use Rattle.jm_machine.proofs.Reading.{statics_read, statics_resident}
use Rattle.jm_machine.proofs.machine.Machine.statics.Goals as goal

pub new-requires-clause-resident : goal.new-requires-clause-resident
new-requires-clause-resident g c =
    let s = c.self.inside.state in
    let l = c.self.inside.linked in
    let heap = g.H.Heap.content s.heap in
    subst (λ vs. AllResident heap (stack_shape.refs vs)) (sym c.deref.ensures.value) (statics_resident l heap (view_of s) c.self.invariant.world c.self.invariant.matches c.self.invariant.runs)

pub returns : goal.returns
returns g c = λ w m.
    let s = c.self.inside.state in
    let l = c.self.inside.linked in
    let heap = g.H.Heap.content s.heap in
    c.new.ensures ∙ ap (statics_seen l heap) c.deref.ensures.value ∙ statics_read l heap (view_of s) w (subst (λ v. MatchesWorld v w) (sym c.self.view_is) m)
