use Rattle.std.proofs.Common.{sym, subst, ap, ◌∙◌, Some, None}
use Rattle.jm_state.specs.View.{view_of}
use Rattle.jm_machine.specs.Threads.{pending_numbered}
use Rattle.jm_machine.specs.View.{MatchesWorld}
use Rattle.jm_values.proofs.SoundContents.{name_is}
use Rattle.jm_machine.proofs.Reading.{pending_read, pending_resident}
use Rattle.jm_machine.proofs.machine.Machine.pending.Goals as goal

pub returns-in-None : goal.returns-in-None
returns-in-None g c = λ w m.
    let s = c.self.inside.state in
    let l = c.self.inside.linked in
    let heap = g.H.Heap.content s.heap in
    sym (pending_read l heap (view_of s) w (subst (λ v. MatchesWorld v w) (sym c.self.view_is) m) c.args.number None (ap (λ ts. pending_numbered ts c.args.number) (sym c.deref.ensures.value) ∙ sym c.in-None.ensures))

pub serial-requires : goal.serial-requires
serial-requires g c =
    let s = c.self.inside.state in
    let l = c.self.inside.linked in
    let heap = g.H.Heap.content s.heap in
    pending_resident l heap (view_of s) c.self.invariant.world c.self.invariant.matches c.self.invariant.runs c.args.number c.in-Some.place (ap (λ ts. pending_numbered ts c.args.number) (sym c.deref.ensures.value) ∙ sym c.in-Some.ensures)

pub returns-in-Some : goal.returns-in-Some
returns-in-Some g c = λ w m.
    let s = c.self.inside.state in
    let l = c.self.inside.linked in
    let heap = g.H.Heap.content s.heap in
    ap Some (sym (name_is heap c.in-Some.place c.serial.result c.serial.ensures))
    ∙ sym (pending_read l heap (view_of s) w (subst (λ v. MatchesWorld v w) (sym c.self.view_is) m) c.args.number (Some c.in-Some.place) (ap (λ ts. pending_numbered ts c.args.number) (sym c.deref.ensures.value) ∙ sym c.in-Some.ensures))
