use Rattle.std.proofs.Common.{sym, ap, ◌∙◌, length}
use Rattle.jm_machine.proofs.Told.{statics_length}
use Rattle.jm_machine.proofs.statics.WorldStatics.len.Goals as goal

pub returns : goal.returns
returns g c =
    sym (statics_length c.self.inside.linked.now (g.H.Heap.content c.self.inside.heap.now) c.self.inside.values.now c.self.invariant.0) ∙ ap length c.self.view_is
