use Rattle.std.proofs.Common.{subst, sym}
use Rattle.jm_interp.specs.TopObject.{IsRefused}
use Rattle.jm_interp.proofs.SpecialRows.{invokes_none, throws_abstract}
use Rattle.jm_interp.proofs.special_calls.refuse_special.Goals as goal
use Rattle.jm_interp.proofs.special_calls.refuse_special.Goals.{in-Ok, in-Err}

pub receiver_of-requires : goal.receiver_of-requires
receiver_of-requires g c = (_, invokes_none c.requires)

pub refuse-requires-clause-refused : goal.refuse-requires-clause-refused
refuse-requires-clause-refused g c =
    let content = g.H.Heap.content in
    let old = c.args.state.now in
    elim c.match-receiver_of.branch [
      | in-Ok w ↦ subst (IsRefused content c.args.at old) (sym w.refusal-is) (throws_abstract c.requires (w.in-Ok.ensures _ (invokes_none c.requires)))
      | in-Err w ↦ subst (IsRefused content c.args.at old) (sym w.refusal-is) (w.in-Err.ensures _ (invokes_none c.requires))
    ]
