use Rattle.std.proofs.Common.{◌∙◌, sym, subst}
use Rattle.std.proofs.lemmas.Result.{IfOk-weaker}
use Rattle.jm_state.specs.Reached.{AreReachable}
use Rattle.jm_state.proofs.Made.{sound, all_resident, reaches}
use Rattle.jm_state.proofs.reach.reachable.Goals as goal

pub mark-requires-clause-sound : goal.mark-requires-clause-sound
mark-requires-clause-sound g c = sound _ _ _ c.requires

pub mark-requires-clause-resident : goal.mark-requires-clause-resident
mark-requires-clause-resident g c = all_resident _ _ _ c.requires (c.as_slice.ensures ∙ c.in_ok-roots.ensures)

pub returns : goal.returns
returns g c =
    IfOk-weaker c.rising.result _ _
    (λ serials e. λ w h. subst (AreReachable w) (sym e)
    (reaches (record { runs = c.requires.0; gathered = c.as_slice.ensures ∙ c.in_ok-roots.ensures }) h c.in_ok-seen.ensures c.rising.ensures.rising))
    c.rising.ensures.same
