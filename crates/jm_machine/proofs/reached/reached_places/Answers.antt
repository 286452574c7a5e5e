use Rattle.std.proofs.Common.{◌∙◌, sym, subst}
use Rattle.std.proofs.lemmas.Result.{IfOk-weaker}
use Rattle.jm_state.proofs.Made.{sound, all_resident}
use Rattle.jm_machine.specs.ReachedObjects.{AreOfReached}
use Rattle.jm_machine.proofs.ReachedObjects.{are_of_reached}
use Rattle.jm_machine.proofs.reached.reached_places.Goals as goal

pub mark-requires-clause-sound : goal.mark-requires-clause-sound
mark-requires-clause-sound g c = sound _ _ _ c.requires

pub mark-requires-clause-resident : goal.mark-requires-clause-resident
mark-requires-clause-resident g c = all_resident _ _ _ c.requires (c.as_slice.ensures ∙ c.in_ok-roots.ensures)

pub returns : goal.returns
returns g c =
    IfOk-weaker c.in_order.result _ _
    (λ places e. λ w h. subst (AreOfReached _ w) (sym e)
    (are_of_reached (record { runs = c.requires.0; gathered = c.as_slice.ensures ∙ c.in_ok-roots.ensures }) h c.in_ok-seen.ensures c.in_order.ensures.rising))
    c.in_order.ensures.same
