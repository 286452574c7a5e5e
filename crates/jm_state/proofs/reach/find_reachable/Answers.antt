use Rattle.std.proofs.Common.{◌∙◌}
use Rattle.std.proofs.lemmas.Result.{IfOk-weaker}
use Rattle.jm_state.proofs.Made.{sound, all_resident, finds}
use Rattle.jm_state.proofs.reach.find_reachable.Goals as goal

pub search-requires-clause-sound : goal.search-requires-clause-sound
search-requires-clause-sound g c = sound _ _ _ c.requires

pub search-requires-clause-resident : goal.search-requires-clause-resident
search-requires-clause-resident g c = all_resident _ _ _ c.requires (c.as_slice.ensures ∙ c.in_ok-roots.ensures)

pub returns : goal.returns
returns g c =
    IfOk-weaker c.search.result _ _
    (λ found e. λ w h. finds (record { runs = c.requires.0; gathered = c.as_slice.ensures ∙ c.in_ok-roots.ensures }) h c.args.serial found e)
    c.search.ensures
