-- The events of a run, one more.
use Rattle.std.proofs.Common.{◌≡◌, List, [], ◌∷◌, sym, ap, ◌∙◌}
use Rattle.jm_world.specs.World.{World}
use Rattle.jm_world.specs.Run.{after, run_from}
use Rattle.jm_world.specs.declared.event.Event.{Event}
use Rattle.jm_why.specs.Kept.{KeptView, kept_from, kept_behind}

pub one_kept : (w : World) (k more total : KeptView) (due rest : List Event) (e : Event) → due ≡ e ∷ rest → more ≡ kept_behind w k e → total ≡ kept_from w k due
    → total ≡ kept_from (after w e).world more rest
one_kept w k more total due rest e is behind so_far = so_far ∙ ap (kept_from w k) is ∙ ap (λ n. kept_from (after w e).world n rest) (sym behind)

pub one_made : (w end : World) (due rest : List Event) (e : Event) → due ≡ e ∷ rest → end ≡ run_from w due → end ≡ run_from (after w e).world rest
one_made w end due rest e is so_far = so_far ∙ ap (run_from w) is

pub none_kept : (w : World) (k total : KeptView) (due : List Event) → due ≡ [] → total ≡ kept_from w k due → k ≡ total
none_kept w k total due none so_far = sym (so_far ∙ ap (kept_from w k) none)
