-- What is told of a search.
use Rattle.std.proofs.Common.{◌≡◌, ℕ, Option, Some, ap, sym, subst, ◌∙◌}
use Rattle.jm_explore.specs.declared.bounds.Bounds.{Bounds}
use Rattle.jm_explore.specs.declared.exploration.Explored.{Explored}
use Rattle.jm_execute.specs.Endings.{LinesTold, Tells, explored}
use Rattle.jm_execute.specs.Explorations.{lack_lines, lack_of, lack_status, told_status}
use Rattle.jm_execute.specs.Written.{Watch, Words}
use Rattle.jm_execute.specs.declared.exploring.Lack.{Lack}
use Rattle.jm_explain.specs.declared.status.Status.{Status}

-- by what it lacks
pub tells_by : {W : Type 0} (w : Words W) (b : Bounds) (found : Explored) (wanted : Option ℕ) (lack : Option Lack) → lack_of found wanted ≡ lack → (status : Status) (err new_err : Watch W)
    → status ≡ lack_status lack (told_status found.unfinished found.told.items) → LinesTold w (Some (lack_lines lack)) new_err.failed err new_err
    → Tells w (explored b found wanted) status err new_err
tells_by w b found wanted lack is status err new_err same told =
    (same ∙ ap (λ (l : Option Lack). lack_status l (told_status found.unfinished found.told.items)) (sym is), subst (λ (l : Option Lack). LinesTold w (Some (lack_lines l)) new_err.failed err new_err) (sym is) told)
