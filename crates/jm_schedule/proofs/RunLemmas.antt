-- The events of runs, with one run more.
use Rattle.std.proofs.Common.{◌<◌, ◌≤◌, take, get_or, ◌≡◌, ℕ, ◌+◌, List, [], ◌∷◌, ◌++◌, length, replicate, refl, sym, ap, ◌∙◌, append_assoc, append-nil, arith}
use Rattle.std.specs.List.{flat_map}
use Rattle.std.proofs.lemmas.Grind.{common_steps}
use Rattle.std.proofs.lemmas.List.{take_more}
use Rattle.jm_world.specs.declared.event.Event.{Event}
use Rattle.jm_schedule.specs.declared.schedule.Run.{Run}
use Rattle.jm_schedule.specs.Runs.{repeats_of, events_of}

pub no_events : (runs : List Run) → runs ≡ [] → events_of runs ≡ []
unfolding events_of
no_events runs none = rw none refl

flat_map-push : (runs : List Run) (run : Run) → flat_map repeats_of (runs ++ run ∷ []) ≡ flat_map repeats_of runs ++ repeats_of run
flat_map-push [] run = simp (append-nil (repeats_of run))
flat_map-push (r ∷ runs) run = ap (λ (events : List Event). repeats_of r ++ events) (flat_map-push runs run) ∙ sym (append_assoc (repeats_of r) (flat_map repeats_of runs) (repeats_of run))

pub events_of-push : (runs : List Run) (run : Run) → events_of (runs ++ run ∷ []) ≡ events_of runs ++ replicate run.count run.event
unfolding events_of
events_of-push runs run = flat_map-push runs run

pub length-repeated : (events : List Event) (count : ℕ) (e : Event) → length (events ++ replicate count e) ≡ length events + count
length-repeated events count e = grind (arith, common_steps)

-- the events of the first runs, with the run behind them
pub events_of_more : (runs : List Run) (i : ℕ) (d : Run) → i < length runs → events_of (take (i + 1) runs) ≡ events_of (take i runs) ++ repeats_of (get_or runs i d)
events_of_more runs i d within = ap events_of (take_more runs i d within) ∙ events_of-push (take i runs) (get_or runs i d)

pub no_run : events_of [] ≡ []
no_run = no_events [] refl

pub all_runs : (runs : List Run) (i : ℕ) → length runs ≤ i → events_of (take i runs) ≡ events_of runs
all_runs runs i all = ap events_of (grind (arith, common_steps))
