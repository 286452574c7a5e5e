-- At which line the events pass a limit, and which bad line is the first.
use Rattle.std.specs.Prelude.{◌≡◌, ℕ, List, [], ◌∷◌, Result, Ok, Err, refl, codes}
use Rattle.jm_world.specs.Schedules.{events_of_lines, lines_of}
use Rattle.jm_world.specs.declared.event.Event.{Event}
use Rattle.jm_world.specs.declared.event.Event.TheVariants.{Step, Minor}

abbrev limited_to : ℕ → List ℕ → Result (List Event) ℕ
limited_to limit text = events_of_lines limit 1 0 [] (lines_of text)

the_limit_is_within : limited_to 4 (codes "t 1 x 3\nminor\n\n# no event\n") ≡ Ok (Step 1 ∷ Step 1 ∷ Step 1 ∷ Minor ∷ [])
the_limit_is_within = refl

one_event_more : limited_to 3 (codes "t 1 x 3\n\nminor") ≡ Err 3
one_event_more = refl

a_run_passes_as_a_whole : limited_to 4 (codes "t 1\nt 1 x 4\n") ≡ Err 2
a_run_passes_as_a_whole = refl

the_first_is_strange : limited_to 1 (codes "t 1\n\tt 1\nt 1\n") ≡ Err 2
the_first_is_strange = refl

the_first_passes : limited_to 1 (codes "t 1\nt 1\nT 1") ≡ Err 2
the_first_passes = refl
