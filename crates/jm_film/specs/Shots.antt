-- Which events of a run a film shows.
use Rattle.std.specs.Prelude.{◌≡◌, ◌≤◌, ◌<◌, ℕ, List, [], ◌∷◌, ◌++◌, codes, take, drop, length}
use Rattle.std.specs.Fmt.{decimal}
use Rattle.jm_world.specs.World.{World}
use Rattle.jm_world.specs.Run.{after, run_from}
use Rattle.jm_world.specs.declared.event.Event.{Event}
use Rattle.jm_page.specs.Data.{row_text, view_text}
use Rattle.jm_page.specs.Filming.{all_told}
use Rattle.jm_page.specs.declared.row.Row.TheVariants as row
use Rattle.jm_film.specs.Shown.{view}
use Rattle.jm_film.specs.Runs.{FilmingView, begun, moments_from, waits_behind}

-- the threads that were blocked at their last event, behind some events
abbrev pub waits_from : World → List ℕ → List Event → List ℕ
waits_from w waiting [] = waiting
waits_from w waiting (e ∷ es) = waits_from (after w e).world (waits_behind w waiting e) es

-- the last row: the run is over, or goes on
abbrev pub end_word : List Event → List ℕ
end_word [] = codes "end"
end_word (e ∷ es) = codes "cut"

abbrev pub end_row : List Event → List ℕ
end_row due = row_text row.End (end_word due)

-- at most so many of the events that are due, and how the film ends
abbrev pub shots : ℕ → World → FilmingView → List Event → List ℕ
shots steps w f due = all_told f.film (moments_from w f.waiting (take steps due)) ++ end_row (drop steps due)

-- the whole view behind so many events, which are not shown, and then the shots
abbrev pub shots_behind : ℕ → World → List ℕ → ℕ → List Event → List ℕ
shots_behind skipped w waiting steps due = view_text (decimal skipped) (view w waiting) ++ shots steps w (begun w waiting) due

-- the first events are not shown; where the run has fewer, the film begins with its end
abbrev pub shots_from : World → ℕ → ℕ → List Event → List ℕ
shots_from w from steps events =
    shots_behind (length (take from events)) (run_from w (take from events)) (waits_from w [] (take from events)) steps (drop from events)

-- Where one stands behind the first of some events: so many were made, as many as are not shown, or all where there are fewer; these are left;
-- and these threads were blocked at their last event.
pub record Reached (first : World) (events : List Event) (from : ℕ) (now : World) (left : List Event) (count : ℕ) (waiting : List ℕ) : Type 0 where
  pub made : List Event
  pub whole : events ≡ made ++ left
  pub count_is : count ≡ length made
  pub few : count ≤ from
  pub all : count < from → left ≡ []
  pub now_is : now ≡ run_from first made
  pub waits : waiting ≡ waits_from first [] made
