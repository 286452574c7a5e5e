-- No < stands in the data of a page.
use Rattle.std.proofs.Common.{◌≢◌, ℕ, List, [], ◌++◌, length, take, drop}
use Rattle.std.specs.List.{flat_map}
use Rattle.std.specs.Fmt.{decimal}
use Rattle.jm_program.specs.declared.class.ClassParts.{ClassParts}
use Rattle.jm_world.specs.World.{World}
use Rattle.jm_world.specs.Run.{run_from}
use Rattle.jm_world.specs.declared.event.Event.{Event}
use Rattle.jm_page.specs.Escapes.{IsHarmless}
use Rattle.jm_page.specs.Data.{row_text, view_text}
use Rattle.jm_page.specs.Filming.{all_told}
use Rattle.jm_page.specs.declared.row.Row.TheVariants as row
use Rattle.jm_page.proofs.Harmless.{row_harmless, view_harmless, run_harmless, both}
use Rattle.jm_film.specs.Shown.{view}
use Rattle.jm_film.specs.Runs.{FilmingView, begun, moments_from}
use Rattle.jm_page.specs.Listings.{class_rows, source_rows}
use Rattle.jm_page.specs.declared.source.Source.{Source}
use Rattle.jm_page.proofs.HarmlessRows.{class_harmless, source_harmless, each}
use Rattle.jm_film.specs.Shots.{end_row, end_word, shots, shots_behind, shots_from, waits_from}
use Rattle.jm_film.specs.FilmPages.{still_rows, title_of}

abbrev IsNoLess : ℕ → Type 0
IsNoLess b = b ≢ 60

still : (program : List ClassParts) (sources : List Source) → IsHarmless (still_rows program sources)
still program sources =
    both (row_text row.Title (title_of program) ++ flat_map class_rows program) (flat_map source_rows sources)
    (both (row_text row.Title (title_of program)) (flat_map class_rows program) (row_harmless row.Title (title_of program)) (each class_rows class_harmless program))
    (each source_rows source_harmless sources)

shown : (steps : ℕ) (w : World) (f : FilmingView) (due : List Event) → IsHarmless (shots steps w f due)
shown steps w f due =
    both (all_told f.film (moments_from w f.waiting (take steps due))) (end_row (drop steps due))
    (run_harmless f.film (moments_from w f.waiting (take steps due))) (row_harmless row.End (end_word (drop steps due)))

behind : (skipped : ℕ) (w : World) (waiting : List ℕ) (steps : ℕ) (due : List Event) → IsHarmless (shots_behind skipped w waiting steps due)
behind skipped w waiting steps due =
    both (view_text (decimal skipped) (view w waiting)) (shots steps w (begun w waiting) due)
    (view_harmless (decimal skipped) (view w waiting)) (shown steps w (begun w waiting) due)

pub harmless : (w : World) (events : List Event) (from steps : ℕ) (sources : List Source) → IsHarmless (still_rows w.program sources ++ shots_from w from steps events)
harmless w events from steps sources =
    both (still_rows w.program sources) (shots_from w from steps events) (still w.program sources)
    (behind (length (take from events)) (run_from w (take from events)) (waits_from w [] (take from events)) steps (drop from events))
