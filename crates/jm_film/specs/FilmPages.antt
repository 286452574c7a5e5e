-- The page of a film.
use Rattle.std.specs.Prelude.{ℕ, ◌+◌, List, [], ◌∷◌, ◌++◌, take}
use Rattle.std.specs.List.{flat_map}
use Rattle.jm_program.specs.JasminUnits.{name_text}
use Rattle.jm_program.specs.declared.class.ClassParts.{ClassParts}
use Rattle.jm_world.specs.World.{World}
use Rattle.jm_world.specs.declared.event.Event.{Event}
use Rattle.jm_page.specs.Data.{row_text}
use Rattle.jm_page.specs.declared.row.Row.TheVariants as row
use Rattle.jm_page.specs.Listings.{class_rows, source_rows}
use Rattle.jm_page.specs.declared.source.Source.{Source}
use Rattle.jm_page.specs.declared.page.TheConstants.{ABOVE, BELOW}
use Rattle.jm_film.specs.Shots.{shots_from}
use Rattle.jm_film.specs.declared.window.Window.{Window}

-- the main class's name
abbrev pub title_of : List ClassParts → List ℕ
title_of [] = []
title_of (c ∷ cs) = name_text c.name

-- the rows that stand still: the title, the methods of the program's classes, and the sources
abbrev pub still_rows : List ClassParts → List Source → List ℕ
still_rows program sources = row_text row.Title (title_of program) ++ flat_map class_rows program ++ flat_map source_rows sources

-- the page of a run from a world on: the template's text, with the data in it
unfoldable pub film_page : World → List Event → Window → List Source → List ℕ
film_page w events window sources =
    (ABOVE.now ++ still_rows w.program sources) ++ (shots_from w window.from window.steps events ++ BELOW.now)

-- the events that are made of a run's: those that are not shown, and those that are
abbrev pub film_events : Window → List Event → List Event
film_events window events = take (window.from + window.steps) events
