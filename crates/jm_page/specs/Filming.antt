-- A film: what is written event by event.
use Rattle.std.specs.Prelude.{ℕ, List, [], ◌∷◌, ◌++◌, drop, length}
use Rattle.jm_page.specs.Sections.{Part, Change, apply, delta}
use Rattle.jm_page.specs.Data.{event_text}

-- what a reader of the data is told of an event: who made it, a blank and the kind of its reply; the output that it added;
-- and what changed
pub record Told : Type 0 where
  pub line : List ℕ
  pub output : List ℕ
  pub change : Change

-- the view behind the last event, and how many bytes of the output were told
pub record FilmView : Type 0 where
  pub view : List Part
  pub printed : ℕ

-- an event and what is behind it: who made it, the kind of its reply, the whole output, and the view
pub record Moment : Type 0 where
  pub who : List ℕ
  pub kind : List ℕ
  pub output : List ℕ
  pub view : List Part

-- what is written of an event
abbrev pub told : FilmView → List ℕ → List ℕ → List ℕ → List Part → List ℕ
told f who kind output view = event_text who kind (drop f.printed output) (delta f.view view)

-- the film behind it
abbrev pub behind : Moment → FilmView
behind m = record { view = m.view; printed = length m.output }

-- what is written of a run
abbrev pub all_told : FilmView → List Moment → List ℕ
all_told f [] = []
all_told f (m ∷ ms) = told f m.who m.kind m.output m.view ++ all_told (behind m) ms

abbrev pub event_told : FilmView → Moment → Told
event_told f m = record { line = m.who ++ 32 ∷ m.kind; output = drop f.printed m.output; change = delta f.view m.view }

abbrev pub events_told : FilmView → List Moment → List Told
events_told f [] = []
events_told f (m ∷ ms) = event_told f m ∷ events_told (behind m) ms

-- the view behind a run, and what a reader of the data makes of the view that it began with
abbrev pub last_view : FilmView → List Moment → List Part
last_view f [] = f.view
last_view f (m ∷ ms) = last_view (behind m) ms

abbrev pub replayed : List Part → FilmView → List Moment → List Part
replayed seen f [] = seen
replayed seen f (m ∷ ms) = replayed (apply seen (delta f.view m.view)) (behind m) ms
