-- What is written of the events that are due, one event more.
use Rattle.std.proofs.Common.{◌≡◌, ℕ, suc, ◌+◌, ◌-◌, ◌<◌, List, [], ◌∷◌, ◌++◌, take, drop, sym, ap, ◌∙◌, append_assoc, arith}
use Rattle.std.specs.Prelude.{codes}
use Rattle.std.proofs.lemmas.List.{drop_all, take_all}
use Rattle.jm_world.specs.World.{World}
use Rattle.jm_world.specs.Run.{after, run_from}
use Rattle.jm_world.specs.declared.event.Event.{Event}
use Rattle.jm_page.specs.Data.{row_text}
use Rattle.jm_page.specs.Filming.{all_told}
use Rattle.jm_page.specs.declared.row.Row.TheVariants.{End}
use Rattle.jm_film.specs.Runs.{FilmingView, moments_from, event_written, filming_behind}
use Rattle.jm_film.specs.Shots.{end_row, shots}

some_left : (steps i : ℕ) → i < steps → steps - i ≡ suc (steps - (i + 1))
some_left steps i more = omega arith

first_shot : (k : ℕ) (w : World) (f : FilmingView) (e : Event) (es : List Event)
    → shots (suc k) w f (e ∷ es) ≡ event_written w f e ++ shots k (after w e).world (filming_behind w f e) es
first_shot k w f e es =
    append_assoc (event_written w f e) (all_told (filming_behind w f e).film (moments_from (after w e).world (filming_behind w f e).waiting (take k es))) (end_row (drop k es))

-- an event is due
pub shot : (steps i : ℕ) (w : World) (f : FilmingView) (due rest : List Event) (e : Event) → i < steps → due ≡ e ∷ rest
    → shots (steps - i) w f due ≡ event_written w f e ++ shots (steps - (i + 1)) (after w e).world (filming_behind w f e) rest
shot steps i w f due rest e more is =
    ap (λ k. shots k w f due) (some_left steps i more)
    ∙ ap (shots (suc (steps - (i + 1))) w f) is
    ∙ first_shot (steps - (i + 1)) w f e rest

pub made : (steps i : ℕ) (w : World) (due rest : List Event) (e : Event) → i < steps → due ≡ e ∷ rest
    → run_from w (take (steps - i) due) ≡ run_from (after w e).world (take (steps - (i + 1)) rest)
made steps i w due rest e more is =
    ap (λ k. run_from w (take k due)) (some_left steps i more) ∙ ap (λ es. run_from w (take (suc (steps - (i + 1))) es)) is

-- none is due
pub no_shot : (k : ℕ) (w : World) (f : FilmingView) (due : List Event) → due ≡ [] → shots k w f due ≡ row_text End (codes "end")
no_shot k w f due none =
    ap (shots k w f) none
    ∙ ap (λ es. all_told f.film (moments_from w f.waiting es) ++ end_row (drop k [])) (take_all k [] (omega arith))
    ∙ ap end_row (drop_all k [] (omega arith))

pub none_made : (k : ℕ) (w : World) (due : List Event) → due ≡ [] → run_from w (take k due) ≡ w
none_made k w due none = ap (λ es. run_from w (take k es)) none ∙ ap (run_from w) (take_all k [] (omega arith))

-- no more are shown
pub no_more : (steps i : ℕ) (w : World) (f : FilmingView) (due : List Event) → steps - i ≡ 0 → shots (steps - i) w f due ≡ end_row due
no_more steps i w f due all = ap (λ k. shots k w f due) all

pub all_made : (steps i : ℕ) (w : World) (due : List Event) → steps - i ≡ 0 → run_from w (take (steps - i) due) ≡ w
all_made steps i w due all = ap (λ k. run_from w (take k due)) all

-- ---- what is written piece by piece

-- the film behind an event is the one from which the next is told
pub one_more_shot : (steps i : ℕ) (w : World) (f g : FilmingView) (due rest : List Event) (e : Event) (done total : List ℕ) → i < steps → due ≡ e ∷ rest → g ≡ filming_behind w f e
    → total ≡ done ++ shots (steps - i) w f due → total ≡ (done ++ event_written w f e) ++ shots (steps - (i + 1)) (after w e).world g rest
one_more_shot steps i w f g due rest e done total more is behind so_far =
    so_far
    ∙ ap (λ t. done ++ t) (shot steps i w f due rest e more is)
    ∙ sym (append_assoc done (event_written w f e) (shots (steps - (i + 1)) (after w e).world (filming_behind w f e) rest))
    ∙ ap (λ h. (done ++ event_written w f e) ++ shots (steps - (i + 1)) (after w e).world h rest) (sym behind)

-- none was shown yet
pub none_shown : (steps : ℕ) (w : World) (f : FilmingView) (due : List Event) → shots steps w f due ≡ [] ++ shots (steps - 0) w f due
none_shown steps w f due =
    let same : steps ≡ steps - 0 = omega arith in
    ap (λ k. shots k w f due) same

pub none_was_made : (steps : ℕ) (w : World) (due : List Event) → run_from w (take steps due) ≡ run_from w (take (steps - 0) due)
none_was_made steps w due =
    let same : steps ≡ steps - 0 = omega arith in
    ap (λ k. run_from w (take k due)) same

-- with what stands below
pub last_below : (all done row below : List ℕ) → all ≡ done ++ row → all ++ below ≡ done ++ (row ++ below)
last_below all done row below is = ap (λ t. t ++ below) is ∙ append_assoc done row below

pub more_below : (all done text rest below : List ℕ) → all ≡ done ++ (text ++ rest) → all ++ below ≡ done ++ (text ++ (rest ++ below))
more_below all done text rest below is =
    ap (λ t. t ++ below) is ∙ append_assoc done (text ++ rest) below ∙ ap (λ t. done ++ t) (append_assoc text rest below)

-- where the next event is not written whole
pub fault_total : (steps i : ℕ) (w : World) (f : FilmingView) (due rest : List Event) (e : Event) (all done below : List ℕ) → i < steps → due ≡ e ∷ rest → all ≡ done ++ shots (steps - i) w f due
    → all ++ below ≡ done ++ (event_written w f e ++ (shots (steps - (i + 1)) (after w e).world (filming_behind w f e) rest ++ below))
fault_total steps i w f due rest e all done below more is so_far =
    more_below all done (event_written w f e) (shots (steps - (i + 1)) (after w e).world (filming_behind w f e) rest) below (so_far ∙ ap (λ t. done ++ t) (shot steps i w f due rest e more is))
