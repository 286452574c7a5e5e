-- One event more of a film.
use Rattle.std.proofs.Common.{◌≡◌, ℕ, ◌+◌, ◌≤◌, List, [], ◌∷◌, ◌++◌, length, drop, refl, sym, ap, ◌∙◌, append_assoc, append-nil}
use Rattle.std.proofs.lemmas.List.{drop_all}
use Rattle.jm_world.specs.World.{World}
use Rattle.jm_world.specs.Run.{after, run_from}
use Rattle.jm_world.specs.declared.event.Event.{Event}
use Rattle.jm_page.specs.Filming.{all_told}
use Rattle.jm_film.specs.Runs.{FilmingView, moments_from, event_written, filming_behind}

-- what is written of the events that are left
abbrev pub left_told : World → FilmingView → List Event → List ℕ
left_told w f es = all_told f.film (moments_from w f.waiting es)

told_first : (w : World) (f : FilmingView) (e : Event) (es : List Event)
    → left_told w f (e ∷ es) ≡ event_written w f e ++ left_told (after w e).world (filming_behind w f e) es
told_first w f e es = refl

pub one_more_told : (w : World) (f g : FilmingView) (es : List Event) (i : ℕ) (e : Event) (before more total : List ℕ) → drop i es ≡ e ∷ drop (i + 1) es
    → more ≡ before ++ event_written w f e → g ≡ filming_behind w f e → before ++ left_told w f (drop i es) ≡ total
    → more ++ left_told (after w e).world g (drop (i + 1) es) ≡ total
one_more_told w f g es i e before more total is grown behind so_far =
    let rest : List ℕ = left_told (after w e).world (filming_behind w f e) (drop (i + 1) es) in
    ap (λ h. more ++ left_told (after w e).world h (drop (i + 1) es)) behind
    ∙ ap (λ a. a ++ rest) grown
    ∙ append_assoc before (event_written w f e) rest
    ∙ ap (λ ys. before ++ left_told w f ys) (sym is)
    ∙ so_far

pub one_more_made : (w end : World) (es : List Event) (i : ℕ) (e : Event) → drop i es ≡ e ∷ drop (i + 1) es → run_from w (drop i es) ≡ end
    → run_from (after w e).world (drop (i + 1) es) ≡ end
one_more_made w end es i e is so_far = ap (run_from w) (sym is) ∙ so_far

pub all_are_told : (w : World) (f : FilmingView) (es : List Event) (i : ℕ) (before total : List ℕ) → length es ≤ i → before ++ left_told w f (drop i es) ≡ total → before ≡ total
all_are_told w f es i before total past so_far =
    let none : drop i es ≡ [] = drop_all i es past in
    sym (append-nil before) ∙ rw none at so_far

pub all_are_made : (w end : World) (es : List Event) (i : ℕ) → length es ≤ i → run_from w (drop i es) ≡ end → w ≡ end
all_are_made w end es i past so_far = sym (ap (run_from w) (drop_all i es past)) ∙ so_far
