-- Events that are made and not shown, and those that are left.
use Rattle.std.proofs.Common.{◌≡◌, ℕ, zero, suc, ◌+◌, ◌≤◌, ◌<◌, List, [], ◌∷◌, ◌++◌, length, take, drop, refl, sym, ap, subst, ◌∙◌, append_assoc, append-nil, arith, add-one, inl, inr, ◌⊎◌}
use Rattle.std.proofs.Math.Seq.{drop-cons}
use Rattle.std.proofs.lemmas.Bool.{cases_lt}
use Rattle.std.proofs.lemmas.List.{drop_all, drop_at, take_all, take_at}
use Rattle.std.specs.Prelude.{slice_index_or}
use Rattle.std.specs.Fmt.{decimal}
use Rattle.jm_world.specs.World.{World}
use Rattle.jm_world.specs.Run.{after, run_from}
use Rattle.jm_world.specs.declared.event.Event.{Event}
use Rattle.jm_world.proofs.RunsOn.{run_append}
use Rattle.jm_page.specs.Data.{view_text}
use Rattle.jm_film.specs.Shown.{view}
use Rattle.jm_film.specs.Runs.{begun, waits_behind}
use Rattle.jm_film.specs.Shots.{Reached, waits_from, shots, shots_behind, shots_from}

pub next_at : {X : Type 0} (xs : List X) (i : ℕ) (d : X) → i < length xs → drop i xs ≡ slice_index_or xs i d ∷ drop (i + 1) xs
next_at xs i d within = drop-cons xs i d within ∙ rw add-one refl

waits_behind_all : (w : World) (waiting : List ℕ) (es : List Event) (e : Event) → waits_from w waiting (es ++ e ∷ []) ≡ waits_behind (run_from w es) (waits_from w waiting es) e
waits_behind_all w waiting [] e = refl
waits_behind_all w waiting (f ∷ es) e = waits_behind_all (after w f).world (waits_behind w waiting f) es e

one_longer : (es : List Event) (e : Event) → length (es ++ e ∷ []) ≡ length es + 1
one_longer [] e = refl
one_longer (f ∷ es) e =
    let below = one_longer es e in
    let more : suc (length (es ++ e ∷ [])) ≡ suc (length es) + 1 = omega arith in more

-- where one stands behind some of the events
pub record SoFar (first : World) (events : List Event) (now : World) (left : List Event) (count : ℕ) (waiting : List ℕ) : Type 0 where
  pub made : List Event
  pub whole : events ≡ made ++ left
  pub count_is : count ≡ length made
  pub now_is : now ≡ run_from first made
  pub waits : waiting ≡ waits_from first [] made

pub at_first : (w : World) (es : List Event) (waiting : List ℕ) → waiting ≡ [] → SoFar w es w es 0 waiting
at_first w es waiting none = record { made = []; whole = refl; count_is = refl; now_is = refl; waits = none }

pub one_more : (w now : World) (es left rest : List Event) (e : Event) (count : ℕ) (waiting more : List ℕ) → left ≡ e ∷ rest → more ≡ waits_behind now waiting e
    → SoFar w es now left count waiting → SoFar w es (after now e).world rest (count + 1) more
one_more w now es left rest e count waiting more is wait so_far = record {
  made = so_far.made ++ e ∷ [];
  whole = so_far.whole ∙ ap (λ ls. so_far.made ++ ls) is ∙ sym (append_assoc so_far.made (e ∷ []) rest);
  count_is = ap (λ n. n + 1) so_far.count_is ∙ sym (one_longer so_far.made e);
  now_is = ap (λ v. (after v e).world) so_far.now_is ∙ sym (run_append w so_far.made (e ∷ []));
  waits = wait ∙ ap (λ v. waits_behind v waiting e) so_far.now_is ∙ ap (λ ws. waits_behind (run_from w so_far.made) ws e) so_far.waits ∙ sym (waits_behind_all w [] so_far.made e);
}

-- the same place, counted otherwise, or with what is left otherwise
pub left_is : (w now : World) (es left other : List Event) (count : ℕ) (waiting : List ℕ) → left ≡ other → SoFar w es now left count waiting → SoFar w es now other count waiting
left_is w now es left other count waiting is so_far = subst (λ ls. SoFar w es now ls count waiting) is so_far

pub count_is : (w now : World) (es left : List Event) (count other : ℕ) (waiting : List ℕ) → count ≡ other → SoFar w es now left count waiting → SoFar w es now left other waiting
count_is w now es left count other waiting is so_far = subst (λ n. SoFar w es now left n waiting) is so_far

pub reached : (w now : World) (es left : List Event) (from count : ℕ) (waiting : List ℕ) → count ≤ from → (count < from → left ≡ [])
    → SoFar w es now left count waiting → Reached w es from now left count waiting
reached w now es left from count waiting few all so_far = record {
  made = so_far.made;
  whole = so_far.whole;
  count_is = so_far.count_is;
  few = few;
  all = all;
  now_is = so_far.now_is;
  waits = so_far.waits;
}

-- as many as both
take_both : (m n : ℕ) (xs : List Event) → take m xs ++ take n (drop m xs) ≡ take (m + n) xs
take_both zero n xs =
    let same : n ≡ 0 + n = omega arith in
    ap (λ k. take k xs) same
take_both (suc m) n [] = take_all n [] (omega arith) ∙ sym (take_all (suc m + n) [] (omega arith))
take_both (suc m) n (x ∷ xs) =
    let same : suc (m + n) ≡ suc m + n = omega arith in
    ap (λ ys. x ∷ ys) (take_both m n xs) ∙ ap (λ k. take k (x ∷ xs)) same

-- ---- so the events that are made are the first ones

module _ (w : World) (es : List Event) (from : ℕ) (now : World) (left : List Event) (count : ℕ) (waiting : List ℕ) (it : Reached w es from now left count waiting) where
  made : List Event
  made = it.made

  short : count < from → left ≡ []
  short = it.all

  pub are_first : take from es ≡ it.made
  are_first = by (cases_lt count from)
    where
      by : (count < from) ⊎ (from ≤ count) → take from es ≡ it.made
      by (inl less) =
          let none : es ≡ it.made = it.whole ∙ ap (λ ls. it.made ++ ls) (it.all less) ∙ append-nil it.made in
          let all : length it.made ≤ from = subst (λ n. n ≤ from) it.count_is it.few in
          ap (take from) none ∙ take_all from it.made all
      by (inr more) =
          let few = it.few in
          let count_is = it.count_is in
          let same : length it.made ≡ from = omega arith in
          ap (take from) it.whole ∙ take_at it.made left from same

  pub are_left : drop from es ≡ left
  are_left = by (cases_lt count from)
    where
      by : (count < from) ⊎ (from ≤ count) → drop from es ≡ left
      by (inl less) =
          let none : es ≡ it.made = it.whole ∙ ap (λ ls. it.made ++ ls) (it.all less) ∙ append-nil it.made in
          let all : length it.made ≤ from = subst (λ n. n ≤ from) it.count_is it.few in
          ap (drop from) none ∙ drop_all from it.made all ∙ sym (it.all less)
      by (inr more) =
          let few = it.few in
          let count_is = it.count_is in
          let same : length it.made ≡ from = omega arith in
          ap (drop from) it.whole ∙ drop_at it.made left from same

  -- the shots from there are those of the film
  pub shots_are : (steps : ℕ) → shots_behind count now waiting steps left ≡ shots_from w from steps es
  shots_are steps =
      let first = are_first in
      ap (λ n. shots_behind n now waiting steps left) (it.count_is ∙ ap length (sym first))
      ∙ ap (λ v. shots_behind (length (take from es)) v waiting steps left) (it.now_is ∙ ap (run_from w) (sym first))
      ∙ ap (λ ws. shots_behind (length (take from es)) (run_from w (take from es)) ws steps left) (it.waits ∙ ap (waits_from w []) (sym first))
      ∙ ap (λ ls. shots_behind (length (take from es)) (run_from w (take from es)) (waits_from w [] (take from es)) steps ls) (sym are_left)

  -- and the world behind them is that of as many events
  pub world_is : (steps : ℕ) → run_from now (take steps left) ≡ run_from w (take (from + steps) es)
  world_is steps =
      ap (λ v. run_from v (take steps left)) (it.now_is ∙ ap (run_from w) (sym are_first))
      ∙ ap (λ ls. run_from (run_from w (take from es)) (take steps ls)) (sym are_left)
      ∙ sym (run_append w (take from es) (take steps (drop from es)))
      ∙ ap (run_from w) (take_both from steps es)

  -- the view behind them stands first
  pub total_is : (steps : ℕ) (below : List ℕ) → shots_from w from steps es ++ below ≡ view_text (decimal count) (view now waiting) ++ (shots steps now (begun now waiting) left ++ below)
  total_is steps below =
      ap (λ t. t ++ below) (sym (shots_are steps)) ∙ append_assoc (view_text (decimal count) (view now waiting)) (shots steps now (begun now waiting) left) below
