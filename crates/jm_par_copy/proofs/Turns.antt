-- What all copiers hold after a round are their wins.
use Rattle.std.proofs.Common.{◌≡◌, ◌⊎◌, ℕ, suc, zero, List, [], ◌∷◌, ◌++◌, true, refl, sym, ap, ◌∙◌, subst, inl, inr, length}
use Rattle.std.specs.Prelude.{drop}
use Rattle.std.specs.List.{Contains}
use Rattle.jm_par_copy.specs.Working.{held_by}
use Rattle.jm_par_copy.specs.Together.{of_share}
use Rattle.jm_par_copy.specs.Turns.{CopierRound, wins_before, wins_after, held_after, AllAdd, IsShared}
use Rattle.jm_par_copy.proofs.Listing.{Has, has_from, contains_from, has_left, has_right, has_both, of_share_from, of_share_has}

drop_front : (xs ys : List (ℕ × ℕ)) → drop (length xs) (xs ++ ys) ≡ ys
drop_front [] ys = refl
drop_front (x ∷ xs) ys = drop_front xs ys

dropped : (k : ℕ) (xs : List (ℕ × ℕ)) (w : ℕ × ℕ) → Has (drop k xs) w → Has xs w
dropped zero xs w h = h
dropped (suc k) [] w h = h
dropped (suc k) (x ∷ xs) w h = inr (dropped k xs w h)

-- what was won before is won
still : (ts : List CopierRound) → AllAdd ts → (w : ℕ × ℕ) → Has (wins_before ts) w → Has (wins_after ts) w
still [] a w h = h
still (t ∷ ts) a w h = by (still ts a.1 w) (has_both t.before.wins (wins_before ts) w h)
  where
    by : (Has (wins_before ts) w → Has (wins_after ts) w) → Has t.before.wins w ⊎ Has (wins_before ts) w → Has (t.after.wins ++ wins_after ts) w
    by rest (inl g) = has_left t.after.wins (wins_after ts) w (subst (λ ws. Has ws w) (sym a.0.added) (has_left t.before.wins a.0.more w g))
    by rest (inr g) = has_right t.after.wins (wins_after ts) w (rest g)

held_won : (wins : List (ℕ × ℕ)) (ts : List CopierRound) (w : ℕ × ℕ) → Has (held_after wins ts) w → Has wins w ⊎ Has (wins_after ts) w
held_won wins [] w h = inr h
held_won wins (t ∷ ts) w h = by (held_won wins ts w) (has_both (held_by (of_share t.share wins) (length t.before.wins) t.after) (held_after wins ts) w h)
  where
    one : Has (of_share t.share wins) w ⊎ Has (drop (length t.before.wins) t.after.wins) w → Has wins w ⊎ Has (t.after.wins ++ wins_after ts) w
    one (inl g) = inl (of_share_has t.share wins w g).0
    one (inr g) = inr (has_left t.after.wins (wins_after ts) w (dropped (length t.before.wins) t.after.wins w g))

    others : Has wins w ⊎ Has (wins_after ts) w → Has wins w ⊎ Has (t.after.wins ++ wins_after ts) w
    others (inl g) = inl g
    others (inr g) = inr (has_right t.after.wins (wins_after ts) w g)

    by : (Has (held_after wins ts) w → Has wins w ⊎ Has (wins_after ts) w) → Has (held_by (of_share t.share wins) (length t.before.wins) t.after) w ⊎ Has (held_after wins ts) w → Has wins w ⊎ Has (t.after.wins ++ wins_after ts) w
    by rest (inl g) = one (has_both (of_share t.share wins) (drop (length t.before.wins) t.after.wins) w g)
    by rest (inr g) = others (rest g)

-- what was won before lies in a share
shared : (wins : List (ℕ × ℕ)) (ts : List CopierRound) (w : ℕ × ℕ) → Has wins w → IsShared ts w.1 → Has (held_after wins ts) w
shared wins [] w h s = absurd s
shared wins (t ∷ ts) w h s = by (shared wins ts w h) s
  where
    by : (IsShared ts w.1 → Has (held_after wins ts) w) → (t.share w.1 ≡ true) ⊎ IsShared ts w.1 → Has (held_by (of_share t.share wins) (length t.before.wins) t.after ++ held_after wins ts) w
    by rest (inl e) = has_left (held_by (of_share t.share wins) (length t.before.wins) t.after) (held_after wins ts) w (has_left (of_share t.share wins) (drop (length t.before.wins) t.after.wins) w (of_share_from t.share wins w h e))
    by rest (inr e) = has_right (held_by (of_share t.share wins) (length t.before.wins) t.after) (held_after wins ts) w (rest e)

won_held : (wins : List (ℕ × ℕ)) (ts : List CopierRound) → AllAdd ts → (w : ℕ × ℕ) → Has (wins_after ts) w → Has (wins_before ts) w ⊎ Has (held_after wins ts) w
won_held wins [] a w h = inl h
won_held wins (t ∷ ts) a w h = by (won_held wins ts a.1 w) (has_both t.after.wins (wins_after ts) w h)
  where
    more : drop (length t.before.wins) t.after.wins ≡ a.0.more
    more = ap (drop (length t.before.wins)) a.0.added ∙ drop_front t.before.wins a.0.more

    one : Has t.before.wins w ⊎ Has a.0.more w → Has (t.before.wins ++ wins_before ts) w ⊎ Has (held_after wins (t ∷ ts)) w
    one (inl g) = inl (has_left t.before.wins (wins_before ts) w g)
    one (inr g) = inr (has_left (held_by (of_share t.share wins) (length t.before.wins) t.after) (held_after wins ts) w (has_right (of_share t.share wins) (drop (length t.before.wins) t.after.wins) w (subst (λ ws. Has ws w) (sym more) g)))

    others : Has (wins_before ts) w ⊎ Has (held_after wins ts) w → Has (t.before.wins ++ wins_before ts) w ⊎ Has (held_after wins (t ∷ ts)) w
    others (inl g) = inl (has_right t.before.wins (wins_before ts) w g)
    others (inr g) = inr (has_right (held_by (of_share t.share wins) (length t.before.wins) t.after) (held_after wins ts) w g)

    by : (Has (wins_after ts) w → Has (wins_before ts) w ⊎ Has (held_after wins ts) w) → Has t.after.wins w ⊎ Has (wins_after ts) w → Has (t.before.wins ++ wins_before ts) w ⊎ Has (held_after wins (t ∷ ts)) w
    by rest (inl g) = one (has_both t.before.wins a.0.more w (subst (λ ws. Has ws w) a.0.added g))
    by rest (inr g) = others (rest g)

-- of one pair: it need only lie in a share where it was won before
pub held_is_won : (ts : List CopierRound) → AllAdd ts → (w : ℕ × ℕ) → (Contains (wins_before ts) w → IsShared ts w.1) → (Contains (held_after (wins_before ts) ts) w → Contains (wins_after ts) w) × (Contains (wins_after ts) w → Contains (held_after (wins_before ts) ts) w)
held_is_won ts a w cover = (λ c. to (held_won wins ts w (has_from (held_after wins ts) w c)), λ c. from (won_held wins ts a w (has_from (wins_after ts) w c)))
  where
    wins : List (ℕ × ℕ)
    wins = wins_before ts

    to : Has (wins_before ts) w ⊎ Has (wins_after ts) w → Contains (wins_after ts) w
    to (inl g) = contains_from (wins_after ts) w (still ts a w g)
    to (inr g) = contains_from (wins_after ts) w g

    from : Has (wins_before ts) w ⊎ Has (held_after (wins_before ts) ts) w → Contains (held_after (wins_before ts) ts) w
    from (inl g) = contains_from (held_after (wins_before ts) ts) w (shared (wins_before ts) ts w g (cover (contains_from (wins_before ts) w g)))
    from (inr g) = contains_from (held_after (wins_before ts) ts) w g
