-- What all copiers hold after a round are their wins.
use Rattle.std.specs.Prelude.{◌≡◌, ◌⊎◌, ℕ, List, [], ◌∷◌, ◌++◌, Bool, true, length}
use Rattle.jm_forward.specs.declared.rule.Hand.{Hand}
use Rattle.jm_par_copy.specs.Working.{WinsMore, held_by}
use Rattle.jm_par_copy.specs.Together.{of_share}

-- a copier's round: its share of places, and its hand before and after
pub record CopierRound : Type 0 where
  pub share : ℕ → Bool
  pub before : Hand
  pub after : Hand

abbrev pub wins_before : List CopierRound → List (ℕ × ℕ)
wins_before [] = []
wins_before (t ∷ ts) = t.before.wins ++ wins_before ts

abbrev pub wins_after : List CopierRound → List (ℕ × ℕ)
wins_after [] = []
wins_after (t ∷ ts) = t.after.wins ++ wins_after ts

-- what they hold afterwards, of so many pairs that were won before
abbrev pub held_after : List (ℕ × ℕ) → List CopierRound → List (ℕ × ℕ)
held_after wins [] = []
held_after wins (t ∷ ts) = held_by (of_share t.share wins) (length t.before.wins) t.after ++ held_after wins ts

abbrev pub AllAdd : List CopierRound → Type 0
AllAdd [] = Unit {0}
AllAdd (t ∷ ts) = WinsMore t.before t.after × AllAdd ts

-- a place is in some copier's share
abbrev pub IsShared : List CopierRound → ℕ → Type 0
IsShared [] n = ⊥
IsShared (t ∷ ts) n = (t.share n ≡ true) ⊎ IsShared ts n
