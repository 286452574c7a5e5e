-- The seats of copiers, before their first claim and after the last round.
use Rattle.std.proofs.Common.{◌≡◌, ◌≢◌, ◌⊎◌, ℕ, zero, suc, ◌+◌, ◌<◌, ◌≤◌, List, [], ◌∷◌, refl, sym, ap, ◌∙◌, subst, inl, inr, length, map, arith}
use Rattle.std.specs.List.{All}
use Rattle.std.proofs.lemmas.Bool.{cases_lt}
use Rattle.jm_blocks.specs.Stores.{Blocks}
use Rattle.jm_forward.specs.Hands.{SeatView, TableView, fresh, hands_from, seat_of}
use Rattle.jm_copy.specs.Numbers.{object_count}
use Rattle.jm_copy.specs.declared.copies.Copies.{Copies}
use Rattle.jm_par_copy.specs.Copiers.{AreCopying, ArePlaced, AreScannedPieces, AreSeated, KeepSeats}
use Rattle.jm_par_copy.specs.Ending.{seats_in}
use Rattle.jm_par_copy.specs.Seats.{AllOwnWins, AreInOrder, AreNumbered, AreOwnStores, AreSeatsOf}
use Rattle.jm_par_copy.specs.declared.piece.Piece.{Piece}
use Rattle.jm_par_copy.specs.declared.copier.Copier.{Copier}
use Rattle.jm_par_copy.proofs.Copiers.{fresh_are_copying}
use Rattle.jm_par_copy.proofs.Seats.{seated_are_fresh}

pub numbered_kept : (words : TableView) (number : ℕ) (cs ds : List Copier) → AreNumbered words number cs → KeepSeats cs ds → AreNumbered words number ds
numbered_kept words number [] [] n s = tt
numbered_kept words number [] (d ∷ ds) n s = absurd s
numbered_kept words number (c ∷ cs) [] n s = absurd s
numbered_kept words number (c ∷ cs) (d ∷ ds) n s = (s.0.number ∙ n.0, s.0.table ∙ n.1, s.0.copier ∙ n.2, s.0.copiers ∙ n.3, numbered_kept words (number + 1) cs ds n.4 s.1)

pub in_order : (words : TableView) (number : ℕ) (cs : List Copier) → AreNumbered words number cs → AreInOrder words number (seats_in cs)
in_order words number [] n = tt
in_order words number (c ∷ cs) n = (n.1, n.2, n.3, in_order words (number + 1) cs n.4)

pub own_wins : (stores : List Blocks) (words : TableView) (pieces : List Piece) (cs : List Copier) → AreSeated stores words pieces cs → AllOwnWins (seats_in cs)
own_wins stores words pieces [] s = tt
own_wins stores words pieces (c ∷ cs) s = (s.0.wins, own_wins stores words pieces cs s.1)

pub many_in : (cs : List Copier) → length (seats_in cs) ≡ length cs
many_in [] = refl
many_in (c ∷ cs) = ap suc (many_in cs)

pub same_many : (cs ds : List Copier) → seats_in ds ≡ seats_in cs → length ds ≡ length cs
same_many cs ds e = sym (many_in ds) ∙ ap length e ∙ many_in cs

-- the seats of a fresh table
pub fresh_in_order : (words : TableView) (number k : ℕ) → AreInOrder words number (map (seat_of words.table) (hands_from words.copiers number k))
fresh_in_order words number zero = tt
fresh_in_order words number (suc k) = (refl, refl, refl, fresh_in_order words (number + 1) k)

pub many_fresh : (words : TableView) (number k : ℕ) → length (map (seat_of words.table) (hands_from words.copiers number k)) ≡ k
many_fresh words number zero = refl
many_fresh words number (suc k) = ap suc (many_fresh words (number + 1) k)

pub nothing_scanned : AreScannedPieces []
nothing_scanned i x e = absurd cc

pub many_seated : (number : ℕ) (ss : List SeatView) (ts : List Copies) (cs : List Copier) → AreSeatsOf number ss ts cs → length cs ≡ length ss
many_seated number [] [] [] s = refl
many_seated number [] [] (c ∷ cs) s = absurd s
many_seated number [] (t ∷ ts) cs s = absurd s
many_seated number (x ∷ ss) [] cs s = absurd s
many_seated number (x ∷ ss) (t ∷ ts) [] s = absurd s
many_seated number (x ∷ ss) (t ∷ ts) (c ∷ cs) s = ap suc (many_seated (number + 1) ss ts cs s.1)

-- seats in order are seats of the table
pub order_tables : (words : TableView) (number : ℕ) (ss : List SeatView) → AreInOrder words number ss → All (λ (s : SeatView). s.table ≡ words.table) ss
order_tables words number [] n k d h = absurd (omega (arith, h))
order_tables words number (s ∷ ss) n zero d h = n.0
order_tables words number (s ∷ ss) n (suc k) d h = order_tables words (number + 1) ss n.3 k d (omega (arith, h))

-- all copiers with the seats of a fresh table, before their first claim
pub record IsCrew (stores : List Blocks) (roots : List ℕ) (words : TableView) (before : Blocks) (cs : List Copier) : Type 0 where
  pub copying : AreCopying stores roots words cs []
  pub numbered : AreNumbered words 0 cs
  pub placed : ArePlaced 1 before cs []
  pub many : length cs ≡ words.copiers

pub is_crew : (stores : List Blocks) (roots : List ℕ) (words : TableView) (before : Blocks) (count : ℕ) (taken : List SeatView) (ts : List Copies) (cs : List Copier) → words.objects ≡ object_count stores → words.copiers ≤ 16 → count ≡ words.copiers → AreOwnStores 0 count before ts → taken ≡ map (seat_of words.table) (hands_from words.copiers 0 words.copiers) → AreSeatsOf 0 taken ts cs → IsCrew stores roots words before cs
is_crew stores roots words before count taken ts cs objects few same own fresh seats =
    let at = subst (λ (ss : List SeatView). AreSeatsOf 0 ss ts cs) fresh seats in
    let all = seated_are_fresh stores roots words before ts cs objects few (subst (λ n. AreOwnStores 0 n before ts) same own) at in
    record {
      copying = fresh_are_copying stores roots words cs all.0 all.1;
      numbered = all.2;
      placed = all.3;
      many = many_seated 0 taken ts cs seats ∙ ap length fresh ∙ many_fresh words 0 words.copiers;
    }

-- the lane of an old store
pub old_lanes : (lane : ℕ) → 0 < lane → lane < 64 → lane ≢ 1 → (1 < lane) × (lane < 64)
old_lanes lane some few apart = (by (cases_lt 1 lane), few)
  where
    by : (1 < lane) ⊎ (lane ≤ 1) → 1 < lane
    by (inl h) = h
    by (inr h) = absurd (apart (omega (arith, some, h)))
