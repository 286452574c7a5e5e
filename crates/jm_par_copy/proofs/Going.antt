-- What goes over from round to round.
use Rattle.std.proofs.Common.{◌≡◌, ◌⊎◌, ◌∙◌, ℕ, List, [], ◌∷◌, Some, zero, suc, inl, inr, refl, ap, sym, subst}
use Rattle.std.specs.Prelude.{slice_get, slice_set}
use Rattle.jm_copy.specs.Condemned.{AreLanes}
use Rattle.jm_par_copy.specs.Spans.{IsScannedJointly}
use Rattle.jm_par_copy.proofs.Alone.{large_is_scanned}
use Rattle.jm_blocks.specs.Stores.{Blocks}
use Rattle.jm_forward.specs.Hands.{TableView}
use Rattle.jm_par_copy.specs.Copiers.{AreCopying, KeepPlaced, KeepSeats, KeepsCopying, NoneRefused}
use Rattle.jm_par_copy.specs.Round.{AreRound}
use Rattle.jm_par_copy.specs.declared.copier.Copier.{Copier}
use Rattle.jm_par_copy.specs.declared.piece.Piece.{Piece}
use Rattle.jm_par_copy.proofs.Copiers.{round_keeps}
use Rattle.jm_par_copy.proofs.Ends.{round_seats}
use Rattle.jm_par_copy.proofs.Placed.{placed_then, round_keeps_placed}
use Rattle.jm_par_copy.proofs.Redealing.{seats_then}

-- what is there is put there
set_here : (xs : List Piece) (k : ℕ) (x : Piece) → slice_get xs k ≡ Some x → slice_set xs k x ≡ xs
set_here [] k x e = refl
set_here (y ∷ xs) zero x e = let same : x ≡ y = cc in ap (λ z. z ∷ xs) same
set_here (y ∷ xs) (suc k) x e = ap (λ zs. y ∷ zs) (set_here xs k x e)

-- from the first copiers, with what was set aside before, they have come so far
pub record AreGoing (stores : List Blocks) (roots : List ℕ) (words : TableView) (first cs : List Copier) (before aside : List Piece) : Type 0 where
  pub copying : AreCopying stores roots words cs aside
  pub seats : KeepSeats first cs
  pub placed : KeepPlaced first cs before aside

module _ (stores : List Blocks) (roots : List ℕ) (words : TableView) (first cs ds : List Copier) (before aside : List Piece) (go : AreGoing stores roots words first cs before aside) where
  -- a round, refused or not
  pub seats_round : AreRound stores roots cs ds → KeepSeats first ds
  seats_round round = seats_then first cs ds go.seats (round_seats stores roots cs ds round)

  pub going_round : AreRound stores roots cs ds → NoneRefused ds → AreGoing stores roots words first ds before aside
  going_round round none = record {
    copying = round_keeps stores roots words cs ds aside go.copying round none;
    seats = seats_round round;
    placed = placed_then first cs ds before aside aside go.placed (round_keeps_placed stores roots words cs ds aside go.copying round none);
  }

  -- blocks are given back and dealt
  pub going_shared : (rest : List Piece) → KeepsCopying cs ds aside rest → KeepSeats cs ds → AreGoing stores roots words first ds before rest
  going_shared rest keeps seats =
      let now = keeps stores roots words go.copying in
      record { copying = now.0; seats = seats_then first cs ds go.seats seats; placed = placed_then first cs ds before aside rest go.placed now.1 }

  -- what is set aside is scanned
  pub going_by : (rest : List Piece) → AreCopying stores roots words ds rest → KeepPlaced cs ds aside rest → KeepSeats cs ds → AreGoing stores roots words first ds before rest
  going_by rest copying placed seats = record { copying = copying; seats = seats_then first cs ds go.seats seats; placed = placed_then first cs ds before aside rest go.placed placed }

  -- a round was made or not
  pub going_front : (ds ≡ cs) ⊎ (AreRound stores roots cs ds × NoneRefused ds) → AreGoing stores roots words first ds before aside
  going_front (inl e) = subst (λ xs. AreGoing stores roots words first xs before aside) (sym e) go
  going_front (inr h) = going_round h.0 h.1

-- a block that is set aside is scanned by all, or nothing has changed
pub jointly_keeps : (stores : List Blocks) (roots : List ℕ) (words : TableView) (cs ds : List Copier) (aside : List Piece) (k : ℕ) (x y : Piece) → AreLanes stores → AreCopying stores roots words cs aside → slice_get aside k ≡ Some x → IsScannedJointly stores roots cs ds x y → AreCopying stores roots words ds (slice_set aside k y) × KeepPlaced cs ds aside (slice_set aside k y)
jointly_keeps stores roots words cs ds aside k x y lanes c at (inl h) =
    let same : slice_set aside k y ≡ aside = ap (slice_set aside k) h.1 ∙ set_here aside k x at in
    subst (λ zs. AreCopying stores roots words ds zs × KeepPlaced cs ds aside zs) (sym same) (subst (λ zs. AreCopying stores roots words zs aside × KeepPlaced cs zs aside aside) (sym h.0) (c, λ young before p. p))
jointly_keeps stores roots words cs ds aside k x y lanes c at (inr h) =
    let f = h.2 in
    let round = round_keeps stores roots words cs ds aside c h.0 h.1 in
    let placed = round_keeps_placed stores roots words cs ds aside c h.0 h.1 in
    let put = large_is_scanned stores roots words ds aside k x y f.0 f.1 lanes round at f.2 f.3.some f.3 in
    (put.0, placed_then cs ds ds aside aside (slice_set aside k y) placed put.1)
