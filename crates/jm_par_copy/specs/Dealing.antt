-- The blocks of all copiers are dealt out anew.
use Rattle.std.specs.Prelude.{◌≡◌, ℕ, ◌+◌, List, [], ◌∷◌, ◌++◌, if◌then◌else◌}
use Rattle.std.specs.List.{Contains}
use Rattle.jm_blocks.specs.Stores.{Blocks}
use Rattle.jm_forward.specs.Hands.{TableView}
use Rattle.jm_par_copy.specs.Copiers.{AreCopying, KeepPlaced, all_pieces}
use Rattle.jm_par_copy.specs.Pieces.{is_in}
use Rattle.jm_par_copy.specs.declared.piece.Piece.{Piece}
use Rattle.jm_par_copy.specs.declared.copier.Copier.{Copier}

-- how many of the blocks a place is in
abbrev pub in_this : Piece → ℕ → ℕ
in_this x n = if is_in x n then 1 else 0

abbrev pub cover : List Piece → ℕ → ℕ
cover [] n = 0
cover (x ∷ xs) n = in_this x n + cover xs n

-- the same blocks in another order: each place is in as many, and each block is among the others
pub record IsReordered (xs ys : List Piece) : Type 0 where
  pub covers : (n : ℕ) → cover ys n ≡ cover xs n
  pub there : (x : Piece) → Contains xs x → Contains ys x
  pub back : (x : Piece) → Contains ys x → Contains xs x

-- the copier with other given blocks
pub record IsSameCopier (c d : Copier) : Type 0 where
  pub number : d.own.number ≡ c.own.number
  pub seat : d.own.seat ≡ c.own.seat
  pub to : d.own.to ≡ c.own.to
  pub marks : d.marks ≡ c.marks
  pub pointing : d.pointing.items ≡ c.pointing.items
  pub roots : d.roots.items ≡ c.roots.items
  pub rooted : d.rooted ≡ c.rooted

abbrev pub AreSameCopiers : List Copier → List Copier → Type 0
AreSameCopiers [] [] = Unit {0}
AreSameCopiers [] (d ∷ ds) = ⊥
AreSameCopiers (c ∷ cs) [] = ⊥
AreSameCopiers (c ∷ cs) (d ∷ ds) = IsSameCopier c d × AreSameCopiers cs ds

-- the copiers have the same blocks together with those set aside, whoever has which
pub record AreDealt (cs : List Copier) (aside : List Piece) (ds : List Copier) (rest : List Piece) : Type 0 where
  pub same : AreSameCopiers cs ds
  pub pieces : IsReordered (all_pieces cs aside) (all_pieces ds rest)

-- what holds between rounds holds then too
abbrev pub DealKeepsAll : Type 0
DealKeepsAll = (stores : List Blocks) (roots : List ℕ) (words : TableView) (cs ds : List Copier) (aside rest : List Piece)
    → AreCopying stores roots words cs aside → AreDealt cs aside ds rest → AreCopying stores roots words ds rest

abbrev pub DealKeepsPlaced : Type 0
DealKeepsPlaced = (cs ds : List Copier) (aside rest : List Piece) → AreDealt cs aside ds rest → KeepPlaced cs ds aside rest

-- the given blocks of a copier are put at the end of a list
pub record IsTaken (c d : Copier) (old new : List Piece) : Type 0 where
  pub same : IsSameCopier c d
  pub none : d.given.items ≡ []
  pub all : new ≡ old ++ c.given.items

-- what the copiers hold less, the list has more: with whatever else is set aside the blocks are the same
abbrev pub AreGathered : List Copier → List Copier → List Piece → List Piece → Type 0
AreGathered cs ds old new = (aside : List Piece) → AreDealt cs (old ++ aside) ds (new ++ aside)

-- a copier is given one block more
pub record IsGivenOne (c d : Copier) (x : Piece) : Type 0 where
  pub same : IsSameCopier c d
  pub items : d.given.items ≡ c.given.items ++ x ∷ []
