-- A round of copiers.
use Rattle.std.specs.Prelude.{◌≡◌, ℕ, ◌<◌, ◌≤◌, List, [], ◌∷◌, Some, true, false, length, slice_get}
use Rattle.jm_blocks.specs.Stores.{Blocks}
use Rattle.jm_forward.specs.Hands.{TableView}
use Rattle.jm_copy.specs.Marks.{AllPassed, AreMarks}
use Rattle.jm_par_copy.specs.Claiming.{CanClaim, KeepsClaiming, LearnsMore}
use Rattle.jm_par_copy.specs.Roots.{IsRooted, RootsStand}
use Rattle.jm_par_copy.specs.Holding.{AreGiven, AreSamePieces, IsHolding, KeepsHolding}
use Rattle.jm_par_copy.specs.Notes.{IsNoting}
use Rattle.jm_par_copy.specs.declared.piece.Piece.{Piece}
use Rattle.jm_par_copy.specs.declared.copier.Copier.{Copier}

-- it has a seat of the table, lanes of its own, and something that it knows and holds
pub record IsReady (stores : List Blocks) (roots : List ℕ) (words : TableView) (c : Copier) : Type 0 where
  pub claims : CanClaim stores words c.own
  pub marks : AreMarks c.own.to c.marks
  pub given : AreGiven c.own.seat.hand c.own.to c.given.items
  pub number : (c.own.number < words.copiers) × (words.copiers ≤ 16)
  pub rooted : RootsStand stores roots c
  pub holding : (base : List (ℕ × ℕ)) × (held : List (ℕ × ℕ)) × (k : ℕ) × IsHolding stores roots base held k c.own.seat.hand c.own.to c.marks c.given.items

-- whatever it knew and held, the invariant goes over; a copier to whom a growth was refused keeps its
-- stores' lanes and what was there before
pub record IsKept (stores : List Blocks) (roots : List ℕ) (c d : Copier) : Type 0 where
  pub holding : KeepsHolding stores roots c.own.seat.hand d.own.seat.hand c.own.to d.own.to c.marks d.marks c.given.items d.given.items
  pub given : AreGiven d.own.seat.hand d.own.to d.given.items
  pub same : AreSamePieces c.given.items d.given.items
  pub marks : AreMarks d.own.to d.marks
  pub ended : d.ended ≡ true → AllPassed d.own.to d.marks × ((i : ℕ) (x : Piece) → slice_get d.given.items i ≡ Some x → x.mark ≡ length x.block)
  pub learns : LearnsMore c.own.seat.hand d.own.seat.hand
  pub noting : IsNoting c → IsNoting d

-- the scan of a round
pub record IsScan (stores : List Blocks) (roots : List ℕ) (c d : Copier) : Type 0 where
  pub on : KeepsClaiming c.own d.own
  pub places : d.roots.items ≡ c.roots.items
  pub rooted : d.rooted ≡ c.rooted
  pub kept : d.refused ≡ false → IsKept stores roots c d

-- after it the copier has the new places of all its roots
pub record IsRound (stores : List Blocks) (roots : List ℕ) (c d : Copier) : Type 0 where
  pub on : KeepsClaiming c.own d.own
  pub rooted : d.refused ≡ false → (d.rooted ≡ true) × IsRooted stores roots d
  pub kept : d.refused ≡ false → IsKept stores roots c d

abbrev pub AreReady : List Blocks → List ℕ → TableView → List Copier → Type 0
AreReady stores roots words [] = Unit {0}
AreReady stores roots words (c ∷ cs) = IsReady stores roots words c × AreReady stores roots words cs

abbrev pub AreRound : List Blocks → List ℕ → List Copier → List Copier → Type 0
AreRound stores roots [] [] = Unit {0}
AreRound stores roots [] (d ∷ ds) = ⊥
AreRound stores roots (c ∷ cs) [] = ⊥
AreRound stores roots (c ∷ cs) (d ∷ ds) = IsRound stores roots c d × AreRound stores roots cs ds
