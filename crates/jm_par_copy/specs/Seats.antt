-- All copiers take their seats.
use Rattle.std.specs.Prelude.{◌≡◌, ℕ, ◌+◌, ◌≤◌, List, [], ◌∷◌, None, false, map}
use Rattle.jm_blocks.specs.Stores.{Blocks}
use Rattle.jm_forward.specs.Hands.{SeatView, TableView, hands_from, seat_of}
use Rattle.jm_copy.specs.Numbers.{object_count}
use Rattle.jm_copy.specs.declared.copies.Copies.{Copies}
use Rattle.jm_par_copy.specs.Begun.{IsBegun}
use Rattle.jm_par_copy.specs.Copiers.{AreDifferent, AreFreshCopiers, ArePlaced}
use Rattle.jm_par_copy.specs.Fresh.{IsFreshOwn}
use Rattle.jm_par_copy.specs.Strides.{OwnsEnds}
use Rattle.jm_par_copy.specs.Working.{WinsAreOwn}
use Rattle.jm_par_copy.specs.declared.copier.Copier.{Copier}

-- the two stores of the copier of a number, of so many: there is no new object, each ends in a block of its own, and the
-- old one where the copier begins
pub record IsOwnStores (number copiers : ℕ) (before : Blocks) (to : Copies) : Type 0 where
  pub fresh : IsFreshOwn to
  pub ends : OwnsEnds number copiers to
  pub young_lane : to.young.lane ≡ 1
  pub tenured_lane : to.tenured.lane ≡ before.lane
  pub begun : IsBegun number copiers before to.tenured

-- those of all copiers from a number on
abbrev pub AreOwnStores : ℕ → ℕ → Blocks → List Copies → Type 0
AreOwnStores number copiers before [] = Unit {0}
AreOwnStores number copiers before (t ∷ ts) = IsOwnStores number copiers before t × AreOwnStores (number + 1) copiers before ts

-- the copier of a number, with this seat and these stores, has done nothing yet
pub record IsSeatOf (number : ℕ) (seat : SeatView) (to : Copies) (c : Copier) : Type 0 where
  pub number_is : c.own.number ≡ number
  pub seat_is : c.own.seat ≡ seat
  pub to_is : c.own.to ≡ to
  pub young : c.marks.young ≡ None
  pub tenured : c.marks.tenured ≡ to.kept
  pub pointing : c.pointing.items ≡ []
  pub given : c.given.items ≡ []
  pub roots : c.roots.items ≡ []
  pub rooted : c.rooted ≡ false

abbrev pub AreSeatsOf : ℕ → List SeatView → List Copies → List Copier → Type 0
AreSeatsOf number [] [] [] = Unit {0}
AreSeatsOf number [] [] (c ∷ cs) = ⊥
AreSeatsOf number [] (t ∷ ts) cs = ⊥
AreSeatsOf number (s ∷ ss) [] cs = ⊥
AreSeatsOf number (s ∷ ss) (t ∷ ts) [] = ⊥
AreSeatsOf number (s ∷ ss) (t ∷ ts) (c ∷ cs) = IsSeatOf number s t c × AreSeatsOf (number + 1) ss ts cs

-- the copiers stand in the order of their numbers
abbrev pub AreNumbered : TableView → ℕ → List Copier → Type 0
AreNumbered words number [] = Unit {0}
AreNumbered words number (c ∷ cs) =
    (c.own.number ≡ number) × (c.own.seat.table ≡ words.table) × (c.own.seat.hand.copier ≡ number) × (c.own.seat.hand.copiers ≡ words.copiers) × AreNumbered words (number + 1) cs

-- with all seats of a fresh table, and stores of their own, all copiers are before their first claim, and each goes on
-- where it begins in the old store
abbrev pub SeatedAreFresh : Type 0
SeatedAreFresh = (stores : List Blocks) (roots : List ℕ) (words : TableView) (before : Blocks) (ts : List Copies) (cs : List Copier)
    → words.objects ≡ object_count stores → words.copiers ≤ 16
    → AreOwnStores 0 words.copiers before ts
    → AreSeatsOf 0 (map (seat_of words.table) (hands_from words.copiers 0 words.copiers)) ts cs
    → AreFreshCopiers stores roots words cs × AreDifferent cs × AreNumbered words 0 cs × ArePlaced 1 before cs []

-- seats of a table in the order of their numbers, from one on
abbrev pub AreInOrder : TableView → ℕ → List SeatView → Type 0
AreInOrder words number [] = Unit {0}
AreInOrder words number (s ∷ ss) = (s.table ≡ words.table) × (s.hand.copier ≡ number) × (s.hand.copiers ≡ words.copiers) × AreInOrder words (number + 1) ss

-- each place that a seat has won lies in a block of its copier's own
abbrev pub AllOwnWins : List SeatView → Type 0
AllOwnWins [] = Unit {0}
AllOwnWins (s ∷ ss) = WinsAreOwn s.hand.copiers s.hand.copier s.hand.wins × AllOwnWins ss
