-- The end of a collection: what all copiers hold is put into one store of the young and one of the old.
use Rattle.std.specs.Prelude.{◌≡◌, ◌≢◌, ◌⊎◌, ℕ, List, [], ◌∷◌, length, Option, Some, None, slice_get}
use Rattle.jm_blocks.specs.Objects.{Object}
use Rattle.jm_blocks.specs.Stores.{Blocks, objects_in}
use Rattle.jm_forward.specs.Hands.{Agree, AreAll, SeatView, TableView, all_known, all_wins}
use Rattle.jm_copy.specs.Collected.{IsCollected, survivors}
use Rattle.jm_copy.specs.Condemned.{objects_at}
use Rattle.jm_copy.specs.Copies.{made_in}
use Rattle.jm_copy.specs.Copying.{AreForwarded}
use Rattle.jm_copy.specs.Image.{IsImage}
use Rattle.jm_par_copy.specs.Copiers.{AreCopying, AreEnded, ArePlaced, hands}
use Rattle.jm_par_copy.specs.Holding.{AreApartPieces, held_objects}
use Rattle.jm_par_copy.specs.Notes.{all_listed}
use Rattle.jm_par_copy.specs.Pieces.{IsPiece}
use Rattle.jm_par_copy.specs.Together.{moved_by_wins}
use Rattle.jm_par_copy.specs.Working.{Pairs, both}
use Rattle.jm_par_copy.specs.declared.piece.Piece.{Piece}
use Rattle.jm_par_copy.specs.declared.copier.Copier.{Copier}

-- the objects of a store of the young and of one of the old, together
abbrev pub stored : Blocks → Blocks → ℕ → Option Object
stored young old = made_in young old None

-- objects lie where two stores have none
abbrev pub IsBeside : (ℕ → Option Object) → Blocks → Blocks → Type 0
IsBeside f young old = (n : ℕ) (a : Object) → f n ≡ Some a → stored young old n ≡ None

-- and are put into them
pub record IsLoaded (f : ℕ → Option Object) (young old young_now old_now : Blocks) : Type 0 where
  pub young_lane : young_now.lane ≡ young.lane
  pub old_lane : old_now.lane ≡ old.lane
  pub all : (n : ℕ) → stored young_now old_now n ≡ both (stored young old) f n

-- blocks of two lanes, no two with a place in common
pub record AreLoads (young old : ℕ) (xs : List Piece) : Type 0 where
  pub pieces : (i : ℕ) (x : Piece) → slice_get xs i ≡ Some x → IsPiece x
  pub lanes : (i : ℕ) (x : Piece) → slice_get xs i ≡ Some x → (x.lane ≡ young) ⊎ (x.lane ≡ old)
  pub apart : AreApartPieces xs

-- all objects of a copier, what it keeps among them, and those of all copiers with the blocks that are set aside
abbrev pub stock : Copier → ℕ → Option Object
stock c = both (stored c.own.to.young c.own.to.tenured) (held_objects c.given.items)

abbrev pub stocks : List Copier → List Piece → ℕ → Option Object
stocks [] aside = held_objects aside
stocks (c ∷ cs) aside = both (stock c) (stocks cs aside)

-- what a copier has lies in two lanes, and no place is held twice
pub record IsLoad (young old : ℕ) (c : Copier) : Type 0 where
  pub young_lane : c.own.to.young.lane ≡ young
  pub old_lane : c.own.to.tenured.lane ≡ old
  pub given : AreLoads young old c.given.items
  pub once : (n : ℕ) (a : Object) → stored c.own.to.young c.own.to.tenured n ≡ Some a → held_objects c.given.items n ≡ None

-- and so of all copiers, with the blocks that are set aside
abbrev pub AllLoads : ℕ → ℕ → List Copier → List Piece → Type 0
AllLoads young old [] aside = AreLoads young old aside
AllLoads young old (c ∷ cs) aside =
    IsLoad young old c × ((n : ℕ) (a : Object) → stock c n ≡ Some a → stocks cs aside n ≡ None) × AllLoads young old cs aside

-- that holds between rounds
abbrev pub HeldIsLoads : Type 0
HeldIsLoads = (stores : List Blocks) (roots : List ℕ) (words : TableView) (cs : List Copier) (aside : List Piece) (young : ℕ) (before : Blocks)
    → AreCopying stores roots words cs aside → before.lane ≢ young → ArePlaced young before cs aside → AllLoads young before.lane cs aside

-- the seats of copiers, in order
abbrev pub seats_in : List Copier → List SeatView
seats_in [] = []
seats_in (c ∷ cs) = c.own.seat ∷ seats_in cs

-- what all have lies in two stores, and the old store has what it had and the second of these
pub record IsPutTogether (cs : List Copier) (aside : List Piece) (before young promoted tenured : Blocks) : Type 0 where
  pub young_lane : young.lane ≡ 1
  pub promoted_lane : promoted.lane ≡ before.lane
  pub tenured_lane : tenured.lane ≡ before.lane
  pub all : (n : ℕ) → stored young promoted n ≡ stocks cs aside n
  pub old : (n : ℕ) → objects_in tenured n ≡ both (objects_in before) (objects_in promoted) n

-- a collection, and the map of its image is the union of the wins
pub record IsCollectedBy (condemned : List Blocks) (before : Blocks) (roots : List ℕ) (wins : List (ℕ × ℕ)) (young tenured : Blocks) (remembered new_roots : List ℕ) : Type 0 where
  pub image : IsImage (objects_at condemned) roots (survivors young before tenured) new_roots (moved_by_wins condemned wins)
  pub collected : IsCollected condemned before roots young tenured remembered new_roots

-- where all have ended and have met, all roots are forwarded, and the copiers went on where they began in the old
-- store, it is collected
abbrev pub EndIsCollected : Type 0
EndIsCollected = (stores : List Blocks) (roots new_roots : List ℕ) (words : TableView) (cs : List Copier) (aside : List Piece) (before young promoted tenured : Blocks)
    → AreCopying stores roots words cs aside → AreEnded cs aside → Agree (hands cs) → AreAll (hands cs) → length new_roots ≡ length roots
    → AreForwarded (objects_at stores) (Pairs stores (all_known (hands cs))) roots new_roots
    → before.lane ≢ 1 → ArePlaced 1 before cs aside
    → IsPutTogether cs aside before young promoted tenured
    → IsCollectedBy stores before roots (all_wins (hands cs)) young tenured (all_listed cs aside) new_roots
