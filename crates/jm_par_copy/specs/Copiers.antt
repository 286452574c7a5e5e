-- What holds of all copiers together, between rounds.
use Rattle.std.specs.Prelude.{◌≡◌, ◌≢◌, ◌⊎◌, ℕ, ◌<◌, ◌≤◌, ◌%◌, List, [], ◌∷◌, ◌++◌, length, Option, Some, None, Bool, true, false, nat_eq, slice_get, if◌then◌else◌}
use Rattle.jm_blocks.specs.Objects.{Object}
use Rattle.jm_blocks.specs.Places.{block_of, lane_of}
use Rattle.jm_blocks.specs.Stores.{Blocks, objects_in}
use Rattle.jm_forward.specs.declared.rule.Hand.{Hand}
use Rattle.jm_forward.specs.Hands.{Agree, AreAll, TableView, all_known, all_wins, fresh}
use Rattle.jm_copy.specs.Copying.{AreForwarded, Copying, Progress}
use Rattle.jm_copy.specs.Image.{IsImage}
use Rattle.jm_copy.specs.Condemned.{objects_at}
use Rattle.jm_copy.specs.Copies.{made, HasMade, is_above}
use Rattle.jm_copy.specs.Marks.{AllPassed, AreMarks}
use Rattle.jm_copy.specs.Numbers.{object_count}
use Rattle.jm_par_copy.specs.Begins.{IsLocal}
use Rattle.jm_par_copy.specs.Fresh.{IsFreshOwn}
use Rattle.jm_par_copy.specs.Giving.{SameBlocks, StillHolds}
use Rattle.jm_par_copy.specs.Holding.{held_objects, held_progress, AreApartPieces, AreGiven, IsInOne}
use Rattle.jm_par_copy.specs.Notes.{AllNote, IsNoting}
use Rattle.jm_par_copy.specs.Pieces.{IsPiece}
use Rattle.jm_par_copy.specs.Roots.{IsRooted, RootsStand}
use Rattle.jm_par_copy.specs.Round.{AreReady, AreRound, IsReady}
use Rattle.jm_par_copy.specs.Strides.{OwnsEnds, owner_of}
use Rattle.jm_par_copy.specs.Together.{Part, joint, joint_done, moved_by_wins}
use Rattle.jm_par_copy.specs.Turns.{CopierRound}
use Rattle.jm_par_copy.specs.Working.{IsNew, Pairs, WinsAreOwn, both, scan_progress}
use Rattle.jm_par_copy.specs.declared.piece.Piece.{Piece}
use Rattle.jm_par_copy.specs.declared.copier.Copier.{Copier}

-- the objects that a copier holds, and how far each is scanned
abbrev pub contents : Copier → ℕ → Option Object
contents c = both (made c.own.to) (held_objects c.given.items)

abbrev pub scan_of : Copier → Progress
scan_of c = scan_progress c.own.to.young.lane c.marks (held_objects c.given.items) (held_progress c.given.items)

abbrev pub part_of : Copier → Part
part_of c = record { new = contents c; done = scan_of c }

-- blocks that are set aside, and held by nobody
abbrev pub part_aside : List Piece → Part
part_aside xs = record { new = held_objects xs; done = held_progress xs }

abbrev pub parts : List Copier → List Piece → List Part
parts [] aside = part_aside aside ∷ []
parts (c ∷ cs) aside = part_of c ∷ parts cs aside

abbrev pub hands : List Copier → List Hand
hands [] = []
hands (c ∷ cs) = c.own.seat.hand ∷ hands cs

-- the given blocks of all, and those set aside
abbrev pub all_pieces : List Copier → List Piece → List Piece
all_pieces [] aside = aside
all_pieces (c ∷ cs) aside = c.given.items ++ all_pieces cs aside

-- a copier that is ready for a round, whose own objects lie in blocks of its own, and where they lie and
-- where new ones will come no moved block is, whoever holds it
pub record IsSeated (stores : List Blocks) (words : TableView) (pieces : List Piece) (c : Copier) : Type 0 where
  pub table : c.own.seat.table ≡ words.table
  pub objects : words.objects ≡ object_count stores
  pub copiers : c.own.seat.hand.copiers ≡ words.copiers
  pub number : (c.own.number < words.copiers) × (words.copiers ≤ 16)
  pub ends : OwnsEnds c.own.seat.hand.copier c.own.seat.hand.copiers c.own.to
  pub marks : AreMarks c.own.to c.marks
  pub given : AreGiven c.own.seat.hand c.own.to c.given.items
  pub local : IsLocal stores (held_objects c.given.items) c.own.seat.hand c.own.to (scan_of c)
  pub wins : WinsAreOwn c.own.seat.hand.copiers c.own.seat.hand.copier c.own.seat.hand.wins
  pub own : (n : ℕ) → HasMade c.own.to n → owner_of words.copiers n ≡ c.own.seat.hand.copier
  pub beside : (n : ℕ) → HasMade c.own.to n → IsInOne pieces n → ⊥
  pub new : (n : ℕ) → IsNew c.own.seat.hand c.own.to n → IsInOne pieces n → ⊥

abbrev pub AreSeated : List Blocks → TableView → List Piece → List Copier → Type 0
AreSeated stores words pieces [] = Unit {0}
AreSeated stores words pieces (c ∷ cs) = IsSeated stores words pieces c × AreSeated stores words pieces cs

-- no copier has this number, and no two have one
abbrev pub AreOthers : ℕ → List Copier → Type 0
AreOthers x [] = Unit {0}
AreOthers x (c ∷ cs) = (c.own.seat.hand.copier ≢ x) × AreOthers x cs

abbrev pub AreDifferent : List Copier → Type 0
AreDifferent [] = Unit {0}
AreDifferent (c ∷ cs) = AreOthers c.own.seat.hand.copier cs × AreDifferent cs

-- no place is in blocks of two
abbrev pub AreApartGiven : List Copier → List Piece → Type 0
AreApartGiven [] aside = AreApartPieces aside
AreApartGiven (c ∷ cs) aside = ((n : ℕ) → IsInOne c.given.items n → IsInOne (all_pieces cs aside) n → ⊥) × AreApartGiven cs aside

-- of each the new places of none of its roots are there, or of all
abbrev pub AreRooted : List Blocks → List ℕ → List Copier → Type 0
AreRooted stores roots [] = Unit {0}
AreRooted stores roots (c ∷ cs) = RootsStand stores roots c × AreRooted stores roots cs

-- all copiers between rounds, with the blocks that are set aside: what they hold is what all have won, by what
-- all know, no place is held by two, and what is scanned and points to young ones is listed
pub record AreCopying (stores : List Blocks) (roots : List ℕ) (words : TableView) (cs : List Copier) (aside : List Piece) : Type 0 where
  pub seated : AreSeated stores words (all_pieces cs aside) cs
  pub different : AreDifferent cs
  pub given : AreApartGiven cs aside
  pub pieces : (i : ℕ) (x : Piece) → slice_get aside i ≡ Some x → IsPiece x
  pub rooted : AreRooted stores roots cs
  pub noting : AllNote cs aside
  pub copying : Copying (objects_at stores) roots (Pairs stores (all_known (hands cs))) (Pairs stores (all_wins (hands cs))) (joint (parts cs aside)) (joint_done (parts cs aside))

abbrev pub NoneRefused : List Copier → Type 0
NoneRefused [] = Unit {0}
NoneRefused (c ∷ cs) = (c.refused ≡ false) × NoneRefused cs

-- then each is ready for a round
abbrev pub AllAreReady : Type 0
AllAreReady = (stores : List Blocks) (roots : List ℕ) (words : TableView) (cs : List Copier) (aside : List Piece)
    → AreCopying stores roots words cs aside → AreReady stores roots words cs

-- and a round in which no growth was refused keeps it
abbrev pub RoundKeeps : Type 0
RoundKeeps = (stores : List Blocks) (roots : List ℕ) (words : TableView) (cs ds : List Copier) (aside : List Piece)
    → AreCopying stores roots words cs aside → AreRound stores roots cs ds → NoneRefused ds → AreCopying stores roots words ds aside

-- what no step changes, refused or not: the number, the seat's table and number, the lanes and the kept place
pub record KeepsSeat (c d : Copier) : Type 0 where
  pub number : d.own.number ≡ c.own.number
  pub table : d.own.seat.table ≡ c.own.seat.table
  pub copier : d.own.seat.hand.copier ≡ c.own.seat.hand.copier
  pub copiers : d.own.seat.hand.copiers ≡ c.own.seat.hand.copiers
  pub young_lane : d.own.to.young.lane ≡ c.own.to.young.lane
  pub old_lane : d.own.to.tenured.lane ≡ c.own.to.tenured.lane
  pub kept : d.own.to.kept ≡ c.own.to.kept

abbrev pub KeepSeats : List Copier → List Copier → Type 0
KeepSeats [] [] = Unit {0}
KeepSeats [] (d ∷ ds) = ⊥
KeepSeats (c ∷ cs) [] = ⊥
KeepSeats (c ∷ cs) (d ∷ ds) = KeepsSeat c d × KeepSeats cs ds

-- the copier has given back what it can
pub record IsBack (c d : Copier) : Type 0 where
  pub number : d.own.number ≡ c.own.number
  pub seat : d.own.seat ≡ c.own.seat
  pub roots : d.roots.items ≡ c.roots.items
  pub rooted : d.rooted ≡ c.rooted
  pub marks : d.marks ≡ c.marks
  pub holds : StillHolds c.own.to d.own.to c.marks c.given.items d.given.items
  pub same : SameBlocks c.own.to d.own.to
  pub noting : IsNoting c → IsNoting d

abbrev pub AreBack : List Copier → List Copier → Type 0
AreBack [] [] = Unit {0}
AreBack [] (d ∷ ds) = ⊥
AreBack (c ∷ cs) [] = ⊥
AreBack (c ∷ cs) (d ∷ ds) = IsBack c d × AreBack cs ds

-- that keeps it too
abbrev pub BackKeeps : Type 0
BackKeeps = (stores : List Blocks) (roots : List ℕ) (words : TableView) (cs ds : List Copier) (aside : List Piece)
    → AreCopying stores roots words cs aside → AreBack cs ds → AreCopying stores roots words ds aside

-- a place in the lane of the young, or in that of the old in a block where the old store has no object
abbrev pub IsFreeBlock : Blocks → ℕ → Type 0
IsFreeBlock before n = (m : ℕ) (o : Object) → objects_in before m ≡ Some o → block_of m ≡ block_of n → ⊥

abbrev pub IsPlaced : ℕ → Blocks → ℕ → Type 0
IsPlaced young before n = (lane_of n ≡ young) ⊎ ((lane_of n ≡ before.lane) × IsFreeBlock before n)

-- a place in the lane of the young, or in that of the old in a block from a number on
abbrev pub IsFrom : ℕ → ℕ → ℕ → ℕ → Type 0
IsFrom young old first n = (lane_of n ≡ young) ⊎ ((lane_of n ≡ old) × (first ≤ block_of n))

-- a copier fills two lanes, of the old one its own blocks from a number on, above which the old store has no object in
-- them; what it keeps are the objects that the old store has in the block of this number
pub record IsFilling (young : ℕ) (before : Blocks) (c : Copier) : Type 0 where
  pub young_lane : c.own.to.young.lane ≡ young
  pub old_lane : c.own.to.tenured.lane ≡ before.lane
  pub first : ℕ
  pub own : first % c.own.seat.hand.copiers ≡ c.own.seat.hand.copier
  pub next : first < length c.own.to.tenured.lists
  pub made : (n : ℕ) → HasMade c.own.to n → IsFrom young before.lane first n
  pub below : (n : ℕ) (o : Object) → objects_in before n ≡ Some o → owner_of c.own.seat.hand.copiers n ≡ c.own.seat.hand.copier → block_of n ≤ first
  pub kept : (n : ℕ) (o : Object) → objects_in c.own.to.tenured n ≡ Some o → is_above c.own.to.kept n ≡ false → (objects_in before n ≡ Some o) × (block_of n ≡ first)
  pub there : (n : ℕ) (o : Object) → objects_in before n ≡ Some o → block_of n ≡ first → (objects_in c.own.to.tenured n ≡ Some o) × (is_above c.own.to.kept n ≡ false)

abbrev pub AllFill : ℕ → Blocks → List Copier → Type 0
AllFill young before [] = Unit {0}
AllFill young before (c ∷ cs) = IsFilling young before c × AllFill young before cs

-- so does each, and the blocks that were moved lie where the old store has none
pub record ArePlaced (young : ℕ) (before : Blocks) (cs : List Copier) (aside : List Piece) : Type 0 where
  pub own : AllFill young before cs
  pub pieces : (n : ℕ) → IsInOne (all_pieces cs aside) n → IsPlaced young before n

-- a step that keeps this
abbrev pub KeepPlaced : List Copier → List Copier → List Piece → List Piece → Type 0
KeepPlaced cs ds aside rest = (young : ℕ) (before : Blocks) → ArePlaced young before cs aside → ArePlaced young before ds rest

-- a round does, giving back does, and dealing does
abbrev pub RoundKeepsPlaced : Type 0
RoundKeepsPlaced = (stores : List Blocks) (roots : List ℕ) (words : TableView) (cs ds : List Copier) (aside : List Piece)
    → AreCopying stores roots words cs aside → AreRound stores roots cs ds → NoneRefused ds → KeepPlaced cs ds aside aside

abbrev pub BackKeepsPlaced : Type 0
BackKeepsPlaced = (stores : List Blocks) (roots : List ℕ) (words : TableView) (cs ds : List Copier) (aside : List Piece)
    → AreCopying stores roots words cs aside → AreBack cs ds → KeepPlaced cs ds aside aside

-- what holds between rounds goes over, whatever is set aside
abbrev pub KeepCopying : List Copier → List Copier → Type 0
KeepCopying cs ds = (stores : List Blocks) (roots : List ℕ) (words : TableView) (aside : List Piece) → AreCopying stores roots words cs aside
    → AreCopying stores roots words ds aside × KeepPlaced cs ds aside aside

abbrev pub KeepsCopying : List Copier → List Copier → List Piece → List Piece → Type 0
KeepsCopying cs ds aside rest = (stores : List Blocks) (roots : List ℕ) (words : TableView) → AreCopying stores roots words cs aside
    → AreCopying stores roots words ds rest × KeepPlaced cs ds aside rest

-- whether there is an object, as a share of places
abbrev pub is_object : Option Object → Bool
is_object None = false
is_object (Some o) = true

abbrev pub share : (ℕ → Option Object) → ℕ → Bool
share f n = is_object (f n)

-- the round of each, with what is set aside last
abbrev pub turns : List Copier → List Copier → List Piece → List CopierRound
turns [] ds aside = record { share = share (held_objects aside); before = fresh 0 0; after = fresh 0 0 } ∷ []
turns (c ∷ cs) [] aside = []
turns (c ∷ cs) (d ∷ ds) aside = record { share = share (contents c); before = c.own.seat.hand; after = d.own.seat.hand } ∷ turns cs ds aside

-- all blocks are scanned to their ends, and all own objects of all copiers
abbrev pub AreScannedPieces : List Piece → Type 0
AreScannedPieces xs = (i : ℕ) (x : Piece) → slice_get xs i ≡ Some x → x.mark ≡ length x.block

abbrev pub AreEnded : List Copier → List Piece → Type 0
AreEnded [] aside = AreScannedPieces aside
AreEnded (c ∷ cs) aside = AllPassed c.own.to c.marks × AreScannedPieces c.given.items × AreEnded cs aside

-- where all have ended and have met, what they hold is the image
abbrev pub EndIsImage : Type 0
EndIsImage = (stores : List Blocks) (roots new_roots : List ℕ) (words : TableView) (cs : List Copier) (aside : List Piece)
    → AreCopying stores roots words cs aside → AreEnded cs aside → Agree (hands cs) → AreAll (hands cs) → length new_roots ≡ length roots
    → AreForwarded (objects_at stores) (Pairs stores (all_known (hands cs))) roots new_roots
    → IsImage (objects_at stores) roots (joint (parts cs aside)) new_roots (moved_by_wins stores (all_wins (hands cs)))

-- the new places of all roots are there
abbrev pub AllRooted : List Blocks → List ℕ → List Copier → Type 0
AllRooted stores roots [] = Unit {0}
AllRooted stores roots (c ∷ cs) = IsRooted stores roots c × AllRooted stores roots cs

abbrev pub HaveEnded : List Copier → Type 0
HaveEnded [] = Unit {0}
HaveEnded (c ∷ cs) = (c.ended ≡ true) × HaveEnded cs

-- all copiers fill these two lanes
abbrev pub AreInLanes : ℕ → ℕ → List Copier → Type 0
AreInLanes young old [] = Unit {0}
AreInLanes young old (c ∷ cs) = (c.own.to.young.lane ≡ young) × (c.own.to.tenured.lane ≡ old) × AreInLanes young old cs

-- then what they hold lies in these, and its age is by its lane
abbrev pub AgesAreByLane : Type 0
AgesAreByLane = (stores : List Blocks) (roots : List ℕ) (words : TableView) (cs : List Copier) (aside : List Piece) (young old : ℕ)
    → AreCopying stores roots words cs aside → AreInLanes young old cs
    → (n : ℕ) (a : Object) → joint (parts cs aside) n ≡ Some a
    → (a.age ≡ (if nat_eq (lane_of n) young then 1 else 2)) × ((lane_of n ≡ young) ⊎ (lane_of n ≡ old))

-- before the first claim of all
pub record IsFreshCopier (stores : List Blocks) (roots : List ℕ) (words : TableView) (c : Copier) : Type 0 where
  pub ready : IsReady stores roots words c
  pub own : IsFreshOwn c.own.to
  pub given : c.given.items ≡ []
  pub wins : c.own.seat.hand.wins ≡ []
  pub noting : IsNoting c

abbrev pub AreFreshCopiers : List Blocks → List ℕ → TableView → List Copier → Type 0
AreFreshCopiers stores roots words [] = Unit {0}
AreFreshCopiers stores roots words (c ∷ cs) = IsFreshCopier stores roots words c × AreFreshCopiers stores roots words cs

abbrev pub FreshAreCopying : Type 0
FreshAreCopying = (stores : List Blocks) (roots : List ℕ) (words : TableView) (cs : List Copier)
    → AreFreshCopiers stores roots words cs → AreDifferent cs → AreCopying stores roots words cs []
