-- What the calls of a round are asked for, and what they promise: of what all copiers read, and what one has of its own.
use Rattle.std.specs.Prelude.{◌≡◌, ◌⊎◌, ℕ, ◌+◌, List, [], Option, Some, slice_get}
use Rattle.jm_blocks.specs.Objects.{Object}
use Rattle.jm_copy.specs.Copying.{Forwarded, Progress}
use Rattle.jm_copy.specs.Condemned.{objects_at}
use Rattle.jm_copy.specs.Copies.{made}
use Rattle.jm_copy.specs.Image.{IsReached}
use Rattle.jm_copy.specs.Numbers.{number_of}
use Rattle.jm_copy.specs.declared.scan.Marks.{Marks}
use Rattle.jm_par_copy.specs.Claiming.{CanClaim, LearnsMore}
use Rattle.jm_par_copy.specs.Copiers.{NoneRefused}
use Rattle.jm_par_copy.specs.Holding.{IsHolding, KeepsHolding}
use Rattle.jm_par_copy.specs.Pieces.{ForwardsGiven, IsGiven, KeepsGiven, place_in}
use Rattle.jm_par_copy.specs.Round.{AreReady, AreRound, IsReady, IsRound}
use Rattle.jm_par_copy.specs.Working.{ForwardsAll, ForwardsOne, IsScanning, IsWorking, KeepsScanning, KeepsWorking, Pairs, known_to}
use Rattle.jm_par_copy.specs.declared.copier.Copier.{Copier}
use Rattle.jm_par_copy.specs.declared.copier.Task.{Task}
use Rattle.jm_par_copy.specs.declared.copier.Task.TheVariants.{Forward, Scan}
use Rattle.jm_par_copy.specs.declared.piece.Piece.{Piece}
use Rattle.jm_par_copy.specs.declared.round.Own.{Own}
use Rattle.jm_par_copy.specs.declared.round.Round.{Round}

-- a copier can claim
abbrev pub CanForward : {G : Type 0} → Round G → Own → Type 0
CanForward r a = CanClaim r.from.stores.now r.words.now a

-- its invariant holds over something that it knows, holds and has scanned, from which the function tells how far it is now
abbrev pub IsAtWork : {G : Type 0} → Round G → (Progress → Progress) → Own → Type 0
IsAtWork r f a = (base : List (ℕ × ℕ)) × (held : List (ℕ × ℕ)) × (k : ℕ) × (rest : ℕ → Option Object) × (done : Progress)
    × IsWorking r.from.stores.now r.from.roots.now base held k rest a.seat.hand a.to (f done)

-- so with its own objects scanned as far as two marks
abbrev pub IsAtScan : {G : Type 0} → Round G → Own → Marks → Type 0
IsAtScan r a m = (base : List (ℕ × ℕ)) × (held : List (ℕ × ℕ)) × (k : ℕ) × (rest : ℕ → Option Object) × (rest_done : Progress)
    × IsScanning r.from.stores.now r.from.roots.now base held k rest rest_done a.seat.hand a.to m

-- so with a block that it was given among what it holds
abbrev pub IsAtPiece : {G : Type 0} → Round G → (Progress → Progress) → Own → Piece → Type 0
IsAtPiece r f a x = (base : List (ℕ × ℕ)) × (held : List (ℕ × ℕ)) × (k : ℕ) × (rest : ℕ → Option Object) × (done : Progress)
    × IsGiven r.from.stores.now r.from.roots.now base held k rest (f done) a.seat.hand a.to x

-- so with all blocks that it was given, and two marks
abbrev pub IsAtGiven : {G : Type 0} → Round G → Own → Marks → List Piece → Type 0
IsAtGiven r a m xs = (base : List (ℕ × ℕ)) × (held : List (ℕ × ℕ)) × (k : ℕ)
    × IsHolding r.from.stores.now r.from.roots.now base held k a.seat.hand a.to m xs

-- if a condemned object lies at a place, it is reached
abbrev pub ReachesIfThere : {G : Type 0} → Round G → ℕ → Type 0
ReachesIfThere r p = (o : Object) → objects_at r.from.stores.now p ≡ Some o → IsReached (objects_at r.from.stores.now) r.from.roots.now p

-- so with each place of a list
abbrev pub AllReach : {G : Type 0} → Round G → List ℕ → Type 0
AllReach r ps = (i p : ℕ) → slice_get ps i ≡ Some p → ReachesIfThere r p

-- at a place lies a condemned object that is reached, which a block has at an index, and it has this number
abbrev pub IsFound : {G : Type 0} → Round G → List Object → ℕ → ℕ → ℕ → Type 0
IsFound r block index number p = (o : Object) × (objects_at r.from.stores.now p ≡ Some o) × (slice_get block index ≡ Some o)
    × IsReached (objects_at r.from.stores.now) r.from.roots.now p × (number ≡ number_of r.from.stores.now p)

-- a place is what another one becomes, by what the copier knows
abbrev pub Becomes : {G : Type 0} → Round G → Own → ℕ → ℕ → Type 0
Becomes r a p q = (base : List (ℕ × ℕ)) → Forwarded (objects_at r.from.stores.now) (Pairs r.from.stores.now (known_to base a.seat.hand)) p q

-- the invariant goes over, whatever the copier knew, held and had scanned
abbrev pub WorksOn : {G : Type 0} → Round G → Own → Own → Type 0
WorksOn r a b = KeepsWorking r.from.stores.now r.from.roots.now a.seat.hand b.seat.hand a.to b.to

-- with one value more forwarded of the copier's own object at a place, or all of them
abbrev pub WorksAtValue : {G : Type 0} → Round G → Own → Own → ℕ → ℕ → Type 0
WorksAtValue r a b p j = ForwardsOne r.from.stores.now r.from.roots.now a.seat.hand b.seat.hand a.to b.to p j

abbrev pub WorksAtObject : {G : Type 0} → Round G → Own → Own → ℕ → Type 0
WorksAtObject r a b p = ForwardsAll r.from.stores.now r.from.roots.now a.seat.hand b.seat.hand a.to b.to p

-- with other marks
abbrev pub ScansOn : {G : Type 0} → Round G → Own → Own → Marks → Marks → Type 0
ScansOn r a b m m' = KeepsScanning r.from.stores.now r.from.roots.now a.seat.hand b.seat.hand a.to b.to m m'

-- with one value more forwarded of an object of a given block, or with the block scanned further
abbrev pub WorksInPiece : {G : Type 0} → Round G → Own → Own → Piece → Piece → ℕ → ℕ → Type 0
WorksInPiece r a b x y i j = ForwardsGiven r.from.stores.now r.from.roots.now a.seat.hand b.seat.hand a.to b.to x y (place_in x i) j (j + 1)

abbrev pub ScansPiece : {G : Type 0} → Round G → Own → Own → Piece → Piece → Type 0
ScansPiece r a b x y = KeepsGiven r.from.stores.now r.from.roots.now a.seat.hand b.seat.hand a.to b.to x y

-- with all given blocks, whose marks alone change
abbrev pub ScansGiven : {G : Type 0} → Round G → Own → Own → Marks → List Piece → List Piece → Type 0
ScansGiven r a b m xs ys = KeepsHolding r.from.stores.now r.from.roots.now a.seat.hand b.seat.hand a.to b.to m m xs ys

-- the copier knows what it knew, and has won what it had, and maybe more
abbrev pub Learns : Own → Own → Type 0
Learns a b = LearnsMore a.seat.hand b.seat.hand

-- what was made is there as it was
abbrev pub KeepsMade : Own → Own → Type 0
KeepsMade a b = (n : ℕ) (o : Object) → made a.to n ≡ Some o → made b.to n ≡ Some o

-- the places that are forwarded in a round
abbrev pub places_of : Task → List ℕ
places_of (Forward ps) = ps.now
places_of (Scan count) = []

-- a copier is ready for a round, and makes it
abbrev pub IsReadyFor : {G : Type 0} → Round G → Copier → Type 0
IsReadyFor r c = IsReady r.from.stores.now r.from.roots.now r.words.now c

abbrev pub AreReadyFor : {G : Type 0} → Round G → List Copier → Type 0
AreReadyFor r cs = AreReady r.from.stores.now r.from.roots.now r.words.now cs

abbrev pub MakesRound : {G : Type 0} → Round G → Copier → Copier → Type 0
MakesRound r c d = IsRound r.from.stores.now r.from.roots.now c d

-- all make it
abbrev pub MakeRounds : {G : Type 0} → Round G → List Copier → List Copier → Type 0
MakeRounds r cs ds = AreRound r.from.stores.now r.from.roots.now cs ds

-- or all is as it was
abbrev pub MayMakeRounds : {G : Type 0} → Round G → List Copier → List Copier → Type 0
MayMakeRounds r cs ds = (ds ≡ cs) ⊎ (MakeRounds r cs ds × NoneRefused ds)
