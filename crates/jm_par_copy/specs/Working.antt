-- What holds of a copier while it works in a round.
use Rattle.std.specs.Prelude.{◌≡◌, ◌≢◌, ◌⊎◌, ℕ, ◌+◌, ◌≤◌, List, ◌++◌, drop, length, Option, Some, None}
use Rattle.std.specs.List.{Contains}
use Rattle.jm_blocks.specs.Objects.{Object}
use Rattle.jm_blocks.specs.Places.{lane_of}
use Rattle.jm_blocks.specs.Stores.{Blocks}
use Rattle.jm_forward.specs.declared.rule.Hand.{Hand}
use Rattle.jm_copy.specs.Copying.{Copying, Progress}
use Rattle.jm_copy.specs.Condemned.{objects_at}
use Rattle.jm_copy.specs.Image.{older}
use Rattle.jm_copy.specs.Numbers.{number_of}
use Rattle.jm_copy.specs.Copies.{made, age_at, IsMark}
use Rattle.jm_par_copy.specs.Strides.{IsNewOf, owner_of}
use Rattle.jm_copy.specs.Marks.{at, progress}
use Rattle.jm_copy.specs.declared.scan.Marks.{Marks}
use Rattle.jm_copy.specs.declared.copies.Copies.{Copies}

-- a condemned object's number stands beside the new place
abbrev pub Pairs : List Blocks → List (ℕ × ℕ) → ℕ → ℕ → Type 0
Pairs stores ws p n = (o : Object) × (objects_at stores p ≡ Some o) × Contains ws (number_of stores p, n)

-- what all knew when the round began, and what this copier has seen
abbrev pub known_to : List (ℕ × ℕ) → Hand → List (ℕ × ℕ)
known_to base h = base ++ h.known

-- what was won for the objects that the copier was given, and what it has won itself since its k-th win
abbrev pub held_by : List (ℕ × ℕ) → ℕ → Hand → List (ℕ × ℕ)
held_by held k h = held ++ drop k h.wins

abbrev pub or_else : Option Object → Option Object → Option Object
or_else None y = y
or_else (Some o) y = Some o

-- of an object as much is scanned as its holder has scanned
abbrev pub done_by : Option Object → ℕ → ℕ → ℕ
done_by None mine others = others
done_by (Some o) mine others = mine

-- the objects in the copier's own stores, and those in the blocks that it was given
unfoldable pub both : (ℕ → Option Object) → (ℕ → Option Object) → ℕ → Option Object
both f g n = or_else (f n) (g n)

-- a place of the copier's own blocks, past all objects there
abbrev pub IsNew : Hand → Copies → ℕ → Type 0
IsNew h c p = IsNewOf h.copier h.copiers c p

-- the copy of an object lies in the lane of the store that its age has
pub record IsDated (c : Copies) (n : ℕ) (o : Object) : Type 0 where
  pub age : older o.age ≡ age_at c n
  pub lane : (lane_of n ≡ c.young.lane) ⊎ (lane_of n ≡ c.tenured.lane)

-- and so does that of each object that was won
abbrev pub AreDated : List Blocks → List (ℕ × ℕ) → Copies → Type 0
AreDated stores wins c = (p n : ℕ) (o : Object) → objects_at stores p ≡ Some o → Contains wins (number_of stores p, n) → IsDated c n o

-- the serial invariant over what the copier knows and holds; its wins lie in its own lanes, below what is
-- new there
pub record IsWorking (stores : List Blocks) (roots : List ℕ) (base held : List (ℕ × ℕ)) (k : ℕ) (rest : ℕ → Option Object) (h : Hand) (c : Copies) (done : Progress) : Type 0 where
  pub copying : Copying (objects_at stores) roots (Pairs stores (known_to base h)) (Pairs stores (held_by held k h)) (both (made c) rest) done
  pub recent : k ≤ length h.wins
  pub apart : c.tenured.lane ≢ c.young.lane
  pub kept : IsMark c.tenured c.kept
  pub ages : (n : ℕ) (a : Object) → made c n ≡ Some a → a.age ≡ age_at c n
  pub dated : AreDated stores h.wins c
  pub taken : (i n : ℕ) → Contains h.wins (i, n) → IsNew h c n → ⊥
  pub free : (n : ℕ) → IsNew h c n → rest n ≡ None
  pub once : (n : ℕ) (a : Object) → made c n ≡ Some a → rest n ≡ None
  pub ahead : (n count : ℕ) → IsNew h c n → done n count ≡ 0

-- whatever was known, held and scanned: the invariant goes over
abbrev pub KeepsWorking : List Blocks → List ℕ → Hand → Hand → Copies → Copies → Type 0
KeepsWorking stores roots h h' c d =
    (base held : List (ℕ × ℕ)) (k : ℕ) (rest : ℕ → Option Object) (done : Progress)
    → IsWorking stores roots base held k rest h c done → IsWorking stores roots base held k rest h' d done

abbrev pub KnowsMore : Hand → Hand → Type 0
KnowsMore h h' = (i n : ℕ) → Contains h.known (i, n) → Contains h'.known (i, n)

-- each place that was won lies in a block of the copier's own
abbrev pub WinsAreOwn : ℕ → ℕ → List (ℕ × ℕ) → Type 0
WinsAreOwn copiers copier ws = (i n : ℕ) → Contains ws (i, n) → owner_of copiers n ≡ copier

-- wins are added at the end, with places of the copier's own
pub record WinsMore (h h' : Hand) : Type 0 where
  pub copier : h'.copier ≡ h.copier
  pub copiers : h'.copiers ≡ h.copiers
  pub more : List (ℕ × ℕ)
  pub added : h'.wins ≡ h.wins ++ more
  pub own : WinsAreOwn h.copiers h.copier more

-- of the object at a place one value more is forwarded, or all are
abbrev pub ForwardsOne : List Blocks → List ℕ → Hand → Hand → Copies → Copies → ℕ → ℕ → Type 0
ForwardsOne stores roots h h' c d p j =
    (base held : List (ℕ × ℕ)) (k : ℕ) (rest : ℕ → Option Object) (done : Progress)
    → IsWorking stores roots base held k rest h c (at done p j) → IsWorking stores roots base held k rest h' d (at done p (j + 1))

abbrev pub ForwardsTo : List Blocks → List ℕ → Hand → Hand → Copies → Copies → ℕ → ℕ → Type 0
ForwardsTo stores roots h h' c d p j =
    (base held : List (ℕ × ℕ)) (k : ℕ) (rest : ℕ → Option Object) (done : Progress)
    → IsWorking stores roots base held k rest h c (at done p 0) → IsWorking stores roots base held k rest h' d (at done p j)

abbrev pub ForwardsAll : List Blocks → List ℕ → Hand → Hand → Copies → Copies → ℕ → Type 0
ForwardsAll stores roots h h' c d p = (a : Object) × (made d p ≡ Some a) × ForwardsTo stores roots h h' c d p (length a.values)

-- how far a copier is: its own objects by two marks, the others as it was told
unfoldable pub scan_progress : ℕ → Marks → (ℕ → Option Object) → Progress → Progress
scan_progress lane m rest rest_done n count = done_by (rest n) (rest_done n count) (progress lane m n count)

abbrev pub IsScanning : List Blocks → List ℕ → List (ℕ × ℕ) → List (ℕ × ℕ) → ℕ → (ℕ → Option Object) → Progress → Hand → Copies → Marks → Type 0
IsScanning stores roots base held k rest rest_done h c m = IsWorking stores roots base held k rest h c (scan_progress c.young.lane m rest rest_done)

abbrev pub KeepsScanning : List Blocks → List ℕ → Hand → Hand → Copies → Copies → Marks → Marks → Type 0
KeepsScanning stores roots h h' c d m m' =
    (base held : List (ℕ × ℕ)) (k : ℕ) (rest : ℕ → Option Object) (rest_done : Progress)
    → IsScanning stores roots base held k rest rest_done h c m → IsScanning stores roots base held k rest rest_done h' d m'
