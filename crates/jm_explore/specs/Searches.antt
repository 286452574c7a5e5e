-- The state of a search: what is told, and what is still to be tried.
use Rattle.std.specs.Prelude.{◌≡◌, ◌⊎◌, ℕ, ◌+◌, ◌≤◌, ◌<◌, List, [], ◌∷◌, ◌++◌, Bool, true, false, length, map, take}
use Rattle.std.specs.List.{AllPairs}
use Rattle.jm_program.specs.Lists.{Begins}
use Rattle.jm_world.specs.World.{World}
use Rattle.jm_machine.specs.View.{MachineView, MatchesWorld}
use Rattle.jm_explore.specs.Lists.{Each, HasOne}
use Rattle.jm_explore.specs.Outcomes.{AreOther, End, Found, HasFewest, IsTrueOf, found_of, outcome_of}
use Rattle.jm_explore.specs.Switches.{all_go, switches, world_after, IsSchedule}
use Rattle.jm_explore.specs.declared.branch.Branch.{Branch}
use Rattle.jm_explore.specs.declared.told.Told.{Told}

abbrev pub founds : List Told → List Found
founds told = map found_of told

-- an outcome is told
abbrev pub Has : End → List Found → Type 0
Has e found = HasOne (λ f. f.outcome ≡ e) found

-- what a schedule comes to is told
abbrev pub IsTold : World → ℕ → List Found → List ℕ → Type 0
IsTold w steps found ts = Has (outcome_of w steps ts) found

abbrev pub IsComplete : World → ℕ → ℕ → ℕ → List Found → Type 0
IsComplete w slice most steps found = (ts : List ℕ) → IsSchedule w slice most steps ts → IsTold w steps found ts

-- ---- the path and its branches

-- the events of a branch of a schedule
abbrev pub events_to : List ℕ → Branch → List ℕ
events_to path b = take b.behind path ++ b.thread ∷ []

pub record IsBranch (w : World) (slice most steps : ℕ) (path : List ℕ) (b : Branch) : Type 0 where
  pub here : b.behind ≤ length path
  pub within : b.behind < steps
  pub left_is : b.left + switches w slice (events_to path b) ≡ most

-- the branches in the order of what stands before them
abbrev pub Rising : List Branch → Type 0
Rising [] = Unit {0}
Rising (b ∷ bs) = Each (λ c. b.behind ≤ c.behind) bs × Rising bs

pub record Stands (w : World) (slice most steps : ℕ) (path : List ℕ) (todo : List Branch) : Type 0 where
  pub go : all_go w path ≡ true
  pub within : length path ≤ steps
  pub branches : Each (IsBranch w slice most steps path) todo
  pub rising : Rising todo

-- each schedule is told, or begins with a branch
abbrev pub Covered : World → ℕ → ℕ → ℕ → List Found → List ℕ → List Branch → Type 0
Covered w slice most steps found path todo = (ts : List ℕ) → IsSchedule w slice most steps ts → IsTold w steps found ts ⊎ HasOne (λ b. Begins (events_to path b) ts) todo

-- the same while a schedule is being made
abbrev pub CoveredWith : World → ℕ → ℕ → ℕ → List Found → List ℕ → List Branch → Type 0
CoveredWith w slice most steps found path todo =
    (ts : List ℕ) → IsSchedule w slice most steps ts → IsTold w steps found ts ⊎ HasOne (λ b. Begins (events_to path b) ts) todo ⊎ Begins path ts

pub record Making (w : World) (slice most steps : ℕ) (found : List Found) (path : List ℕ) (todo : List Branch) (left : ℕ) : Type 0 where
  pub stands : Stands w slice most steps path todo
  pub left_is : left + switches w slice path ≡ most
  pub covered : CoveredWith w slice most steps found path todo

-- a schedule was made whole
pub record Made (w : World) (slice most steps : ℕ) (found : List Found) (path : List ℕ) (todo : List Branch) : Type 0 where
  pub stands : Stands w slice most steps path todo
  pub schedule : IsSchedule w slice most steps path
  pub covered : (ts : List ℕ) → IsSchedule w slice most steps ts → IsTold w steps found ts ⊎ HasOne (λ b. Begins (events_to path b) ts) todo ⊎ (ts ≡ path)

-- what is not told begins with a branch
pub record Searching (w : World) (slice most steps : ℕ) (found : List Found) (path : List ℕ) (todo : List Branch) : Type 0 where
  pub stands : Stands w slice most steps path todo
  pub covered : Covered w slice most steps found path todo

-- the branch was tried: a schedule was made, or its thread could not go
abbrev pub Tried : {H : Type 0} → Bool → World → ℕ → ℕ → ℕ → List Found → List ℕ → List Branch → MachineView H → Type 0
Tried true w slice most steps found path todo m = Made w slice most steps found path todo × MatchesWorld m (world_after w path)
Tried false w slice most steps found path todo m = Searching w slice most steps found path todo

-- ---- what is told

-- an outcome is told, by this schedule unless it was told before
abbrev pub Notes : End → List ℕ → ℕ → List Found → List Found → Type 0
Notes e path switches old new =
    (Has e old × (new ≡ old)) ⊎ ((Has e old → ⊥) × (new ≡ old ++ record { outcome = e; schedule = path; switches = switches } ∷ []))

-- all that is told so far is true, of at most so many switches
pub record Known (w : World) (slice most steps : ℕ) (found : List Found) : Type 0 where
  pub sound : Each (IsTrueOf w slice steps) found
  pub low : Each (λ f. f.switches ≤ most) found
  pub fewest : Each (HasFewest w slice steps) found
  pub other : AllPairs AreOther found

-- all is told that fewer switches lead to
abbrev pub AllBefore : World → ℕ → ℕ → ℕ → List Found → Type 0
AllBefore w slice most steps found = (fewer : ℕ) → fewer < most → IsComplete w slice fewer steps found
