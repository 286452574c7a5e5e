-- What one event more adds to the branches that are still to be tried.
use Rattle.std.specs.Prelude.{◌≡◌, ◌≢◌, ◌⊎◌, ℕ, ◌+◌, ◌-◌, ◌≤◌, ◌<◌, List, ◌∷◌, ◌++◌, map, Option, Some, None, Bool, true, false}
use Rattle.jm_world.specs.World.{World}
use Rattle.jm_world.specs.Run.{after}
use Rattle.jm_world.specs.declared.event.Event.TheVariants.{Step}
use Rattle.jm_machine.specs.Threads.{is_live}
use Rattle.jm_machine.specs.View.{MachineView, MatchesWorld}
use Rattle.jm_explore.specs.Lists.{Distinct, Each, HasOne}
use Rattle.jm_explore.specs.Switches.{can_go, first_of, other_than, IsEnd}
use Rattle.jm_explore.specs.declared.branch.Branch.{Branch}

-- a live thread above a number that is not the one that is skipped
abbrev pub Offered : World → ℕ → ℕ → ℕ → Type 0
Offered w above skipped t = (above < t) × (t ≢ skipped) × (is_live w t ≡ true)

abbrev pub IsBehind : ℕ → ℕ → ℕ → Branch → Type 0
IsBehind behind left skipped b = (b.behind ≡ behind) × (b.left ≡ left) × (b.thread ≢ skipped)

-- new branches stand at the end, all behind so many events and none of the thread that is skipped, and each thread that is
-- wanted, and no other, has one, and only one
pub record Adds (behind left skipped : ℕ) (Wanted : ℕ → Type 0) (old new : List Branch) : Type 0 where
  pub added : List Branch
  pub new_is : new ≡ old ++ added
  pub alike : Each (IsBehind behind left skipped) added
  pub has : (t : ℕ) → Wanted t → HasOne (λ b. b.thread ≡ t) added
  pub wanted : Each (λ b. Wanted b.thread) added
  pub once : Distinct (map (λ (b : Branch). b.thread) added)

-- the machine is behind the thread's event if it went, else where it was
abbrev pub WentIf : {H : Type 0} → Bool → World → ℕ → MachineView H → Type 0
WentIf true w t m = MatchesWorld m (after w (Step t)).world
WentIf false w t m = MatchesWorld m w

-- new branches stand at the end; what each costs is one of the switches that are left, and each other thread that can go
-- and for which enough switches are left has one, and only one
pub record Leaves (w : World) (cost : ℕ → ℕ) (left behind t : ℕ) (old new : List Branch) : Type 0 where
  pub added : List Branch
  pub new_is : new ≡ old ++ added
  pub alike : Each (λ b. (b.behind ≡ behind) × (b.left + cost b.thread ≡ left)) added
  pub has : (s : ℕ) → can_go w s ≡ true → cost s ≤ left → (s ≡ t) ⊎ HasOne (λ b. b.thread ≡ s) added
  pub once : Distinct (t ∷ map (λ (b : Branch). b.thread) added)

-- a thread goes, and any other costs a switch; or it cannot go
abbrev pub GoesOn : {H : Type 0} → Bool → World → ℕ → ℕ → ℕ → List Branch → List Branch → MachineView H → Type 0
GoesOn true w t left behind old new m = (can_go w t ≡ true) × Leaves w (other_than t) left behind t old new × MatchesWorld m (after w (Step t)).world
GoesOn false w t left behind old new m = (can_go w t ≡ false) × (new ≡ old) × MatchesWorld m w

-- the first that can go of the threads above a number and up to another does; or none can
abbrev pub GoesAmong : {H : Type 0} → World → ℕ → ℕ → ℕ → ℕ → List Branch → List Branch → MachineView H → Option ℕ → Type 0
GoesAmong w from to left behind old new m (Some t) = (first_of w (from + 1) (to - from) ≡ Some t) × GoesOn true w t left behind old new m
GoesAmong w from to left behind old new m None = (first_of w (from + 1) (to - from) ≡ None) × (new ≡ old) × MatchesWorld m w

-- one event more: it costs nothing, and what else can go is a branch; or no thread can go
abbrev pub Advances : {H : Type 0} → World → (ℕ → ℕ) → ℕ → ℕ → List Branch → List Branch → MachineView H → Option ℕ → Type 0
Advances w cost left behind old new m (Some t) = (can_go w t ≡ true) × (cost t ≡ 0) × Leaves w cost left behind t old new × MatchesWorld m (after w (Step t)).world
Advances w cost left behind old new m None = IsEnd w × (new ≡ old) × MatchesWorld m w
