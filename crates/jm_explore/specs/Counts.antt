-- What schedules weigh, and how many there are.
use Rattle.std.specs.Prelude.{◌≡◌, ◌≤◌, ◌<◌, ◌^◌, ◌*◌, ◌+◌, ℕ, ◌-◌, List, [], ◌∷◌, ◌++◌, None, Bool, true, false, length, take, nat_eq}
use Rattle.jm_world.specs.World.{World}
use Rattle.jm_explore.specs.Lists.{total}
use Rattle.jm_explore.specs.Outcomes.{End, outcome_of, told_end}
use Rattle.jm_explore.specs.Schedulings.{schedules, schedules_from}
use Rattle.jm_explore.specs.Switches.{can_go, switches, turn_from, world_after}
use Rattle.jm_explore.specs.declared.branch.Branch.{Branch}
use Rattle.jm_explore.specs.declared.search.Progress.{Progress}
use Rattle.jm_explore.specs.declared.told.Told.{Told}

abbrev pub weight_if : Bool → ℕ → ℕ
weight_if true n = n
weight_if false n = 0

-- the weight of the schedules that begin so, of all in which no more than so many switches follow
abbrev pub below : World → ℕ → ℕ → (List ℕ → ℕ) → List ℕ → ℕ → ℕ
below w slice steps f path left = total (λ rest. f (path ++ rest)) (schedules_from (steps - length path) (world_after w path) slice (turn_from slice None path) left)

-- of those that begin with some events and a thread's
abbrev pub below_next : World → ℕ → ℕ → (List ℕ → ℕ) → List ℕ → ℕ → ℕ → ℕ
below_next w slice steps f path t left = weight_if (can_go (world_after w path) t) (below w slice steps f (path ++ t ∷ []) left)

-- of those that begin with a branch of a schedule
abbrev pub below_branch : World → ℕ → ℕ → (List ℕ → ℕ) → List ℕ → Branch → ℕ
below_branch w slice steps f path b = below_next w slice steps f (take b.behind path) b.thread b.left

abbrev pub below_all : World → ℕ → ℕ → (List ℕ → ℕ) → List ℕ → List Branch → ℕ
below_all w slice steps f path todo = total (λ b. below_branch w slice steps f path b) todo

-- only schedules of exactly so many switches weigh
abbrev pub exactly : World → ℕ → ℕ → (List ℕ → ℕ) → List ℕ → ℕ
exactly w slice most f ts = weight_if (nat_eq (switches w slice ts) most) (f ts)

-- the schedule has all but so many of the most switches, and it and its branches weigh as much as the whole
abbrev pub Weighs : World → ℕ → ℕ → ℕ → List ℕ → List Branch → ℕ → ((List ℕ → ℕ) → ℕ) → Type 0
Weighs w slice most steps path todo left whole = (left + switches w slice path ≡ most) × ((f : List ℕ → ℕ) → whole f ≡ f path + below_all w slice steps f path todo)

-- so where a schedule was made, else the branches alone weigh as much
abbrev pub WeighsIf : Bool → World → ℕ → ℕ → ℕ → List ℕ → List Branch → ℕ → ((List ℕ → ℕ) → ℕ) → Type 0
WeighsIf true w slice most steps path todo left whole = Weighs w slice most steps path todo left whole
WeighsIf false w slice most steps path todo left whole = (f : List ℕ → ℕ) → whole f ≡ below_all w slice steps f path todo

-- ---- what is told

-- what the schedules weigh that were counted, where an outcome has a weight
abbrev pub weighed : (End → ℕ) → List Told → ℕ
weighed weight told = total (λ t. weight (told_end t.outcome) * t.schedules) told

-- how many were counted
abbrev pub all_counted : List Told → ℕ
all_counted told = weighed (λ _. 1) told

abbrev pub weight_of : World → ℕ → (End → ℕ) → List ℕ → ℕ
weight_of w steps weight ts = weight (outcome_of w steps ts)

-- each schedule that was counted is told, and took one of so many runs
pub record Tallied (most : ℕ) (p : Progress) : Type 0 where
  pub fits : most < 2 ^ 64
  pub counted : p.schedules ≡ all_counted p.told.items
  pub within : p.schedules + p.runs ≤ most

-- the schedules of exactly so many switches were counted
abbrev pub CountsMore : World → ℕ → ℕ → ℕ → List Told → List Told → Type 0
CountsMore w slice most steps old new = (weight : End → ℕ) → weighed weight new ≡ weighed weight old + total (exactly w slice most (weight_of w steps weight)) (schedules w slice most steps)

-- the schedules of at most so many switches were counted
abbrev pub CountsAll : World → ℕ → ℕ → ℕ → List Told → Type 0
CountsAll w slice most steps told = (weight : End → ℕ) → weighed weight told ≡ total (weight_of w steps weight) (schedules w slice most steps)
