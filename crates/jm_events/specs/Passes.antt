-- The threads that a pass keeps, beside the world's.
use Rattle.std.specs.Prelude.{◌≡◌, ℕ, ◌+◌, ◌-◌, ◌≤◌, ◌<◌, List, [], ◌∷◌, Option, Some, None, true, false, length}
use Rattle.jm_machine.specs.Threads.{is_live}
use Rattle.jm_world.specs.RoundRobin.{live_from}
use Rattle.jm_world.specs.World.{World}
use Rattle.jm_events.specs.declared.pass.Pass.{Pass}

-- no thread from a number on and below another is live
abbrev pub NoneLive : World → ℕ → ℕ → Type 0
NoneLive w low high = (k : ℕ) → low ≤ k → k < high → is_live w k ≡ false

-- rising numbers from one on and below another, among which all live threads between them are
abbrev pub Covers : World → ℕ → ℕ → List ℕ → Type 0
Covers w low high [] = (low ≤ high) × NoneLive w low high
Covers w low high (n ∷ ns) = (low ≤ n) × NoneLive w low n × Covers w (n + 1) high ns

-- of the threads that are listed, a pass has the live ones, and those that have not had their turn are ahead
pub record Knows (p : Pass) (passed : ℕ) (w : World) : Type 0 where
  pub known : p.known ≤ length w.threads
  pub middle : ℕ
  pub within : middle ≤ passed + 1
  pub behind : Covers w 1 middle p.behind.items
  pub ahead : Covers w middle (p.known + 1) p.ahead.items

-- the first live thread behind a number, or that there is none
abbrev pub Finds : World → ℕ → Pass → Option ℕ → Type 0
Finds w passed p None = (live_from (passed + 1) 1 w.threads ≡ None) × (p.ahead.items ≡ []) × Knows p passed w
Finds w passed p (Some n) = (live_from (passed + 1) 1 w.threads ≡ Some n) × (is_live w n ≡ true) × Knows p (n - 1) w
