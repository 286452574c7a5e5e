-- Worlds that are the same under another numbering of their objects, in whatever order, but for what they cannot reach.
use Rattle.std.specs.Prelude.{◌≡◌, ℕ, ◌<◌, List, map, true, nat_eq, length, slice_get}
use Rattle.jm_values.specs.declared.value.Value.{Value}
use Rattle.jm_world.specs.Objects.{FieldName}
use Rattle.jm_world.specs.World.{Thread, Static, Monitor, Literal, is_running}
use Rattle.jm_values.specs.Shape.{Among}
use Rattle.jm_values.specs.Reach.{AllDistinct}
use Rattle.jm_world.specs.Monitors.{monitor_in}
use Rattle.jm_world.specs.SideBySide.{Values, Lists, Options, Objects, Frames, Held}
use Rattle.jm_world.specs.TwoWorlds.{Two}

-- numbers of one world and of the other: no two of one have one number in the other, in whatever order
pub record Renames (R : ℕ → ℕ → Type 0) (n : ℕ) : Type 0 where
  pub below : (k j : ℕ) → R k j → (k < n) × (j < n)
  pub equal : (k j i l : ℕ) → R k j → R i l → nat_eq k i ≡ nat_eq j l

-- the number of an object, which may be no reference: no other number in use is told from one and not from the other
abbrev pub Near : (ℕ → ℕ → Type 0) → ℕ → ℕ → ℕ → Type 0
Near R n k j = (k < n) × (j < n) × ((i l : ℕ) → R i l → nat_eq k i ≡ nat_eq j l)

pub data Literals (R : ℕ → ℕ → Type 0) : Literal → Literal → Type 0 where
  literals : {units : List ℕ} {k j : ℕ} → R k j → Literals R (record { units = units; string = k }) (record { units = units; string = j })

pub data Statics (R : ℕ → ℕ → Type 0) : Static → Static → Type 0 where
  statics : {field : FieldName} {v u : Value} → Values R v u → Statics R (record { field = field; value = v }) (record { field = field; value = u })

-- the objects whose monitors are held, in the order of the monitors
abbrev pub held_objects : List Monitor → List ℕ
held_objects ms = map (λ m. m.object) ms

-- monitors as a map: each list is in the order of its own world's numbers
pub record MonitorsAlike (R : ℕ → ℕ → Type 0) (ms ns : List Monitor) : Type 0 where
  pub held : (k j : ℕ) → R k j → Options Held (monitor_in ms k) (monitor_in ns j)
  pub forth : (k : ℕ) → Among k (held_objects ms) → (j : ℕ) × R k j × Among j (held_objects ns)
  pub back : (j : ℕ) → Among j (held_objects ns) → (k : ℕ) × R k j × Among k (held_objects ms)
  pub once : AllDistinct (held_objects ms)
  pub once' : AllDistinct (held_objects ns)

pub record Threads (R : ℕ → ℕ → Type 0) (n : ℕ) (t u : Thread) : Type 0 where
  pub ending : t.ending ≡ u.ending
  pub frames : Lists (Frames R) t.frames u.frames
  pub pending : Options R t.pending u.pending
  pub object : Options (Near R n) t.object u.object
  pub live : is_running t.ending ≡ true → Options R t.object u.object

-- only objects that R pairs need have like contents: those that neither world reaches need not
pub record Renumbered (R : ℕ → ℕ → Type 0) (p : Two) : Type 0 where
  pub made : length p.one.heap ≡ length p.other.heap
  pub names : Renames R (length p.one.heap)
  pub objects : (k j : ℕ) → R k j → Options (Objects R) (slice_get p.one.heap k) (slice_get p.other.heap j)
  pub literals : Lists (Literals R) p.one.literals p.other.literals
  pub statics : Lists (Statics R) p.one.statics p.other.statics
  pub monitors : MonitorsAlike R p.one.monitors p.other.monitors
  pub threads : Lists (Threads R (length p.one.heap)) p.one.threads p.other.threads
