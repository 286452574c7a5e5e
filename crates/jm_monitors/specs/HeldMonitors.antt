-- The monitors that are held, in the order of their objects' serials (JVMS 2.11.10).
use Rattle.std.specs.Prelude.{◌≡◌, ◌<◌, ◌≤◌, ◌+◌, ◌-◌, ◌^◌, ℕ, true, false, List, [], ◌∷◌, Option, Some, None, map, nat_eq, nat_lt}
use Rattle.std.specs.List.{AllByRecursion}
use Rattle.std.specs.List.Sorted.{IsStrictlySortedBy}
use Rattle.std.specs.Ordering.{nat_cmp}
use Rattle.jm_values.specs.Shape.{Shape, part_shape}
use Rattle.jm_world.specs.Frames.{number_shape}
use Rattle.jm_world.specs.Next.{Next, blocks, faults}
use Rattle.jm_world.specs.Monitors.{enter}
use Rattle.jm_world.specs.World.{World, Monitor}
use Rattle.jm_values.specs.declared.fault.TagFault.TheVariants.{MonitorCount}
use Rattle.jm_monitors.specs.declared.entering.Entering.{Entering}
use Rattle.jm_monitors.specs.declared.entering.Entering.TheVariants.{Entered, Blocked, CountEnds}

-- the serial and the place of its object, the number of the thread that owns it, and how many times
-- that thread has entered it and not left it
pub record HeldMonitor : Type 0 where
  pub serial : ℕ
  pub place : ℕ
  pub owner : ℕ
  pub count : ℕ

-- the model's monitors, of the objects that have the serials as their numbers
abbrev pub monitor_of : HeldMonitor → Monitor
monitor_of h = record { object = h.serial; owner = h.owner; count = h.count }

abbrev pub monitors_of : List HeldMonitor → List Monitor
monitors_of hs = map monitor_of hs

-- their references are the places, in the order of the serials
abbrev pub held_shape : Shape HeldMonitor
held_shape = part_shape (λ h. h.place) (λ p h. record { serial = h.serial; place = p; owner = h.owner; count = h.count }) number_shape

-- a count that entries can have
abbrev pub IsCount : ℕ → Type 0
IsCount count = (1 ≤ count) × (count < 2 ^ 31)

-- in the order of the serials, each counted from 1 to 2^31 - 1
pub record AreHeld (hs : List HeldMonitor) : Type 0 where
  pub ordered : IsStrictlySortedBy nat_cmp (map (λ h. h.serial) hs)
  pub counted : AllByRecursion (λ h. IsCount h.count) hs

-- the monitor of the object of a serial, if a thread holds it
abbrev pub held_in : List HeldMonitor → ℕ → Option HeldMonitor
held_in [] serial = None
held_in (h ∷ hs) serial = elim (nat_eq h.serial serial) [ true ↦ Some h | false ↦ held_in hs serial ]

abbrev pub with_held : List HeldMonitor → HeldMonitor → List HeldMonitor
with_held [] new = new ∷ []
with_held (h ∷ hs) new = elim (nat_lt new.serial h.serial) [ true ↦ new ∷ h ∷ hs | false ↦ h ∷ with_held hs new ]

abbrev pub without_held : List HeldMonitor → ℕ → List HeldMonitor
without_held [] serial = []
without_held (h ∷ hs) serial = elim (nat_eq h.serial serial) [ true ↦ hs | false ↦ h ∷ without_held hs serial ]

abbrev pub recounted_held : List HeldMonitor → ℕ → ℕ → List HeldMonitor
recounted_held [] serial count = []
recounted_held (h ∷ hs) serial count = elim (nat_eq h.serial serial) [
  | true ↦ record { serial = h.serial; place = h.place; owner = h.owner; count = count } ∷ hs
  | false ↦ h ∷ recounted_held hs serial count
]

-- what comes of a thread's entering, and the monitors after it: a new one has the place given
abbrev pub held_after_enter : List HeldMonitor → ℕ → ℕ → ℕ → Option HeldMonitor → Entering × List HeldMonitor
held_after_enter hs serial place thread None = (Entered, with_held hs (record { serial = serial; place = place; owner = thread; count = 1 }))
held_after_enter hs serial place thread (Some h) = elim (nat_eq h.owner thread) [
  | false ↦ (Blocked, hs)
  | true ↦ elim (nat_lt (h.count + 1) (2 ^ 31)) [
    | true ↦ (Entered, recounted_held hs serial (h.count + 1))
    | false ↦ (CountEnds, hs)
  ]
]

-- the monitors after the thread has left one: none if it does not own it
abbrev pub held_after_exit : List HeldMonitor → ℕ → ℕ → Option HeldMonitor → Option (List HeldMonitor)
held_after_exit hs serial thread None = None
held_after_exit hs serial thread (Some h) = elim (nat_eq h.owner thread) [
  | false ↦ None
  | true ↦ elim (nat_lt 1 h.count) [
    | true ↦ Some (recounted_held hs serial (h.count - 1))
    | false ↦ Some (without_held hs serial)
  ]
]

-- the model's step by what came of entering: it goes on so, waits, or is at fault
abbrev pub next_of : Entering → Next → Next
next_of Entered next = next
next_of Blocked next = blocks
next_of CountEnds next = faults MonitorCount

-- in the model the same comes of entering, whatever the rest of the world and the rest of the step
abbrev pub EntersAs : Entering → ℕ → ℕ → List HeldMonitor → List HeldMonitor → Type 0
EntersAs answer serial thread old new = (w : World) (go : World → Next) → w.monitors ≡ monitors_of old
    → enter w thread serial go ≡ next_of answer (go (record w { monitors = monitors_of new }))
