-- Monitors: an owner and a count (JVMS 2.11.10, 6.5 monitorenter, monitorexit).
use Rattle.std.specs.Prelude.{ℕ, ◌+◌, ◌-◌, ◌^◌, List, [], ◌∷◌, Option, Some, None, true, false, nat_eq, nat_lt}
use Rattle.jm_values.specs.declared.fault.TagFault.TheVariants.{MonitorCount}
use Rattle.jm_world.specs.World.{World, Monitor}
use Rattle.jm_world.specs.Next.{Next, blocks, faults}

-- the monitor of an object, if a thread holds it
abbrev pub monitor_in : List Monitor → ℕ → Option Monitor
monitor_in [] k = None
monitor_in (m ∷ ms) k = elim (nat_eq m.object k) [ true ↦ Some m | false ↦ monitor_in ms k ]

abbrev pub without_monitor : List Monitor → ℕ → List Monitor
without_monitor [] k = []
without_monitor (m ∷ ms) k = elim (nat_eq m.object k) [ true ↦ ms | false ↦ m ∷ without_monitor ms k ]

abbrev pub recounted : List Monitor → ℕ → ℕ → List Monitor
recounted [] k count = []
recounted (m ∷ ms) k count = elim (nat_eq m.object k) [
  | true ↦ record { object = m.object; owner = m.owner; count = count } ∷ ms
  | false ↦ m ∷ recounted ms k count
]

-- the monitors with a new one, in the order of the objects' numbers
abbrev pub with_monitor : List Monitor → Monitor → List Monitor
with_monitor [] new = new ∷ []
with_monitor (m ∷ ms) new = elim (nat_lt new.object m.object) [ true ↦ new ∷ m ∷ ms | false ↦ m ∷ with_monitor ms new ]

-- enters: another's monitor blocks, and a count past 2^31 - 1 is a fault
abbrev pub entered : World → ℕ → ℕ → Option Monitor → (World → Next) → Next
entered w number k None go = go (record w { monitors = with_monitor w.monitors (record { object = k; owner = number; count = 1 }) })
entered w number k (Some m) go = elim (nat_eq m.owner number) [
  | false ↦ blocks
  | true ↦ elim (nat_lt (m.count + 1) (2 ^ 31)) [
    | true ↦ go (record w { monitors = recounted w.monitors k (m.count + 1) })
    | false ↦ faults MonitorCount
  ]
]

abbrev pub enter : World → ℕ → ℕ → (World → Next) → Next
enter w number k go = entered w number k (monitor_in w.monitors k) go

-- enters the monitor of a synchronized method's receiver, if it is one
abbrev pub enter_if : World → ℕ → Option ℕ → (World → Next) → Next
enter_if w number None go = go w
enter_if w number (Some k) go = enter w number k go

-- the monitors after the thread has left one: none if it does not own it
abbrev pub left_in : List Monitor → ℕ → ℕ → Option Monitor → Option (List Monitor)
left_in monitors number k None = None
left_in monitors number k (Some m) = elim (nat_eq m.owner number) [
  | false ↦ None
  | true ↦ elim (nat_lt 1 m.count) [
    | true ↦ Some (recounted monitors k (m.count - 1))
    | false ↦ Some (without_monitor monitors k)
  ]
]

abbrev pub leave : World → ℕ → ℕ → Option World
leave w number k = elim (left_in w.monitors number k (monitor_in w.monitors k)) [ None ↦ None | Some monitors ↦ Some (record w { monitors = monitors }) ]

-- leaves the monitor of a synchronized method's frame, if it is one: none if the thread does not
-- own it
abbrev pub leave_if : World → ℕ → Option ℕ → Option World
leave_if w number None = Some w
leave_if w number (Some k) = leave w number k
