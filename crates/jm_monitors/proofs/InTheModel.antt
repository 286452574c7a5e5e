-- What is done to held monitors, beside the model's words over the objects' numbers.
use Rattle.std.proofs.Common.{◌≡◌, ◌+◌, ◌-◌, ◌^◌, ℕ, List, [], ◌∷◌, Option, Some, None, Bool, true, false, refl, sym, ap, ◌∙◌}
use Rattle.std.specs.Prelude.{nat_eq, nat_lt, option_map}
use Rattle.jm_values.specs.declared.fault.TagFault.TheVariants.{MonitorCount}
use Rattle.jm_world.specs.Monitors.{monitor_in, with_monitor, without_monitor, recounted, entered, left_in}
use Rattle.jm_world.specs.Next.{Next, blocks, faults}
use Rattle.jm_world.specs.World.{Monitor}
use Rattle.jm_monitors.specs.Entries.{held_at}
use Rattle.jm_monitors.specs.declared.held.Held.{Held}
use Rattle.jm_monitors.specs.declared.entering.Entering.{Entering}
use Rattle.jm_monitors.specs.declared.entering.Entering.TheVariants.{Entered, Blocked, CountEnds}
use Rattle.jm_monitors.specs.HeldMonitors.{HeldMonitor, monitor_of, monitors_of, held_in, with_held, without_held, recounted_held, held_after_enter, held_after_exit, next_of, EntersAs}

pub held_is_monitor : (hs : List HeldMonitor) (k : ℕ) → monitor_in (monitors_of hs) k ≡ option_map monitor_of (held_in hs k)
held_is_monitor [] k = refl
held_is_monitor (h ∷ hs) k = by (nat_eq h.serial k) (held_is_monitor hs k)
  where
    by : (b : Bool) → monitor_in (monitors_of hs) k ≡ option_map monitor_of (held_in hs k)
        → (elim b as (λ _. Option Monitor) [ true ↦ Some (monitor_of h) | false ↦ monitor_in (monitors_of hs) k ]) ≡ option_map monitor_of (elim b as (λ _. Option HeldMonitor) [ true ↦ Some h | false ↦ held_in hs k ])
    by true ih = refl
    by false ih = ih

with_is_with : (hs : List HeldMonitor) (new : HeldMonitor) → monitors_of (with_held hs new) ≡ with_monitor (monitors_of hs) (monitor_of new)
with_is_with [] new = refl
with_is_with (h ∷ hs) new = by (nat_lt new.serial h.serial) (with_is_with hs new)
  where
    by : (b : Bool) → monitors_of (with_held hs new) ≡ with_monitor (monitors_of hs) (monitor_of new)
        → monitors_of (elim b as (λ _. List HeldMonitor) [ true ↦ new ∷ h ∷ hs | false ↦ h ∷ with_held hs new ])
        ≡ elim b as (λ _. List Monitor) [ true ↦ monitor_of new ∷ monitor_of h ∷ monitors_of hs | false ↦ monitor_of h ∷ with_monitor (monitors_of hs) (monitor_of new) ]
    by true ih = refl
    by false ih = ap (λ l. monitor_of h ∷ l) ih

without_is_without : (hs : List HeldMonitor) (k : ℕ) → monitors_of (without_held hs k) ≡ without_monitor (monitors_of hs) k
without_is_without [] k = refl
without_is_without (h ∷ hs) k = by (nat_eq h.serial k) (without_is_without hs k)
  where
    by : (b : Bool) → monitors_of (without_held hs k) ≡ without_monitor (monitors_of hs) k
        → monitors_of (elim b as (λ _. List HeldMonitor) [ true ↦ hs | false ↦ h ∷ without_held hs k ]) ≡ elim b as (λ _. List Monitor) [ true ↦ monitors_of hs | false ↦ monitor_of h ∷ without_monitor (monitors_of hs) k ]
    by true ih = refl
    by false ih = ap (λ l. monitor_of h ∷ l) ih

recounted_is_recounted : (hs : List HeldMonitor) (k count : ℕ) → monitors_of (recounted_held hs k count) ≡ recounted (monitors_of hs) k count
recounted_is_recounted [] k count = refl
recounted_is_recounted (h ∷ hs) k count = by (nat_eq h.serial k) (recounted_is_recounted hs k count)
  where
    by : (b : Bool) → monitors_of (recounted_held hs k count) ≡ recounted (monitors_of hs) k count
        → monitors_of (elim b as (λ _. List HeldMonitor) [ true ↦ record { serial = h.serial; place = h.place; owner = h.owner; count = count } ∷ hs | false ↦ h ∷ recounted_held hs k count ])
        ≡ elim b as (λ _. List Monitor) [ true ↦ record { object = h.serial; owner = h.owner; count = count } ∷ monitors_of hs | false ↦ monitor_of h ∷ recounted (monitors_of hs) k count ]
    by true ih = refl
    by false ih = ap (λ l. monitor_of h ∷ l) ih

-- a thread enters as it does in the model
pub enters_as_the_model : (hs : List HeldMonitor) (k place thread : ℕ) → EntersAs (held_after_enter hs k place thread (held_in hs k)).0 k thread hs (held_after_enter hs k place thread (held_in hs k)).1
enters_as_the_model hs k place thread w go e = ap (λ ms. entered w thread k (monitor_in ms k) go) e ∙ ap (λ o. entered w thread k o go) (held_is_monitor hs k) ∙ by (held_in hs k)
  where
    goes_on : (ms ns : List Monitor) → ms ≡ ns → go (record w { monitors = ms }) ≡ go (record w { monitors = ns })
    goes_on ms ns q = ap (λ l. go (record w { monitors = l })) q

    counts : (h : HeldMonitor) (b c : Bool) → (elim b as (λ _. Next) [ false ↦ blocks | true ↦ elim c [ true ↦ go (record w { monitors = recounted w.monitors k (h.count + 1) }) | false ↦ faults MonitorCount ] ])
        ≡ next_of (elim b as (λ _. Entering × List HeldMonitor) [ false ↦ (Blocked, hs) | true ↦ elim c [ true ↦ (Entered, recounted_held hs k (h.count + 1)) | false ↦ (CountEnds, hs) ] ]).0
        (go (record w { monitors = monitors_of (elim b as (λ _. Entering × List HeldMonitor) [ false ↦ (Blocked, hs) | true ↦ elim c [ true ↦ (Entered, recounted_held hs k (h.count + 1)) | false ↦ (CountEnds, hs) ] ]).1 }))
    counts h false c = refl
    counts h true false = refl
    counts h true true = goes_on _ _ (ap (λ ms. recounted ms k (h.count + 1)) e ∙ sym (recounted_is_recounted hs k (h.count + 1)))

    by : (o : Option HeldMonitor) → entered w thread k (option_map monitor_of o) go ≡ next_of (held_after_enter hs k place thread o).0 (go (record w { monitors = monitors_of (held_after_enter hs k place thread o).1 }))
    by None = goes_on _ _ (ap (λ ms. with_monitor ms (record { object = k; owner = thread; count = 1 })) e ∙ sym (with_is_with hs (record { serial = k; place = place; owner = thread; count = 1 })))
    by (Some h) = counts h (nat_eq h.owner thread) (nat_lt (h.count + 1) (2 ^ 31))

-- a thread leaves as it does in the model
pub leaves_as_the_model : (hs : List HeldMonitor) (k thread : ℕ) → left_in (monitors_of hs) thread k (monitor_in (monitors_of hs) k) ≡ option_map monitors_of (held_after_exit hs k thread (held_in hs k))
leaves_as_the_model hs k thread = ap (left_in (monitors_of hs) thread k) (held_is_monitor hs k) ∙ by (held_in hs k)
  where
    counts : (h : HeldMonitor) (b c : Bool) → (elim b as (λ _. Option (List Monitor)) [ false ↦ None | true ↦ elim c [ true ↦ Some (recounted (monitors_of hs) k (h.count - 1)) | false ↦ Some (without_monitor (monitors_of hs) k) ] ])
        ≡ option_map monitors_of (elim b as (λ _. Option (List HeldMonitor)) [ false ↦ None | true ↦ elim c [ true ↦ Some (recounted_held hs k (h.count - 1)) | false ↦ Some (without_held hs k) ] ])
    counts h false c = refl
    counts h true true = ap (λ l. Some l) (sym (recounted_is_recounted hs k (h.count - 1)))
    counts h true false = ap (λ l. Some l) (sym (without_is_without hs k))

    by : (o : Option HeldMonitor) → left_in (monitors_of hs) thread k (option_map monitor_of o) ≡ option_map monitors_of (held_after_exit hs k thread o)
    by None = refl
    by (Some h) = counts h (nat_eq h.owner thread) (nat_lt 1 h.count)

-- the owner of the model's monitor
pub owner_of : (hs : List HeldMonitor) (k : ℕ) (o : Option Held) → option_map (held_at k) o ≡ held_in hs k → option_map (λ (h : Held). h.owner) o ≡ option_map (λ (m : Monitor). m.owner) (monitor_in (monitors_of hs) k)
owner_of hs k o e = by o ∙ ap (λ p. option_map (λ (m : Monitor). m.owner) (option_map monitor_of p)) e ∙ ap (option_map (λ (m : Monitor). m.owner)) (sym (held_is_monitor hs k))
  where
    by : (p : Option Held) → option_map (λ (h : Held). h.owner) p ≡ option_map (λ (m : Monitor). m.owner) (option_map monitor_of (option_map (held_at k) p))
    by None = refl
    by (Some h) = refl
