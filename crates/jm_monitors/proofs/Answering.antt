-- What the calls of a thread come to, by how the monitor is held.
use Rattle.std.proofs.Common.{◌≡◌, ◌≢◌, ℕ, ◌+◌, ◌-◌, ◌^◌, ◌<◌, ◌≤◌, List, Option, Some, None, Bool, true, false, refl, sym, ap, ◌∙◌, subst, ◌⊎◌}
use Rattle.std.specs.Prelude.{nat_eq, nat_lt, option_map}
use Rattle.std.proofs.lemmas.Bool.{lt-ltb, le-ltb}
use Rattle.jm_program.proofs.Numbers.{found_unequal as other, found_equal as own}
use Rattle.jm_world.specs.Monitors.{monitor_in, left_in}
use Rattle.jm_monitors.specs.declared.entering.Entering.{Entering}
use Rattle.jm_monitors.specs.declared.entering.Entering.TheVariants.{Entered, Blocked, CountEnds}
use Rattle.jm_monitors.specs.HeldMonitors.{HeldMonitor, monitors_of, held_in, with_held, without_held, recounted_held, held_after_enter, held_after_exit, EntersAs}
use Rattle.jm_monitors.proofs.InTheModel.{enters_as_the_model, leaves_as_the_model}
use Rattle.jm_values.proofs.Outcomes.{on_err}

-- entering one that a thread holds
enters_held : (hs : List HeldMonitor) (k place thread : ℕ) (h : HeldMonitor) (b c : Bool) → Some h ≡ held_in hs k → nat_eq h.owner thread ≡ b → nat_lt (h.count + 1) (2 ^ 31) ≡ c
    → (elim b as (λ _. Entering × List HeldMonitor) [ false ↦ (Blocked, hs) | true ↦ elim c [ true ↦ (Entered, recounted_held hs k (h.count + 1)) | false ↦ (CountEnds, hs) ] ]) ≡ held_after_enter hs k place thread (held_in hs k)
enters_held hs k place thread h b c e p q =
    ap (λ (x : Bool). elim x as (λ _. Entering × List HeldMonitor) [ false ↦ (Blocked, hs) | true ↦ elim c [ true ↦ (Entered, recounted_held hs k (h.count + 1)) | false ↦ (CountEnds, hs) ] ]) (sym p)
    ∙ ap (λ (x : Bool). elim (nat_eq h.owner thread) as (λ _. Entering × List HeldMonitor) [ false ↦ (Blocked, hs) | true ↦ elim x [ true ↦ (Entered, recounted_held hs k (h.count + 1)) | false ↦ (CountEnds, hs) ] ]) (sym q)
    ∙ ap (held_after_enter hs k place thread) e

pub enters_new : (hs : List HeldMonitor) (k place thread : ℕ) → None ≡ held_in hs k → (Entered, with_held hs (record { serial = k; place = place; owner = thread; count = 1 })) ≡ held_after_enter hs k place thread (held_in hs k)
enters_new hs k place thread e = ap (held_after_enter hs k place thread) e

pub is_blocked : (hs : List HeldMonitor) (k place thread : ℕ) (h : HeldMonitor) → Some h ≡ held_in hs k → h.owner ≢ thread → (Blocked, hs) ≡ held_after_enter hs k place thread (held_in hs k)
is_blocked hs k place thread h e n = enters_held hs k place thread h false (nat_lt (h.count + 1) (2 ^ 31)) e (other h.owner thread n) refl

pub count_ends : (hs : List HeldMonitor) (k place thread : ℕ) (h : HeldMonitor) → Some h ≡ held_in hs k → h.owner ≡ thread → 2 ^ 31 ≤ h.count + 1 → (CountEnds, hs) ≡ held_after_enter hs k place thread (held_in hs k)
count_ends hs k place thread h e o l = enters_held hs k place thread h true false e (own h.owner thread o) (le-ltb (h.count + 1) (2 ^ 31) l)

pub enters_again : (hs : List HeldMonitor) (k place thread : ℕ) (h : HeldMonitor) → Some h ≡ held_in hs k → h.owner ≡ thread → h.count + 1 < 2 ^ 31
    → (Entered, recounted_held hs k (h.count + 1)) ≡ held_after_enter hs k place thread (held_in hs k)
enters_again hs k place thread h e o l = enters_held hs k place thread h true true e (own h.owner thread o) (lt-ltb (h.count + 1) (2 ^ 31) l)

-- and so it is in the model
pub enters_as : (hs : List HeldMonitor) (k place thread : ℕ) (answer : Entering) (new : List HeldMonitor) → (answer, new) ≡ held_after_enter hs k place thread (held_in hs k) → EntersAs answer k thread hs new
enters_as hs k place thread answer new e = subst (λ (p : Entering × List HeldMonitor). EntersAs p.0 k thread hs p.1) (sym e) (enters_as_the_model hs k place thread)

-- leaving one that a thread holds
leaves_held : (hs : List HeldMonitor) (k thread : ℕ) (h : HeldMonitor) (b c : Bool) → Some h ≡ held_in hs k → nat_eq h.owner thread ≡ b → nat_lt 1 h.count ≡ c
    → held_after_exit hs k thread (held_in hs k) ≡ elim b as (λ _. Option (List HeldMonitor)) [ false ↦ None | true ↦ elim c [ true ↦ Some (recounted_held hs k (h.count - 1)) | false ↦ Some (without_held hs k) ] ]
leaves_held hs k thread h b c e p q =
    ap (held_after_exit hs k thread) (sym e)
    ∙ ap (λ (x : Bool). elim x as (λ _. Option (List HeldMonitor)) [ false ↦ None | true ↦ elim (nat_lt 1 h.count) [ true ↦ Some (recounted_held hs k (h.count - 1)) | false ↦ Some (without_held hs k) ] ]) p
    ∙ ap (λ (x : Bool). elim b as (λ _. Option (List HeldMonitor)) [ false ↦ None | true ↦ elim x [ true ↦ Some (recounted_held hs k (h.count - 1)) | false ↦ Some (without_held hs k) ] ]) q

pub leaves_none : (hs : List HeldMonitor) (k thread : ℕ) → None ≡ held_in hs k → held_after_exit hs k thread (held_in hs k) ≡ None
leaves_none hs k thread e = ap (held_after_exit hs k thread) (sym e)

pub does_not_leave : (hs : List HeldMonitor) (k thread : ℕ) (h : HeldMonitor) → Some h ≡ held_in hs k → h.owner ≢ thread → held_after_exit hs k thread (held_in hs k) ≡ None
does_not_leave hs k thread h e n = leaves_held hs k thread h false (nat_lt 1 h.count) e (other h.owner thread n) refl

pub leaves_once : (hs : List HeldMonitor) (k thread : ℕ) (h : HeldMonitor) → Some h ≡ held_in hs k → h.owner ≡ thread → 1 < h.count → held_after_exit hs k thread (held_in hs k) ≡ Some (recounted_held hs k (h.count - 1))
leaves_once hs k thread h e o l = leaves_held hs k thread h true true e (own h.owner thread o) (lt-ltb 1 h.count l)

pub leaves_last : (hs : List HeldMonitor) (k thread : ℕ) (h : HeldMonitor) → Some h ≡ held_in hs k → h.owner ≡ thread → h.count ≤ 1 → held_after_exit hs k thread (held_in hs k) ≡ Some (without_held hs k)
leaves_last hs k thread h e o l = leaves_held hs k thread h true false e (own h.owner thread o) (le-ltb 1 h.count l)

-- and so it is in the model
pub leaves_as : (hs : List HeldMonitor) (k thread : ℕ) (left : Option (List HeldMonitor)) → held_after_exit hs k thread (held_in hs k) ≡ left → left_in (monitors_of hs) thread k (monitor_in (monitors_of hs) k) ≡ option_map monitors_of left
leaves_as hs k thread left e = leaves_as_the_model hs k thread ∙ ap (option_map monitors_of) e
