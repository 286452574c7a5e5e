-- What holds of each held monitor, after a thread has entered or left one.
use Rattle.std.proofs.Common.{◌≡◌, ℕ, ◌+◌, ◌-◌, ◌^◌, List, [], ◌∷◌, Option, Some, None, Bool, true, false, refl, sym, ap, ◌∙◌, subst, inl, inr}
use Rattle.std.specs.Prelude.{map, nat_eq, nat_lt, option_map, is_some}
use Rattle.std.specs.List.{AllByRecursion}
use Rattle.jm_values.specs.Content.{Content, name_of, serial_at}
use Rattle.jm_values.specs.Shape.{Among, list_shape}
use Rattle.jm_values.proofs.SoundContents.{name_is}
use Rattle.jm_world.specs.Renaming.{monitor_shape}
use Rattle.jm_world.specs.World.{Monitor}
use Rattle.jm_state.specs.Parts.{monitor_part}
use Rattle.jm_monitors.specs.Entries.{held_at}
use Rattle.jm_monitors.specs.declared.held.Held.{Held}
use Rattle.jm_monitors.specs.declared.entering.Entering.{Entering}
use Rattle.jm_monitors.specs.declared.entering.Entering.TheVariants.{Entered, Blocked, CountEnds}
use Rattle.jm_monitors.specs.HeldMonitors.{HeldMonitor, monitors_of, held_in, with_held, without_held, recounted_held}
use Rattle.jm_monitors.specs.HeldMonitors.{held_after_enter, held_after_exit}

-- the same with another count
abbrev pub counted : HeldMonitor → ℕ → HeldMonitor
counted h count = record { serial = h.serial; place = h.place; owner = h.owner; count = count }

-- what holds whatever the count
abbrev pub Lasts : (HeldMonitor → Type 0) → Type 0
Lasts P = (h : HeldMonitor) (count : ℕ) → P h → P (counted h count)

module _ (P : HeldMonitor → Type 0) (lasts : Lasts P) where
  all_with : (hs : List HeldMonitor) (new : HeldMonitor) → P new → AllByRecursion P hs → AllByRecursion P (with_held hs new)
  all_with [] new p all = (p, tt)
  all_with (h ∷ hs) new p all = by (nat_lt new.serial h.serial) (all_with hs new p all.1)
    where
      by : (b : Bool) → AllByRecursion P (with_held hs new)
          → AllByRecursion P (elim b as (λ _. List HeldMonitor) [ true ↦ new ∷ h ∷ hs | false ↦ h ∷ with_held hs new ])
      by true rest = (p, all)
      by false rest = (all.0, rest)

  all_without : (hs : List HeldMonitor) (serial : ℕ) → AllByRecursion P hs → AllByRecursion P (without_held hs serial)
  all_without [] serial all = tt
  all_without (h ∷ hs) serial all = by (nat_eq h.serial serial) (all_without hs serial all.1)
    where
      by : (b : Bool) → AllByRecursion P (without_held hs serial)
          → AllByRecursion P (elim b as (λ _. List HeldMonitor) [ true ↦ hs | false ↦ h ∷ without_held hs serial ])
      by true rest = all.1
      by false rest = (all.0, rest)

  all_recounted : (hs : List HeldMonitor) (serial count : ℕ) → AllByRecursion P hs → AllByRecursion P (recounted_held hs serial count)
  all_recounted [] serial count all = tt
  all_recounted (h ∷ hs) serial count all = by (nat_eq h.serial serial) (all_recounted hs serial count all.1)
    where
      by : (b : Bool) → AllByRecursion P (recounted_held hs serial count)
          → AllByRecursion P (elim b as (λ _. List HeldMonitor) [ true ↦ counted h count ∷ hs | false ↦ h ∷ recounted_held hs serial count ])
      by true rest = (lasts h count all.0, all.1)
      by false rest = (all.0, rest)

  -- after a thread has entered one, whose place is new where no thread held it
  pub all_entered : (hs : List HeldMonitor) (serial place thread : ℕ) → P (record { serial = serial; place = place; owner = thread; count = 1 })
      → AllByRecursion P hs → (o : Option HeldMonitor) → AllByRecursion P (held_after_enter hs serial place thread o).1
  all_entered hs serial place thread new all None = all_with hs (record { serial = serial; place = place; owner = thread; count = 1 }) new all
  all_entered hs serial place thread new all (Some h) = by (nat_eq h.owner thread) (nat_lt (h.count + 1) (2 ^ 31))
    where
      by : (b c : Bool) → AllByRecursion P (elim b as (λ _. Entering × List HeldMonitor) [
        | false ↦ (Blocked, hs)
        | true ↦ elim c [ true ↦ (Entered, recounted_held hs serial (h.count + 1)) | false ↦ (CountEnds, hs) ]
      ]).1
      by false c = all
      by true true = all_recounted hs serial (h.count + 1) all
      by true false = all

  -- after it has left one, if it did
  abbrev Remains : Option (List HeldMonitor) → Type 0
  Remains None = Unit {0}
  Remains (Some left) = AllByRecursion P left

  all_left : (hs : List HeldMonitor) (serial thread : ℕ) → AllByRecursion P hs → (o : Option HeldMonitor) → Remains (held_after_exit hs serial thread o)
  all_left hs serial thread all None = tt
  all_left hs serial thread all (Some h) = by (nat_eq h.owner thread) (nat_lt 1 h.count)
    where
      by : (b c : Bool) → Remains (elim b as (λ _. Option (List HeldMonitor)) [
        | false ↦ None
        | true ↦ elim c [ true ↦ Some (recounted_held hs serial (h.count - 1)) | false ↦ Some (without_held hs serial) ]
      ])
      by false c = tt
      by true true = all_recounted hs serial (h.count - 1) all
      by true false = all_without hs serial all

  pub all_remain : (hs : List HeldMonitor) (serial thread : ℕ) {left : List HeldMonitor} → AllByRecursion P hs
      → held_after_exit hs serial thread (held_in hs serial) ≡ Some left → AllByRecursion P left
  all_remain hs serial thread all is = subst Remains is (all_left hs serial thread all (held_in hs serial))

-- where it was not entered, nothing has changed
abbrev pub KeptUnless : Entering → List HeldMonitor → List HeldMonitor → Type 0
KeptUnless Entered new hs = Unit {0}
KeptUnless Blocked new hs = new ≡ hs
KeptUnless CountEnds new hs = new ≡ hs

pub kept_unless : (hs : List HeldMonitor) (serial place thread : ℕ) (o : Option HeldMonitor)
    → KeptUnless (held_after_enter hs serial place thread o).0 (held_after_enter hs serial place thread o).1 hs
kept_unless hs serial place thread None = tt
kept_unless hs serial place thread (Some h) = by (nat_eq h.owner thread) (nat_lt (h.count + 1) (2 ^ 31))
  where
    by : (b c : Bool) → KeptUnless (elim b as (λ _. Entering × List HeldMonitor) [
      | false ↦ (Blocked, hs)
      | true ↦ elim c [ true ↦ (Entered, recounted_held hs serial (h.count + 1)) | false ↦ (CountEnds, hs) ]
    ]).0 (elim b as (λ _. Entering × List HeldMonitor) [
      | false ↦ (Blocked, hs)
      | true ↦ elim c [ true ↦ (Entered, recounted_held hs serial (h.count + 1)) | false ↦ (CountEnds, hs) ]
    ]).1 hs
    by false c = refl
    by true true = tt
    by true false = refl

-- whether a thread owns one, as its leaving tells
pub owned : (hs : List HeldMonitor) (serial thread : ℕ) (o : Option Held)
    → is_some (held_after_exit hs serial thread (option_map (held_at serial) o)) ≡ elim o as (λ _. Bool) [ None ↦ false | Some h ↦ nat_eq h.owner thread ]
owned hs serial thread None = refl
owned hs serial thread (Some h) = by (nat_eq h.owner thread) (nat_lt 1 h.count)
  where
    by : (b c : Bool) → is_some (elim b as (λ _. Option (List HeldMonitor)) [
      | false ↦ None
      | true ↦ elim c [ true ↦ Some (recounted_held hs serial (h.count - 1)) | false ↦ Some (without_held hs serial) ]
    ]) ≡ b
    by false c = refl
    by true true = refl
    by true false = refl

-- the object of each lies at its place
abbrev pub AreNamed : (ℕ → ℕ) → List HeldMonitor → Type 0
AreNamed f hs = AllByRecursion (λ (h : HeldMonitor). f h.place ≡ h.serial) hs

abbrev rename : (ℕ → ℕ) → List HeldMonitor → List Monitor
rename f hs = map (monitor_shape.rename f) (map monitor_part hs)

pub named_by : (f : ℕ → ℕ) (hs : List HeldMonitor) → map (λ (h : HeldMonitor). h.serial) hs ≡ map (λ (m : Monitor). m.object) (rename f hs) → AreNamed f hs
named_by f [] e = tt
named_by f (h ∷ hs) e =
    let first : h.serial ≡ f h.place = cc in
    let others : map (λ (x : HeldMonitor). x.serial) hs ≡ map (λ (m : Monitor). m.object) (rename f hs) = cc in
    (sym first, named_by f hs others)

-- then they are the model's, by their serials
pub monitors_are : (f : ℕ → ℕ) (hs : List HeldMonitor) → AreNamed f hs → rename f hs ≡ monitors_of hs
monitors_are f [] all = refl
monitors_are f (h ∷ hs) all = λ i. record { object = all.0 i; owner = h.owner; count = h.count } ∷ monitors_are f hs all.1 i

pub serials_are : (hs : List HeldMonitor) → map (λ (h : HeldMonitor). h.serial) hs ≡ map (λ (m : Monitor). m.object) (monitors_of hs)
serials_are [] = refl
serials_are (h ∷ hs) = ap (λ ks. h.serial ∷ ks) (serials_are hs)

-- the object lies at its place, and its serial is one of a set
abbrev pub Settled : {T : Type 0} → Content T → (ℕ → Type 0) → HeldMonitor → Type 0
Settled c Q h = (serial_at c h.place ≡ Some h.serial) × Q h.serial

-- a place of an object of a set
abbrev pub Placed : {T : Type 0} → Content T → (ℕ → Type 0) → ℕ → Type 0
Placed c Q p = ((k : ℕ) × (serial_at c p ≡ Some k)) × Q (name_of c p)

module _ {T : Type 0} (c : Content T) (Q : ℕ → Type 0) where
  pub settled : (hs : List HeldMonitor) → AreNamed (name_of c) hs
      → ((p : ℕ) → Among p ((list_shape monitor_shape).refs (map monitor_part hs)) → Placed c Q p) → AllByRecursion (Settled c Q) hs
  settled [] named placed = tt
  settled (h ∷ hs) named placed =
      let here = placed h.place (inl refl) in
      let same : here.0.0 ≡ h.serial = sym (name_is c h.place here.0.0 here.0.1) ∙ named.0 in
      ((here.0.1 ∙ ap (λ k. Some k) same, subst Q named.0 here.1), settled hs named.1 (λ p a. placed p (inr a)))

  pub named_there : (hs : List HeldMonitor) → AllByRecursion (Settled c Q) hs → AreNamed (name_of c) hs
  named_there [] all = tt
  named_there (h ∷ hs) all = (name_is c h.place h.serial all.0.0, named_there hs all.1)

  pub placed_there : (hs : List HeldMonitor) → AllByRecursion (Settled c Q) hs → (p : ℕ)
      → Among p ((list_shape monitor_shape).refs (map monitor_part hs)) → Placed c Q p
  placed_there [] all p a = absurd a
  placed_there (h ∷ hs) all p (inl same) =
      let at_p : serial_at c p ≡ Some h.serial = ap (serial_at c) same ∙ all.0.0 in
      ((h.serial, at_p), subst Q (sym (name_is c p h.serial at_p)) all.0.1)
  placed_there (h ∷ hs) all p (inr more) = placed_there hs all.1 p more

  pub settled_lasts : Lasts (Settled c Q)
  settled_lasts h count s = s
