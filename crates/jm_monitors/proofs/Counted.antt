-- Changes that keep held monitors in order and counted.
use Rattle.std.proofs.Common.{◌≡◌, ℕ, List, [], ◌∷◌, Option, Some, None, Bool, true, false, refl, sym, ap, ◌∙◌, subst}
use Rattle.std.specs.Prelude.{nat_eq, nat_lt, option_map, IfSome}
use Rattle.std.specs.List.{AllByRecursion}
use Rattle.std.specs.List.Sorted.{IsStrictlySortedBy}
use Rattle.std.specs.Ordering.{nat_cmp}
use Rattle.std.specs.BTreeMap.{insert_entry, is_at}
use Rattle.std.specs.Map.{keys_of, lookup, set_value, remove_entry}
use Rattle.jm_monitors.specs.HeldMonitors.{HeldMonitor, AreHeld, IsCount, held_in, with_held, without_held, recounted_held}
use Rattle.jm_monitors.specs.Entries.{held_at, held_of}
use Rattle.jm_monitors.specs.declared.held.Held.{Held}
use Rattle.jm_monitors.proofs.EntryLemmas.{serials_are_keys, held_is_found, no_entry, new_stands_in_order, written_is_recounted, removed_is_left_out}

abbrev pub AreCounted : List HeldMonitor → Type 0
AreCounted = AllByRecursion (λ h. IsCount h.count)

pub with_counted : (hs : List HeldMonitor) (new : HeldMonitor) → AreCounted hs → IsCount new.count → AreCounted (with_held hs new)
with_counted [] new f c = (c, tt)
with_counted (h ∷ hs) new f c = by (nat_lt new.serial h.serial) (with_counted hs new f.1 c)
  where
    by : (b : Bool) → AreCounted (with_held hs new) → AreCounted (elim b as (λ _. List HeldMonitor) [ true ↦ new ∷ h ∷ hs | false ↦ h ∷ with_held hs new ])
    by true ih = (c, f)
    by false ih = (f.0, ih)

pub without_counted : (hs : List HeldMonitor) (k : ℕ) → AreCounted hs → AreCounted (without_held hs k)
without_counted [] k f = tt
without_counted (h ∷ hs) k f = by (nat_eq h.serial k) (without_counted hs k f.1)
  where
    by : (b : Bool) → AreCounted (without_held hs k) → AreCounted (elim b as (λ _. List HeldMonitor) [ true ↦ hs | false ↦ h ∷ without_held hs k ])
    by true ih = f.1
    by false ih = (f.0, ih)

pub recounted_counted : (hs : List HeldMonitor) (k count : ℕ) → AreCounted hs → IsCount count → AreCounted (recounted_held hs k count)
recounted_counted [] k count f c = tt
recounted_counted (h ∷ hs) k count f c = by (nat_eq h.serial k) (recounted_counted hs k count f.1 c)
  where
    by : (b : Bool) → AreCounted (recounted_held hs k count) → AreCounted (elim b as (λ _. List HeldMonitor) [ true ↦ record { serial = h.serial; place = h.place; owner = h.owner; count = count } ∷ hs | false ↦ h ∷ recounted_held hs k count ])
    by true ih = (c, f.1)
    by false ih = (f.0, ih)

pub counted_at : (hs : List HeldMonitor) (k : ℕ) (h : HeldMonitor) → AreCounted hs → held_in hs k ≡ Some h → IsCount h.count
counted_at [] k h f e = cc
counted_at (x ∷ xs) k h f e = by (nat_eq x.serial k) (counted_at xs k h f.1) e
  where
    by : (b : Bool) → (held_in xs k ≡ Some h → IsCount h.count) → (elim b as (λ _. Option HeldMonitor) [ true ↦ Some x | false ↦ held_in xs k ]) ≡ Some h → IsCount h.count
    by true ih q = let same : x ≡ h = cc in subst (λ (m : HeldMonitor). IsCount m.count) same f.0
    by false ih q = ih q

-- what a look-up finds has such a count
pub all_counted_at : (es : List (ℕ × Held)) (k : ℕ) (o : Option Held) → AreCounted (held_of es) → o ≡ lookup (is_at (nat_cmp k)) es → IfSome o (λ h. IsCount h.count)
all_counted_at es k None f e = tt
all_counted_at es k (Some h) f e = counted_at (held_of es) k (held_at k h) f (held_is_found es k ∙ ap (option_map (held_at k)) (sym e))

-- one that no thread holds has no count to change
pub none_recounted : (hs : List HeldMonitor) (k count : ℕ) → held_in hs k ≡ None → recounted_held hs k count ≡ hs
none_recounted [] k count e = refl
none_recounted (x ∷ xs) k count e = by (nat_eq x.serial k) (none_recounted xs k count) e
  where
    by : (b : Bool) → (held_in xs k ≡ None → recounted_held xs k count ≡ xs) → (elim b as (λ _. Option HeldMonitor) [ true ↦ Some x | false ↦ held_in xs k ]) ≡ None
        → (elim b as (λ _. List HeldMonitor) [ true ↦ record { serial = x.serial; place = x.place; owner = x.owner; count = count } ∷ xs | false ↦ x ∷ recounted_held xs k count ]) ≡ x ∷ xs
    by true ih q = cc
    by false ih q = ap (λ l. x ∷ l) (ih q)

-- entries in order
pub in_order : (es : List (ℕ × Held)) → IsStrictlySortedBy nat_cmp (keys_of es) → AreCounted (held_of es) → AreHeld (held_of es)
in_order es s c = record { ordered = subst (IsStrictlySortedBy nat_cmp) (sym (serials_are_keys es)) s; counted = c }

-- what is held when one has been added, has another count, or was taken away, and it is in order
pub added : (es new : List (ℕ × Held)) (hs : List HeldMonitor) (k : ℕ) (v : Held) → held_of es ≡ hs → held_in hs k ≡ None → new ≡ insert_entry nat_cmp es k v
    → IsStrictlySortedBy nat_cmp (keys_of new) → AreCounted (held_of es) → IsCount v.count → (held_of new ≡ with_held hs (held_at k v)) × AreHeld (held_of new)
added es new hs k v view absent e order counted count = (stands ∙ ap (λ l. with_held l (held_at k v)) view, in_order new order (subst AreCounted (sym stands) (with_counted (held_of es) (held_at k v) counted count)))
  where
    stands : held_of new ≡ with_held (held_of es) (held_at k v)
    stands = ap held_of e ∙ new_stands_in_order es k v (no_entry es k (ap (λ l. held_in l k) view ∙ absent))

pub rewritten : (es new : List (ℕ × Held)) (hs : List HeldMonitor) (k count : ℕ) (v : Held) → held_of es ≡ hs → Some v ≡ lookup (is_at (nat_cmp k)) es
    → new ≡ set_value (is_at (nat_cmp k)) es (record { place = v.place; owner = v.owner; count = count })
    → IsStrictlySortedBy nat_cmp (keys_of new) → AreCounted (held_of es) → IsCount count → (held_of new ≡ recounted_held hs k count) × AreHeld (held_of new)
rewritten es new hs k count v view found e order counted fits = (stands ∙ ap (λ l. recounted_held l k count) view, in_order new order (subst AreCounted (sym stands) (recounted_counted (held_of es) k count counted fits)))
  where
    stands : held_of new ≡ recounted_held (held_of es) k count
    stands = ap held_of e ∙ written_is_recounted es k v (record { place = v.place; owner = v.owner; count = count }) (sym found) refl refl

pub taken : (es new : List (ℕ × Held)) (hs : List HeldMonitor) (k : ℕ) → held_of es ≡ hs → new ≡ remove_entry (is_at (nat_cmp k)) es
    → IsStrictlySortedBy nat_cmp (keys_of new) → AreCounted (held_of es) → (held_of new ≡ without_held hs k) × AreHeld (held_of new)
taken es new hs k view e order counted = (stands ∙ ap (λ l. without_held l k) view, in_order new order (subst AreCounted (sym stands) (without_counted (held_of es) k counted)))
  where
    stands : held_of new ≡ without_held (held_of es) k
    stands = ap held_of e ∙ removed_is_left_out es k

-- nothing to recount
pub not_there : (es : List (ℕ × Held)) (hs : List HeldMonitor) (k count : ℕ) → held_of es ≡ hs → None ≡ lookup (is_at (nat_cmp k)) es → held_of es ≡ recounted_held hs k count
not_there es hs k count view e = view ∙ sym (none_recounted hs k count (ap (λ l. held_in l k) (sym view) ∙ held_is_found es k ∙ ap (option_map (held_at k)) (sym e)))
