-- Entries by serial that are found, put in, taken out and written, as monitors.
use Rattle.std.proofs.Common.{◌≡◌, ◌≢◌, ℕ, List, [], ◌∷◌, Option, Some, None, Bool, true, false, cond, refl, sym, ap, ◌∙◌, ◌⊎◌, inl, inr, Less, Equal, Greater}
use Rattle.std.specs.Prelude.{map, nat_eq, nat_lt, ◌==◌, option_map}
use Rattle.std.specs.Ordering.{nat_cmp, is_eq, match_ordering}
use Rattle.std.specs.Cmp.{unsigned_tied}
use Rattle.std.specs.Map.{keys_of, lookup, set_value, remove_entry}
use Rattle.std.specs.BTreeMap.{insert_entry, is_at}
use Rattle.std.proofs.lemmas.Bool.Decides.{eqb_tells}
use Rattle.jm_program.proofs.Numbers.{equal}
use Rattle.jm_monitors.specs.HeldMonitors.{HeldMonitor, held_in, with_held, without_held, recounted_held}
use Rattle.jm_monitors.specs.Entries.{held_at, held_of}
use Rattle.jm_monitors.specs.declared.held.Held.{Held}

either_way : (k q : ℕ) → (k == q) ≡ nat_eq q k
either_way k q = by (k == q) (nat_eq q k) (eqb_tells k q) (eqb_tells q k)
  where
    by : (b c : Bool) → ((b ≡ true) × (k ≡ q)) ⊎ ((b ≡ false) × (k ≢ q)) → ((c ≡ true) × (q ≡ k)) ⊎ ((c ≡ false) × (q ≢ k)) → b ≡ c
    by b c (inl s) (inl t) = s.0 ∙ sym t.0
    by b c (inl s) (inr t) = absurd (t.1 (sym s.1))
    by b c (inr s) (inl t) = absurd (s.1 (sym t.1))
    by b c (inr s) (inr t) = s.0 ∙ sym t.0

-- a look-up for a serial stops where the serial is
stops_at : (k q : ℕ) → is_at (nat_cmp k) q ≡ nat_eq q k
stops_at k q = unsigned_tied k q ∙ either_way k q

-- what a look-up finds is the monitor of the serial
pub held_is_found : (es : List (ℕ × Held)) (k : ℕ) → held_in (held_of es) k ≡ option_map (held_at k) (lookup (is_at (nat_cmp k)) es)
held_is_found [] k = refl
held_is_found (e ∷ es) k = by (nat_eq e.0 k) (is_at (nat_cmp k) e.0) (stops_at k e.0) (equal e.0 k) (held_is_found es k)
  where
    by : (b c : Bool) → c ≡ b → (b ≡ true → e.0 ≡ k) → held_in (held_of es) k ≡ option_map (held_at k) (lookup (is_at (nat_cmp k)) es)
        → (elim b as (λ _. Option HeldMonitor) [ true ↦ Some (held_at e.0 e.1) | false ↦ held_in (held_of es) k ]) ≡ option_map (held_at k) (cond c (Some e.1) (lookup (is_at (nat_cmp k)) es))
    by true true q s ih = ap (λ n. Some (held_at n e.1)) (s refl)
    by false false q s ih = ih
    by true false q s ih = cc
    by false true q s ih = cc

-- an entry of a new serial is put before the first one of a higher serial
pub new_stands_in_order : (es : List (ℕ × Held)) (k : ℕ) (v : Held) → lookup (is_at (nat_cmp k)) es ≡ None → held_of (insert_entry nat_cmp es k v) ≡ with_held (held_of es) (held_at k v)
new_stands_in_order [] k v h = refl
new_stands_in_order (e ∷ es) k v h = by (nat_lt k e.0) (k == e.0) h (new_stands_in_order es k v)
  where
    by : (b c : Bool) → cond (is_eq (cond b Less (cond c Equal Greater))) (Some e.1) (lookup (is_at (nat_cmp k)) es) ≡ None
        → (lookup (is_at (nat_cmp k)) es ≡ None → held_of (insert_entry nat_cmp es k v) ≡ with_held (held_of es) (held_at k v))
        → held_of (match_ordering (cond b Less (cond c Equal Greater)) ((k, v) ∷ e ∷ es) ((e.0, v) ∷ es) (e ∷ insert_entry nat_cmp es k v))
        ≡ elim b as (λ _. List HeldMonitor) [ true ↦ held_at k v ∷ held_at e.0 e.1 ∷ held_of es | false ↦ held_at e.0 e.1 ∷ with_held (held_of es) (held_at k v) ]
    by true c n ih = refl
    by false true n ih = cc
    by false false n ih = ap (λ l. held_at e.0 e.1 ∷ l) (ih n)

-- an entry with another count is the monitor with that count
pub written_is_recounted : (es : List (ℕ × Held)) (k : ℕ) (v w : Held) → lookup (is_at (nat_cmp k)) es ≡ Some v → w.place ≡ v.place → w.owner ≡ v.owner → held_of (set_value (is_at (nat_cmp k)) es w) ≡ recounted_held (held_of es) k w.count
written_is_recounted [] k v w h p o = refl
written_is_recounted (e ∷ es) k v w h p o = by (nat_eq e.0 k) (is_at (nat_cmp k) e.0) (stops_at k e.0) h (λ n. written_is_recounted es k v w n p o)
  where
    by : (b c : Bool) → c ≡ b → cond c (Some e.1) (lookup (is_at (nat_cmp k)) es) ≡ Some v
        → (lookup (is_at (nat_cmp k)) es ≡ Some v → held_of (set_value (is_at (nat_cmp k)) es w) ≡ recounted_held (held_of es) k w.count)
        → held_of (cond c ((e.0, w) ∷ es) (e ∷ set_value (is_at (nat_cmp k)) es w))
        ≡ elim b as (λ _. List HeldMonitor) [ true ↦ record { serial = e.0; place = e.1.place; owner = e.1.owner; count = w.count } ∷ held_of es | false ↦ held_at e.0 e.1 ∷ recounted_held (held_of es) k w.count ]
    by true true q n ih =
        let same : e.1 ≡ v = cc in
        ap (λ (x : ℕ). record { serial = e.0; place = x; owner = w.owner; count = w.count } ∷ held_of es) (p ∙ ap (λ (x : Held). x.place) (sym same))
        ∙ ap (λ (x : ℕ). record { serial = e.0; place = e.1.place; owner = x; count = w.count } ∷ held_of es) (o ∙ ap (λ (x : Held). x.owner) (sym same))
    by false false q n ih = ap (λ l. held_at e.0 e.1 ∷ l) (ih n)
    by true false q n ih = cc
    by false true q n ih = cc

pub removed_is_left_out : (es : List (ℕ × Held)) (k : ℕ) → held_of (remove_entry (is_at (nat_cmp k)) es) ≡ without_held (held_of es) k
removed_is_left_out [] k = refl
removed_is_left_out (e ∷ es) k = by (nat_eq e.0 k) (is_at (nat_cmp k) e.0) (stops_at k e.0) (removed_is_left_out es k)
  where
    by : (b c : Bool) → c ≡ b → held_of (remove_entry (is_at (nat_cmp k)) es) ≡ without_held (held_of es) k
        → held_of (cond c es (e ∷ remove_entry (is_at (nat_cmp k)) es)) ≡ elim b as (λ _. List HeldMonitor) [ true ↦ held_of es | false ↦ held_at e.0 e.1 ∷ without_held (held_of es) k ]
    by true true q ih = refl
    by false false q ih = ap (λ l. held_at e.0 e.1 ∷ l) ih
    by true false q ih = cc
    by false true q ih = cc

-- the keys are the serials
pub serials_are_keys : (es : List (ℕ × Held)) → map (λ h. h.serial) (held_of es) ≡ keys_of es
serials_are_keys [] = refl
serials_are_keys (e ∷ es) = ap (λ l. e.0 ∷ l) (serials_are_keys es)

-- no entry has a serial that is not held
pub no_entry : (es : List (ℕ × Held)) (k : ℕ) → held_in (held_of es) k ≡ None → lookup (is_at (nat_cmp k)) es ≡ None
no_entry es k e = by (lookup (is_at (nat_cmp k)) es) (sym (held_is_found es k) ∙ e)
  where
    by : (o : Option Held) → option_map (held_at k) o ≡ None → o ≡ None
    by None q = refl
    by (Some v) q = cc
