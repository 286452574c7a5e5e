-- The extents of classes as one more is found.
use Rattle.std.proofs.Common.{◌≡◌, ◌≢◌, ℕ, zero, suc, ◌+◌, ◌<◌, ◌≤◌, List, [], ◌∷◌, Option, Some, None, Bool, nat_lt, nat_eq, true, false, length, replicate}
use Rattle.std.proofs.Common.{get_or, set, refl, sym, ◌∙◌, ap, subst, arith, slice_get, eq-eqb, eqb-true, length-set, get_or-set_same, get_or-set_other}
use Rattle.std.specs.Prelude.{IsSome, IfSome, is_some, option_map}
use Rattle.std.proofs.lemmas.Option.{slice_get_within, get_or_from_slice_get}
use Rattle.jm_tables.specs.declared.extent.DeclaredFields.{DeclaredFields}
use Rattle.jm_tables.specs.declared.extent.Extent.{Extent}
use Rattle.jm_tables.specs.Inheriting.{StandsBefore}
use Rattle.jm_tables.specs.Extents.{own_count, inherited_over, extent_over, IsExtent, AreExtents}

-- no extent is known yet
pub none_known : (n : ℕ) (classes : List DeclaredFields) (count : ℕ) → AreExtents n classes (replicate count None)
unfolding AreExtents
none_known n classes count = λ class e is. absurd (by count class e is)
  where
    by : (count class : ℕ) (e : Extent) → get_or (replicate count None) class None ≡ Some e → ⊥
    by zero class e is = cc
    by (suc count) zero e is = cc
    by (suc count) (suc class) e is = by count class e is

pub extent_more : (n : ℕ) (classes : List DeclaredFields) (class : ℕ) (e : Extent) → IsExtent n classes class e → IsExtent (suc n) classes class e
unfolding IsExtent
extent_more zero classes class e h = absurd h
extent_more (suc n) classes class e h = (h.0, h.1, h.2, by (λ s above i. extent_more n classes s above i) h.0.superclass h.3)
  where
    by : ((s : ℕ) (above : Extent) → IsExtent n classes s above → IsExtent (suc n) classes s above) → (s : Option ℕ)
        → (elim s as (λ _. Type 0) [ None ↦ e.inherited ≡ 0 | Some s ↦ (above : Extent) × IsExtent n classes s above × (e.inherited ≡ above.size) ])
        → (elim s as (λ _. Type 0) [ None ↦ e.inherited ≡ 0 | Some s ↦ (above : Extent) × IsExtent (suc n) classes s above × (e.inherited ≡ above.size) ])
    by more None i = i
    by more (Some s) i = (i.0, more s i.0 i.1, i.2)

-- what comes to what is inherited
with_own : (d : DeclaredFields) (o : Option ℕ) (e : Extent)
    → option_map (λ k. let it : Extent = record { inherited = k; size = k + own_count d.fields.now } in it) o ≡ Some e
    → (o ≡ Some e.inherited) × (e.size ≡ e.inherited + own_count d.fields.now)
with_own d None e h = cc
with_own d (Some k) e h = let same : ◌≡◌ {A = Extent} (record { inherited = k; size = k + own_count d.fields.now }) e = cc in (
  ap (λ (x : Extent). Some x.inherited) same,
  sym (ap (λ (x : Extent). x.size) same) ∙ ap (λ (x : Extent). x.inherited + own_count d.fields.now) same,
)

above_known : (n : ℕ) (classes : List DeclaredFields) (extents : List (Option Extent)) (s : ℕ) (o : Option Extent) (k : ℕ)
    → ((e : Extent) → o ≡ Some e → IsExtent n classes s e) → option_map (λ (above : Extent). above.size) o ≡ Some k
    → (above : Extent) × IsExtent n classes s above × (k ≡ above.size)
above_known n classes extents s None k known e = cc
above_known n classes extents s (Some above) k known e = (above, known above refl, (let same : Some above.size ≡ Some k = e in cc))

-- a class whose superclass's extent is known
pub extent_found : (n : ℕ) (classes : List DeclaredFields) (extents : List (Option Extent)) (class : ℕ) (d : DeclaredFields) (e : Extent)
    → AreExtents n classes extents → slice_get classes class ≡ Some d → extent_over extents d ≡ Some e → IsExtent (suc n) classes class e
unfolding IsExtent AreExtents
extent_found n classes extents class d e known is found =
    let parts = with_own d (inherited_over extents d.superclass) e found in (d, is, parts.1, by d.superclass parts.0)
  where
    by : (s : Option ℕ) → inherited_over extents s ≡ Some e.inherited
        → (elim s as (λ _. Type 0) [ None ↦ e.inherited ≡ 0 | Some s ↦ (above : Extent) × IsExtent n classes s above × (e.inherited ≡ above.size) ])
    by None h = let same : Some 0 ≡ Some e.inherited = h in cc
    by (Some s) h = above_known n classes extents s (get_or extents s None) e.inherited (λ above at. known s above at) h

-- one more extent
pub extents_more : (i : ℕ) (classes : List DeclaredFields) (extents : List (Option Extent)) (class : ℕ) (d : DeclaredFields) (e : Extent)
    → length extents ≡ length classes → AreExtents i classes extents → slice_get classes class ≡ Some d → extent_over extents d ≡ Some e
    → AreExtents (i + 1) classes (set extents class (Some e))
unfolding AreExtents
extents_more i classes extents class d e long known is found = λ k x at. by k x at (nat_eq k class) refl
  where
    next : i + 1 ≡ suc i
    next = omega arith

    within : class < length extents
    within = omega (arith, long, slice_get_within classes class d is)

    by : (k : ℕ) (x : Extent) → get_or (set extents class (Some e)) k None ≡ Some x → (t : Bool) → nat_eq k class ≡ t → IsExtent (i + 1) classes k x
    by k x at true is_class =
        let same : k ≡ class = eqb-true k class is_class in
        let here : Some e ≡ Some x = sym (get_or-set_same extents class (Some e) None within)
        ∙ ap (λ j. get_or (set extents class (Some e)) j None) (sym same) ∙ at in
        let it : e ≡ x = cc in
        subst (λ n. IsExtent n classes k x) (sym next)
        (subst (λ j. IsExtent (suc i) classes j x) (sym same) (subst (IsExtent (suc i) classes class) it
        (extent_found i classes extents class d e known is found)))
    by k x at false is_other =
        let ne : k ≢ class = λ same. let t = eq-eqb k class same in cc in
        subst (λ n. IsExtent n classes k x) (sym next)
        (extent_more i classes k x (known k x (sym (get_or-set_other extents class k (Some e) None ne) ∙ at)))

-- what is known of a class stays known
pub stays_known : {A : Type 0} (known : List (Option A)) (class other : ℕ) (e : A) → class < length known → IsSome (get_or known other None)
    → IsSome (get_or (set known class (Some e)) other None)
stays_known {A} known class other e within h = by (nat_eq other class) refl
  where
    by : (t : Bool) → nat_eq other class ≡ t → IsSome (get_or (set known class (Some e)) other None)
    by true is = rw (eqb-true other class is, get_or-set_same known class (Some e) None within) refl
    by false is = let ne : other ≢ class = λ same. let t = eq-eqb other class same in cc in
        rw (get_or-set_other known class other (Some e) None ne) h

pub known_more : {A : Type 0} (order : List ℕ) (known : List (Option A)) (i class : ℕ) (e : A) → class < length known → class ≡ get_or order i 0
    → ((k : ℕ) → StandsBefore order i k → IsSome (get_or known k None))
    → (k : ℕ) → StandsBefore order (i + 1) k → IsSome (get_or (set known class (Some e)) k None)
known_more {A} order known i class e within is before k s = by (nat_lt s.0 i) refl
  where
    by : (t : Bool) → nat_lt s.0 i ≡ t → IsSome (get_or (set known class (Some e)) k None)
    by true b = let less : s.0 < i = grind (arith, b) in stays_known known class k e within (before k (s.0, less, s.2))
    by false b =
        let at : s.0 ≡ i = (let less = s.1 in grind (arith, b, less)) in
        let same : k ≡ class = sym (get_or_from_slice_get order s.0 k 0 s.2) ∙ ap (λ j. get_or order j 0) at ∙ sym is in
        rw (same, get_or-set_same known class (Some e) None within) refl

-- what stands right above a class is known
pub above_is_known : (extents : List (Option Extent)) (d : DeclaredFields) → IfSome d.superclass (λ s. IsSome (get_or extents s None))
    → extent_over extents d ≡ None → ⊥
above_is_known extents d h none = by d.superclass h none
  where
    by : (s : Option ℕ) → IfSome s (λ s. IsSome (get_or extents s None))
        → option_map (λ k. let it : Extent = record { inherited = k; size = k + own_count d.fields.now } in it) (inherited_over extents s) ≡ None → ⊥
    by None i e = cc
    by (Some s) i e = at (get_or extents s None) i e
      where
        at : (o : Option Extent) → IsSome o → option_map (λ k. let it : Extent = record { inherited = k; size = k + own_count d.fields.now } in it)
            (option_map (λ (above : Extent). above.size) o) ≡ None → ⊥
        at None i e = cc
        at (Some x) i e = cc
