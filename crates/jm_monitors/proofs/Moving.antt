-- The places of held monitors, and others put in their place.
use Rattle.std.proofs.Common.{◌≡◌, ℕ, suc, List, [], ◌∷◌, Bool, true, cond, length, drop, refl, ap, ◌∙◌}
use Rattle.std.specs.Prelude.{map, flat_map}
use Rattle.std.specs.Map.{values_of}
use Rattle.std.specs.Map.Calls.{RetainsPairs}
use Rattle.jm_values.specs.Shape.{list_refill}
use Rattle.jm_monitors.specs.HeldMonitors.{HeldMonitor, held_shape}
use Rattle.jm_monitors.specs.Entries.{held_at, held_of, moved_to}
use Rattle.jm_monitors.specs.declared.held.Held.{Held}
use Rattle.jm_monitors.proofs.Counted.{AreCounted}

-- the values' places are the references
pub places_are_references : (es : List (ℕ × Held)) → map (λ (h : Held). h.place) (values_of es) ≡ flat_map held_shape.refs (held_of es)
places_are_references [] = refl
places_are_references (e ∷ es) = ap (λ l. e.1.place ∷ l) (places_are_references es)

pub one_reference_each : (es : List (ℕ × Held)) → length es ≡ length (flat_map held_shape.refs (held_of es))
one_reference_each [] = refl
one_reference_each (e ∷ es) = ap suc (one_reference_each es)

moved_is_refilled : (k : ℕ) (h : Held) (ns : List ℕ) → held_at k (moved_to ns h) ≡ held_shape.refill ns (held_at k h)
moved_is_refilled k h [] = refl
moved_is_refilled k h (n ∷ ns) = refl

-- a call at each entry that keeps it and gives it the next place gives all of them theirs
pub all_moved : {F : Type 0} (T : F → ℕ → Held → Bool → Held → F → Type 0) (left : F → List ℕ)
    → ((f : F) (k : ℕ) (v : Held) (b : Bool) (w : Held) (f' : F) → T f k v b w f' → (b ≡ true) × (w ≡ moved_to (left f) v) × (left f' ≡ drop 1 (left f)))
    → (f : F) (es kept : List (ℕ × Held)) → RetainsPairs T f es kept → held_of kept ≡ list_refill held_shape (left f) (held_of es)
all_moved T left each f [] kept r = ap held_of r
all_moved T left each f (e ∷ es) kept r =
    let told = each f e.0 e.1 r.0 r.1 r.2 r.4 in
    ap held_of (r.6 ∙ ap (λ (b : Bool). cond b ((e.0, r.1) ∷ r.3) r.3) told.0)
    ∙ ap (λ (h : Held). held_at e.0 h ∷ held_of r.3) told.1
    ∙ ap (λ (h : HeldMonitor). h ∷ held_of r.3) (moved_is_refilled e.0 e.1 (left f))
    ∙ ap (λ (l : List HeldMonitor). held_shape.refill (left f) (held_at e.0 e.1) ∷ l) (all_moved T left each r.2 es r.3 r.5 ∙ ap (λ ns. list_refill held_shape ns (held_of es)) told.2)

pub refilled_counted : (ns : List ℕ) (hs : List HeldMonitor) → AreCounted hs → AreCounted (list_refill held_shape ns hs)
refilled_counted ns [] f = tt
refilled_counted ns (h ∷ hs) f = (f.0, refilled_counted (drop 1 ns) hs f.1)
