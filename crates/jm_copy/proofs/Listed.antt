-- Elements of lists by their numbers, and references among values.
use Rattle.std.proofs.Common.{◌≡◌, ℕ, zero, suc, List, [], ◌∷◌, Some, refl, sym, ap, ◌∙◌, inl, inr, length, arith}
use Rattle.std.specs.Prelude.{slice_get, map}
use Rattle.jm_values.specs.Shape.{Among}
use Rattle.jm_values.specs.Rename.{refs, stack_shape}
use Rattle.jm_values.specs.declared.value.Value.{Value}
use Rattle.jm_values.specs.declared.value.Value.TheVariants.{Int, Long, Null, Ref}
use Rattle.jm_values.proofs.Among.{among_left, among_right}

pub mapped_at : {X Y : Type 0} (f : X → Y) (xs : List X) (i : ℕ) (y : Y) → slice_get (map f xs) i ≡ Some y → (x : X) × (slice_get xs i ≡ Some x) × (y ≡ f x)
mapped_at f [] i y e = cc
mapped_at f (x ∷ xs) zero y e = (x, refl, let same : f x ≡ y = cc in sym same)
mapped_at f (x ∷ xs) (suc i) y e = mapped_at f xs i y e

-- two lists with the same elements are one
pub same_lists : {X : Type 0} (xs ys : List X) → length xs ≡ length ys → ((i : ℕ) (x y : X) → slice_get xs i ≡ Some x → slice_get ys i ≡ Some y → x ≡ y) → xs ≡ ys
same_lists [] [] m h = refl
same_lists [] (y ∷ ys) m h = absurd (omega arith)
same_lists (x ∷ xs) [] m h = absurd (omega arith)
same_lists (x ∷ xs) (y ∷ ys) m h =
    ap (λ z. z ∷ xs) (h 0 x y refl refl) ∙ ap (λ zs. y ∷ zs) (same_lists xs ys (omega arith) (λ i a b e f. h (suc i) a b e f))

-- and a reference among the values
pub ref_at : (vs : List Value) (i p : ℕ) → slice_get vs i ≡ Some (Ref p) → Among p (stack_shape.refs vs)
ref_at [] i p e = cc
ref_at (v ∷ vs) zero p e = let same : v ≡ Ref p = cc in among_left p (refs v) (stack_shape.refs vs) (by v same)
  where
    by : (v : Value) → v ≡ Ref p → Among p (refs v)
    by (Ref q) e = let same : q ≡ p = cc in inl (sym same)
    by (Int n) e = cc
    by (Long n) e = cc
    by Null e = cc
ref_at (v ∷ vs) (suc i) p e = among_right p (refs v) (stack_shape.refs vs) (ref_at vs i p e)

pub at_ref : (vs : List Value) (p : ℕ) → Among p (stack_shape.refs vs) → (i : ℕ) × (slice_get vs i ≡ Some (Ref p))
at_ref [] p h = absurd h
at_ref (Ref q ∷ vs) p (inl e) = (0, ap (λ y. Some (Ref y)) (sym e))
at_ref (Ref q ∷ vs) p (inr h) = let at = at_ref vs p h in (suc at.0, at.1)
at_ref (Int n ∷ vs) p h = let at = at_ref vs p h in (suc at.0, at.1)
at_ref (Long n ∷ vs) p h = let at = at_ref vs p h in (suc at.0, at.1)
at_ref (Null ∷ vs) p h = let at = at_ref vs p h in (suc at.0, at.1)
