-- A plain row brings no reference of its own: it does the same under names that are told apart
-- from themselves only away from the references of the start.
use Rattle.std.proofs.Common.{◌≡◌, ℕ, suc, List, [], ◌∷◌, Bool, true, false, refl, sym, ap, ◌∙◌, inl, inr, ◌⊎◌, arith}
use Rattle.std.specs.Prelude.{map, nat_eq, ◌||◌, if◌then◌else◌}
use Rattle.std.proofs.lemmas.Bool.{eqb-true, eq-eqb}
use Rattle.jm_values.specs.Shape.{Among, IsOneToOne}
use Rattle.jm_values.specs.Activation.{Activation}
use Rattle.jm_values.specs.Outcome.{Outcome, goes}
use Rattle.jm_values.specs.Rename.{rename_activation, rename_outcome, refs_activation}
use Rattle.jm_values.specs.Laws.{CommutesWithRenaming, BringsNoReference}
use Rattle.jm_values.proofs.Among.{same_names}
use Rattle.jm_values.proofs.Renaming.{activation_is_shape}

-- whether a number is in a list
is_in : ℕ → List ℕ → Bool
is_in k [] = false
is_in k (x ∷ xs) = nat_eq k x || is_in k xs

is_in-among : (k : ℕ) (xs : List ℕ) → Among k xs → is_in k xs ≡ true
unfolding is_in
is_in-among k [] a = absurd a
is_in-among k (x ∷ xs) (inl e) = rw (eq-eqb k x e) refl
is_in-among k (x ∷ xs) (inr a) = or_right (nat_eq k x) (is_in k xs) (is_in-among k xs a)
  where
    or_right : (a b : Bool) → b ≡ true → (a || b) ≡ true
    or_right true b e = refl
    or_right false b e = e

among_from : (k : ℕ) (xs : List ℕ) → is_in k xs ≡ true → Among k xs
unfolding is_in
among_from k [] e = cc
among_from k (x ∷ xs) e = pick (nat_eq k x) refl (among_from k xs)
  where
    pick : (b : Bool) → nat_eq k x ≡ b → (is_in k xs ≡ true → Among k xs) → (k ≡ x) ⊎ Among k xs
    pick true t h = inl (eqb-true k x t)
    pick false t h = inr (h (rw t at e))

-- a name that moves each number that is not in the list
marker : List ℕ → ℕ → ℕ
marker ns p = if is_in p ns then p else suc p

marker_in : (ns : List ℕ) (p : ℕ) → Among p ns → p ≡ marker ns p
unfolding marker
marker_in ns p a = rw (is_in-among p ns a) refl

in_marker : (ns : List ℕ) (p : ℕ) → p ≡ marker ns p → Among p ns
unfolding marker
in_marker ns p e = pick (is_in p ns) refl
  where
    pick : (b : Bool) → is_in p ns ≡ b → Among p ns
    pick true t = among_from p ns t
    pick false t = let h : p ≡ suc p = rw t at e in absurd (omega arith)

-- whatever does the same under names that are one-to-one brings no new reference
pub brings_none : (row : Activation → Outcome) → CommutesWithRenaming row → BringsNoReference row
brings_none row natural a b made p i =
    let ns = refs_activation a in
    let one : IsOneToOne (marker ns) ns = λ q r j k e. marker_in ns q j ∙ e ∙ sym (marker_in ns r k) in
    let same : rename_activation (λ q. q) a ≡ rename_activation (marker ns) a = (activation_is_shape a).agrees (λ q. q) (marker ns) (marker_in ns) in
    let still : a ≡ rename_activation (marker ns) a = sym (activation_is_shape a).keeps ∙ same in
    let both : row a ≡ rename_outcome (marker ns) (row a) = ap row still ∙ natural (marker ns) a one in
    let reached : goes b ≡ goes (rename_activation (marker ns) b) = sym made ∙ both ∙ ap (rename_outcome (marker ns)) made in
    let alike : b ≡ rename_activation (marker ns) b = cc in
    let names : map (λ q. q) (refs_activation b) ≡ map (marker ns) (refs_activation b) =
    sym ((activation_is_shape b).renamed (λ q. q)) ∙ ap refs_activation (activation_is_shape b).keeps ∙ ap refs_activation alike ∙ (activation_is_shape b).renamed (marker ns) in
    in_marker ns p (same_names (λ q. q) (marker ns) (refs_activation b) names p i)
