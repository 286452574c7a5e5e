-- Each element and one element of lists.
use Rattle.std.proofs.Common.{◌⊎◌, ℕ, zero, suc, ◌<◌, List, [], ◌∷◌, ◌++◌, length, get_or, inl, inr, refl, arith}
use Rattle.std.specs.List.{All, Any}
use Rattle.jm_explore.specs.Lists.{Each, HasOne}

module _ {X : Type 0} (P : X → Type 0) where
  pub each_append : (xs ys : List X) → Each P xs → Each P ys → Each P (xs ++ ys)
  each_append [] ys e f = f
  each_append (x ∷ xs) ys e f = (e.0, each_append xs ys e.1 f)

  pub each_pop : (xs : List X) (x : X) → Each P (xs ++ x ∷ []) → Each P xs × P x
  each_pop [] x e = (tt, e.0)
  each_pop (y ∷ xs) x e = let rest = each_pop xs x e.1 in ((e.0, rest.0), rest.1)

  pub each_as : (Q : X → Type 0) → ((x : X) → P x → Q x) → (xs : List X) → Each P xs → Each Q xs
  each_as Q f [] e = tt
  each_as Q f (x ∷ xs) e = (f x e.0, each_as Q f xs e.1)

  pub has_left : (xs ys : List X) → HasOne P xs → HasOne P (xs ++ ys)
  has_left [] ys h = absurd h
  has_left (x ∷ xs) ys (inl h) = inl h
  has_left (x ∷ xs) ys (inr h) = inr (has_left xs ys h)

  pub has_right : (xs ys : List X) → HasOne P ys → HasOne P (xs ++ ys)
  has_right [] ys h = h
  has_right (x ∷ xs) ys h = inr (has_right xs ys h)

  pub has_pop : (xs : List X) (x : X) → HasOne P (xs ++ x ∷ []) → HasOne P xs ⊎ P x
  has_pop [] x (inl h) = inr h
  has_pop [] x (inr h) = absurd h
  has_pop (y ∷ xs) x (inl h) = inl (inl h)
  has_pop (y ∷ xs) x (inr h) = elim (has_pop xs x h) [ inl a ↦ inl (inr a) | inr b ↦ inr b ]

  pub has_as : (Q : X → Type 0) (xs : List X) → Each (λ x. P x → Q x) xs → HasOne P xs → HasOne Q xs
  has_as Q [] e h = absurd h
  has_as Q (x ∷ xs) e (inl h) = inl (e.0 h)
  has_as Q (x ∷ xs) e (inr h) = inr (has_as Q xs e.1 h)

  pub has_at : (xs : List X) (k : ℕ) (d : X) → k < length xs → P (get_or xs k d) → HasOne P xs
  has_at [] k d low h = let no : ⊥ = omega (arith, low) in absurd no
  has_at (x ∷ xs) zero d low h = inl h
  has_at (x ∷ xs) (suc k) d low h = inr (has_at xs k d (omega (arith, low)) h)

  pub all_of : (xs : List X) → Each P xs → All P xs
  all_of [] e k d low = let bad : ⊥ = omega (arith, low) in absurd bad
  all_of (x ∷ xs) e zero d low = e.0
  all_of (x ∷ xs) e (suc k) d low = all_of xs e.1 k d (omega (arith, low))

  pub any_of : (xs : List X) → HasOne P xs → Any P xs
  any_of [] h = absurd h
  any_of (x ∷ xs) (inl h) = (0, x, omega arith, refl, h)
  any_of (x ∷ xs) (inr h) = let rest = any_of xs h in (suc rest.0, rest.1, (let low = rest.2 in omega (arith, low)), rest.3, rest.4)
