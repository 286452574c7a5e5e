-- Numbers of a list, and names on it.
use Rattle.std.proofs.Common.{◌≡◌, ◌⊎◌, ℕ, zero, suc, List, [], ◌∷◌, ◌++◌, Option, Some, refl, sym, ap, ◌∙◌, inl, inr}
use Rattle.std.specs.Prelude.{map, slice_get}
use Rattle.jm_values.specs.Shape.{Among, AgreeOn}

pub among_left : (n : ℕ) (a b : List ℕ) → Among n a → Among n (a ++ b)
among_left n [] b h = absurd h
among_left n (x ∷ a) b (inl e) = inl e
among_left n (x ∷ a) b (inr h) = inr (among_left n a b h)

pub among_right : (n : ℕ) (a b : List ℕ) → Among n b → Among n (a ++ b)
among_right n [] b h = h
among_right n (x ∷ a) b h = inr (among_right n a b h)

pub among_split : (n : ℕ) (a b : List ℕ) → Among n (a ++ b) → Among n a ⊎ Among n b
among_split n [] b h = inr h
among_split n (x ∷ a) b (inl e) = inl (inl e)
among_split n (x ∷ a) b (inr h) = elim (among_split n a b h) [ inl l ↦ inl (inr l) | inr r ↦ inr r ]

pub among_map : (f : ℕ → ℕ) (n : ℕ) (ns : List ℕ) → Among n ns → Among (f n) (map f ns)
among_map f n [] h = absurd h
among_map f n (x ∷ ns) (inl e) = inl (ap f e)
among_map f n (x ∷ ns) (inr h) = inr (among_map f n ns h)

pub among_mapped : (f : ℕ → ℕ) (k : ℕ) (ns : List ℕ) → Among k (map f ns) → (n : ℕ) × Among n ns × (k ≡ f n)
among_mapped f k [] h = absurd h
among_mapped f k (x ∷ ns) (inl e) = (x, inl refl, e)
among_mapped f k (x ∷ ns) (inr h) = let r = among_mapped f k ns h in (r.0, inr r.1, r.2)

-- equal lists of names have equal names
pub same_names : (f g : ℕ → ℕ) (ns : List ℕ) → map f ns ≡ map g ns → AgreeOn f g ns
same_names f g [] e p a = absurd a
same_names f g (n ∷ ns) e p (inl i) = let h : f n ≡ g n = cc in ap f i ∙ h ∙ ap g (sym i)
same_names f g (n ∷ ns) e p (inr a) = let t : map f ns ≡ map g ns = cc in same_names f g ns t p a

-- a number of a list has an index, and what an index has is one of the list
pub among_read : (ns : List ℕ) (i n : ℕ) → slice_get ns i ≡ Some n → Among n ns
among_read [] i n e = cc
among_read (m ∷ ns) zero n e = inl (cc)
among_read (m ∷ ns) (suc i) n e = inr (among_read ns i n e)

pub index_among : (ns : List ℕ) (n : ℕ) → Among n ns → (i : ℕ) × (slice_get ns i ≡ Some n)
index_among [] n h = absurd h
index_among (x ∷ ns) n (inl e) = (0, ap (λ y. Some y) (sym e))
index_among (x ∷ ns) n (inr h) = let at = index_among ns n h in (suc at.0, at.1)

pub among_or_last : (n m : ℕ) (ns : List ℕ) → Among n (ns ++ m ∷ []) → Among n ns ⊎ (n ≡ m)
among_or_last n m [] (inl e) = inr e
among_or_last n m [] (inr h) = absurd h
among_or_last n m (x ∷ ns) (inl e) = inl (inl e)
among_or_last n m (x ∷ ns) (inr h) = elim (among_or_last n m ns h) [ inl a ↦ inl (inr a) | inr e ↦ inr e ]
