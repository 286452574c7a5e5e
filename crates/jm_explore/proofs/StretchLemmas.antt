-- Stretches, one event after the other.
use Rattle.std.proofs.Common.{◌≡◌, ◌≢◌, ℕ, ◌+◌, List, [], ◌∷◌, Bool, true, false, refl, ap, sym, ◌∙◌, arith, eq-eqb, ne_eqb}
use Rattle.std.specs.Prelude.{nat_eq}
use Rattle.jm_explore.specs.ScheduleTexts.{Stretch, joined, stretches}

abbrev pub of : ℕ → ℕ → Stretch
of t count = record { thread = t; count = count }

-- a stretch in front of others, by whether the next is of its thread
abbrev joined_if : Bool → Stretch → Stretch → List Stretch → List Stretch
joined_if true s x xs = record { thread = s.thread; count = s.count + x.count } ∷ xs
joined_if false s x xs = s ∷ x ∷ xs

by_thread : (s x : Stretch) (xs : List Stretch) → joined s (x ∷ xs) ≡ joined_if (nat_eq s.thread x.thread) s x xs
by_thread s x xs = by (nat_eq s.thread x.thread)
  where
    by : (b : Bool) → elim b [ true ↦ record { thread = s.thread; count = s.count + x.count } ∷ xs | false ↦ s ∷ x ∷ xs ] ≡ joined_if b s x xs
    by true = refl
    by false = refl

same_thread : (t c n : ℕ) (xs : List Stretch) → joined (of t c) (of t n ∷ xs) ≡ of t (c + n) ∷ xs
same_thread t c n xs = by_thread (of t c) (of t n) xs ∙ ap (λ b. joined_if b (of t c) (of t n) xs) (eq-eqb t t refl)

other_thread : (t c u n : ℕ) (xs : List Stretch) → t ≢ u → joined (of t c) (of u n ∷ xs) ≡ of t c ∷ of u n ∷ xs
other_thread t c u n xs other = by_thread (of t c) (of u n) xs ∙ ap (λ b. joined_if b (of t c) (of u n) xs) (ne_eqb t u other)

-- what an event in front makes of the stretches behind it: they are one with it or not
abbrev Behind : ℕ → List Stretch → Type 0
Behind t ss = (n : ℕ) × (xs : List Stretch) × ((c : ℕ) → joined (of t c) ss ≡ of t (c + n) ∷ xs)

behind_if : (b : Bool) (t : ℕ) (x : Stretch) (xs : List Stretch) → nat_eq t x.thread ≡ b → Behind t (x ∷ xs)
behind_if true t x xs is = (x.count, xs, λ c. by_thread (of t c) x xs ∙ ap (λ b. joined_if b (of t c) x xs) is)
behind_if false t x xs is = (0, x ∷ xs, λ c. by_thread (of t c) x xs ∙ ap (λ b. joined_if b (of t c) x xs) is ∙ ap (λ (n : ℕ). of t n ∷ x ∷ xs) (omega arith))

behind : (t : ℕ) (ss : List Stretch) → Behind t ss
behind t [] = (0, [], λ c. ap (λ (n : ℕ). of t n ∷ []) (omega arith))
behind t (x ∷ xs) = behind_if (nat_eq t x.thread) t x xs refl

-- one event more of the thread
pub event_more : (t c : ℕ) (ts : List ℕ) → joined (of t c) (stretches (t ∷ ts)) ≡ joined (of t (c + 1)) (stretches ts)
event_more t c ts =
    let b = behind t (stretches ts) in
    ap (joined (of t c)) (b.2 1) ∙ same_thread t c (1 + b.0) b.1 ∙ ap (λ (n : ℕ). of t n ∷ b.1) (omega arith) ∙ sym (b.2 (c + 1))

-- another thread's event ends the stretch
pub stretch_ends : (t c u : ℕ) (ts : List ℕ) → u ≢ t → joined (of t c) (stretches (u ∷ ts)) ≡ of t c ∷ joined (of u 1) (stretches ts)
stretch_ends t c u ts other =
    let b = behind u (stretches ts) in
    ap (joined (of t c)) (b.2 1) ∙ other_thread t c u (1 + b.0) b.1 (λ same. other (sym same)) ∙ ap (λ (ss : List Stretch). of t c ∷ ss) (sym (b.2 1))
