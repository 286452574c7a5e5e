-- Stretches with more turns, and the entry of a number.
use Rattle.std.proofs.Common.{◌≡◌, ℕ, zero, suc, ◌+◌, ◌-◌, ◌≤◌, ◌<◌, List, [], ◌∷◌, ◌++◌, refl, sym, ap, subst, ◌∙◌, replicate, append_assoc, append-nil, length, arith, Some, None}
use Rattle.std.specs.Prelude.{slice_get, slice_index_or}
use Rattle.std.specs.List.Sorted.{IsNonDecreasingBy}
use Rattle.std.proofs.lemmas.Option.{slice_get_past}
use Rattle.std.proofs.lemmas.List.{replicate-append-replicate, length-replicate, length-append}
use Rattle.jm_shared.specs.declared.entry.Entry.{Entry}
use Rattle.jm_shared.specs.declared.stretch.Stretch.{Stretch}
use Rattle.jm_shared.specs.Stretches.{entry_in, entries_from, RisesFrom, entries_of, Rises}

-- ---- no turn

pub no_entries : (ss : List Stretch) (c : Stretch) → ss ≡ [] → c.end ≡ 0 → entries_of ss c ≡ []
unfolding entries_of
no_entries ss c none end = ap (λ xs. entries_from 0 (xs ++ c ∷ [])) none ∙ ap (λ n. replicate (n - 0) (entry_in c) ++ []) end

pub empty_rises : (ss : List Stretch) (c : Stretch) → ss ≡ [] → Rises ss c
unfolding Rises
empty_rises ss c none = subst (λ xs. RisesFrom 0 (xs ++ c ∷ [])) (sym none) (omega arith, tt)

-- ---- more turns of the last stretch

more_from : (start : ℕ) (ss : List Stretch) (c d : Stretch) (n : ℕ) → RisesFrom start (ss ++ c ∷ []) → entry_in c ≡ entry_in d → d.end ≡ c.end + n
    → entries_from start (ss ++ d ∷ []) ≡ entries_from start (ss ++ c ∷ []) ++ replicate n (entry_in d)
more_from start [] c d n rises same end =
    let size : d.end - start ≡ (c.end - start) + n = let low = rises.0 in omega arith in
    append-nil (replicate (d.end - start) (entry_in d))
    ∙ ap (λ k. replicate k (entry_in d)) size
    ∙ sym (replicate-append-replicate (c.end - start) n (entry_in d))
    ∙ ap (λ e. replicate (c.end - start) e ++ replicate n (entry_in d)) (sym same)
    ∙ ap (λ es. es ++ replicate n (entry_in d)) (sym (append-nil (replicate (c.end - start) (entry_in c))))
more_from start (s ∷ ss) c d n rises same end =
    ap (λ es. replicate (s.end - start) (entry_in s) ++ es) (more_from s.end ss c d n rises.1 same end)
    ∙ sym (append_assoc (replicate (s.end - start) (entry_in s)) (entries_from s.end (ss ++ c ∷ [])) (replicate n (entry_in d)))

rises_more : (start : ℕ) (ss : List Stretch) (c d : Stretch) → RisesFrom start (ss ++ c ∷ []) → c.end ≤ d.end → RisesFrom start (ss ++ d ∷ [])
rises_more start [] c d rises end = (let low = rises.0 in omega arith, tt)
rises_more start (s ∷ ss) c d rises end = (rises.0, rises_more s.end ss c d rises.1 end)

pub some_more : (ss : List Stretch) (c d : Stretch) (n : ℕ) → Rises ss c → entry_in c ≡ entry_in d → d.end ≡ c.end + n
    → entries_of ss d ≡ entries_of ss c ++ replicate n (entry_in d)
unfolding entries_of Rises
some_more ss c d n rises same end = more_from 0 ss c d n rises same end

pub still_rises : (ss : List Stretch) (c d : Stretch) (n : ℕ) → Rises ss c → d.end ≡ c.end + n → Rises ss d
unfolding Rises
still_rises ss c d n rises end = rises_more 0 ss c d rises (omega arith)

pub none_more : (ss : List Stretch) (c : Stretch) (e : Entry) (n : ℕ) → n ≡ 0 → entries_of ss c ≡ entries_of ss c ++ replicate n e
none_more ss c e n none = sym (append-nil (entries_of ss c)) ∙ ap (λ k. entries_of ss c ++ replicate k e) (sym none)

-- ---- a new stretch

new_from : (start : ℕ) (ss : List Stretch) (c d : Stretch) (n : ℕ) → d.end ≡ c.end + n
    → entries_from start ((ss ++ c ∷ []) ++ d ∷ []) ≡ entries_from start (ss ++ c ∷ []) ++ replicate n (entry_in d)
new_from start [] c d n end =
    let size : d.end - c.end ≡ n = omega arith in
    ap (λ k. replicate (c.end - start) (entry_in c) ++ (replicate k (entry_in d) ++ [])) size
    ∙ ap (λ es. replicate (c.end - start) (entry_in c) ++ es) (append-nil (replicate n (entry_in d)))
    ∙ ap (λ es. es ++ replicate n (entry_in d)) (sym (append-nil (replicate (c.end - start) (entry_in c))))
new_from start (s ∷ ss) c d n end =
    ap (λ es. replicate (s.end - start) (entry_in s) ++ es) (new_from s.end ss c d n end)
    ∙ sym (append_assoc (replicate (s.end - start) (entry_in s)) (entries_from s.end (ss ++ c ∷ [])) (replicate n (entry_in d)))

rises_new : (start : ℕ) (ss : List Stretch) (c d : Stretch) → RisesFrom start (ss ++ c ∷ []) → c.end ≤ d.end → RisesFrom start ((ss ++ c ∷ []) ++ d ∷ [])
rises_new start [] c d rises end = (rises.0, (end, tt))
rises_new start (s ∷ ss) c d rises end = (rises.0, rises_new s.end ss c d rises.1 end)

pub some_new : (ss ts : List Stretch) (c d : Stretch) (n : ℕ) → ts ≡ ss ++ c ∷ [] → d.end ≡ c.end + n
    → entries_of ts d ≡ entries_of ss c ++ replicate n (entry_in d)
unfolding entries_of
some_new ss ts c d n is end = ap (λ xs. entries_from 0 (xs ++ d ∷ [])) is ∙ new_from 0 ss c d n end

pub new_rises : (ss ts : List Stretch) (c d : Stretch) (n : ℕ) → ts ≡ ss ++ c ∷ [] → Rises ss c → d.end ≡ c.end + n → Rises ts d
unfolding Rises
new_rises ss ts c d n is rises end = subst (λ xs. RisesFrom 0 (xs ++ d ∷ [])) (sym is) (rises_new 0 ss c d rises (omega arith))

-- ---- how many there are

length_from : (start : ℕ) (ss : List Stretch) (c : Stretch) → RisesFrom start (ss ++ c ∷ []) → length (entries_from start (ss ++ c ∷ [])) + start ≡ c.end
length_from start [] c rises =
    let low = rises.0 in
    let size : length (replicate (c.end - start) (entry_in c) ++ []) ≡ c.end - start = ap length (append-nil (replicate (c.end - start) (entry_in c))) ∙ length-replicate (c.end - start) (entry_in c) in
    omega (arith, size, low)
length_from start (s ∷ ss) c rises =
    let low = rises.0 in
    let rest = length_from s.end ss c rises.1 in
    let size = length-replicate (s.end - start) (entry_in s) in
    let both = length-append (replicate (s.end - start) (entry_in s)) (entries_from s.end (ss ++ c ∷ [])) in
    omega (arith, low, rest, size, both)

pub how_many : (ss : List Stretch) (c : Stretch) → Rises ss c → length (entries_of ss c) ≡ c.end
unfolding entries_of Rises
how_many ss c rises = let all = length_from 0 ss c rises in omega (arith, all)

-- ---- the entry of a number

in_replicate : (n k : ℕ) (e : Entry) (rest : List Entry) → k < n → slice_get (replicate n e ++ rest) k ≡ Some e
in_replicate zero k e rest h = absurd (omega arith)
in_replicate (suc n) zero e rest h = refl
in_replicate (suc n) (suc k) e rest h = in_replicate n k e rest (omega arith)

past_replicate : (n k : ℕ) (e : Entry) (rest : List Entry) → n ≤ k → slice_get (replicate n e ++ rest) k ≡ slice_get rest (k - n)
past_replicate zero k e rest h = ap (slice_get rest) (omega arith)
past_replicate (suc n) zero e rest h = absurd (omega arith)
past_replicate (suc n) (suc k) e rest h = let same : k - n ≡ suc k - suc n = omega arith in past_replicate n k e rest (omega arith) ∙ ap (slice_get rest) same

past_stretch : (start number : ℕ) (s : Stretch) (rest : List Entry) → start ≤ s.end → s.end ≤ number → slice_get (replicate (s.end - start) (entry_in s) ++ rest) (number - start) ≡ slice_get rest (number - s.end)
past_stretch start number s rest low past =
    let same : number - start - (s.end - start) ≡ number - s.end = omega arith in
    past_replicate (s.end - start) (number - start) (entry_in s) rest (omega arith) ∙ ap (slice_get rest) same

-- every stretch before this index ends at the number or before
abbrev AllEnd : ℕ → ℕ → List Stretch → Type 0
AllEnd number i ss = (k : ℕ) (d : Stretch) → k < i → (slice_index_or ss k d).end ≤ number

inside_from : (start : ℕ) (ss : List Stretch) (c s : Stretch) (i number : ℕ) → RisesFrom start (ss ++ c ∷ []) → start ≤ number → AllEnd number i ss → slice_get ss i ≡ Some s → number < s.end → slice_get (entries_from start (ss ++ c ∷ [])) (number - start) ≡ Some (entry_in s)
inside_from start [] c s i number rises low ends there within = absurd (let no = there in cc)
inside_from start (x ∷ xs) c s zero number rises low ends there within =
    let same : x ≡ s = cc in
    subst (λ y. slice_get (replicate (x.end - start) (entry_in x) ++ entries_from x.end (xs ++ c ∷ [])) (number - start) ≡ Some (entry_in y)) same
    (in_replicate (x.end - start) (number - start) (entry_in x) (entries_from x.end (xs ++ c ∷ [])) (let last : x.end ≡ s.end = ap (λ y. y.end) same in omega arith))
inside_from start (x ∷ xs) c s (suc i) number rises low ends there within =
    let past : x.end ≤ number = ends 0 x (omega arith) in
    past_stretch start number x (entries_from x.end (xs ++ c ∷ [])) rises.0 past
    ∙ inside_from x.end xs c s i number rises.1 past (λ k d h. ends (suc k) d (omega arith)) there within

last_from : (start : ℕ) (ss : List Stretch) (c : Stretch) (number : ℕ) → RisesFrom start (ss ++ c ∷ []) → start ≤ number → AllEnd number (length ss) ss → number < c.end → slice_get (entries_from start (ss ++ c ∷ [])) (number - start) ≡ Some (entry_in c)
last_from start [] c number rises low ends within = in_replicate (c.end - start) (number - start) (entry_in c) [] (omega arith)
last_from start (x ∷ xs) c number rises low ends within =
    let past : x.end ≤ number = ends 0 x (omega arith) in
    past_stretch start number x (entries_from x.end (xs ++ c ∷ [])) rises.0 past
    ∙ last_from x.end xs c number rises.1 past (λ k d h. ends (suc k) d (omega arith)) within

pub inside : (ss : List Stretch) (c s : Stretch) (i number : ℕ) → Rises ss c → AllEnd number i ss → slice_get ss i ≡ Some s → number < s.end → Some (entry_in s) ≡ slice_get (entries_of ss c) number
unfolding entries_of Rises
inside ss c s i number rises ends there within = sym (inside_from 0 ss c s i number rises (omega arith) ends there within) ∙ ap (slice_get (entries_from 0 (ss ++ c ∷ []))) (omega arith)

pub in_last : (ss : List Stretch) (c : Stretch) (number : ℕ) → Rises ss c → AllEnd number (length ss) ss → number < c.end → Some (entry_in c) ≡ slice_get (entries_of ss c) number
unfolding entries_of Rises
in_last ss c number rises ends within = sym (last_from 0 ss c number rises (omega arith) ends within) ∙ ap (slice_get (entries_from 0 (ss ++ c ∷ []))) (omega arith)

pub past_last : (ss : List Stretch) (c : Stretch) (number : ℕ) → Rises ss c → c.end ≤ number → None ≡ slice_get (entries_of ss c) number
past_last ss c number rises past = sym (slice_get_past (entries_of ss c) number (let all = how_many ss c rises in omega (arith, all)))

-- ---- ends do not fall

no_less : (start : ℕ) (ss : List Stretch) (c : Stretch) (k : ℕ) (d : Stretch) → RisesFrom start (ss ++ c ∷ []) → k < length ss → start ≤ (slice_index_or ss k d).end
no_less start [] c k d rises h = absurd (omega arith)
no_less start (x ∷ xs) c zero d rises h = rises.0
no_less start (x ∷ xs) c (suc k) d rises h = let low = rises.0 in let rest = no_less x.end xs c k d rises.1 (omega arith) in omega (arith, low, rest)

in_order_from : (start : ℕ) (ss : List Stretch) (c : Stretch) (i j : ℕ) (d : Stretch) → RisesFrom start (ss ++ c ∷ []) → i ≤ j → j < length ss → (slice_index_or ss i d).end ≤ (slice_index_or ss j d).end
in_order_from start [] c i j d rises below h = absurd (omega arith)
in_order_from start (x ∷ xs) c zero zero d rises below h = omega arith
in_order_from start (x ∷ xs) c zero (suc j) d rises below h = no_less x.end xs c j d rises.1 (omega arith)
in_order_from start (x ∷ xs) c (suc i) zero d rises below h = absurd (omega arith)
in_order_from start (x ∷ xs) c (suc i) (suc j) d rises below h = in_order_from x.end xs c i j d rises.1 (omega arith) (omega arith)

pub in_order : (ss : List Stretch) (c : Stretch) → Rises ss c → IsNonDecreasingBy (λ (s : Stretch). s.end) ss
unfolding Rises
in_order ss c rises = λ i j d below h. in_order_from 0 ss c i j d rises below h
