-- What the schedules weigh that begin in some way.
use Rattle.std.proofs.Common.{◌≡◌, ◌⊎◌, ℕ, zero, suc, ◌+◌, ◌-◌, ◌≤◌, ◌<◌, Bool, true, false, List, [], ◌∷◌, ◌++◌, Option, Some, None, length, map, take, nat_le, nat_eq, refl, sym, ap, ◌∙◌, inl, inr, arith, true≢false, append_assoc, append-nil}
use Rattle.std.specs.List.{flat_map}
use Rattle.std.proofs.lemmas.List.{take-append-le}
use Rattle.std.proofs.Math.Seq.{take-append_seam}
use Rattle.jm_world.specs.World.{World, Thread}
use Rattle.jm_world.specs.Run.{after}
use Rattle.jm_world.specs.declared.event.Event.TheVariants.{Step}
use Rattle.jm_explore.specs.Counts.{below, below_all, below_branch, below_next, exactly, weight_if}
use Rattle.jm_explore.specs.Lists.{Distinct, Each, HasOne, total}
use Rattle.jm_explore.specs.Schedulings.{choices_from, schedules, schedules_from}
use Rattle.jm_explore.specs.Switches.{can_go, next_turn, switch, switches, switches_from, turn_from, world_after, IsEnd}
use Rattle.jm_explore.specs.declared.branch.Branch.{Branch}
use Rattle.jm_explore.specs.declared.turn.Turn.{Turn}
use Rattle.jm_explore.proofs.Lists.{each_as}
use Rattle.jm_explore.proofs.Paths.{take_take, turn_append, world_more}
use Rattle.jm_values.proofs.Lists.{length_end as length_more}
use Rattle.jm_explore.proofs.Switching.{IsChoice, IsRest, choices_go, going_within, listed_only, no_choice, no_more}
use Rattle.jm_explore.proofs.Totals.{each_of, sum_as, sum_from, sum_is_total, total_append, total_as, total_both, total_flat, total_map, total_same, total_zero}

-- ---- one event more

module _ (w : World) (slice : ℕ) (turn : Option Turn) (left : ℕ) where
  -- what a thread's event is the first of, if it may come
  abbrev pub if_chosen : (ℕ → ℕ) → ℕ → ℕ
  if_chosen h s = weight_if (can_go w s) (weight_if (nat_le (switch w slice turn s) left) (h s))

  over_choices : (h : ℕ → ℕ) (n : ℕ) (ths : List Thread) → total h (choices_from w slice turn left n ths) ≡ sum_from (if_chosen h) n ths
  over_choices h n [] = refl
  over_choices h n (th ∷ ths) = by (can_go w n) (nat_le (switch w slice turn n) left) (over_choices h (n + 1) ths)
    where
      by : (a b : Bool) → total h (choices_from w slice turn left (n + 1) ths) ≡ sum_from (if_chosen h) (n + 1) ths → total h (elim a as (λ _. List ℕ) [
        | false ↦ choices_from w slice turn left (n + 1) ths
        | true ↦ elim b as (λ _. List ℕ) [ true ↦ n ∷ choices_from w slice turn left (n + 1) ths | false ↦ choices_from w slice turn left (n + 1) ths ]
      ]) ≡ weight_if a (weight_if b (h n)) + sum_from (if_chosen h) (n + 1) ths
      by false b rest = omega (arith, rest)
      by true false rest = omega (arith, rest)
      by true true rest = omega (arith, rest)

  not_chosen : (h : ℕ → ℕ) (s : ℕ) → can_go w s ≡ false → if_chosen h s ≡ 0
  not_chosen h s stuck = ap (λ b. weight_if b (weight_if (nat_le (switch w slice turn s) left) (h s))) stuck

  module _ (n : ℕ) where
    -- the schedules from a thread's event on
    abbrev pub onward : ℕ → List (List ℕ)
    onward s = schedules_from n (after w (Step s)).world slice (Some (next_turn slice turn s)) (left - switch w slice turn s)

    abbrev pub first_is : (List ℕ → ℕ) → ℕ → ℕ
    first_is f s = total (λ rest. f (s ∷ rest)) (onward s)

    pub node_more : (f : List ℕ → ℕ) (t : ℕ) → can_go w t ≡ true → total f (schedules_from (suc n) w slice turn left) ≡ sum_from (if_chosen (first_is f)) 1 w.threads
    node_more f t can = by (choices_from w slice turn left 1 w.threads) refl
      where
        by : (cs : List ℕ) → choices_from w slice turn left 1 w.threads ≡ cs → total f (elim cs as (λ _. List (List ℕ)) [ [] ↦ [] ∷ [] | (c ∷ cs) ↦ flat_map (λ s. map (λ rest. s ∷ rest) (onward s)) (c ∷ cs) ])
            ≡ sum_from (if_chosen (first_is f)) 1 w.threads
        by [] e = absurd (true≢false (sym can ∙ no_more w slice turn left e t))
        by (c ∷ cs) e =
            total_flat f (λ s. map (λ rest. s ∷ rest) (onward s)) (c ∷ cs)
            ∙ total_same (λ s. total f (map (λ rest. s ∷ rest) (onward s))) (first_is f) (c ∷ cs) (λ s. total_map f (λ rest. s ∷ rest) (onward s))
            ∙ ap (total (first_is f)) (sym e) ∙ over_choices (first_is f) 1 w.threads

plus_none : (n : ℕ) → n + 0 ≡ n
plus_none n = omega arith

pub node_end : (n : ℕ) (w : World) (slice : ℕ) (turn : Option Turn) (left : ℕ) (f : List ℕ → ℕ) → IsEnd w → total f (schedules_from n w slice turn left) ≡ f []
node_end zero w slice turn left f end = plus_none (f [])
node_end (suc n) w slice turn left f end =
    ap (λ cs. total f (elim cs as (λ _. List (List ℕ)) [ [] ↦ [] ∷ [] | (c ∷ cs) ↦ flat_map (λ s. map (λ rest. s ∷ rest) (onward w slice turn left n s)) (c ∷ cs) ])) (no_choice w slice turn left end 1 w.threads)
    ∙ plus_none (f [])

-- ---- below a path

module _ (w : World) (slice steps : ℕ) (f : List ℕ → ℕ) (path : List ℕ) (left : ℕ) where
  pub below_end : IsEnd (world_after w path) → below w slice steps f path left ≡ f path
  below_end end = node_end (steps - length path) (world_after w path) slice (turn_from slice None path) left (λ rest. f (path ++ rest)) end ∙ ap f (append-nil path)

  pub below_limit : steps ≤ length path → below w slice steps f path left ≡ f path
  below_limit past = ap (λ n. total (λ rest. f (path ++ rest)) (schedules_from n (world_after w path) slice (turn_from slice None path) left)) none ∙ plus_none (f (path ++ [])) ∙ ap f (append-nil path)
    where
      none : steps - length path ≡ 0
      none = omega (arith, past)

pub weighs : (b : Bool) (n : ℕ) → b ≡ true → weight_if b n ≡ n
weighs true n e = refl
weighs false n e = absurd (true≢false (sym e))

pub weighs_not : (b : Bool) (n : ℕ) → b ≡ false → weight_if b n ≡ 0
weighs_not false n e = refl
weighs_not true n e = absurd (true≢false e)

le_true : (a b : ℕ) → a ≤ b → nat_le a b ≡ true
le_true a b h = grind (arith, h)

le_false : (a b : ℕ) → b < a → nat_le a b ≡ false
le_false a b h = grind (arith, h)

le_holds : (a b : ℕ) → nat_le a b ≡ true → a ≤ b
le_holds a b h = grind (arith, h)

has_mapped : (s : ℕ) (bs : List Branch) → HasOne (λ b. b.thread ≡ s) bs → HasOne (λ j. j ≡ s) (map (λ (b : Branch). b.thread) bs)
has_mapped s [] h = absurd h
has_mapped s (b ∷ bs) (inl e) = inl e
has_mapped s (b ∷ bs) (inr h) = inr (has_mapped s bs h)

module _ (w : World) (slice steps : ℕ) (f : List ℕ → ℕ) (path : List ℕ) (left : ℕ) where
  here : World
  here = world_after w path

  turn : Option Turn
  turn = turn_from slice None path

  after_path : List ℕ → ℕ
  after_path rest = f (path ++ rest)

  -- of a thread's event
  next_is : (n s less : ℕ) → steps - length path ≡ suc n → less + switch (world_after w path) slice (turn_from slice None path) s ≡ left
      → if_chosen (world_after w path) slice (turn_from slice None path) left (first_is (world_after w path) slice (turn_from slice None path) left n (λ rest. f (path ++ rest))) s ≡ below_next w slice steps f path s less
  next_is n s less size cost = ap (weight_if (can_go (world_after w path) s)) (
      weighs (nat_le (switch (world_after w path) slice (turn_from slice None path) s) left) (first_is (world_after w path) slice (turn_from slice None path) left n (λ rest. f (path ++ rest)) s)
      (le_true (switch (world_after w path) slice (turn_from slice None path) s) left (omega (arith, cost)))
      ∙ total_same (λ rest. f (path ++ (s ∷ rest))) (λ rest. f ((path ++ s ∷ []) ++ rest)) (onward (world_after w path) slice (turn_from slice None path) left n s) (λ rest. ap f (sym (append_assoc path (s ∷ []) rest)))
      ∙ ap (λ k. total (λ rest. f ((path ++ s ∷ []) ++ rest)) (schedules_from k (after (world_after w path) (Step s)).world slice (Some (next_turn slice (turn_from slice None path) s)) (left - switch (world_after w path) slice (turn_from slice None path) s))) one_less
      ∙ ap (λ v. total (λ rest. f ((path ++ s ∷ []) ++ rest)) (schedules_from (steps - length (path ++ s ∷ [])) v slice (Some (next_turn slice (turn_from slice None path) s)) (left - switch (world_after w path) slice (turn_from slice None path) s)))
      (sym (world_more w path s))
      ∙ ap (λ l. total (λ rest. f ((path ++ s ∷ []) ++ rest)) (schedules_from (steps - length (path ++ s ∷ [])) (world_after w (path ++ s ∷ [])) slice l (left - switch (world_after w path) slice (turn_from slice None path) s)))
      (sym (turn_append slice None path (s ∷ [])))
      ∙ ap (λ k. total (λ rest. f ((path ++ s ∷ []) ++ rest)) (schedules_from (steps - length (path ++ s ∷ [])) (world_after w (path ++ s ∷ [])) slice (turn_from slice None (path ++ s ∷ [])) k)) rest_left
      )
    where
      one_less : n ≡ steps - length (path ++ s ∷ [])
      one_less = let longer = length_more path s in omega (arith, size, longer)

      rest_left : left - switch (world_after w path) slice (turn_from slice None path) s ≡ less
      rest_left = omega (arith, cost)

  module _ (t : ℕ) (added : List Branch) (low : length path < steps) (can : can_go (world_after w path) t ≡ true) (free : switch (world_after w path) slice (turn_from slice None path) t ≡ 0)
      (alike : Each (λ b. (b.behind ≡ length path) × (b.left + switch (world_after w path) slice (turn_from slice None path) b.thread ≡ left)) added)
      (has : (s : ℕ) → can_go (world_after w path) s ≡ true → switch (world_after w path) slice (turn_from slice None path) s ≤ left → (s ≡ t) ⊎ HasOne (λ b. b.thread ≡ s) added)
      (once : Distinct (t ∷ map (λ (b : Branch). b.thread) added)) where
    rest_steps : ℕ
    rest_steps = steps - length path - 1

    weight : ℕ → ℕ
    weight = if_chosen (world_after w path) slice (turn_from slice None path) left (first_is (world_after w path) slice (turn_from slice None path) left (steps - length path - 1) (λ rest. f (path ++ rest)))

    some_steps : steps - length path ≡ suc (steps - length path - 1)
    some_steps = omega (arith, low)

    both : (b : Bool) → (b ≡ true) ⊎ (b ≡ false)
    both true = inl refl
    both false = inr refl

    weighs_inside : (k : ℕ) → (can_go (world_after w path) k ≡ true) ⊎ (can_go (world_after w path) k ≡ false) → (1 ≤ k) ⊎ (weight k ≡ 0)
    unfolding weight
    weighs_inside k (inl go) = inl (going_within (world_after w path) k go).0
    weighs_inside k (inr stuck) = inr (not_chosen (world_after w path) slice (turn_from slice None path) left (first_is (world_after w path) slice (turn_from slice None path) left (steps - length path - 1) (λ rest. f (path ++ rest))) k stuck)

    weighs_low : (k : ℕ) → (can_go (world_after w path) k ≡ true) ⊎ (can_go (world_after w path) k ≡ false) → 1 + length (world_after w path).threads ≤ k → weight k ≡ 0
    unfolding weight
    weighs_low k (inl go) past = let inside = (going_within (world_after w path) k go).1 in let bad : ⊥ = omega (arith, past, inside) in absurd bad
    weighs_low k (inr stuck) past = not_chosen (world_after w path) slice (turn_from slice None path) left (first_is (world_after w path) slice (turn_from slice None path) left (steps - length path - 1) (λ rest. f (path ++ rest))) k stuck

    found : (k : ℕ) → (can_go (world_after w path) k ≡ true) ⊎ (can_go (world_after w path) k ≡ false) → (nat_le (switch (world_after w path) slice (turn_from slice None path) k) left ≡ true) ⊎ (nat_le (switch (world_after w path) slice (turn_from slice None path) k) left ≡ false)
        → (weight k ≡ 0) ⊎ HasOne (λ j. j ≡ k) (t ∷ map (λ (b : Branch). b.thread) added)
    unfolding weight
    found k (inr stuck) enough = inl (not_chosen (world_after w path) slice (turn_from slice None path) left (first_is (world_after w path) slice (turn_from slice None path) left (steps - length path - 1) (λ rest. f (path ++ rest))) k stuck)
    found k (inl go) (inr stuck) = inl (ap (weight_if (can_go (world_after w path) k)) (weighs_not (nat_le (switch (world_after w path) slice (turn_from slice None path) k) left) (first_is (world_after w path) slice (turn_from slice None path) left (steps - length path - 1) (λ rest. f (path ++ rest)) k) stuck) ∙ none (can_go (world_after w path) k))
      where
        none : (b : Bool) → weight_if b 0 ≡ 0
        none true = refl
        none false = refl
    found k (inl go) (inl enough) = inr (elim (has k go (le_holds (switch (world_after w path) slice (turn_from slice None path) k) left enough)) [ inl e ↦ inl (sym e) | inr h ↦ inr (has_mapped k added h) ])

    of_threads : below w slice steps f path left ≡ weight t + total (λ b. weight b.thread) added
    unfolding weight
    of_threads =
        ap (λ n. total (λ rest. f (path ++ rest)) (schedules_from n (world_after w path) slice (turn_from slice None path) left)) some_steps
        ∙ node_more (world_after w path) slice (turn_from slice None path) left (steps - length path - 1) (λ rest. f (path ++ rest)) t can
        ∙ sum_is_total (world_after w path).threads (t ∷ map (λ (b : Branch). b.thread) added) weight once
        (each_of (λ k. (1 ≤ k) ⊎ (weight k ≡ 0)) (λ k. weighs_inside k (both (can_go (world_after w path) k))) (t ∷ map (λ (b : Branch). b.thread) added))
        (λ k past. weighs_low k (both (can_go (world_after w path) k)) past)
        (λ k. found k (both (can_go (world_after w path) k)) (both (nat_le (switch (world_after w path) slice (turn_from slice None path) k) left)))
        ∙ ap (λ n. weight t + n) (total_map weight (λ (b : Branch). b.thread) added)

    pub below_more : below w slice steps f path left ≡ below w slice steps f (path ++ t ∷ []) left + below_all w slice steps f (path ++ t ∷ []) added
    unfolding weight
    below_more =
        of_threads
        ∙ ap (λ n. n + total (λ b. weight b.thread) added) (next_is (steps - length path - 1) t left some_steps (omega (arith, free)) ∙ weighs (can_go (world_after w path) t) (below w slice steps f (path ++ t ∷ []) left) can)
        ∙ ap (λ n. below w slice steps f (path ++ t ∷ []) left + n) (total_as (λ b. weight b.thread) (λ b. below_branch w slice steps f (path ++ t ∷ []) b) added
        (each_as (λ b. (b.behind ≡ length path) × (b.left + switch (world_after w path) slice (turn_from slice None path) b.thread ≡ left)) (λ b. weight b.thread ≡ below_branch w slice steps f (path ++ t ∷ []) b) one added alike))
      where
        one : (b : Branch) → (b.behind ≡ length path) × (b.left + switch (world_after w path) slice (turn_from slice None path) b.thread ≡ left) → weight b.thread ≡ below_branch w slice steps f (path ++ t ∷ []) b
        one b is =
            next_is (steps - length path - 1) b.thread b.left some_steps is.1
            ∙ ap (λ p. below_next w slice steps f p b.thread b.left) (sym (ap (λ n. take n (path ++ t ∷ [])) is.0 ∙ take-append_seam path (t ∷ [])))

-- ---- branches on other paths

module _ (w : World) (slice steps : ℕ) (f : List ℕ → ℕ) where
  pub all_append : (path : List ℕ) (xs ys : List Branch) → below_all w slice steps f path (xs ++ ys) ≡ below_all w slice steps f path xs + below_all w slice steps f path ys
  all_append path xs ys = total_append (λ b. below_branch w slice steps f path b) xs ys

  pub all_longer : (path : List ℕ) (t : ℕ) (bs : List Branch) → Each (λ b. b.behind ≤ length path) bs → below_all w slice steps f (path ++ t ∷ []) bs ≡ below_all w slice steps f path bs
  all_longer path t bs low = total_as (λ b. below_branch w slice steps f (path ++ t ∷ []) b) (λ b. below_branch w slice steps f path b) bs
      (each_as (λ b. b.behind ≤ length path) (λ b. below_branch w slice steps f (path ++ t ∷ []) b ≡ below_branch w slice steps f path b)
      (λ b here. ap (λ p. below_next w slice steps f p b.thread b.left) (take-append-le b.behind path (t ∷ []) here)) bs low)

  pub all_shorter : (path : List ℕ) (n : ℕ) (bs : List Branch) → Each (λ b. b.behind ≤ n) bs → below_all w slice steps f (take n path) bs ≡ below_all w slice steps f path bs
  all_shorter path n bs low = total_as (λ b. below_branch w slice steps f (take n path) b) (λ b. below_branch w slice steps f path b) bs
      (each_as (λ b. b.behind ≤ n) (λ b. below_branch w slice steps f (take n path) b ≡ below_branch w slice steps f path b)
      (λ b here. ap (λ p. below_next w slice steps f p b.thread b.left) (take_take b.behind n path here)) bs low)

  -- the last branch is taken out
  pub all_popped : (path : List ℕ) (rest : List Branch) (b : Branch) → Each (λ c. c.behind ≤ b.behind) rest
      → below_all w slice steps f path (rest ++ b ∷ []) ≡ below_next w slice steps f (take b.behind path) b.thread b.left + below_all w slice steps f (take b.behind path) rest
  all_popped path rest b low =
      let parts = all_append path rest (b ∷ []) in
      let same = all_shorter path b.behind rest low in
      omega (arith, parts, same)

-- ---- fewer switches

module _ (w : World) (slice : ℕ) (turn : Option Turn) where
  -- where no more than so many follow
  abbrev at_most_so : ℕ → (List ℕ → ℕ) → List ℕ → ℕ
  at_most_so few h ts = weight_if (nat_le (switches_from w slice turn ts) few) (h ts)

nothing : (b : Bool) → weight_if b 0 ≡ 0
nothing true = refl
nothing false = refl

abbrev SameOnward : ℕ → World → ℕ → Option Turn → ℕ → ℕ → (List ℕ → ℕ) → ℕ → Type 0
SameOnward n w slice turn few many h s =
    total (λ rest. h (s ∷ rest)) (schedules_from n (after w (Step s)).world slice (Some (next_turn slice turn s)) (few - switch w slice turn s))
    ≡ total (at_most_so (after w (Step s)).world slice (Some (next_turn slice turn s)) (few - switch w slice turn s) (λ rest. h (s ∷ rest))) (schedules_from n (after w (Step s)).world slice (Some (next_turn slice turn s)) (many - switch w slice turn s))

fewer : (n : ℕ) (w : World) (slice : ℕ) (turn : Option Turn) (few many : ℕ) (h : List ℕ → ℕ) → few ≤ many → total h (schedules_from n w slice turn few) ≡ total (at_most_so w slice turn few h) (schedules_from n w slice turn many)
fewer zero w slice turn few many h low = ap (λ k. k + 0) (sym (weighs (nat_le 0 few) (h []) (le_true 0 few (omega arith))))
fewer (suc n) w slice turn few many h low = by (choices_from w slice turn many 1 w.threads) refl (choices_go w slice turn many 1 w.threads)
    (λ s enough. fewer n (after w (Step s)).world slice (Some (next_turn slice turn s)) (few - switch w slice turn s) (many - switch w slice turn s) (λ rest. h (s ∷ rest)) (omega (arith, low, enough)))
  where
    one : (s : ℕ) → (switch w slice turn s ≤ few → SameOnward n w slice turn few many h s) → (switch w slice turn s ≤ few) ⊎ (few < switch w slice turn s) → if_chosen w slice turn few (first_is w slice turn few n h) s ≡ if_chosen w slice turn many (first_is w slice turn many n (at_most_so w slice turn few h)) s
    one s more_is (inl enough) = ap (weight_if (can_go w s)) (
        weighs (nat_le (switch w slice turn s) few) (first_is w slice turn few n h s) (le_true (switch w slice turn s) few enough)
        ∙ more_is enough
        ∙ total_same (at_most_so (after w (Step s)).world slice (Some (next_turn slice turn s)) (few - switch w slice turn s) (λ rest. h (s ∷ rest))) (λ rest. at_most_so w slice turn few h (s ∷ rest)) (onward w slice turn many n s)
        (λ rest. ap (λ b. weight_if b (h (s ∷ rest))) (less (switches_from (after w (Step s)).world slice (Some (next_turn slice turn s)) rest) (switch w slice turn s) few enough))
        ∙ sym (weighs (nat_le (switch w slice turn s) many) (first_is w slice turn many n (at_most_so w slice turn few h) s) (le_true (switch w slice turn s) many (omega (arith, low, enough))))
        )
      where
        less : (a c k : ℕ) → c ≤ k → nat_le a (k - c) ≡ nat_le (c + a) k
        less a c k h = grind (arith, h)
    one s more_is (inr more) =
        ap (weight_if (can_go w s)) (weighs_not (nat_le (switch w slice turn s) few) (first_is w slice turn few n h s) (le_false (switch w slice turn s) few more))
        ∙ ap (weight_if (can_go w s)) (sym (
        ap (weight_if (nat_le (switch w slice turn s) many)) (total_zero (λ rest. at_most_so w slice turn few h (s ∷ rest)) (onward w slice turn many n s)
        (λ rest. weighs_not (nat_le (switch w slice turn s + switches_from (after w (Step s)).world slice (Some (next_turn slice turn s)) rest) few) (h (s ∷ rest))
        (le_false (switch w slice turn s + switches_from (after w (Step s)).world slice (Some (next_turn slice turn s)) rest) few (omega (arith, more)))))
        ∙ nothing (nat_le (switch w slice turn s) many)
        ))

    apart : (a b : ℕ) → (a ≤ b) ⊎ (b < a)
    apart a b = grind arith

    by : (cs : List ℕ) → choices_from w slice turn many 1 w.threads ≡ cs → Each (IsChoice w slice turn many) cs → ((s : ℕ) → switch w slice turn s ≤ few → SameOnward n w slice turn few many h s) → total h (schedules_from (suc n) w slice turn few) ≡ total (at_most_so w slice turn few h) (schedules_from (suc n) w slice turn many)
    by [] e each more_is =
        let end = no_more w slice turn many e in
        node_end (suc n) w slice turn few h end ∙ sym (weighs (nat_le 0 few) (h []) (le_true 0 few (omega arith))) ∙ sym (node_end (suc n) w slice turn many (at_most_so w slice turn few h) end)
    by (c ∷ cs) e each more_is =
        node_more w slice turn few n h c each.0.0
        ∙ sum_as (if_chosen w slice turn few (first_is w slice turn few n h)) (if_chosen w slice turn many (first_is w slice turn many n (at_most_so w slice turn few h))) 1 w.threads (λ s. one s (more_is s) (apart (switch w slice turn s) few))
        ∙ sym (node_more w slice turn many n (at_most_so w slice turn few h) c each.0.0)

-- one switch more
pub one_more : (w : World) (slice most steps : ℕ) (h : List ℕ → ℕ)
    → total h (schedules w slice (most + 1) steps) ≡ total (exactly w slice (most + 1) h) (schedules w slice (most + 1) steps) + total h (schedules w slice most steps)
one_more w slice most steps h =
    total_as h (λ ts. exactly w slice (most + 1) h ts + at_most_so w slice None most h ts) (schedules w slice (most + 1) steps)
    (each_as (IsRest w slice None (most + 1) steps) (λ ts. h ts ≡ exactly w slice (most + 1) h ts + at_most_so w slice None most h ts)
    (λ ts is. parts (switches w slice ts) most (h ts) is.few) (schedules w slice (most + 1) steps) (listed_only steps w slice None (most + 1)))
    ∙ total_both (exactly w slice (most + 1) h) (at_most_so w slice None most h) (schedules w slice (most + 1) steps)
    ∙ ap (λ n. total (exactly w slice (most + 1) h) (schedules w slice (most + 1) steps) + n) (sym (fewer steps w slice None most (most + 1) h (omega arith)))
  where
    cases : (a k : ℕ) → a ≤ k + 1 → (a ≡ k + 1) ⊎ (a ≤ k)
    cases a k low = grind (arith, low)

    parts : (a k n : ℕ) → a ≤ k + 1 → n ≡ weight_if (nat_eq a (k + 1)) n + weight_if (nat_le a k) n
    parts a k n low = by (cases a k low)
      where
        by : (a ≡ k + 1) ⊎ (a ≤ k) → n ≡ weight_if (nat_eq a (k + 1)) n + weight_if (nat_le a k) n
        by (inl e) = let yes = weighs (nat_eq a (k + 1)) n (grind (arith, e)) in let not' = weighs_not (nat_le a k) n (grind (arith, e)) in omega (arith, yes, not')
        by (inr less) = let not' = weighs_not (nat_eq a (k + 1)) n (grind (arith, less)) in let yes = weighs (nat_le a k) n (grind (arith, less)) in omega (arith, yes, not')

pub no_switch : (w : World) (slice steps : ℕ) (h : List ℕ → ℕ) → total h (schedules w slice 0 steps) ≡ total (exactly w slice 0 h) (schedules w slice 0 steps)
no_switch w slice steps h = total_as h (exactly w slice 0 h) (schedules w slice 0 steps) (each_as (IsRest w slice None 0 steps) (λ ts. h ts ≡ exactly w slice 0 h ts)
    (λ ts is. sym (weighs (nat_eq (switches w slice ts) 0) (h ts) (none (switches w slice ts) is.few))) (schedules w slice 0 steps) (listed_only steps w slice None 0))
  where
    none : (a : ℕ) → a ≤ 0 → nat_eq a 0 ≡ true
    none a low = grind (arith, low)
