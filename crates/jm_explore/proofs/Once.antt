-- No schedule is listed twice.
use Rattle.std.proofs.Common.{◌≡◌, ◌≢◌, ℕ, zero, suc, ◌+◌, ◌-◌, ◌≤◌, ◌<◌, Bool, true, false, List, [], ◌∷◌, ◌++◌, Option, Some, None, length, get_or, map, nat_le, ap, ◌∙◌, sym, arith}
use Rattle.std.specs.List.{AllPairs, flat_map}
use Rattle.jm_world.specs.World.{World, Thread}
use Rattle.jm_world.specs.Run.{after}
use Rattle.jm_world.specs.declared.event.Event.TheVariants.{Step}
use Rattle.jm_explore.specs.Lists.{Distinct, Each}
use Rattle.jm_explore.specs.Schedulings.{ListsOnce, choices_from, schedules, schedules_from}
use Rattle.jm_explore.specs.Switches.{can_go, next_turn, switch}
use Rattle.jm_explore.specs.declared.turn.Turn.{Turn}
use Rattle.jm_explore.proofs.Lists.{each_append, each_as}

abbrev Once : List (List ℕ) → Type 0
Once [] = Unit {0}
Once (x ∷ xs) = Each (λ y. y ≢ x) xs × Once xs

abbrev first_of_all : List ℕ → ℕ
first_of_all [] = 0
first_of_all (x ∷ xs) = x

abbrev all_but_first : List ℕ → List ℕ
all_but_first [] = []
all_but_first (x ∷ xs) = xs

once_append : (xs ys : List (List ℕ)) → Once xs → Once ys → Each (λ x. Each (λ y. y ≢ x) ys) xs → Once (xs ++ ys)
once_append [] ys some others apart = others
once_append (x ∷ xs) ys some others apart = (each_append (λ y. y ≢ x) xs ys some.0 apart.0, once_append xs ys some.1 others apart.1)

once_map : (s : ℕ) (ls : List (List ℕ)) → Once ls → Once (map (λ r. s ∷ r) ls)
once_map s [] o = tt
once_map s (l ∷ ls) o = (others ls o.0, once_map s ls o.1)
  where
    others : (ks : List (List ℕ)) → Each (λ k. k ≢ l) ks → Each (λ k. k ≢ s ∷ l) (map (λ r. s ∷ r) ks)
    others [] e = tt
    others (k ∷ ks) e = ((λ same. e.0 (ap all_but_first same)), others ks e.1)

begins_map : (s : ℕ) (ls : List (List ℕ)) → Each (λ l. first_of_all l ≡ s) (map (λ r. s ∷ r) ls)
begins_map s [] = tt
begins_map s (l ∷ ls) = ((λ i. s), begins_map s ls)

begins_flat : (g : ℕ → List (List ℕ)) (s : ℕ) (cs : List ℕ) → Each (λ c. c ≢ s) cs → Each (λ l. first_of_all l ≢ s) (flat_map (λ c. map (λ r. c ∷ r) (g c)) cs)
begins_flat g s [] other = tt
begins_flat g s (c ∷ cs) other = each_append (λ l. first_of_all l ≢ s) (map (λ r. c ∷ r) (g c)) (flat_map (λ c. map (λ r. c ∷ r) (g c)) cs)
    (each_as (λ l. first_of_all l ≡ c) (λ l. first_of_all l ≢ s) (λ l is e. other.0 (sym is ∙ e)) (map (λ r. c ∷ r) (g c)) (begins_map c (g c))) (begins_flat g s cs other.1)

once_flat : (g : ℕ → List (List ℕ)) (cs : List ℕ) → Distinct cs → ((c : ℕ) → Once (g c)) → Once (flat_map (λ c. map (λ r. c ∷ r) (g c)) cs)
once_flat g [] distinct each = tt
once_flat g (c ∷ cs) distinct each = once_append (map (λ r. c ∷ r) (g c)) (flat_map (λ c. map (λ r. c ∷ r) (g c)) cs) (once_map c (g c) (each c)) (once_flat g cs distinct.1 each)
    (each_as (λ l. first_of_all l ≡ c) (λ x. Each (λ y. y ≢ x) (flat_map (λ c. map (λ r. c ∷ r) (g c)) cs))
    (λ x is. each_as (λ l. first_of_all l ≢ c) (λ y. y ≢ x) (λ y other e. other (ap first_of_all e ∙ is)) (flat_map (λ c. map (λ r. c ∷ r) (g c)) cs) (begins_flat g c cs distinct.0)) (map (λ r. c ∷ r) (g c)) (begins_map c (g c)))

choices_rise : (w : World) (slice : ℕ) (turn : Option Turn) (left n : ℕ) (ths : List Thread) → Each (λ k. n ≤ k) (choices_from w slice turn left n ths) × Distinct (choices_from w slice turn left n ths)
choices_rise w slice turn left n [] = (tt, tt)
choices_rise w slice turn left n (th ∷ ths) = by (can_go w n) (nat_le (switch w slice turn n) left) (choices_rise w slice turn left (n + 1) ths)
  where
    higher : (cs : List ℕ) → Each (λ k. n + 1 ≤ k) cs → Each (λ k. n ≤ k) cs
    higher cs e = each_as (λ k. n + 1 ≤ k) (λ k. n ≤ k) (λ k low. omega (arith, low)) cs e

    by : (a b : Bool) → Each (λ k. n + 1 ≤ k) (choices_from w slice turn left (n + 1) ths) × Distinct (choices_from w slice turn left (n + 1) ths)
        → Each (λ k. n ≤ k) (elim a as (λ _. List ℕ) [ false ↦ choices_from w slice turn left (n + 1) ths | true ↦ elim b as (λ _. List ℕ) [ true ↦ n ∷ choices_from w slice turn left (n + 1) ths | false ↦ choices_from w slice turn left (n + 1) ths ] ])
        × Distinct (elim a as (λ _. List ℕ) [ false ↦ choices_from w slice turn left (n + 1) ths | true ↦ elim b as (λ _. List ℕ) [ true ↦ n ∷ choices_from w slice turn left (n + 1) ths | false ↦ choices_from w slice turn left (n + 1) ths ] ])
    by false b rest = (higher (choices_from w slice turn left (n + 1) ths) rest.0, rest.1)
    by true false rest = (higher (choices_from w slice turn left (n + 1) ths) rest.0, rest.1)
    by true true rest = (
      (omega arith, higher (choices_from w slice turn left (n + 1) ths) rest.0),
      (each_as (λ k. n + 1 ≤ k) (λ k. k ≢ n) (λ k low e. let bad : ⊥ = omega (arith, low, e) in bad) (choices_from w slice turn left (n + 1) ths) rest.0, rest.1),
    )

once_from : (n : ℕ) (w : World) (slice : ℕ) (turn : Option Turn) (left : ℕ) → Once (schedules_from n w slice turn left)
once_from zero w slice turn left = (tt, tt)
once_from (suc n) w slice turn left = by (choices_from w slice turn left 1 w.threads) (choices_rise w slice turn left 1 w.threads).1 (λ s. once_from n (after w (Step s)).world slice (Some (next_turn slice turn s)) (left - switch w slice turn s))
  where
    by : (cs : List ℕ) → Distinct cs → ((s : ℕ) → Once (schedules_from n (after w (Step s)).world slice (Some (next_turn slice turn s)) (left - switch w slice turn s))) → Once (elim cs as (λ _. List (List ℕ)) [
      | [] ↦ [] ∷ []
      | (c ∷ cs) ↦ flat_map (λ s. map (λ rest. s ∷ rest) (schedules_from n (after w (Step s)).world slice (Some (next_turn slice turn s)) (left - switch w slice turn s))) (c ∷ cs)
    ])
    by [] distinct each = (tt, tt)
    by (c ∷ cs) distinct each = once_flat (λ s. schedules_from n (after w (Step s)).world slice (Some (next_turn slice turn s)) (left - switch w slice turn s)) (c ∷ cs) distinct each

each_at : (x : List ℕ) (ys : List (List ℕ)) (j : ℕ) (d : List ℕ) → Each (λ y. y ≢ x) ys → j < length ys → x ≢ get_or ys j d
each_at x [] j d e low same = let bad : ⊥ = omega (arith, low) in bad
each_at x (y ∷ ys) zero d e low same = e.0 (sym same)
each_at x (y ∷ ys) (suc j) d e low same = each_at x ys j d e.1 (omega (arith, low)) same

pairs_of : (xs : List (List ℕ)) → Once xs → AllPairs (λ s t. s ≢ t) xs
pairs_of [] o i j d low high = let bad : ⊥ = omega (arith, high) in absurd bad
pairs_of (x ∷ xs) o i zero d low high = let bad : ⊥ = omega (arith, low) in absurd bad
pairs_of (x ∷ xs) o zero (suc j) d low high = each_at x xs j d o.0 (omega (arith, high))
pairs_of (x ∷ xs) o (suc i) (suc j) d low high = pairs_of xs o.1 i j d (omega (arith, low)) (omega (arith, high))

pub lists_once : ListsOnce
lists_once w slice most steps = pairs_of (schedules w slice most steps) (once_from steps w slice None most)
