-- Schedules, one event after the other.
use Rattle.std.proofs.Common.{◌≡◌, ℕ, zero, suc, ◌+◌, ◌≤◌, Bool, true, false, ◌&&◌, List, [], ◌∷◌, ◌++◌, Option, Some, None, take, refl, sym, ap, ◌∙◌, arith}
use Rattle.std.proofs.lemmas.Bool.{and_from}
use Rattle.jm_program.proofs.Truths.{right_true, left_true}
use Rattle.jm_world.specs.World.{World}
use Rattle.jm_world.specs.Run.{after}
use Rattle.jm_world.specs.declared.event.Event.TheVariants.{Step}
use Rattle.jm_explore.specs.Switches.{all_go, can_go, next_turn, switch, switches, switches_from, turn_from, world_after}
use Rattle.jm_explore.specs.declared.turn.Turn.{Turn}

pub world_append : (w : World) (p q : List ℕ) → world_after w (p ++ q) ≡ world_after (world_after w p) q
world_append w [] q = refl
world_append w (t ∷ p) q = world_append (after w (Step t)).world p q

pub world_more : (w : World) (p : List ℕ) (t : ℕ) → world_after w (p ++ t ∷ []) ≡ (after (world_after w p) (Step t)).world
world_more w p t = world_append w p (t ∷ [])

and_assoc : (a b c : Bool) → ((a && b) && c) ≡ (a && (b && c))
and_assoc true b c = refl
and_assoc false b c = refl

pub go_append : (w : World) (p q : List ℕ) → all_go w (p ++ q) ≡ (all_go w p && all_go (world_after w p) q)
go_append w [] q = refl
go_append w (t ∷ p) q = ap (λ b. can_go w t && b) (go_append (after w (Step t)).world p q) ∙ sym (and_assoc (can_go w t) (all_go (after w (Step t)).world p) (all_go (world_after (after w (Step t)).world p) q))

pub turn_append : (slice : ℕ) (l : Option Turn) (p q : List ℕ) → turn_from slice l (p ++ q) ≡ turn_from slice (turn_from slice l p) q
turn_append slice l [] q = refl
turn_append slice l (t ∷ p) q = turn_append slice (Some (next_turn slice l t)) p q

pub switches_append : (w : World) (slice : ℕ) (l : Option Turn) (p q : List ℕ) → switches_from w slice l (p ++ q) ≡ switches_from w slice l p + switches_from (world_after w p) slice (turn_from slice l p) q
switches_append w slice l [] q = let zero_first : switches_from w slice l q ≡ 0 + switches_from w slice l q = omega arith in zero_first
switches_append w slice l (t ∷ p) q =
    let rest = switches_append (after w (Step t)).world slice (Some (next_turn slice l t)) p q in
    let all : switch w slice l t + switches_from (after w (Step t)).world slice (Some (next_turn slice l t)) (p ++ q)
    ≡ switch w slice l t + switches_from (after w (Step t)).world slice (Some (next_turn slice l t)) p
    + switches_from (world_after (after w (Step t)).world p) slice (turn_from slice (Some (next_turn slice l t)) p) q = omega (arith, rest) in
    all

pub switches_more : (w : World) (slice : ℕ) (p : List ℕ) (t : ℕ) → switches w slice (p ++ t ∷ []) ≡ switches w slice p + switch (world_after w p) slice (turn_from slice None p) t
switches_more w slice p t =
    let one : switch (world_after w p) slice (turn_from slice None p) t + 0 ≡ switch (world_after w p) slice (turn_from slice None p) t = omega arith in
    switches_append w slice None p (t ∷ []) ∙ ap (λ n. switches w slice p + n) one

-- the parts of a whole that goes
pub go_start : (w : World) (p q : List ℕ) → all_go w (p ++ q) ≡ true → all_go w p ≡ true
go_start w p q h = left_true (all_go w p) (all_go (world_after w p) q) (sym (go_append w p q) ∙ h)

pub go_next : (w : World) (p : List ℕ) (t : ℕ) (q : List ℕ) → all_go w (p ++ t ∷ q) ≡ true → can_go (world_after w p) t ≡ true
go_next w p t q h = left_true (can_go (world_after w p) t) (all_go (after (world_after w p) (Step t)).world q) (right_true (all_go w p) (all_go (world_after w p) (t ∷ q)) (sym (go_append w p (t ∷ q)) ∙ h))

pub go_more : (w : World) (p : List ℕ) (t : ℕ) → all_go w p ≡ true → can_go (world_after w p) t ≡ true → all_go w (p ++ t ∷ []) ≡ true
go_more w p t g h = go_append w p (t ∷ []) ∙ and_from (all_go w p) (all_go (world_after w p) (t ∷ [])) g (and_from (can_go (world_after w p) t) true h refl)

-- what is left for the next switch
pub few_next : (w : World) (slice : ℕ) (p : List ℕ) (t : ℕ) (q : List ℕ) → switches w slice p + switch (world_after w p) slice (turn_from slice None p) t ≤ switches w slice (p ++ t ∷ q)
few_next w slice p t q =
    let whole = switches_append w slice None p (t ∷ q) in
    let low : switches w slice p + switch (world_after w p) slice (turn_from slice None p) t
    ≤ switches w slice p + (switch (world_after w p) slice (turn_from slice None p) t
    + switches_from (after (world_after w p) (Step t)).world slice (Some (next_turn slice (turn_from slice None p) t)) q) = omega arith in
    omega (arith, whole, low)

pub take_take : (n m : ℕ) (xs : List ℕ) → n ≤ m → take n (take m xs) ≡ take n xs
take_take zero m [] low = refl
take_take (suc n) zero [] low = refl
take_take (suc n) (suc m) [] low = refl
take_take zero m (x ∷ xs) low = refl
take_take (suc n) zero (x ∷ xs) low = let bad : ⊥ = omega (arith, low) in absurd bad
take_take (suc n) (suc m) (x ∷ xs) low = ap (λ ys. x ∷ ys) (take_take n m xs (omega (arith, low)))
