-- The model's round robin, one event more.
use Rattle.std.proofs.Common.{◌≡◌, ℕ, zero, suc, ◌+◌, ◌-◌, ◌≤◌, List, [], ◌∷◌, Option, Some, None, Bool, true, false, refl, sym, ap, ap₂, ◌∙◌, arith}
use Rattle.std.specs.Prelude.{is_some, nat_eq, nat_lt}
use Rattle.std.proofs.lemmas.Bool.{eq-eqb, eqb-true}
use Rattle.jm_world.specs.RoundRobin.{Turn, is_blocked, left_for, live_from, next_turn, robin_from, turn_in}
use Rattle.jm_world.specs.Run.{After, after}
use Rattle.jm_world.specs.World.{World}
use Rattle.jm_world.specs.declared.event.Event.{Event}
use Rattle.jm_world.specs.declared.event.Event.TheVariants.{Step}
use Rattle.jm_world.specs.declared.stop.Stop.{Stop}
use Rattle.jm_events.specs.Due.{left_of, turns_due, turns_seen}
use Rattle.jm_events.specs.declared.turns.Turns.{Turns}

-- ---- whose turn it is

pub no_stop : (o : Option Stop) → is_some o ≡ false → o ≡ None
no_stop None is = refl
no_stop (Some s) is = cc

abbrev unless_stopped : World → ℕ → Bool → Option Stop → Option Turn
unless_stopped w from moved o = elim o as (λ _. Option Turn) [ Some s ↦ None | None ↦ next_turn w from moved ]

stopped_turn : (w : World) (from : ℕ) (moved : Bool) (o : Option Stop) → is_some o ≡ true → unless_stopped w from moved o ≡ None
stopped_turn w from moved None is = cc
stopped_turn w from moved (Some s) is = refl

-- what the first live thread from a number on makes of it
abbrev by_live : World → Bool → Option ℕ → Option Turn
by_live w moved o = elim o as (λ _. Option Turn) [
  | Some n ↦ Some (record { thread = n; moved = moved })
  | None ↦ elim moved as (λ _. Option Turn) [
    | false ↦ None
    | true ↦ elim (live_from 1 1 w.threads) as (λ _. Option Turn) [ None ↦ None | Some n ↦ Some (record { thread = n; moved = false }) ]
  ]
]

abbrev anew : Option ℕ → Option Turn
anew o = elim o as (λ _. Option Turn) [ None ↦ None | Some n ↦ Some (record { thread = n; moved = false }) ]

module _ (w : World) (from : ℕ) (moved : Bool) (goes : w.stop ≡ None) where
  pub in_pass : (n : ℕ) → live_from from 1 w.threads ≡ Some n → turn_in w from moved ≡ Some (record { thread = n; moved = moved })
  in_pass n is = ap (unless_stopped w from moved) goes ∙ ap (by_live w moved) is

  pub all_blocked : moved ≡ false → live_from from 1 w.threads ≡ None → turn_in w from moved ≡ None
  all_blocked blocked is = ap (unless_stopped w from moved) goes ∙ ap (by_live w moved) is ∙ ap (λ b. by_live w b None) blocked

  pub in_next_pass : (n : ℕ) → moved ≡ true → live_from from 1 w.threads ≡ None → live_from 1 1 w.threads ≡ Some n → turn_in w from moved ≡ Some (record { thread = n; moved = false })
  in_next_pass n some is first = ap (unless_stopped w from moved) goes ∙ ap (by_live w moved) is ∙ ap (λ b. by_live w b None) some ∙ ap anew first

  pub none_live : moved ≡ true → live_from from 1 w.threads ≡ None → live_from 1 1 w.threads ≡ None → turn_in w from moved ≡ None
  none_live some is first = ap (unless_stopped w from moved) goes ∙ ap (by_live w moved) is ∙ ap (λ b. by_live w b None) some ∙ ap anew first

-- ---- the next event

-- what an event that is blocked or not, with so many left in its turn, is followed by
abbrev followed : ℕ → ℕ → World → ℕ → Bool → ℕ → Bool → List Event
followed steps quantum v n moved left blocked = elim blocked as (λ _. List Event) [
  | true ↦ robin_from steps quantum v (n + 1) quantum moved
  | false ↦ elim (nat_lt 1 left) as (λ _. List Event) [
    | true ↦ robin_from steps quantum v n (left - 1) true
    | false ↦ robin_from steps quantum v (n + 1) quantum true
  ]
]

-- the events by whose turn it is
abbrev made_by : ℕ → ℕ → World → ℕ → ℕ → Option Turn → List Event
made_by steps quantum w from left o = elim o as (λ _. List Event) [
  | None ↦ []
  | Some turn ↦ let made : After = after w (Step turn.thread) in
      Step turn.thread ∷ elim (is_blocked made.reply.kind) as (λ _. List Event) [
        | true ↦ robin_from steps quantum made.world (turn.thread + 1) quantum turn.moved
        | false ↦ elim (nat_lt 1 (left_for turn.thread from left quantum)) as (λ _. List Event) [
          | true ↦ robin_from steps quantum made.world turn.thread (left_for turn.thread from left quantum - 1) true
          | false ↦ robin_from steps quantum made.world (turn.thread + 1) quantum true
        ]
      ]
]

seen_due : (t : Turns) (v : World) (n : ℕ) (blocked : Bool) → t.thread ≡ n → t.passed + 1 ≡ n
    → followed t.steps t.quantum v n t.moved t.left blocked ≡ turns_due (turns_seen t blocked) v
seen_due t v n true thread passed = ap (λ k. robin_from t.steps t.quantum v (k + 1) t.quantum t.moved) (sym thread)
seen_due t v n false thread passed = by (nat_lt 1 t.left)
  where
    by : (b : Bool) → (elim b as (λ _. List Event) [ true ↦ robin_from t.steps t.quantum v n (t.left - 1) true | false ↦ robin_from t.steps t.quantum v (n + 1) t.quantum true ])
        ≡ turns_due (elim b as (λ _. Turns) [ true ↦ record t { left = t.left - 1; moved = true } | false ↦ record t { passed = t.thread; left = t.quantum; moved = true } ]) v
    by true = ap (λ k. robin_from t.steps t.quantum v k (t.left - 1) true) (sym passed)
    by false = ap (λ k. robin_from t.steps t.quantum v (k + 1) t.quantum true) (sym thread)

-- the turns behind the choice of a thread
pub record Takes (w : World) (t : Turns) (n : ℕ) (u : Turns) : Type 0 where
  pub chosen : turn_in w (t.passed + 1) t.moved ≡ Some (record { thread = n; moved = u.moved })
  pub steps : t.steps ≡ suc u.steps
  pub quantum : u.quantum ≡ t.quantum
  pub left : u.left ≡ left_for n (t.passed + 1) t.left t.quantum
  pub thread : u.thread ≡ n
  pub passed : u.passed + 1 ≡ n

pub event_due : (w : World) (t u : Turns) (n : ℕ) → Takes w t n u
    → turns_due t w ≡ Step n ∷ turns_due (turns_seen u (is_blocked (after w (Step n)).reply.kind)) (after w (Step n)).world
event_due w t u n takes =
    let made : After = after w (Step n) in
    let blocked = is_blocked made.reply.kind in
    ap (λ s. robin_from s t.quantum w (t.passed + 1) t.left t.moved) takes.steps
    ∙ ap (made_by u.steps t.quantum w (t.passed + 1) t.left) takes.chosen
    ∙ ap₂ (λ (q l : ℕ). Step n ∷ followed u.steps q made.world n u.moved l blocked) (sym takes.quantum) (sym takes.left)
    ∙ ap (λ (es : List Event). Step n ∷ es) (seen_due u made.world n blocked takes.thread takes.passed)

pub no_turn : (w : World) (t : Turns) → turn_in w (t.passed + 1) t.moved ≡ None → turns_due t w ≡ []
no_turn w t is = by t.steps
  where
    by : (steps : ℕ) → robin_from steps t.quantum w (t.passed + 1) t.left t.moved ≡ []
    by zero = refl
    by (suc steps) = ap (made_by steps t.quantum w (t.passed + 1) t.left) is

pub no_steps : (w : World) (t : Turns) → t.steps ≡ 0 → turns_due t w ≡ []
no_steps w t none = ap (λ s. robin_from s t.quantum w (t.passed + 1) t.left t.moved) none

pub none_stopped : (w : World) (t : Turns) → is_some w.stop ≡ true → turns_due t w ≡ []
none_stopped w t is = no_turn w t (stopped_turn w (t.passed + 1) t.moved w.stop is)

-- what the turn of a thread has left
pub left_is : (t : Turns) (n : ℕ) → 1 ≤ n → left_of t n ≡ left_for n (t.passed + 1) t.left t.quantum
left_is t n some = by (nat_eq (n - 1) t.passed) (nat_eq n (t.passed + 1)) refl refl
  where
    by : (a b : Bool) → nat_eq (n - 1) t.passed ≡ a → nat_eq n (t.passed + 1) ≡ b
        → (elim a as (λ _. ℕ) [ true ↦ t.left | false ↦ t.quantum ]) ≡ (elim b as (λ _. ℕ) [ true ↦ t.left | false ↦ t.quantum ])
    by true true e f = refl
    by false false e f = refl
    by true false e f = let same = eqb-true (n - 1) t.passed e in let no : true ≡ false = sym (eq-eqb n (t.passed + 1) (omega (arith, same))) ∙ f in absurd cc
    by false true e f = let same = eqb-true n (t.passed + 1) f in let no : true ≡ false = sym (eq-eqb (n - 1) t.passed (omega (arith, same))) ∙ e in absurd cc
