-- Laws of schedules with a bounded number of switches.
use Rattle.std.proofs.Common.{◌≡◌, ℕ, suc, ◌+◌, ◌≤◌, Bool, true, false, ◌&&◌, nat_eq, List, [], ◌∷◌, Option, Some, None, is_some, length, refl, sym, ap, ◌∙◌, arith, true≢false, ◌-◌, ◌<◌, ◌++◌, nat_le, nat_lt, map, slice_get, inl, inr, subst, zero, ◌⊎◌}
use Rattle.std.proofs.lemmas.Bool.{false≢true}
use Rattle.std.specs.List.{All, Contains, flat_map}
use Rattle.std.proofs.lemmas.Option.{slice_get_within}
use Rattle.jm_program.proofs.Truths.{right_true, left_true}
use Rattle.jm_program.proofs.Numbers.{at_most}
use Rattle.jm_world.specs.World.{World, Thread, thread_at, is_running}
use Rattle.jm_world.specs.Run.{After, after, after_thread, answered, run_from}
use Rattle.jm_world.specs.declared.event.Event.{Event}
use Rattle.jm_world.specs.declared.event.Event.TheVariants.{Step, Minor, Full}
use Rattle.jm_world.specs.declared.reply.ReplyKind.TheVariants as kind
use Rattle.jm_world.specs.declared.stop.Stop.{Stop}
use Rattle.jm_explore.specs.Switches.{all_go, can_go, first_of, is_going, next_of, next_turn, or_else, other_than, switch, switch_behind, switch_within, switches_from, world_after, IsEnd, IsSchedule}
use Rattle.jm_explore.specs.Schedulings.{ListsAll, ListsNoOther, MoreSwitches, NoneLeftOut, SameEnd, choices_from, going, schedules, schedules_from}
use Rattle.jm_explore.specs.Lists.{Each}
use Rattle.jm_explore.specs.declared.turn.Turn.{Turn}
use Rattle.jm_explore.proofs.Going.{stays_running, after_is, other_same}
use Rattle.jm_machine.proofs.BetweenEvents.{still_after}

no_some : (t : ℕ) → None ≡ Some t → ⊥
no_some t e = false≢true (ap (λ (o : Option ℕ). is_some o) e)

some_is : (a b : ℕ) → Some a ≡ Some b → a ≡ b
some_is a b e = ap (λ (o : Option ℕ). elim o as (λ _. ℕ) [ None ↦ a | Some n ↦ n ]) e

abbrev after_of : World → ℕ → Option Stop → Option Thread → After
after_of w t None o = after_thread w t o
after_of w t (Some s) o = answered kind.Stopped w

abbrev goes_of : World → ℕ → Option Stop → Option Thread → Bool
goes_of w t None o = is_going (after_of w t None o).reply.kind
goes_of w t (Some s) o = false

opened : (w : World) (t : ℕ) → can_go w t ≡ goes_of w t w.stop (thread_at w t)
unfolding can_go after
opened w t = by w.stop
  where
    by : (x : Option Stop) → elim x as (λ _. Bool) [ Some s ↦ false | None ↦ is_going (elim x as (λ _. After) [ Some s ↦ answered kind.Stopped w | None ↦ after_thread w t (thread_at w t) ]).reply.kind ] ≡ goes_of w t x (thread_at w t)
    by None = refl
    by (Some s) = refl

stays_of : (w : World) (t : ℕ) (s : Option Stop) (o : Option Thread) → goes_of w t s o ≡ false → (after_of w t s o).world ≡ w
stays_of w t (Some s) o h = refl
stays_of w t None None h = refl
stays_of w t None (Some th) h = stays_running w t th (is_running th.ending) h

-- an event of a thread that cannot go leaves the world as it is
pub stays : (w : World) (t : ℕ) → can_go w t ≡ false → (after w (Step t)).world ≡ w
stays w t h = ap (λ (a : After). a.world) (after_is w t) ∙ stays_of w t w.stop (thread_at w t) (sym (opened w t) ∙ h)

same_step : (w : World) (t : ℕ) (es : List Event) (b : Bool) → can_go w t ≡ b
    → (run_from (after w (Step t)).world es ≡ world_after (after w (Step t)).world (going (after w (Step t)).world es)) × (all_go (after w (Step t)).world (going (after w (Step t)).world es) ≡ true)
    → (run_from w es ≡ world_after w (going w es)) × (all_go w (going w es) ≡ true)
    → (run_from (after w (Step t)).world es ≡ world_after w (elim b as (λ _. List ℕ) [ true ↦ t ∷ going (after w (Step t)).world es | false ↦ going w es ]))
    × (all_go w (elim b as (λ _. List ℕ) [ true ↦ t ∷ going (after w (Step t)).world es | false ↦ going w es ]) ≡ true)
same_step w t es true h went same = (went.0, ap (λ b. b && all_go (after w (Step t)).world (going (after w (Step t)).world es)) h ∙ went.1)
same_step w t es false h went same = (ap (λ v. run_from v es) (stays w t h) ∙ same.0, same.1)

pub same_end : SameEnd
same_end w [] = (refl, refl)
same_end w (Minor ∷ es) = let rest = same_end w es in (ap (λ v. run_from v es) (still_after w Minor refl) ∙ rest.0, rest.1)
same_end w (Full ∷ es) = let rest = same_end w es in (ap (λ v. run_from v es) (still_after w Full refl) ∙ rest.0, rest.1)
same_end w (Step t ∷ es) = same_step w t es (can_go w t) refl (same_end (after w (Step t)).world es) (same_end w es)

other_at_most_one : (n t : ℕ) → other_than n t ≤ 1
other_at_most_one n t = by (nat_eq n t)
  where
    by : (a : Bool) → elim a as (λ _. ℕ) [ true ↦ 0 | false ↦ 1 ] ≤ 1
    by true = omega arith
    by false = omega arith

within_at_most_one : (w : World) (last t : ℕ) → switch_within w last t ≤ 1
within_at_most_one w last t = by (can_go w last) (other_at_most_one last t)
  where
    by : (b : Bool) → other_than last t ≤ 1 → elim b as (λ _. ℕ) [ true ↦ other_than last t | false ↦ 0 ] ≤ 1
    by true low = low
    by false low = omega arith

behind_at_most_one : (o : Option ℕ) (t : ℕ) → switch_behind o t ≤ 1
behind_at_most_one None t = omega arith
behind_at_most_one (Some n) t = other_at_most_one n t

one_each : (w : World) (slice : ℕ) (turn : Option Turn) (t : ℕ) → switch w slice turn t ≤ 1
one_each w slice None t = omega arith
one_each w slice (Some turn) t = by (nat_lt turn.events slice) (within_at_most_one w turn.thread t) (behind_at_most_one (next_of w turn.thread) t)
  where
    by : (b : Bool) → switch_within w turn.thread t ≤ 1 → switch_behind (next_of w turn.thread) t ≤ 1
        → elim b as (λ _. ℕ) [ true ↦ switch_within w turn.thread t | false ↦ switch_behind (next_of w turn.thread) t ] ≤ 1
    by true h k = h
    by false h k = k

-- no more switches than events
pub switches_few : (w : World) (slice : ℕ) (turn : Option Turn) (ts : List ℕ) → switches_from w slice turn ts ≤ length ts
switches_few w slice turn [] = omega arith
switches_few w slice turn (t ∷ ts) =
    let one = one_each w slice turn t in let rest = switches_few (after w (Step t)).world slice (Some (next_turn slice turn t)) ts in
    let sum : switch w slice turn t + switches_from (after w (Step t)).world slice (Some (next_turn slice turn t)) ts ≤ suc (length ts) = omega (arith, one, rest) in
    sum

pub none_left_out : NoneLeftOut
none_left_out w slice steps ts go within whole = record { go = go; few = (let few = switches_few w slice None ts in omega (arith, few, within)); within = within; whole = whole }

pub more_switches : MoreSwitches
more_switches w slice few many steps ts less s = record { go = s.go; few = (let low = s.few in omega (arith, low, less)); within = s.within; whole = s.whole }

-- ---- the list has all

abbrev IsIn : {X : Type 0} → X → List X → Type 0
IsIn x [] = ⊥
IsIn x (y ∷ ys) = (y ≡ x) ⊎ IsIn x ys

module _ {X : Type 0} where
  in_left : (x : X) (xs ys : List X) → IsIn x xs → IsIn x (xs ++ ys)
  in_left x [] ys h = absurd h
  in_left x (y ∷ xs) ys (inl e) = inl e
  in_left x (y ∷ xs) ys (inr h) = inr (in_left x xs ys h)

  in_right : (x : X) (xs ys : List X) → IsIn x ys → IsIn x (xs ++ ys)
  in_right x [] ys h = h
  in_right x (y ∷ xs) ys h = inr (in_right x xs ys h)

  contained : (x : X) (xs : List X) → IsIn x xs → Contains xs x
  contained x [] h = absurd h
  contained x (y ∷ xs) (inl e) = (0, omega arith, e)
  contained x (y ∷ xs) (inr h) = let rest = contained x xs h in (suc rest.0, (let low = rest.1 in omega (arith, low)), rest.2)

in_map : (t : ℕ) (rest : List ℕ) (ls : List (List ℕ)) → IsIn rest ls → IsIn (t ∷ rest) (map (λ r. t ∷ r) ls)
in_map t rest [] h = absurd h
in_map t rest (l ∷ ls) (inl e) = inl (ap (λ r. t ∷ r) e)
in_map t rest (l ∷ ls) (inr h) = inr (in_map t rest ls h)

in_flat : (f : ℕ → List (List ℕ)) (t : ℕ) (cs : List ℕ) (l : List ℕ) → IsIn t cs → IsIn l (f t) → IsIn l (flat_map f cs)
in_flat f t [] l h i = absurd h
in_flat f t (c ∷ cs) l (inl e) i = in_left l (f c) (flat_map f cs) (subst (λ x. IsIn l (f x)) (sym e) i)
in_flat f t (c ∷ cs) l (inr h) i = in_right l (f c) (flat_map f cs) (in_flat f t cs l h i)

module _ (w : World) (slice : ℕ) (turn : Option Turn) (left : ℕ) where
  pub no_choice : IsEnd w → (n : ℕ) (ths : List Thread) → choices_from w slice turn left n ths ≡ []
  no_choice end n [] = refl
  no_choice end n (th ∷ ths) = by (can_go w n) (end n) (no_choice end (n + 1) ths)
    where
      by : (b : Bool) → b ≡ false → choices_from w slice turn left (n + 1) ths ≡ [] → elim b as (λ _. List ℕ) [
        | false ↦ choices_from w slice turn left (n + 1) ths
        | true ↦ elim (nat_le (switch w slice turn n) left) [ true ↦ n ∷ choices_from w slice turn left (n + 1) ths | false ↦ choices_from w slice turn left (n + 1) ths ]
      ] ≡ []
      by false e rest = rest
      by true e rest = absurd (true≢false e)

  kept : (n t : ℕ) (cs : List ℕ) (a b : Bool) → IsIn t cs → IsIn t (elim a as (λ _. List ℕ) [ false ↦ cs | true ↦ elim b as (λ _. List ℕ) [ true ↦ n ∷ cs | false ↦ cs ] ])
  kept n t cs false b h = h
  kept n t cs true true h = inr h
  kept n t cs true false h = h

  first : (n : ℕ) (cs : List ℕ) (a b : Bool) → a ≡ true → b ≡ true → IsIn n (elim a as (λ _. List ℕ) [ false ↦ cs | true ↦ elim b as (λ _. List ℕ) [ true ↦ n ∷ cs | false ↦ cs ] ])
  first n cs true true e f = inl refl
  first n cs true false e f = absurd (false≢true f)
  first n cs false b e f = absurd (false≢true e)

  le_true : (a b : ℕ) → a ≤ b → nat_le a b ≡ true
  le_true a b h = grind (arith, h)

  chosen : (t : ℕ) → can_go w t ≡ true → switch w slice turn t ≤ left → (n : ℕ) (ths : List Thread) → n ≤ t → t < n + length ths → IsIn t (choices_from w slice turn left n ths)
  chosen t go few n [] low high = let bad : ⊥ = omega (arith, low, high) in absurd bad
  chosen t go few n (th ∷ ths) low high = elim (apart n t low) [
    | inl e ↦ subst (λ k. IsIn k (choices_from w slice turn left n (th ∷ ths))) e (first n (choices_from w slice turn left (n + 1) ths) (can_go w n) (nat_le (switch w slice turn n) left)
        (subst (λ k. can_go w k ≡ true) (sym e) go) (le_true (switch w slice turn n) left (subst (λ k. switch w slice turn k ≤ left) (sym e) few)))
    | inr more ↦ kept n t (choices_from w slice turn left (n + 1) ths) (can_go w n) (nat_le (switch w slice turn n) left) (chosen t go few (n + 1) ths (omega (arith, more)) (omega (arith, high)))
  ]
    where
      apart : (n t : ℕ) → n ≤ t → (n ≡ t) ⊎ (n < t)
      apart n t h = grind (arith, h)

pub going_within : (w : World) (t : ℕ) → can_go w t ≡ true → (1 ≤ t) × (t < 1 + length w.threads)
going_within w t h = by t w.stop (sym (opened w t) ∙ h)
  where
    within : (n : ℕ) (o : Option Thread) → slice_get w.threads n ≡ o → (s : Option Stop) → goes_of w (suc n) s o ≡ true → n < length w.threads
    within n o e (Some s) h = absurd (false≢true h)
    within n None e None h = absurd (false≢true h)
    within n (Some th) e None h = slice_get_within w.threads n th e

    by : (t : ℕ) (s : Option Stop) → goes_of w t s (thread_at w t) ≡ true → (1 ≤ t) × (t < 1 + length w.threads)
    by zero None h = absurd (false≢true h)
    by zero (Some s) h = absurd (false≢true h)
    by (suc n) s h = (omega arith, (let low = within n (slice_get w.threads n) refl s h in omega (arith, low)))

listed : (n : ℕ) (w : World) (slice : ℕ) (turn : Option Turn) (left : ℕ) (ts : List ℕ) → all_go w ts ≡ true → switches_from w slice turn ts ≤ left → length ts ≤ n → (length ts ≡ n) ⊎ IsEnd (world_after w ts) → IsIn ts (schedules_from n w slice turn left)
listed zero w slice turn left [] go few within whole = inl refl
listed zero w slice turn left (t ∷ ts) go few within whole = let bad : ⊥ = omega (arith, within) in absurd bad
listed (suc n) w slice turn left [] go few within whole = elim whole [
  | inl e ↦ (let bad : ⊥ = omega (arith, e) in absurd bad)
  | inr end ↦ subst (λ cs. IsIn [] (elim cs as (λ _. List (List ℕ)) [
    | [] ↦ [] ∷ []
    | (t ∷ ts) ↦ flat_map (λ s. map (λ rest. s ∷ rest) (schedules_from n (after w (Step s)).world slice (Some (next_turn slice turn s)) (left - switch w slice turn s))) (t ∷ ts)
  ])) (sym (no_choice w slice turn left end 1 w.threads)) (inl refl)
]
listed (suc n) w slice turn left (t ∷ ts) go few within whole =
    let can = left_true (can_go w t) (all_go (after w (Step t)).world ts) go in
    let place = going_within w t can in
    let rest = listed n (after w (Step t)).world slice (Some (next_turn slice turn t)) (left - switch w slice turn t) ts (right_true (can_go w t) (all_go (after w (Step t)).world ts) go) (omega (arith, few)) (omega (arith, within))
    (elim whole [ inl e ↦ inl (omega (arith, e)) | inr end ↦ inr end ]) in
    by (choices_from w slice turn left 1 w.threads) (chosen w slice turn left t can (omega (arith, few)) 1 w.threads place.0 place.1) (in_map t ts (schedules_from n (after w (Step t)).world slice (Some (next_turn slice turn t)) (left - switch w slice turn t)) rest)
  where
    by : (cs : List ℕ) → IsIn t cs → IsIn (t ∷ ts) (map (λ r. t ∷ r) (schedules_from n (after w (Step t)).world slice (Some (next_turn slice turn t)) (left - switch w slice turn t))) → IsIn (t ∷ ts) (elim cs as (λ _. List (List ℕ)) [
      | [] ↦ [] ∷ []
      | (c ∷ cs) ↦ flat_map (λ s. map (λ rest. s ∷ rest) (schedules_from n (after w (Step s)).world slice (Some (next_turn slice turn s)) (left - switch w slice turn s))) (c ∷ cs)
    ])
    by [] h i = absurd h
    by (c ∷ cs) h i = in_flat (λ s. map (λ rest. s ∷ rest) (schedules_from n (after w (Step s)).world slice (Some (next_turn slice turn s)) (left - switch w slice turn s))) t (c ∷ cs) (t ∷ ts) h i

pub lists_all : ListsAll
lists_all w slice most steps ts s = contained ts (schedules w slice most steps) (listed steps w slice None most ts s.go s.few s.within s.whole)

-- ---- and nothing else

module _ {X : Type 0} (P : X → Type 0) where
  each_append : (xs ys : List X) → Each P xs → Each P ys → Each P (xs ++ ys)
  each_append [] ys e f = f
  each_append (x ∷ xs) ys e f = (e.0, each_append xs ys e.1 f)

  all_of : (xs : List X) → Each P xs → All P xs
  all_of [] e k d low = let bad : ⊥ = omega (arith, low) in absurd bad
  all_of (x ∷ xs) e zero d low = e.0
  all_of (x ∷ xs) e (suc k) d low = all_of xs e.1 k d (omega (arith, low))

-- from a place of a schedule on
pub record IsRest (w : World) (slice : ℕ) (turn : Option Turn) (left n : ℕ) (ts : List ℕ) : Type 0 where
  pub go : all_go w ts ≡ true
  pub few : switches_from w slice turn ts ≤ left
  pub within : length ts ≤ n
  pub whole : (length ts ≡ n) ⊎ IsEnd (world_after w ts)

abbrev pub IsChoice : World → ℕ → Option Turn → ℕ → ℕ → Type 0
IsChoice w slice turn left t = (can_go w t ≡ true) × (switch w slice turn t ≤ left)

pub choices_go : (w : World) (slice : ℕ) (turn : Option Turn) (left n : ℕ) (ths : List Thread) → Each (IsChoice w slice turn left) (choices_from w slice turn left n ths)
choices_go w slice turn left n [] = tt
choices_go w slice turn left n (th ∷ ths) = by (can_go w n) (nat_le (switch w slice turn n) left) refl refl (choices_go w slice turn left (n + 1) ths)
  where
    by : (a b : Bool) → can_go w n ≡ a → nat_le (switch w slice turn n) left ≡ b → Each (IsChoice w slice turn left) (choices_from w slice turn left (n + 1) ths) → Each (IsChoice w slice turn left) (elim a as (λ _. List ℕ) [
      | false ↦ choices_from w slice turn left (n + 1) ths
      | true ↦ elim b as (λ _. List ℕ) [ true ↦ n ∷ choices_from w slice turn left (n + 1) ths | false ↦ choices_from w slice turn left (n + 1) ths ]
    ])
    by false b e f rest = rest
    by true false e f rest = rest
    by true true e f rest = ((e, at_most (switch w slice turn n) left f), rest)

-- the first that can go can go, and there is one where one can go
pub first_goes : (w : World) (n count t : ℕ) → first_of w n count ≡ Some t → can_go w t ≡ true
first_goes w n zero t e = absurd (no_some t e)
first_goes w n (suc count) t e = by (can_go w n) refl (first_goes w (n + 1) count t) e
  where
    by : (b : Bool) → can_go w n ≡ b → (first_of w (n + 1) count ≡ Some t → can_go w t ≡ true) → elim b as (λ _. Option ℕ) [ true ↦ Some n | false ↦ first_of w (n + 1) count ] ≡ Some t → can_go w t ≡ true
    by true h rest e = ap (can_go w) (sym (some_is n t e)) ∙ h
    by false h rest e = rest e

pub first_is_there : (w : World) (n count t : ℕ) → n ≤ t → t < n + count → can_go w t ≡ true → first_of w n count ≡ None → ⊥
first_is_there w n zero t low high can e = let bad : ⊥ = omega (arith, low, high) in bad
first_is_there w n (suc count) t low high can e = by (can_go w n) refl (λ more. first_is_there w (n + 1) count t (omega (arith, more)) (omega (arith, high)) can) e (apart n t low)
  where
    apart : (n t : ℕ) → n ≤ t → (n ≡ t) ⊎ (n < t)
    apart n t h = grind (arith, h)

    by : (b : Bool) → can_go w n ≡ b → (n < t → first_of w (n + 1) count ≡ None → ⊥) → elim b as (λ _. Option ℕ) [ true ↦ Some n | false ↦ first_of w (n + 1) count ] ≡ None → (n ≡ t) ⊎ (n < t) → ⊥
    by true h rest e o = no_some n (sym e)
    by false h rest e (inl same) = true≢false (sym can ∙ ap (can_go w) (sym same) ∙ h)
    by false h rest e (inr more) = rest more e

pub next_goes : (w : World) (last t : ℕ) → next_of w last ≡ Some t → can_go w t ≡ true
next_goes w last t e = by (first_of w (last + 1) (length w.threads - last)) refl e
  where
    by : (o : Option ℕ) → first_of w (last + 1) (length w.threads - last) ≡ o → or_else o (first_of w 1 last) ≡ Some t → can_go w t ≡ true
    by None f e = first_goes w 1 last t e
    by (Some n) f e = first_goes w (last + 1) (length w.threads - last) t (f ∙ e)

pub next_is_there : (w : World) (last t : ℕ) → can_go w t ≡ true → next_of w last ≡ None → ⊥
next_is_there w last t can e = by (first_of w (last + 1) (length w.threads - last)) refl e (apart t last)
  where
    place : (1 ≤ t) × (t < 1 + length w.threads)
    place = going_within w t can

    apart : (t last : ℕ) → (t ≤ last) ⊎ (last < t)
    apart t last = grind arith

    by : (o : Option ℕ) → first_of w (last + 1) (length w.threads - last) ≡ o → or_else o (first_of w 1 last) ≡ None → (t ≤ last) ⊎ (last < t) → ⊥
    by (Some n) f e o = no_some _ (sym e)
    by None f e (inl low) = let one = place.0 in first_is_there w 1 last t one (omega (arith, low)) can e
    by None f e (inr high) = let top = place.1 in first_is_there w (last + 1) (length w.threads - last) t (omega (arith, high)) (omega (arith, high, top)) can f

-- where no thread may be chosen, none can go: one could go for nothing
pub no_more : (w : World) (slice : ℕ) (turn : Option Turn) (left : ℕ) → choices_from w slice turn left 1 w.threads ≡ [] → IsEnd w
no_more w slice turn left none t = by (can_go w t) refl
  where
    not_in : (s : ℕ) → can_go w s ≡ true → switch w slice turn s ≡ 0 → ⊥
    not_in s can free = let place = going_within w s can in subst (λ cs. IsIn s cs) none (chosen w slice turn left s can (omega (arith, free)) 1 w.threads place.0 place.1)

    within : (last : ℕ) → ((s : ℕ) → switch w slice turn s ≡ switch_within w last s) → can_go w t ≡ true → ⊥
    within last is can = then_what (can_go w last) refl
      where
        opens : (s : ℕ) (b : Bool) → can_go w last ≡ b → switch_within w last s ≡ elim b as (λ _. ℕ) [ true ↦ other_than last s | false ↦ 0 ]
        opens s b e = ap (λ x. elim x as (λ _. ℕ) [ true ↦ other_than last s | false ↦ 0 ]) e

        then_what : (b : Bool) → can_go w last ≡ b → ⊥
        then_what true goes_on = not_in last goes_on (is last ∙ opens last true goes_on ∙ other_same last)
        then_what false stuck = not_in t can (is t ∙ opens t false stuck)

    behind : (last : ℕ) → ((s : ℕ) → switch w slice turn s ≡ switch_behind (next_of w last) s) → can_go w t ≡ true → ⊥
    behind last is can = then_what (next_of w last) refl
      where
        then_what : (o : Option ℕ) → next_of w last ≡ o → ⊥
        then_what None e = next_is_there w last t can e
        then_what (Some n) e = not_in n (next_goes w last n e) (is n ∙ ap (λ o. switch_behind o n) e ∙ other_same n)

    other : (l : Option Turn) → turn ≡ l → can_go w t ≡ true → ⊥
    other None e can = not_in t can (ap (λ x. switch w slice x t) e)
    other (Some l) e can = then_what (nat_lt l.events slice) refl
      where
        opens : (s : ℕ) (b : Bool) → nat_lt l.events slice ≡ b → switch w slice turn s ≡ elim b as (λ _. ℕ) [ true ↦ switch_within w l.thread s | false ↦ switch_behind (next_of w l.thread) s ]
        opens s b f = ap (λ x. switch w slice x s) e ∙ ap (λ x. elim x as (λ _. ℕ) [ true ↦ switch_within w l.thread s | false ↦ switch_behind (next_of w l.thread) s ]) f

        then_what : (b : Bool) → nat_lt l.events slice ≡ b → ⊥
        then_what true f = within l.thread (λ s. opens s true f) can
        then_what false f = behind l.thread (λ s. opens s false f) can

    by : (b : Bool) → can_go w t ≡ b → can_go w t ≡ false
    by false e = e
    by true e = absurd (other turn refl e)

module _ (n : ℕ) (w : World) (slice : ℕ) (turn : Option Turn) (left : ℕ) where
  each_after : (s : ℕ) → IsChoice w slice turn left s → (ls : List (List ℕ)) → Each (IsRest (after w (Step s)).world slice (Some (next_turn slice turn s)) (left - switch w slice turn s) n) ls → Each (IsRest w slice turn left (suc n)) (map (λ rest. s ∷ rest) ls)
  each_after s c [] e = tt
  each_after s c (l ∷ ls) e = (
    record {
      go = ap (λ b. b && all_go (after w (Step s)).world l) c.0 ∙ e.0.go;
      few = (let low = c.1 in let rest = e.0.few in let sum : switch w slice turn s + switches_from (after w (Step s)).world slice (Some (next_turn slice turn s)) l ≤ left = omega (arith, low, rest) in sum);
      within = (let low = e.0.within in omega (arith, low));
      whole = elim e.0.whole [ inl size ↦ inl (ap suc size) | inr end ↦ inr end ];
    },
    each_after s c ls e.1,
  )

  each_choice : (rests : (s : ℕ) → Each (IsRest (after w (Step s)).world slice (Some (next_turn slice turn s)) (left - switch w slice turn s) n) (schedules_from n (after w (Step s)).world slice (Some (next_turn slice turn s)) (left - switch w slice turn s))) → (cs : List ℕ) → Each (IsChoice w slice turn left) cs
      → Each (IsRest w slice turn left (suc n)) (flat_map (λ s. map (λ rest. s ∷ rest) (schedules_from n (after w (Step s)).world slice (Some (next_turn slice turn s)) (left - switch w slice turn s))) cs)
  each_choice rests [] e = tt
  each_choice rests (s ∷ cs) e = each_append (IsRest w slice turn left (suc n)) (map (λ rest. s ∷ rest) (schedules_from n (after w (Step s)).world slice (Some (next_turn slice turn s)) (left - switch w slice turn s)))
      (flat_map (λ s. map (λ rest. s ∷ rest) (schedules_from n (after w (Step s)).world slice (Some (next_turn slice turn s)) (left - switch w slice turn s))) cs) (each_after s e.0 (schedules_from n (after w (Step s)).world slice (Some (next_turn slice turn s)) (left - switch w slice turn s)) (rests s)) (each_choice rests cs e.1)

pub listed_only : (n : ℕ) (w : World) (slice : ℕ) (turn : Option Turn) (left : ℕ) → Each (IsRest w slice turn left n) (schedules_from n w slice turn left)
listed_only zero w slice turn left = (record { go = refl; few = omega arith; within = omega arith; whole = inl refl }, tt)
listed_only (suc n) w slice turn left = by (choices_from w slice turn left 1 w.threads) refl (choices_go w slice turn left 1 w.threads) (λ s. listed_only n (after w (Step s)).world slice (Some (next_turn slice turn s)) (left - switch w slice turn s))
  where
    by : (cs : List ℕ) → choices_from w slice turn left 1 w.threads ≡ cs → Each (IsChoice w slice turn left) cs
        → ((s : ℕ) → Each (IsRest (after w (Step s)).world slice (Some (next_turn slice turn s)) (left - switch w slice turn s) n) (schedules_from n (after w (Step s)).world slice (Some (next_turn slice turn s)) (left - switch w slice turn s)))
        → Each (IsRest w slice turn left (suc n)) (elim cs as (λ _. List (List ℕ)) [
          | [] ↦ [] ∷ []
          | (c ∷ cs) ↦ flat_map (λ s. map (λ rest. s ∷ rest) (schedules_from n (after w (Step s)).world slice (Some (next_turn slice turn s)) (left - switch w slice turn s))) (c ∷ cs)
        ])
    by [] e each rests = (record { go = refl; few = omega arith; within = omega arith; whole = inr (no_more w slice turn left e) }, tt)
    by (c ∷ cs) e each rests = each_choice n w slice turn left rests (c ∷ cs) each

pub lists_no_other : ListsNoOther
lists_no_other w slice most steps = all_of (IsSchedule w slice most steps) (schedules w slice most steps) (each_so (schedules w slice most steps) (listed_only steps w slice None most))
  where
    each_so : (ls : List (List ℕ)) → Each (IsRest w slice None most steps) ls → Each (IsSchedule w slice most steps) ls
    each_so [] e = tt
    each_so (l ∷ ls) e = (record { go = e.0.go; few = e.0.few; within = e.0.within; whole = e.0.whole }, each_so ls e.1)
