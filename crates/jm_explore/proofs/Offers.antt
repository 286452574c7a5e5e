-- Branches that are added for live threads.
use Rattle.std.proofs.Common.{◌≡◌, ◌≢◌, ◌⊎◌, ℕ, ◌+◌, ◌≤◌, ◌<◌, List, [], ◌∷◌, ◌++◌, true, false, Bool, Option, Some, None, ◌-◌, length, refl, sym, ap, subst, ◌∙◌, inl, inr, append_assoc, append-nil, arith, map, take, true≢false, zero, suc}
use Rattle.std.proofs.Math.Seq.{take-append_seam}
use Rattle.jm_program.proofs.Numbers.{found_less, found_no_less}
use Rattle.jm_world.specs.World.{World}
use Rattle.jm_world.specs.Run.{after}
use Rattle.jm_world.specs.declared.event.Event.TheVariants.{Step}
use Rattle.jm_machine.specs.Threads.{is_live}
use Rattle.jm_machine.specs.View.{MachineView, MatchesWorld}
use Rattle.jm_explore.specs.Lists.{Distinct, Each, HasOne}
use Rattle.jm_explore.specs.Branches.{Adds, Advances, GoesAmong, GoesOn, IsBehind, Leaves, Offered, WentIf}
use Rattle.jm_explore.specs.Switches.{can_go, first_of, next_of, or_else, other_than, switch, switch_behind, switch_within, IsEnd}
use Rattle.jm_explore.specs.declared.branch.Branch.{Branch}
use Rattle.jm_explore.proofs.Lists.{each_append, each_as, has_left, has_right}
use Rattle.jm_explore.specs.declared.turn.Turn.{Turn}
use Rattle.jm_explore.proofs.Going.{going_lives, live_within, nobody_goes, other_one, other_same}
use Rattle.jm_explore.proofs.Switching.{next_is_there}

-- those up to a number
abbrev pub OfferedTo : World → ℕ → ℕ → ℕ → ℕ → Type 0
OfferedTo w above upto skipped t = (t ≤ upto) × Offered w above skipped t

pub none_added : (behind left skipped : ℕ) (P : ℕ → Type 0) (old : List Branch) → ((t : ℕ) → P t → ⊥) → Adds behind left skipped P old old
none_added behind left skipped P old none = record { added = []; new_is = sym (append-nil old); alike = tt; has = λ t p. absurd (none t p); wanted = tt; once = tt }

threads_append : (bs cs : List Branch) → map (λ (b : Branch). b.thread) (bs ++ cs) ≡ map (λ (b : Branch). b.thread) bs ++ map (λ (b : Branch). b.thread) cs
threads_append [] cs = refl
threads_append (b ∷ bs) cs = ap (λ ts. b.thread ∷ ts) (threads_append bs cs)

each_thread : (P : ℕ → Type 0) (bs : List Branch) → Each (λ b. P b.thread) bs → Each P (map (λ (b : Branch). b.thread) bs)
each_thread P [] e = tt
each_thread P (b ∷ bs) e = (e.0, each_thread P bs e.1)

-- one number more
distinct_more : (xs : List ℕ) (x : ℕ) → Distinct xs → Each (λ y. y ≢ x) xs → Distinct (xs ++ x ∷ [])
distinct_more [] x d e = (tt, tt)
distinct_more (y ∷ xs) x d e = (each_append (λ z. z ≢ y) xs (x ∷ []) d.0 ((λ same. e.0 (sym same)), tt), distinct_more xs x d.1 e.1)

pub more_added : (behind left skipped t : ℕ) (P Q : ℕ → Type 0) (old new newer : List Branch) → Adds behind left skipped P old new → t ≢ skipped → ((s : ℕ) → Q s → P s ⊎ (s ≡ t)) → ((s : ℕ) → P s → Q s × (s ≢ t)) → Q t
    → newer ≡ new ++ record { behind = behind; thread = t; left = left } ∷ [] → Adds behind left skipped Q old newer
more_added behind left skipped t P Q old new newer a other cases back here is =
    let one : Branch = record { behind = behind; thread = t; left = left } in
    record {
      added = a.added ++ one ∷ [];
      new_is = is ∙ ap (λ bs. bs ++ one ∷ []) a.new_is ∙ append_assoc old a.added (one ∷ []);
      alike = each_append (IsBehind behind left skipped) a.added (one ∷ []) a.alike ((refl, refl, other), tt);
      has = λ s q. elim (cases s q) [
        | inl p ↦ has_left (λ b. b.thread ≡ s) a.added (one ∷ []) (a.has s p)
        | inr e ↦ has_right (λ b. b.thread ≡ s) a.added (one ∷ []) (inl (sym e))
      ];
      wanted = each_append (λ b. Q b.thread) a.added (one ∷ []) (each_as (λ b. P b.thread) (λ b. Q b.thread) (λ b p. (back b.thread p).0) a.added a.wanted) (here, tt);
      once = subst Distinct (sym (threads_append a.added (one ∷ [])))
          (distinct_more (map (λ (b : Branch). b.thread) a.added) t a.once (each_thread (λ s. s ≢ t) a.added (each_as (λ b. P b.thread) (λ b. b.thread ≢ t) (λ b p. (back b.thread p).1) a.added a.wanted)));
    }

pub added_as : (behind left skipped : ℕ) (P Q : ℕ → Type 0) (old new : List Branch) → Adds behind left skipped P old new → ((s : ℕ) → Q s → P s) → ((s : ℕ) → P s → Q s) → Adds behind left skipped Q old new
added_as behind left skipped P Q old new a f back = record {
  added = a.added;
  new_is = a.new_is;
  alike = a.alike;
  has = λ s q. a.has s (f s q);
  wanted = each_as (λ b. P b.thread) (λ b. Q b.thread) (λ b p. back b.thread p) a.added a.wanted;
  once = a.once;
}

-- one index more
both_ways : (i t : ℕ) → t ≤ i + 1 → (t ≤ i) ⊎ (t ≡ i + 1)
both_ways i t h = grind (arith, h)

module _ (w : World) (behind left skipped above i : ℕ) (old new : List Branch) (a : Adds behind left skipped (OfferedTo w above i skipped) old new) where
  pub skipped_one : (i + 1 ≡ skipped) ⊎ (is_live w (i + 1) ≡ false) → Adds behind left skipped (OfferedTo w above (i + 1) skipped) old new
  skipped_one why = added_as behind left skipped (OfferedTo w above i skipped) (OfferedTo w above (i + 1) skipped) old new a by (λ s p. (let low = p.0 in omega (arith, low), p.1))
    where
      by : (s : ℕ) → OfferedTo w above (i + 1) skipped s → OfferedTo w above i skipped s
      by s q = elim (both_ways i s q.0) [
        | inl low ↦ (low, q.1)
        | inr e ↦ elim why [
          | inl same ↦ absurd (q.1.1 (e ∙ same))
          | inr ended ↦ absurd (true≢false (sym q.1.2 ∙ ap (is_live w) e ∙ ended))
        ]
      ]

  pub offered_one : (newer : List Branch) → above ≤ i → i + 1 ≢ skipped → is_live w (i + 1) ≡ true → newer ≡ new ++ record { behind = behind; thread = i + 1; left = left } ∷ [] → Adds behind left skipped (OfferedTo w above (i + 1) skipped) old newer
  offered_one newer upward other lives is = more_added behind left skipped (i + 1) (OfferedTo w above i skipped) (OfferedTo w above (i + 1) skipped) old new newer a other by
      (λ s p. ((let low = p.0 in omega (arith, low), p.1), λ e. let low = p.0 in let bad : ⊥ = omega (arith, e, low) in bad)) (omega arith, (omega (arith, upward), other, lives)) is
    where
      by : (s : ℕ) → OfferedTo w above (i + 1) skipped s → OfferedTo w above i skipped s ⊎ (s ≡ i + 1)
      by s q = elim (both_ways i s q.0) [ inl low ↦ inl (low, q.1) | inr e ↦ inr e ]

pub all_offered : (w : World) (behind left skipped above i : ℕ) (old new : List Branch) → length w.threads ≤ i → Adds behind left skipped (OfferedTo w above i skipped) old new
    → Adds behind left skipped (Offered w above skipped) old new
all_offered w behind left skipped above i old new past a = added_as behind left skipped (OfferedTo w above i skipped) (Offered w above skipped) old new a
    (λ s q. (let low = (live_within w s q.2).1 in omega (arith, low, past), q)) (λ s p. p.1)

pub offers_none : (w : World) (behind left skipped above : ℕ) (old : List Branch) → Adds behind left skipped (OfferedTo w above above skipped) old old
offers_none w behind left skipped above old = none_added behind left skipped (OfferedTo w above above skipped) old (λ t p. let low = p.0 in let high = p.1.0 in omega (arith, low, high))

-- ---- the branches of one event more

pub leaves_none : (w : World) (behind t : ℕ) (old : List Branch) → Leaves w (other_than t) 0 behind t old old
leaves_none w behind t old = record {
  added = [];
  new_is = sym (append-nil old);
  alike = tt;
  has = λ s go few. inl (by s few (same_or s t));
  once = (tt, tt);
}
  where
    same_or : (s t : ℕ) → (s ≡ t) ⊎ (s ≢ t)
    same_or s t = grind arith

    by : (s : ℕ) → other_than t s ≤ 0 → (s ≡ t) ⊎ (s ≢ t) → s ≡ t
    by s few (inl e) = e
    by s few (inr other) = let one = other_one t s other in let bad : ⊥ = omega (arith, one, few) in absurd bad

pub leaves_switches : (w : World) (behind left t : ℕ) (old new : List Branch) → 0 < left → Adds behind (left - 1) t (Offered w 0 t) old new → Leaves w (other_than t) left behind t old new
leaves_switches w behind left t old new some a = record {
  added = a.added;
  new_is = a.new_is;
  alike = each_as (IsBehind behind (left - 1) t) (λ b. (b.behind ≡ behind) × (b.left + other_than t b.thread ≡ left))
      (λ b is. (is.0, (let one = other_one t b.thread is.2 in let less = is.1 in omega (arith, one, less, some)))) a.added a.alike;
  has = λ s go few. by s go (same_or s t);
  once = (each_thread (λ s. s ≢ t) a.added (each_as (IsBehind behind (left - 1) t) (λ b. b.thread ≢ t) (λ b is. is.2) a.added a.alike), a.once);
}
  where
    same_or : (s t : ℕ) → (s ≡ t) ⊎ (s ≢ t)
    same_or s t = grind arith

    by : (s : ℕ) → can_go w s ≡ true → (s ≡ t) ⊎ (s ≢ t) → (s ≡ t) ⊎ HasOne (λ b. b.thread ≡ s) a.added
    by s go (inl e) = inl e
    by s go (inr other) = let lives = going_lives w s go in inr (a.has s ((live_within w s lives).0, other, lives))

-- the first thread that can go, behind those that cannot
pub leaves_free : (w : World) (behind left skipped i : ℕ) (old new : List Branch) → can_go w skipped ≡ false
    → ((s : ℕ) → s ≤ i → can_go w s ≡ false) → Adds behind left skipped (Offered w (i + 1) skipped) old new → Leaves w (λ _. 0) left behind (i + 1) old new
leaves_free w behind left skipped i old new gone before a = record {
  added = a.added;
  new_is = a.new_is;
  alike = each_as (IsBehind behind left skipped) (λ b. (b.behind ≡ behind) × (b.left + 0 ≡ left))
      (λ b is. (is.0, (let less = is.1 in omega (arith, less)))) a.added a.alike;
  has = λ s go few. by s go (where_is i s);
  once = (
    each_thread (λ s. s ≢ i + 1) a.added (each_as (λ b. Offered w (i + 1) skipped b.thread) (λ b. b.thread ≢ i + 1) (λ b p e. let high = p.0 in let bad : ⊥ = omega (arith, high, e) in bad) a.added a.wanted),
    a.once,
  );
}
  where
    where_is : (i s : ℕ) → (s ≤ i) ⊎ ((s ≡ i + 1) ⊎ (i + 1 < s))
    where_is i s = grind arith

    by : (s : ℕ) → can_go w s ≡ true → (s ≤ i) ⊎ ((s ≡ i + 1) ⊎ (i + 1 < s)) → (s ≡ i + 1) ⊎ HasOne (λ b. b.thread ≡ s) a.added
    by s go (inl low) = absurd (true≢false (sym go ∙ before s low))
    by s go (inr (inl e)) = inl e
    by s go (inr (inr high)) = inr (a.has s (high, (λ e. true≢false (sym go ∙ ap (can_go w) e ∙ gone)), going_lives w s go))

pub no_one_goes : (w : World) (i : ℕ) → length w.threads ≤ i → ((s : ℕ) → s ≤ i → can_go w s ≡ false) → IsEnd w
no_one_goes w i past none t = by (can_go w t) refl
  where
    by : (b : Bool) → can_go w t ≡ b → can_go w t ≡ false
    by false e = e
    by true e = let low = (live_within w t (going_lives w t e)).1 in none t (omega (arith, low, past))

pub went_true : {H : Type 0} (b : Bool) (w : World) (t : ℕ) (m : MachineView H) → b ≡ true → WentIf b w t m → MatchesWorld m (after w (Step t)).world
went_true true w t m e is = is
went_true false w t m e is = absurd (true≢false (sym e))

pub went_false : {H : Type 0} (b : Bool) (w : World) (t : ℕ) (m : MachineView H) → b ≡ false → WentIf b w t m → MatchesWorld m w
went_false true w t m e is = absurd (true≢false e)
went_false false w t m e is = is

pub none_up_to : (w : World) (i : ℕ) → ((s : ℕ) → s ≤ i → can_go w s ≡ false) → can_go w (i + 1) ≡ false → (s : ℕ) → s ≤ i + 1 → can_go w s ≡ false
none_up_to w i before here s low = elim (both_ways i s low) [ inl less ↦ before s less | inr e ↦ ap (can_go w) e ∙ here ]

pub at_most_zero : (w : World) (s : ℕ) → s ≤ 0 → can_go w s ≡ false
at_most_zero w s low = let e : s ≡ 0 = omega (arith, low) in ap (can_go w) e ∙ nobody_goes w

pub leaves_into : (w : World) (cost : ℕ → ℕ) (left behind t : ℕ) (old first new : List Branch) → old ≡ first → Leaves w cost left behind t old new → Leaves w cost left behind t first new
leaves_into w cost left behind t old first new e l = subst (λ bs. Leaves w cost left behind t bs new) e l

pub truncated : (old added new newer : List Branch) (n : ℕ) → new ≡ old ++ added → n ≡ length old → newer ≡ take n new → newer ≡ old
truncated old added new newer n e size cut = cut ∙ ap (λ k. take k new) size ∙ ap (take (length old)) e ∙ take-append_seam old added

module _ {H : Type 0} where
  pub goes_on_true : (b : Bool) (w : World) (t left behind : ℕ) (old new : List Branch) (m : MachineView H) → b ≡ true → GoesOn b w t left behind old new m → GoesOn true w t left behind old new m
  goes_on_true b w t left behind old new m e is = subst (λ x. GoesOn x w t left behind old new m) e is

  pub goes_on_not : (b : Bool) (w : World) (t left behind : ℕ) (old new : List Branch) (m : MachineView H) → b ≡ false → GoesOn b w t left behind old new m → GoesOn false w t left behind old new m
  goes_on_not b w t left behind old new m e is = subst (λ x. GoesOn x w t left behind old new m) e is

  -- another way to say what each costs
  pub advances_as : (w : World) (cost price : ℕ → ℕ) (left behind : ℕ) (old new : List Branch) (m : MachineView H) (o : Option ℕ) → price ≡ cost
      → Advances w cost left behind old new m o → Advances w price left behind old new m o
  advances_as w cost price left behind old new m o e a = subst (λ c. Advances w c left behind old new m o) (sym e) a

  pub goes_within : (w : World) (last left behind : ℕ) (old new : List Branch) (m : MachineView H) → GoesOn true w last left behind old new m → Advances w (switch_within w last) left behind old new m (Some last)
  goes_within w last left behind old new m is =
      let cost : Bool → ℕ → ℕ = λ b t. elim b as (λ _. ℕ) [ true ↦ other_than last t | false ↦ 0 ] in
      advances_as w (other_than last) (switch_within w last) left behind old new m (Some last) (ap cost is.0) (is.0, other_same last, is.1, is.2)

  pub goes_elsewhere : (w : World) (last left behind : ℕ) (old new : List Branch) (m : MachineView H) (o : Option ℕ) → can_go w last ≡ false → Advances w (λ _. 0) left behind old new m o
      → Advances w (switch_within w last) left behind old new m o
  goes_elsewhere w last left behind old new m o gone a =
      let cost : Bool → ℕ → ℕ = λ b t. elim b as (λ _. ℕ) [ true ↦ other_than last t | false ↦ 0 ] in
      advances_as w (λ _. 0) (switch_within w last) left behind old new m o (ap cost gone) a

  pub goes_next : (w : World) (last left behind t : ℕ) (old new : List Branch) (m : MachineView H) → next_of w last ≡ Some t → GoesOn true w t left behind old new m
      → Advances w (switch_behind (next_of w last)) left behind old new m (Some t)
  goes_next w last left behind t old new m e is = advances_as w (other_than t) (switch_behind (next_of w last)) left behind old new m (Some t) (ap (λ (o : Option ℕ). switch_behind o) e) (is.0, other_same t, is.1, is.2)

  pub within_slice : (w : World) (slice : ℕ) (turn : Turn) (last : Option Turn) (left behind : ℕ) (old new : List Branch) (m : MachineView H) (o : Option ℕ) → last ≡ Some turn → turn.events < slice
      → Advances w (switch_within w turn.thread) left behind old new m o → Advances w (switch w slice last) left behind old new m o
  within_slice w slice turn last left behind old new m o e f a =
      let cost : Bool → ℕ → ℕ = λ b t. elim b as (λ _. ℕ) [ true ↦ switch_within w turn.thread t | false ↦ switch_behind (next_of w turn.thread) t ] in
      let by_last : Option Turn → ℕ → ℕ = λ l. switch w slice l in
      advances_as w (switch_within w turn.thread) (switch w slice last) left behind old new m o (ap by_last e ∙ ap cost (found_less turn.events slice f)) a

  pub behind_slice : (w : World) (slice : ℕ) (turn : Turn) (last : Option Turn) (left behind : ℕ) (old new : List Branch) (m : MachineView H) (o : Option ℕ) → last ≡ Some turn → slice ≤ turn.events
      → Advances w (switch_behind (next_of w turn.thread)) left behind old new m o → Advances w (switch w slice last) left behind old new m o
  behind_slice w slice turn last left behind old new m o e f a =
      let cost : Bool → ℕ → ℕ = λ b t. elim b as (λ _. ℕ) [ true ↦ switch_within w turn.thread t | false ↦ switch_behind (next_of w turn.thread) t ] in
      let by_last : Option Turn → ℕ → ℕ = λ l. switch w slice l in
      advances_as w (switch_behind (next_of w turn.thread)) (switch w slice last) left behind old new m o (ap by_last e ∙ ap cost (found_no_less turn.events slice f)) a

  pub first_event : (w : World) (slice : ℕ) (last : Option Turn) (left behind : ℕ) (old new : List Branch) (m : MachineView H) (o : Option ℕ) → last ≡ None
      → Advances w (λ _. 0) left behind old new m o → Advances w (switch w slice last) left behind old new m o
  first_event w slice last left behind old new m o e a = advances_as w (λ _. 0) (switch w slice last) left behind old new m o (let by_last : Option Turn → ℕ → ℕ = λ l. switch w slice l in ap by_last e) a

-- ---- the first of some threads

pub first_found : (w : World) (n count t : ℕ) → n ≤ t → t < n + count → ((s : ℕ) → n ≤ s → s < t → can_go w s ≡ false) → can_go w t ≡ true → first_of w n count ≡ Some t
first_found w n zero t low high before can = let bad : ⊥ = omega (arith, low, high) in absurd bad
first_found w n (suc count) t low high before can =
    by (apart n t low) (λ more. first_found w (n + 1) count t (omega (arith, more)) (omega (arith, high)) (λ s low high. before s (omega (arith, low)) high) can)
  where
    apart : (n t : ℕ) → n ≤ t → (n ≡ t) ⊎ (n < t)
    apart n t h = grind (arith, h)

    opens : (b : Bool) → can_go w n ≡ b → first_of w n (suc count) ≡ elim b as (λ _. Option ℕ) [ true ↦ Some n | false ↦ first_of w (n + 1) count ]
    opens b e = ap (λ x. elim x as (λ _. Option ℕ) [ true ↦ Some n | false ↦ first_of w (n + 1) count ]) e

    by : (n ≡ t) ⊎ (n < t) → (n < t → first_of w (n + 1) count ≡ Some t) → first_of w n (suc count) ≡ Some t
    by (inl e) rest = opens true (ap (can_go w) e ∙ can) ∙ ap (λ (k : ℕ). Some k) e
    by (inr more) rest = opens false (before n (omega arith) more) ∙ rest more

pub first_nobody : (w : World) (n count : ℕ) → ((s : ℕ) → n ≤ s → s < n + count → can_go w s ≡ false) → first_of w n count ≡ None
first_nobody w n zero none = refl
first_nobody w n (suc count) none =
    ap (λ x. elim x as (λ _. Option ℕ) [ true ↦ Some n | false ↦ first_of w (n + 1) count ]) (none n (omega arith) (omega arith))
    ∙ first_nobody w (n + 1) count (λ s low high. none s (omega (arith, low)) (omega (arith, high)))

-- of those above a number, up to an index
abbrev pub NoneAbove : World → ℕ → ℕ → Type 0
NoneAbove w from index = (s : ℕ) → from < s → s ≤ index → can_go w s ≡ false

pub none_above : (w : World) (from index : ℕ) → index ≤ from → NoneAbove w from index
none_above w from index low s above upto = let bad : ⊥ = omega (arith, low, above, upto) in absurd bad

pub none_above_more : (w : World) (from i : ℕ) → NoneAbove w from i → can_go w (i + 1) ≡ false → NoneAbove w from (i + 1)
none_above_more w from i before here s above upto = elim (both_ways i s upto) [ inl less ↦ before s above less | inr e ↦ ap (can_go w) e ∙ here ]

pub found_at : (w : World) (from to i : ℕ) → from ≤ i → i < to → NoneAbove w from i → can_go w (i + 1) ≡ true → first_of w (from + 1) (to - from) ≡ Some (i + 1)
found_at w from to i low high before can =
    first_found w (from + 1) (to - from) (i + 1) (omega (arith, low)) (omega (arith, low, high)) (λ s above upto. before s (omega (arith, above)) (omega (arith, upto))) can

pub found_none : (w : World) (from to i : ℕ) → to ≤ i → NoneAbove w from i → first_of w (from + 1) (to - from) ≡ None
found_none w from to i past before = first_nobody w (from + 1) (to - from) (λ s above upto. before s (omega (arith, above)) (small from to s past above upto))
  where
    small : (from to s : ℕ) → to ≤ i → from + 1 ≤ s → s < from + 1 + (to - from) → s ≤ i
    small from to s past above upto = omega (arith, past, above, upto)

pub next_first : (w : World) (last t : ℕ) → first_of w (last + 1) (length w.threads - last) ≡ Some t → next_of w last ≡ Some t
next_first w last t e = ap (λ o. or_else o (first_of w 1 last)) e

pub next_second : (w : World) (last : ℕ) (o : Option ℕ) → first_of w (last + 1) (length w.threads - last) ≡ None → first_of w 1 last ≡ o → next_of w last ≡ o
next_second w last o e f = ap (λ x. or_else x (first_of w 1 last)) e ∙ f

pub nobody_next : (w : World) (last : ℕ) → next_of w last ≡ None → IsEnd w
nobody_next w last e t = by (can_go w t) refl
  where
    by : (b : Bool) → can_go w t ≡ b → can_go w t ≡ false
    by false h = h
    by true h = absurd (next_is_there w last t h e)

-- behind a slice: the threads above the last one, and then the others
module _ {H : Type 0} where
  pub goes_above : (w : World) (last to left behind t : ℕ) (old new : List Branch) (m : MachineView H) → to ≡ length w.threads → GoesAmong w last to left behind old new m (Some t)
      → Advances w (switch_behind (next_of w last)) left behind old new m (Some t)
  goes_above w last to left behind t old new m e is = goes_next w last left behind t old new m (next_first w last t (ap (λ n. first_of w (last + 1) (n - last)) (sym e) ∙ is.0)) is.1

  pub goes_below : (w : World) (last to left behind : ℕ) (old mid new : List Branch) (n m : MachineView H) (o : Option ℕ) → to ≡ length w.threads → GoesAmong w last to left behind old mid n None
      → GoesAmong w 0 last left behind mid new m o → Advances w (switch_behind (next_of w last)) left behind old new m o
  goes_below w last to left behind old mid new n m o e none is = subst (λ bs. Advances w (switch_behind (next_of w last)) left behind bs new m o) none.1 (by o is)
    where
      same : (k : ℕ) → k - 0 ≡ k
      same k = omega arith

      second : (x : Option ℕ) → first_of w (0 + 1) (last - 0) ≡ x → next_of w last ≡ x
      second x f = next_second w last x (ap (λ k. first_of w (last + 1) (k - last)) (sym e) ∙ none.0) (ap (first_of w 1) (sym (same last)) ∙ f)

      by : (x : Option ℕ) → GoesAmong w 0 last left behind mid new m x → Advances w (switch_behind (next_of w last)) left behind mid new m x
      by None is = (nobody_next w last (second None is.0), is.1, is.2)
      by (Some t) is = goes_next w last left behind t mid new m (second (Some t) is.0) is.1
