-- The steps of the search.
use Rattle.std.proofs.Common.{◌≡◌, ◌⊎◌, ℕ, suc, ◌+◌, ◌≤◌, ◌<◌, Bool, true, false, List, [], ◌∷◌, ◌++◌, Option, Some, None, length, take, drop, refl, sym, ap, subst, ◌∙◌, inl, inr, append_assoc, append-nil, length-append, take-append-drop, arith, option_to_list, true≢false, ◌≢◌, get_or}
use Rattle.std.proofs.Math.Seq.{take-append_seam}
use Rattle.std.proofs.lemmas.List.{length-take-le, take-append-le}
use Rattle.std.proofs.lemmas.List.Quantifiers.{all_pairs_push}
use Rattle.jm_program.specs.Lists.{Begins}
use Rattle.jm_world.specs.World.{World}
use Rattle.jm_world.specs.Run.{after}
use Rattle.jm_world.specs.declared.event.Event.TheVariants.{Step}
use Rattle.jm_explore.specs.Lists.{Each, HasOne}
use Rattle.jm_explore.specs.Branches.{Advances, Leaves}
use Rattle.jm_machine.specs.View.{MachineView, MatchesWorld}
use Rattle.jm_explore.specs.Outcomes.{AreOther, End, Found, HasFewest, IsTrueOf, outcome_of}
use Rattle.jm_explore.specs.Searches.{AllBefore, Has, IsBranch, IsComplete, IsTold, Known, Made, Making, Notes, Rising, Searching, Stands, Tried, events_to}
use Rattle.jm_explore.specs.Switches.{all_go, can_go, next_turn, switch, switches, turn_from, world_after, IsEnd, IsSchedule}
use Rattle.jm_explore.specs.declared.branch.Branch.{Branch}
use Rattle.jm_explore.specs.declared.turn.Turn.{Turn}
use Rattle.jm_explore.proofs.Lists.{each_append, each_as, each_pop, has_as, has_at, has_left, has_pop, has_right}
use Rattle.jm_explore.proofs.Paths.{few_next, go_more, go_next, go_start, switches_more, take_take, turn_append, world_more}
use Rattle.jm_values.proofs.Lists.{length_end as length_more}

-- ---- the events of a branch

longer : (path : List ℕ) (t : ℕ) (b : Branch) → b.behind ≤ length path → events_to (path ++ t ∷ []) b ≡ events_to path b
longer path t b here = ap (λ xs. xs ++ b.thread ∷ []) (take-append-le b.behind path (t ∷ []) here)

shorter : (path : List ℕ) (n : ℕ) (b : Branch) → b.behind ≤ n → events_to (take n path) b ≡ events_to path b
shorter path n b low = ap (λ xs. xs ++ b.thread ∷ []) (take_take b.behind n path low)

at_end : (path : List ℕ) (t : ℕ) (b : Branch) → b.behind ≡ length path → events_to (path ++ t ∷ []) b ≡ path ++ b.thread ∷ []
at_end path t b e = ap (λ n. take n (path ++ t ∷ []) ++ b.thread ∷ []) e ∙ ap (λ xs. xs ++ b.thread ∷ []) (take-append_seam path (t ∷ []))

module _ (w : World) (slice most steps : ℕ) where
  branch_longer : (path : List ℕ) (t : ℕ) (b : Branch) → IsBranch w slice most steps path b → IsBranch w slice most steps (path ++ t ∷ []) b
  branch_longer path t b is = record {
    here = let size = length_more path t in let low = is.here in omega (arith, size, low);
    within = is.within;
    left_is = subst (λ xs. b.left + switches w slice xs ≡ most) (sym (longer path t b is.here)) is.left_is;
  }

  branch_shorter : (path : List ℕ) (n : ℕ) (b : Branch) → n ≤ length path → b.behind ≤ n → IsBranch w slice most steps path b → IsBranch w slice most steps (take n path) b
  branch_shorter path n b low less is = record {
    here = let size = length-take-le n path low in omega (arith, size, less);
    within = is.within;
    left_is = subst (λ xs. b.left + switches w slice xs ≡ most) (sym (shorter path n b less)) is.left_is;
  }

-- ---- the order of branches

rising_append : (n : ℕ) (xs ys : List Branch) → Rising xs → Each (λ b. b.behind ≤ n) xs → Each (λ b. b.behind ≡ n) ys → Rising (xs ++ ys)
rising_append n [] [] r low same = tt
rising_append n [] (y ∷ ys) r low same = (each_as (λ b. b.behind ≡ n) (λ b. y.behind ≤ b.behind) (λ b e. (let first = same.0 in omega (arith, e, first))) ys same.1, rising_append n [] ys tt tt same.1)
rising_append n (x ∷ xs) ys r low same =
    (each_append (λ b. x.behind ≤ b.behind) xs ys r.0 (each_as (λ b. b.behind ≡ n) (λ b. x.behind ≤ b.behind) (λ b e. (let first = low.0 in omega (arith, e, first))) ys same), rising_append n xs ys r.1 low.1 same)

pub rising_pop : (xs : List Branch) (b : Branch) → Rising (xs ++ b ∷ []) → Rising xs × Each (λ c. c.behind ≤ b.behind) xs
rising_pop [] b r = (tt, tt)
rising_pop (x ∷ xs) b r =
    let rest = rising_pop xs b r.1 in
    let first = each_pop (λ c. x.behind ≤ c.behind) xs b r.0 in
    ((first.0, rest.0), (first.1, rest.1))

-- ---- one event more

module _ (w : World) (slice most steps : ℕ) (told : List Found) (path : List ℕ) (todo : List Branch) (left : ℕ) (is : Making w slice most steps told path todo left) where
  here : World
  here = world_after w path

  module _ (t : ℕ) (new : List Branch) (low : length path < steps) (can : can_go (world_after w path) t ≡ true) (free : switch (world_after w path) slice (turn_from slice None path) t ≡ 0)
      (l : Leaves (world_after w path) (switch (world_after w path) slice (turn_from slice None path)) left (length path) t todo new) where
    added_branch : (b : Branch) → (b.behind ≡ length path) × (b.left + switch (world_after w path) slice (turn_from slice None path) b.thread ≡ left) → IsBranch w slice most steps (path ++ t ∷ []) b
    added_branch b a = record {
      here = let size = length_more path t in let at = a.0 in omega (arith, size, at);
      within = let at = a.0 in omega (arith, at, low);
      left_is =
          let count = ap (switches w slice) (at_end path t b a.0) ∙ switches_more w slice path b.thread in
          let one = a.1 in let all = is.left_is in omega (arith, count, one, all);
    }

    covered_more : (ts : List ℕ) → IsSchedule w slice most steps ts → IsTold w steps told ts ⊎ HasOne (λ b. Begins (events_to path b) ts) todo ⊎ Begins path ts
        → IsTold w steps told ts ⊎ HasOne (λ b. Begins (events_to (path ++ t ∷ []) b) ts) new ⊎ Begins (path ++ t ∷ []) ts
    covered_more ts s (inl h) = inl h
    covered_more ts s (inr (inl h)) = inr (inl (subst (HasOne (λ b. Begins (events_to (path ++ t ∷ []) b) ts)) (sym l.new_is)
        (has_left (λ b. Begins (events_to (path ++ t ∷ []) b) ts) todo l.added
        (has_as (λ b. Begins (events_to path b) ts) (λ b. Begins (events_to (path ++ t ∷ []) b) ts) todo
        (each_as (IsBranch w slice most steps path) (λ b. Begins (events_to path b) ts → Begins (events_to (path ++ t ∷ []) b) ts)
        (λ b a begins. subst (λ xs. Begins xs ts) (sym (longer path t b a.here)) begins) todo is.stands.branches) h))))
    covered_more ts s (inr (inr (rest, e))) = by rest e
      where
        goes_further : (x : ℕ) (xs : List ℕ) → ts ≡ path ++ x ∷ xs → (x ≡ t) ⊎ HasOne (λ b. b.thread ≡ x) l.added
            → IsTold w steps told ts ⊎ HasOne (λ b. Begins (events_to (path ++ t ∷ []) b) ts) new ⊎ Begins (path ++ t ∷ []) ts
        goes_further x xs e (inl same) = inr (inr (xs, e ∙ ap (λ y. path ++ y ∷ xs) same ∙ sym (append_assoc path (t ∷ []) xs)))
        goes_further x xs e (inr h) = inr (inl (subst (HasOne (λ b. Begins (events_to (path ++ t ∷ []) b) ts)) (sym l.new_is)
            (has_right (λ b. Begins (events_to (path ++ t ∷ []) b) ts) todo l.added
            (has_as (λ b. b.thread ≡ x) (λ b. Begins (events_to (path ++ t ∷ []) b) ts) l.added
            (each_as (λ b. (b.behind ≡ length path) × (b.left + switch (world_after w path) slice (turn_from slice None path) b.thread ≡ left)) (λ b. b.thread ≡ x → Begins (events_to (path ++ t ∷ []) b) ts)
            (λ b a same. (xs, e ∙ ap (λ y. path ++ y ∷ xs) (sym same) ∙ sym (append_assoc path (b.thread ∷ []) xs) ∙ ap (λ ys. ys ++ xs) (sym (at_end path t b a.0)))) l.added l.alike) h))))

        by : (rest : List ℕ) → ts ≡ path ++ rest → IsTold w steps told ts ⊎ HasOne (λ b. Begins (events_to (path ++ t ∷ []) b) ts) new ⊎ Begins (path ++ t ∷ []) ts
        by [] e =
            let all = e ∙ append-nil path in
            elim s.whole [
              | inl size ↦ (let same = ap (λ (xs : List ℕ). length xs) all in let bad : ⊥ = omega (arith, size, same, low) in absurd bad)
              | inr end ↦ absurd (true≢false (sym can ∙ ap (λ xs. can_go (world_after w xs) t) (sym all) ∙ end t))
            ]
        by (x ∷ xs) e =
            let go = go_next w path x xs (sym (ap (all_go w) e) ∙ s.go) in
            let few = few_next w slice path x xs in
            let count = ap (switches w slice) e in
            let most_is = is.left_is in
            let bound = s.few in
            let enough : switch (world_after w path) slice (turn_from slice None path) x ≤ left = omega (arith, few, count, most_is, bound) in
            goes_further x xs e (l.has x go enough)

    pub making_more : Making w slice most steps told (path ++ t ∷ []) new left
    making_more = record {
      stands = record {
        go = go_more w path t is.stands.go can;
        within = let size = length_more path t in omega (arith, size, low);
        branches = subst (Each (IsBranch w slice most steps (path ++ t ∷ []))) (sym l.new_is) (each_append (IsBranch w slice most steps (path ++ t ∷ [])) todo l.added
            (each_as (IsBranch w slice most steps path) (IsBranch w slice most steps (path ++ t ∷ [])) (branch_longer w slice most steps path t) todo is.stands.branches)
            (each_as (λ b. (b.behind ≡ length path) × (b.left + switch (world_after w path) slice (turn_from slice None path) b.thread ≡ left)) (IsBranch w slice most steps (path ++ t ∷ [])) added_branch l.added l.alike));
        rising = subst Rising (sym l.new_is) (rising_append (length path) todo l.added is.stands.rising (each_as (IsBranch w slice most steps path) (λ b. b.behind ≤ length path) (λ b a. a.here) todo is.stands.branches)
            (each_as (λ b. (b.behind ≡ length path) × (b.left + switch (world_after w path) slice (turn_from slice None path) b.thread ≡ left)) (λ b. b.behind ≡ length path) (λ b a. a.0) l.added l.alike));
      };
      left_is = let count = switches_more w slice path t in let all = is.left_is in omega (arith, count, free, all);
      covered = λ ts s. covered_more ts s (is.covered ts s);
    }

  -- the schedule is whole
  made_so : (length path ≡ steps) ⊎ IsEnd (world_after w path) → ((x : ℕ) (xs ts : List ℕ) → IsSchedule w slice most steps ts → ts ≡ path ++ x ∷ xs → ⊥) → Made w slice most steps told path todo
  made_so whole none = record {
    stands = is.stands;
    schedule = record { go = is.stands.go; few = (let all = is.left_is in omega (arith, all)); within = is.stands.within; whole = whole };
    covered = λ ts s. by ts s (is.covered ts s);
  }
    where
      rest_of : (ts : List ℕ) → IsSchedule w slice most steps ts → (rest : List ℕ) → ts ≡ path ++ rest → ts ≡ path
      rest_of ts s [] e = e ∙ append-nil path
      rest_of ts s (x ∷ xs) e = absurd (none x xs ts s e)

      by : (ts : List ℕ) → IsSchedule w slice most steps ts → IsTold w steps told ts ⊎ HasOne (λ b. Begins (events_to path b) ts) todo ⊎ Begins path ts
          → IsTold w steps told ts ⊎ HasOne (λ b. Begins (events_to path b) ts) todo ⊎ (ts ≡ path)
      by ts s (inl h) = inl h
      by ts s (inr (inl h)) = inr (inl h)
      by ts s (inr (inr (rest, e))) = inr (inr (rest_of ts s rest e))

  pub made_at_end : IsEnd (world_after w path) → Made w slice most steps told path todo
  made_at_end end = made_so (inr end) (λ x xs ts s e. true≢false (sym (go_next w path x xs (sym (ap (all_go w) e) ∙ s.go)) ∙ end x))

  pub made_at_limit : steps ≤ length path → Made w slice most steps told path todo
  made_at_limit past =
      let low = is.stands.within in
      made_so (inl (omega (arith, past, low))) (λ x xs ts s e.
      let size = ap (λ (ys : List ℕ). length ys) e ∙ length-append path (x ∷ xs) in let bound = s.within in
      let more : length (x ∷ xs) ≡ suc (length xs) = refl in
      omega (arith, size, bound, more, past))

-- ---- the loop of one schedule

pub making_next : {H : Type 0} (w : World) (slice most steps left : ℕ) (told : List Found) (path newer : List ℕ) (todo new : List Branch) (last : Option Turn) (m : MachineView H) (t : ℕ) → length path < steps
    → Making w slice most steps told path todo left × (last ≡ turn_from slice None path) → Advances (world_after w path) (switch (world_after w path) slice last) left (length path) todo new m (Some t) → newer ≡ path ++ t ∷ []
    → Making w slice most steps told newer new left × (Some (next_turn slice last t) ≡ turn_from slice None newer) × MatchesWorld m (world_after w newer)
making_next w slice most steps left told path newer todo new last m t low is a e =
    let b = subst (λ l. Advances (world_after w path) (switch (world_after w path) slice l) left (length path) todo new m (Some t)) is.1 a in (
      subst (λ xs. Making w slice most steps told xs new left) (sym e) (making_more w slice most steps told path todo left is.0 t new low b.0 b.1 b.2),
      ap (λ l. Some (next_turn slice l t)) is.1 ∙ sym (ap (turn_from slice None) e ∙ turn_append slice None path (t ∷ [])),
      subst (MatchesWorld m) (sym (world_more w path t) ∙ ap (world_after w) (sym e)) b.3,
    )

-- ---- between schedules

module _ (w : World) (slice most steps : ℕ) (told : List Found) (path : List ℕ) (todo rest : List Branch) (b : Branch) (s : Searching w slice most steps told path todo) (popped : todo ≡ rest ++ b ∷ []) where
  parted : Each (IsBranch w slice most steps path) rest × IsBranch w slice most steps path b
  parted = each_pop (IsBranch w slice most steps path) rest b (subst (Each (IsBranch w slice most steps path)) popped s.stands.branches)

  order : Rising rest × Each (λ c. c.behind ≤ b.behind) rest
  order = rising_pop rest b (subst Rising popped s.stands.rising)

  shorter_begins : (ts : List ℕ) → HasOne (λ c. Begins (events_to path c) ts) rest → HasOne (λ c. Begins (events_to (take b.behind path) c) ts) rest
  shorter_begins ts h = has_as (λ c. Begins (events_to path c) ts) (λ c. Begins (events_to (take b.behind path) c) ts) rest
      (each_as (λ c. c.behind ≤ b.behind) (λ c. Begins (events_to path c) ts → Begins (events_to (take b.behind path) c) ts) (λ c low begins. subst (λ xs. Begins xs ts) (sym (shorter path b.behind c low)) begins) rest order.1) h

  size : length (take b.behind path) ≡ b.behind
  size = length-take-le b.behind path parted.1.here

  pub popped_stands : Stands w slice most steps (take b.behind path) rest
  popped_stands = record {
    go = go_start w (take b.behind path) (drop b.behind path) (ap (all_go w) (take-append-drop b.behind path) ∙ s.stands.go);
    within = let count = size in let low = parted.1.within in omega (arith, count, low);
    branches = each_both rest parted.0 order.1;
    rising = order.0;
  }
    where
      each_both : (cs : List Branch) → Each (IsBranch w slice most steps path) cs → Each (λ c. c.behind ≤ b.behind) cs → Each (IsBranch w slice most steps (take b.behind path)) cs
      each_both [] is low = tt
      each_both (c ∷ cs) is low = (branch_shorter w slice most steps path b.behind c parted.1.here low.0 is.0, each_both cs is.1 low.1)

  cases : (ts : List ℕ) → IsTold w steps told ts ⊎ HasOne (λ c. Begins (events_to path c) ts) todo → IsTold w steps told ts ⊎ HasOne (λ c. Begins (events_to path c) ts) rest ⊎ Begins (events_to path b) ts
  cases ts (inl h) = inl h
  cases ts (inr h) = elim (has_pop (λ c. Begins (events_to path c) ts) rest b (subst (HasOne (λ c. Begins (events_to path c) ts)) popped h)) [ inl a ↦ inr (inl a) | inr e ↦ inr (inr e) ]

  -- its thread cannot go
  pub searching_without : can_go (world_after w (take b.behind path)) b.thread ≡ false → Searching w slice most steps told (take b.behind path) rest
  searching_without no_go = record { stands = popped_stands; covered = λ ts is. by ts is (cases ts (s.covered ts is)) }
    where
      by : (ts : List ℕ) → IsSchedule w slice most steps ts → IsTold w steps told ts ⊎ HasOne (λ c. Begins (events_to path c) ts) rest ⊎ Begins (events_to path b) ts
          → IsTold w steps told ts ⊎ HasOne (λ c. Begins (events_to (take b.behind path) c) ts) rest
      by ts is (inl h) = inl h
      by ts is (inr (inl h)) = inr (shorter_begins ts h)
      by ts is (inr (inr (xs, e))) =
          let e2 = e ∙ append_assoc (take b.behind path) (b.thread ∷ []) xs in
          absurd (true≢false (sym (go_next w (take b.behind path) b.thread xs (sym (ap (all_go w) e2) ∙ is.go)) ∙ no_go))

  -- it went
  pub making_branch : (newer : List ℕ) → can_go (world_after w (take b.behind path)) b.thread ≡ true → newer ≡ take b.behind path ++ b.thread ∷ [] → Making w slice most steps told newer rest b.left
  making_branch newer can e = subst (λ xs. Making w slice most steps told xs rest b.left) (sym e) (record {
    stands = record {
      go = go_more w (take b.behind path) b.thread popped_stands.go can;
      within = let more = length_more (take b.behind path) b.thread in let count = size in let low = parted.1.within in omega (arith, more, count, low);
      branches = each_as (IsBranch w slice most steps (take b.behind path)) (IsBranch w slice most steps (take b.behind path ++ b.thread ∷ [])) (branch_longer w slice most steps (take b.behind path) b.thread) rest popped_stands.branches;
      rising = order.0;
    };
    left_is = parted.1.left_is;
    covered = λ ts is. by ts (cases ts (s.covered ts is));
  })
    where
      onward : (ts : List ℕ) → HasOne (λ c. Begins (events_to (take b.behind path) c) ts) rest → HasOne (λ c. Begins (events_to (take b.behind path ++ b.thread ∷ []) c) ts) rest
      onward ts h = has_as (λ c. Begins (events_to (take b.behind path) c) ts) (λ c. Begins (events_to (take b.behind path ++ b.thread ∷ []) c) ts) rest
          (each_as (IsBranch w slice most steps (take b.behind path)) (λ c. Begins (events_to (take b.behind path) c) ts → Begins (events_to (take b.behind path ++ b.thread ∷ []) c) ts)
          (λ c a begins. subst (λ xs. Begins xs ts) (sym (longer (take b.behind path) b.thread c a.here)) begins) rest popped_stands.branches) h

      by : (ts : List ℕ) → IsTold w steps told ts ⊎ HasOne (λ c. Begins (events_to path c) ts) rest ⊎ Begins (events_to path b) ts
          → IsTold w steps told ts ⊎ HasOne (λ c. Begins (events_to (take b.behind path ++ b.thread ∷ []) c) ts) rest ⊎ Begins (take b.behind path ++ b.thread ∷ []) ts
      by ts (inl h) = inl h
      by ts (inr (inl h)) = inr (inl (onward ts (shorter_begins ts h)))
      by ts (inr (inr h)) = inr (inr h)

pub making_first : (w : World) (slice most steps : ℕ) (told : List Found) → Making w slice most steps told [] [] most
making_first w slice most steps told = record {
  stands = record { go = refl; within = omega arith; branches = tt; rising = tt };
  left_is = omega arith;
  covered = λ ts is. inr (inr (ts, refl));
}

-- ---- what the schedule came to is told

told_as : (w : World) (steps : ℕ) (e : End) (path : List ℕ) (switches : ℕ) (told newer : List Found) → Notes e path switches told newer → (ts : List ℕ) → IsTold w steps told ts → IsTold w steps newer ts
told_as w steps e path switches told newer (inl same) ts h = subst (λ l. IsTold w steps l ts) (sym same.1) h
told_as w steps e path switches told newer (inr more) ts h = subst (λ l. IsTold w steps l ts) (sym more.1) (has_left (λ f. f.outcome ≡ outcome_of w steps ts) told _ h)

noted : (e : End) (path : List ℕ) (switches : ℕ) (told newer : List Found) → Notes e path switches told newer → Has e newer
noted e path switches told newer (inl same) = subst (Has e) (sym same.1) same.0
noted e path switches told newer (inr more) = subst (Has e) (sym more.1) (has_right (λ f. f.outcome ≡ e) told _ (inl refl))

pub searching_noted : (w : World) (slice most steps : ℕ) (told newer : List Found) (path : List ℕ) (todo : List Branch) (switches : ℕ) → Made w slice most steps told path todo
    → Notes (outcome_of w steps path) path switches told newer → Searching w slice most steps newer path todo
searching_noted w slice most steps told newer path todo switches made notes = record { stands = made.stands; covered = λ ts is. by ts (made.covered ts is) }
  where
    by : (ts : List ℕ) → IsTold w steps told ts ⊎ HasOne (λ b. Begins (events_to path b) ts) todo ⊎ (ts ≡ path) → IsTold w steps newer ts ⊎ HasOne (λ b. Begins (events_to path b) ts) todo
    by ts (inl h) = inl (told_as w steps (outcome_of w steps path) path switches told newer notes ts h)
    by ts (inr (inl h)) = inr h
    by ts (inr (inr e)) = inl (subst (λ xs. IsTold w steps newer xs) (sym e) (noted (outcome_of w steps path) path switches told newer notes))

-- all is told that fewer lead to, still
pub before_noted : (w : World) (slice most steps : ℕ) (told newer : List Found) (e : End) (path : List ℕ) (switches : ℕ) → Notes e path switches told newer → AllBefore w slice most steps told → AllBefore w slice most steps newer
before_noted w slice most steps told newer e path switches notes before fewer less ts s = told_as w steps e path switches told newer notes ts (before fewer less ts s)

not_here : (e d : End) → (found : List Found) → (Has e found → ⊥) → d ≡ e → Has d found → ⊥
not_here e d found none same h = none (subst (λ x. Has x found) same h)

other_at : (e : End) (found : List Found) → (Has e found → ⊥) → (k : ℕ) (d : Found) → k < length found → (get_or found k d).outcome ≢ e
other_at e found none k d low same = none (has_at (λ f. f.outcome ≡ e) found k d low same)

-- what is new is true, and no schedule of fewer switches comes to it, since all these were told
pub known_noted : (w : World) (slice most steps : ℕ) (told newer : List Found) (path : List ℕ) → Known w slice most steps told → AllBefore w slice most steps told → IsSchedule w slice most steps path
    → Notes (outcome_of w steps path) path most told newer → Known w slice most steps newer
known_noted w slice most steps told newer path known before s (inl same) = subst (Known w slice most steps) (sym same.1) known
known_noted w slice most steps told newer path known before s (inr more) =
    let one : Found = record { outcome = outcome_of w steps path; schedule = path; switches = most } in
    subst (Known w slice most steps) (sym more.1) (record {
      sound = each_append (IsTrueOf w slice steps) told (one ∷ []) known.sound (record { schedule = s; outcome = refl }, tt);
      low = each_append (λ f. f.switches ≤ most) told (one ∷ []) known.low (omega arith, tt);
      fewest = each_append (HasFewest w slice steps) told (one ∷ []) known.fewest
          ((λ fewer ts less is same. not_here (outcome_of w steps path) (outcome_of w steps ts) told more.0 (sym same) (before fewer less ts is)), tt);
      other = all_pairs_push AreOther told one known.other (λ k d low. other_at (outcome_of w steps path) told more.0 k d low);
    })

-- ---- from one number of switches to the next

pub known_nothing : (w : World) (slice steps : ℕ) (told : List Found) → told ≡ [] → Known w slice 0 steps told
known_nothing w slice steps told e = subst (Known w slice 0 steps) (sym e) (record {
  sound = tt;
  low = tt;
  fewest = tt;
  other = λ i j d low high. let bad : ⊥ = omega (arith, high) in absurd bad;
})

pub known_more : (w : World) (slice most steps : ℕ) (told : List Found) → Known w slice most steps told → Known w slice (most + 1) steps told
known_more w slice most steps told known = record {
  sound = known.sound;
  low = each_as (λ f. f.switches ≤ most) (λ f. f.switches ≤ most + 1) (λ f low. omega (arith, low)) told known.low;
  fewest = known.fewest;
  other = known.other;
}

pub known_up_to : (w : World) (slice most more steps : ℕ) (told : List Found) → most ≤ more → Known w slice most steps told → Known w slice more steps told
known_up_to w slice most more steps told less known = record {
  sound = known.sound;
  low = each_as (λ f. f.switches ≤ most) (λ f. f.switches ≤ more) (λ f low. omega (arith, low, less)) told known.low;
  fewest = known.fewest;
  other = known.other;
}

pub none_before : (w : World) (slice steps : ℕ) (told : List Found) → AllBefore w slice 0 steps told
none_before w slice steps told fewer less = let bad : ⊥ = omega (arith, less) in absurd bad

pub all_before : (w : World) (slice most steps : ℕ) (told : List Found) → IsComplete w slice most steps told → AllBefore w slice (most + 1) steps told
all_before w slice most steps told whole fewer less ts s = whole ts (record { go = s.go; few = (let low = s.few in omega (arith, low, less)); within = s.within; whole = s.whole })

pub all_told : (w : World) (slice most steps : ℕ) (told : List Found) (path : List ℕ) (todo : List Branch) → todo ≡ [] → Searching w slice most steps told path todo → IsComplete w slice most steps told
all_told w slice most steps told path todo e s ts is = elim (s.covered ts is) [ inl h ↦ h | inr h ↦ absurd (subst (HasOne (λ b. Begins (events_to path b) ts)) e h) ]

-- ---- as the calls tell it

pub made_before : (w : World) (slice most steps : ℕ) (told : List Found) (path : List ℕ) (todo new : List Branch) → new ≡ todo → Made w slice most steps told path todo → Made w slice most steps told path new
made_before w slice most steps told path todo new e made = subst (Made w slice most steps told path) (sym e) made

pub first_making : (w : World) (slice most steps : ℕ) (told : List Found) (path : List ℕ) (todo : List Branch) → path ≡ [] → todo ≡ [] → Making w slice most steps told path todo most
first_making w slice most steps told path todo f h =
    subst (λ b. Making w slice most steps told b todo most) (sym f) (subst (λ d. Making w slice most steps told [] d most) (sym h) (making_first w slice most steps told))

pub first_matches : {H : Type 0} (w : World) (path : List ℕ) (m : MachineView H) → path ≡ [] → MatchesWorld m w → MatchesWorld m (world_after w path)
first_matches w path m e is = subst (λ p. MatchesWorld m (world_after w p)) (sym e) is

pub first_turn : (slice : ℕ) (path : List ℕ) → path ≡ [] → None ≡ turn_from slice None path
first_turn slice path e = sym (ap (turn_from slice None) e)

pub popped_one : (todo rest : List Branch) (o : Option Branch) (b : Branch) → todo ≡ rest ++ option_to_list o → o ≡ Some b → todo ≡ rest ++ b ∷ []
popped_one todo rest o b e is = subst (λ x. todo ≡ rest ++ option_to_list x) is e

pub popped_none : (todo : List Branch) (n : ℕ) → n ≡ length todo → n ≡ 0 → todo ≡ []
popped_none [] n e z = refl
popped_none (b ∷ bs) n e z = let bad : ⊥ = omega (arith, e, z) in absurd bad

pub without_as : (w : World) (slice most steps : ℕ) (told : List Found) (path cut : List ℕ) (todo rest : List Branch) (b : Branch) → Searching w slice most steps told path todo → todo ≡ rest ++ b ∷ [] → cut ≡ take b.behind path
    → can_go (world_after w cut) b.thread ≡ false → Searching w slice most steps told cut rest
without_as w slice most steps told path cut todo rest b s popped e no_go =
    subst (λ p. Searching w slice most steps told p rest) (sym e) (searching_without w slice most steps told path todo rest b s popped (ap (λ p. can_go (world_after w p) b.thread) (sym e) ∙ no_go))

pub making_as : (w : World) (slice most steps : ℕ) (told : List Found) (path cut newer : List ℕ) (todo rest : List Branch) (b : Branch) → Searching w slice most steps told path todo → todo ≡ rest ++ b ∷ [] → cut ≡ take b.behind path
    → newer ≡ cut ++ b.thread ∷ [] → can_go (world_after w cut) b.thread ≡ true → Making w slice most steps told newer rest b.left
making_as w slice most steps told path cut newer todo rest b s popped e more can =
    making_branch w slice most steps told path todo rest b s popped newer (ap (λ p. can_go (world_after w p) b.thread) (sym e) ∙ can) (more ∙ ap (λ p. p ++ b.thread ∷ []) e)

pub turn_more : (slice : ℕ) (cut newer : List ℕ) (t : ℕ) (l : Option Turn) (n : Turn) → newer ≡ cut ++ t ∷ [] → l ≡ turn_from slice None cut → n ≡ next_turn slice l t → Some n ≡ turn_from slice None newer
turn_more slice cut newer t l n e is next = ap (λ x. Some x) (next ∙ ap (λ x. next_turn slice x t) is) ∙ sym (ap (turn_from slice None) e ∙ turn_append slice None cut (t ∷ []))

pub world_is : {H : Type 0} (w : World) (cut newer : List ℕ) (t : ℕ) (m : MachineView H) → newer ≡ cut ++ t ∷ [] → MatchesWorld m (after (world_after w cut) (Step t)).world → MatchesWorld m (world_after w newer)
world_is w cut newer t m more is = subst (MatchesWorld m) (sym (world_more w cut t) ∙ ap (world_after w) (sym more)) is

pub notes_as : {H : Type 0} (w : World) (steps most : ℕ) (old newer : List Found) (path now : List ℕ) (m : MachineView H) → now ≡ path
    → (MatchesWorld m (world_after w now) → Notes (outcome_of w steps now) now most old newer) → MatchesWorld m (world_after w path) → Notes (outcome_of w steps path) path most old newer
notes_as w steps most old newer path now m e notes is = subst (λ p. Notes (outcome_of w steps p) p most old newer) e (notes (subst (λ p. MatchesWorld m (world_after w p)) (sym e) is))

module _ {H : Type 0} where
  pub tried_made : (b : Bool) (w : World) (slice most steps : ℕ) (told : List Found) (path : List ℕ) (todo : List Branch) (m : MachineView H) → b ≡ true → Tried b w slice most steps told path todo m
      → Made w slice most steps told path todo × MatchesWorld m (world_after w path)
  tried_made b w slice most steps told path todo m e t = subst (λ x. Tried x w slice most steps told path todo m) e t

  pub tried_not : (b : Bool) (w : World) (slice most steps : ℕ) (told : List Found) (path : List ℕ) (todo : List Branch) (m : MachineView H) → b ≡ false → Tried b w slice most steps told path todo m
      → Searching w slice most steps told path todo
  tried_not b w slice most steps told path todo m e t = subst (λ x. Tried x w slice most steps told path todo m) e t

-- what is known after a schedule was noted
pub known_then : (w : World) (slice most steps : ℕ) (told newer : List Found) (path : List ℕ) (todo : List Branch) → Known w slice most steps told × AllBefore w slice most steps told → Made w slice most steps told path todo
    → Notes (outcome_of w steps path) path most told newer → Known w slice most steps newer × AllBefore w slice most steps newer
known_then w slice most steps told newer path todo k made notes =
    (known_noted w slice most steps told newer path k.0 k.1 made.schedule notes, before_noted w slice most steps told newer (outcome_of w steps path) path most notes k.1)
