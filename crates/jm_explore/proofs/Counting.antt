-- What a search counts.
use Rattle.std.proofs.Common.{rules, ◌≡◌, ◌⊎◌, ℕ, zero, suc, ◌+◌, ◌-◌, ◌*◌, ◌≤◌, ◌<◌, ◌^◌, Bool, true, false, List, [], ◌∷◌, ◌++◌, Option, None, Some, length, min, take, set, get_or, nat_eq, refl, sym, ap, subst, ◌∙◌, inl, inr, arith, true≢false, add-one}
use Rattle.std.specs.List.{All, AllPairs}
use Rattle.std.proofs.lemmas.List.{length-take-le}
use Rattle.jm_world.specs.World.{World}
use Rattle.jm_machine.specs.View.{MachineView, MatchesWorld}
use Rattle.jm_explore.specs.Branches.{Advances}
use Rattle.jm_explore.specs.Counts.{below, below_all, below_next, exactly, weight_if, Weighs, WeighsIf, weighed, all_counted, weight_of, Tallied, CountsMore, CountsAll}
use Rattle.jm_explore.specs.Lists.{Each, HowMany, total}
use Rattle.jm_explore.specs.Outcomes.{AreOther, End, Found, Thrown, found_of, outcome_of, told_end}
use Rattle.jm_explore.specs.Schedulings.{schedules, schedules_from}
use Rattle.jm_explore.specs.Searches.{IsBranch, Making, Rising, Searching, founds}
use Rattle.jm_explore.specs.Switches.{can_go, switch, switches, turn_from, world_after, IsEnd}
use Rattle.jm_explore.specs.contracts.outcome.HowEndedPartialEq.TheImpl as how_equal
use Rattle.jm_explore.specs.contracts.outcome.HowEndedEq.TheImpl.Laws.{laws-law}
use Rattle.jm_explore.specs.declared.branch.Branch.{Branch}
use Rattle.jm_explore.specs.declared.outcome.HowEnded.{HowEnded}
use Rattle.jm_explore.specs.declared.search.Progress.{Progress}
use Rattle.jm_explore.specs.declared.told.Told.{Told}
use Rattle.jm_explore.specs.declared.turn.Turn.{Turn}
use Rattle.jm_explore.proofs.Lists.{each_as, each_pop}
use Rattle.jm_explore.proofs.Steps.{rising_pop}
use Rattle.jm_explore.proofs.Totals.{how_many, one_if, total_append, total_one}
use Rattle.jm_explore.proofs.Trees.{all_append, all_longer, all_popped, below_end, below_limit, below_more, no_switch, one_more, weighs, weighs_not}

-- ---- while a schedule is made

module _ (w : World) (slice most steps : ℕ) (told : List Found) (path : List ℕ) (todo : List Branch) (left : ℕ) (is : Making w slice most steps told path todo left) where
  branches_here : Each (λ b. b.behind ≤ length path) todo
  branches_here = each_as (IsBranch w slice most steps path) (λ b. b.behind ≤ length path) (λ b a. a.here) todo is.stands.branches

  -- one event more
  pub weighs_more : {H : Type 0} (newer : List ℕ) (new : List Branch) (last : Option Turn) (m : MachineView H) (t : ℕ) → length path < steps → last ≡ turn_from slice None path
      → Advances (world_after w path) (switch (world_after w path) slice last) left (length path) todo new m (Some t) → newer ≡ path ++ t ∷ []
      → (f : List ℕ → ℕ) → below w slice steps f path left + below_all w slice steps f path todo ≡ below w slice steps f newer left + below_all w slice steps f newer new
  weighs_more newer new last m t low at a e f =
      let b = subst (λ l. Advances (world_after w path) (switch (world_after w path) slice l) left (length path) todo new m (Some t)) at a in
      let more = below_more w slice steps f path left t b.2.added low b.0 b.1 b.2.alike b.2.has b.2.once in
      let longer = all_longer w slice steps f path t todo branches_here in
      let parts = ap (below_all w slice steps f (path ++ t ∷ [])) b.2.new_is ∙ all_append w slice steps f (path ++ t ∷ []) todo b.2.added in
      let all : below w slice steps f path left + below_all w slice steps f path todo ≡ below w slice steps f (path ++ t ∷ []) left + below_all w slice steps f (path ++ t ∷ []) new = omega (arith, more, longer, parts) in
      subst (λ p. below w slice steps f path left + below_all w slice steps f path todo ≡ below w slice steps f p left + below_all w slice steps f p new) (sym e) all

  -- no event more
  pub weighs_at_end : (whole : (List ℕ → ℕ) → ℕ) (new : List Branch) → IsEnd (world_after w path) → new ≡ todo
      → ((f : List ℕ → ℕ) → whole f ≡ below w slice steps f path left + below_all w slice steps f path todo) → Weighs w slice most steps path new left whole
  weighs_at_end whole new end e sum = (is.left_is, λ f. sum f ∙ ap (λ n. n + below_all w slice steps f path todo) (below_end w slice steps f path left end) ∙ ap (λ bs. f path + below_all w slice steps f path bs) (sym e))

  pub weighs_at_limit : (whole : (List ℕ → ℕ) → ℕ) → steps ≤ length path → ((f : List ℕ → ℕ) → whole f ≡ below w slice steps f path left + below_all w slice steps f path todo) → Weighs w slice most steps path todo left whole
  weighs_at_limit whole past sum = (is.left_is, λ f. sum f ∙ ap (λ n. n + below_all w slice steps f path todo) (below_limit w slice steps f path left past))

-- another way to say how much the whole is
pub weighs_as : (w : World) (slice most steps : ℕ) (path : List ℕ) (todo : List Branch) (left : ℕ) (whole other : (List ℕ → ℕ) → ℕ) → ((f : List ℕ → ℕ) → other f ≡ whole f) → Weighs w slice most steps path todo left whole → Weighs w slice most steps path todo left other
weighs_as w slice most steps path todo left whole other same h = (h.0, λ f. same f ∙ h.1 f)

-- the first schedule begins with nothing
pub first_whole : (w : World) (slice steps : ℕ) (path : List ℕ) (todo : List Branch) (left : ℕ) → path ≡ [] → todo ≡ [] → (f : List ℕ → ℕ) → below w slice steps f [] left ≡ below w slice steps f path left + below_all w slice steps f path todo
first_whole w slice steps path todo left e h f =
    let at = ap (λ p. below w slice steps f p left) e in
    let none : below_all w slice steps f path todo ≡ 0 = ap (below_all w slice steps f path) h in
    omega (arith, at, none)

-- ---- between schedules

module _ (w : World) (slice most steps : ℕ) (told : List Found) (path cut : List ℕ) (todo rest : List Branch) (b : Branch) (s : Searching w slice most steps told path todo) (popped : todo ≡ rest ++ b ∷ []) (e : cut ≡ take b.behind path) (f : List ℕ → ℕ) where
  low_branches : Each (λ c. c.behind ≤ b.behind) rest
  low_branches = (rising_pop rest b (subst (λ bs. Rising bs) popped s.stands.rising)).1

  here : b.behind ≤ length path
  here = (each_pop (IsBranch w slice most steps path) rest b (subst (Each (IsBranch w slice most steps path)) popped s.stands.branches)).1.here

  taken_apart : below_all w slice steps f path todo ≡ below_next w slice steps f cut b.thread b.left + below_all w slice steps f cut rest
  taken_apart =
      ap (below_all w slice steps f path) popped ∙ all_popped w slice steps f path rest b low_branches
      ∙ ap (λ p. below_next w slice steps f p b.thread b.left + below_all w slice steps f p rest) (sym e)

  -- its thread cannot go
  pub branch_stuck : can_go (world_after w cut) b.thread ≡ false → below_all w slice steps f path todo ≡ below_all w slice steps f cut rest
  branch_stuck stuck =
      let none = weighs_not (can_go (world_after w cut) b.thread) (below w slice steps f (cut ++ b.thread ∷ []) b.left) stuck in
      let whole = taken_apart in
      omega (arith, none, whole)

  -- it goes
  pub branch_goes : (start : List ℕ) → can_go (world_after w cut) b.thread ≡ true → start ≡ cut ++ b.thread ∷ [] → below_all w slice steps f path todo ≡ below w slice steps f start b.left + below_all w slice steps f start rest
  branch_goes start can is =
      let goes = weighs (can_go (world_after w cut) b.thread) (below w slice steps f (cut ++ b.thread ∷ []) b.left) can in
      let whole = taken_apart in
      let size : length cut ≡ b.behind = ap (λ (p : List ℕ). length p) e ∙ length-take-le b.behind path here in
      let longer = all_longer w slice steps f cut b.thread rest (each_as (λ c. c.behind ≤ b.behind) (λ c. c.behind ≤ length cut) (λ c low. omega (arith, low, size)) rest low_branches) in
      let all : below_all w slice steps f path todo ≡ below w slice steps f (cut ++ b.thread ∷ []) b.left + below_all w slice steps f (cut ++ b.thread ∷ []) rest = omega (arith, goes, whole, longer) in
      all ∙ ap (λ p. below w slice steps f p b.left + below_all w slice steps f p rest) (sym is)

-- ---- what is counted

-- each count is at most all of them
pub one_of_all : (told : List Told) (k : ℕ) (d : Told) → k < length told → (get_or told k d).schedules ≤ all_counted told
one_of_all [] k d low = let bad : ⊥ = omega (arith, low) in absurd bad
one_of_all (x ∷ told) zero d low = omega arith
one_of_all (x ∷ told) (suc k) d low = let rest = one_of_all told k d (omega (arith, low)) in omega (arith, rest)

pub counted_set : (weight : End → ℕ) (e : End) (told : List Told) (k : ℕ) (r t : Told) (more : ℕ) → k < length told → told_end (get_or told k r).outcome ≡ e → told_end t.outcome ≡ e → t.schedules ≡ (get_or told k r).schedules + more
    → weighed weight (set told k t) ≡ weighed weight told + weight e * more
counted_set weight e [] k r t more low at same sum = let bad : ⊥ = omega (arith, low) in absurd bad
counted_set weight e (x ∷ told) zero r t more low at same sum =
    let there = ap weight at in
    let here = ap weight same in
    let product : weight (told_end t.outcome) * t.schedules ≡ weight e * (x.schedules + more) = ap (λ n. n * t.schedules) here ∙ ap (λ n. weight e * n) sum in
    let before : weight (told_end x.outcome) * x.schedules ≡ weight e * x.schedules = ap (λ n. n * x.schedules) there in
    omega (arith, product, before)
counted_set weight e (x ∷ told) (suc k) r t more low at same sum = let rest = counted_set weight e told k r t more (omega (arith, low)) at same sum in omega (arith, rest)

pub counted_push : (weight : End → ℕ) (told : List Told) (t : Told) → weighed weight (told ++ t ∷ []) ≡ weighed weight told + weight (told_end t.outcome) * t.schedules
counted_push weight told t =
    let parts = total_append (λ (x : Told). weight (told_end x.outcome) * x.schedules) told (t ∷ []) in
    omega (arith, parts)

if_at_most : (b : Bool) → weight_if b 1 ≤ 1
if_at_most true = omega arith
if_at_most false = omega arith

none_left : (left n most : ℕ) → left + n ≡ most → nat_eq left 0 ≡ nat_eq n most
none_left left n most h = grind (arith, h)

-- a schedule is counted where it has exactly the most switches
pub tally_step : (w : World) (slice most steps : ℕ) (path : List ℕ) (todo : List Branch) (left : ℕ) (whole : (List ℕ → ℕ) → ℕ) (old new : List Told) (weight : End → ℕ) → Weighs w slice most steps path todo left whole
    → weighed weight new ≡ weighed weight old + weight_if (nat_eq left 0) (weight (outcome_of w steps path))
    → weighed weight new + below_all w slice steps (exactly w slice most (weight_of w steps weight)) path todo ≡ weighed weight old + whole (exactly w slice most (weight_of w steps weight))
tally_step w slice most steps path todo left whole old new weight h counted =
    let own : weight_if (nat_eq left 0) (weight (outcome_of w steps path)) ≡ exactly w slice most (weight_of w steps weight) path = ap (λ b. weight_if b (weight (outcome_of w steps path))) (none_left left (switches w slice path) most h.0) in
    let sum = h.1 (exactly w slice most (weight_of w steps weight)) in
    omega (arith, own, sum, counted)

steps_whole : (n : ℕ) → n - 0 ≡ n
steps_whole n = omega arith

-- nothing is before the first event
pub below_start : (w : World) (slice steps : ℕ) (f : List ℕ → ℕ) (most : ℕ) → below w slice steps f [] most ≡ total f (schedules w slice most steps)
below_start w slice steps f most = ap (λ n. total f (schedules_from n w slice None most)) (steps_whole steps)

pub nothing_left : (w : World) (slice steps : ℕ) (f : List ℕ → ℕ) (path : List ℕ) (todo : List Branch) (n whole : ℕ) → todo ≡ [] → n + below_all w slice steps f path todo ≡ whole → n ≡ whole
nothing_left w slice steps f path todo n whole e sum =
    let none : below_all w slice steps f path todo ≡ 0 = ap (below_all w slice steps f path) e in
    omega (arith, none, sum)

-- a run was made
pub tallied_more : (most runs : ℕ) (p q : Progress) (b : Bool) → Tallied most p → runs + 1 ≡ p.runs → q.runs ≡ runs → q.schedules ≡ p.schedules + weight_if b 1 → all_counted q.told.items ≡ all_counted p.told.items + weight_if b 1 → Tallied most q
tallied_more most runs p q b t less same sum counted = record {
  fits = t.fits;
  counted = (let before = t.counted in omega (arith, sum, counted, before));
  within = (let before = t.within in let one = if_at_most b in omega (arith, less, same, sum, one, before));
}

pub tallied_room : (most runs : ℕ) (p : Progress) → Tallied most p → runs + 1 ≡ p.runs → p.schedules + 1 < 2 ^ 64
tallied_room most runs p t less = let low = t.within in let top = t.fits in omega (arith, less, low, top)

pub tallied_less : (most : ℕ) (p q : Progress) → Tallied most p → q.runs + 1 ≡ p.runs → q.schedules ≡ p.schedules → q.told.items ≡ p.told.items → Tallied most q
tallied_less most p q t less same told = record {
  fits = t.fits;
  counted = same ∙ t.counted ∙ ap all_counted (sym told);
  within = (let before = t.within in omega (arith, less, same, before));
}

-- ---- from one number of switches to the next

abbrev pub CountsBefore : World → ℕ → ℕ → ℕ → List Told → Type 0
CountsBefore w slice zero steps told = (weight : End → ℕ) → weighed weight told ≡ 0
CountsBefore w slice (suc most) steps told = CountsAll w slice most steps told

pub counts_none : (w : World) (slice steps : ℕ) (told : List Told) → told ≡ [] → CountsBefore w slice 0 steps told
counts_none w slice steps told e weight = ap (weighed weight) e

pub counts_all : (w : World) (slice most steps : ℕ) (old new : List Told) → CountsBefore w slice most steps old → CountsMore w slice most steps old new → CountsAll w slice most steps new
counts_all w slice zero steps old new before more weight =
    let sum = more weight in
    let none = before weight in
    let all = no_switch w slice steps (weight_of w steps weight) in
    omega (arith, sum, none, all)
counts_all w slice (suc most) steps old new before more weight =
    let sum = more weight in
    let fewer = before weight in
    let all = subst (λ n. total (weight_of w steps weight) (schedules w slice n steps) ≡ total (exactly w slice n (weight_of w steps weight)) (schedules w slice n steps) + total (weight_of w steps weight) (schedules w slice most steps)) (add-one most) (one_more w slice most steps (weight_of w steps weight)) in
    omega (arith, sum, fewer, all)

pub counts_before : (w : World) (slice most steps : ℕ) (told : List Told) → CountsAll w slice most steps told → CountsBefore w slice (most + 1) steps told
counts_before w slice most steps told all = subst (λ n. CountsBefore w slice n steps told) (sym (add-one most)) all

-- ---- how many schedules there are

pub all_are_counted : (w : World) (slice most steps : ℕ) (told : List Told) → CountsAll w slice most steps told → all_counted told ≡ length (schedules w slice most steps)
all_are_counted w slice most steps told all = all (λ _. 1) ∙ total_one (schedules w slice most steps)

same_numbers : (xs ys : List ℕ) → (xs ≡ ys) ⊎ (xs ≡ ys → ⊥)
same_numbers [] [] = inl refl
same_numbers [] (y ∷ ys) = inr (λ e. let bad : 0 ≡ suc (length ys) = ap (λ (l : List ℕ). length l) e in let none : ⊥ = omega (arith, bad) in none)
same_numbers (x ∷ xs) [] = inr (λ e. let bad : suc (length xs) ≡ 0 = ap (λ (l : List ℕ). length l) e in let none : ⊥ = omega (arith, bad) in none)
same_numbers (x ∷ xs) (y ∷ ys) = by (one x y) (same_numbers xs ys)
  where
    one : (a b : ℕ) → (a ≡ b) ⊎ (a ≡ b → ⊥)
    one a b = grind arith

    first : List ℕ → ℕ
    first [] = x
    first (z ∷ zs) = z

    others : List ℕ → List ℕ
    others [] = []
    others (z ∷ zs) = zs

    by : (x ≡ y) ⊎ (x ≡ y → ⊥) → (xs ≡ ys) ⊎ (xs ≡ ys → ⊥) → (x ∷ xs ≡ y ∷ ys) ⊎ (x ∷ xs ≡ y ∷ ys → ⊥)
    by (inr other) h = inr (λ e. other (ap first e))
    by (inl e) (inr other) = inr (λ f. other (ap others f))
    by (inl e) (inl f) = inl (λ i. e i ∷ f i)

same_throw : (a b : Thrown) → (a ≡ b) ⊎ (a ≡ b → ⊥)
same_throw a b = by (one a.thread b.thread) (same_numbers a.class b.class)
  where
    one : (a b : ℕ) → (a ≡ b) ⊎ (a ≡ b → ⊥)
    one a b = grind arith

    by : (a.thread ≡ b.thread) ⊎ (a.thread ≡ b.thread → ⊥) → (a.class ≡ b.class) ⊎ (a.class ≡ b.class → ⊥) → (a ≡ b) ⊎ (a ≡ b → ⊥)
    by (inr other) h = inr (λ e. other (ap (λ (t : Thrown). t.thread) e))
    by (inl e) (inr other) = inr (λ f. other (ap (λ (t : Thrown). t.class) f))
    by (inl e) (inl f) = inl (λ i. record { thread = e i; class = f i })

same_throws : (xs ys : List Thrown) → (xs ≡ ys) ⊎ (xs ≡ ys → ⊥)
same_throws [] [] = inl refl
same_throws [] (y ∷ ys) = inr (λ e. let bad : 0 ≡ suc (length ys) = ap (λ (l : List Thrown). length l) e in let none : ⊥ = omega (arith, bad) in none)
same_throws (x ∷ xs) [] = inr (λ e. let bad : suc (length xs) ≡ 0 = ap (λ (l : List Thrown). length l) e in let none : ⊥ = omega (arith, bad) in none)
same_throws (x ∷ xs) (y ∷ ys) = by (same_throw x y) (same_throws xs ys)
  where
    first : List Thrown → Thrown
    first [] = x
    first (z ∷ zs) = z

    others : List Thrown → List Thrown
    others [] = []
    others (z ∷ zs) = zs

    by : (x ≡ y) ⊎ (x ≡ y → ⊥) → (xs ≡ ys) ⊎ (xs ≡ ys → ⊥) → (x ∷ xs ≡ y ∷ ys) ⊎ (x ∷ xs ≡ y ∷ ys → ⊥)
    by (inr other) h = inr (λ e. other (ap first e))
    by (inl e) (inr other) = inr (λ f. other (ap others f))
    by (inl e) (inl f) = inl (λ i. e i ∷ f i)

equal_how : (a b : HowEnded) → how_equal.ghosts.eq a b ≡ true → a ≡ b
equal_how a b h = search rules

same_how : (a b : HowEnded) → (a ≡ b) ⊎ (a ≡ b → ⊥)
same_how a b = by (how_equal.ghosts.eq a b) refl
  where
    by : (c : Bool) → how_equal.ghosts.eq a b ≡ c → (a ≡ b) ⊎ (a ≡ b → ⊥)
    by true e = inl (equal_how a b e)
    by false e = inr (λ same. true≢false (sym (subst (λ (x : HowEnded). how_equal.ghosts.eq a x ≡ true) same (laws-law.refl a)) ∙ e))

pub same_end : (a b : End) → (a ≡ b) ⊎ (a ≡ b → ⊥)
same_end a b = by (same_how a.how b.how) (same_numbers a.output b.output) (same_throws a.thrown b.thrown)
  where
    by : (a.how ≡ b.how) ⊎ (a.how ≡ b.how → ⊥) → (a.output ≡ b.output) ⊎ (a.output ≡ b.output → ⊥) → (a.thrown ≡ b.thrown) ⊎ (a.thrown ≡ b.thrown → ⊥) → (a ≡ b) ⊎ (a ≡ b → ⊥)
    by (inr other) h k = inr (λ e. other (ap (λ (x : End). x.how) e))
    by (inl e) (inr other) k = inr (λ f. other (ap (λ (x : End). x.output) f))
    by (inl e) (inl f) (inr other) = inr (λ g. other (ap (λ (x : End). x.thrown) g))
    by (inl e) (inl f) (inl g) = inl (λ i. record { how = e i; output = f i; thrown = g i })

-- only this outcome weighs
abbrev only : End → End → ℕ
only e x = one_if (same_end x e)

only_itself : (e x : End) → x ≡ e → only e x ≡ 1
only_itself e x is = by (same_end x e)
  where
    by : (c : (x ≡ e) ⊎ (x ≡ e → ⊥)) → one_if c ≡ 1
    by (inl h) = refl
    by (inr other) = absurd (other is)

only_other : (e x : End) → (x ≡ e → ⊥) → only e x ≡ 0
only_other e x other = by (same_end x e)
  where
    by : (c : (x ≡ e) ⊎ (x ≡ e → ⊥)) → one_if c ≡ 0
    by (inl h) = absurd (other h)
    by (inr h) = refl

get_found : (told : List Told) (k : ℕ) (d : Told) → get_or (founds told) k (found_of d) ≡ found_of (get_or told k d)
get_found [] k d = refl
get_found (x ∷ told) zero d = refl
get_found (x ∷ told) (suc k) d = get_found told k d

founds_length : (told : List Told) → length (founds told) ≡ length told
founds_length [] = refl
founds_length (x ∷ told) = ap suc (founds_length told)

later_pairs : (x : Told) (told : List Told) → AllPairs AreOther (founds (x ∷ told)) → AllPairs AreOther (founds told)
later_pairs x told other i j d low high = other (suc i) (suc j) d (omega (arith, low)) (omega (arith, high))

others_weigh_nothing : (e : End) (told : List Told) → ((k : ℕ) (d : Told) → k < length told → told_end (get_or told k d).outcome ≡ e → ⊥) → weighed (only e) told ≡ 0
others_weigh_nothing e [] other = refl
others_weigh_nothing e (x ∷ told) other =
    let rest = others_weigh_nothing e told (λ k d low. other (suc k) d (omega (arith, low))) in
    let one : only e (told_end x.outcome) * x.schedules ≡ 0 * x.schedules = ap (λ n. n * x.schedules) (only_other e (told_end x.outcome) (other 0 x (omega arith))) in
    omega (arith, rest, one)

pair_differs : (told : List Told) (i j : ℕ) (d : Told) → AllPairs AreOther (founds told) → i < j → j < length told → told_end (get_or told i d).outcome ≡ told_end (get_or told j d).outcome → ⊥
pair_differs told i j d other low high same =
    let size = founds_length told in
    other i j (found_of d) low (omega (arith, high, size)) (ap (λ (f : Found). f.outcome) (get_found told i d) ∙ same ∙ ap (λ (f : Found). f.outcome) (sym (get_found told j d)))

share_is : (told : List Told) (k : ℕ) (d : Told) → k < length told → AllPairs AreOther (founds told) → weighed (only (told_end (get_or told k d).outcome)) told ≡ (get_or told k d).schedules
share_is [] k d low other = let bad : ⊥ = omega (arith, low) in absurd bad
share_is (x ∷ told) zero d low other =
    let one : only (told_end x.outcome) (told_end x.outcome) * x.schedules ≡ 1 * x.schedules = ap (λ n. n * x.schedules) (only_itself (told_end x.outcome) (told_end x.outcome) refl) in
    let rest = others_weigh_nothing (told_end x.outcome) told (λ k e less same. pair_differs (x ∷ told) 0 (suc k) e other (omega arith) (omega (arith, less)) (sym same)) in
    omega (arith, one, rest)
share_is (x ∷ told) (suc k) d low other =
    let one : only (told_end (get_or told k d).outcome) (told_end x.outcome) * x.schedules ≡ 0 * x.schedules = ap (λ n. n * x.schedules) (only_other (told_end (get_or told k d).outcome) (told_end x.outcome) (λ same. pair_differs (x ∷ told) 0 (suc k) d other (omega arith) low same)) in
    let rest = share_is told k d (omega (arith, low)) (later_pairs x told other) in
    omega (arith, one, rest)

pub all_shares : (w : World) (slice most steps : ℕ) (told : List Told) → AllPairs AreOther (founds told) → CountsAll w slice most steps told
    → All (λ t. HowMany (λ ts. outcome_of w steps ts ≡ told_end t.outcome) (schedules w slice most steps) t.schedules) told
all_shares w slice most steps told other all k d low =
    subst (HowMany (λ ts. outcome_of w steps ts ≡ told_end (get_or told k d).outcome) (schedules w slice most steps)) (sym (all (only (told_end (get_or told k d).outcome))) ∙ share_is told k d low other)
    (how_many (λ ts. outcome_of w steps ts ≡ told_end (get_or told k d).outcome) (λ ts. same_end (outcome_of w steps ts) (told_end (get_or told k d).outcome)) (schedules w slice most steps))

-- ---- as the calls tell it

pub counted_at : (weight : End → ℕ) (e : End) (told : List Told) (k : ℕ) (r : Told) (n more : ℕ) → k < length told → ((d : Told) → told_end (get_or told k d).outcome ≡ e) → n ≡ (get_or told k r).schedules + more
    → weighed weight (set told k (record { outcome = (get_or told k r).outcome; schedule = (get_or told k r).schedule; switches = (get_or told k r).switches; schedules = n })) ≡ weighed weight told + weight e * more
counted_at weight e told k r n more low at sum =
    counted_set weight e told k r (record { outcome = (get_or told k r).outcome; schedule = (get_or told k r).schedule; switches = (get_or told k r).switches; schedules = n }) more low (at r) (at r) sum

pub counted_as : {H : Type 0} (w : World) (steps left : ℕ) (old new : List Told) (path now : List ℕ) (m : MachineView H) → now ≡ path
    → (MatchesWorld m (world_after w now) → (weight : End → ℕ) → weighed weight new ≡ weighed weight old + weight_if (nat_eq left 0) (weight (outcome_of w steps now)))
    → MatchesWorld m (world_after w path) → (weight : End → ℕ) → weighed weight new ≡ weighed weight old + weight_if (nat_eq left 0) (weight (outcome_of w steps path))
counted_as w steps left old new path now m e counted is weight =
    subst (λ p. weighed weight new ≡ weighed weight old + weight_if (nat_eq left 0) (weight (outcome_of w steps p))) e (counted (subst (λ p. MatchesWorld m (world_after w p)) (sym e) is) weight)

pub counted_room : (most runs : ℕ) (p : Progress) → Tallied most p → runs + 1 ≡ p.runs → all_counted p.told.items + 1 < 2 ^ 64
counted_room most runs p t less = subst (λ n. n + 1 < 2 ^ 64) t.counted (tallied_room most runs p t less)

pub weighs_if : (b : Bool) (w : World) (slice most steps : ℕ) (path : List ℕ) (todo : List Branch) (left : ℕ) (whole : (List ℕ → ℕ) → ℕ) → b ≡ true → WeighsIf b w slice most steps path todo left whole → Weighs w slice most steps path todo left whole
weighs_if b w slice most steps path todo left whole e h = subst (λ x. WeighsIf x w slice most steps path todo left whole) e h

pub weighs_if_not : (b : Bool) (w : World) (slice most steps : ℕ) (path : List ℕ) (todo : List Branch) (left : ℕ) (whole : (List ℕ → ℕ) → ℕ) → b ≡ false → WeighsIf b w slice most steps path todo left whole → (f : List ℕ → ℕ) → whole f ≡ below_all w slice steps f path todo
weighs_if_not b w slice most steps path todo left whole e h = subst (λ x. WeighsIf x w slice most steps path todo left whole) e h

pub tally_next : (w : World) (slice most steps : ℕ) (path : List ℕ) (todo : List Branch) (left : ℕ) (whole : (List ℕ → ℕ) → ℕ) (old new : List Told) (weight : End → ℕ) (all : ℕ) → Weighs w slice most steps path todo left whole
    → weighed weight new ≡ weighed weight old + weight_if (nat_eq left 0) (weight (outcome_of w steps path)) → weighed weight old + whole (exactly w slice most (weight_of w steps weight)) ≡ all
    → weighed weight new + below_all w slice steps (exactly w slice most (weight_of w steps weight)) path todo ≡ all
tally_next w slice most steps path todo left whole old new weight all h counted before = tally_step w slice most steps path todo left whole old new weight h counted ∙ before

-- before the first run
pub begun : (p : Progress) (most : ℕ) → most < 2 ^ 64 → p.schedules ≡ 0 → p.runs ≡ most → p.told.items ≡ [] → Tallied most p
begun p most fits none all empty = record {
  fits = fits;
  counted = none ∙ sym (ap all_counted empty);
  within = omega (arith, none, all);
}

pub counted_push_as : (weight : End → ℕ) (old new : List Told) (t : Told) → new ≡ old ++ t ∷ [] → weighed weight new ≡ weighed weight old + weight (told_end t.outcome) * t.schedules
counted_push_as weight old new t e = ap (weighed weight) e ∙ counted_push weight old t

-- a count that has room
pub not_saturated : (n a more all : ℕ) → n ≡ min (a + more) 18446744073709551615 → a ≤ all → all + more < 2 ^ 64 → n ≡ a + more
not_saturated n a more all e low fits = let room : a + more ≤ 18446744073709551615 = omega (arith, low, fits) in grind (arith, e, room)
