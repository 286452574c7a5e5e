-- The names that are known stand in front of those that are used, and the next name right behind them.
use Rattle.std.proofs.Common.{◌≡◌, ℕ, ◌+◌, ◌<◌, ◌≤◌, List, [], ◌∷◌, ◌++◌, length, take, Bool, true, false, not, cond, ◌||◌, Some, slice_get, refl, sym, ap, ◌∙◌, append_assoc, append-nil, if◌then◌else◌, arith, length-append, length-take-le, take_at}
use Rattle.std.proofs.lemmas.List.{take-append-le}
use Rattle.std.proofs.lemmas.List.Folds.{list_any-append}
use Rattle.std.specs.Prelude.{find}
use Rattle.std.specs.List.{list_any}
use Rattle.jm_program.specs.Names.{same_text}
use Rattle.jm_program.proofs.Texts.{text_itself}
use Rattle.jm_class_path.specs.Search.{is_among, with_name, with_names}
use Rattle.jm_class_path.specs.Uses.{Name}
use Rattle.jm_class_path.proofs.NamesBehind.{with_both}

-- of names those that are not among others, each once
abbrev new_names : List Name → List Name → List Name
new_names known [] = []
new_names known (n ∷ ns) = if is_among known n then new_names known ns else n ∷ new_names (known ++ n ∷ []) ns

abbrev is_new : List Name → Name → Bool
is_new known n = not (is_among known n)

stays : (known : List Name) (n : Name) → is_among known n ≡ true → with_name known n ≡ known
stays known n e = ap (λ b. if b then known else known ++ n ∷ []) e

grows : (known : List Name) (n : Name) → is_among known n ≡ false → with_name known n ≡ known ++ n ∷ []
grows known n e = ap (λ b. if b then known else known ++ n ∷ []) e

-- the new names stand behind the others
pub behind : (known used : List Name) → with_names known used ≡ known ++ new_names known used
behind known [] = sym (append-nil known)
behind known (n ∷ ns) = by (is_among known n) refl (behind known ns) (behind (known ++ n ∷ []) ns)
  where
    rest : Bool → List Name
    rest b = if b then new_names known ns else n ∷ new_names (known ++ n ∷ []) ns

    by : (b : Bool) → is_among known n ≡ b → with_names known ns ≡ known ++ new_names known ns
        → with_names (known ++ n ∷ []) ns ≡ (known ++ n ∷ []) ++ new_names (known ++ n ∷ []) ns
        → with_names known (n ∷ ns) ≡ known ++ new_names known (n ∷ ns)
    by true e there here = ap (λ names. with_names names ns) (stays known n e) ∙ there ∙ ap (λ b. known ++ rest b) (sym e)
    by false e there here =
        ap (λ names. with_names names ns) (grows known n e) ∙ here
        ∙ append_assoc known (n ∷ []) (new_names (known ++ n ∷ []) ns) ∙ ap (λ b. known ++ rest b) (sym e)

-- the first of them is the first name that is used and not known
first_new : (known used : List Name) → find (is_new known) used ≡ slice_get (new_names known used) 0
first_new known [] = refl
first_new known (n ∷ ns) = by (is_among known n) refl (first_new known ns)
  where
    rest : Bool → List Name
    rest b = if b then new_names known ns else n ∷ new_names (known ++ n ∷ []) ns

    by : (b : Bool) → is_among known n ≡ b → find (is_new known) ns ≡ slice_get (new_names known ns) 0
        → find (is_new known) (n ∷ ns) ≡ slice_get (new_names known (n ∷ ns)) 0
    by true e there = ap (λ b. cond (not b) (Some n) (find (is_new known) ns)) e ∙ there ∙ ap (λ b. slice_get (rest b) 0) (sym e)
    by false e there = ap (λ b. cond (not b) (Some n) (find (is_new known) ns)) e ∙ ap (λ b. slice_get (rest b) 0) (sym e)

-- a name that is known in addition is among the known ones, as are those that were
still_among : (known : List Name) (k n : Name) → is_among known n ≡ true → is_among (known ++ k ∷ []) n ≡ true
still_among known k n e = list_any-append (same_text n) known (k ∷ []) ∙ ap (λ b. b || list_any (same_text n) (k ∷ [])) e

or_true : (a : Bool) → (a || (true || false)) ≡ true
or_true true = refl
or_true false = refl

among_itself : (known : List Name) (k : Name) → is_among (known ++ k ∷ []) k ≡ true
among_itself known k =
    list_any-append (same_text k) known (k ∷ []) ∙ ap (λ b. is_among known k || (b || false)) (text_itself k) ∙ or_true (is_among known k)

some_same : (a b : Name) → Some a ≡ Some b → a ≡ b
some_same a b e = cc

-- where the first new name becomes known, the names in their order stay the same
pub next_known : (known used : List Name) (k : Name) → find (is_new known) used ≡ Some k → with_names (known ++ k ∷ []) used ≡ with_names known used
next_known known [] k e = cc
next_known known (n ∷ ns) k e = by (is_among known n) refl (next_known known ns k)
  where
    by : (b : Bool) → is_among known n ≡ b → (find (is_new known) ns ≡ Some k → with_names (known ++ k ∷ []) ns ≡ with_names known ns)
        → with_names (known ++ k ∷ []) (n ∷ ns) ≡ with_names known (n ∷ ns)
    by true is there =
        ap (λ names. with_names names ns) (stays (known ++ k ∷ []) n (still_among known k n is))
        ∙ there (sym (ap (λ b. cond (not b) (Some n) (find (is_new known) ns)) is) ∙ e)
        ∙ ap (λ names. with_names names ns) (sym (stays known n is))
    by false is there =
        let same : n ≡ k = some_same n k (sym (ap (λ b. cond (not b) (Some n) (find (is_new known) ns)) is) ∙ e) in
        ap (λ names. with_names names ns)
        (stays (known ++ k ∷ []) n (ap (λ m. is_among (known ++ k ∷ []) m) same ∙ among_itself known k)
        ∙ ap (λ m. known ++ m ∷ []) (sym same) ∙ sym (grows known n is))

get_behind : (known rest : List Name) → slice_get (known ++ rest) (length known) ≡ slice_get rest 0
get_behind [] rest = refl
get_behind (n ∷ ns) rest = get_behind ns rest

some_behind : (known rest : List Name) (k : Name) → slice_get rest 0 ≡ Some k → (length known < length (known ++ rest)) × (take (length known + 1) (known ++ rest) ≡ known ++ k ∷ [])
some_behind known [] k e = cc
some_behind known (n ∷ ns) k e =
    let same : n ≡ k = some_same n k e in (
      omega (arith, length-append known (n ∷ ns)),
      ap (λ names. take (length known + 1) names) (sym (append_assoc known (n ∷ []) ns))
          ∙ take_at (known ++ n ∷ []) ns (length known + 1) (length-append known (n ∷ []))
          ∙ ap (λ m. known ++ m ∷ []) same,
    )

-- ---- names of which so many are known: behind them are those that are used, each once

pub record AreKnown (names : List Name) (known : ℕ) (used : List Name) : Type 0 where
  pub within : known ≤ length names
  pub all : names ≡ with_names (take known names) used

pub at_first : (known used : List Name) → AreKnown (with_names known used) (length known) used
at_first known used =
    let names = behind known used in
    let front : take (length known) (with_names known used) ≡ known =
    ap (λ all. take (length known) all) names ∙ take_at known (new_names known used) (length known) refl in
    record {
      within = omega (arith, ap length names, length-append known (new_names known used));
      all = ap (λ front. with_names front used) (sym front);
    }

pub front_at_first : (known used : List Name) → take (length known) (with_names known used) ≡ known
front_at_first known used = ap (λ all. take (length known) all) (behind known used) ∙ take_at known (new_names known used) (length known) refl

module _ (names used : List Name) (known : ℕ) (are : AreKnown names known used) where
  -- the known ones, and the others
  split : names ≡ take known names ++ new_names (take known names) used
  split = are.all ∙ behind (take known names) used

  count : length (take known names) ≡ known
  count = length-take-le known names are.within

  -- the next name stands behind those that are known
  pub next_at : find (is_new (take known names)) used ≡ slice_get names known
  next_at =
      first_new (take known names) used
      ∙ sym (get_behind (take known names) (new_names (take known names) used))
      ∙ ap (λ all. slice_get all (length (take known names))) (sym split)
      ∙ ap (λ n. slice_get names n) count

  module _ (k : Name) (next : find (is_new (take known names)) used ≡ Some k) where
    more : (length (take known names) < length (take known names ++ new_names (take known names) used)) × (take (length (take known names) + 1) (take known names ++ new_names (take known names) used) ≡ take known names ++ k ∷ [])
    more = some_behind (take known names) (new_names (take known names) used) k (sym (first_new (take known names) used) ∙ next)

    pub next_within : known < length names
    next_within = omega (arith, more.0, ap length split, count)

    pub front_with_next : take (known + 1) names ≡ take known names ++ k ∷ []
    front_with_next =
        ap (λ n. take (n + 1) names) (sym count)
        ∙ ap (λ all. take (length (take known names) + 1) all) split
        ∙ more.1

    -- the next name becomes known
    pub with_next : AreKnown names (known + 1) used
    with_next = record {
      within = omega (arith, next_within);
      all = are.all ∙ sym (next_known (take known names) used k next) ∙ ap (λ front. with_names front used) (sym front_with_next);
    }

  module _ (more : List Name) where
    pub front_stays : take known (with_names names more) ≡ take known names
    front_stays = ap (λ all. take known all) (behind names more) ∙ take-append-le known names (new_names names more) are.within

    -- more names are used
    pub with_more : AreKnown (with_names names more) known (used ++ more)
    with_more = record {
      within = omega (arith, are.within, ap length (behind names more), length-append names (new_names names more));
      all =
          ap (λ all. with_names all more) are.all
          ∙ sym (with_both (take known names) used more)
          ∙ ap (λ front. with_names front (used ++ more)) (sym front_stays);
    }
