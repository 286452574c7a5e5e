-- Trees of nodes: what stands in one stays as nodes are added, and what a new node holds.
use Rattle.std.proofs.Common.{◌≡◌, ◌≢◌, ℕ, zero, suc, ◌+◌, ◌-◌, ◌*◌, ◌%◌, ◌^◌, ◌<◌, List, [], ◌∷◌, ◌++◌, Bool, true, false, ◌&&◌, length, get_or, nat_eq}
use Rattle.std.proofs.Common.{refl, sym, ◌∙◌, ap, subst, arith, append_assoc, append-nil, length-append, eqb-true, eq-eqb}
use Rattle.std.proofs.lemmas.List.{get_or_append_left}
use Rattle.std.proofs.lemmas.Nat.{mod-pow-add}
use Rattle.std.proofs.Math.Nat.{mod-eq_of_lt}
use Rattle.std.proofs.Math.Seq.{get_or-append_seam}
use Rattle.jm_tables.specs.Nodes.{digit_at, child_of, found_from, IsThere, IsFirstEmpty, agree, IsLonger}

pub digit_small : (level column : ℕ) → digit_at level column < 16
digit_small level column = omega arith

-- a node that was there has the entries that it had
pub child_longer : (nodes more : List (List ℕ)) (n d : ℕ) → n < length nodes → child_of (nodes ++ more) n d ≡ child_of nodes n d
child_longer nodes more n d h = ap (λ x. get_or x d 0) (get_or_append_left nodes more [] n h)

pub there_longer : (nodes more : List (List ℕ)) (levels n : ℕ) → IsThere nodes levels n → IsThere (nodes ++ more) levels n
unfolding IsThere
there_longer nodes more zero n h = tt
there_longer nodes more (suc levels) n h = (
  omega (arith, length-append nodes more, h.0),
  λ d small. subst (IsThere (nodes ++ more) levels) (sym (child_longer nodes more n d h.0))
      (there_longer nodes more levels (child_of nodes n d) (h.1 d small)),
)

pub found_longer : (nodes more : List (List ℕ)) (levels n column : ℕ) → IsThere nodes levels n
    → found_from (nodes ++ more) levels n column ≡ found_from nodes levels n column
unfolding IsThere found_from
found_longer nodes more zero n column h = refl
found_longer nodes more (suc levels) n column h =
    let d : ℕ = digit_at levels column in
    ap (λ c. found_from (nodes ++ more) levels c column) (child_longer nodes more n d h.0)
    ∙ found_longer nodes more levels (child_of nodes n d) column (h.1 d (digit_small levels column))

pub there_after : (old new : List (List ℕ)) (levels n : ℕ) → IsLonger old new → IsThere old levels n → IsThere new levels n
there_after old new levels n l h = subst (λ ns. IsThere ns levels n) (sym l.1) (there_longer old l.0 levels n h)

pub found_after : (old new : List (List ℕ)) (levels n column : ℕ) → IsLonger old new → IsThere old levels n
    → found_from new levels n column ≡ found_from old levels n column
found_after old new levels n column l h = ap (λ ns. found_from ns levels n column) l.1 ∙ found_longer old l.0 levels n column h

pub first_after : (old new : List (List ℕ)) → IsLonger old new → IsFirstEmpty old → IsFirstEmpty new
first_after old new l h =
    subst IsFirstEmpty (sym l.1) (omega (arith, length-append old l.0, h.0), λ d small. child_longer old l.0 0 d h.0 ∙ h.1 d small)

pub longer_twice : (a b c : List (List ℕ)) → IsLonger a b → IsLonger b c → IsLonger a c
longer_twice a b c l m = (l.0 ++ m.0, m.1 ∙ ap (λ xs. xs ++ m.0) l.1 ∙ append_assoc a l.0 m.0)

pub longer_same : (a : List (List ℕ)) → IsLonger a a
longer_same a = ([], sym (append-nil a))

-- the first node has nothing at any height
pub there_empty : (nodes : List (List ℕ)) (levels : ℕ) → IsFirstEmpty nodes → IsThere nodes levels 0
unfolding IsThere
there_empty nodes zero h = tt
there_empty nodes (suc levels) h = (h.0, λ d small. subst (IsThere nodes levels) (sym (h.1 d small)) (there_empty nodes levels h))

pub found_empty : (nodes : List (List ℕ)) (levels column : ℕ) → IsFirstEmpty nodes → found_from nodes levels 0 column ≡ 0
unfolding found_from
found_empty nodes zero column h = refl
found_empty nodes (suc levels) column h =
    let d : ℕ = digit_at levels column in
    ap (λ c. found_from nodes levels c column) (h.1 d (digit_small levels column)) ∙ found_empty nodes levels column h

-- a node at the end, of entries that are there
pub there_made : (old new : List (List ℕ)) (node : List ℕ) (levels : ℕ) → new ≡ old ++ node ∷ [] → ((d : ℕ) → d < 16 → IsThere old levels (get_or node d 0))
    → IsThere new (suc levels) (length old)
unfolding IsThere
there_made old new node levels e h =
    let here : (d : ℕ) → child_of new (length old) d ≡ get_or node d 0 = λ d. ap (λ ns. child_of ns (length old) d) e
    ∙ ap (λ x. get_or x d 0) (get_or-append_seam old node [] []) in
    let long : length new ≡ length old + 1 = ap length e ∙ length-append old (node ∷ []) in
    (omega (arith, long), λ d small. subst (IsThere new levels) (sym (here d)) (there_after old new levels (get_or node d 0) (node ∷ [], e) (h d small)))

pub found_made : (old new : List (List ℕ)) (node : List ℕ) (levels column : ℕ) → new ≡ old ++ node ∷ []
    → ((d : ℕ) → d < 16 → IsThere old levels (get_or node d 0))
    → found_from new (suc levels) (length old) column ≡ found_from old levels (get_or node (digit_at levels column) 0) column
unfolding found_from
found_made old new node levels column e h =
    let d : ℕ = digit_at levels column in
    let here : child_of new (length old) d ≡ get_or node d 0 = ap (λ ns. child_of ns (length old) d) e
    ∙ ap (λ x. get_or x d 0) (get_or-append_seam old node [] []) in
    ap (λ c. found_from new levels c column) here ∙ found_after old new levels (get_or node d 0) column (node ∷ [], e) (h d (digit_small levels column))

-- one level down
pub there_down : (nodes : List (List ℕ)) (levels n d : ℕ) → IsThere nodes (suc levels) n → d < 16 → IsThere nodes levels (child_of nodes n d)
unfolding IsThere
there_down nodes levels n d h small = h.1 d small

pub found_down : (nodes : List (List ℕ)) (levels n column : ℕ)
    → found_from nodes (suc levels) n column ≡ found_from nodes levels (child_of nodes n (digit_at levels column)) column
unfolding found_from
found_down nodes levels n column = refl

pub found_step : (nodes : List (List ℕ)) (levels n column : ℕ) → levels ≢ 0
    → found_from nodes levels n column ≡ found_from nodes (levels - 1) (child_of nodes n (digit_at (levels - 1) column)) column
found_step nodes zero n column some = absurd (some refl)
found_step nodes (suc levels) n column some = let same : suc levels - 1 ≡ levels = omega arith in
    found_down nodes levels n column ∙ sym (ap (λ m. found_from nodes m (child_of nodes n (digit_at m column)) column) same)

pub there_step : (nodes : List (List ℕ)) (levels n d : ℕ) → levels ≢ 0 → IsThere nodes levels n → d < 16 → IsThere nodes (levels - 1) (child_of nodes n d)
there_step nodes zero n d some h small = absurd (some refl)
there_step nodes (suc levels) n d some h small = let same : suc levels - 1 ≡ levels = omega arith in
    subst (λ m. IsThere nodes m (child_of nodes n d)) (sym same) (there_down nodes levels n d h small)

pub there_new : (old new : List (List ℕ)) (node : List ℕ) (levels : ℕ) → levels ≢ 0 → new ≡ old ++ node ∷ []
    → ((d : ℕ) → d < 16 → IsThere old (levels - 1) (get_or node d 0)) → IsThere new levels (length old)
there_new old new node zero some e h = absurd (some refl)
there_new old new node (suc levels) some e h = let same : suc levels - 1 ≡ levels = omega arith in
    there_made old new node levels e (λ d small. subst (λ m. IsThere old m (get_or node d 0)) same (h d small))

pub found_new : (old new : List (List ℕ)) (node : List ℕ) (levels column : ℕ) → levels ≢ 0 → new ≡ old ++ node ∷ []
    → ((d : ℕ) → d < 16 → IsThere old (levels - 1) (get_or node d 0))
    → found_from new levels (length old) column ≡ found_from old (levels - 1) (get_or node (digit_at (levels - 1) column) 0) column
found_new old new node zero column some e h = absurd (some refl)
found_new old new node (suc levels) column some e h = let same : suc levels - 1 ≡ levels = omega arith in
    found_made old new node levels column e (λ d small. subst (λ m. IsThere old m (get_or node d 0)) same (h d small))
    ∙ sym (ap (λ m. found_from old m (get_or node (digit_at m column) 0) column) same)

pub found_none : (nodes : List (List ℕ)) (n column : ℕ) → found_from nodes 0 n column ≡ n
unfolding found_from
found_none nodes n column = refl

pub there_none : (nodes : List (List ℕ)) (n : ℕ) → IsThere nodes 0 n
unfolding IsThere
there_none nodes n = tt

pub agree_none : (a b : ℕ) → agree 0 a b ≡ true
unfolding agree
agree_none a b = refl

pub agree_more : (level a b : ℕ) → agree (suc level) a b ≡ (nat_eq (digit_at level a) (digit_at level b) && agree level a b)
unfolding agree
agree_more level a b = refl

pub agree_step : (levels a b : ℕ) → levels ≢ 0 → agree levels a b ≡ (nat_eq (digit_at (levels - 1) a) (digit_at (levels - 1) b) && agree (levels - 1) a b)
agree_step zero a b some = absurd (some refl)
agree_step (suc level) a b some = let same : suc level - 1 ≡ level = omega arith in
    agree_more level a b ∙ sym (ap (λ m. nat_eq (digit_at m a) (digit_at m b) && agree m a b) same)

-- columns agree in their digits below a level exactly where they are the same below it
agree_is : (level a b : ℕ) → agree level a b ≡ true → a % 2 ^ (4 * level) ≡ b % 2 ^ (4 * level)
unfolding agree
agree_is zero a b h = omega arith
agree_is (suc level) a b h =
    let high : digit_at level a ≡ digit_at level b = grind (arith, h) in
    let low : agree level a b ≡ true = grind (arith, h) in
    let same : 4 * suc level ≡ 4 + 4 * level = omega arith in
    subst (λ n. a % 2 ^ n ≡ b % 2 ^ n) (sym same)
    (mod-pow-add a 4 (4 * level) ∙ ap (λ d. d * 2 ^ (4 * level) + a % 2 ^ (4 * level)) high
    ∙ ap (λ r. digit_at level b * 2 ^ (4 * level) + r) (agree_is level a b low) ∙ sym (mod-pow-add b 4 (4 * level)))

agree_same : (level a : ℕ) → agree level a a ≡ true
unfolding agree
agree_same zero a = refl
agree_same (suc level) a = ap (λ t. t && agree level a a) (eq-eqb (digit_at level a) (digit_at level a) refl) ∙ agree_same level a

pub agree_tells : (levels a b : ℕ) → a < 2 ^ (4 * levels) → b < 2 ^ (4 * levels) → agree levels a b ≡ nat_eq a b
agree_tells levels a b small less = by (agree levels a b) (nat_eq a b) refl refl
  where
    by : (s t : Bool) → agree levels a b ≡ s → nat_eq a b ≡ t → s ≡ t
    by true true e f = refl
    by false false e f = refl
    by true false e f =
        let one : a % 2 ^ (4 * levels) ≡ b % 2 ^ (4 * levels) = agree_is levels a b e in
        let same : a ≡ b = sym (mod-eq_of_lt small) ∙ one ∙ mod-eq_of_lt less in cc (eq-eqb a b same)
    by false true e f = let same : a ≡ b = eqb-true a b f in cc (subst (λ n. agree levels a n ≡ true) same (agree_same levels a))
