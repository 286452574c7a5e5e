-- A tree with another entry: each node along the column's digits is made anew.
use Rattle.std.proofs.Common.{◌≡◌, ◌≢◌, ℕ, ◌-◌, ◌<◌, List, [], ◌∷◌, ◌++◌, Bool, true, false, ◌&&◌, cond, length, get_or, nat_eq, refl, sym, ◌∙◌, ap, subst}
use Rattle.std.proofs.Common.{arith, set, get_or-set_same, get_or-set_other, eqb-true, eq-eqb}
use Rattle.jm_tables.specs.Nodes.{digit_at, child_of, found_from, IsThere, agree, IsLonger}
use Rattle.jm_tables.proofs.NodeLaws.{digit_small, there_after, found_after, there_step, found_step, there_new, found_new, agree_step}

-- an entry of a node with another one at a place
set_at : (copy : List ℕ) (place w d : ℕ) → place < length copy → d ≡ place → get_or (set copy place w) d 0 ≡ w
set_at copy place w d h e = ap (λ i. get_or (set copy place w) i 0) e ∙ get_or-set_same copy place w 0 h

unequal : (a b : ℕ) → nat_eq a b ≡ false → a ≢ b
unequal a b e = λ same. let t = eq-eqb a b same in cc

module _ (old mid : List (List ℕ)) (copy : List ℕ) (levels root column entry w place : ℕ) (some : levels ≢ 0) (placed : place ≡ digit_at (levels - 1) column)
    (long : length copy ≡ 16)
    (entries : (d : ℕ) → get_or copy d 0 ≡ child_of old root d) (there : IsThere old levels root) (longer : IsLonger old mid)
    (below : IsThere mid (levels - 1) w)
    (found : (k : ℕ) → found_from mid (levels - 1) w k ≡ cond (agree (levels - 1) k column) entry (found_from old (levels - 1) (get_or copy place 0) k)) where
  within : place < length copy
  within = let small = digit_small (levels - 1) column in omega (arith, placed, long)

  others : (d : ℕ) → d < 16 → IsThere mid (levels - 1) (get_or copy d 0)
  others d small = subst (IsThere mid (levels - 1)) (sym (entries d))
      (there_after old mid (levels - 1) (child_of old root d) longer (there_step old levels root d some there small))

  each_there : (d : ℕ) → d < 16 → IsThere mid (levels - 1) (get_or (set copy place w) d 0)
  each_there d small = by (nat_eq d place) refl
    where
      by : (t : Bool) → nat_eq d place ≡ t → IsThere mid (levels - 1) (get_or (set copy place w) d 0)
      by true e = subst (IsThere mid (levels - 1)) (sym (set_at copy place w d within (eqb-true d place e))) below
      by false e = let ne : d ≢ place = unequal d place e in subst (IsThere mid (levels - 1)) (sym (get_or-set_other copy place d w 0 ne)) (others d small)

  pub written_there : (new : List (List ℕ)) (n : ℕ) → n ≡ length mid → new ≡ mid ++ set copy place w ∷ [] → IsThere new levels n
  written_there new n is e = subst (IsThere new levels) (sym is) (there_new mid new (set copy place w) levels some e each_there)

  at_digit : (k : ℕ) → found_from mid (levels - 1) (get_or (set copy place w) (digit_at (levels - 1) k) 0) k ≡ cond (agree levels k column) entry
      (found_from old levels root k)
  at_digit k = by (nat_eq (digit_at (levels - 1) k) (digit_at (levels - 1) column)) refl
    where
      d : ℕ
      d = digit_at (levels - 1) k

      was : found_from old (levels - 1) (get_or copy d 0) k ≡ found_from old levels root k
      was = ap (λ n. found_from old (levels - 1) n k) (entries d) ∙ sym (found_step old levels root k some)

      by : (t : Bool) → nat_eq (digit_at (levels - 1) k) (digit_at (levels - 1) column) ≡ t
          → found_from mid (levels - 1) (get_or (set copy place w) (digit_at (levels - 1) k) 0) k ≡ cond (agree levels k column) entry
          (found_from old levels root k)
      by true e = let same : d ≡ place = eqb-true d (digit_at (levels - 1) column) e ∙ sym placed in
          ap (λ n. found_from mid (levels - 1) n k) (set_at copy place w d within same)
          ∙ found k ∙ ap (λ n. cond (agree (levels - 1) k column) entry n) (ap (λ i. found_from old (levels - 1) (get_or copy i 0) k) (sym same) ∙ was)
          ∙ ap (λ t. cond t entry (found_from old levels root k)) (sym (agree_step levels k column some ∙ ap (λ t. t && agree (levels - 1) k column) e))
      by false e = let ne : d ≢ place = λ same. unequal d (digit_at (levels - 1) column) e (same ∙ placed) in
          ap (λ n. found_from mid (levels - 1) n k) (get_or-set_other copy place d w 0 ne)
          ∙ ap (λ n. found_from mid (levels - 1) n k) (entries d)
          ∙ found_after old mid (levels - 1) (child_of old root d) k longer (there_step old levels root d some there (digit_small (levels - 1) k))
          ∙ sym (found_step old levels root k some)
          ∙ ap (λ t. cond t entry (found_from old levels root k)) (sym (agree_step levels k column some ∙ ap (λ t. t && agree (levels - 1) k column) e))

  pub written_found : (new : List (List ℕ)) (n k : ℕ) → n ≡ length mid → new ≡ mid ++ set copy place w ∷ []
      → found_from new levels n k ≡ cond (agree levels k column) entry (found_from old levels root k)
  written_found new n k is e =
      ap (λ m. found_from new levels m k) is ∙ found_new mid new (set copy place w) levels k some e each_there ∙ at_digit k
