-- A tree of two: the entries of the first, and of the second where it has none.
use Rattle.std.proofs.Common.{◌≡◌, ◌≢◌, ℕ, zero, suc, ◌+◌, ◌-◌, ◌<◌, List, length, get_or, refl, sym, ◌∙◌, ap, subst, arith, below_more, set}
use Rattle.std.proofs.Common.{get_or-set_same, get_or-set_other}
use Rattle.jm_tables.specs.Nodes.{digit_at, child_of, found_from, IsThere, IsLonger, or_entry}
use Rattle.jm_tables.proofs.NodeLaws.{digit_small, there_after, found_after, there_step, found_step}

pub or_same : (a : ℕ) → or_entry a a ≡ a
or_same zero = refl
or_same (suc a) = refl

pub or_none : (a : ℕ) → or_entry a 0 ≡ a
or_none zero = refl
or_none (suc a) = refl

pub or_some : (a b : ℕ) → a ≢ 0 → or_entry a b ≡ a
or_some zero b h = absurd (h refl)
or_some (suc a) b h = refl

-- what the entries of a node are at each digit, the whole tree is
pub both_found : (old now : List (List ℕ)) (levels first second : ℕ) (above below both : List ℕ) → levels ≢ 0
    → ((d : ℕ) → get_or above d 0 ≡ child_of old first d) → ((d : ℕ) → get_or below d 0 ≡ child_of old second d)
    → ((d : ℕ) → d < 16 → (k : ℕ) → found_from now (levels - 1) (get_or both d 0) k ≡ or_entry (found_from old (levels - 1) (get_or above d 0) k)
    (found_from old (levels - 1) (get_or below d 0) k))
    → (k : ℕ) → found_from now (levels - 1) (get_or both (digit_at (levels - 1) k) 0) k ≡ or_entry (found_from old levels first k)
    (found_from old levels second k)
both_found old now levels first second above below both some a b h k =
    let d : ℕ = digit_at (levels - 1) k in
    h d (digit_small (levels - 1) k) k
    ∙ ap (λ n. or_entry n (found_from old (levels - 1) (get_or below d 0) k))
    (ap (λ n. found_from old (levels - 1) n k) (a d) ∙ sym (found_step old levels first k some))
    ∙ ap (λ n. or_entry (found_from old levels first k) n) (ap (λ n. found_from old (levels - 1) n k) (b d) ∙ sym (found_step old levels second k some))

-- an entry of a node that was copied, in what was there and in what is there since
pub entry_there : (old now : List (List ℕ)) (node : List ℕ) (levels root d : ℕ) → levels ≢ 0 → IsLonger old now → IsThere old levels root
    → ((i : ℕ) → get_or node i 0 ≡ child_of old root i) → d < 16
    → IsThere old (levels - 1) (get_or node d 0) × IsThere now (levels - 1) (get_or node d 0)
entry_there old now node levels root d some longer there entries small =
    let below : IsThere old (levels - 1) (get_or node d 0) = subst (IsThere old (levels - 1)) (sym (entries d))
    (there_step old levels root d some there small) in
    (below, there_after old now (levels - 1) (get_or node d 0) longer below)

-- one more entry
pub each_there_more : (now next : List (List ℕ)) (level digit w : ℕ) (both : List ℕ) → IsLonger now next → digit < length both → IsThere next level w
    → ((d : ℕ) → d < digit → IsThere now level (get_or both d 0))
    → (d : ℕ) → d < digit + 1 → IsThere next level (get_or (set both digit w) d 0)
each_there_more now next level digit w both longer within there was =
    below_more (λ d. IsThere next level (get_or (set both digit w) d 0)) digit
    (λ d less. let ne : d ≢ digit = omega arith in subst (IsThere next level) (sym (get_or-set_other both digit d w 0 ne))
    (there_after now next level (get_or both d 0) longer (was d less)))
    (subst (IsThere next level) (sym (get_or-set_same both digit w 0 within)) there)

pub each_found_more : (old now next : List (List ℕ)) (level digit w : ℕ) (above below both : List ℕ) → IsLonger old now → IsLonger now next
    → digit < length both
    → IsThere old level (get_or above digit 0) → IsThere old level (get_or below digit 0) → ((d : ℕ) → d < digit → IsThere now level (get_or both d 0))
    → ((k : ℕ) → found_from next level w k ≡ or_entry (found_from now level (get_or above digit 0) k) (found_from now level (get_or below digit 0) k))
    → ((d : ℕ) → d < digit → (k : ℕ) → found_from now level (get_or both d 0) k ≡ or_entry (found_from old level (get_or above d 0) k)
    (found_from old level (get_or below d 0) k))
    → (d : ℕ) → d < digit + 1 → (k : ℕ) → found_from next level (get_or (set both digit w) d 0) k ≡ or_entry (found_from old level (get_or above d 0) k)
    (found_from old level (get_or below d 0) k)
each_found_more old now next level digit w above below both longer more within a b there found was =
    below_more (λ d. (k : ℕ) → found_from next level (get_or (set both digit w) d 0) k ≡ or_entry (found_from old level (get_or above d 0) k)
    (found_from old level (get_or below d 0) k)) digit
    (λ d less k. let ne : d ≢ digit = omega arith in
    ap (λ n. found_from next level n k) (get_or-set_other both digit d w 0 ne) ∙ found_after now next level (get_or both d 0) k more (there d less)
    ∙ was d less k)
    (λ k. ap (λ n. found_from next level n k) (get_or-set_same both digit w 0 within) ∙ found k
    ∙ ap (λ n. or_entry n (found_from now level (get_or below digit 0) k)) (found_after old now level (get_or above digit 0) k longer a)
    ∙ ap (λ n. or_entry (found_from old level (get_or above digit 0) k) n) (found_after old now level (get_or below digit 0) k longer b))

-- a node of both that is the first one
pub same_found : (old now : List (List ℕ)) (levels first second : ℕ) (above below both : List ℕ) → levels ≢ 0 → IsLonger old now → IsThere old levels first
    → both ≡ above
    → ((d : ℕ) → get_or above d 0 ≡ child_of old first d) → ((d : ℕ) → get_or below d 0 ≡ child_of old second d)
    → ((d : ℕ) → d < 16 → (k : ℕ) → found_from now (levels - 1) (get_or both d 0) k ≡ or_entry (found_from old (levels - 1) (get_or above d 0) k)
    (found_from old (levels - 1) (get_or below d 0) k))
    → (k : ℕ) → found_from now levels first k ≡ or_entry (found_from old levels first k) (found_from old levels second k)
same_found old now levels first second above below both some longer there same a b h k =
    let d : ℕ = digit_at (levels - 1) k in
    let below_there = entry_there old now above levels first d some longer there a (digit_small (levels - 1) k) in
    found_after old now levels first k longer there ∙ found_step old levels first k some ∙ ap (λ n. found_from old (levels - 1) n k) (sym (a d))
    ∙ sym (found_after old now (levels - 1) (get_or above d 0) k longer below_there.0) ∙ ap (λ xs. found_from now (levels - 1) (get_or xs d 0) k) (sym same)
    ∙ both_found old now levels first second above below both some a b h k
