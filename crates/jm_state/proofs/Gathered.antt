-- Places as far as they are gathered, and put back.
use Rattle.std.proofs.Common.{◌≡◌, ℕ, zero, suc, ◌+◌, ◌-◌, ◌<◌, ◌≤◌, List, [], ◌∷◌, ◌++◌, length, drop, get_or, set, refl, sym, ap, ◌∙◌, arith, append_assoc}
use Rattle.std.specs.Prelude.{reverse, map, flat_map}
use Rattle.std.proofs.lemmas.List.{append-nil, drop_more, drop_all, get_or-reverse, length-reverse, length-map, map-set}
use Rattle.jm_values.specs.Shape.{Shape}
use Rattle.jm_frames.proofs.Refilled.{IsOnTheWay, goes_on}

-- the references of what is left are still to be added
pub record IsGathered {A : Type 0} (refs : A → List ℕ) (whole : List A) (start : List ℕ) (i : ℕ) (now : List ℕ) : Type 0 where
  pub same : now ++ flat_map refs (drop i whole) ≡ start ++ flat_map refs whole

pub gathers_more : {A : Type 0} (refs : A → List ℕ) (whole : List A) (start : List ℕ) (i : ℕ) (now more : List ℕ) (x : A) → i < length whole
    → x ≡ get_or whole i x → IsGathered refs whole start i now → more ≡ now ++ refs x → IsGathered refs whole start (i + 1) more
gathers_more refs whole start i now more x lt at g e = record {
  same = ap (λ l. l ++ flat_map refs (drop (i + 1) whole)) (e ∙ ap (λ v. now ++ refs v) at)
      ∙ append_assoc now (refs (get_or whole i x)) (flat_map refs (drop (i + 1) whole))
      ∙ ap (λ l. now ++ flat_map refs l) (sym (drop_more whole i x lt))
      ∙ g.same;
}

-- the same from the end of a list
pub gathers_more_from_end : {A : Type 0} (refs : A → List ℕ) (whole : List A) (start : List ℕ) (d n : ℕ) (now more : List ℕ) (x : A) → n ≡ length whole → d < n
    → x ≡ get_or whole (n - 1 - d) x → IsGathered refs (reverse whole) start d now → more ≡ now ++ refs x → IsGathered refs (reverse whole) start (d + 1) more
gathers_more_from_end refs whole start d n now more x long lt at g e =
    let same : get_or whole (n - 1 - d) x ≡ get_or (reverse whole) d x =
    ap (λ m. get_or whole (m - 1 - d) x) long ∙ sym (get_or-reverse whole d x (omega arith)) in
    gathers_more refs (reverse whole) start d now more x (omega (arith, length-reverse whole)) (at ∙ same) g e

pub all_gathered : {A : Type 0} (refs : A → List ℕ) (whole : List A) (start : List ℕ) (i : ℕ) (now : List ℕ) → length whole ≤ i
    → IsGathered refs whole start i now → now ≡ start ++ flat_map refs whole
all_gathered refs whole start i now h g =
    sym (append-nil now) ∙ ap (λ l. now ++ flat_map refs l) (sym (drop_all i whole h)) ∙ g.same

pub gathered_mapped : {A B : Type 0} (refs : B → List ℕ) (part : A → B) (xs : List A) → flat_map (λ x. refs (part x)) xs ≡ flat_map refs (map part xs)
gathered_mapped refs part [] = refl
gathered_mapped refs part (x ∷ xs) = ap (λ l. refs (part x) ++ l) (gathered_mapped refs part xs)

-- a list that is written, as it is seen by parts
get_part : {A B : Type 0} (part : A → B) (xs : List A) (i : ℕ) (x : A) → get_or (map part xs) i (part x) ≡ part (get_or xs i x)
get_part part [] i x = refl
get_part part (y ∷ xs) zero x = refl
get_part part (y ∷ xs) (suc i) x = get_part part xs i x

pub goes_on_in_parts : {A B : Type 0} (s : Shape B) (part : A → B) (whole : List B) (places : List ℕ) (i : ℕ) (now : List A) (left more : List ℕ) (x y : A)
    → i < length now → x ≡ get_or now i x → IsOnTheWay s whole places i (map part now) left → part y ≡ s.refill left (part (get_or now i x))
    → more ≡ drop (length (s.refs (part (get_or now i x)))) left → IsOnTheWay s whole places (i + 1) (map part (set now i y)) more
goes_on_in_parts s part whole places i now left more x y lt at on ys ms =
    rw (map-set part now i y) (goes_on s whole places i (map part now) left more (part x) (part y)
    (omega (arith, length-map now part))
    (ap part at ∙ sym (get_part part now i x))
    on (ys ∙ ap (λ v. s.refill left (part v)) (sym at)) (ms ∙ ap (λ v. drop (length (s.refs (part v))) left) (sym at)))
