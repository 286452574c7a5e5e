-- The first position of a test in a list with one element more, and the table of starts with one instruction more.
use Rattle.std.proofs.Common.{◌≡◌, ℕ, suc, ◌+◌, ◌<◌, Bool, true, false, not, cond, nat_lt, List, [], ◌∷◌, ◌++◌, length, take, get_or, replicate, Option, Some, None, ◌==◌, refl, sym, ap, ◌∙◌, arith, length-take-le}
use Rattle.std.specs.Option.{option_map}
use Rattle.std.specs.List.{position, position_or_len}
use Rattle.std.proofs.lemmas.List.{take_more, get_or-replicate, get_or_past, length-replicate}
use Rattle.jm_opcodes.specs.StartTable.{IsTable, Notes, noted}

-- the number that an element more is found at, if none was before
abbrev pub found : Bool → ℕ → Option ℕ → Option ℕ
found b n None = cond b (Some n) None
found b n (Some i) = Some i

one_further : (k n : ℕ) → cond (nat_lt (1 + k) (suc n)) (Some (1 + k)) None ≡ option_map suc (cond (nat_lt k n) (Some k) None)
one_further k n = grind arith

position-cons : {X : Type 0} (p : X → Bool) (x : X) (xs : List X) → position p (x ∷ xs) ≡ cond (p x) (Some 0) (option_map suc (position p xs))
position-cons p x xs =
    let k : ℕ = position_or_len p xs in
    let n : ℕ = length xs in
    elim (p x) as (λ b. cond (nat_lt (cond (not b) (1 + k) 0) (suc n)) (Some (cond (not b) (1 + k) 0)) None ≡ cond b (Some 0) (option_map suc (cond (nat_lt k n) (Some k) None))) [
      | true ↦ grind arith
      | false ↦ one_further k n
    ]

found-suc : (b : Bool) (n : ℕ) (o : Option ℕ) → option_map suc (found b n o) ≡ found b (suc n) (option_map suc o)
found-suc b n (Some i) = refl
found-suc true n None = refl
found-suc false n None = refl

pub position-snoc : {X : Type 0} (p : X → Bool) (xs : List X) (y : X) → position p (xs ++ y ∷ []) ≡ found (p y) (length xs) (position p xs)
position-snoc p [] y = position-cons p y []
position-snoc {X} p (x ∷ xs) y =
    let further : option_map suc (position p (xs ++ y ∷ [])) ≡ found (p y) (suc (length xs)) (option_map suc (position p xs)) =
    ap (option_map suc) (position-snoc p xs y) ∙ found-suc (p y) (length xs) (position p xs) in
    let cases : (b : Bool) → cond b (Some 0) (option_map suc (position p (xs ++ y ∷ []))) ≡ found (p y) (suc (length xs)) (cond b (Some 0) (option_map suc (position p xs))) = λ b.
    elim b as (λ b. cond b (Some 0) (option_map suc (position p (xs ++ y ∷ []))) ≡ found (p y) (suc (length xs)) (cond b (Some 0) (option_map suc (position p xs)))) [ true ↦ refl | false ↦ further ] in
    position-cons p x (xs ++ y ∷ []) ∙ cases (p x) ∙ ap (found (p y) (suc (length xs))) (sym (position-cons p x xs))

noted-found : (start number offset : ℕ) (o : Option ℕ) → noted start number offset o ≡ found (start == offset) number o
noted-found start number offset None = refl
noted-found start number offset (Some i) = refl

pub table_more : (old new : List (Option ℕ)) (starts : List ℕ) (i start : ℕ) → i < length starts → start ≡ get_or starts i 0 → IsTable old (take i starts) → Notes old new start i → IsTable new (take (i + 1) starts)
table_more old new starts i start lt is table notes offset =
    let p : ℕ → Bool = λ s. s == offset in
    let more : take (i + 1) starts ≡ take i starts ++ start ∷ [] = take_more starts i 0 lt ∙ ap (λ (s : ℕ). take i starts ++ s ∷ []) (sym is) in
    let len : length (take i starts) ≡ i = length-take-le i starts (omega arith) in
    let now : position p (take (i + 1) starts) ≡ found (start == offset) i (position p (take i starts)) =
    ap (position p) more ∙ position-snoc p (take i starts) start ∙ ap (λ (n : ℕ). found (start == offset) n (position p (take i starts))) len in
    notes offset ∙ noted-found start i offset (get_or old offset None) ∙ ap (found (start == offset) i) (table offset) ∙ sym now

-- a table with no number yet
pub nothing_noted : (n offset : ℕ) → get_or {A = Option ℕ} (replicate n None) offset None ≡ None
nothing_noted n offset = grind (get_or-replicate, get_or_past, length-replicate, arith)
