-- What is written of a text is written of no other.
use Rattle.std.proofs.Common.{◌≡◌, ◌≢◌, ◌<◌, ◌≤◌, ℕ, ◌+◌, ◌/◌, ◌%◌, List, [], ◌∷◌, ◌++◌, refl, sym, ◌∙◌, arith, subst, append_assoc}
use Rattle.std.specs.Prelude.{Bool, true, false, ◌&&◌, not, nat_lt, nat_le, nat_eq, if◌then◌else◌}
use Rattle.std.specs.List.{flat_map}
use Rattle.std.proofs.Math.Nat.{div-add-mod}
use Rattle.std.proofs.lemmas.Bool.{ltb-true, ltb-false}
use Rattle.jm_page.specs.Escapes.{hex_digit, is_plain, escaped_byte, escaped, joined_byte, joined}

-- ---- bytes

begin_otherwise : (x y : ℕ) (u v : List ℕ) → x ≢ y → x ∷ u ≡ y ∷ v → ⊥
begin_otherwise x y u v other e = other cc

one_digit : (m n : ℕ) (a b : Bool) → nat_lt m 10 ≡ a → nat_lt n 10 ≡ b → (if a then 48 + m else 55 + m) ≡ (if b then 48 + n else 55 + n) → m ≡ n
one_digit m n true true a b e = omega arith
one_digit m n true false a b e = let low : m < 10 = ltb-true m 10 a in let high : 10 ≤ n = ltb-false n 10 b in absurd (omega arith)
one_digit m n false true a b e = let high : 10 ≤ m = ltb-false m 10 a in let low : n < 10 = ltb-true n 10 b in absurd (omega arith)
one_digit m n false false a b e = omega arith

one_hex : (m n : ℕ) → hex_digit m ≡ hex_digit n → m ≡ n
one_hex m n e = one_digit m n (nat_lt m 10) (nat_lt n 10) refl refl e

from_digits : (x y : ℕ) → x / 16 ≡ y / 16 → x % 16 ≡ y % 16 → x ≡ y
from_digits x y high low = sym (div-add-mod x 16) ∙ rw (high, low) (div-add-mod y 16)

plain_is_no_backslash : (x : ℕ) → is_plain x ≡ true → x ≢ 92
plain_is_no_backslash x plain is = let no : false ≡ true = subst (λ y. is_plain y ≡ true) is plain in absurd cc

by_plain : (x y : ℕ) (u v : List ℕ) (p q : Bool) → is_plain x ≡ p → is_plain y ≡ q
    → (if p then x ∷ [] else 92 ∷ 117 ∷ 48 ∷ 48 ∷ hex_digit (x / 16) ∷ hex_digit (x % 16) ∷ []) ++ u
    ≡ (if q then y ∷ [] else 92 ∷ 117 ∷ 48 ∷ 48 ∷ hex_digit (y / 16) ∷ hex_digit (y % 16) ∷ []) ++ v
    → (x ≡ y) × (u ≡ v)
by_plain x y u v true true a b e = (cc, cc)
by_plain x y u v true false a b e = absurd (plain_is_no_backslash x a cc)
by_plain x y u v false true a b e = absurd (plain_is_no_backslash y b cc)
by_plain x y u v false false a b e =
    let high : hex_digit (x / 16) ≡ hex_digit (y / 16) = cc in
    let low : hex_digit (x % 16) ≡ hex_digit (y % 16) = cc in
    (from_digits x y (one_hex (x / 16) (y / 16) high) (one_hex (x % 16) (y % 16) low), cc)

one_escaped_byte : (x y : ℕ) (u v : List ℕ) → escaped_byte x ++ u ≡ escaped_byte y ++ v → (x ≡ y) × (u ≡ v)
unfolding escaped_byte
one_escaped_byte x y u v e = by_plain x y u v (is_plain x) (is_plain y) refl refl e

-- what ends a text begins no byte of it
plain_is_no_control : (x t : ℕ) → t < 32 → is_plain x ≡ true → x ≢ t
plain_is_no_control x t low plain is = let least : (nat_le 32 x && not (nat_eq x 60) && not (nat_eq x 92)) ≡ true = plain in grind (arith)

not_begun_by : (y t : ℕ) (u v : List ℕ) (q : Bool) → t < 32 → is_plain y ≡ q
    → (if q then y ∷ [] else 92 ∷ 117 ∷ 48 ∷ 48 ∷ hex_digit (y / 16) ∷ hex_digit (y % 16) ∷ []) ++ u ≡ t ∷ v → ⊥
not_begun_by y t u v true low b e = plain_is_no_control y t low b cc
not_begun_by y t u v false low b e = let is : 92 ≡ t = cc in omega arith

no_control_begins : (t : ℕ) → t < 32 → (y : ℕ) (u v : List ℕ) → escaped_byte y ++ u ≡ t ∷ v → ⊥
unfolding escaped_byte
no_control_begins t low y u v e = not_begun_by y t u v (is_plain y) low refl e

by_feed : (x y : ℕ) (u v : List ℕ) (p q : Bool) → nat_eq x 10 ≡ p → nat_eq y 10 ≡ q
    → (if p then 9 ∷ [] else escaped_byte x) ++ u ≡ (if q then 9 ∷ [] else escaped_byte y) ++ v → (x ≡ y) × (u ≡ v)
by_feed x y u v true true a b e = (grind (arith), cc)
by_feed x y u v true false a b e = absurd (no_control_begins 9 (omega arith) y v u (sym e))
by_feed x y u v false true a b e = absurd (no_control_begins 9 (omega arith) x u v e)
by_feed x y u v false false a b e = one_escaped_byte x y u v e

one_joined_byte : (x y : ℕ) (u v : List ℕ) → joined_byte x ++ u ≡ joined_byte y ++ v → (x ≡ y) × (u ≡ v)
unfolding joined_byte
one_joined_byte x y u v e = by_feed x y u v (nat_eq x 10) (nat_eq y 10) refl refl e

no_feed_by : (y : ℕ) (u v : List ℕ) (q : Bool) → (if q then 9 ∷ [] else escaped_byte y) ++ u ≡ 10 ∷ v → ⊥
no_feed_by y u v true e = begin_otherwise 9 10 u v (λ is. omega arith) e
no_feed_by y u v false e = no_control_begins 10 (omega arith) y u v e

no_feed_begins : (y : ℕ) (u v : List ℕ) → joined_byte y ++ u ≡ 10 ∷ v → ⊥
unfolding joined_byte
no_feed_begins y u v e = no_feed_by y u v (nat_eq y 10) e

-- ---- texts, up to what ends them

one_text : (f : ℕ → List ℕ) (t : ℕ) → ((x y : ℕ) (u v : List ℕ) → f x ++ u ≡ f y ++ v → (x ≡ y) × (u ≡ v))
    → ((y : ℕ) (u v : List ℕ) → f y ++ u ≡ t ∷ v → ⊥) → (a b u v : List ℕ) → flat_map f a ++ t ∷ u ≡ flat_map f b ++ t ∷ v → (a ≡ b) × (u ≡ v)
one_text f t one ends [] [] u v e = (refl, cc)
one_text f t one ends [] (y ∷ b) u v e = absurd (ends y (flat_map f b ++ t ∷ v) u (sym (append_assoc (f y) (flat_map f b) (t ∷ v)) ∙ sym e))
one_text f t one ends (x ∷ a) [] u v e = absurd (ends x (flat_map f a ++ t ∷ u) v (sym (append_assoc (f x) (flat_map f a) (t ∷ u)) ∙ e))
one_text f t one ends (x ∷ a) (y ∷ b) u v e =
    let first = one x y (flat_map f a ++ t ∷ u) (flat_map f b ++ t ∷ v)
    (sym (append_assoc (f x) (flat_map f a) (t ∷ u)) ∙ e ∙ append_assoc (f y) (flat_map f b) (t ∷ v)) in
    let rest = one_text f t one ends a b u v first.1 in
    let head : x ≡ y = first.0 in
    let tail : a ≡ b = rest.0 in
    (cc, rest.1)

pub one_escaped : (t : ℕ) → t < 32 → (a b u v : List ℕ) → escaped a ++ t ∷ u ≡ escaped b ++ t ∷ v → (a ≡ b) × (u ≡ v)
one_escaped t low = one_text escaped_byte t one_escaped_byte (no_control_begins t low)

pub one_joined : (a b u v : List ℕ) → joined a ++ 10 ∷ u ≡ joined b ++ 10 ∷ v → (a ≡ b) × (u ≡ v)
one_joined = one_text joined_byte 10 one_joined_byte no_feed_begins
