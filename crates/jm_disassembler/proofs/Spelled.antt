-- The texts of names and types as words: their bytes, and the code units that are read of them.
use Rattle.std.proofs.Common.{◌≡◌, ℕ, ◌+◌, ◌-◌, ◌*◌, ◌/◌, ◌%◌, ◌<◌, ◌≤◌, ◌^◌, Bool, true, false, not, ◌&&◌, List, [], ◌∷◌, ◌++◌, Some, None, refl}
use Rattle.std.proofs.Common.{ap, sym, ◌∙◌, arith, subst, nat_lt, cond}
use Rattle.std.specs.List.{list_all}
use Rattle.std.specs.Str.{IsUtf8, chars}
use Rattle.std.specs.Char.Escape.{encode_utf16}
use Rattle.std.proofs.lemmas.Str.{chars-nil, chars-append, chars-encodes, IsUtf8-nil, IsUtf8-append, IsUtf8-encode}
use Rattle.std.proofs.lemmas.List.{append-nil}
use Rattle.std.proofs.lemmas.List.Folds.{list_all-append}
use Rattle.std.proofs.lemmas.Grind.{flat_map-append}
use Rattle.std.proofs.lemmas.Bool.Decides.{nat_tests}
use Rattle.std.proofs.lemmas.Nat.{div-mul-add, mod-mul-add}
use Rattle.std.proofs.Math.Utf8.{encode, scalar, scalars}
use Rattle.jm_program.specs.Texts.{utf16_of}
use Rattle.jm_program.specs.Surrogates.{is_high, is_low, is_surrogate, character_of}
use Rattle.jm_program.specs.JasminUnits.{is_escaped, unit_text, pair_text, lone_text, after_text, step_text, text_from, name_text}
use Rattle.jm_program.specs.declared.jasmin.units.Context.TheVariants.{InName}
use Rattle.jm_program.proofs.Truths.{both_true, not_true}
use Rattle.jm_class_writer.specs.Ranges.{UnitsInRange}
use Rattle.jm_class_writer.proofs.PartLaws.{all_tail, all_head}
use Rattle.std.specs.Prelude.{if◌then◌else◌}
use Rattle.jm_disassembler.specs.Names.{is_unit, is_plain_unit, plain_from, is_plain}
use Rattle.jm_disassembler.proofs.Laid.{is_word_byte}

pub record Spelled (text units : List ℕ) : Type 0 where
  pub utf8 : IsUtf8 text
  pub units_are : utf16_of text ≡ units
  pub bytes : list_all is_word_byte text ≡ true

pub nothing_spelled : Spelled [] []
nothing_spelled = record { utf8 = IsUtf8-nil; units_are = rw chars-nil refl; bytes = refl }

pub then_spelled : (a b x y : List ℕ) → Spelled a x → Spelled b y → Spelled (a ++ b) (x ++ y)
then_spelled a b x y p q = record {
  utf8 = IsUtf8-append a b p.utf8 q.utf8;
  units_are = rw (chars-append a b p.utf8, flat_map-append encode_utf16 (chars a) (chars b), p.units_are, q.units_are) refl;
  bytes = rw (list_all-append is_word_byte a b, p.bytes, q.bytes) refl;
}

-- ---- characters

high_byte : (b : ℕ) → 128 ≤ b → is_word_byte b ≡ true
high_byte b le = grind (arith, nat_tests)

encode_bytes : (c : ℕ) → is_word_byte c ≡ true → list_all is_word_byte (encode c) ≡ true
unfolding encode
encode_bytes c h = by (nat_lt c 128) (nat_lt c 2048) (nat_lt c 65536)
  where
    above : (n k : ℕ) → 128 ≤ n → is_word_byte (n + k) ≡ true
    above n k le = high_byte (n + k) (omega arith)

    by : (x y z : Bool) → list_all is_word_byte (cond x (c ∷ []) (cond y ((192 + c / 64) ∷ (128 + c % 64) ∷ [])
        (cond z ((224 + c / 4096) ∷ (128 + c / 64 % 64) ∷ (128 + c % 64) ∷ [])
        ((240 + c / 262144) ∷ (128 + c / 4096 % 64) ∷ (128 + c / 64 % 64) ∷ (128 + c % 64) ∷ [])))) ≡ true
    by true y z = rw h refl
    by false true z = rw (above 192 (c / 64) (omega arith), above 128 (c % 64) (omega arith)) refl
    by false false true = rw (above 224 (c / 4096) (omega arith), above 128 (c / 64 % 64) (omega arith), above 128 (c % 64) (omega arith)) refl
    by false false false =
        rw (above 240 (c / 262144) (omega arith), above 128 (c / 4096 % 64) (omega arith), above 128 (c / 64 % 64) (omega arith), above 128 (c % 64) (omega arith)) refl

pub character_spelled : (c : ℕ) → scalar c ≡ true → is_word_byte c ≡ true → Spelled (encode c) (encode_utf16 c)
character_spelled c h w =
    let all : scalars (c ∷ []) ≡ true = rw h refl in
    let one : chars (encode c) ≡ c ∷ [] = ap chars (sym (append-nil (encode c))) ∙ chars-encodes (c ∷ []) all in
    record { utf8 = IsUtf8-encode c h; units_are = rw one (append-nil (encode_utf16 c)); bytes = encode_bytes c w }

-- ---- names

unit_spelled : (u : ℕ) → u < 2 ^ 16 → is_escaped InName u ≡ false → Spelled (encode u) (u ∷ [])
unit_spelled u lt h =
    let s : scalar u ≡ true = grind (arith, nat_tests) in
    let w : is_word_byte u ≡ true = grind (arith, nat_tests) in
    let short : nat_lt u 0x1_0000 ≡ true = grind (arith, nat_tests) in
    let one : encode_utf16 u ≡ u ∷ [] = rw short refl in
    subst (λ (us : List ℕ). Spelled (encode u) us) one (character_spelled u s w)

pub not_high : (u : ℕ) → is_low u ≡ true → is_high u ≡ false
not_high u h = grind (arith, nat_tests)

pub unit_scalar : (u : ℕ) → u < 2 ^ 16 → is_surrogate u ≡ false → (scalar u ≡ true) × (encode_utf16 u ≡ u ∷ [])
unit_scalar u lt h =
    let s : scalar u ≡ true = grind (arith, nat_tests) in
    let short : nat_lt u 0x1_0000 ≡ true = grind (arith, nat_tests) in
    let one : encode_utf16 u ≡ u ∷ [] = rw short refl in
    (s, one)

-- the character of a pair
pub record IsPair (high low : ℕ) : Type 0 where
  pub is_scalar : scalar (character_of high low) ≡ true
  pub above : 0x1_0000 ≤ character_of high low
  pub units : encode_utf16 (character_of high low) ≡ high ∷ low ∷ []

pub pair_of : (high low : ℕ) → is_high high ≡ true → is_low low ≡ true → IsPair high low
pair_of high low h l =
    let a : 0xD800 ≤ high = grind (arith, nat_tests) in
    let b : high < 0xDC00 = grind (arith, nat_tests) in
    let d : 0xDC00 ≤ low = grind (arith, nat_tests) in
    let e : low < 0xE000 = grind (arith, nat_tests) in
    let c : ℕ = character_of high low in
    let within : low - 0xDC00 < 0x400 = omega arith in
    let least : 0x1_0000 ≤ c = omega arith in
    let most : c < 0x11_0000 = omega arith in
    let s : scalar c ≡ true = scalar_above c least most in
    let long : nat_lt c 0x1_0000 ≡ false = grind (arith, nat_tests) in
    let rest : c - 0x1_0000 ≡ (high - 0xD800) * 0x400 + (low - 0xDC00) = omega arith in
    let first : 0xD800 + (c - 0x1_0000) / 0x400 ≡ high = rw (rest, div-mul-add (high - 0xD800) 0x400 (low - 0xDC00) within) (omega arith) in
    let second : 0xDC00 + (c - 0x1_0000) % 0x400 ≡ low = rw (rest, mod-mul-add (high - 0xD800) 0x400 (low - 0xDC00) within) (omega arith) in
    let two : encode_utf16 c ≡ high ∷ low ∷ [] = both c high low long first second in
    record { is_scalar = s; above = least; units = two }
  where
    scalar_above : (c : ℕ) → 0x1_0000 ≤ c → c < 0x11_0000 → scalar c ≡ true
    scalar_above c p q = grind (arith, nat_tests)

    both : (c high low : ℕ) → nat_lt c 0x1_0000 ≡ false → 0xD800 + (c - 0x1_0000) / 0x400 ≡ high → 0xDC00 + (c - 0x1_0000) % 0x400 ≡ low
        → encode_utf16 c ≡ high ∷ low ∷ []
    both c high low f p q = rw (f, p, q) refl

pair_spelled : (high low : ℕ) → is_high high ≡ true → is_low low ≡ true → Spelled (encode (character_of high low)) (high ∷ low ∷ [])
pair_spelled high low h l =
    let p = pair_of high low h l in
    let c : ℕ = character_of high low in
    let above : 0x1_0000 ≤ c = p.above in
    let w : is_word_byte c ≡ true = high_byte c (omega arith) in
    subst (λ (us : List ℕ). Spelled (encode c) us) p.units (character_spelled c p.is_scalar w)

abbrev FromNone : List ℕ → Type 0
FromNone us = plain_from false us ≡ true → UnitsInRange us → Spelled (text_from InName None us) us

-- behind a first half of a pair
abbrev FromHigh : List ℕ → Type 0
FromHigh us = (high : ℕ) → is_high high ≡ true → plain_from true us ≡ true → UnitsInRange us → Spelled (text_from InName (Some high) us) (high ∷ us)

pub first_of_two : (b x y : Bool) → b ≡ true → (if b then x else y) ≡ true → x ≡ true
first_of_two true x y e h = h
first_of_two false x y e h = absurd cc

pub second_of_two : (b x y : Bool) → b ≡ false → (if b then x else y) ≡ true → y ≡ true
second_of_two true x y e h = absurd cc
second_of_two false x y e h = h

pub step_none : (u : ℕ) (us : List ℕ) → is_high u ≡ false → text_from InName None (u ∷ us) ≡ unit_text InName u ++ text_from InName None us
unfolding text_from step_text after_text
step_none u us e = rw e refl

pub unit_plain : (u : ℕ) → is_escaped InName u ≡ false → unit_text InName u ≡ encode u
unfolding unit_text
unit_plain u h = rw h refl

none_by : (u : ℕ) (us : List ℕ) → FromNone us → FromHigh us → (b : Bool) → is_high u ≡ b → FromNone (u ∷ us)
unfolding text_from step_text after_text unit_text lone_text
none_by u us none high true e h all =
    rw e (high u e (first_of_two (is_high u) (plain_from true us) (is_plain_unit u && plain_from false us) e h) (all_tail (λ (x : ℕ). x < 2 ^ 16) u us all))
none_by u us none high false e h all =
    let q = both_true (is_plain_unit u) (plain_from false us)
    (second_of_two (is_high u) (plain_from true us) (is_plain_unit u && plain_from false us) e h) in
    let p = both_true (not (is_escaped InName u)) (is_unit u) q.0 in
    let here : not (is_escaped InName u) ≡ true = p.0 in
    let plain : is_escaped InName u ≡ false = not_true (is_escaped InName u) here in
    let all_of : text_from InName None (u ∷ us) ≡ encode u ++ text_from InName None us =
    step_none u us e ∙ ap (λ (t : List ℕ). t ++ text_from InName None us) (unit_plain u plain) in
    subst (λ (t : List ℕ). Spelled t (u ∷ us)) (sym all_of) (then_spelled (encode u) (text_from InName None us) (u ∷ []) us (unit_spelled u (all_head (λ (x : ℕ). x < 2 ^ 16) u us all) plain) (none q.1 (all_tail (λ (x : ℕ). x < 2 ^ 16) u us all)))

high_by : (u : ℕ) (us : List ℕ) → FromNone us → FromHigh (u ∷ us)
unfolding text_from step_text after_text pair_text
high_by u us none high e h all =
    let p = both_true (is_low u) (plain_from false us) h in
    let low : is_low u ≡ true = p.0 in
    let no : is_high u ≡ false = not_high u low in
    rw (no, low) (then_spelled (encode (character_of high u)) (text_from InName None us) (high ∷ u ∷ []) us (pair_spelled high u e low) (none p.1 (all_tail (λ (x : ℕ). x < 2 ^ 16) u us all)))

both_from : (us : List ℕ) → FromNone us × FromHigh us
unfolding text_from lone_text
both_from [] = (λ h all. nothing_spelled, λ high e h all. absurd (cc h))
both_from (u ∷ us) =
    let r = both_from us in
    (none_by u us r.0 r.1 (is_high u) refl, high_by u us r.0)

pub name_spelled : (name : List ℕ) → is_plain name ≡ true → UnitsInRange name → Spelled (name_text name) name
name_spelled name h all = (both_from name).0 h all
