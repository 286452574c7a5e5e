-- The bytes written for code units are the only ones that spell them (JVMS 4.4.7).
use Rattle.std.proofs.Common.{◌≡◌, ℕ, suc, ◌+◌, ◌*◌, ◌/◌, ◌%◌, ◌-◌, ◌<◌, ◌≤◌, ◌^◌, List, [], ◌∷◌, length, get_or, Fits, w16, ◌⊎◌, inl, inr, Some, refl, sym, subst, ◌∙◌, ap, arith}
use Rattle.std.specs.Int.{w8}
use Rattle.std.proofs.lemmas.Bool.Decides.{nat_tests}
use Rattle.jm_bytes.specs.Spelling.{IsNumber, IsRun}
use Rattle.jm_class_format.specs.declared.constant_pool.Lead.{Lead}
use Rattle.jm_class_format.specs.declared.constant_pool.Lead.TheVariants.{One, Two, Three}
use Rattle.jm_class_format.specs.ModifiedUtf8.{lead_at, six_bits_of, unit_of_two, unit_of_three, six_bits, unit_after, code_unit, unit_bytes, text_bytes}

-- ---- a byte

pub byte_text : (n : ℕ) → n < 256 → IsNumber w8 (n ∷ []) n
byte_text n lt = (refl, omega arith)

pub is_byte : (bytes : List ℕ) (n : ℕ) → IsNumber w8 bytes n → bytes ≡ n ∷ []
is_byte [] n h = absurd (omega (arith, h.0))
is_byte (b ∷ []) n h = let e : b ≡ n = omega (arith, h.1) in ap (λ (x : ℕ). x ∷ []) e
is_byte (b ∷ c ∷ bs) n h = absurd (omega (arith, h.0))

-- ---- first bytes

pub lead_one : (u : ℕ) → 1 ≤ u → u ≤ 127 → lead_at u ≡ Some (One u)
unfolding lead_at
lead_one u low high = grind (arith, nat_tests)

pub lead_two : (high : ℕ) → high < 32 → lead_at (192 + high) ≡ Some (Two high)
unfolding lead_at
lead_two high small = let e : (192 + high) - 192 ≡ high = omega arith in grind (arith, nat_tests)

pub lead_three : (high : ℕ) → high < 16 → lead_at (224 + high) ≡ Some (Three high)
unfolding lead_at
lead_three high small = let e : (224 + high) - 224 ≡ high = omega arith in grind (arith, nat_tests)

-- what a first byte tells
abbrev pub Tells : ℕ → Lead → Type 0
Tells byte (One u) = (byte ≡ u) × (1 ≤ u) × (u ≤ 127)
Tells byte (Two high) = (byte ≡ 192 + high) × (high < 32)
Tells byte (Three high) = (byte ≡ 224 + high) × (high < 16)

pub lead_tells_one : (byte u : ℕ) → lead_at byte ≡ Some (One u) → Tells byte (One u)
unfolding lead_at
lead_tells_one byte u h = grind (arith, nat_tests)

pub lead_tells_two : (byte u : ℕ) → lead_at byte ≡ Some (Two u) → Tells byte (Two u)
unfolding lead_at
lead_tells_two byte u h = grind (arith, nat_tests)

pub lead_tells_three : (byte u : ℕ) → lead_at byte ≡ Some (Three u) → Tells byte (Three u)
unfolding lead_at
lead_tells_three byte u h = grind (arith, nat_tests)

-- ---- bytes after the first

pub six_text : (low : ℕ) → low < 64 → six_bits.Spells ((128 + low) ∷ []) low
unfolding six_bits six_bits_of
six_text low small =
    let e : (128 + low) - 128 ≡ low = omega arith in
    let is : six_bits_of (128 + low) ≡ Some low = grind (arith, nat_tests) in
    record { front = (128 + low) ∷ []; back = []; value = 128 + low; parts = refl; first = byte_text (128 + low) (omega arith); second = (refl, is) }

pub six_tells : (byte low : ℕ) → six_bits_of byte ≡ Some low → (byte ≡ 128 + low) × (low < 64)
unfolding six_bits_of
six_tells byte low h = grind (arith, nat_tests)

pub six_only : (bytes : List ℕ) (low : ℕ) → six_bits.Spells bytes low → (bytes ≡ (128 + low) ∷ []) × (low < 64)
unfolding six_bits
six_only bytes low h =
    let tells = six_tells h.value low h.second.1 in
    let front : h.front ≡ h.value ∷ [] = is_byte h.front h.value h.first in
    let back : h.back ≡ [] = h.second.0 in
    let whole : bytes ≡ h.value ∷ [] = rw (front, back) at h.parts in
    (whole ∙ ap (λ (b : ℕ). b ∷ []) tells.0, tells.1)

-- ---- code units of two and of three bytes

pub two_is : (high low : ℕ) → ((high * 64 + low ≡ 0) ⊎ (128 ≤ high * 64 + low)) → unit_of_two high low ≡ Some (high * 64 + low)
unfolding unit_of_two
two_is high low h = grind (arith, nat_tests)

pub two_tells : (high low unit : ℕ) → unit_of_two high low ≡ Some unit → (unit ≡ high * 64 + low) × ((unit ≡ 0) ⊎ (128 ≤ unit))
unfolding unit_of_two
two_tells high low unit h = grind (arith, nat_tests)

pub three_is : (high middle low : ℕ) → 2048 ≤ high * 4096 + middle * 64 + low → unit_of_three high middle low ≡ Some (high * 4096 + middle * 64 + low)
unfolding unit_of_three
three_is high middle low h = grind (arith, nat_tests)

pub three_tells : (high middle low unit : ℕ) → unit_of_three high middle low ≡ Some unit → (unit ≡ high * 4096 + middle * 64 + low) × (2048 ≤ unit)
unfolding unit_of_three
three_tells high middle low unit h = grind (arith, nat_tests)

-- ---- what is written

pub one_byte : (u : ℕ) → 1 ≤ u → u ≤ 127 → unit_bytes u ≡ u ∷ []
unfolding unit_bytes
one_byte u low high = grind (arith, nat_tests)

pub two_bytes : (u : ℕ) → ((u ≡ 0) ⊎ (128 ≤ u)) → u ≤ 2047 → unit_bytes u ≡ (192 + u / 64) ∷ (128 + u % 64) ∷ []
unfolding unit_bytes
two_bytes u low high = grind (arith, nat_tests)

pub three_bytes : (u : ℕ) → 2048 ≤ u → unit_bytes u ≡ (224 + u / 4096) ∷ (128 + u / 64 % 64) ∷ (128 + u % 64) ∷ []
unfolding unit_bytes
three_bytes u low = grind (arith, nat_tests)

-- ---- each code unit

pub one_text : (at u : ℕ) → 1 ≤ u → u ≤ 127 → (code_unit at).Spells (u ∷ []) u
unfolding code_unit unit_after
one_text at u low high =
    record {
      front = u ∷ [];
      back = [];
      value = u;
      parts = refl;
      first = byte_text u (omega arith);
      second = record { front = []; back = []; value = One u; parts = refl; first = (refl, lead_one u low high); second = (refl, refl) };
    }

pub two_text : (at high low unit : ℕ) → high < 32 → low < 64 → unit_of_two high low ≡ Some unit → (code_unit at).Spells ((192 + high) ∷ (128 + low) ∷ []) unit
unfolding code_unit unit_after
two_text at high low unit few less is =
    let rest : List ℕ = (128 + low) ∷ [] in
    record {
      front = (192 + high) ∷ [];
      back = rest;
      value = 192 + high;
      parts = refl;
      first = byte_text (192 + high) (omega arith);
      second = record {
        front = [];
        back = rest;
        value = Two high;
        parts = refl;
        first = (refl, lead_two high few);
        second = record { front = rest; back = []; value = low; parts = refl; first = six_text low less; second = (refl, is) };
      };
    }

pub three_text : (at high middle low unit : ℕ) → high < 16 → middle < 64 → low < 64 → unit_of_three high middle low ≡ Some unit → (code_unit at).Spells ((224 + high) ∷ (128 + middle) ∷ (128 + low) ∷ []) unit
unfolding code_unit unit_after
three_text at high middle low unit few fewer less is =
    let last : List ℕ = (128 + low) ∷ [] in
    let rest : List ℕ = (128 + middle) ∷ last in
    record {
      front = (224 + high) ∷ [];
      back = rest;
      value = 224 + high;
      parts = refl;
      first = byte_text (224 + high) (omega arith);
      second = record {
        front = [];
        back = rest;
        value = Three high;
        parts = refl;
        first = (refl, lead_three high few);
        second = record {
          front = (128 + middle) ∷ [];
          back = last;
          value = middle;
          parts = refl;
          first = six_text middle fewer;
          second = record { front = last; back = []; value = low; parts = refl; first = six_text low less; second = (refl, is) };
        };
      };
    }

-- the two middle sizes, told apart
sized : (u : ℕ) → ((1 ≤ u) × (u ≤ 127)) ⊎ ((((u ≡ 0) ⊎ (128 ≤ u)) × (u ≤ 2047)) ⊎ (2048 ≤ u))
sized u = grind arith

pub unit_text : (at u : ℕ) → u < 2 ^ 16 → (code_unit at).Spells (unit_bytes u) u
unit_text at u small =
    let Is : List ℕ → Type 0 = λ bytes. (code_unit at).Spells bytes u in
    elim (sized u) [
      | inl one ↦ subst Is (sym (one_byte u one.0 one.1)) (one_text at u one.0 one.1)
      | inr (inl two) ↦
          let split : u / 64 * 64 + u % 64 ≡ u = omega arith in
          let is : unit_of_two (u / 64) (u % 64) ≡ Some u = rw split at (two_is (u / 64) (u % 64) (rw split two.0)) in
          subst Is (sym (two_bytes u two.0 two.1)) (two_text at (u / 64) (u % 64) u (omega arith) (omega arith) is)
      | inr (inr three) ↦
          let split : u / 4096 * 4096 + u / 64 % 64 * 64 + u % 64 ≡ u = omega arith in
          let is : unit_of_three (u / 4096) (u / 64 % 64) (u % 64) ≡ Some u = rw split at (three_is (u / 4096) (u / 64 % 64) (u % 64) (rw split three)) in
          subst Is (sym (three_bytes u three)) (three_text at (u / 4096) (u / 64 % 64) (u % 64) u (omega arith) (omega arith) (omega arith) is)
    ]

-- the bytes that spell a code unit after its first byte
after_one : (byte u unit : ℕ) (bytes : List ℕ) → lead_at byte ≡ Some (One u) → (unit_after (One u)).Spells bytes unit → byte ∷ bytes ≡ unit_bytes unit
unfolding unit_after
after_one byte u unit bytes is h =
    let tells = lead_tells_one byte u is in
    let same : u ≡ unit = h.1 in
    let low : 1 ≤ unit = omega arith in
    let high : unit ≤ 127 = omega arith in
    let none : bytes ≡ [] = h.0 in
    let here : byte ≡ unit = omega arith in
    rw (none, here) (sym (one_byte unit low high))

after_two : (byte high unit : ℕ) (bytes : List ℕ) → lead_at byte ≡ Some (Two high) → (unit_after (Two high)).Spells bytes unit → byte ∷ bytes ≡ unit_bytes unit
unfolding unit_after
after_two byte high unit bytes is h =
    let tells = lead_tells_two byte high is in
    let six = six_only h.front h.value h.first in
    let two = two_tells high h.value unit h.second.1 in
    let front : h.front ≡ (128 + h.value) ∷ [] = six.0 in
    let back : h.back ≡ [] = h.second.0 in
    let rest : bytes ≡ (128 + h.value) ∷ [] = rw (front, back) at h.parts in
    let first : byte ≡ 192 + unit / 64 = omega arith in
    let last : 128 + h.value ≡ 128 + unit % 64 = omega arith in
    rw (rest, first, last) (sym (two_bytes unit two.1 (omega arith)))

after_three : (byte high unit : ℕ) (bytes : List ℕ) → lead_at byte ≡ Some (Three high) → (unit_after (Three high)).Spells bytes unit → byte ∷ bytes ≡ unit_bytes unit
unfolding unit_after
after_three byte high unit bytes is h =
    let tells = lead_tells_three byte high is in
    let middle = six_only h.front h.value h.first in
    let low = six_only h.second.front h.second.value h.second.first in
    let three = three_tells high h.value h.second.value unit h.second.second.1 in
    let one : h.front ≡ (128 + h.value) ∷ [] = middle.0 in
    let two : h.second.front ≡ (128 + h.second.value) ∷ [] = low.0 in
    let none : h.second.back ≡ [] = h.second.second.0 in
    let back : h.back ≡ (128 + h.second.value) ∷ [] = rw (two, none) at h.second.parts in
    let rest : bytes ≡ (128 + h.value) ∷ (128 + h.second.value) ∷ [] = rw (one, back) at h.parts in
    let first : byte ≡ 224 + unit / 4096 = omega arith in
    let second : 128 + h.value ≡ 128 + unit / 64 % 64 = omega arith in
    let last : 128 + h.second.value ≡ 128 + unit % 64 = omega arith in
    rw (rest, first, second, last) (sym (three_bytes unit three.1))

after_only : (byte unit : ℕ) (lead : Lead) (bytes : List ℕ) → lead_at byte ≡ Some lead → (unit_after lead).Spells bytes unit → byte ∷ bytes ≡ unit_bytes unit
after_only byte unit (One u) bytes is h = after_one byte u unit bytes is h
after_only byte unit (Two high) bytes is h = after_two byte high unit bytes is h
after_only byte unit (Three high) bytes is h = after_three byte high unit bytes is h

pub unit_only : (at unit : ℕ) (bytes : List ℕ) → (code_unit at).Spells bytes unit → bytes ≡ unit_bytes unit
unfolding code_unit
unit_only at unit bytes h =
    let first : h.front ≡ h.value ∷ [] = is_byte h.front h.value h.first in
    let none : h.second.front ≡ [] = h.second.first.0 in
    let rest : h.back ≡ h.second.back = rw none at h.second.parts in
    let whole : bytes ≡ h.value ∷ h.second.back = rw (first, rest) at h.parts in
    whole ∙ after_only h.value unit h.second.value h.second.back h.second.first.1 h.second.second

-- ---- texts

pub text_spelled : (units : List ℕ) (at : ℕ) → ((i : ℕ) → Fits w16 (get_or units i 0)) → IsRun (λ n. (code_unit n).Spells) at units (text_bytes units)
text_spelled [] at fits = refl
text_spelled (u ∷ us) at fits =
    let first : Fits w16 u = fits 0 in
    (unit_bytes u, text_bytes us, refl, unit_text at u (omega (arith, first)), text_spelled us (at + length (unit_bytes u)) (λ i. fits (suc i)))

pub text_only : (units : List ℕ) (at : ℕ) (bytes : List ℕ) → IsRun (λ n. (code_unit n).Spells) at units bytes → bytes ≡ text_bytes units
text_only [] at bytes h = h
text_only (u ∷ us) at bytes h =
    let first : h.0 ≡ unit_bytes u = unit_only at u h.0 h.3 in
    let rest : h.1 ≡ text_bytes us = text_only us (at + length h.0) h.1 h.4 in
    rw (first, rest) at h.2
