-- A target that is written is read as the offset at which its instruction begins, and that offset has the instruction's number.
use Rattle.std.proofs.Common.{◌≡◌, ℕ, zero, suc, ◌<◌, ◌≤◌, Bool, true, false, cond, List, [], ◌∷◌, length, get_or, Some, Ok, Err, refl, sym, ap, subst, ◌∙◌, arith}
use Rattle.std.specs.Prelude.{ℤ, pos, negsuc, ◌+ℤ◌, ◌-ℤ◌, int_le, ◌&&◌, FitsSigned, slice_get, ◌==◌}
use Rattle.std.specs.Option.{ok_or}
use Rattle.std.specs.List.{position_or_len}
use Rattle.std.specs.Int.{w16, w32}
use Rattle.std.proofs.lemmas.Int.{ints}
use Rattle.std.proofs.lemmas.Bool.{leb-true, lt-ltb}
use Rattle.std.proofs.lemmas.Bool.Decides.{nat_tests}
use Rattle.std.proofs.lemmas.Option.{slice_get_within, get_or_from_slice_get}
use Rattle.jm_bytes.specs.Reading.{and_then}
use Rattle.jm_bytes.specs.Laws.{and_then_ok, ok_or_ok, same_Ok}
use Rattle.jm_bytes.specs.Writing.{signed_bytes}
use Rattle.jm_bytes.proofs.Spelled.{s2_text, s4_text}
use Rattle.jm_class_format.specs.Instructions.{offset_of, target_from, near_target, far_target}
use Rattle.jm_class_format.specs.Code.{number_of}
use Rattle.jm_encode.specs.declared.fault.EncodeFault.{EncodeFault}
use Rattle.jm_encode.specs.declared.fault.EncodeFault.TheVariants as fault
use Rattle.jm_encode.specs.Encoding.{distance, in_16_bits, near_text, far_text}

-- the offset of the instruction of a number
abbrev pub offset_in : List ℕ → ℕ → ℕ
offset_in starts target = get_or starts target 0

-- the offsets of a code, one above the other and none above 65,535
pub record AreStarts (starts : List ℕ) : Type 0 where
  pub rising : (i j : ℕ) → i < j → j < length starts → offset_in starts i < offset_in starts j
  pub low : (i : ℕ) → i < length starts → offset_in starts i ≤ 65535

-- ---- distances

distance_ok : (starts : List ℕ) (at target : ℕ) (jump : ℤ) → distance starts at target ≡ Ok jump → (target < length starts) × (jump ≡ pos (offset_in starts target) -ℤ pos at)
unfolding distance
distance_ok starts at target jump h =
    let a = and_then_ok (ok_or (slice_get starts target) fault.BadTarget) (λ start. Ok (pos start -ℤ pos at)) jump h in
    let got : slice_get starts target ≡ Some a.0 = ok_or_ok (slice_get starts target) fault.BadTarget a.0 a.1 in
    let is : get_or starts target 0 ≡ a.0 = get_or_from_slice_get starts target a.0 0 got in
    let value : pos a.0 -ℤ pos at ≡ jump = same_Ok {F = EncodeFault} (pos a.0 -ℤ pos at) jump a.2 in
    (slice_get_within starts target a.0 got, sym value ∙ ap (λ (n : ℕ). pos n -ℤ pos at) (sym is))

there : (at start : ℕ) → target_from at (pos start -ℤ pos at) ≡ start
unfolding target_from offset_of
there at start =
    let back : pos at +ℤ (pos start -ℤ pos at) ≡ pos start = omega (arith, ints) in
    ap offset_of back

fits_16 : (z : ℤ) → (int_le (negsuc 32767) z && int_le z (pos 32767)) ≡ true → FitsSigned w16 z
fits_16 (pos n) h = let le : n ≤ 32767 = leb-true n 32767 h in record { sfits = omega arith }
fits_16 (negsuc n) h = let le : n ≤ 32767 = grind (arith, nat_tests) in record { sfits = omega arith }

in_16_bits_ok : (z y : ℤ) → in_16_bits z ≡ Ok y → (z ≡ y) × FitsSigned w16 z
unfolding in_16_bits
in_16_bits_ok z y h =
    (elim (int_le (negsuc 32767) z && int_le z (pos 32767)) as (λ b. ((int_le (negsuc 32767) z && int_le z (pos 32767)) ≡ b) → cond b (Ok z) (Err fault.BranchTooFar) ≡ Ok y → (z ≡ y) × FitsSigned w16 z) [
      | true ↦ λ e k. (same_Ok {F = EncodeFault} z y k, fits_16 z e)
      | false ↦ λ e k. absurd cc
    ]) refl h

pub fits_32 : (a b : ℕ) → a ≤ 65535 → b ≤ 65535 → FitsSigned w32 (pos a -ℤ pos b)
fits_32 a b h k = omega (arith, ints)

-- ---- what is written

pub near_is : (starts : List ℕ) (at target : ℕ) (text : List ℕ) → near_text starts at target ≡ Ok text
    → (target < length starts) × (length text ≡ 2) × (near_target at).Spells text (offset_in starts target)
unfolding near_text near_target
near_is starts at target text h =
    let a = and_then_ok (distance starts at target) (λ jump. and_then (in_16_bits jump) (λ jump. Ok (signed_bytes w16 jump))) text h in
    let b = and_then_ok (in_16_bits a.0) (λ jump. Ok (signed_bytes w16 jump)) text a.2 in
    let d = distance_ok starts at target a.0 a.1 in
    let near = in_16_bits_ok a.0 b.0 b.1 in
    let jump : b.0 ≡ pos (offset_in starts target) -ℤ pos at = sym near.0 ∙ d.1 in
    let fits : FitsSigned w16 b.0 = subst (FitsSigned w16) near.0 near.1 in
    let reads : target_from at b.0 ≡ offset_in starts target = ap (target_from at) jump ∙ there at (offset_in starts target) in
    let is : signed_bytes w16 b.0 ≡ text = same_Ok {F = EncodeFault} (signed_bytes w16 b.0) text b.2 in
    let P : List ℕ → Type 0 = λ t. (target < length starts) × (length t ≡ 2) × (near_target at).Spells t (offset_in starts target) in
    subst P is (d.0, refl, record { front = signed_bytes w16 b.0; back = []; value = b.0; parts = refl; first = s2_text b.0 fits; second = (refl, reads) })

pub far_is : (starts : List ℕ) (at target : ℕ) (text : List ℕ) → AreStarts starts → at ≤ 65535 → far_text starts at target ≡ Ok text
    → (target < length starts) × (length text ≡ 4) × (far_target at).Spells text (offset_in starts target)
unfolding far_text far_target
far_is starts at target text good low h =
    let a = and_then_ok (distance starts at target) (λ jump. Ok (signed_bytes w32 jump)) text h in
    let d = distance_ok starts at target a.0 a.1 in
    let fits : FitsSigned w32 a.0 = subst (FitsSigned w32) (sym d.1) (fits_32 (offset_in starts target) at (good.low target d.0) low) in
    let reads : target_from at a.0 ≡ offset_in starts target = ap (target_from at) d.1 ∙ there at (offset_in starts target) in
    let is : signed_bytes w32 a.0 ≡ text = same_Ok {F = EncodeFault} (signed_bytes w32 a.0) text a.2 in
    let P : List ℕ → Type 0 = λ t. (target < length starts) × (length t ≡ 4) × (far_target at).Spells t (offset_in starts target) in
    subst P is (d.0, refl, record { front = signed_bytes w32 a.0; back = []; value = a.0; parts = refl; first = s4_text a.0 fits; second = (refl, reads) })

-- ---- the number at an offset

first_place : (p : ℕ → Bool) (xs : List ℕ) (n : ℕ) → n < length xs → p (get_or xs n 0) ≡ true → ((k : ℕ) → k < n → p (get_or xs k 0) ≡ false) → position_or_len p xs ≡ n
first_place p [] n lt here before = absurd (omega arith)
first_place p (x ∷ xs) zero lt here before = rw here refl
first_place p (x ∷ xs) (suc n) lt here before =
    let not_here : p x ≡ false = before 0 (omega arith) in
    let further : position_or_len p xs ≡ n = first_place p xs n (omega arith) here (λ k less. before (suc k) (omega arith)) in
    rw not_here (omega arith)

pub number_there : (starts : List ℕ) (target : ℕ) → AreStarts starts → target < length starts → number_of starts (offset_in starts target) ≡ Ok target
unfolding number_of
number_there starts target good lt =
    let p : ℕ → Bool = λ start. start == offset_in starts target in
    let place : position_or_len p starts ≡ target = first_place p starts target lt (grind (arith, nat_tests)) (λ k less. let below : offset_in starts k < offset_in starts target = good.rising k target less lt in grind (arith, nat_tests)) in
    rw place (rw (lt-ltb target (length starts) lt) refl)
