-- Labels as words: where each is used and where each stands.
use Rattle.std.proofs.Common.{◌≡◌, ℕ, ◌+◌, ◌-◌, ◌<◌, ◌^◌, ◌==◌, Bool, true, false, List, [], ◌∷◌, ◌++◌, length, refl}
use Rattle.std.proofs.Common.{ap, sym, ◌∙◌, arith, nat_lt}
use Rattle.std.specs.Prelude.{slice_index}
use Rattle.std.specs.List.{list_all, list_any}
use Rattle.std.specs.Fmt.{decimal}
use Rattle.std.specs.Str.Parse.{digits_value}
use Rattle.std.proofs.lemmas.Fmt.{decimal_is_IsNumeral}
use Rattle.std.proofs.lemmas.Bool.{eq-eqb, and_from}
use Rattle.std.proofs.lemmas.Bool.Decides.{nat_tests}
use Rattle.std.proofs.Math.Seq.{take-append_seam}
use Rattle.std.proofs.Common.{length-append}
use Rattle.jm_program.specs.Names.{same_text}
use Rattle.jm_program.specs.Texts.{utf16_of}
use Rattle.jm_program.proofs.Texts.{text_is}
use Rattle.jm_program.proofs.Truths.{both_true}
use Rattle.jm_jasmin_ops.specs.Profile.{is_signed, is_signed_digits, is_offset, is_colon, has_colon}
use Rattle.jm_jasmin.specs.Items.{ends_with_colon, without_last}
use Rattle.jm_jasmin.specs.InstructionForms.{IsLabelName}
use Rattle.jm_disassembler.specs.Labels.{label_name, label_word}
use Rattle.jm_disassembler.proofs.Laid.{is_word}
use Rattle.jm_disassembler.proofs.Spelled.{Spelled, then_spelled}
use Rattle.jm_disassembler.proofs.Types.{byte_spelled}
use Rattle.jm_disassembler.proofs.Numbers.{is_decimal, decimal_is, decimal_spelled}

pub name_of_label : (n : ℕ) → n < 2 ^ 64 → Spelled (label_name n) (label_name n)
name_of_label n lt = then_spelled (76 ∷ []) (decimal n) (76 ∷ []) (decimal n) (byte_spelled 76 refl) (decimal_spelled n lt)

pub name_word : (n : ℕ) → n < 2 ^ 64 → is_word (label_name n) ≡ true
name_word n lt = (name_of_label n lt).bytes

no_colon : (ds : List ℕ) → list_all is_decimal ds ≡ true → list_any is_colon ds ≡ false
no_colon [] h = refl
no_colon (b ∷ bs) h =
    let p = both_true (is_decimal b) (list_all is_decimal bs) h in
    let first : is_decimal b ≡ true = p.0 in
    let no : (b == 58) ≡ false = grind (arith, nat_tests) in
    rw no (no_colon bs p.1)

pub is_label_name : (n : ℕ) → n < 2 ^ 64 → IsLabelName (label_name n)
unfolding is_offset is_signed_digits is_signed has_colon
is_label_name n lt = record { no_offset = refl; no_colon = no_colon (decimal n) (decimal_is n lt).decimals }

-- ---- the label's own line

pub word_of_label : (n : ℕ) → n < 2 ^ 64 → Spelled (label_word n) (label_word n)
word_of_label n lt = then_spelled (label_name n) (58 ∷ []) (label_name n) (58 ∷ []) (name_of_label n lt) (byte_spelled 58 refl)

pub label_is_word : (n : ℕ) → n < 2 ^ 64 → is_word (label_word n) ≡ true
label_is_word n lt = (word_of_label n lt).bytes

last_is : (bs : List ℕ) (b : ℕ) → slice_index (bs ++ b ∷ []) (length bs) ≡ b
last_is [] b = refl
last_is (c ∷ bs) b = last_is bs b

pub label_ends : (n : ℕ) → ends_with_colon (label_word n) ≡ true
label_ends n =
    let size : length (label_word n) ≡ length (label_name n) + 1 = length-append (label_name n) (58 ∷ []) in
    let at : length (label_word n) - 1 ≡ length (label_name n) = omega (arith, size) in
    let long : nat_lt 1 (length (label_word n)) ≡ true = more (length (label_word n)) (omega (arith, size)) in
    and_from (nat_lt 1 (length (label_word n))) (slice_index (label_word n) (length (label_word n) - 1) == 58) long
    (rw (at, last_is (label_name n) 58) refl)
  where
    more : (k : ℕ) → 1 < k → nat_lt 1 k ≡ true
    more k lt = grind (arith, nat_tests)

pub label_is : (n : ℕ) → n < 2 ^ 64 → without_last (utf16_of (label_word n)) ≡ label_name n
unfolding without_last
label_is n lt =
    let size : length (label_word n) ≡ length (label_name n) + 1 = length-append (label_name n) (58 ∷ []) in
    let at : length (label_word n) - 1 ≡ length (label_name n) = omega (arith, size) in
    rw ((word_of_label n lt).units_are, at) (take-append_seam (label_name n) (58 ∷ []))

-- ---- no two labels have one name

one_number : (m n : ℕ) → m < 2 ^ 64 → n < 2 ^ 64 → decimal m ≡ decimal n → m ≡ n
one_number m n p q e = sym (decimal_is_IsNumeral m p).1 ∙ ap (digits_value 10) e ∙ (decimal_is_IsNumeral n q).1

behind_first : (m n : ℕ) → label_name m ≡ label_name n → decimal m ≡ decimal n
behind_first m n e = cc

pub other_label : (m n : ℕ) → m < 2 ^ 64 → n < 2 ^ 64 → (m == n) ≡ false → same_text (label_name m) (label_name n) ≡ false
other_label m n p q other = by (same_text (label_name m) (label_name n)) refl
  where
    by : (b : Bool) → same_text (label_name m) (label_name n) ≡ b → b ≡ false
    by true e =
        let same : m ≡ n = one_number m n p q (behind_first m n (text_is (label_name m) (label_name n) e)) in
        let yes : (m == n) ≡ true = eq-eqb m n same in
        absurd (cc (yes, other))
    by false e = refl
