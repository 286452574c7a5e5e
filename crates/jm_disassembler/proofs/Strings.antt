-- A string as it is written: its end is found, and its value is that of the code units.
use Rattle.std.proofs.Common.{◌≡◌, ℕ, zero, suc, ◌+◌, ◌*◌, ◌/◌, ◌%◌, ◌<◌, ◌≤◌, ◌^◌, ◌==◌, Bool, true, false, List, [], ◌∷◌, ◌++◌, Some, None, refl}
use Rattle.std.proofs.Common.{ap, sym, ◌∙◌, arith, subst, append_assoc, nat_lt, cond}
use Rattle.std.specs.Fmt.{digits}
use Rattle.std.specs.Str.{IsUtf8, chars}
use Rattle.std.specs.Char.{is_ascii_hexdigit}
use Rattle.std.specs.Char.Escape.{encode_utf16}
use Rattle.std.proofs.lemmas.Str.{chars-nil, chars-append, chars-encodes, IsUtf8-nil, IsUtf8-append, IsUtf8-encode, encode_ascii}
use Rattle.std.proofs.lemmas.List.{append-nil}
use Rattle.std.proofs.lemmas.Bool.Decides.{nat_tests}
use Rattle.std.proofs.Math.Utf8.{encode, scalar, scalars}
use Rattle.jm_program.specs.Surrogates.{is_high, is_low, is_surrogate, character_of}
use Rattle.jm_program.specs.JasminUnits.{is_escaped, escape_text, unit_text, pair_text, lone_text, after_text, step_text, text_from, string_text}
use Rattle.jm_program.specs.declared.jasmin.units.Context.TheVariants.{InString}
use Rattle.jm_class_writer.specs.Ranges.{UnitsInRange}
use Rattle.jm_class_writer.proofs.PartLaws.{all_tail, all_head}
use Rattle.jm_jasmin_lex.specs.Literals.{hexadecimal_value, units_of_literal, Value}
use Rattle.jm_jasmin_lex.specs.Literals.Value.{none as no_value, character, unit}
use Rattle.jm_jasmin_lex.proofs.Strings.{value_of_literal}
use Rattle.jm_disassembler.proofs.Laid.{is_word_byte, Inside}
use Rattle.jm_disassembler.proofs.Laid.Inside.{closing, space, plain, unit as unit_inside}
use Rattle.jm_disassembler.proofs.Spelled.{pair_of, unit_scalar}

-- ---- a digit

record HexDigit (k : ℕ) : Type 0 where
  h : ℕ
  is : digits 16 false k ≡ h ∷ []
  is_hex : is_ascii_hexdigit h ≡ true
  value : hexadecimal_value h ≡ k

hex : (k : ℕ) → k < 16 → HexDigit k
unfolding hexadecimal_value digits
hex zero lt = record { h = 48; is = refl; is_hex = refl; value = refl }
hex (suc zero) lt = record { h = 49; is = refl; is_hex = refl; value = refl }
hex (suc (suc zero)) lt = record { h = 50; is = refl; is_hex = refl; value = refl }
hex (suc (suc (suc zero))) lt = record { h = 51; is = refl; is_hex = refl; value = refl }
hex (suc (suc (suc (suc zero)))) lt = record { h = 52; is = refl; is_hex = refl; value = refl }
hex (suc (suc (suc (suc (suc zero))))) lt = record { h = 53; is = refl; is_hex = refl; value = refl }
hex (suc (suc (suc (suc (suc (suc zero)))))) lt = record { h = 54; is = refl; is_hex = refl; value = refl }
hex (suc (suc (suc (suc (suc (suc (suc zero))))))) lt = record { h = 55; is = refl; is_hex = refl; value = refl }
hex (suc (suc (suc (suc (suc (suc (suc (suc zero)))))))) lt = record { h = 56; is = refl; is_hex = refl; value = refl }
hex (suc (suc (suc (suc (suc (suc (suc (suc (suc zero))))))))) lt = record { h = 57; is = refl; is_hex = refl; value = refl }
hex (suc (suc (suc (suc (suc (suc (suc (suc (suc (suc zero)))))))))) lt = record { h = 97; is = refl; is_hex = refl; value = refl }
hex (suc (suc (suc (suc (suc (suc (suc (suc (suc (suc (suc zero))))))))))) lt = record { h = 98; is = refl; is_hex = refl; value = refl }
hex (suc (suc (suc (suc (suc (suc (suc (suc (suc (suc (suc (suc zero)))))))))))) lt = record { h = 99; is = refl; is_hex = refl; value = refl }
hex (suc (suc (suc (suc (suc (suc (suc (suc (suc (suc (suc (suc (suc zero))))))))))))) lt = record { h = 100; is = refl; is_hex = refl; value = refl }
hex (suc (suc (suc (suc (suc (suc (suc (suc (suc (suc (suc (suc (suc (suc zero)))))))))))))) lt = record { h = 101; is = refl; is_hex = refl; value = refl }
hex (suc (suc (suc (suc (suc (suc (suc (suc (suc (suc (suc (suc (suc (suc (suc zero))))))))))))))) lt = record { h = 102; is = refl; is_hex = refl; value = refl }
hex (suc (suc (suc (suc (suc (suc (suc (suc (suc (suc (suc (suc (suc (suc (suc (suc k)))))))))))))))) lt = absurd (omega arith)

-- ---- a part of a string

-- its characters, which stand for some code units
record Piece (text units : List ℕ) : Type 0 where
  cs : List ℕ
  utf8 : IsUtf8 text
  chars_are : chars text ≡ cs
  value : (more us : List ℕ) → Value more us → Value (cs ++ more) (units ++ us)
  inside : (bs : List ℕ) → Inside bs → Inside (text ++ bs)

no_piece : Piece [] []
no_piece = record { cs = []; utf8 = IsUtf8-nil; chars_are = chars-nil; value = λ more us v. v; inside = λ bs h. h }

then_piece : (a b x y : List ℕ) → Piece a x → Piece b y → Piece (a ++ b) (x ++ y)
then_piece a b x y p q = record {
  cs = p.cs ++ q.cs;
  utf8 = IsUtf8-append a b p.utf8 q.utf8;
  chars_are = rw (chars-append a b p.utf8, p.chars_are, q.chars_are) refl;
  value = λ more us v. both_values more us v;
  inside = λ bs h. subst Inside (sym (append_assoc a b bs)) (p.inside (b ++ bs) (q.inside bs h));
}
  where
    both_values : (more us : List ℕ) → Value more us → Value ((p.cs ++ q.cs) ++ more) ((x ++ y) ++ us)
    both_values more us v =
        let first = p.value (q.cs ++ more) (y ++ us) (q.value more us v) in
        subst (λ (l : List ℕ). Value l ((x ++ y) ++ us)) (sym (append_assoc p.cs q.cs more))
        (subst (λ (l : List ℕ). Value (p.cs ++ (q.cs ++ more)) l) (sym (append_assoc x y us)) first)

-- ---- a character

high_inside : (n k : ℕ) (bs : List ℕ) → 128 ≤ n → Inside bs → Inside ((n + k) ∷ bs)
high_inside n k bs le h =
    let b : ℕ = n + k in
    let w : is_word_byte b ≡ true = byte_of b (omega arith) in
    plain b w (no_quote b (omega arith)) (no_backslash b (omega arith)) h
  where
    byte_of : (b : ℕ) → 128 ≤ b → is_word_byte b ≡ true
    byte_of b le = grind (arith, nat_tests)

    no_quote : (b : ℕ) → 128 ≤ b → (b == 34) ≡ false
    no_quote b le = grind (arith, nat_tests)

    no_backslash : (b : ℕ) → 128 ≤ b → (b == 92) ≡ false
    no_backslash b le = grind (arith, nat_tests)

low_inside : (c : ℕ) (bs : List ℕ) → 32 ≤ c → (c == 34) ≡ false → (c == 92) ≡ false → Inside bs → Inside (c ∷ bs)
low_inside c bs le q s h = by (c == 32) refl
  where
    by : (b : Bool) → (c == 32) ≡ b → Inside (c ∷ bs)
    by true e =
        let is : c ≡ 32 = grind (arith, nat_tests) in
        subst (λ (n : ℕ). Inside (n ∷ bs)) (sym is) (space h)
    by false e = plain c (grind (arith, nat_tests)) q s h

character_inside : (c : ℕ) → 32 ≤ c → (c == 34) ≡ false → (c == 92) ≡ false → (bs : List ℕ) → Inside bs → Inside (encode c ++ bs)
unfolding encode
character_inside c le q s bs h = by (nat_lt c 128) (nat_lt c 2048) (nat_lt c 65536)
  where
    by : (x y z : Bool) → Inside (cond x (c ∷ []) (cond y ((192 + c / 64) ∷ (128 + c % 64) ∷ [])
        (cond z ((224 + c / 4096) ∷ (128 + c / 64 % 64) ∷ (128 + c % 64) ∷ [])
        ((240 + c / 262144) ∷ (128 + c / 4096 % 64) ∷ (128 + c / 64 % 64) ∷ (128 + c % 64) ∷ []))) ++ bs)
    by true y z = low_inside c bs le q s h
    by false true z = high_inside 192 (c / 64) _ (omega arith) (high_inside 128 (c % 64) _ (omega arith) h)
    by false false true =
        high_inside 224 (c / 4096) _ (omega arith) (high_inside 128 (c / 64 % 64) _ (omega arith) (high_inside 128 (c % 64) _ (omega arith) h))
    by false false false =
        high_inside 240 (c / 262144) _ (omega arith) (high_inside 128 (c / 4096 % 64) _ (omega arith) (high_inside 128 (c / 64 % 64) _ (omega arith)
        (high_inside 128 (c % 64) _ (omega arith) h)))

character_piece : (c : ℕ) → scalar c ≡ true → 32 ≤ c → (c == 34) ≡ false → (c == 92) ≡ false → Piece (encode c) (encode_utf16 c)
character_piece c h le q s =
    let all : scalars (c ∷ []) ≡ true = rw h refl in
    record {
      cs = c ∷ [];
      utf8 = IsUtf8-encode c h;
      chars_are = ap chars (sym (append-nil (encode c))) ∙ chars-encodes (c ∷ []) all;
      value = λ more us v. character c q s v;
      inside = λ bs i. character_inside c le q s bs i;
    }

-- ---- an escape

ascii_utf8 : (b : ℕ) → b < 128 → IsUtf8 (b ∷ [])
ascii_utf8 b lt =
    let s : scalar b ≡ true = grind (arith, nat_tests) in
    subst IsUtf8 (encode_ascii b lt) (IsUtf8-encode b s)

ascii_chars : (b : ℕ) → b < 128 → chars (b ∷ []) ≡ b ∷ []
ascii_chars b lt =
    let s : scalar b ≡ true = grind (arith, nat_tests) in
    let all : scalars (b ∷ []) ≡ true = rw s refl in
    ap chars (sym (append-nil (encode b) ∙ encode_ascii b lt)) ∙ chars-encodes (b ∷ []) all

-- the text is of ASCII
record Plain (text : List ℕ) : Type 0 where
  utf8 : IsUtf8 text
  chars_are : chars text ≡ text

plain_none : Plain []
plain_none = record { utf8 = IsUtf8-nil; chars_are = chars-nil }

plain_more : (b : ℕ) (bs : List ℕ) → b < 128 → Plain bs → Plain (b ∷ bs)
plain_more b bs lt p = record {
  utf8 = IsUtf8-append (b ∷ []) bs (ascii_utf8 b lt) p.utf8;
  chars_are = rw (chars-append (b ∷ []) bs (ascii_utf8 b lt), ascii_chars b lt, p.chars_are) refl;
}

hex_small : (h : ℕ) → is_ascii_hexdigit h ≡ true → h < 128
hex_small h e = grind (arith, nat_tests)

escape_piece : (u : ℕ) → u < 2 ^ 16 → Piece (escape_text u) (u ∷ [])
unfolding escape_text
escape_piece u lt =
    let a = hex (u / 4096) (omega arith) in
    let b = hex (u / 256 % 16) (omega arith) in
    let c = hex (u / 16 % 16) (omega arith) in
    let d = hex (u % 16) (omega arith) in
    let text : List ℕ = 92 ∷ 117 ∷ a.h ∷ b.h ∷ c.h ∷ d.h ∷ [] in
    let ascii : Plain text =
    plain_more 92 _ (omega arith) (plain_more 117 _ (omega arith) (plain_more a.h _ (hex_small a.h a.is_hex) (plain_more b.h _ (hex_small b.h b.is_hex)
    (plain_more c.h _ (hex_small c.h c.is_hex) (plain_more d.h _ (hex_small d.h d.is_hex) plain_none))))) in
    let sum : ((hexadecimal_value a.h * 16 + hexadecimal_value b.h) * 16 + hexadecimal_value c.h) * 16 + hexadecimal_value d.h ≡ u =
    rw (a.value, b.value, c.value, d.value) (omega arith) in
    rw (a.is, b.is, c.is, d.is) (record {
      cs = text;
      utf8 = ascii.utf8;
      chars_are = ascii.chars_are;
      value = λ more us v. subst (λ (n : ℕ). Value (text ++ more) (n ∷ us)) sum (unit a.h b.h c.h d.h v);
      inside = λ bs i. unit_inside a.h b.h c.h d.h a.is_hex b.is_hex c.is_hex d.is_hex i;
    })

-- ---- code units

plain_piece : (u : ℕ) → u < 2 ^ 16 → is_escaped InString u ≡ false → Piece (encode u) (u ∷ [])
plain_piece u lt h =
    let surrogate : is_surrogate u ≡ false = grind (arith, nat_tests) in
    let least : 32 ≤ u = grind (arith, nat_tests) in
    let quote : (u == 34) ≡ false = grind (arith, nat_tests) in
    let backslash : (u == 92) ≡ false = grind (arith, nat_tests) in
    let s = unit_scalar u lt surrogate in
    subst (λ (us : List ℕ). Piece (encode u) us) s.1 (character_piece u s.0 least quote backslash)

unit_by : (u : ℕ) → u < 2 ^ 16 → (b : Bool) → is_escaped InString u ≡ b → Piece (unit_text InString u) (u ∷ [])
unfolding unit_text
unit_by u lt true e = rw e (escape_piece u lt)
unit_by u lt false e = rw e (plain_piece u lt e)

unit_piece : (u : ℕ) → u < 2 ^ 16 → Piece (unit_text InString u) (u ∷ [])
unit_piece u lt = unit_by u lt (is_escaped InString u) refl

pair_piece : (high low : ℕ) → is_high high ≡ true → is_low low ≡ true → Piece (pair_text high low) (high ∷ low ∷ [])
unfolding pair_text
pair_piece high low h l =
    let p = pair_of high low h l in
    let c : ℕ = character_of high low in
    let above : 0x1_0000 ≤ c = p.above in
    let quote : (c == 34) ≡ false = grind (arith, nat_tests) in
    let backslash : (c == 92) ≡ false = grind (arith, nat_tests) in
    subst (λ (us : List ℕ). Piece (encode c) us) p.units (character_piece c p.is_scalar (omega arith) quote backslash)

-- the units behind none that waits, or behind a first half
abbrev FromNone : List ℕ → Type 0
FromNone us = Piece (text_from InString None us) us

abbrev FromHigh : List ℕ → Type 0
FromHigh us = (high : ℕ) → high < 2 ^ 16 → is_high high ≡ true → Piece (text_from InString (Some high) us) (high ∷ us)

none_by : (u : ℕ) (us : List ℕ) → u < 2 ^ 16 → FromNone us → FromHigh us → (b : Bool) → is_high u ≡ b → FromNone (u ∷ us)
unfolding text_from step_text after_text lone_text
none_by u us lt none high true e = rw e (high u lt e)
none_by u us lt none high false e = rw e (then_piece (unit_text InString u) (text_from InString None us) (u ∷ []) us (unit_piece u lt) none)

high_by : (u : ℕ) (us : List ℕ) → u < 2 ^ 16 → FromNone us → FromHigh us → (b c : Bool) → is_high u ≡ b → is_low u ≡ c → FromHigh (u ∷ us)
unfolding text_from step_text after_text lone_text
high_by u us lt none more true c e f high le h =
    rw e (then_piece (escape_text high) (text_from InString (Some u) us) (high ∷ []) (u ∷ us) (escape_piece high le) (more u lt e))
high_by u us lt none more false true e f high le h =
    rw (e, f) (then_piece (pair_text high u) (text_from InString None us) (high ∷ u ∷ []) us (pair_piece high u h f) none)
high_by u us lt none more false false e f high le h =
    rw (e, f) (then_piece (escape_text high ++ unit_text InString u) (text_from InString None us) (high ∷ u ∷ []) us
    (then_piece (escape_text high) (unit_text InString u) (high ∷ []) (u ∷ []) (escape_piece high le) (unit_piece u lt)) none)

both_from : (us : List ℕ) → UnitsInRange us → FromNone us × FromHigh us
unfolding text_from lone_text
both_from [] all = (no_piece, λ high le h. escape_piece high le)
both_from (u ∷ us) all =
    let r = both_from us (all_tail (λ (x : ℕ). x < 2 ^ 16) u us all) in
    let lt = all_head (λ (x : ℕ). x < 2 ^ 16) u us all in
    (none_by u us lt r.0 r.1 (is_high u) refl, high_by u us lt r.0 r.1 (is_high u) (is_low u) refl refl)

string_piece : (units : List ℕ) → UnitsInRange units → Piece (string_text units) units
string_piece units all = (both_from units all).0

-- ---- the string

pub string_inside : (units : List ℕ) → UnitsInRange units → Inside (string_text units ++ 34 ∷ [])
string_inside units all = (string_piece units all).inside (34 ∷ []) closing

pub string_value : (units : List ℕ) → UnitsInRange units → units_of_literal (34 ∷ (string_text units ++ 34 ∷ [])) ≡ units
string_value units all =
    let p = string_piece units all in
    let text : List ℕ = string_text units in
    let quote : IsUtf8 (34 ∷ []) = ascii_utf8 34 (omega arith) in
    let one : chars (34 ∷ []) ≡ 34 ∷ [] = ascii_chars 34 (omega arith) in
    let back : chars (text ++ 34 ∷ []) ≡ p.cs ++ 34 ∷ [] = rw (chars-append text (34 ∷ []) p.utf8, p.chars_are, one) refl in
    let all_chars : chars (34 ∷ (text ++ 34 ∷ [])) ≡ 34 ∷ (p.cs ++ 34 ∷ []) =
    chars-append (34 ∷ []) (text ++ 34 ∷ []) quote ∙ rw (one, back) refl in
    let value : Value p.cs units = subst (λ (cs : List ℕ). Value cs units) (append-nil p.cs)
    (subst (λ (us : List ℕ). Value (p.cs ++ []) us) (append-nil units) (p.value [] [] no_value)) in
    value_of_literal (34 ∷ (text ++ 34 ∷ [])) p.cs units all_chars value
