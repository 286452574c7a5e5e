-- The code units of a word: none is a blank, a tab or a line feed, and the first is neither ; nor ".
use Rattle.std.proofs.Common.{◌≡◌, ℕ, ◌+◌, ◌-◌, ◌/◌, ◌%◌, ◌<◌, ◌≤◌, Bool, true, false, ◌&&◌, cond, nat_lt, nat_le, List, [], ◌∷◌, ◌++◌, refl, sym, ap, subst, ◌∙◌, arith, codes}
use Rattle.std.specs.List.{list_all, flat_map}
use Rattle.std.specs.Str.{IsUtf8, chars}
use Rattle.std.specs.Char.Escape.{encode_utf16}
use Rattle.std.proofs.lemmas.Str.{encodes-chars, scalars-chars}
use Rattle.std.proofs.lemmas.Bool.{and_from, ltb-true, ltb-false, lt-ltb, le-leb}
use Rattle.std.proofs.lemmas.Bool.Decides.{nat_tests}
use Rattle.std.proofs.lemmas.List.Folds.{list_all-append}
use Rattle.std.proofs.Math.Utf8.{encode, encodes, scalar, scalars}
use Rattle.jm_program.specs.Names.{same_text}
use Rattle.jm_program.specs.Surrogates.{is_high, is_low}
use Rattle.jm_program.specs.Texts.{utf16_of}
use Rattle.jm_program.proofs.Texts.{text_is, text_itself}
use Rattle.jm_program.proofs.Truths.{both_true, all_pass}
use Rattle.jm_disassembler.specs.TextClasses.{is_word_unit, begins_word, are_paired, is_word_part, is_word_name}
use Rattle.jm_disassembler.proofs.TextTokens.{IsWordText}

-- ---- a character

large_unit : (n : ℕ) → 128 ≤ n → is_word_unit n ≡ true
large_unit n le = grind (arith, nat_tests)

large_begins : (n : ℕ) (ns : List ℕ) → 128 ≤ n → begins_word (n ∷ ns) ≡ true
large_begins n ns le = grind (arith, nat_tests)

-- the first unit of a pair, and the second
abbrev high_of : ℕ → ℕ
high_of c = 0xD800 + (c - 0x1_0000) / 0x400

abbrev low_of : ℕ → ℕ
low_of c = 0xDC00 + (c - 0x1_0000) % 0x400

large_high : (c : ℕ) → 128 ≤ high_of c
large_high c = omega arith

large_low : (c : ℕ) → 128 ≤ low_of c
large_low c = omega arith

ascii_encode : (c : ℕ) → nat_lt c 128 ≡ true → encode c ≡ c ∷ []
unfolding encode
ascii_encode c e = rw e refl

units_by : (c : ℕ) (ascii short : Bool) → nat_lt c 128 ≡ ascii → (ascii ≡ true → is_word_unit c ≡ true) → list_all is_word_unit (cond short (c ∷ []) (high_of c ∷ low_of c ∷ [])) ≡ true
units_by c true true e h = and_from (is_word_unit c) true (h refl) refl
units_by c false true e h = and_from (is_word_unit c) true (large_unit c (ltb-false c 128 e)) refl
units_by c ascii false e h =
    and_from (is_word_unit (high_of c)) (is_word_unit (low_of c) && true) (large_unit (high_of c) (large_high c))
    (and_from (is_word_unit (low_of c)) true (large_unit (low_of c) (large_low c)) refl)

character_units : (c : ℕ) → list_all is_word_unit (encode c) ≡ true → list_all is_word_unit (encode_utf16 c) ≡ true
character_units c h =
    units_by c (nat_lt c 128) (nat_lt c 0x1_0000) refl
    (λ e. (both_true (is_word_unit c) true (subst (λ (xs : List ℕ). list_all is_word_unit xs ≡ true) (ascii_encode c e) h)).0)

begins_by : (c : ℕ) (rest : List ℕ) (ascii short : Bool) → nat_lt c 128 ≡ ascii → (ascii ≡ true → begins_word (c ∷ []) ≡ true)
    → begins_word (cond short (c ∷ []) (high_of c ∷ low_of c ∷ []) ++ rest) ≡ true
begins_by c rest true true e h = h refl
begins_by c rest false true e h = large_begins c rest (ltb-false c 128 e)
begins_by c rest ascii false e h = large_begins (high_of c) (low_of c ∷ rest) (large_high c)

-- ---- characters

all_units : (cs : List ℕ) → list_all is_word_unit (encodes cs) ≡ true → list_all is_word_unit (flat_map encode_utf16 cs) ≡ true
all_units [] h = refl
all_units (c ∷ cs) h =
    let p = both_true (list_all is_word_unit (encode c)) (list_all is_word_unit (encodes cs)) (sym (list_all-append is_word_unit (encode c) (encodes cs)) ∙ h) in
    all_pass is_word_unit (encode_utf16 c) (flat_map encode_utf16 cs) (character_units c p.0) (all_units cs p.1)

all_begin : (cs : List ℕ) → begins_word (encodes cs) ≡ true → begins_word (flat_map encode_utf16 cs) ≡ true
all_begin [] h = absurd cc
all_begin (c ∷ cs) h =
    begins_by c (flat_map encode_utf16 cs) (nat_lt c 128) (nat_lt c 0x1_0000) refl
    (λ e. subst (λ (xs : List ℕ). begins_word (xs ++ encodes cs) ≡ true) (ascii_encode c e) h)

-- ---- pairs

no_high : (c : ℕ) → scalar c ≡ true → is_high c ≡ false
no_high c h = grind (arith, nat_tests)

no_low : (c : ℕ) → scalar c ≡ true → is_low c ≡ false
no_low c h = grind (arith, nat_tests)

few : (c : ℕ) → scalar c ≡ true → c < 0x11_0000
few c h = grind (arith, nat_tests)

long : (c : ℕ) → nat_lt c 0x1_0000 ≡ false → 0x1_0000 ≤ c
long c h = ltb-false c 0x1_0000 h

high_is : (c : ℕ) → 0x1_0000 ≤ c → c < 0x11_0000 → is_high (high_of c) ≡ true
high_is c least most =
    let low : 0xD800 ≤ high_of c = omega arith in
    let top : high_of c < 0xDC00 = omega arith in
    and_from (nat_le 0xD800 (high_of c)) (nat_lt (high_of c) 0xDC00) (le-leb 0xD800 (high_of c) low) (lt-ltb (high_of c) 0xDC00 top)

low_is : (c : ℕ) → is_low (low_of c) ≡ true
low_is c =
    let low : 0xDC00 ≤ low_of c = omega arith in
    let top : low_of c < 0xE000 = omega arith in
    and_from (nat_le 0xDC00 (low_of c)) (nat_lt (low_of c) 0xE000) (le-leb 0xDC00 (low_of c) low) (lt-ltb (low_of c) 0xE000 top)

paired_by : (c : ℕ) (rest : List ℕ) (short : Bool) → nat_lt c 0x1_0000 ≡ short → scalar c ≡ true → are_paired false rest ≡ true
    → are_paired false (cond short (c ∷ []) (high_of c ∷ low_of c ∷ []) ++ rest) ≡ true
paired_by c rest true e h k = rw (no_high c h, no_low c h) k
paired_by c rest false e h k = rw (high_is c (long c e) (few c h), low_is c) k

all_paired : (cs : List ℕ) → scalars cs ≡ true → are_paired false (flat_map encode_utf16 cs) ≡ true
all_paired [] h = refl
all_paired (c ∷ cs) h =
    let p = both_true (scalar c) (scalars cs) h in
    paired_by c (flat_map encode_utf16 cs) (nat_lt c 0x1_0000) refl p.0 (all_paired cs p.1)

-- a word is a name of its kind
pub word_name : (text : List ℕ) → IsWordText text → is_word_name (utf16_of text) ≡ true
word_name text w =
    let same = sym (encodes-chars text w.utf8) in
    and_from (begins_word (utf16_of text)) (is_word_part (utf16_of text))
    (all_begin (chars text) (subst (λ (t : List ℕ). begins_word t ≡ true) same w.begins))
    (and_from (list_all is_word_unit (utf16_of text)) (are_paired false (utf16_of text))
    (all_units (chars text) (subst (λ (t : List ℕ). list_all is_word_unit t ≡ true) same w.bytes))
    (all_paired (chars text) (scalars-chars text w.utf8)))

-- ---- a word that is known

abbrev is_small : ℕ → Bool
is_small a = nat_lt a 128

not_small : (c a : ℕ) → high_of c ≡ a → is_small a ≡ true → ⊥
not_small c a same small = let lt = ltb-true a 128 small in let large = large_high c in omega (arith, same, lt, large)

characters_by : (c : ℕ) (cs rest known : List ℕ) (short : Bool) → list_all is_small known ≡ true → (cond short (c ∷ []) (high_of c ∷ low_of c ∷ []) ++ rest) ≡ known
    → ((more : List ℕ) → list_all is_small more ≡ true → rest ≡ more → cs ≡ more) → c ∷ cs ≡ known
characters_by c cs rest [] true h e next = absurd cc
characters_by c cs rest [] false h e next = absurd cc
characters_by c cs rest (a ∷ known) true h e next =
    let first : c ≡ a = cc in
    let others : rest ≡ known = cc in
    ap (λ (x : ℕ). x ∷ cs) first ∙ ap (λ (xs : List ℕ). a ∷ xs) (next known (both_true (is_small a) (list_all is_small known) h).1 others)
characters_by c cs rest (a ∷ known) false h e next =
    let first : high_of c ≡ a = cc in
    absurd (not_small c a first (both_true (is_small a) (list_all is_small known) h).0)

known_characters : (cs known : List ℕ) → list_all is_small known ≡ true → flat_map encode_utf16 cs ≡ known → cs ≡ known
known_characters [] known h e = e
known_characters (c ∷ cs) known h e = characters_by c cs (flat_map encode_utf16 cs) known (nat_lt c 0x1_0000) h e (λ more small same. known_characters cs more small same)

known_text : (text known : List ℕ) → IsUtf8 text → list_all is_small known ≡ true → encodes known ≡ known → utf16_of text ≡ known → text ≡ known
known_text text known utf8 small bytes e = sym (encodes-chars text utf8) ∙ ap encodes (known_characters (chars text) known small e) ∙ bytes

other_by : (b : Bool) (text known : List ℕ) → same_text (utf16_of text) known ≡ b → (same_text (utf16_of text) known ≡ true → text ≡ known) → same_text text known ≡ false → b ≡ false
other_by true text known is same h =
    let own : same_text known known ≡ false = subst (λ (t : List ℕ). same_text t known ≡ false) (same is) h in
    absurd (cc (own, text_itself known))
other_by false text known is same h = refl

other_text : (text known : List ℕ) → IsUtf8 text → list_all is_small known ≡ true → encodes known ≡ known → same_text text known ≡ false → same_text (utf16_of text) known ≡ false
other_text text known utf8 small bytes h =
    other_by (same_text (utf16_of text) known) text known refl (λ e. known_text text known utf8 small bytes (text_is (utf16_of text) known e)) h

-- where a word is not =, its units are not
pub not_equals : (text : List ℕ) → IsUtf8 text → same_text text (codes "=") ≡ false → same_text (utf16_of text) (codes "=") ≡ false
unfolding encode
not_equals text utf8 h = other_text text (codes "=") utf8 refl refl h

pub not_all : (text : List ℕ) → IsUtf8 text → same_text text (codes "all") ≡ false → same_text (utf16_of text) (codes "all") ≡ false
unfolding encode
not_all text utf8 h = other_text text (codes "all") utf8 refl refl h
