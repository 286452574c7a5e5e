-- Names, types and references are words, and they are read as what they are.
use Rattle.std.proofs.Common.{◌≡◌, ℕ, zero, suc, ◌+◌, ◌-◌, ◌/◌, ◌%◌, ◌<◌, ◌≤◌, ◌==◌, Bool, true, false, not, ◌&&◌, ◌||◌, List, [], ◌∷◌, ◌++◌, length, drop, Some, None, Ok, refl, replicate, codes}
use Rattle.std.proofs.Common.{ap, sym, ◌∙◌, arith, subst, append_assoc, length-append, one-add, nat_lt, cond, position}
use Rattle.std.specs.Prelude.{reverse}
use Rattle.std.specs.List.{list_all, position_or_len}
use Rattle.std.proofs.lemmas.List.{append-nil, reverse-append, length-reverse}
use Rattle.std.proofs.lemmas.List.Folds.{list_all-append}
use Rattle.std.proofs.lemmas.Bool.Decides.{nat_tests}
use Rattle.std.proofs.Math.Utf8.{encode}
use Rattle.std.proofs.Math.Seq.{take-append_seam, drop-append_seam}
use Rattle.std.proofs.lemmas.Bool.{and_from}
use Rattle.jm_program.specs.Names.{is_name_unit, is_unqualified, is_method_unit, is_ordinary_method_name, is_init, is_clinit, is_method_name, is_class_name}
use Rattle.jm_program.specs.Surrogates.{is_high, is_low, character_of}
use Rattle.jm_program.specs.JasminUnits.{is_escaped, pair_text, lone_text, after_text, step_text, text_from, name_text}
use Rattle.jm_program.specs.JasminTypes.{type_line, element_line, class_line}
use Rattle.jm_program.specs.References.{class_ref_fits}
use Rattle.jm_program.specs.declared.jasmin.units.Context.TheVariants.{InName}
use Rattle.jm_program.specs.declared.descriptor.BaseType.TheVariants as base
use Rattle.jm_program.specs.declared.descriptor.ElementType.{ElementType}
use Rattle.jm_program.specs.declared.descriptor.ElementType.TheVariants.{Base, Class}
use Rattle.jm_program.specs.declared.descriptor.FieldType.{FieldType}
use Rattle.jm_program.specs.declared.reference.ClassRef.{ClassRef}
use Rattle.jm_program.specs.declared.reference.ClassRef.TheVariants as class_ref
use Rattle.jm_program.proofs.Numbers.{found_less as less}
use Rattle.jm_program.proofs.Truths.{both_true, not_true}
use Rattle.jm_program.proofs.Texts.{text_is}
use Rattle.jm_class_writer.specs.Ranges.{UnitsInRange, TypeInRange, ClassRefInRange}
use Rattle.jm_jasmin_ops.specs.Operands.{is_slash, member}
use Rattle.jm_disassembler.specs.Names.{is_unit, is_plain_unit, plain_from, is_plain, begins_with_quote, is_sayable, is_plain_type, is_sayable_class}
use Rattle.jm_disassembler.proofs.Laid.{is_word_byte, begins_word, is_word}
use Rattle.jm_disassembler.proofs.Spelled.{Spelled, name_spelled, pair_of, not_high, first_of_two, second_of_two, step_none, unit_plain}
use Rattle.jm_disassembler.proofs.Types.{type_spelled, class_spelled}

-- ---- words begin with neither ; nor "

begins_on : (b : ℕ) (bs : List ℕ) → (b == 59) ≡ false → (b == 34) ≡ false → begins_word (b ∷ bs) ≡ true
begins_on b bs p q = rw (p, q) refl

above : (n k : ℕ) → 128 ≤ n → not (n + k == 59 || n + k == 34) ≡ true
above n k le = grind (arith, nat_tests)

encode_begins : (c : ℕ) (rest : List ℕ) → (c == 59) ≡ false → (c == 34) ≡ false → begins_word (encode c ++ rest) ≡ true
unfolding encode
encode_begins c rest p q = by (nat_lt c 128) (nat_lt c 2048) (nat_lt c 65536)
  where
    by : (x y z : Bool) → begins_word (cond x (c ∷ []) (cond y ((192 + c / 64) ∷ (128 + c % 64) ∷ [])
        (cond z ((224 + c / 4096) ∷ (128 + c / 64 % 64) ∷ (128 + c % 64) ∷ [])
        ((240 + c / 262144) ∷ (128 + c / 4096 % 64) ∷ (128 + c / 64 % 64) ∷ (128 + c % 64) ∷ []))) ++ rest) ≡ true
    by true y z = begins_on c rest p q
    by false true z = above 192 (c / 64) (omega arith)
    by false false true = above 224 (c / 4096) (omega arith)
    by false false false = above 240 (c / 262144) (omega arith)

-- the text of a pair at the front
step_pair : (high low : ℕ) (us : List ℕ) → is_high high ≡ true → is_low low ≡ true
    → text_from InName None (high ∷ low ∷ us) ≡ encode (character_of high low) ++ text_from InName None us
unfolding text_from step_text after_text pair_text lone_text
step_pair high low us h l = rw (h, not_high low l, l) refl

name_by : (u : ℕ) (us rest : List ℕ) (b : Bool) → is_high u ≡ b → is_sayable (u ∷ us) ≡ true → begins_word (name_text (u ∷ us) ++ rest) ≡ true
name_by u [] rest true e h =
    let p = both_true (not (u == 34)) (is_plain (u ∷ [])) h in
    let no = first_of_two (is_high u) false (is_plain_unit u && true) e p.1 in
    absurd (cc no)
name_by u (low ∷ us) rest true e h =
    let p = both_true (not (u == 34)) (is_plain (u ∷ low ∷ us)) h in
    let q = both_true (is_low low) (plain_from false us)
    (first_of_two (is_high u) (plain_from true (low ∷ us)) (is_plain_unit u && plain_from false (low ∷ us)) e p.1) in
    let c : ℕ = character_of u low in
    let above : 0x1_0000 ≤ c = (pair_of u low e q.0).above in
    let semicolon : (c == 59) ≡ false = grind (arith, nat_tests) in
    let quote : (c == 34) ≡ false = grind (arith, nat_tests) in
    rw (step_pair u low us e q.0, append_assoc (encode c) (text_from InName None us) rest) (encode_begins c _ semicolon quote)
name_by u us rest false e h =
    let p = both_true (not (u == 34)) (is_plain (u ∷ us)) h in
    let q = both_true (is_plain_unit u) (plain_from false us) (second_of_two (is_high u) (plain_from true us) (is_plain_unit u && plain_from false us) e p.1) in
    let plain : is_escaped InName u ≡ false = not_true (is_escaped InName u) (both_true (not (is_escaped InName u)) (is_unit u) q.0).0 in
    let quote : (u == 34) ≡ false = not_true (u == 34) p.0 in
    let semicolon : (u == 59) ≡ false = no_semicolon u plain in
    let all_of : text_from InName None (u ∷ us) ≡ encode u ++ text_from InName None us =
    step_none u us e ∙ ap (λ (t : List ℕ). t ++ text_from InName None us) (unit_plain u plain) in
    rw (all_of, append_assoc (encode u) (text_from InName None us) rest) (encode_begins u _ semicolon quote)
  where
    no_semicolon : (u : ℕ) → is_escaped InName u ≡ false → (u == 59) ≡ false
    no_semicolon u h = grind (arith, nat_tests)

pub name_begins : (name rest : List ℕ) → 0 < length name → is_sayable name ≡ true → begins_word (name_text name ++ rest) ≡ true
name_begins [] rest some h = absurd (omega arith)
name_begins (u ∷ us) rest some h = name_by u us rest (is_high u) refl h

letter_begins : (e : ElementType) (rest : List ℕ) → begins_word (element_line e ++ rest) ≡ true
unfolding element_line
letter_begins (Base base.Byte) rest = refl
letter_begins (Base base.Char) rest = refl
letter_begins (Base base.Double) rest = refl
letter_begins (Base base.Float) rest = refl
letter_begins (Base base.Int) rest = refl
letter_begins (Base base.Long) rest = refl
letter_begins (Base base.Short) rest = refl
letter_begins (Base base.Boolean) rest = refl
letter_begins (Class name) rest = refl

brackets_begin : (n : ℕ) (e : ElementType) (rest : List ℕ) → begins_word ((replicate n 91 ++ element_line e) ++ rest) ≡ true
brackets_begin zero e rest = letter_begins e rest
brackets_begin (suc n) e rest = refl

pub type_begins : (t : FieldType) (rest : List ℕ) → begins_word (type_line t ++ rest) ≡ true
unfolding type_line
type_begins t rest = brackets_begin t.dimensions t.element rest

-- ---- they are not empty

pub class_some : (name : List ℕ) → is_class_name name ≡ true → 0 < length name
class_some [] h = absurd (cc h)
class_some (u ∷ us) h = omega arith

pub unqualified_some : (name : List ℕ) → is_unqualified name ≡ true → 0 < length name
unqualified_some [] h = absurd (cc h)
unqualified_some (u ∷ us) h = omega arith

-- ---- words

pub class_name_word : (name : List ℕ) → is_class_name name ≡ true → is_sayable name ≡ true → UnitsInRange name → is_word (name_text name) ≡ true
class_name_word name fits h all =
    let begins : begins_word (name_text name) ≡ true = ap begins_word (sym (append-nil (name_text name))) ∙ name_begins name [] (class_some name fits) h in
    let plain = (both_true (not (begins_with_quote name)) (is_plain name) h).1 in
    and_from (begins_word (name_text name)) (list_all is_word_byte (name_text name)) begins (name_spelled name plain all).bytes

pub name_is_word : (name : List ℕ) → 0 < length name → is_sayable name ≡ true → UnitsInRange name → is_word (name_text name) ≡ true
name_is_word name some h all =
    let begins : begins_word (name_text name) ≡ true = ap begins_word (sym (append-nil (name_text name))) ∙ name_begins name [] some h in
    let plain = (both_true (not (begins_with_quote name)) (is_plain name) h).1 in
    and_from (begins_word (name_text name)) (list_all is_word_byte (name_text name)) begins (name_spelled name plain all).bytes

pub type_is_word : (t : FieldType) → is_plain_type t ≡ true → TypeInRange t → is_word (type_line t) ≡ true
type_is_word t h all =
    let begins : begins_word (type_line t) ≡ true = ap begins_word (sym (append-nil (type_line t))) ∙ type_begins t [] in
    and_from (begins_word (type_line t)) (list_all is_word_byte (type_line t)) begins (type_spelled t h all).bytes

pub class_begins : (c : ClassRef) (rest : List ℕ) → class_ref_fits c ≡ true → is_sayable_class c ≡ true → begins_word (class_line c ++ rest) ≡ true
unfolding class_line
class_begins (class_ref.Class name) rest fits h = name_begins name rest (class_some name fits) h
class_begins (class_ref.Array t) rest fits h = type_begins t rest

pub word_of : (text units rest : List ℕ) → Spelled (text ++ rest) units → begins_word (text ++ rest) ≡ true → is_word (text ++ rest) ≡ true
word_of text units rest s h = and_from (begins_word (text ++ rest)) (list_all is_word_byte (text ++ rest)) h s.bytes

pub class_is_word : (c : ClassRef) → class_ref_fits c ≡ true → is_sayable_class c ≡ true → ClassRefInRange c → is_word (class_line c) ≡ true
class_is_word c fits h all =
    let begins : begins_word (class_line c) ≡ true = ap begins_word (sym (append-nil (class_line c))) ∙ class_begins c [] fits h in
    and_from (begins_word (class_line c)) (list_all is_word_byte (class_line c)) begins (class_spelled c h all).bytes

-- ---- a class and a member's name, and a method's types

abbrev pub no_slash : ℕ → Bool
no_slash u = not (is_slash u)

unit_no_slash : (u : ℕ) → is_name_unit u ≡ true → no_slash u ≡ true
unit_no_slash u h = grind (arith, nat_tests)

units_no_slash : (us : List ℕ) → list_all is_name_unit us ≡ true → list_all no_slash us ≡ true
units_no_slash [] h = refl
units_no_slash (u ∷ us) h =
    let p = both_true (is_name_unit u) (list_all is_name_unit us) h in
    and_from (no_slash u) (list_all no_slash us) (unit_no_slash u p.0) (units_no_slash us p.1)

pub unqualified_no_slash : (name : List ℕ) → is_unqualified name ≡ true → list_all no_slash name ≡ true
unqualified_no_slash name h = units_no_slash name (both_true (not (length name == 0)) (list_all is_name_unit name) h).1

-- the place of the first unit that a test finds, behind units that it does not
ahead : (test : ℕ → Bool) (front : List ℕ) (u : ℕ) (back : List ℕ) → list_all (λ x. not (test x)) front ≡ true → test u ≡ true
    → position_or_len test (front ++ u ∷ back) ≡ length front
ahead test [] u back h e = rw e refl
ahead test (x ∷ front) u back h e =
    let p = both_true (not (test x)) (list_all (λ x. not (test x)) front) h in
    rw (p.0, ahead test front u back p.1 e, one-add) refl

pub found_at : (test : ℕ → Bool) (front : List ℕ) (u : ℕ) (back : List ℕ) → list_all (λ x. not (test x)) front ≡ true → test u ≡ true
    → position test (front ++ u ∷ back) ≡ Some (length front)
found_at test front u back h e =
    let within : length front < length (front ++ u ∷ back) = omega (arith, length-append front (u ∷ back)) in
    rw (ahead test front u back h e, less (length front) (length (front ++ u ∷ back)) within) refl

all_reversed : (test : ℕ → Bool) (us : List ℕ) → list_all test us ≡ true → list_all test (reverse us) ≡ true
all_reversed test [] h = refl
all_reversed test (u ∷ us) h =
    let p = both_true (test u) (list_all test us) h in
    rw (reverse-append (u ∷ []) us, list_all-append test (reverse us) (u ∷ []), all_reversed test us p.1, p.0) refl

pub member_is : (class name : List ℕ) → list_all no_slash name ≡ true → member 0 (class ++ 47 ∷ name) ≡ Ok (class, name)
unfolding member
member_is class name h =
    let us : List ℕ = class ++ 47 ∷ name in
    let turned : reverse us ≡ reverse name ++ 47 ∷ reverse class =
    reverse-append class (47 ∷ name) ∙ ap (λ (x : List ℕ). x ++ reverse class) (reverse-append (47 ∷ []) name) ∙ append_assoc (reverse name) (47 ∷ []) (reverse class) in
    let at : position is_slash (reverse us) ≡ Some (length name) =
    ap (position is_slash) turned ∙ found_at is_slash (reverse name) 47 (reverse class) (all_reversed no_slash name h) refl ∙ ap Some (length-reverse name) in
    let size : length us ≡ length class + suc (length name) = length-append class (47 ∷ name) in
    let front : length us - (length name + 1) ≡ length class = omega (arith, size) in
    let back : length us - length name ≡ length (class ++ 47 ∷ []) = omega (arith, size, length-append class (47 ∷ [])) in
    let parts : drop (length (class ++ 47 ∷ [])) us ≡ name =
    ap (drop (length (class ++ 47 ∷ []))) (sym (append_assoc class (47 ∷ []) name)) ∙ drop-append_seam (class ++ 47 ∷ []) name in
    rw (at, front, back, parts, take-append_seam class (47 ∷ name)) refl

ordinary_no_slash : (name : List ℕ) → is_ordinary_method_name name ≡ true → list_all no_slash name ≡ true
ordinary_no_slash name h = unqualified_no_slash name (both_true (is_unqualified name) (list_all is_method_unit name) h).0

pub method_no_slash : (name : List ℕ) → is_method_name name ≡ true → list_all no_slash name ≡ true
method_no_slash name h = by (is_ordinary_method_name name) (is_init name) refl refl h
  where
    by : (o i : Bool) → is_ordinary_method_name name ≡ o → is_init name ≡ i → (o || i || is_clinit name) ≡ true → list_all no_slash name ≡ true
    by true i e f k = ordinary_no_slash name e
    by false true e f k = subst (λ (n : List ℕ). list_all no_slash n ≡ true) (sym (text_is name (codes "<init>") f)) refl
    by false false e f k = subst (λ (n : List ℕ). list_all no_slash n ≡ true) (sym (text_is name (codes "<clinit>") k)) refl

pub method_some : (name : List ℕ) → is_method_name name ≡ true → 0 < length name
method_some [] h = absurd (cc h)
method_some (u ∷ us) h = omega arith
