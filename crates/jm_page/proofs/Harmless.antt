-- No < stands in what is written.
use Rattle.std.proofs.Common.{◌≡◌, ◌≢◌, ◌<◌, ◌≤◌, ℕ, ◌+◌, ◌/◌, ◌%◌, List, [], ◌∷◌, ◌++◌, length, drop, refl, arith, subst}
use Rattle.std.specs.Prelude.{Bool, true, false, nat_lt, nat_eq, if◌then◌else◌}
use Rattle.std.specs.List.{flat_map}
use Rattle.std.proofs.lemmas.Bool.{ltb-true, ltb-false}
use Rattle.std.proofs.lemmas.List.Elements.{All-nil, All-cons, All-append}
use Rattle.jm_page.specs.Escapes.{hex_digit, is_plain, escaped_byte, escaped, joined_byte, joined, IsHarmless}
use Rattle.jm_page.specs.Sections.{Part, Change, delta}
use Rattle.jm_page.specs.Data.{letter, line_of, row_text, part_text, gone_text, change_text, output_text, head_text, event_text, view_text}
use Rattle.jm_page.specs.Filming.{FilmView, Moment, behind, all_told}
use Rattle.jm_page.specs.declared.row.Row.{Row}
use Rattle.jm_page.specs.declared.row.Row.TheVariants.{Title, Method, Line, Instruction, Source, End}

abbrev IsNoLess : ℕ → Type 0
IsNoLess b = b ≢ 60

no_bytes : IsHarmless []
no_bytes = All-nil IsNoLess

one_more : (b : ℕ) (bs : List ℕ) → b ≢ 60 → IsHarmless bs → IsHarmless (b ∷ bs)
one_more b bs h hs = All-cons IsNoLess b bs h hs

pub both : (xs ys : List ℕ) → IsHarmless xs → IsHarmless ys → IsHarmless (xs ++ ys)
both xs ys h k = All-append IsNoLess xs ys h k

pub one : (b : ℕ) → b ≢ 60 → IsHarmless (b ∷ [])
one b h = one_more b [] h no_bytes

digit : (n : ℕ) (small : Bool) → nat_lt n 10 ≡ small → (if small then 48 + n else 55 + n) ≢ 60
digit n true e = λ is. let below : n < 10 = ltb-true n 10 e in omega arith
digit n false e = λ is. let least : 10 ≤ n = ltb-false n 10 e in omega arith

byte : (b : ℕ) (plain : Bool) → is_plain b ≡ plain
    → IsHarmless (if plain then b ∷ [] else 92 ∷ 117 ∷ 48 ∷ 48 ∷ hex_digit (b / 16) ∷ hex_digit (b % 16) ∷ [])
byte b true e = one b (λ is. let no : false ≡ true = subst (λ x. is_plain x ≡ true) is e in absurd cc)
byte b false e =
    let high : ℕ = hex_digit (b / 16) in
    let low : ℕ = hex_digit (b % 16) in
    let last = one low (digit (b % 16) (nat_lt (b % 16) 10) refl) in
    let both_digits = one_more high (low ∷ []) (digit (b / 16) (nat_lt (b / 16) 10) refl) last in
    let nought = one_more 48 (high ∷ low ∷ []) (λ is. omega arith) both_digits in
    let noughts = one_more 48 (48 ∷ high ∷ low ∷ []) (λ is. omega arith) nought in
    one_more 92 (117 ∷ 48 ∷ 48 ∷ high ∷ low ∷ []) (λ is. omega arith) (one_more 117 (48 ∷ 48 ∷ high ∷ low ∷ []) (λ is. omega arith) noughts)

escaped_one : (b : ℕ) → IsHarmless (escaped_byte b)
unfolding escaped_byte
escaped_one b = byte b (is_plain b) refl

pub escaped_harmless : (text : List ℕ) → IsHarmless (escaped text)
escaped_harmless [] = no_bytes
escaped_harmless (b ∷ bs) = both (escaped_byte b) (escaped bs) (escaped_one b) (escaped_harmless bs)

joined_if : (b : ℕ) (feed : Bool) → IsHarmless (if feed then 9 ∷ [] else escaped_byte b)
joined_if b true = one 9 (λ is. omega arith)
joined_if b false = escaped_one b

joined_one : (b : ℕ) → IsHarmless (joined_byte b)
unfolding joined_byte
joined_one b = joined_if b (nat_eq b 10)

joined_harmless : (text : List ℕ) → IsHarmless (joined text)
joined_harmless [] = no_bytes
joined_harmless (b ∷ bs) = both (joined_byte b) (joined bs) (joined_one b) (joined_harmless bs)

line : (first : ℕ) (text : List ℕ) → first ≢ 60 → IsHarmless (line_of first text)
unfolding line_of
line first text h = both (first ∷ [] ++ escaped text) (10 ∷ []) (both (first ∷ []) (escaped text) (one first h) (escaped_harmless text)) (one 10 (λ is. omega arith))

letters : (row : Row) → letter row ≢ 60
letters Title = λ is. omega arith
letters Method = λ is. omega arith
letters Line = λ is. omega arith
letters Instruction = λ is. omega arith
letters Source = λ is. omega arith
letters End = λ is. omega arith

pub row_harmless : (row : Row) (text : List ℕ) → IsHarmless (row_text row text)
row_harmless row text = line (letter row) text (letters row)

part_harmless : (p : Part) → IsHarmless (part_text p)
unfolding part_text
part_harmless p =
    both (43 ∷ [] ++ escaped p.key ++ 9 ∷ [] ++ joined p.text) (10 ∷ [])
    (both (43 ∷ [] ++ escaped p.key ++ 9 ∷ []) (joined p.text)
    (both (43 ∷ [] ++ escaped p.key) (9 ∷ []) (both (43 ∷ []) (escaped p.key) (one 43 (λ is. omega arith)) (escaped_harmless p.key)) (one 9 (λ is. omega arith)))
    (joined_harmless p.text))
    (one 10 (λ is. omega arith))

parts_harmless : (ps : List Part) → IsHarmless (flat_map part_text ps)
parts_harmless [] = no_bytes
parts_harmless (p ∷ ps) = both (part_text p) (flat_map part_text ps) (part_harmless p) (parts_harmless ps)

keys_harmless : (ks : List (List ℕ)) → IsHarmless (flat_map gone_text ks)
keys_harmless [] = no_bytes
keys_harmless (k ∷ ks) = both (gone_text k) (flat_map gone_text ks) (line 45 k (λ is. omega arith)) (keys_harmless ks)

pub change_harmless : (change : Change) → IsHarmless (change_text change)
unfolding change_text
change_harmless change = both (flat_map part_text change.set) (flat_map gone_text change.gone) (parts_harmless change.set) (keys_harmless change.gone)

head_harmless : (who kind : List ℕ) → IsHarmless (head_text who kind)
unfolding head_text
head_harmless who kind =
    both (69 ∷ [] ++ escaped who ++ 32 ∷ [] ++ escaped kind) (10 ∷ [])
    (both (69 ∷ [] ++ escaped who ++ 32 ∷ []) (escaped kind)
    (both (69 ∷ [] ++ escaped who) (32 ∷ []) (both (69 ∷ []) (escaped who) (one 69 (λ is. omega arith)) (escaped_harmless who)) (one 32 (λ is. omega arith)))
    (escaped_harmless kind))
    (one 10 (λ is. omega arith))

output_if : (output : List ℕ) (none : Bool) → IsHarmless (if none then [] else line_of 34 output)
output_if output true = no_bytes
output_if output false = line 34 output (λ is. omega arith)

output_harmless : (output : List ℕ) → IsHarmless (output_text output)
unfolding output_text
output_harmless output = output_if output (nat_eq (length output) 0)

pub event_harmless : (who kind output : List ℕ) (change : Change) → IsHarmless (event_text who kind output change)
event_harmless who kind output change =
    both (head_text who kind ++ output_text output) (change_text change)
    (both (head_text who kind) (output_text output) (head_harmless who kind) (output_harmless output)) (change_harmless change)

pub view_harmless : (number : List ℕ) (view : List Part) → IsHarmless (view_text number view)
view_harmless number view = both (line_of 86 number) (flat_map part_text view) (line 86 number (λ is. omega arith)) (parts_harmless view)

pub run_harmless : (film : FilmView) (moments : List Moment) → IsHarmless (all_told film moments)
run_harmless f [] = no_bytes
run_harmless f (m ∷ ms) =
    both (event_text m.who m.kind (drop f.printed m.output) (delta f.view m.view)) (all_told (behind m) ms)
    (event_harmless m.who m.kind (drop f.printed m.output) (delta f.view m.view)) (run_harmless (behind m) ms)
