-- Lines behind a mark, one byte after the other.
use Rattle.std.proofs.Common.{◌≡◌, ℕ, List, [], ◌∷◌, ◌++◌, Bool, true, false, refl, ap, sym, subst, ◌∙◌, codes, eqb-true}
use Rattle.std.specs.Prelude.{nat_eq, cond}
use Rattle.std.specs.List.{onto_first, slice_split}
use Rattle.jm_explore.specs.Marked.{Text, end_where, mark_where, marked, marked_lines}

abbrev parts : Text → List Text
parts bytes = slice_split (λ b. nat_eq b 10) bytes

-- the parts with one byte more in front, which ends a line or stands in one
abbrev with_byte : ℕ → Bool → List Text → List Text
with_byte b true ps = [] ∷ ps
with_byte b false ps = onto_first b ps

-- what is left of a line that has begun, and what follows
abbrev goes_on : Text → List Text → Text
goes_on mark [] = []
goes_on mark (last ∷ []) = last ++ codes "\n\\\n"
goes_on mark (line ∷ next ∷ lines) = line ++ (codes "\n" ++ marked_lines mark (next ∷ lines))

-- what is left where a line begins or not
abbrev pub left_from : Bool → Text → Text → Text
left_from true mark bytes = marked mark bytes
left_from false mark bytes = goes_on mark (parts bytes)

abbrev left_of : Bool → Text → List Text → Text
left_of true mark ps = marked_lines mark ps
left_of false mark ps = goes_on mark ps

abbrev HasSome : List Text → Type 0
HasSome [] = ⊥
HasSome (p ∷ ps) = Unit {0}

some_with : (b : ℕ) (end : Bool) (ps : List Text) → HasSome (with_byte b end ps)
some_with b true ps = tt
some_with b false [] = tt
some_with b false (p ∷ ps) = tt

by_end : (b : ℕ) (end : Bool) (ps : List Text) → cond end ([] ∷ ps) (onto_first b ps) ≡ with_byte b end ps
by_end b true ps = refl
by_end b false ps = refl

by_byte : (b : ℕ) (bs : Text) → parts (b ∷ bs) ≡ with_byte b (nat_eq b 10) (parts bs)
by_byte b bs = by_end b (nat_eq b 10) (parts bs)

some_parts : (bs : Text) → HasSome (parts bs)
some_parts [] = tt
some_parts (b ∷ bs) = subst HasSome (sym (by_byte b bs)) (some_with b (nat_eq b 10) (parts bs))

-- a line that begins with a byte
begun : (mark : Text) (b : ℕ) (end : Bool) (ps : List Text) → HasSome ps → marked_lines mark (with_byte b end ps) ≡ mark ++ goes_on mark (with_byte b end ps)
begun mark b end [] some = absurd some
begun mark b true (p ∷ ps) some = refl
begun mark b false (p ∷ []) some = refl
begun mark b false (p ∷ q ∷ qs) some = refl

-- a byte within a line
within : (mark : Text) (b : ℕ) (end : Bool) (ps : List Text) → HasSome ps → (end ≡ true → b ≡ 10) → goes_on mark (with_byte b end ps) ≡ b ∷ left_of end mark ps
within mark b end [] some is = absurd some
within mark b true (p ∷ ps) some is = ap (λ (x : ℕ). x ∷ marked_lines mark (p ∷ ps)) (sym (is refl))
within mark b false (p ∷ []) some is = refl
within mark b false (p ∷ q ∷ qs) some is = refl

left_is : (begins : Bool) (mark bs : Text) → left_of begins mark (parts bs) ≡ left_from begins mark bs
left_is true mark bs = refl
left_is false mark bs = refl

byte_within : (mark : Text) (b : ℕ) (bs : Text) → goes_on mark (parts (b ∷ bs)) ≡ b ∷ left_from (nat_eq b 10) mark bs
byte_within mark b bs =
    ap (goes_on mark) (by_byte b bs) ∙ within mark b (nat_eq b 10) (parts bs) (some_parts bs) (eqb-true b 10) ∙ ap (λ (t : Text). b ∷ t) (left_is (nat_eq b 10) mark bs)

-- one byte more
pub byte_more : (begins : Bool) (mark : Text) (b : ℕ) (bs : Text) → left_from begins mark (b ∷ bs) ≡ mark_where begins mark ++ (b ∷ left_from (nat_eq b 10) mark bs)
byte_more true mark b bs =
    ap (marked_lines mark) (by_byte b bs) ∙ begun mark b (nat_eq b 10) (parts bs) (some_parts bs) ∙ ap (λ (ps : List Text). mark ++ goes_on mark ps) (sym (by_byte b bs))
    ∙ ap (λ (t : Text). mark ++ t) (byte_within mark b bs)
byte_more false mark b bs = byte_within mark b bs

-- no byte is left
pub none_left : (begins : Bool) (mark : Text) → left_from begins mark [] ≡ end_where begins
none_left true mark = refl
none_left false mark = refl
