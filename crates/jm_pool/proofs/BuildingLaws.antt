-- What the growth of a pool keeps, and which pool the bytes that are written for it spell.
use Rattle.std.proofs.Common.{◌≡◌, ℕ, zero, suc, ◌+◌, ◌^◌, ◌<◌, ◌≤◌, Bool, true, false, cond, ◌&&◌, leb, List, [], ◌∷◌, ◌++◌, length, Option, Some, None, Result, Ok, Err, refl, sym, ap, ◌∙◌, append_assoc, arith, add-one, slice_get}
use Rattle.std.specs.Prelude.{ℤ, nat_eq}
use Rattle.std.specs.Ordering.{int_eq}
use Rattle.std.specs.Cmp.{signed_Decides}
use Rattle.std.specs.Cmp.Lexicographic as texts
use Rattle.std.proofs.lemmas.Bool.{eqb-true, leb-true}
use Rattle.std.proofs.lemmas.List.{append-nil, length-append}
use Rattle.std.proofs.lemmas.Option.{slice_get_within, slice_get-get_or}
use Rattle.std.proofs.Math.Seq.{get_or-append_seam}
use Rattle.jm_program.proofs.Sequences.{got_front}
use Rattle.jm_bytes.specs.Laws.{ok_pair_parts}
use Rattle.jm_class_format.specs.PoolLookups.{entry_at}
use Rattle.jm_class_format.specs.declared.constant_pool.Entry.{Entry}
use Rattle.jm_class_format.specs.declared.constant_pool.Entry.TheVariants as entry
use Rattle.jm_pool.specs.declared.constant.Constant.{Constant}
use Rattle.jm_pool.specs.declared.constant.Constant.TheVariants as constant
use Rattle.jm_pool.specs.declared.builder_fault.BuilderFault.{BuilderFault}
use Rattle.jm_pool.specs.declared.builder_fault.BuilderFault.TheVariants as fault
use Rattle.jm_pool.specs.Building.{entry_for, behind, places, is_entry, index_among, fits_length, extended, found_or, interned, Begins, Stands, Sound}

-- ---- equal parts

int_is : (a b : ℤ) → int_eq a b ≡ true → a ≡ b
int_is a b h = (signed_Decides a b).0 h

both_are : (a b c d : ℕ) → (nat_eq a b && nat_eq c d) ≡ true → (a ≡ b) × (c ≡ d)
both_are a b c d h = by (nat_eq a b) (nat_eq c d) refl refl h
  where
    by : (p q : Bool) → nat_eq a b ≡ p → nat_eq c d ≡ q → (p && q) ≡ true → (a ≡ b) × (c ≡ d)
    by true true e f t = (eqb-true a b e, eqb-true c d f)
    by true false e f t = absurd cc
    by false q e f t = absurd cc

-- an entry is a constant's where the test says so
pub entry_is : (c : Constant) (e : Entry) → is_entry c e ≡ true → e ≡ entry_for c
unfolding is_entry entry_for
entry_is (constant.Utf8 a) (entry.Utf8 b) h = ap (λ (t : List ℕ). entry.Utf8 t) (sym (texts.same_text a b (sym h)))
entry_is (constant.Integer a) (entry.Integer b) h = ap (λ (z : ℤ). entry.Integer z) (sym (int_is a b h))
entry_is (constant.Long a) (entry.Long b) h = ap (λ (z : ℤ). entry.Long z) (sym (int_is a b h))
entry_is (constant.Class i) (entry.Class j) h = ap (λ (n : ℕ). entry.Class n) (sym (eqb-true i j h))
entry_is (constant.String i) (entry.String j) h = ap (λ (n : ℕ). entry.String n) (sym (eqb-true i j h))
entry_is (constant.Fieldref c n) (entry.Fieldref d m) h = let p = both_are c d n m h in rw (p.0, p.1) refl
entry_is (constant.Methodref c n) (entry.Methodref d m) h = let p = both_are c d n m h in rw (p.0, p.1) refl
entry_is (constant.InterfaceMethodref c n) (entry.InterfaceMethodref d m) h = let p = both_are c d n m h in rw (p.0, p.1) refl
entry_is (constant.NameAndType c n) (entry.NameAndType d m) h = let p = both_are c d n m h in rw (p.0, p.1) refl
entry_is c e h = absurd cc

-- ---- entries keep their indexes

slice_get_seam : {A : Type 0} (xs ys : List A) (y : A) → slice_get (xs ++ y ∷ ys) (length xs) ≡ Some y
slice_get_seam {A} xs ys y =
    slice_get-get_or (xs ++ y ∷ ys) (length xs) y (omega (arith, length-append xs (y ∷ ys))) ∙ ap (λ (z : A). Some z) (get_or-append_seam xs y ys y)

-- what an index names is still named when entries follow
pub entry_at_front : (earlier rest : List Entry) (i : ℕ) (e : Entry) → entry_at earlier i ≡ Some e → entry_at (earlier ++ rest) i ≡ Some e
unfolding entry_at
entry_at_front earlier rest zero e h = absurd cc
entry_at_front earlier rest (suc i) e h = got_front earlier rest i e h

pub entry_at_seam : (front rest : List Entry) (e : Entry) → entry_at (front ++ e ∷ rest) (length front + 1) ≡ Some e
unfolding entry_at
entry_at_seam front rest e = rw add-one (slice_get_seam front rest e)

-- the index that was found names the constant's entry
found_names : (front entries : List Entry) (c : Constant) (at i : ℕ) → at ≡ length front + 1 → index_among at entries c ≡ Some i → entry_at (front ++ entries) i ≡ Some (entry_for c)
unfolding index_among
found_names front [] c at i is h = absurd cc
found_names front (e ∷ es) c at i is h = by (is_entry c e) refl h (λ g. let next : at + 1 ≡ length (front ++ e ∷ []) + 1 = omega (arith, length-append front (e ∷ [])) in found_names (front ++ e ∷ []) es c (at + 1) i next g)
  where
    by : (b : Bool) → is_entry c e ≡ b → cond b (Some at) (index_among (at + 1) es c) ≡ Some i
        → (index_among (at + 1) es c ≡ Some i → entry_at ((front ++ e ∷ []) ++ es) i ≡ Some (entry_for c)) → entry_at (front ++ e ∷ es) i ≡ Some (entry_for c)
    by true t g later =
        let same : at ≡ i = cc in
        let here : i ≡ length front + 1 = sym same ∙ is in
        rw here (entry_at_seam front es e ∙ ap (λ (x : Entry). Some x) (entry_is c e t))
    by false t g later = rw append_assoc at (later g)

-- ---- what interning gives

-- the entry was there, or is put at the end
pub data Interning (entries : List Entry) (c : Constant) (index : ℕ) (after : List Entry) : Type 0 where
  stood : index_among 1 entries c ≡ Some index → after ≡ entries → Interning entries c index after
  put : length entries + length (places c) ≤ 65534 → index ≡ length entries + 1 → after ≡ entries ++ places c → Interning entries c index after

only_ok : {F A : Type 0} (b : Bool) (x y : A) (e : F) → cond b (Ok x) (Err e) ≡ Ok y → (b ≡ true) × (x ≡ y)
only_ok true x y e h = (refl, cc)
only_ok false x y e h = absurd cc

only_then : {F A : Type 0} (b : Bool) (r : Result A F) (y : A) (e : F) → cond b r (Err e) ≡ Ok y → (b ≡ true) × (r ≡ Ok y)
only_then true r y e h = (refl, h)
only_then false r y e h = absurd cc

extended_is : (entries more : List Entry) (index : ℕ) (after : List Entry) → extended entries more ≡ Ok (index, after)
    → (length entries + length more ≤ 65534) × (index ≡ length entries + 1) × (after ≡ entries ++ more)
unfolding extended
extended_is entries more index after h =
    let g = only_ok (leb (length entries + length more) 65534) (length entries + 1, entries ++ more) (index, after) fault.PoolFull h in
    (leb-true (length entries + length more) 65534 g.0, sym (ap (λ (p : ℕ × List Entry). p.0) g.1), sym (ap (λ (p : ℕ × List Entry). p.1) g.1))

-- a text that is put in is not too long, and its entry stood there or is put there
pub interned_is : (entries : List Entry) (c : Constant) (index : ℕ) (after : List Entry) → interned entries c ≡ Ok (index, after) → (fits_length c ≡ true) × Interning entries c index after
unfolding interned
interned_is entries c index after h = (g.0, by (index_among 1 entries c) refl g.1)
  where
    g : (fits_length c ≡ true) × (found_or (index_among 1 entries c) entries (extended entries (places c)) ≡ Ok (index, after))
    g = only_then (fits_length c) (found_or (index_among 1 entries c) entries (extended entries (places c))) (index, after) fault.TooMany h

    by : (o : Option ℕ) → index_among 1 entries c ≡ o → found_or o entries (extended entries (places c)) ≡ Ok (index, after) → Interning entries c index after
    by (Some i) is e =
        let p = ok_pair_parts {F = BuilderFault} i index entries after e in
        stood (is ∙ ap (λ (n : ℕ). Some n) p.0) (sym p.1)
    by None is e =
        let p = extended_is entries (places c) index after e in
        put p.0 p.1 p.2

pub interning_names : (entries : List Entry) (c : Constant) (index : ℕ) (after : List Entry) → Interning entries c index after → entry_at after index ≡ Some (entry_for c)
unfolding places
interning_names entries c index after (stood is same) = rw same (found_names [] entries c 1 index refl is)
interning_names entries c index after (put few here same) = rw (same, here) (entry_at_seam entries (behind c) (entry_for c))

pub interning_begins : (entries : List Entry) (c : Constant) (index : ℕ) (after : List Entry) → Interning entries c index after → Begins entries after
interning_begins entries c index after (stood is same) = ([], same ∙ sym (append-nil entries))
interning_begins entries c index after (put few here same) = (places c, same)

pub interning_few : (entries : List Entry) (c : Constant) (index : ℕ) (after : List Entry) → Interning entries c index after → length entries ≤ 65534 → length after ≤ 65534
interning_few entries c index after (stood is same) few = rw same few
interning_few entries c index after (put few here same) less = rw same (omega (arith, length-append entries (places c), few))

-- the index that interning gives names the constant's entry
pub interned_names : (entries : List Entry) (c : Constant) (index : ℕ) (after : List Entry) → interned entries c ≡ Ok (index, after) → entry_at after index ≡ Some (entry_for c)
interned_names entries c index after h = interning_names entries c index after (interned_is entries c index after h).1

-- the entries before keep their indexes
pub interned_begins : (entries : List Entry) (c : Constant) (index : ℕ) (after : List Entry) → interned entries c ≡ Ok (index, after) → Begins entries after
interned_begins entries c index after h = interning_begins entries c index after (interned_is entries c index after h).1

pub begins_keeps : (earlier later : List Entry) → Begins earlier later → (i : ℕ) (e : Entry) → entry_at earlier i ≡ Some e → entry_at later i ≡ Some e
begins_keeps earlier later b i e h = rw b.1 (entry_at_front earlier b.0 i e h)

-- and what interning makes of a sound pool is one, where the constant's parts stand
pub interned_sound : (entries : List Entry) (c : Constant) (index : ℕ) (after : List Entry) → Sound entries → Stands entries c → interned entries c ≡ Ok (index, after) → Sound after
interned_sound entries c index after s stands h = Sound.more entries c index after s stands h

-- indexes are from 1 to 65,534
entry_at_within : (entries : List Entry) (i : ℕ) (e : Entry) → entry_at entries i ≡ Some e → (1 ≤ i) × (i ≤ length entries)
unfolding entry_at
entry_at_within entries zero e h = absurd cc
entry_at_within entries (suc i) e h = let lt : i < length entries = slice_get_within entries i e h in (omega arith, omega arith)

pub sound_few : {entries : List Entry} → Sound entries → length entries ≤ 65534
sound_few Sound.none = omega arith
sound_few (Sound.more entries c index after s stands h) = interning_few entries c index after (interned_is entries c index after h).1 (sound_few s)

pub named_index : (entries : List Entry) → Sound entries → (i : ℕ) (e : Entry) → entry_at entries i ≡ Some e → (1 ≤ i) × (i < 2 ^ 16)
named_index entries s i e h =
    let p = entry_at_within entries i e h in
    let few : length entries ≤ 65534 = sound_few s in
    (p.0, omega (arith, p, few))
