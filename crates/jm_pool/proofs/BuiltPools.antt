-- The bytes that are written for a pool that grew from nothing spell that very pool.
use Rattle.std.proofs.Common.{◌≡◌, ℕ, zero, suc, ◌+◌, ◌^◌, ◌-◌, ◌<◌, ◌≤◌, Bool, true, false, List, [], ◌∷◌, ◌++◌, length, map, Some, Result, Ok, Fits, refl, sym, ap, subst, ◌∙◌, append_assoc, arith, add-one, slice_get, get_or}
use Rattle.std.specs.Prelude.{ℤ, FitsSigned}
use Rattle.std.specs.Int.{w16, w32, w64, to_be_bytes}
use Rattle.std.specs.List.{flat_map}
use Rattle.std.specs.Option.{option_map}
use Rattle.std.proofs.lemmas.Bool.{leb-true}
use Rattle.std.proofs.lemmas.List.{append-nil, length-append, map-append}
use Rattle.std.proofs.lemmas.Grind.{flat_map-append}
use Rattle.std.proofs.lemmas.Option.{slice_get-map, slice_get-get_or}
use Rattle.std.proofs.Math.Seq.{get_or-append_seam}
use Rattle.jm_bytes.specs.Laws.{same_Ok, and_then_ok}
use Rattle.jm_bytes.specs.Reading.{and_then, each}
use Rattle.jm_bytes.specs.Format.{Format, repeated}
use Rattle.jm_bytes.specs.Writing.{signed_bytes}
use Rattle.jm_bytes.proofs.Spelled.{u2_text, s4_text, s8_text}
use Rattle.jm_class_format.specs.ModifiedUtf8.{text, text_bytes}
use Rattle.jm_class_format.specs.PoolLookups.{entry_at}
use Rattle.jm_class_format.specs.PoolEntries.{tag_at, info, raw_entry, is_long, ends_in_long, placed, next_place, raw_at, text_index, class_index, name_and_type_index, member_indexes, entry_of, pool}
use Rattle.jm_class_format.specs.declared.fault.PoolFault.{PoolFault}
use Rattle.jm_class_format.specs.declared.constant_pool.Tag.{Tag}
use Rattle.jm_class_format.specs.declared.constant_pool.Tag.TheVariants as tag
use Rattle.jm_class_format.specs.declared.constant_pool.RawEntry.{RawEntry}
use Rattle.jm_class_format.specs.declared.constant_pool.RawEntry.TheVariants as raw
use Rattle.jm_class_format.specs.declared.constant_pool.Entry.{Entry}
use Rattle.jm_class_format.specs.declared.constant_pool.Entry.TheVariants as entry
use Rattle.jm_pool.specs.declared.constant.Constant.{Constant}
use Rattle.jm_pool.specs.declared.constant.Constant.TheVariants as constant
use Rattle.jm_pool.specs.Building.{entry_for, behind, places, fits_length, entry_bytes, pool_bytes, NamesText, NamesClass, NamesNameAndType, Begins, Stands, Sound}
use Rattle.jm_pool.proofs.ModifiedText.{byte_text, text_spelled}
use Rattle.jm_pool.proofs.BuildingLaws.{Interning, interned_is, begins_keeps, sound_few, named_index}

-- the entry as its bytes spell it
unfoldable raw_of : Entry → RawEntry
raw_of (entry.Utf8 units) = raw.Utf8 (text_bytes units)
raw_of (entry.Integer n) = raw.Integer n
raw_of (entry.Long n) = raw.Long n
raw_of (entry.Class name) = raw.Class name
raw_of (entry.String text) = raw.String text
raw_of (entry.Fieldref class name_and_type) = raw.Fieldref class name_and_type
raw_of (entry.Methodref class name_and_type) = raw.Methodref class name_and_type
raw_of (entry.InterfaceMethodref interface name_and_type) = raw.InterfaceMethodref interface name_and_type
raw_of (entry.NameAndType name descriptor) = raw.NameAndType name descriptor
raw_of entry.Unusable = raw.Unusable

-- ---- the bytes of one entry

raw_text : (n : ℕ) (kind : Tag) (bytes : List ℕ) (r : RawEntry) → n ≤ 12 → tag_at n ≡ Some kind → (info kind).Spells bytes r → raw_entry.Spells (n ∷ bytes) r
unfolding raw_entry
raw_text n kind bytes r few is h =
    record {
      front = n ∷ [];
      back = bytes;
      value = n;
      parts = refl;
      first = byte_text n (omega arith);
      second = record { front = []; back = bytes; value = kind; parts = refl; first = (refl, is); second = h };
    }

utf8_text : (bytes : List ℕ) → length bytes ≤ 65535 → (info tag.Utf8).Spells (to_be_bytes w16 (length bytes) ++ bytes) (raw.Utf8 bytes)
unfolding info
utf8_text bytes few =
    record {
      front = to_be_bytes w16 (length bytes);
      back = bytes;
      value = length bytes;
      parts = refl;
      first = u2_text (length bytes) (omega arith);
      second = record { front = bytes; back = []; value = bytes; parts = sym (append-nil bytes); first = (refl, refl); second = (refl, refl) };
    }

integer_text : (n : ℤ) → FitsSigned w32 n → (info tag.Integer).Spells (signed_bytes w32 n) (raw.Integer n)
unfolding info
integer_text n fits = record { front = signed_bytes w32 n; back = []; value = n; parts = sym (append-nil (signed_bytes w32 n)); first = s4_text n fits; second = (refl, refl) }

long_text : (n : ℤ) → FitsSigned w64 n → (info tag.Long).Spells (signed_bytes w64 n) (raw.Long n)
unfolding info
long_text n fits = record { front = signed_bytes w64 n; back = []; value = n; parts = sym (append-nil (signed_bytes w64 n)); first = s8_text n fits; second = (refl, refl) }

class_text : (i : ℕ) → i < 2 ^ 16 → (info tag.Class).Spells (to_be_bytes w16 i) (raw.Class i)
unfolding info
class_text i lt = record { front = to_be_bytes w16 i; back = []; value = i; parts = sym (append-nil (to_be_bytes w16 i)); first = u2_text i lt; second = (refl, refl) }

string_text : (i : ℕ) → i < 2 ^ 16 → (info tag.String).Spells (to_be_bytes w16 i) (raw.String i)
unfolding info
string_text i lt = record { front = to_be_bytes w16 i; back = []; value = i; parts = sym (append-nil (to_be_bytes w16 i)); first = u2_text i lt; second = (refl, refl) }

-- two indexes, one behind the other
field_text : (i j : ℕ) → i < 2 ^ 16 → j < 2 ^ 16 → (info tag.Fieldref).Spells (to_be_bytes w16 i ++ to_be_bytes w16 j) (raw.Fieldref i j)
unfolding info
field_text i j lt few = record {
  front = to_be_bytes w16 i;
  back = to_be_bytes w16 j;
  value = i;
  parts = refl;
  first = u2_text i lt;
  second = record { front = to_be_bytes w16 j; back = []; value = j; parts = sym (append-nil (to_be_bytes w16 j)); first = u2_text j few; second = (refl, refl) };
}

method_text : (i j : ℕ) → i < 2 ^ 16 → j < 2 ^ 16 → (info tag.Methodref).Spells (to_be_bytes w16 i ++ to_be_bytes w16 j) (raw.Methodref i j)
unfolding info
method_text i j lt few = record {
  front = to_be_bytes w16 i;
  back = to_be_bytes w16 j;
  value = i;
  parts = refl;
  first = u2_text i lt;
  second = record { front = to_be_bytes w16 j; back = []; value = j; parts = sym (append-nil (to_be_bytes w16 j)); first = u2_text j few; second = (refl, refl) };
}

interface_method_text : (i j : ℕ) → i < 2 ^ 16 → j < 2 ^ 16 → (info tag.InterfaceMethodref).Spells (to_be_bytes w16 i ++ to_be_bytes w16 j) (raw.InterfaceMethodref i j)
unfolding info
interface_method_text i j lt few = record {
  front = to_be_bytes w16 i;
  back = to_be_bytes w16 j;
  value = i;
  parts = refl;
  first = u2_text i lt;
  second = record { front = to_be_bytes w16 j; back = []; value = j; parts = sym (append-nil (to_be_bytes w16 j)); first = u2_text j few; second = (refl, refl) };
}

name_and_type_text : (i j : ℕ) → i < 2 ^ 16 → j < 2 ^ 16 → (info tag.NameAndType).Spells (to_be_bytes w16 i ++ to_be_bytes w16 j) (raw.NameAndType i j)
unfolding info
name_and_type_text i j lt few = record {
  front = to_be_bytes w16 i;
  back = to_be_bytes w16 j;
  value = i;
  parts = refl;
  first = u2_text i lt;
  second = record { front = to_be_bytes w16 j; back = []; value = j; parts = sym (append-nil (to_be_bytes w16 j)); first = u2_text j few; second = (refl, refl) };
}

text_small : (entries : List Entry) → Sound entries → (i : ℕ) → NamesText entries i → i < 2 ^ 16
text_small entries s i h = (named_index entries s i (entry.Utf8 h.0) h.1).1

class_small : (entries : List Entry) → Sound entries → (i : ℕ) → NamesClass entries i → i < 2 ^ 16
class_small entries s i h = (named_index entries s i (entry.Class h.0) h.1).1

name_and_type_small : (entries : List Entry) → Sound entries → (i : ℕ) → NamesNameAndType entries i → i < 2 ^ 16
name_and_type_small entries s i h = (named_index entries s i (entry.NameAndType h.0.0 h.0.1) h.1).1

-- an entry that is put into a sound pool
entry_text : (entries : List Entry) → Sound entries → (c : Constant) → Stands entries c → fits_length c ≡ true → raw_entry.Spells (entry_bytes (entry_for c)) (raw_of (entry_for c))
unfolding entry_bytes entry_for raw_of fits_length tag_at
entry_text entries s (constant.Utf8 units) h few = raw_text 1 tag.Utf8 _ _ (omega arith) refl (utf8_text (text_bytes units) (leb-true (length (text_bytes units)) 65535 few))
entry_text entries s (constant.Integer n) h few = raw_text 3 tag.Integer _ _ (omega arith) refl (integer_text n h)
entry_text entries s (constant.Long n) h few = raw_text 5 tag.Long _ _ (omega arith) refl (long_text n h)
entry_text entries s (constant.Class i) h few = raw_text 7 tag.Class _ _ (omega arith) refl (class_text i (text_small entries s i h))
entry_text entries s (constant.String i) h few = raw_text 8 tag.String _ _ (omega arith) refl (string_text i (text_small entries s i h))
entry_text entries s (constant.Fieldref i j) h few = raw_text 9 tag.Fieldref _ _ (omega arith) refl (field_text i j (class_small entries s i h.0) (name_and_type_small entries s j h.1))
entry_text entries s (constant.Methodref i j) h few = raw_text 10 tag.Methodref _ _ (omega arith) refl (method_text i j (class_small entries s i h.0) (name_and_type_small entries s j h.1))
entry_text entries s (constant.InterfaceMethodref i j) h few = raw_text 11 tag.InterfaceMethodref _ _ (omega arith) refl (interface_method_text i j (class_small entries s i h.0) (name_and_type_small entries s j h.1))
entry_text entries s (constant.NameAndType i j) h few = raw_text 12 tag.NameAndType _ _ (omega arith) refl (name_and_type_text i j (text_small entries s i h.0) (text_small entries s j h.1))

-- ---- one entry more

-- one step more at the end
repeated_last : {F S : Type 0} (n : ℕ) (f : S → Format F S) (s t u : S) (a b : List ℕ) → (repeated n f s).Spells a t → (f t).Spells b u → (repeated (suc n) f s).Spells (a ++ b) u
unfolding repeated
repeated_last {S = S} zero f s t u a b h k =
    record { front = b; back = []; value = u; parts = ap (λ (x : List ℕ). x ++ b) h.0 ∙ sym (append-nil b); first = subst (λ (x : S). (f x).Spells b u) (sym h.1) k; second = (refl, refl) }
repeated_last (suc n) f s t u a b h k =
    record { front = h.front; back = h.back ++ b; value = h.value; parts = ap (λ (x : List ℕ). x ++ b) h.parts ∙ append_assoc h.front h.back b; first = h.first; second = repeated_last n f h.value t u h.back b h.second k }

-- what the places before have, and that they are no long's first
record Spelled (n : ℕ) (bytes : List ℕ) (raws : List RawEntry) (long : Bool) : Type 0 where
  places : (repeated n next_place []).Spells bytes raws
  last : ends_in_long raws ≡ long

ends_with : (raws : List RawEntry) (r : RawEntry) → ends_in_long (raws ++ r ∷ []) ≡ is_long r
unfolding ends_in_long
ends_with raws r =
    let last : length (raws ++ r ∷ []) - 1 ≡ length raws = omega (arith, length-append raws (r ∷ [])) in
    let there : slice_get (raws ++ r ∷ []) (length raws) ≡ Some r = slice_get-get_or (raws ++ r ∷ []) (length raws) r (omega (arith, length-append raws (r ∷ []))) ∙ ap (λ (x : RawEntry). Some x) (get_or-append_seam raws r [] r) in
    rw last (rw there refl)

one_more : (n : ℕ) (bytes : List ℕ) (raws : List RawEntry) (more : List ℕ) (r : RawEntry) → Spelled n bytes raws false → raw_entry.Spells more r → Spelled (suc n) (bytes ++ more) (raws ++ r ∷ []) (is_long r)
unfolding next_place placed
one_more n bytes raws more r s h =
    let entry_is : (placed false raws).Spells more (raws ++ r ∷ []) = record { front = more; back = []; value = r; parts = sym (append-nil more); first = h; second = (refl, refl) } in
    let step : (next_place raws).Spells more (raws ++ r ∷ []) = subst (λ (b : Bool). (placed b raws).Spells more (raws ++ r ∷ [])) (sym s.last) entry_is in
    record { places = repeated_last n next_place [] raws (raws ++ r ∷ []) bytes more s.places step; last = ends_with raws r }

behind_long : (n : ℕ) (bytes : List ℕ) (raws : List RawEntry) → Spelled n bytes raws true → Spelled (suc n) bytes (raws ++ raw.Unusable ∷ []) false
unfolding next_place placed
behind_long n bytes raws s =
    let none : (placed true raws).Spells [] (raws ++ raw.Unusable ∷ []) = (refl, refl) in
    let step : (next_place raws).Spells [] (raws ++ raw.Unusable ∷ []) = subst (λ (b : Bool). (placed b raws).Spells [] (raws ++ raw.Unusable ∷ [])) (sym s.last) none in
    let all : (repeated (suc n) next_place []).Spells (bytes ++ []) (raws ++ raw.Unusable ∷ []) = repeated_last n next_place [] raws (raws ++ raw.Unusable ∷ []) bytes [] s.places step in
    record { places = subst (λ (x : List ℕ). (repeated (suc n) next_place []).Spells x (raws ++ raw.Unusable ∷ [])) (append-nil bytes) all; last = ends_with raws raw.Unusable }

-- ---- what the references name

raw_at_of : (entries : List Entry) (i : ℕ) (e : Entry) → entry_at entries i ≡ Some e → raw_at (map raw_of entries) i ≡ Some (raw_of e)
unfolding entry_at
raw_at_of entries zero e h = absurd cc
raw_at_of entries (suc i) e h = slice_get-map raw_of entries i ∙ ap (option_map raw_of) h

text_named : (earlier later : List Entry) → Begins earlier later → (i : ℕ) → NamesText earlier i → text_index (map raw_of later) i ≡ Ok i
unfolding text_index raw_of
text_named earlier later b i h = rw (raw_at_of later i (entry.Utf8 h.0) (begins_keeps earlier later b i (entry.Utf8 h.0) h.1)) refl

class_named : (earlier later : List Entry) → Begins earlier later → (i : ℕ) → NamesClass earlier i → class_index (map raw_of later) i ≡ Ok i
unfolding class_index raw_of
class_named earlier later b i h = rw (raw_at_of later i (entry.Class h.0) (begins_keeps earlier later b i (entry.Class h.0) h.1)) refl

name_and_type_named : (earlier later : List Entry) → Begins earlier later → (i : ℕ) → NamesNameAndType earlier i → name_and_type_index (map raw_of later) i ≡ Ok i
unfolding name_and_type_index raw_of
name_and_type_named earlier later b i h = rw (raw_at_of later i (entry.NameAndType h.0.0 h.0.1) (begins_keeps earlier later b i (entry.NameAndType h.0.0 h.0.1) h.1)) refl

member_named : (earlier later : List Entry) → Begins earlier later → (i j : ℕ) → NamesClass earlier i → NamesNameAndType earlier j → member_indexes (map raw_of later) i j ≡ Ok (i, j)
unfolding member_indexes
member_named earlier later b i j h k = rw (class_named earlier later b i h, name_and_type_named earlier later b j k) refl

-- the entry of a constant whose parts stand in the earlier pool is read in the later one
entry_read : (earlier later : List Entry) → Begins earlier later → (c : Constant) → Stands earlier c → entry_of (map raw_of later) (raw_of (entry_for c)) ≡ Ok (entry_for c)
unfolding entry_of raw_of entry_for
entry_read earlier later b (constant.Utf8 units) h =
    let fits : (i : ℕ) → Fits w16 (get_or units i 0) = λ i. let lt : get_or units i 0 < 2 ^ 16 = h i in omega arith in
    rw (text.complete (text_bytes units) units (text_spelled units 0 fits)) refl
entry_read earlier later b (constant.Integer n) h = refl
entry_read earlier later b (constant.Long n) h = refl
entry_read earlier later b (constant.Class i) h = rw (text_named earlier later b i h) refl
entry_read earlier later b (constant.String i) h = rw (text_named earlier later b i h) refl
entry_read earlier later b (constant.Fieldref i j) h = rw (member_named earlier later b i j h.0 h.1) refl
entry_read earlier later b (constant.Methodref i j) h = rw (member_named earlier later b i j h.0 h.1) refl
entry_read earlier later b (constant.InterfaceMethodref i j) h = rw (member_named earlier later b i j h.0 h.1) refl
entry_read earlier later b (constant.NameAndType i j) h = rw (text_named earlier later b i h.0, text_named earlier later b j h.1) refl

each_more : {F A B : Type 0} (f : A → Result B F) (xs ys : List A) (us vs : List B) → each f xs ≡ Ok us → each f ys ≡ Ok vs → each f (xs ++ ys) ≡ Ok (us ++ vs)
unfolding each
each_more {F} {B = B} f [] ys us vs h k = k ∙ ap (λ (l : List B). Ok (l ++ vs)) (same_Ok {F = F} [] us h)
each_more {F} {B = B} f (x ∷ xs) ys us vs h k =
    let a = and_then_ok (f x) (λ y. and_then (each f xs) (λ zs. Ok (y ∷ zs))) us h in
    let b = and_then_ok (each f xs) (λ zs. Ok (a.0 ∷ zs)) us a.2 in
    rw (a.1, each_more f xs ys b.0 vs b.1 k) (ap (λ (l : List B). Ok (l ++ vs)) (same_Ok {F = F} (a.0 ∷ b.0) us b.2))

-- ---- the whole pool

same_spelled : (n m : ℕ) (bytes text : List ℕ) (raws others : List RawEntry) (long : Bool) → Spelled n bytes raws long → n ≡ m → bytes ≡ text → raws ≡ others → Spelled m text others long
same_spelled n m bytes text raws others long h a b c = record {
  places = subst (λ (x : List RawEntry). (repeated m next_place []).Spells text x) c (subst (λ (x : List ℕ). (repeated m next_place []).Spells x raws) b (subst (λ (x : ℕ). (repeated x next_place []).Spells bytes raws) a h.places));
  last = subst (λ (x : List RawEntry). ends_in_long x ≡ long) c h.last;
}

-- the entries at the indexes that a constant takes
places_text : (n k : ℕ) (bytes : List ℕ) (raws : List RawEntry) (c : Constant) → raw_entry.Spells (entry_bytes (entry_for c)) (raw_of (entry_for c)) → Spelled n bytes raws false → k ≡ n + length (places c)
    → Spelled k (bytes ++ flat_map entry_bytes (places c)) (raws ++ map raw_of (places c)) false
unfolding places behind entry_for raw_of entry_bytes
places_text n k bytes raws (constant.Long z) h before size =
    let bs : List ℕ = 5 ∷ signed_bytes w64 z in
    let one : Spelled (suc n) (bytes ++ bs) (raws ++ raw.Long z ∷ []) true = one_more n bytes raws bs (raw.Long z) before h in
    same_spelled (suc (suc n)) k (bytes ++ bs) (bytes ++ (bs ++ [])) ((raws ++ raw.Long z ∷ []) ++ raw.Unusable ∷ []) (raws ++ raw.Long z ∷ raw.Unusable ∷ []) false
    (behind_long (suc n) (bytes ++ bs) (raws ++ raw.Long z ∷ []) one)
    (omega arith)
    (ap (λ (x : List ℕ). bytes ++ x) (sym (append-nil bs)))
    (append_assoc raws (raw.Long z ∷ []) (raw.Unusable ∷ []))
places_text n k bytes raws c h before size =
    let bs : List ℕ = entry_bytes (entry_for c) in
    same_spelled (suc n) k (bytes ++ bs) (bytes ++ (bs ++ [])) (raws ++ raw_of (entry_for c) ∷ []) (raws ++ raw_of (entry_for c) ∷ []) false
    (one_more n bytes raws bs (raw_of (entry_for c)) before h)
    (omega arith)
    (ap (λ (x : List ℕ). bytes ++ x) (sym (append-nil bs)))
    refl

places_read : (earlier later : List Entry) → Begins earlier later → (c : Constant) → Stands earlier c → each (entry_of (map raw_of later)) (map raw_of (places c)) ≡ Ok (places c)
unfolding each places behind entry_for entry_of raw_of
places_read earlier later b (constant.Long z) h = refl
places_read earlier later b c h = ap (λ (r : Result Entry PoolFault). and_then r (λ y. Ok (y ∷ []))) (entry_read earlier later b c h)

-- what is kept as a pool grows
record Built (entries : List Entry) : Type 0 where
  spelled : Spelled (length entries) (flat_map entry_bytes entries) (map raw_of entries) false
  read : (later : List Entry) → Begins entries later → each (entry_of (map raw_of later)) (map raw_of entries) ≡ Ok entries

built_none : Built []
unfolding repeated ends_in_long each
built_none = record { spelled = record { places = (refl, refl); last = refl }; read = λ later b. refl }

built_put : (entries : List Entry) (c : Constant) → Sound entries → Stands entries c → fits_length c ≡ true → Built entries → Built (entries ++ places c)
built_put entries c s stands few built = record {
  spelled = same_spelled (length (entries ++ places c)) (length (entries ++ places c))
      (flat_map entry_bytes entries ++ flat_map entry_bytes (places c)) (flat_map entry_bytes (entries ++ places c))
      (map raw_of entries ++ map raw_of (places c)) (map raw_of (entries ++ places c)) false
      (places_text (length entries) (length (entries ++ places c)) (flat_map entry_bytes entries) (map raw_of entries) c (entry_text entries s c stands few) built.spelled (length-append entries (places c)))
      refl
      (sym (flat_map-append entry_bytes entries (places c)))
      (sym (map-append raw_of entries (places c)));
  read = λ later b.
      let begins : Begins entries later = (places c ++ b.0, b.1 ∙ append_assoc entries (places c) b.0) in
      ap (each (entry_of (map raw_of later))) (map-append raw_of entries (places c)) ∙ each_more (entry_of (map raw_of later)) (map raw_of entries) (map raw_of (places c)) entries (places c) (built.read later begins) (places_read entries later begins c stands);
}

built_after : (entries : List Entry) (c : Constant) (index : ℕ) (after : List Entry) → Sound entries → Stands entries c → fits_length c ≡ true → Built entries → Interning entries c index after → Built after
built_after entries c index after s stands few built (Interning.stood is same) = subst Built (sym same) built
built_after entries c index after s stands few built (Interning.put room here same) = subst Built (sym same) (built_put entries c s stands few built)

built : {entries : List Entry} → Sound entries → Built entries
built Sound.none = built_none
built (Sound.more entries c index after s stands h) = let p = interned_is entries c index after h in built_after entries c index after s stands p.0 (built s) p.1

-- what is written for a pool that grew from nothing spells that very pool
pub sound_spells : (entries : List Entry) → Sound entries → pool.Spells (pool_bytes entries) entries
unfolding pool pool_bytes
sound_spells entries s =
    let b = built s in
    let bytes : List ℕ = flat_map entry_bytes entries in
    let few : length entries ≤ 65534 = sound_few s in
    record {
      front = to_be_bytes w16 (length entries + 1);
      back = bytes;
      value = length entries + 1;
      parts = refl;
      first = u2_text (length entries + 1) (omega arith);
      second = record {
        front = [];
        back = bytes;
        value = length entries;
        parts = refl;
        first = (refl, rw add-one refl);
        second = record {
          front = bytes;
          back = [];
          value = map raw_of entries;
          parts = sym (append-nil bytes);
          first = b.spelled.places;
          second = record {
            front = [];
            back = [];
            value = entries;
            parts = refl;
            first = (refl, b.read entries ([], sym (append-nil entries)));
            second = record { front = []; back = []; value = tt; parts = refl; first = (refl, rw (b.spelled.last) refl); second = (refl, refl) };
          };
        };
      };
    }
