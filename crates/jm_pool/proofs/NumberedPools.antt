-- A builder's constants, numbered as their entries stand in the pool.
use Rattle.std.proofs.Common.{◌≡◌, ℕ, ◌+◌, ◌<◌, ◌≤◌, Bool, true, false, cond, leb, List, [], ◌∷◌, ◌++◌, length, Some, None, Ok, Err, refl, sym, ap, ◌∙◌, arith}
use Rattle.std.proofs.lemmas.Bool.{le-leb, lt-leb}
use Rattle.std.specs.List.{flat_map}
use Rattle.std.specs.Map.{keys_of, lookup}
use Rattle.std.proofs.lemmas.List.{length-append, map-append, append-nil}
use Rattle.std.proofs.lemmas.Grind.{flat_map-append}
use Rattle.indexmap.specs.IndexMap.{IndexMap, get, insert_entry}
use Rattle.indexmap.proofs.CallerLemmas.{insert_entry-new}
use Rattle.jm_class_format.specs.declared.constant_pool.Entry.{Entry}
use Rattle.jm_pool.specs.declared.constant.Constant.{Constant}
use Rattle.jm_pool.specs.declared.constant.Constant.TheVariants as constant
use Rattle.jm_pool.specs.declared.builder_fault.BuilderFault.TheVariants as fault
use Rattle.jm_pool.specs.Building.{entry_for, behind, places, is_entry, index_among, fits_length, extended, interned, entry_bytes}
use Rattle.jm_pool.specs.Numbered.{same_constant, entries_of, AreFit, AreNumbered, IsPool}

-- an entry is a constant's where the constants are one
same_is_entry : (c k : Constant) → is_entry c (entry_for k) ≡ same_constant c k
unfolding is_entry entry_for
same_is_entry (constant.Utf8 a) (constant.Utf8 b) = refl
same_is_entry (constant.Integer a) (constant.Integer b) = refl
same_is_entry (constant.Long a) (constant.Long b) = refl
same_is_entry (constant.Class i) (constant.Class j) = refl
same_is_entry (constant.String i) (constant.String j) = refl
same_is_entry (constant.Fieldref c n) (constant.Fieldref d m) = refl
same_is_entry (constant.Methodref c n) (constant.Methodref d m) = refl
same_is_entry (constant.InterfaceMethodref c n) (constant.InterfaceMethodref d m) = refl
same_is_entry (constant.NameAndType c n) (constant.NameAndType d m) = refl
same_is_entry c k = refl

-- no constant's entry stands behind one
behind_none : (c k : Constant) (at : ℕ) (rest : List Entry) → index_among at (behind k ++ rest) c ≡ index_among (at + length (behind k)) rest c
unfolding behind index_among is_entry
behind_none (constant.Utf8 a) (constant.Long n) at rest = refl
behind_none c (constant.Long n) at rest = refl
behind_none (constant.Utf8 a) k at rest = ap (λ (m : ℕ). index_among m rest (constant.Utf8 a)) (omega arith)
behind_none c k at rest = ap (λ (m : ℕ). index_among m rest c) (omega arith)

-- the first index of its entry is the one that is held for it
pub found_index : (c : Constant) (at : ℕ) (es : List (Constant × ℕ)) → AreNumbered at es → index_among at (entries_of (keys_of es)) c ≡ lookup (same_constant c) es
unfolding places index_among
found_index c at [] h = refl
found_index c at (e ∷ es) h = by (same_constant c e.0) (same_is_entry c e.0) (behind_none c e.0 (at + 1) (entries_of (keys_of es))) (found_index c (at + length (places e.0)) es h.2)
  where
    by : (b : Bool) → is_entry c (entry_for e.0) ≡ b → index_among (at + 1) (behind e.0 ++ entries_of (keys_of es)) c ≡ index_among (at + 1 + length (behind e.0)) (entries_of (keys_of es)) c
        → index_among (at + length (places e.0)) (entries_of (keys_of es)) c ≡ lookup (same_constant c) es
        → cond (is_entry c (entry_for e.0)) (Some at) (index_among (at + 1) (behind e.0 ++ entries_of (keys_of es)) c) ≡ cond b (Some e.1) (lookup (same_constant c) es)
    by true is skip rest = rw is (ap (λ (n : ℕ). Some n) (sym h.0))
    by false is skip rest =
        let size : at + 1 + length (behind e.0) ≡ at + length (places e.0) = omega arith in
        rw is (skip ∙ ap (λ (m : ℕ). index_among m (entries_of (keys_of es)) c) size ∙ rest)

-- a constant that has no index is held behind the others, by whichever test that agrees
pub inserted_new : {S : Type 0} (eq : Constant → Constant → Bool) → ((a b : Constant) → eq a b ≡ same_constant a b) → (m : IndexMap Constant ℕ S) (c : Constant) (i : ℕ) → get same_constant m c ≡ None → insert_entry eq m.entries c i ≡ m.entries ++ (c, i) ∷ []
inserted_new eq same m c i none =
    let here : get eq m c ≡ None = (λ j. get (λ a b. same a b j) m c) ∙ none in
    insert_entry-new eq m c i here

-- ---- what interning gives, by whether the constant stands there

pub interned_long : (entries : List Entry) (c : Constant) → fits_length c ≡ false → interned entries c ≡ Err fault.TooMany
unfolding interned
interned_long entries c h = rw h refl

pub interned_found : (entries : List Entry) (c : Constant) (i : ℕ) → fits_length c ≡ true → index_among 1 entries c ≡ Some i → interned entries c ≡ Ok (i, entries)
unfolding interned
interned_found entries c i h there = rw (h, there) refl

pub interned_full : (entries : List Entry) (c : Constant) → fits_length c ≡ true → index_among 1 entries c ≡ None → 65534 < length entries + length (places c) → interned entries c ≡ Err fault.PoolFull
unfolding interned extended
interned_full entries c h none full =
    let no : leb (length entries + length (places c)) 65534 ≡ false = lt-leb (length entries + length (places c)) 65534 full in
    rw (h, none, no) refl

pub interned_new : (entries : List Entry) (c : Constant) → fits_length c ≡ true → index_among 1 entries c ≡ None → length entries + length (places c) ≤ 65534 → interned entries c ≡ Ok (length entries + 1, entries ++ places c)
unfolding interned extended
interned_new entries c h none few =
    let yes : leb (length entries + length (places c)) 65534 ≡ true = le-leb (length entries + length (places c)) 65534 few in
    rw (h, none, yes) refl

pub ruleset interned_cases = (interned_long, interned_found, interned_full, interned_new)

-- ---- one constant more

numbered_more : (at : ℕ) (es : List (Constant × ℕ)) (c : Constant) (i : ℕ) → AreNumbered at es → fits_length c ≡ true → i ≡ at + length (entries_of (keys_of es)) → AreNumbered at (es ++ (c, i) ∷ [])
numbered_more at [] c i h fits is = (omega arith, fits, tt)
numbered_more at (e ∷ es) c i h fits is =
    let size : i ≡ at + length (places e.0) + length (entries_of (keys_of es)) = omega (arith, length-append (places e.0) (entries_of (keys_of es))) in
    (h.0, h.1, numbered_more (at + length (places e.0)) es c i h.2 fits size)

-- the entries of one constant more stand behind the others
pub entries_more : (es : List (Constant × ℕ)) (c : Constant) (i : ℕ) → entries_of (keys_of (es ++ (c, i) ∷ [])) ≡ entries_of (keys_of es) ++ places c
entries_more es c i =
    ap entries_of (map-append (λ (e : Constant × ℕ). e.0) es ((c, i) ∷ [])) ∙ flat_map-append places (keys_of es) (c ∷ []) ∙ ap (λ (l : List Entry). entries_of (keys_of es) ++ l) (append-nil (places c))

pub pool_more : (es : List (Constant × ℕ)) (taken : ℕ) (c : Constant) → IsPool es taken → fits_length c ≡ true → taken + length (places c) ≤ 65534 → IsPool (es ++ (c, taken + 1) ∷ []) (taken + length (places c))
pool_more es taken c h fits few = record {
  numbered = numbered_more 1 es c (taken + 1) h.numbered fits (omega (arith, h.count));
  count = omega (arith, h.count, ap length (entries_more es c (taken + 1)), length-append (entries_of (keys_of es)) (places c));
  few = few;
}

-- as many indexes are taken as there are entries
pub pool_count : (es : List (Constant × ℕ)) (taken : ℕ) → IsPool es taken → length (entries_of (keys_of es)) ≡ taken
pool_count es taken h = sym h.count

-- ---- the bytes

-- no bytes are written for what stands behind an entry
behind_bytes : (c : Constant) → flat_map entry_bytes (behind c) ≡ []
unfolding behind entry_bytes
behind_bytes (constant.Long n) = refl
behind_bytes c = refl

pub places_bytes : (c : Constant) → flat_map entry_bytes (places c) ≡ entry_bytes (entry_for c)
unfolding places
places_bytes c = ap (λ (l : List ℕ). entry_bytes (entry_for c) ++ l) (behind_bytes c) ∙ append-nil (entry_bytes (entry_for c))

-- so the bytes of a pool are those of its constants
pub pool_by_constants : (cs : List Constant) → flat_map entry_bytes (entries_of cs) ≡ flat_map (λ c. entry_bytes (entry_for c)) cs
pool_by_constants [] = refl
pool_by_constants (c ∷ cs) =
    flat_map-append entry_bytes (places c) (entries_of cs) ∙ ap (λ (l : List ℕ). l ++ flat_map entry_bytes (entries_of cs)) (places_bytes c) ∙ ap (λ (l : List ℕ). entry_bytes (entry_for c) ++ l) (pool_by_constants cs)

-- no text in it is too long
pub all_fit : (at : ℕ) (es : List (Constant × ℕ)) → AreNumbered at es → AreFit (keys_of es)
all_fit at [] h = tt
all_fit at (e ∷ es) h = (h.1, all_fit (at + length (places e.0)) es h.2)
