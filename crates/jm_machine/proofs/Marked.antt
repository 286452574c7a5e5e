-- Marking goes on over lists of places, and keeps the place of each serial.
use Rattle.std.proofs.Common.{◌≡◌, ℕ, ◌+◌, List, [], ◌∷◌, ◌++◌, Some, refl, sym, ap, ◌∙◌, subst, inl, inr, length}
use Rattle.std.proofs.lemmas.List.{length-map}
use Rattle.std.specs.Prelude.{map}
use Rattle.std.specs.BTreeMap.{insert_entry}
use Rattle.std.specs.BTreeSet.{insert_key}
use Rattle.std.specs.List.Sorted.{IsStrictlySortedBy}
use Rattle.std.specs.Map.{keys_of, values_of}
use Rattle.std.specs.Ordering.{nat_cmp, match_ordering}
use Rattle.std.specs.declared.cmp.Ordering.{Ordering}
use Rattle.std.specs.declared.cmp.Ordering.TheVariants.{Less, Equal, Greater}
use Rattle.jm_values.specs.Shape.{Among}
use Rattle.jm_values.specs.Content.{Content, AllResident, serial_at, name_of}
use Rattle.jm_values.specs.Marking.{MarkedAll}
use Rattle.jm_values.proofs.Marking.{marked_now, marked_before, equal_keys}
use Rattle.jm_values.proofs.SoundContents.{name_is}
use Rattle.jm_machine.specs.Marked.{AreAt, Marks}

-- the keys of a map with an entry more
entry_keys : (es : List (ℕ × ℕ)) (k p : ℕ) → keys_of (insert_entry nat_cmp es k p) ≡ insert_key nat_cmp (keys_of es) k
entry_keys [] k p = refl
entry_keys (e ∷ es) k p = by (entry_keys es k p) (nat_cmp k e.0)
  where
    by : keys_of (insert_entry nat_cmp es k p) ≡ insert_key nat_cmp (keys_of es) k → (o : Ordering)
        → keys_of (match_ordering o ((k, p) ∷ e ∷ es) ((e.0, p) ∷ es) (e ∷ insert_entry nat_cmp es k p))
        ≡ match_ordering o (k ∷ e.0 ∷ keys_of es) (e.0 ∷ keys_of es) (e.0 ∷ insert_key nat_cmp (keys_of es) k)
    by later Less = refl
    by later Equal = refl
    by later Greater = ap (λ ks. e.0 ∷ ks) later

module _ {T : Type 0} (c : Content T) where
  -- its place is that of its serial
  still_at : (es : List (ℕ × ℕ)) (k p : ℕ) → serial_at c p ≡ Some k → AreAt c es → AreAt c (insert_entry nat_cmp es k p)
  still_at [] k p lies all = (lies, tt)
  still_at (e ∷ es) k p lies all = by (still_at es k p lies all.1) (nat_cmp k e.0) refl
    where
      by : AreAt c (insert_entry nat_cmp es k p) → (o : Ordering) → nat_cmp k e.0 ≡ o
          → AreAt c (match_ordering o ((k, p) ∷ e ∷ es) ((e.0, p) ∷ es) (e ∷ insert_entry nat_cmp es k p))
      by later Less h = (lies, all)
      by later Equal h = (lies ∙ ap Some (equal_keys k e.0 h), all.1)
      by later Greater h = (all.0, later)

  keys_are : (es now : List (ℕ × ℕ)) (k p : ℕ) → now ≡ insert_entry nat_cmp es k p → keys_of now ≡ insert_key nat_cmp (keys_of es) k
  keys_are es now k p is = ap keys_of is ∙ entry_keys es k p

  still_all_at : (es now : List (ℕ × ℕ)) (k p : ℕ) → serial_at c p ≡ Some k → now ≡ insert_entry nat_cmp es k p → AreAt c es → AreAt c now
  still_all_at es now k p lies is all = subst (AreAt c) (sym is) (still_at es k p lies all)

  -- an object that was not seen before
  pub marks_now : {es now : List (ℕ × ℕ)} {waiting : List ℕ} (p : ℕ) {k : ℕ} → serial_at c p ≡ Some k → now ≡ insert_entry nat_cmp es k p
      → length now ≡ length es + 1 → IsStrictlySortedBy nat_cmp (keys_of now) → Marks c (name_of c p ∷ []) es waiting now (waiting ++ p ∷ [])
  marks_now {es} {now} {waiting} p {k} lies is long sorted =
      let keys = keys_are es now k p is in
      let more : length (insert_key nat_cmp (keys_of es) k) ≡ length (keys_of es) + 1 =
      sym (ap length keys) ∙ length-map now (λ (e : ℕ × ℕ). e.0) ∙ long ∙ ap (λ n. n + 1) (sym (length-map es (λ (e : ℕ × ℕ). e.0))) in
      record {
        marked = subst (λ ks. MarkedAll c (name_of c p ∷ []) (keys_of es) waiting ks (waiting ++ p ∷ [])) (sym keys)
            (marked_now p lies more (subst (IsStrictlySortedBy nat_cmp) keys sorted));
        places = still_all_at es now k p lies is;
      }

  -- one that was
  pub marks_before : {es now : List (ℕ × ℕ)} {waiting : List ℕ} (p : ℕ) {k : ℕ} → serial_at c p ≡ Some k → now ≡ insert_entry nat_cmp es k p
      → keys_of now ≡ keys_of es → Marks c (name_of c p ∷ []) es waiting now waiting
  marks_before {es} {now} {waiting} p {k} lies is same = record {
    marked = subst (λ ks. MarkedAll c (name_of c p ∷ []) (keys_of es) waiting ks waiting) (sym same)
        (marked_before p lies (sym (keys_are es now k p is) ∙ same));
    places = still_all_at es now k p lies is;
  }

  -- the places of entries
  pub named_keys : (es : List (ℕ × ℕ)) → AreAt c es → map (name_of c) (values_of es) ≡ keys_of es
  named_keys [] all = refl
  named_keys (e ∷ es) all = (λ i. name_is c e.1 e.0 all.0 i ∷ named_keys es all.1 i)

  pub values_resident : (es : List (ℕ × ℕ)) → AreAt c es → AllResident c (values_of es)
  values_resident [] all = λ p a. absurd a
  values_resident (e ∷ es) all = by (values_resident es all.1)
    where
      by : AllResident c (values_of es) → (p : ℕ) → Among p (values_of (e ∷ es)) → (k : ℕ) × (serial_at c p ≡ Some k)
      by rest p (inl i) = (e.0, ap (serial_at c) i ∙ all.0)
      by rest p (inr a) = rest p a
