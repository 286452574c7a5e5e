-- Marking serials goes on over lists of places, and ends at what is reached.
use Rattle.std.proofs.Common.{◌≡◌, ◌≢◌, ◌⊎◌, ℕ, zero, suc, ◌+◌, ◌-◌, ◌<◌, ◌≤◌, List, [], ◌∷◌, ◌++◌, Option, Some, None, Bool, true, false, cond, refl, sym, ap}
use Rattle.std.proofs.Common.{◌∙◌, subst, inl, inr, length, arith, get_or, take, add-one, append_assoc}
use Rattle.std.specs.Prelude.{slice_get, nat_eq, nat_lt, map}
use Rattle.std.specs.Ordering.{nat_cmp, match_ordering}
use Rattle.std.specs.BTreeSet.{insert_key}
use Rattle.std.specs.List.{AllByRecursion}
use Rattle.std.specs.List.Sorted.{IsStrictlySortedBy}
use Rattle.std.specs.declared.cmp.Ordering.{Ordering}
use Rattle.std.specs.declared.cmp.Ordering.TheVariants.{Less, Equal, Greater}
use Rattle.std.proofs.lemmas.Bool.Decides.{eqb_tells}
use Rattle.std.proofs.lemmas.List.{length_push, append-nil, take_all, take_more, map-append}
use Rattle.std.proofs.lemmas.Bool.{ltb-true}
use Rattle.jm_program.proofs.Sequences.{one_more_taken}
use Rattle.jm_values.specs.Shape.{Among}
use Rattle.jm_values.specs.Rename.{rename, refs, stack_shape}
use Rattle.jm_values.specs.declared.value.Value.{Value}
use Rattle.jm_values.specs.declared.value.Value.TheVariants.{Int, Long, Null, Ref}
use Rattle.jm_values.specs.Objects.{ObjectOf, refs_of}
use Rattle.jm_values.specs.Reach.{root, field, AllDistinct}
use Rattle.jm_values.specs.Content.{Content, IsSound, AllResident, HasValue, Reached, serial_at, object_at, name_of}
use Rattle.jm_values.specs.Marking.{AreReached, IsNamed, Lies, MarkedAll}
use Rattle.jm_values.proofs.Among.{among_left, among_right, among_split}
use Rattle.jm_values.proofs.Lists.{get_there}
use Rattle.jm_values.proofs.Reaching.{reach_within, few_below}
use Rattle.jm_values.proofs.SoundContents.{serial_below, object_of_place, name_is}

-- a key that is inserted
pub equal_keys : (x y : ℕ) → nat_cmp x y ≡ Equal → x ≡ y
equal_keys x y e = by (nat_lt x y) (nat_eq x y) refl (eqb_tells x y) e
  where
    by : (b d : Bool) → nat_eq x y ≡ d → ((nat_eq x y ≡ true) × (x ≡ y)) ⊎ ((nat_eq x y ≡ false) × (x ≢ y)) → cond b Less (cond d Equal Greater) ≡ Equal → x ≡ y
    by b d f (inl t) h = t.1
    by true d f (inr t) h = cc
    by false true f (inr t) h = cc
    by false false f (inr t) h = cc

inserted : (xs : List ℕ) (x : ℕ) → Among x (insert_key nat_cmp xs x)
inserted [] x = inl refl
inserted (y ∷ xs) x = by (inserted xs x) (nat_cmp x y) refl
  where
    by : Among x (insert_key nat_cmp xs x) → (o : Ordering) → nat_cmp x y ≡ o → Among x (match_ordering o (x ∷ y ∷ xs) (y ∷ xs) (y ∷ insert_key nat_cmp xs x))
    by h Less e = inl refl
    by h Equal e = inl (equal_keys x y e)
    by h Greater e = inr h

still_among : (xs : List ℕ) (x k : ℕ) → Among k xs → Among k (insert_key nat_cmp xs x)
still_among [] x k a = absurd a
still_among (y ∷ xs) x k a = by (still_among xs x k) (nat_cmp x y) a
  where
    by : (Among k xs → Among k (insert_key nat_cmp xs x)) → (o : Ordering) → Among k (y ∷ xs)
        → Among k (match_ordering o (x ∷ y ∷ xs) (y ∷ xs) (y ∷ insert_key nat_cmp xs x))
    by later Less h = inr h
    by later Equal h = h
    by later Greater (inl e) = inl e
    by later Greater (inr h) = inr (later h)

was_among : (xs : List ℕ) (x k : ℕ) → Among k (insert_key nat_cmp xs x) → Among k xs ⊎ (k ≡ x)
was_among [] x k (inl e) = inr e
was_among [] x k (inr a) = absurd a
was_among (y ∷ xs) x k a = by (was_among xs x k) (nat_cmp x y) a
  where
    by : (Among k (insert_key nat_cmp xs x) → Among k xs ⊎ (k ≡ x)) → (o : Ordering)
        → Among k (match_ordering o (x ∷ y ∷ xs) (y ∷ xs) (y ∷ insert_key nat_cmp xs x)) → Among k (y ∷ xs) ⊎ (k ≡ x)
    by later Less (inl e) = inr e
    by later Less (inr h) = inl h
    by later Equal h = inl h
    by later Greater (inl e) = inl (inl e)
    by later Greater (inr h) = elim (later h) [ inl a ↦ inl (inr a) | inr e ↦ inr e ]

-- the keys of a set differ
less_is_below : (x y : ℕ) → nat_cmp x y ≡ Less → x ≢ y
less_is_below x y e same = by (nat_lt x y) (nat_eq x y) (eqb_tells x y) refl e
  where
    by : (b d : Bool) → ((nat_eq x y ≡ true) × (x ≡ y)) ⊎ ((nat_eq x y ≡ false) × (x ≢ y)) → nat_lt x y ≡ b → cond b Less (cond d Equal Greater) ≡ Less → ⊥
    by true d t f h = let lt : x < y = ltb-true x y f in omega arith
    by false true t f h = cc
    by false false t f h = cc

apart_from : (x : ℕ) (xs : List ℕ) → AllByRecursion (λ y. nat_cmp x y ≡ Less) xs → Among x xs → ⊥
apart_from x [] all a = a
apart_from x (y ∷ xs) all (inl e) = less_is_below x y all.0 e
apart_from x (y ∷ xs) all (inr a) = apart_from x xs all.1 a

pub keys_differ : (xs : List ℕ) → IsStrictlySortedBy nat_cmp xs → AllDistinct xs
unfolding IsStrictlySortedBy
keys_differ [] s = tt
keys_differ (x ∷ xs) s = (apart_from x xs s.0, keys_differ xs s.1)

-- the first names, and one more
pub among_at : (xs : List ℕ) (i x : ℕ) → i < length xs → x ≡ get_or xs i x → Among x xs
among_at [] i x h e = absurd (omega arith)
among_at (y ∷ xs) zero x h e = inl e
among_at (y ∷ xs) (suc i) x h e = inr (among_at xs i x (omega arith) e)

names_more : (f : ℕ → ℕ) (xs : List ℕ) (i x : ℕ) → i < length xs → x ≡ get_or xs i x → map f (take (i + 1) xs) ≡ map f (take i xs) ++ f x ∷ []
names_more f xs i x h e =
    ap (map f) (take_more xs i x h) ∙ map-append f (take i xs) (get_or xs i x ∷ []) ∙ ap (λ y. map f (take i xs) ++ f y ∷ []) (sym e)

module _ {T : Type 0} (c : Content T) where
  -- what holds between two looks: each serial that has been seen is reached, and its object was
  -- looked at unless a place of it is pending
  pub record Frontier (roots seen pending : List ℕ) : Type 0 where
    pub sound : (k : ℕ) → Among k seen → Reached c roots k
    pub ready : (p : ℕ) → Among p pending → Reached c roots (name_of c p) × Lies c p
    pub closed : (k : ℕ) → Among k seen → IsNamed c pending k ⊎ ((j : ℕ) → Among j (refs_of (object_at c k)) → Among j seen)
    pub begun : (k : ℕ) → Among k (map (name_of c) roots) → Among k seen
    pub below : (k : ℕ) → Among k seen → k < c.next
    pub distinct : AllDistinct seen

  -- a serial that is looked for has not been looked at: where it has been seen, a place of it is
  -- pending
  abbrev pub IsAhead : ℕ → List ℕ → List ℕ → Type 0
  IsAhead n seen pending = Among n seen → IsNamed c pending n

module _ {T : Type 0} {c : Content T} where
  pub marked_none : {seen waiting : List ℕ} → MarkedAll c [] seen waiting seen waiting
  marked_none =
      record { all = λ k a. absurd a; keeps = λ k a. a; stays = λ p a. a; new_seen = λ k a. inl a; new_pending = λ p a. inl a; distinct = λ d. d; count = refl }

  -- one object that was not seen before
  pub marked_now : {seen waiting : List ℕ} (p : ℕ) {k : ℕ} → serial_at c p ≡ Some k → length (insert_key nat_cmp seen k) ≡ length seen + 1
      → IsStrictlySortedBy nat_cmp (insert_key nat_cmp seen k) → MarkedAll c (name_of c p ∷ []) seen waiting (insert_key nat_cmp seen k) (waiting ++ p ∷ [])
  marked_now {seen} {waiting} p {k} e long sorted = record {
    all = λ j a. elim a [ inl i ↦ subst (λ n. Among n (insert_key nat_cmp seen k)) (sym (i ∙ named)) (inserted seen k) | inr z ↦ absurd z ];
    keeps = λ j a. still_among seen k j a;
    stays = λ q a. among_left q waiting (p ∷ []) a;
    new_seen = λ j a. elim (was_among seen k j a) [
      | inl b ↦ inl b
      | inr i ↦ inr (inl (i ∙ sym named), (p, among_right p waiting (p ∷ []) (inl refl), named ∙ sym i))
    ];
    new_pending = λ q a. elim (among_split q waiting (p ∷ []) a) [
      | inl b ↦ inl b
      | inr b ↦ elim b [ inl i ↦ inr (inl (ap (name_of c) i), (k, subst (λ n. serial_at c n ≡ Some k) (sym i) e)) | inr z ↦ absurd z ]
    ];
    distinct = λ d. keys_differ (insert_key nat_cmp seen k) sorted;
    count = omega (arith, long, length_push waiting p);
  }
    where
      named : name_of c p ≡ k
      named = name_is c p k e

  -- one that was
  pub marked_before : {seen waiting : List ℕ} (p : ℕ) {k : ℕ} → serial_at c p ≡ Some k → insert_key nat_cmp seen k ≡ seen
      → MarkedAll c (name_of c p ∷ []) seen waiting seen waiting
  marked_before {seen} p {k} e same = record {
    all = λ j a. elim a [
      | inl i ↦ subst (λ n. Among n seen) (sym (i ∙ name_is c p k e)) (subst (Among k) same (inserted seen k))
      | inr z ↦ absurd z
    ];
    keeps = λ j a. a;
    stays = λ q a. a;
    new_seen = λ j a. inl a;
    new_pending = λ q a. inl a;
    distinct = λ d. d;
    count = refl;
  }

  pub marked_more : {ks js a b d s t u : List ℕ} → MarkedAll c ks a s b t → MarkedAll c js b t d u → MarkedAll c (ks ++ js) a s d u
  marked_more {ks} {js} f g = record {
    all = λ k h. elim (among_split k ks js h) [ inl x ↦ g.keeps k (f.all k x) | inr x ↦ g.all k x ];
    keeps = λ k h. g.keeps k (f.keeps k h);
    stays = λ p h. g.stays p (f.stays p h);
    new_seen = λ k h. elim (g.new_seen k h) [
      | inl x ↦ elim (f.new_seen k x) [ inl y ↦ inl y | inr y ↦ inr (among_left k ks js y.0, (y.1.0, g.stays y.1.0 y.1.1, y.1.2)) ]
      | inr x ↦ inr (among_right k ks js x.0, x.1)
    ];
    new_pending = λ p h. elim (g.new_pending p h) [
      | inl x ↦ elim (f.new_pending p x) [ inl y ↦ inl y | inr y ↦ inr (among_left (name_of c p) ks js y.0, y.1) ]
      | inr x ↦ inr (among_right (name_of c p) ks js x.0, x.1)
    ];
    distinct = λ x. g.distinct (f.distinct x);
    count = omega (arith, f.count, g.count);
  }

  -- the first places, and one more
  pub marked_next : (places : List ℕ) {a b d s t u : List ℕ} (i p : ℕ) → i < length places → p ≡ get_or places i p
      → MarkedAll c (map (name_of c) (take i places)) a s b t → MarkedAll c (name_of c p ∷ []) b t d u
      → MarkedAll c (map (name_of c) (take (i + 1) places)) a s d u
  marked_next places {a} {b} {d} {s} {t} {u} i p lt at f g =
      subst (λ ks. MarkedAll c ks a s d u) (sym (names_more (name_of c) places i p lt at)) (marked_more f g)

  -- the last pending place
  pub last_ready : {roots seen : List ℕ} (s : List ℕ) (p : ℕ) → Frontier c roots seen (s ++ p ∷ []) → Reached c roots (name_of c p) × Lies c p
  last_ready s p f = f.ready p (among_right p s (p ∷ []) (inl refl))

  below_next : IsSound c → (places : List ℕ) → AllResident c places → (k : ℕ) → IsNamed c places k → k < c.next
  below_next whole places all k n =
      let there = all n.0 n.1 in
      serial_below c whole n.0 k (subst (λ j. serial_at c n.0 ≡ Some j) (sym (name_is c n.0 there.0 there.1) ∙ n.2) there.1)

  pub first_frontier : IsSound c → {roots now pending : List ℕ} → MarkedAll c (map (name_of c) roots) [] [] now pending → Frontier c roots now pending
  first_frontier whole {roots} {now} {pending} f = record {
    sound = λ k h. elim (f.new_seen k h) [ inl x ↦ absurd x | inr x ↦ root k x.0 ];
    ready = waiting;
    closed = λ k h. elim (f.new_seen k h) [ inl x ↦ absurd x | inr x ↦ inl x.1 ];
    begun = f.all;
    below = λ k h. elim (f.new_seen k h) [ inl x ↦ absurd x | inr x ↦ below_next whole pending (λ p a. (waiting p a).1) k x.1 ];
    distinct = f.distinct tt;
  }
    where
      waiting : (p : ℕ) → Among p pending → Reached c roots (name_of c p) × Lies c p
      waiting p h = elim (f.new_pending p h) [ inl x ↦ absurd x | inr x ↦ (root (name_of c p) x.0, x.1) ]

  pub next_frontier : IsSound c → {roots a b s t : List ℕ} (p : ℕ) → Frontier c roots a (s ++ p ∷ [])
      → MarkedAll c (refs_of (object_at c (name_of c p))) a s b t → Frontier c roots b t
  next_frontier whole {roots} {a} {b} {s} {t} p old f = record {
    sound = λ k h. elim (f.new_seen k h) [ inl x ↦ old.sound k x | inr x ↦ field (name_of c p) k (last_ready s p old).0 x.0 ];
    ready = waiting;
    closed = λ k h. elim (f.new_seen k h) [
      | inl x ↦ elim (old.closed k x) [
        | inl y ↦ last k y.0 y.2 (among_split y.0 s (p ∷ []) y.1)
        | inr y ↦ inr (λ j m. f.keeps j (y j m))
      ]
      | inr x ↦ inl x.1
    ];
    begun = λ k h. f.keeps k (old.begun k h);
    below = λ k h. elim (f.new_seen k h) [ inl x ↦ old.below k x | inr x ↦ below_next whole t (λ q m. (waiting q m).1) k x.1 ];
    distinct = f.distinct old.distinct;
  }
    where
      waiting : (q : ℕ) → Among q t → Reached c roots (name_of c q) × Lies c q
      waiting q h = elim (f.new_pending q h) [
        | inl x ↦ old.ready q (among_left q s (p ∷ []) x)
        | inr x ↦ (field (name_of c p) (name_of c q) (last_ready s p old).0 x.0, x.1)
      ]

      last : (k q : ℕ) → name_of c q ≡ k → Among q s ⊎ Among q (p ∷ []) → IsNamed c t k ⊎ ((j : ℕ) → Among j (refs_of (object_at c k)) → Among j b)
      last k q e (inl h) = inl (q, f.stays q h, e)
      last k q e (inr (inl i)) = inr (subst (λ n. (j : ℕ) → Among j (refs_of (object_at c n)) → Among j b) (ap (name_of c) (sym i) ∙ e) f.all)
      last k q e (inr (inr h)) = absurd h

  pub first_ahead : (roots : List ℕ) {now pending : List ℕ} (n : ℕ) → MarkedAll c (map (name_of c) roots) [] [] now pending → IsAhead c n now pending
  first_ahead roots n f h = elim (f.new_seen n h) [ inl x ↦ absurd x | inr x ↦ x.1 ]

  pub next_ahead : {a b s t ks : List ℕ} (p : ℕ) {n : ℕ} → name_of c p ≢ n → IsAhead c n a (s ++ p ∷ []) → MarkedAll c ks a s b t → IsAhead c n b t
  next_ahead {s = s} {t = t} p {n = n} differs old f h = elim (f.new_seen n h) [
    | inl x ↦ let y = old x in stays y.0 y.2 (among_split y.0 s (p ∷ []) y.1)
    | inr x ↦ x.1
  ]
    where
      stays : (q : ℕ) → name_of c q ≡ n → Among q s ⊎ Among q (p ∷ []) → IsNamed c t n
      stays q e (inl m) = (q, f.stays q m, e)
      stays q e (inr (inl i)) = absurd (differs (ap (name_of c) (sym i) ∙ e))
      stays q e (inr (inr m)) = absurd m

  -- what may still be seen, and what is pending, has become less
  pub less_is_left : IsSound c → {roots a b s t : List ℕ} (p : ℕ) → Frontier c roots a (s ++ p ∷ []) → MarkedAll c (refs_of (object_at c (name_of c p))) a s b t
      → c.next - length b + length t < c.next - length a + length (s ++ p ∷ [])
  less_is_left whole {a = a} {b = b} {s = s} p old f =
      let new = next_frontier whole p old f in
      let few = few_below a c.next old.distinct old.below in
      let more = few_below b c.next new.distinct new.below in
      omega (arith, few, more, length_push s p, f.count)

  -- with nothing pending, exactly what is reached has been seen
  pub frontier_is_reach : {roots seen : List ℕ} → Frontier c roots seen [] → AreReached c roots seen
  frontier_is_reach {seen = seen} f k = (
    f.sound k,
    reach_within (λ j. Among j seen) f.begun (λ i j m a. elim (f.closed i m) [ inl h ↦ absurd h.1 | inr h ↦ h j a ]) k,
  )

  -- so a serial that is still ahead is not reached
  pub not_reached : {roots seen : List ℕ} {n : ℕ} → Frontier c roots seen [] → IsAhead c n seen [] → Reached c roots n → ⊥
  not_reached {n = n} f ahead r = (ahead ((frontier_is_reach f n).1 r)).1

-- the values of an object, if there is one
abbrev pub values_in : {T : Type 0} → Option (ObjectOf T) → List Value
values_in None = []
values_in (Some o) = o.values

refs_in : {T : Type 0} (o : Option (ObjectOf T)) → stack_shape.refs (values_in o) ≡ refs_of o
refs_in None = refl
refs_in (Some o) = refl

refs_renamed : (f : ℕ → ℕ) (v : Value) → refs (rename f v) ≡ map f (refs v)
refs_renamed f (Int n) = refl
refs_renamed f (Long n) = refl
refs_renamed f Null = refl
refs_renamed f (Ref p) = refl

pub refs_append : (us vs : List Value) → stack_shape.refs (us ++ vs) ≡ stack_shape.refs us ++ stack_shape.refs vs
refs_append [] vs = refl
refs_append (u ∷ us) vs = ap (λ l. refs u ++ l) (refs_append us vs) ∙ sym (append_assoc (refs u) (stack_shape.refs us) (stack_shape.refs vs))

-- the values of the object at a place, one after the other
module _ {T : Type 0} (c : Content T) (p : ℕ) where
  -- the serials that the first values name
  abbrev pub first_names : ℕ → List ℕ
  first_names n = stack_shape.refs (take n (values_in (object_at c (name_of c p))))

  abbrev Counts : ℕ → Type 0
  Counts n = (k : ℕ) (o : ObjectOf T) → serial_at c p ≡ Some k → object_at c k ≡ Some o → n ≡ length o.values

  pub object_there : Lies c p → (k : ℕ) × (o : ObjectOf T) × (serial_at c p ≡ Some k) × (object_at c k ≡ Some o)
  object_there there = let o = object_of_place c p there.0 there.1 in (there.0, o.0, there.1, o.1)

  pub value_there : Lies c p → {n i : ℕ} → Counts n → i < n → (v : Value) × HasValue c p i v
  value_there there {n} {i} counts lt =
      let o = object_of_place c p there.0 there.1 in
      let long : n ≡ length o.0.values = counts there.0 o.0 there.1 o.1 in
      let v = get_there o.0.values i (omega arith) in
      (v.0, (there.0, o.0, there.1, o.1, v.1))

  pub looked_more : {i : ℕ} (v : Value) {a b d s t u : List ℕ} → HasValue c p i (rename (name_of c) v)
      → MarkedAll c (first_names i) a s b t → MarkedAll c (map (name_of c) (refs v)) b t d u → MarkedAll c (first_names (i + 1)) a s d u
  looked_more {i} v {a} {b} {d} {s} {t} {u} has f g =
      let vs = values_in (object_at c (name_of c p)) in
      let same : object_at c (name_of c p) ≡ Some has.1 = ap (object_at c) (name_is c p has.0 has.2) ∙ has.3 in
      let here : slice_get vs i ≡ Some (rename (name_of c) v) = ap (λ o. slice_get (values_in o) i) same ∙ has.4 in
      let more : first_names (i + 1) ≡ first_names i ++ map (name_of c) (refs v) =
      ap first_names (add-one i)
      ∙ ap stack_shape.refs (one_more_taken vs i (rename (name_of c) v) here)
      ∙ refs_append (take i vs) (rename (name_of c) v ∷ [])
      ∙ ap (λ l. first_names i ++ l) (append-nil (refs (rename (name_of c) v)) ∙ refs_renamed (name_of c) v) in
      subst (λ ks. MarkedAll c ks a s d u) (sym more) (marked_more f g)

  pub all_looked : Lies c p → {n : ℕ} → Counts n → {a b s t : List ℕ} → MarkedAll c (first_names n) a s b t
      → MarkedAll c (refs_of (object_at c (name_of c p))) a s b t
  all_looked there {n} counts {a} {b} {s} {t} f =
      let o = object_of_place c p there.0 there.1 in
      let same : object_at c (name_of c p) ≡ Some o.0 = ap (object_at c) (name_is c p there.0 there.1) ∙ o.1 in
      let long : n ≡ length o.0.values = counts there.0 o.0 there.1 o.1 in
      let few : length (values_in (object_at c (name_of c p))) ≤ n = subst (λ x. length (values_in x) ≤ n) (sym same) (omega arith) in
      subst (λ ks. MarkedAll c ks a s b t)
      (ap stack_shape.refs (take_all n (values_in (object_at c (name_of c p))) few) ∙ refs_in (object_at c (name_of c p))) f
