-- Marking goes over lists of places, and ends at what is reached.
use Rattle.std.proofs.Common.{◌≡◌, ◌≢◌, ◌⊎◌, ℕ, zero, suc, ◌+◌, ◌<◌, ◌≤◌, List, [], ◌∷◌, ◌++◌, Option, Some, None, Bool, true, false, refl, sym, ap, ◌∙◌, subst, inl, inr, length, arith, get_or, take}
use Rattle.std.specs.Prelude.{slice_get, slice_set, slice_index_or, is_some, nat_eq, unwrap_or, replicate}
use Rattle.std.proofs.lemmas.Bool.Decides.{eqb_tells}
use Rattle.std.proofs.lemmas.List.Sums.{sum_by-set}
use Rattle.std.proofs.lemmas.List.{length-set}
use Rattle.std.proofs.lemmas.Option.{get_or_from_slice_get, slice_get_within, slice_get-get_or}
use Rattle.jm_program.proofs.Sequences.{many_falses, got_written, got_unwritten, all_taken, none_left}
use Rattle.jm_values.specs.declared.value.Value.{Value}
use Rattle.jm_values.specs.Rename.{stack_shape, refs}
use Rattle.jm_values.specs.Shape.{Among}
use Rattle.jm_values.proofs.Among.{among_left, among_right, among_split}
use Rattle.jm_values.specs.Objects.{refs_of}
use Rattle.jm_values.specs.Reach.{Reach, root, field}
use Rattle.jm_values.proofs.Reaching.{reach_within}
use Rattle.jm_heap.specs.Marks.{MarkedAll, AreReached, IsClosed, plain_object, objects_of, unmarked}
use Rattle.jm_heap.specs.Slots.{object_in, object_of, values_of, is_marked, Object, Slot}

pub marked_none : (m : List Bool) (s : List ℕ) → MarkedAll [] m s m s
marked_none m s = record { all = λ q a. absurd a; keeps = λ q h. h; stays = λ q a. a; new_marks = λ q h. inl h; new_pending = λ q a. inl a; count = refl; many = refl }

pub marked_more : (ps qs : List ℕ) (a b c : List Bool) (s t u : List ℕ) → MarkedAll ps a s b t → MarkedAll qs b t c u → MarkedAll (ps ++ qs) a s c u
marked_more ps qs a b c s t u f g = record {
  all = λ q h. both q (among_split q ps qs h);
  keeps = λ q h. g.keeps q (f.keeps q h);
  stays = λ q h. g.stays q (f.stays q h);
  new_marks = λ q h. marks q (g.new_marks q h);
  new_pending = λ q h. pending q (g.new_pending q h);
  count = g.count ∙ f.count;
  many = g.many ∙ f.many;
}
  where
    both : (q : ℕ) → Among q ps ⊎ Among q qs → is_marked c q ≡ true
    both q (inl h) = g.keeps q (f.all q h)
    both q (inr h) = g.all q h

    first : (q : ℕ) → (is_marked a q ≡ true) ⊎ (Among q ps × Among q t) → (is_marked a q ≡ true) ⊎ (Among q (ps ++ qs) × Among q u)
    first q (inl h) = inl h
    first q (inr h) = inr (among_left q ps qs h.0, g.stays q h.1)

    marks : (q : ℕ) → (is_marked b q ≡ true) ⊎ (Among q qs × Among q u) → (is_marked a q ≡ true) ⊎ (Among q (ps ++ qs) × Among q u)
    marks q (inl h) = first q (f.new_marks q h)
    marks q (inr h) = inr (among_right q ps qs h.0, h.1)

    earlier : (q : ℕ) → Among q s ⊎ Among q ps → Among q s ⊎ Among q (ps ++ qs)
    earlier q (inl h) = inl h
    earlier q (inr h) = inr (among_left q ps qs h)

    pending : (q : ℕ) → Among q t ⊎ Among q qs → Among q s ⊎ Among q (ps ++ qs)
    pending q (inl h) = earlier q (f.new_pending q h)
    pending q (inr h) = inr (among_right q ps qs h)

length_one : (xs : List ℕ) (x : ℕ) → length (xs ++ x ∷ []) ≡ suc (length xs)
length_one [] x = refl
length_one (y ∷ xs) x = ap suc (length_one xs x)

-- a place that was marked before
marked_already_at : (m : List Bool) (s : List ℕ) (p : ℕ) → is_marked m p ≡ true → MarkedAll (p ∷ []) m s m s
marked_already_at m s p e = record { all = all; keeps = λ q h. h; stays = λ q a. a; new_marks = λ q h. inl h; new_pending = λ q a. inl a; count = refl; many = refl }
  where
    all : (q : ℕ) → Among q (p ∷ []) → is_marked m q ≡ true
    all q (inl h) = subst (λ n. is_marked m n ≡ true) (sym h) e
    all q (inr h) = absurd h

read_mark : (m : List Bool) (i : ℕ) (b r : Bool) → i < length m → r ≡ slice_index_or m i r → r ≡ b → slice_get m i ≡ Some b
read_mark m i b r h e t = slice_get-get_or m i r h ∙ ap Some (sym e ∙ t)

pub marked_already : (m : List Bool) (s : List ℕ) (p i : ℕ) (r : Bool) → p ≡ suc i → p ≤ length m → r ≡ slice_index_or m i r → r ≡ true → MarkedAll (p ∷ []) m s m s
marked_already m s p i r e w x t =
    marked_already_at m s p (subst (λ n. is_marked m n ≡ true) (sym e) (ap (λ o. unwrap_or o false) (read_mark m i true r (omega arith) x t)))

mark_set_same : (m : List Bool) (i : ℕ) → i < length m → is_marked (slice_set m i true) (suc i) ≡ true
mark_set_same m i h = ap (λ o. unwrap_or o false) (got_written m i true h)

mark_set_other : (m : List Bool) (i q : ℕ) → q ≢ suc i → is_marked (slice_set m i true) q ≡ is_marked m q
mark_set_other m i zero h = refl
mark_set_other m i (suc j) h = ap (λ o. unwrap_or o false) (got_unwritten m i j true (λ e. h (ap suc e)))

marked_now_at : (m : List Bool) (s : List ℕ) (i : ℕ) → i < length m → slice_get m i ≡ Some false → MarkedAll (suc i ∷ []) m s (slice_set m i true) (s ++ suc i ∷ [])
marked_now_at m s i w e = record {
  all = all;
  keeps = λ q h. keeps q h (eqb_tells q (suc i));
  stays = λ q a. among_left q s (suc i ∷ []) a;
  new_marks = λ q h. fresh q h (eqb_tells q (suc i));
  new_pending = λ q a. among_split q s (suc i ∷ []) a;
  count = let total = sum_by-set (λ (b : Bool). elim b as (λ _. ℕ) [ true ↦ 0 | false ↦ 1 ]) m i true false w in
      let was : get_or m i false ≡ false = get_or_from_slice_get m i false false e in
      let counted : unmarked (slice_set m i true) + 1 ≡ unmarked m + 0 = subst (λ b. unmarked (slice_set m i true) + (elim b as (λ _. ℕ) [ true ↦ 0 | false ↦ 1 ]) ≡ unmarked m + 0) was total in
      omega (arith, counted, length_one s (suc i));
  many = length-set m i true;
}
  where
    all : (q : ℕ) → Among q (suc i ∷ []) → is_marked (slice_set m i true) q ≡ true
    all q (inl h) = subst (λ n. is_marked (slice_set m i true) n ≡ true) (sym h) (mark_set_same m i w)
    all q (inr h) = absurd h

    keeps : (q : ℕ) → is_marked m q ≡ true → ((nat_eq q (suc i) ≡ true) × (q ≡ suc i)) ⊎ ((nat_eq q (suc i) ≡ false) × (q ≢ suc i)) → is_marked (slice_set m i true) q ≡ true
    keeps q h (inl t) = all q (inl t.1)
    keeps q h (inr t) = mark_set_other m i q t.1 ∙ h

    fresh : (q : ℕ) → is_marked (slice_set m i true) q ≡ true → ((nat_eq q (suc i) ≡ true) × (q ≡ suc i)) ⊎ ((nat_eq q (suc i) ≡ false) × (q ≢ suc i)) → (is_marked m q ≡ true) ⊎ (Among q (suc i ∷ []) × Among q (s ++ suc i ∷ []))
    fresh q h (inl t) = inr (inl t.1, among_right q s (suc i ∷ []) (inl t.1))
    fresh q h (inr t) = inl (sym (mark_set_other m i q t.1) ∙ h)

pub marked_now : (m : List Bool) (s : List ℕ) (p i : ℕ) (r : Bool) → p ≡ suc i → p ≤ length m → r ≡ slice_index_or m i r → r ≡ false → MarkedAll (p ∷ []) m s (slice_set m i true) (s ++ p ∷ [])
marked_now m s p i r e w x t =
    subst (λ n. MarkedAll (n ∷ []) m s (slice_set m i true) (s ++ n ∷ [])) (sym e) (marked_now_at m s i (omega arith) (read_mark m i false r (omega arith) x t))

-- the first elements and one more
take_suc : {X : Type 0} (xs : List X) (i : ℕ) (x : X) → i < length xs → x ≡ get_or xs i x → take (suc i) xs ≡ take i xs ++ x ∷ []
take_suc [] i x h e = absurd (omega arith)
take_suc (y ∷ xs) zero x h e = ap (λ z. z ∷ []) (sym e)
take_suc (y ∷ xs) (suc i) x h e = ap (λ zs. y ∷ zs) (take_suc xs i x (omega arith) e)

pub take_one_more : {X : Type 0} (xs : List X) (i : ℕ) (x : X) → i < length xs → x ≡ get_or xs i x → take (i + 1) xs ≡ take i xs ++ x ∷ []
take_one_more xs i x h e = let one : i + 1 ≡ suc i = omega arith in ap (λ n. take n xs) one ∙ take_suc xs i x h e

pub among_at : (xs : List ℕ) (i : ℕ) (x : ℕ) → i < length xs → x ≡ get_or xs i x → Among x xs
among_at [] i x h e = absurd (omega arith)
among_at (y ∷ xs) zero x h e = inl e
among_at (y ∷ xs) (suc i) x h e = inr (among_at xs i x (omega arith) e)

pub refs_one : (v : Value) → stack_shape.refs (v ∷ []) ≡ refs v
refs_one v = nothing (refs v)
  where
    nothing : (a : List ℕ) → a ++ [] ≡ a
    nothing [] = refl
    nothing (x ∷ a) = ap (λ l. x ∷ l) (nothing a)

pub refs_at : (vs : List Value) (i : ℕ) (v : Value) → i < length vs → v ≡ get_or vs i v → (q : ℕ) → Among q (refs v) → Among q (stack_shape.refs vs)
refs_at [] i v h e q a = absurd (omega arith)
refs_at (w ∷ vs) zero v h e q a = among_left q (refs w) (stack_shape.refs vs) (subst (λ x. Among q (refs x)) e a)
refs_at (w ∷ vs) (suc i) v h e q a = among_right q (refs w) (stack_shape.refs vs) (refs_at vs i v (omega arith) e q a)

-- what holds between two looks: each place that is marked is reached, and its values were looked
-- at unless it is pending
pub record Frontier (slots : List Slot) (roots : List ℕ) (marks : List Bool) (pending : List ℕ) : Type 0 where
  pub many : length marks ≡ length slots
  pub sound : (q : ℕ) → is_marked marks q ≡ true → Reach (objects_of slots) roots q
  pub ready : (q : ℕ) → Among q pending → Reach (objects_of slots) roots q
  pub closed : (q : ℕ) → is_marked marks q ≡ true → Among q pending ⊎ ((k : ℕ) → Among k (refs_of (objects_of slots q)) → is_marked marks k ≡ true)
  pub begun : (q : ℕ) → Among q roots → is_marked marks q ≡ true

pub none_marked : (n q : ℕ) → is_marked (replicate n false) q ≡ true → ⊥
none_marked n zero h = cc
none_marked zero (suc i) h = cc
none_marked (suc n) (suc zero) h = cc
none_marked (suc n) (suc (suc i)) h = none_marked n (suc i) h

-- the roots have been marked, where nothing was
pub first_frontier : (slots : List Slot) (roots : List ℕ) (a b : List Bool) (t : List ℕ) → length a ≡ length slots → ((q : ℕ) → is_marked a q ≡ true → ⊥) → MarkedAll roots a [] b t → Frontier slots roots b t
first_frontier slots roots a b t many none f = record {
  many = f.many ∙ many;
  sound = λ q h. new q (f.new_marks q h);
  ready = λ q h. waiting q (f.new_pending q h);
  closed = λ q h. by q (f.new_marks q h);
  begun = f.all;
}
  where
    new : (q : ℕ) → (is_marked a q ≡ true) ⊎ (Among q roots × Among q t) → Reach (objects_of slots) roots q
    new q (inl h) = absurd (none q h)
    new q (inr h) = root q h.0

    waiting : (q : ℕ) → Among q [] ⊎ Among q roots → Reach (objects_of slots) roots q
    waiting q (inl h) = absurd h
    waiting q (inr h) = root q h

    by : (q : ℕ) → (is_marked a q ≡ true) ⊎ (Among q roots × Among q t) → Among q t ⊎ ((k : ℕ) → Among k (refs_of (objects_of slots q)) → is_marked b k ≡ true)
    by q (inl h) = absurd (none q h)
    by q (inr h) = inl h.1

-- the values of the last pending place were looked at
pub next_frontier : (slots : List Slot) (roots : List ℕ) (a b : List Bool) (s t : List ℕ) (p : ℕ) → Frontier slots roots a (s ++ p ∷ []) → MarkedAll (refs_of (objects_of slots p)) a s b t → Frontier slots roots b t
next_frontier slots roots a b s t p old f = record {
  many = f.many ∙ old.many;
  sound = λ q h. new q (f.new_marks q h);
  ready = λ q h. waiting q (f.new_pending q h);
  closed = λ q h. by q (f.new_marks q h);
  begun = λ q h. f.keeps q (old.begun q h);
}
  where
    at : Reach (objects_of slots) roots p
    at = old.ready p (among_right p s (p ∷ []) (inl refl))

    new : (q : ℕ) → (is_marked a q ≡ true) ⊎ (Among q (refs_of (objects_of slots p)) × Among q t) → Reach (objects_of slots) roots q
    new q (inl h) = old.sound q h
    new q (inr h) = field p q at h.0

    waiting : (q : ℕ) → Among q s ⊎ Among q (refs_of (objects_of slots p)) → Reach (objects_of slots) roots q
    waiting q (inl h) = old.ready q (among_left q s (p ∷ []) h)
    waiting q (inr h) = field p q at h

    last : (q : ℕ) → Among q s ⊎ Among q (p ∷ []) → Among q t ⊎ ((k : ℕ) → Among k (refs_of (objects_of slots q)) → is_marked b k ≡ true)
    last q (inl h) = inl (f.stays q h)
    last q (inr (inl e)) = inr (subst (λ n. (k : ℕ) → Among k (refs_of (objects_of slots n)) → is_marked b k ≡ true) (sym e) f.all)
    last q (inr (inr h)) = absurd h

    looked : (q : ℕ) → Among q (s ++ p ∷ []) ⊎ ((k : ℕ) → Among k (refs_of (objects_of slots q)) → is_marked a k ≡ true) → Among q t ⊎ ((k : ℕ) → Among k (refs_of (objects_of slots q)) → is_marked b k ≡ true)
    looked q (inl h) = last q (among_split q s (p ∷ []) h)
    looked q (inr h) = inr (λ k m. f.keeps k (h k m))

    by : (q : ℕ) → (is_marked a q ≡ true) ⊎ (Among q (refs_of (objects_of slots p)) × Among q t) → Among q t ⊎ ((k : ℕ) → Among k (refs_of (objects_of slots q)) → is_marked b k ≡ true)
    by q (inl h) = looked q (old.closed q h)
    by q (inr h) = inl h.1

-- with nothing pending, exactly what is reached is marked
pub frontier_is_reach : (slots : List Slot) (roots : List ℕ) (marks : List Bool) → Frontier slots roots marks [] → AreReached slots roots marks
frontier_is_reach slots roots marks f = record {
  marked = reach_within (λ q. is_marked marks q ≡ true) f.begun (λ j k h a. over j k (f.closed j h) a);
  reached = f.sound;
  many = f.many;
}
  where
    over : (j k : ℕ) → Among j [] ⊎ ((i : ℕ) → Among i (refs_of (objects_of slots j)) → is_marked marks i ≡ true) → Among k (refs_of (objects_of slots j)) → is_marked marks k ≡ true
    over j k (inl h) a = absurd h
    over j k (inr h) a = h k a

-- an object names what its values name
pub values_named : (o : Option Object) → refs_of (plain_object o) ≡ stack_shape.refs (values_of o)
values_named None = refl
values_named (Some a) = refl

-- a place with an object is within the slots
pub within_slots : (slots : List Slot) (q : ℕ) → is_some (object_in slots q) ≡ true → q ≤ length slots
within_slots slots zero h = omega arith
within_slots slots (suc i) h = by (slice_get slots i) refl h
  where
    by : (o : Option Slot) → slice_get slots i ≡ o → is_some (object_of o) ≡ true → suc i ≤ length slots
    by None e t = cc
    by (Some s) e t = let w : i < length slots = slice_get_within slots i s e in omega arith

-- the references of an object are within the slots
pub refs_within : (slots : List Slot) (p : ℕ) → IsClosed slots → (q : ℕ) → Among q (refs_of (objects_of slots p)) → q ≤ length slots
refs_within slots p closed q a = by (object_in slots p) refl a
  where
    by : (o : Option Object) → object_in slots p ≡ o → Among q (refs_of (plain_object o)) → q ≤ length slots
    by None e h = absurd h
    by (Some o) e h = within_slots slots q (closed p o e q h)
