-- The places that are noted.
use Rattle.std.proofs.Common.{◌≡◌, ◌⊎◌, ℕ, zero, suc, ◌+◌, ◌<◌, List, [], ◌∷◌, ◌++◌, Some, Bool, true, false, refl, sym, ap, ◌∙◌, subst, inl, inr, length, take, get_or, cond, append-nil}
use Rattle.std.specs.Prelude.{Result, Ok, Err, OnOk, OnErr}
use Rattle.jm_values.specs.Shape.{Among}
use Rattle.jm_values.specs.Reach.{is_among}
use Rattle.jm_values.proofs.Among.{among_left, among_right, among_split}
use Rattle.jm_values.proofs.Reaching.{among_from_test}
use Rattle.jm_heap.proofs.MarkLemmas.{take_one_more}
use Rattle.jm_blocks.specs.Objects.{Object}
use Rattle.jm_blocks.specs.Stores.{Blocks, objects_in}
use Rattle.jm_barrier.specs.Remembered.{noted}
use Rattle.jm_gen_heap.specs.Pointers.{Noted, Grows, Covers, IsSettled, StillPoint, all_of, points_to_young}

-- a place is noted: it is there, beside those that were
pub record IsNoted (p : ℕ) (old new : List ℕ) : Type 0 where
  pub here : Among p new
  pub keeps : (q : ℕ) → Among q old → Among q new
  pub only : (q : ℕ) → Among q new → Among q old ⊎ (q ≡ p)

pub is_noted : (old : List ℕ) (p : ℕ) → IsNoted p old (noted old p)
is_noted old p = by (is_among p old) refl
  where
    one : (q : ℕ) → Among q (p ∷ []) → q ≡ p
    one q (inl e) = e
    one q (inr h) = absurd h

    last : (q : ℕ) → Among q old ⊎ Among q (p ∷ []) → Among q old ⊎ (q ≡ p)
    last q (inl h) = inl h
    last q (inr h) = inr (one q h)

    by : (b : Bool) → is_among p old ≡ b → IsNoted p old (cond b old (old ++ p ∷ []))
    by true e = record { here = among_from_test p old e; keeps = λ q h. h; only = λ q h. inl h }
    by false e = record {
      here = among_right p old (p ∷ []) (inl refl);
      keeps = λ q h. among_left q old (p ∷ []) h;
      only = λ q h. last q (among_split q old (p ∷ []) h);
    }

pub grows_noted : (old new : List ℕ) (p : ℕ) → new ≡ noted old p → Grows (p ∷ []) old new
grows_noted old new p e = subst (Grows (p ∷ []) old) (sym e) (record { keeps = n.keeps; only = λ q h. by q (n.only q h) })
  where
    n : IsNoted p old (noted old p)
    n = is_noted old p

    by : (q : ℕ) → Among q old ⊎ (q ≡ p) → Among q old ⊎ Among q (p ∷ [])
    by q (inl h) = inl h
    by q (inr e) = inr (inl e)

pub covers_noted : (store : Blocks) (old new : List ℕ) (p : ℕ) → new ≡ noted old p → Covers store (p ∷ []) new
covers_noted store old new p e q o (inl same) there points = subst (Among q) (sym e) (subst (λ x. Among x (noted old p)) (sym same) (is_noted old p).here)
covers_noted store old new p e q o (inr h) there points = absurd h

pub grows_then : (ps qs old mid new : List ℕ) → Grows ps old mid → Grows qs mid new → Grows (ps ++ qs) old new
grows_then ps qs old mid new g h = record { keeps = λ q a. h.keeps q (g.keeps q a); only = λ q a. by q (h.only q a) }
  where
    first : (q : ℕ) → Among q old ⊎ Among q ps → Among q old ⊎ Among q (ps ++ qs)
    first q (inl a) = inl a
    first q (inr a) = inr (among_left q ps qs a)

    by : (q : ℕ) → Among q mid ⊎ Among q qs → Among q old ⊎ Among q (ps ++ qs)
    by q (inl a) = first q (g.only q a)
    by q (inr a) = inr (among_right q ps qs a)

pub covers_then : (store : Blocks) (ps qs mid new : List ℕ) → Covers store ps mid → ((q : ℕ) → Among q mid → Among q new) → Covers store qs new → Covers store (ps ++ qs) new
covers_then store ps qs mid new c keeps d q o h there points = by (among_split q ps qs h)
  where
    by : Among q ps ⊎ Among q qs → Among q new
    by (inl a) = keeps q (c q o a there points)
    by (inr a) = d q o a there points

-- fewer places
pub grows_more : (ps qs old new : List ℕ) → ((q : ℕ) → Among q ps → Among q qs) → Grows ps old new → Grows qs old new
grows_more ps qs old new more g = record { keeps = g.keeps; only = λ q h. by q (g.only q h) }
  where
    by : (q : ℕ) → Among q old ⊎ Among q ps → Among q old ⊎ Among q qs
    by q (inl h) = inl h
    by q (inr h) = inr (more q h)

pub among_taken : (i : ℕ) (ps : List ℕ) (q : ℕ) → Among q (take i ps) → Among q ps
among_taken zero ps q h = absurd h
among_taken (suc i) [] q h = h
among_taken (suc i) (p ∷ ps) q (inl e) = inl e
among_taken (suc i) (p ∷ ps) q (inr h) = inr (among_taken i ps q h)

-- one place more of a list
pub grows_step : (ps : List ℕ) (i p : ℕ) (old mid new : List ℕ) → i < length ps → p ≡ get_or ps i p → Grows (take i ps) old mid → Grows (p ∷ []) mid new → Grows (take (i + 1) ps) old new
grows_step ps i p old mid new h e g s = subst (λ qs. Grows qs old new) (sym (take_one_more ps i p h e)) (grows_then (take i ps) (p ∷ []) old mid new g s)

pub covers_step : (store : Blocks) (ps : List ℕ) (i p : ℕ) (mid new : List ℕ) → i < length ps → p ≡ get_or ps i p → Covers store (take i ps) mid → Grows (p ∷ []) mid new → Covers store (p ∷ []) new → Covers store (take (i + 1) ps) new
covers_step store ps i p mid new h e c s d = subst (λ qs. Covers store qs new) (sym (take_one_more ps i p h e)) (covers_then store (take i ps) (p ∷ []) mid new c s.keeps d)

-- the lists of a collection are noted, one after the other
pub settled : (store : Blocks) (old new : Noted) (before promoted mid : List ℕ) → old.left ≡ before ++ promoted → Grows before old.noted mid → Covers store before mid → Grows promoted mid new.noted → Covers store promoted new.noted → new.left ≡ [] → IsSettled store old new
settled store old new before promoted mid e g c h d none = record {
  covers = λ p o a there points. covered p o there points (among_split p old.noted old.left a);
  only = λ p a. from p (both.only p a);
  none = none;
}
  where
    both : Grows (before ++ promoted) old.noted new.noted
    both = grows_then before promoted old.noted mid new.noted g h

    left : Covers store (before ++ promoted) new.noted
    left = covers_then store before promoted mid new.noted c h.keeps d

    covered : (p : ℕ) (o : Object) → objects_in store p ≡ Some o → points_to_young o.values ≡ true → Among p old.noted ⊎ Among p old.left → Among p new.noted
    covered p o there points (inl a) = both.keeps p a
    covered p o there points (inr a) = left p o (subst (Among p) e a) there points

    from : (p : ℕ) → Among p old.noted ⊎ Among p (before ++ promoted) → Among p (all_of old)
    from p (inl a) = among_left p old.noted old.left a
    from p (inr a) = among_right p old.noted old.left (subst (Among p) (sym e) a)

-- whatever comes of a note
pub grows_tried : {T E : Type 0} (r : Result T E) (old new : List ℕ) (p : ℕ) → OnOk r (new ≡ noted old p) → OnErr r (new ≡ old) → Grows (p ∷ []) old new
grows_tried (Ok x) old new p e f = grows_noted old new p e
grows_tried (Err x) old new p e f = record { keeps = λ q h. subst (Among q) (sym f) h; only = λ q h. inl (subst (Among q) f h) }

-- places of the last collection were noted, and are still on its lists
pub still_grown : (store : Blocks) (old new : Noted) → Grows old.left old.noted new.noted → new.left ≡ old.left → StillPoint store old new
still_grown store old new g e = record {
  covers = λ p o a there points. by p (among_split p old.noted old.left a);
  only = λ p a. from p (among_split p new.noted new.left a);
}
  where
    by : (p : ℕ) → Among p old.noted ⊎ Among p old.left → Among p (all_of new)
    by p (inl a) = among_left p new.noted new.left (g.keeps p a)
    by p (inr a) = among_right p new.noted new.left (subst (Among p) (sym e) a)

    grown : (p : ℕ) → Among p old.noted ⊎ Among p old.left → Among p (all_of old)
    grown p (inl a) = among_left p old.noted old.left a
    grown p (inr a) = among_right p old.noted old.left a

    from : (p : ℕ) → Among p new.noted ⊎ Among p new.left → Among p (all_of old)
    from p (inl a) = grown p (g.only p a)
    from p (inr a) = among_right p old.noted old.left (subst (Among p) e a)

-- after all are noted
pub still_settled : (store : Blocks) (old new : Noted) → IsSettled store old new → StillPoint store old new
still_settled store old new s = record {
  covers = λ p o a there points. among_left p new.noted new.left (s.covers p o a there points);
  only = λ p a. s.only p (subst (Among p) (ap (λ l. new.noted ++ l) s.none ∙ append-nil new.noted) a);
}
