-- How the list of the old objects that point to young ones grows.
use Rattle.std.proofs.Common.{◌≡◌, ◌≢◌, ◌⊎◌, ℕ, ◌+◌, ◌<◌, ◌≤◌, List, [], ◌∷◌, ◌++◌, Option, Some, None, Bool, true, false, cond, refl, sym, ap, ◌∙◌, subst, inl, inr, arith}
use Rattle.std.specs.Prelude.{nat_eq, ◌||◌, take, slice_set, length}
use Rattle.std.proofs.lemmas.List.{take_more_set}
use Rattle.std.proofs.lemmas.Bool.{le-ltb, lt-ltb, cases_lt}
use Rattle.std.proofs.lemmas.Bool.Decides.{eqb_tells}
use Rattle.jm_values.specs.Shape.{Among}
use Rattle.jm_values.specs.Reach.{AllDistinct}
use Rattle.jm_values.proofs.Among.{among_left, among_right, among_or_last, among_split}
use Rattle.jm_blocks.specs.Objects.{Object}
use Rattle.jm_blocks.specs.Places.{lane_of}
use Rattle.jm_blocks.specs.Stores.{Blocks, objects_in, HasObject}
use Rattle.jm_values.specs.declared.value.Value.{Value}
use Rattle.jm_blocks.proofs.Placing.{lies_in}
use Rattle.jm_copy.specs.Copies.{is_above, made, IsMark, Stays}
use Rattle.jm_copy.specs.Marks.{passed, IsPassed, IsNext, IsNextOf, OthersStay}
use Rattle.jm_copy.specs.Pointing.{names_lane, points_to, IsListed, ListsAbove}
use Rattle.jm_copy.specs.declared.copies.Copies.{Copies}
use Rattle.jm_copy.specs.declared.scan.Marks.{Marks}
use Rattle.jm_copy.proofs.Keeping.{mark_stays}
use Rattle.jm_copy.proofs.Making.{is_over, not_above, made_where, LiesYoung, LiesOld}
use Rattle.jm_copy.proofs.Marking.{passed_young, passed_old}

pub distinct_push : (q : ℕ) (ps : List ℕ) → AllDistinct ps → (Among q ps → ⊥) → AllDistinct (ps ++ q ∷ [])
distinct_push q [] d n = (λ h. h, tt)
distinct_push q (x ∷ ps) d n = (λ h. apart (among_or_last x q ps h), distinct_push q ps d.1 (λ h. n (inr h)))
  where
    apart : Among x ps ⊎ (x ≡ q) → ⊥
    apart (inl a) = d.0 a
    apart (inr e) = n (inl (sym e))

-- two lists without a place in common
pub distinct_append : (ns ms : List ℕ) → AllDistinct ns → AllDistinct ms → ((n : ℕ) → Among n ns → Among n ms → ⊥) → AllDistinct (ns ++ ms)
distinct_append [] ms d e h = e
distinct_append (n ∷ ns) ms d e h = (λ a. by (among_split n ns ms a), distinct_append ns ms d.1 e (λ m a b. h m (inr a) b))
  where
    by : Among n ns ⊎ Among n ms → ⊥
    by (inl a) = d.0 a
    by (inr b) = h n (inl refl) b

pub listed_none : (lane : ℕ) (s : Blocks) (kept : Option ℕ) (places : List ℕ) → IsMark s kept → places ≡ [] → IsListed lane s kept kept places
listed_none lane s kept places mark e = subst (λ ps. IsListed lane s kept kept ps) (sym e) (record {
  mark_there = mark;
  past = λ n h. h;
  sound = λ p h. absurd h;
  complete = λ p o f above below t. let both : true ≡ false = sym above ∙ below in cc;
  distinct = tt;
})

-- what is not above a mark is not above what is
lower : (mark : Option ℕ) (p q : ℕ) → is_above mark p ≡ false → is_above mark q ≡ true → is_above (Some q) p ≡ false
lower None p q e f = cc
lower (Some m) p q e f = let low = not_above m p e in let high = is_over m q f in le-ltb q p (omega (arith, low, high))

-- the next object is listed if it points there
pub listed_more : (lane : ℕ) (s : Blocks) (kept mark : Option ℕ) (places places' : List ℕ) (q : ℕ) (o : Object) → IsListed lane s kept mark places → IsNextOf s mark q → objects_in s q ≡ Some o → places' ≡ cond (points_to lane o.values) (places ++ q ∷ []) places → IsListed lane s kept (Some q) places'
listed_more lane s kept mark places places' q o l next there e = by (points_to lane o.values) refl e
  where
    here : is_above (Some q) q ≡ false
    here = le-ltb q q (omega arith)

    old : (p : ℕ) → Among p places → (a : Object) × (objects_in s p ≡ Some a) × (is_above kept p ≡ true) × (is_above (Some q) p ≡ false) × (points_to lane a.values ≡ true)
    old p h = let has = l.sound p h in (has.0, has.1, has.2, lower mark p q has.3 next.above, has.4)

    before : (p : ℕ) (a : Object) → p ≢ q → objects_in s p ≡ Some a → is_above kept p ≡ true → is_above (Some q) p ≡ false → points_to lane a.values ≡ true → Among p places
    before p a d f above below t = inner (is_above mark p) refl
      where
        inner : (b : Bool) → is_above mark p ≡ b → Among p places
        inner false g = l.complete p a f above g t
        inner true g = let least = next.least p (a, f) g in let le = not_above q p below in absurd (omega (arith, least, le, d))

    same : (a : Object) (p : ℕ) → p ≡ q → objects_in s p ≡ Some a → a ≡ o
    same a p d f = let both : Some a ≡ Some o = sym f ∙ ap (objects_in s) d ∙ there in cc

    by : (b : Bool) → points_to lane o.values ≡ b → places' ≡ cond b (places ++ q ∷ []) places → IsListed lane s kept (Some q) places'
    by true t f = subst (λ ps. IsListed lane s kept (Some q) ps) (sym f) (record {
      mark_there = next.there;
      past = λ n h. let over = is_over q n h in l.past n (above_more' n over);
      sound = λ p h. new p (among_or_last p q places h);
      complete = λ p a g above below h. all p a g above below h (eqb_tells p q);
      distinct = distinct_push q places l.distinct (λ h. let has = l.sound q h in let both : true ≡ false = sym next.above ∙ has.3 in cc);
    })
      where
        above_more' : (n : ℕ) → q < n → is_above mark n ≡ true
        above_more' n h = raise mark n next.above h
          where
            raise : (m : Option ℕ) (n : ℕ) → is_above m q ≡ true → q < n → is_above m n ≡ true
            raise None n g h = refl
            raise (Some k) n g h = let over = is_over k q g in lt-ltb k n (omega (arith, over, h))

        new : (p : ℕ) → Among p places ⊎ (p ≡ q) → (a : Object) × (objects_in s p ≡ Some a) × (is_above kept p ≡ true) × (is_above (Some q) p ≡ false) × (points_to lane a.values ≡ true)
        new p (inl h) = old p h
        new p (inr h) = (o, ap (objects_in s) h ∙ there, ap (is_above kept) h ∙ l.past q next.above, ap (is_above (Some q)) h ∙ here, t)

        all : (p : ℕ) (a : Object) → objects_in s p ≡ Some a → is_above kept p ≡ true → is_above (Some q) p ≡ false → points_to lane a.values ≡ true → ((nat_eq p q ≡ true) × (p ≡ q)) ⊎ ((nat_eq p q ≡ false) × (p ≢ q)) → Among p (places ++ q ∷ [])
        all p a g above below h (inl d) = let last : Among p (q ∷ []) = inl d.1 in among_right p places (q ∷ []) last
        all p a g above below h (inr d) = among_left p places (q ∷ []) (before p a d.1 g above below h)
    by false t f = subst (λ ps. IsListed lane s kept (Some q) ps) (sym f) (record {
      mark_there = next.there;
      past = λ n h. let over = is_over q n h in l.past n (raise mark n next.above over);
      sound = old;
      complete = λ p a g above below h. all p a g above below h (eqb_tells p q);
      distinct = l.distinct;
    })
      where
        raise : (m : Option ℕ) (n : ℕ) → is_above m q ≡ true → q < n → is_above m n ≡ true
        raise None n g h = refl
        raise (Some k) n g h = let over = is_over k q g in lt-ltb k n (omega (arith, over, h))

        all : (p : ℕ) (a : Object) → objects_in s p ≡ Some a → is_above kept p ≡ true → is_above (Some q) p ≡ false → points_to lane a.values ≡ true → ((nat_eq p q ≡ true) × (p ≡ q)) ⊎ ((nat_eq p q ≡ false) × (p ≢ q)) → Among p places
        all p a g above below h (inl d) = let both : true ≡ false = sym h ∙ ap (λ x. points_to lane x.values) (same a p d.1 g) ∙ t in cc
        all p a g above below h (inr d) = before p a d.1 g above below h

pub listed_all : (lane : ℕ) (s : Blocks) (kept mark : Option ℕ) (places : List ℕ) → IsListed lane s kept mark places → IsPassed s mark → ListsAbove lane s kept places
listed_all lane s kept mark places l passed = record {
  sound = λ p h. let has = l.sound p h in (has.0, has.1, has.2, has.4);
  complete = λ p o f above t. l.complete p o f above (passed p (o, f)) t;
  distinct = l.distinct;
}

-- one value more that names a young one or not
points_push : (lane : ℕ) (vs : List Value) (v : Value) → points_to lane (vs ++ v ∷ []) ≡ (points_to lane vs || names_lane lane v)
points_push lane [] v = by (names_lane lane v)
  where
    by : (b : Bool) → (b || false) ≡ (false || b)
    by true = refl
    by false = refl
points_push lane (w ∷ vs) v = ap (λ b. names_lane lane w || b) (points_push lane vs v) ∙ by (names_lane lane w)
  where
    by : (b : Bool) → (b || (points_to lane vs || names_lane lane v)) ≡ ((b || points_to lane vs) || names_lane lane v)
    by true = refl
    by false = refl

pub points_more : (lane : ℕ) (vs : List Value) (k : ℕ) (v : Value) (points names : Bool) → k < length vs → points ≡ points_to lane (take k vs) → names ≡ names_lane lane v → (points || names) ≡ points_to lane (take (k + 1) (slice_set vs k v))
points_more lane vs k v points names within p n = ap (λ b. b || names) p ∙ ap (λ b. points_to lane (take k vs) || b) n ∙ sym (points_push lane (take k vs) v) ∙ sym (ap (points_to lane) (take_more_set vs k v within))

-- what is not ahead of a mark stays, so the list does, and what comes next comes next
listed_stays : (lane : ℕ) (s t : Blocks) (kept mark : Option ℕ) (places : List ℕ) (q : ℕ) → IsListed lane s kept mark places → ((m n : ℕ) → HasObject s m → n ≤ m → n ≢ q → objects_in t n ≡ objects_in s n) → ((p : ℕ) → is_above mark p ≡ false → lane_of p ≡ s.lane → p ≢ q) → ((n : ℕ) → HasObject s n → HasObject t n) → t.lane ≡ s.lane → IsListed lane t kept mark places
listed_stays lane s t kept mark places q l stay apart there lane_same = record {
  mark_there = mark_stays s t mark there l.mark_there;
  past = l.past;
  sound = λ p h. let has = l.sound p h in let at = lies_in s p has.0 has.1 in (has.0, same p has.3 at.lane ∙ has.1, has.2, has.3, has.4);
  complete = λ p o f above below points. let at = lies_in t p o f in l.complete p o (sym (same p below (at.lane ∙ lane_same)) ∙ f) above below points;
  distinct = l.distinct;
}
  where
    same : (p : ℕ) → is_above mark p ≡ false → lane_of p ≡ s.lane → objects_in t p ≡ objects_in s p
    same p e at = by mark l.mark_there e (apart p e at)
      where
        by : (k : Option ℕ) → IsMark s k → is_above k p ≡ false → p ≢ q → objects_in t p ≡ objects_in s p
        by None h f d = cc
        by (Some m) h f d = stay m p h (not_above m p f) d

next_stays : (s t : Blocks) (mark : Option ℕ) (q : ℕ) → IsNextOf s mark q → ((m n : ℕ) → HasObject s m → n ≤ m → n ≢ q → objects_in t n ≡ objects_in s n) → ((n : ℕ) → HasObject s n → HasObject t n) → IsNextOf t mark q
next_stays s t mark q next stay there = record { there = there q next.there; above = next.above; least = λ p h above. by p h above (cases_lt p q) }
  where
    by : (p : ℕ) → HasObject t p → is_above mark p ≡ true → (p < q) ⊎ (q ≤ p) → q ≤ p
    by p h above (inr le) = le
    by p h above (inl lt) = next.least p (h.0, sym (stay q p next.there (omega (arith, lt)) (λ e. absurd (omega (arith, lt, e)))) ∙ h.1) above

-- an object is scanned, and listed if it is an old one that points to a young one
pub scanned_listed : (c d : Copies) (m : Marks) (s : ℕ) (places places' : List ℕ) (points : Bool) (a : Object) → c.tenured.lane ≢ c.young.lane → IsNext c m s → Stays c d → OthersStay c d s → IsListed c.young.lane c.tenured c.kept m.tenured places → made d s ≡ Some a → points ≡ points_to c.young.lane a.values → (lane_of s ≡ d.young.lane → places' ≡ places) → (lane_of s ≢ d.young.lane → places' ≡ cond points (places ++ s ∷ []) places) → IsListed d.young.lane d.tenured d.kept (passed d.young.lane m s).tenured places'
scanned_listed c d m s places places' points a apart next stays others l there told young old = subst (λ k. IsListed k d.tenured d.kept (passed d.young.lane m s).tenured places') (sym stays.young_lane) (subst (λ k. IsListed c.young.lane d.tenured k (passed d.young.lane m s).tenured places') (sym stays.kept) (by next))
  where
    by : IsNext c m s → IsListed c.young.lane d.tenured c.kept (passed d.young.lane m s).tenured places'
    by (inl h) =
        let base = listed_stays c.young.lane c.tenured d.tenured c.kept m.tenured places s l others (λ p e at same. apart (sym at ∙ ap lane_of same ∙ h.0)) stays.old_there stays.old_lane in
        let lane : lane_of s ≡ d.young.lane = h.0 ∙ sym stays.young_lane in
        subst (λ x. IsListed c.young.lane d.tenured c.kept x.tenured places') (sym (passed_young d.young.lane m s lane)) (subst (λ ps. IsListed c.young.lane d.tenured c.kept m.tenured ps) (sym (young lane)) base)
    by (inr h) =
        let base = listed_stays c.young.lane c.tenured d.tenured c.kept m.tenured places s l others (λ p e at same. let both : true ≡ false = sym h.1.above ∙ ap (is_above m.tenured) (sym same) ∙ e in cc) stays.old_there stays.old_lane in
        let lane : lane_of s ≢ d.young.lane = λ e. h.0 (e ∙ stays.young_lane) in
        let here = in_old lane (made_where d s a there) in
        subst (λ x. IsListed c.young.lane d.tenured c.kept x.tenured places') (sym (passed_old d.young.lane m s lane)) (listed_more c.young.lane d.tenured c.kept m.tenured places places' s a base (next_stays c.tenured d.tenured m.tenured s h.1 others stays.old_there) here (old lane ∙ ap (λ b. cond b (places ++ s ∷ []) places) told))
      where
        in_old : lane_of s ≢ d.young.lane → LiesYoung d s a ⊎ LiesOld d s a → objects_in d.tenured s ≡ Some a
        in_old n (inl x) = absurd (n x.lane)
        in_old n (inr x) = x.there
