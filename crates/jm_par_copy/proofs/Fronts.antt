-- What stands before copiers is reached.
use Rattle.std.proofs.Common.{◌≡◌, ◌≢◌, ◌⊎◌, ℕ, zero, suc, ◌+◌, ◌-◌, ◌<◌, List, [], ◌∷◌, ◌++◌, Option, Some, None, true, false, sym, ap, ◌∙◌, subst, inl, inr, length, cond, arith}
use Rattle.std.specs.Prelude.{slice_get, nat_eq, IfSome}
use Rattle.std.proofs.lemmas.Bool.{eq-eqb}
use Rattle.std.proofs.lemmas.Bool.Decides.{eqb_tells}
use Rattle.std.proofs.lemmas.Option.{slice_get_within}
use Rattle.jm_program.proofs.Numbers.{found_unequal}
use Rattle.jm_program.proofs.Sequences.{got_last, got_before_last}
use Rattle.jm_values.specs.declared.value.Value.TheVariants.{Ref}
use Rattle.jm_values.proofs.Lists.{get_there}
use Rattle.jm_heap.specs.Allocation.{AllPlaces}
use Rattle.jm_heap.specs.Packing.{kind_of}
use Rattle.jm_blocks.specs.Objects.{Object}
use Rattle.jm_blocks.specs.Places.{lane_of}
use Rattle.jm_blocks.specs.Stores.{Blocks}
use Rattle.jm_forward.specs.Hands.{TableView}
use Rattle.jm_copy.specs.Copies.{is_above, made}
use Rattle.jm_copy.specs.Condemned.{objects_at}
use Rattle.jm_copy.specs.Copying.{Copying, IsCopy, Progress}
use Rattle.jm_copy.specs.Image.{IsReached}
use Rattle.jm_copy.specs.Naming.{IsNamed, NamesNext}
use Rattle.jm_copy.specs.Marks.{IsNext, is_ahead, passed, progress}
use Rattle.jm_copy.specs.declared.copies.Copies.{Copies}
use Rattle.jm_copy.specs.declared.copies.Named.{Named}
use Rattle.jm_copy.specs.declared.scan.Marks.{Marks}
use Rattle.jm_copy.proofs.Making.{above_more, is_over}
use Rattle.jm_copy.proofs.Marking.{passed_old, passed_young}
use Rattle.jm_copy.proofs.Scanning.{rest}
use Rattle.jm_copy.proofs.Steps.{value_reached}
use Rattle.jm_par_copy.specs.Front.{Adds, CanWalkAll, IsAhead, IsAtFront, IsOneOf}
use Rattle.jm_par_copy.specs.Holding.{held_objects, held_progress}
use Rattle.jm_par_copy.specs.Round.{AreReady, IsReady}
use Rattle.jm_par_copy.specs.Working.{both, scan_progress}
use Rattle.jm_par_copy.specs.declared.copier.Copier.{Copier}
use Rattle.jm_par_copy.proofs.Sharing.{both_left}
use Rattle.jm_par_copy.proofs.Working.{mine}

-- nothing is added, or one place, or what another list has more
pub adds_none : (is : ℕ → Type 0) (ps : List ℕ) → Adds is ps ps
adds_none is ps i p e = inl (i, e)

pub all_more : (holds : ℕ → Type 0) (ps : List ℕ) (q : ℕ) → AllPlaces holds ps → holds q → AllPlaces holds (ps ++ q ∷ [])
all_more holds ps q all h i p e = by (eqb_tells i (length ps))
  where
    by : ((nat_eq i (length ps) ≡ true) × (i ≡ length ps)) ⊎ ((nat_eq i (length ps) ≡ false) × (i ≢ length ps)) → holds p
    by (inr d) = all i p (sym (got_before_last ps q i d.1) ∙ e)
    by (inl d) =
        let both : Some q ≡ Some p = sym (got_last ps q) ∙ ap (λ k. slice_get (ps ++ q ∷ []) k) (sym d.1) ∙ e in
        let same : q ≡ p = cc in
        subst holds same h

pub adds_more : (is : ℕ → Type 0) (ps qs : List ℕ) (q : ℕ) → Adds is ps qs → is q → Adds is ps (qs ++ q ∷ [])
adds_more is ps qs q adds h = all_more (λ p. IsOneOf ps p ⊎ is p) qs q adds (inr h)

pub adds_then : (is is' : ℕ → Type 0) (ps qs rs : List ℕ) → ((p : ℕ) → is' p → is p) → Adds is ps qs → Adds is' qs rs → Adds is ps rs
adds_then is is' ps qs rs f one other i p e = by (other i p e)
  where
    by : IsOneOf qs p ⊎ is' p → IsOneOf ps p ⊎ is p
    by (inl h) = one h.0 p h.1
    by (inr h) = inr (f p h)

pub all_added : (is holds : ℕ → Type 0) (ps qs : List ℕ) → ((p : ℕ) → is p → holds p) → AllPlaces holds ps → Adds is ps qs → AllPlaces holds qs
all_added is holds ps qs f all adds i p e = by (adds i p e)
  where
    by : IsOneOf ps p ⊎ is p → holds p
    by (inl h) = all h.0 p h.1
    by (inr h) = f p h

-- less is left behind a reference than from it on
pub rest_next : (a : Object) (k : ℕ) (r : Named) (next : Option Named) → IsNamed a.values (kind_of a.class) k r → NamesNext a (r.number + 1) next → IfSome next (λ q. q.end ≡ r.end) → rest next < rest (Some r)
unfolding rest
rest_next a k r None h n e = let less : 0 < suc (r.end - r.number) = omega arith in less
rest_next a k r (Some q) h n e =
    let less : suc (q.end - q.number) < suc (r.end - r.number) = omega (arith, n.from_on, n.ended.inside, h.ended.inside, e) in
    less

-- the next object is ahead of the marks, and what is ahead when they have passed it was so before
ahead_young : (lane : ℕ) (m : Marks) (n : ℕ) → lane_of n ≡ lane → is_ahead lane m n ≡ is_above m.young n
ahead_young lane m n e = ap (λ b. cond b (is_above m.young n) (is_above m.tenured n)) (eq-eqb (lane_of n) lane e)

ahead_old : (lane : ℕ) (m : Marks) (n : ℕ) → lane_of n ≢ lane → is_ahead lane m n ≡ is_above m.tenured n
ahead_old lane m n e = ap (λ b. cond b (is_above m.young n) (is_above m.tenured n)) (found_unequal (lane_of n) lane e)

pub next_ahead : (c : Copies) (m : Marks) (p : ℕ) → IsNext c m p → is_ahead c.young.lane m p ≡ true
next_ahead c m p (inl h) = ahead_young c.young.lane m p h.0 ∙ h.1.above
next_ahead c m p (inr h) = ahead_old c.young.lane m p h.0 ∙ h.1.above

pub ahead_passed : (c : Copies) (m : Marks) (s n : ℕ) → IsNext c m s → is_ahead c.young.lane (passed c.young.lane m s) n ≡ true → is_ahead c.young.lane m n ≡ true
ahead_passed c m s n next e = by next (eqb_tells (lane_of n) c.young.lane)
  where
    lane : ℕ
    lane = c.young.lane

    by : IsNext c m s → ((nat_eq (lane_of n) c.young.lane ≡ true) × (lane_of n ≡ c.young.lane)) ⊎ ((nat_eq (lane_of n) c.young.lane ≡ false) × (lane_of n ≢ c.young.lane)) → is_ahead c.young.lane m n ≡ true
    by (inl h) (inl i) =
        let now : is_above (Some s) n ≡ true = sym (ap (λ x. is_ahead lane x n) (passed_young lane m s h.0) ∙ ahead_young lane (record { young = Some s; tenured = m.tenured }) n i.1) ∙ e in
        ahead_young lane m n i.1 ∙ above_more m.young s n h.1.above (is_over s n now)
    by (inl h) (inr i) = ahead_old lane m n i.1 ∙ sym (ap (λ x. is_ahead lane x n) (passed_young lane m s h.0) ∙ ahead_old lane (record { young = Some s; tenured = m.tenured }) n i.1) ∙ e
    by (inr h) (inl i) = ahead_young lane m n i.1 ∙ sym (ap (λ x. is_ahead lane x n) (passed_old lane m s h.0) ∙ ahead_young lane (record { young = m.young; tenured = Some s }) n i.1) ∙ e
    by (inr h) (inr i) =
        let now : is_above (Some s) n ≡ true = sym (ap (λ x. is_ahead lane x n) (passed_old lane m s h.0) ∙ ahead_old lane (record { young = m.young; tenured = Some s }) n i.1) ∙ e in
        ahead_old lane m n i.1 ∙ above_more m.tenured s n h.1.above (is_over s n now)

-- what an object names of which nothing is scanned is reached
pub reached_ahead : {old : ℕ → Option Object} {roots : List ℕ} (known won : ℕ → ℕ → Type 0) (new : ℕ → Option Object) (done : Progress) (n i p : ℕ) (a b : Object) → Copying old roots known won new done → done n (length a.values) ≡ 0 → new n ≡ Some a → slice_get a.values i ≡ Some (Ref p) → old p ≡ Some b → IsReached old roots p
reached_ahead {old} {roots} known won new done n i p a b c none e g h =
    let q = c.onto n a e in
    let has = c.copied q.0 n q.1 in
    let both : Some has.a ≡ Some a = sym has.new_is ∙ e in
    let is : has.a ≡ a = cc in
    let same : length has.o.values ≡ length a.values = sym has.copy.values.many ∙ ap (λ x. length x.values) is in
    let here : done n (length has.o.values) ≡ 0 = ap (λ x. done n x) same ∙ none in
    let copy : IsCopy old known 0 has.o a = subst (λ x. IsCopy old known 0 has.o x) is (subst (λ x. IsCopy old known x has.o has.a) here has.copy) in
    let within = slice_get_within a.values i (Ref p) g in
    let v = get_there has.o.values i (let many = copy.values.many in omega (arith, many, within)) in
    let raw : Ref p ≡ v.0 = copy.values.rest i v.0 (Ref p) (omega arith) v.1 g in
    value_reached old roots q.0 i p has.o b (c.reached q.0 n q.1) has.old_is (v.1 ∙ ap (λ x. Some x) (sym raw)) h

none_ahead : (lane : ℕ) (m : Marks) (n count : ℕ) → is_ahead lane m n ≡ true → progress lane m n count ≡ 0
unfolding progress
none_ahead lane m n count e = ap (λ b. cond b 0 count) e

pub ahead_is_reached : (stores : List Blocks) (roots : List ℕ) (words : TableView) (c : Copier) (p : ℕ) (b : Object) → IsReady stores roots words c → IsAhead c p → objects_at stores p ≡ Some b → IsReached (objects_at stores) roots p
ahead_is_reached stores roots words c p b ready at e =
    let w = ready.holding in
    let rest = held_objects c.given.items in
    let rest_done = held_progress c.given.items in
    let lane = c.own.to.young.lane in
    let none = w.3.once at.place at.object at.there in
    let done = mine stores roots w.0 w.1 w.2 rest rest_done lane c.marks at.place (length at.object.values) none ∙ none_ahead lane c.marks at.place (length at.object.values) at.ahead in
    reached_ahead _ _ (both (made c.own.to) rest) (scan_progress lane c.marks rest rest_done) at.place at.named.0 p at.object b w.3.copying done (both_left (made c.own.to) rest at.place at.object at.there) at.named.1 e

-- so of each of several copiers that are ready
pub ready_at : (stores : List Blocks) (roots : List ℕ) (words : TableView) (cs : List Copier) (i : ℕ) (c : Copier) → AreReady stores roots words cs → slice_get cs i ≡ Some c → IsReady stores roots words c
ready_at stores roots words [] i c r e = cc
ready_at stores roots words (d ∷ cs) zero c r e = let same : d ≡ c = cc in subst (λ x. IsReady stores roots words x) same r.0
ready_at stores roots words (d ∷ cs) (suc i) c r e = ready_at stores roots words cs i c r.1 e

pub walk_all : (stores : List Blocks) (roots : List ℕ) (words : TableView) (cs : List Copier) → AreReady stores roots words cs → CanWalkAll cs
walk_all stores roots words cs r i c e = let ready = ready_at stores roots words cs i c r e in (ready.marks, ready.holding.3.apart)

pub front_is_reached : (stores : List Blocks) (roots : List ℕ) (words : TableView) (cs : List Copier) (p : ℕ) (b : Object) → AreReady stores roots words cs → IsAtFront cs p → objects_at stores p ≡ Some b → IsReached (objects_at stores) roots p
front_is_reached stores roots words cs p b r at e = ahead_is_reached stores roots words at.1 p b (ready_at stores roots words cs at.0 at.1 r at.2) at.3 e
