-- What is put into the values of objects.
use Rattle.std.proofs.Common.{◌≡◌, ◌≢◌, ℕ, zero, suc, ◌+◌, ◌<◌, ◌≤◌, List, [], ◌∷◌, ◌++◌, Some, refl, sym, ap, ◌∙◌, subst, inl, inr, length, take, drop, get_or, arith, add-one, append_assoc, append-nil, length-append}
use Rattle.std.specs.Prelude.{slice_get, slice_set}
use Rattle.jm_values.specs.Shape.{Among}
use Rattle.jm_values.specs.Reach.{AllDistinct}
use Rattle.jm_values.specs.Rename.{refs, stack_shape, value_shape}
use Rattle.jm_values.specs.declared.value.Value.{Value}
use Rattle.jm_values.specs.declared.value.Value.TheVariants.{Int, Long, Null, Ref}
use Rattle.std.proofs.lemmas.List.{take-append-drop}
use Rattle.jm_values.proofs.Among.{among_left, among_right}
use Rattle.jm_values.proofs.Marking.{among_at}
use Rattle.jm_heap.proofs.MarkLemmas.{take_one_more}
use Rattle.jm_blocks.specs.Objects.{Object, with_value}
use Rattle.jm_blocks.specs.Stores.{Blocks, Changed, HasObject, IsSet, objects_in}
use Rattle.jm_gen_heap.specs.Collections.{AreRefilled, AreWrittenBack, fields_of, refs_in, with_values}
use Rattle.jm_gen_heap.specs.Fields.{IsPutInto}

-- the references of the first values
abbrev pub refs_to : ℕ → List Value → List ℕ
refs_to k vs = stack_shape.refs (take k vs)

-- the values of which the first have other references
abbrev pub partly : List ℕ → ℕ → List Value → List Value
partly ns k vs = stack_shape.refill ns (take k vs) ++ drop k vs

pub many_partly : (ns : List ℕ) (k : ℕ) (vs : List Value) → length (partly ns k vs) ≡ length vs
many_partly ns zero vs = refl
many_partly ns (suc k) [] = refl
many_partly ns (suc k) (v ∷ vs) = ap suc (many_partly (drop (length (refs v)) ns) k vs)

-- the next value is as it was
pub at_partly : (ns : List ℕ) (k : ℕ) (vs : List Value) → slice_get (partly ns k vs) k ≡ slice_get vs k
at_partly ns zero vs = refl
at_partly ns (suc k) [] = refl
at_partly ns (suc k) (v ∷ vs) = at_partly (drop (length (refs v)) ns) k vs

-- one value more that is no reference
pub partly_plain : (ns : List ℕ) (k : ℕ) (vs : List Value) (v : Value) → slice_get vs k ≡ Some v → ((ms : List ℕ) → value_shape.refill ms v ≡ v) → partly ns (suc k) vs ≡ partly ns k vs
partly_plain ns k [] v e same = cc
partly_plain ns zero (x ∷ vs) v e same = let h : x ≡ v = cc in ap (λ y. y ∷ vs) (subst (λ y. value_shape.refill ns y ≡ y) (sym h) (same ns))
partly_plain ns (suc k) (x ∷ vs) v e same = ap (λ ys. value_shape.refill ns x ∷ ys) (partly_plain (drop (length (refs x)) ns) k vs v e same)

-- one value more that is a reference
pub partly_ref : (ns : List ℕ) (k : ℕ) (vs : List Value) (p n : ℕ) → slice_get vs k ≡ Some (Ref p) → slice_get ns (length (refs_to k vs)) ≡ Some n → partly ns (suc k) vs ≡ slice_set (partly ns k vs) k (Ref n)
partly_ref ns k [] p n e there = cc
partly_ref [] zero (x ∷ vs) p n e there = cc
partly_ref (m ∷ ns) zero (x ∷ vs) p n e there =
    let h : x ≡ Ref p = cc in
    let i : m ≡ n = cc in
    ap (λ y. value_shape.refill (m ∷ ns) y ∷ vs) h ∙ ap (λ y. Ref y ∷ vs) i
partly_ref ns (suc k) (x ∷ vs) p n e there =
    ap (λ ys. value_shape.refill ns x ∷ ys) (partly_ref (drop (length (refs x)) ns) k vs p n e (get_dropped (length (refs x)) (length (refs_to k vs)) ns n (ap (slice_get ns) (sym (length-append (refs x) (refs_to k vs))) ∙ there)))
  where
    get_dropped : (a b : ℕ) (ns : List ℕ) (n : ℕ) → slice_get ns (a + b) ≡ Some n → slice_get (drop a ns) b ≡ Some n
    get_dropped zero b ns n e = let z : zero + b ≡ b = omega arith in ap (slice_get ns) (sym z) ∙ e
    get_dropped (suc a) b [] n e = cc
    get_dropped (suc a) b (m ∷ ns) n e = get_dropped a b ns n (let z : suc a + b ≡ suc (a + b) = omega arith in ap (slice_get (m ∷ ns)) (sym z) ∙ e)

-- the references of one value more
pub refs_next : (k : ℕ) (vs : List Value) (v : Value) → slice_get vs k ≡ Some v → refs_to (suc k) vs ≡ refs_to k vs ++ refs v
refs_next k [] v e = cc
refs_next zero (x ∷ vs) v e = let h : x ≡ v = cc in append-nil (refs x) ∙ ap refs h
refs_next (suc k) (x ∷ vs) v e = ap (λ ys. refs x ++ ys) (refs_next k vs v e) ∙ sym (append_assoc (refs x) (refs_to k vs) (refs v))

-- they are among those of all
pub refs_within : (k : ℕ) (vs : List Value) → length (refs_to k vs) ≤ length (stack_shape.refs vs)
refs_within zero vs = omega arith
refs_within (suc k) [] = omega arith
refs_within (suc k) (x ∷ vs) = let more = refs_within k vs in omega (arith, more, length-append (refs x) (refs_to k vs), length-append (refs x) (stack_shape.refs vs))

pub all_values : (ns : List ℕ) (k : ℕ) (vs : List Value) → length vs ≤ k → partly ns k vs ≡ stack_shape.refill ns vs
all_values ns zero [] h = refl
all_values ns (suc k) [] h = refl
all_values ns zero (v ∷ vs) h = absurd (omega arith)
all_values ns (suc k) (v ∷ vs) h = ap (λ ys. value_shape.refill ns v ∷ ys) (all_values (drop (length (refs v)) ns) k vs (omega arith))

pub all_refs : (k : ℕ) (vs : List Value) → length vs ≤ k → refs_to k vs ≡ stack_shape.refs vs
all_refs zero [] h = refl
all_refs (suc k) [] h = refl
all_refs zero (v ∷ vs) h = absurd (omega arith)
all_refs (suc k) (v ∷ vs) h = ap (λ ys. refs v ++ ys) (all_refs k vs (omega arith))

-- where the first places lie
pub get_past : (a b : ℕ) (ns : List ℕ) → slice_get (drop a ns) b ≡ slice_get ns (a + b)
get_past zero b ns = let z : zero + b ≡ b = omega arith in ap (slice_get ns) (sym z)
get_past (suc a) b [] = refl
get_past (suc a) b (m ∷ ns) = get_past a b ns ∙ (let z : suc a + b ≡ suc (a + b) = omega arith in ap (slice_get (m ∷ ns)) (sym z))

-- how far an object's references are put: those of its first values
pub record IsPutTo (old new : Blocks) (p first next k : ℕ) (places : List ℕ) : Type 0 where
  pub come : (o : Object) → objects_in old p ≡ Some o → next ≡ first + length (refs_to k o.values)
  pub here : (o : Object) → objects_in old p ≡ Some o → objects_in new p ≡ Some (with_values o (partly (drop first places) k o.values))
  pub others : (q : ℕ) → q ≢ p → objects_in new q ≡ objects_in old q
  pub lane : new.lane ≡ old.lane

-- and one value more, a reference or another
pub put_ref : {old mid new : Blocks} {p first next k : ℕ} {places : List ℕ} {r n : ℕ} {o : Object} → IsPutTo old mid p first next k places → objects_in old p ≡ Some o → slice_get o.values k ≡ Some (Ref r) → slice_get places next ≡ Some n → IsSet mid new p k (Ref n) → new.lane ≡ mid.lane → IsPutTo old new p first (next + 1) (k + 1) places
put_ref {old = old} {mid = mid} {new = new} {p = p} {first = first} {next = next} {k = k} {places = places} {r = r} {n = n} {o = o} i e there read set lane = subst (λ m. IsPutTo old new p first (next + 1) m places) (sym (add-one k)) (record {
  come = λ x f. let same : x ≡ o = cc in
      let before = i.come o e in
      let count = ap length (refs_next k o.values (Ref r) there) in
      let one = length-append (refs_to k o.values) (r ∷ []) in
      let are : length (refs_to (suc k) x.values) ≡ length (refs_to (suc k) o.values) = ap (λ y. length (refs_to (suc k) y.values)) same in
      omega (arith, before, count, one, are);
  here = λ x f. let same : x ≡ o = cc in
      let at : slice_get (drop first places) (length (refs_to k o.values)) ≡ Some n = get_past first (length (refs_to k o.values)) places ∙ ap (slice_get places) (sym (i.come o e)) ∙ read in
      changed.here
      ∙ ap (λ vs. Some (with_values o vs)) (sym (partly_ref (drop first places) k o.values r n there at))
      ∙ ap (λ y. Some (with_values y (partly (drop first places) (suc k) y.values))) (sym same);
  others = λ q d. changed.others q d ∙ i.others q d;
  lane = lane ∙ i.lane;
})
  where
    changed : Changed mid new p (with_value (with_values o (partly (drop first places) k o.values)) k (Ref n))
    changed = set (with_values o (partly (drop first places) k o.values)) (i.here o e)

pub put_plain : {old new : Blocks} {p first next k : ℕ} {places : List ℕ} {v : Value} {o : Object} → IsPutTo old new p first next k places → objects_in old p ≡ Some o → slice_get o.values k ≡ Some v → refs v ≡ [] → ((ms : List ℕ) → value_shape.refill ms v ≡ v) → IsPutTo old new p first next (k + 1) places
put_plain {old = old} {new = new} {p = p} {first = first} {next = next} {k = k} {places = places} {v = v} {o = o} i e there none stays = subst (λ m. IsPutTo old new p first next m places) (sym (add-one k)) (record {
  come = λ x f. let same : x ≡ o = cc in
      let before = i.come o e in
      let count = ap length (refs_next k o.values v there ∙ ap (λ ms. refs_to k o.values ++ ms) none) in
      let one = length-append (refs_to k o.values) [] in
      let are : length (refs_to (suc k) x.values) ≡ length (refs_to (suc k) o.values) = ap (λ y. length (refs_to (suc k) y.values)) same in
      omega (arith, before, count, one, are);
  here = λ x f. let same : x ≡ o = cc in
      i.here o e
      ∙ ap (λ vs. Some (with_values o vs)) (sym (partly_plain (drop first places) k o.values v there stays))
      ∙ ap (λ y. Some (with_values y (partly (drop first places) (suc k) y.values))) (sym same);
  others = i.others;
  lane = i.lane;
})

-- a value that is read of the object on the way is one of those before
pub value_before : {old mid : Blocks} {p first next k : ℕ} {places : List ℕ} {v : Value} {o : Object} → IsPutTo old mid p first next k places → objects_in old p ≡ Some o → ((a : Object) → objects_in mid p ≡ Some a → slice_get a.values k ≡ Some v) → slice_get o.values k ≡ Some v
value_before {first = first} {k = k} {places = places} {o = o} i e read = sym (at_partly (drop first places) k o.values) ∙ read (with_values o (partly (drop first places) k o.values)) (i.here o e)

-- there is a place for each reference
pub place_left : {old mid : Blocks} {p first next k : ℕ} {places : List ℕ} {r : ℕ} {o : Object} → IsPutTo old mid p first next k places → objects_in old p ≡ Some o → slice_get o.values k ≡ Some (Ref r) → first + length (stack_shape.refs o.values) ≤ length places → next < length places
place_left {k = k} {r = r} {o = o} i e there enough =
    let more = ap length (refs_next k o.values (Ref r) there) in
    let one = length-append (refs_to k o.values) (r ∷ []) in
    let all = refs_within (suc k) o.values in
    let before = i.come o e in
    omega (arith, more, one, all, before, enough)

-- a value that is no reference
pub not_ref : (v : Value) → ((p : ℕ) → v ≡ Ref p → ⊥) → (refs v ≡ []) × ((ms : List ℕ) → value_shape.refill ms v ≡ v)
not_ref (Ref p) h = absurd (h p refl)
not_ref (Int n) h = (refl, λ ms. by ms)
  where
    by : (ms : List ℕ) → value_shape.refill ms (Int n) ≡ Int n
    by [] = refl
    by (m ∷ ms) = refl
not_ref (Long n) h = (refl, λ ms. by ms)
  where
    by : (ms : List ℕ) → value_shape.refill ms (Long n) ≡ Long n
    by [] = refl
    by (m ∷ ms) = refl
not_ref Null h = (refl, λ ms. by ms)
  where
    by : (ms : List ℕ) → value_shape.refill ms Null ≡ Null
    by [] = refl
    by (m ∷ ms) = refl

drop_none : (n : ℕ) → drop {A = ℕ} n [] ≡ []
drop_none zero = refl
drop_none (suc n) = refl

drop_drop : (a b : ℕ) (ns : List ℕ) → drop b (drop a ns) ≡ drop (a + b) ns
drop_drop zero b ns = let e : zero + b ≡ b = omega arith in ap (λ n. drop n ns) (sym e)
drop_drop (suc a) b [] = drop_none b ∙ sym (drop_none (suc a + b))
drop_drop (suc a) b (n ∷ ns) = drop_drop a b ns ∙ (let e : suc a + b ≡ suc (a + b) = omega arith in ap (λ m. drop m (n ∷ ns)) (sym e))

fields_append : (s : Blocks) (ps qs : List ℕ) → fields_of s (ps ++ qs) ≡ fields_of s ps ++ fields_of s qs
fields_append s [] qs = refl
fields_append s (p ∷ ps) qs = ap (λ ns. refs_in (objects_in s p) ++ ns) (fields_append s ps qs) ∙ sym (append_assoc (refs_in (objects_in s p)) (fields_of s ps) (fields_of s qs))

-- the fields of one object more
pub fields_next : (s : Blocks) (ps : List ℕ) (i p : ℕ) → i < length ps → p ≡ get_or ps i p → fields_of s (take (i + 1) ps) ≡ fields_of s (take i ps) ++ refs_in (objects_in s p)
fields_next s ps i p h e =
    ap (fields_of s) (take_one_more ps i p h e)
    ∙ fields_append s (take i ps) (p ∷ [])
    ∙ ap (λ ns. fields_of s (take i ps) ++ ns) (append-nil (refs_in (objects_in s p)))

-- are among those of all
pub fields_within : (s : Blocks) (ps : List ℕ) (i p : ℕ) → i < length ps → p ≡ get_or ps i p → length (fields_of s (take i ps)) + length (refs_in (objects_in s p)) ≤ length (fields_of s ps)
fields_within s ps i p h e =
    let next = ap length (fields_next s ps i p h e) ∙ length-append (fields_of s (take i ps)) (refs_in (objects_in s p)) in
    let all = ap (λ qs. length (fields_of s qs)) (sym (take-append-drop (i + 1) ps)) ∙ ap length (fields_append s (take (i + 1) ps) (drop (i + 1) ps)) ∙ length-append (fields_of s (take (i + 1) ps)) (fields_of s (drop (i + 1) ps)) in
    omega (arith, next, all)

-- a place of distinct ones is not among those before it
pub not_before : (ps : List ℕ) (i p : ℕ) → AllDistinct ps → i < length ps → p ≡ get_or ps i p → Among p (take i ps) → ⊥
not_before [] i p d h e a = absurd (omega arith)
not_before (x ∷ ps) zero p d h e a = a
not_before (x ∷ ps) (suc i) p d h e (inl same) = d.0 (subst (λ y. Among y ps) same (among_at ps i p (omega arith) e))
not_before (x ∷ ps) (suc i) p d h e (inr a) = not_before ps i p d.1 (omega arith) e a

-- one object more is refilled
refilled_more : (ps names : List ℕ) (q : ℕ) (old mid new : Blocks) → ((p : ℕ) → Among p ps → objects_in new p ≡ objects_in mid p) → AreRefilled ps names old mid → ((o : Object) → objects_in old q ≡ Some o → objects_in new q ≡ Some (with_values o (stack_shape.refill (drop (length (fields_of old ps)) names) o.values))) → AreRefilled (ps ++ q ∷ []) names old new
refilled_more [] names q old mid new same r here = (here, tt)
refilled_more (p ∷ ps) names q old mid new same r here = (
  λ o e. same p (inl refl) ∙ r.0 o e,
  refilled_more ps (drop (length (refs_in (objects_in old p))) names) q old mid new (λ x a. same x (inr a)) r.1
      (λ o e. here o e ∙ ap (λ ns. Some (with_values o (stack_shape.refill ns o.values))) (behind (refs_in (objects_in old p)) (fields_of old ps))),
)
  where
    behind : (xs ys : List ℕ) → drop (length (xs ++ ys)) names ≡ drop (length ys) (drop (length xs) names)
    behind xs ys = ap (λ n. drop n names) (length-append xs ys) ∙ sym (drop_drop (length xs) (length ys) names)

-- how far the objects have their references
pub record AreBackTo (objects places : List ℕ) (first next k : ℕ) (old new : Blocks) : Type 0 where
  pub come : next ≡ first + length (fields_of old (take k objects))
  pub back : AreWrittenBack (take k objects) (drop first places) old new

pub back_more : {objects places : List ℕ} {first next after k p : ℕ} {old mid new : Blocks} → AllDistinct objects → k < length objects → p ≡ get_or objects k p → AreBackTo objects places first next k old mid → HasObject old p → IsPutInto mid new p (drop next places) → ((o : Object) → objects_in mid p ≡ Some o → after ≡ next + length (stack_shape.refs o.values)) → AreBackTo objects places first after (k + 1) old new
back_more {objects = objects} {places = places} {first = first} {next = next} {k = k} {p = p} {old = old} {mid = mid} {new = new} d h e b there put count = record {
  come =
      let next_fields = ap length (fields_next old objects k p h e) ∙ length-append (fields_of old (take k objects)) (refs_in (objects_in old p)) in
      let here : length (refs_in (objects_in old p)) ≡ length (stack_shape.refs there.0.values) = ap (λ o. length (refs_in o)) there.1 in
      let come = b.come in
      let more = count there.0 (as_before ∙ there.1) in
      omega (arith, next_fields, here, come, more);
  back = subst (λ ps. AreWrittenBack ps (drop first places) old new) (sym (take_one_more objects k p h e)) (record {
    lane = put.lane ∙ b.back.lane;
    refilled = refilled_more (take k objects) (drop first places) p old mid new (λ q a. put.others q (λ s. away (subst (λ x. Among x (take k objects)) s a))) b.back.refilled
        (λ o f. put.here o (as_before ∙ f) ∙ ap (λ ns. Some (with_values o (stack_shape.refill ns o.values))) at);
    others = λ q none. put.others q (λ s. none (among_right q (take k objects) (p ∷ []) (inl s))) ∙ b.back.others q (λ a. none (among_left q (take k objects) (p ∷ []) a));
  });
}
  where
    away : Among p (take k objects) → ⊥
    away a = not_before objects k p d h e a

    as_before : objects_in mid p ≡ objects_in old p
    as_before = b.back.others p away

    at : drop next places ≡ drop (length (fields_of old (take k objects))) (drop first places)
    at = ap (λ n. drop n places) b.come ∙ sym (drop_drop first (length (fields_of old (take k objects))) places)

-- the fields of one object more, whose references were added
pub fields_added : (s : Blocks) (ps : List ℕ) (i p : ℕ) (before mid after vs : List ℕ) → i < length ps → p ≡ get_or ps i p → mid ≡ before ++ fields_of s (take i ps) → after ≡ mid ++ vs → refs_in (objects_in s p) ≡ vs → after ≡ before ++ fields_of s (take (i + 1) ps)
fields_added s ps i p before mid after vs h e m a r =
    a ∙ ap (λ xs. xs ++ vs) m ∙ append_assoc before (fields_of s (take i ps)) vs
    ∙ ap (λ xs. before ++ (fields_of s (take i ps) ++ xs)) (sym r)
    ∙ ap (λ xs. before ++ xs) (sym (fields_next s ps i p h e))
