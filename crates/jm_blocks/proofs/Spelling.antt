-- What is read from a block, and what a bump and a write change.
use Rattle.std.proofs.Common.{◌≡◌, ◌≢◌, ℕ, zero, suc, ◌+◌, ◌-◌, ◌<◌, ◌≤◌, List, [], ◌∷◌, ◌++◌, Bool, true, false, cond, Some, refl, sym, ap, ◌∙◌, subst, inl, inr, ◌⊎◌, length, arith, take, drop, get_or}
use Rattle.std.specs.Prelude.{slice_get, slice_set}
use Rattle.std.proofs.lemmas.List.{take-append-le, drop-append-le, take_all, drop-set-lt, drop-set-add, take-set-le, length-drop, length-take, drop-take, length-map}
use Rattle.std.proofs.lemmas.Option.{slice_get_within, slice_get_read}
use Rattle.jm_values.specs.declared.value.Value.{Value}
use Rattle.jm_blocks.specs.Objects.{Object, object_of, with_value}
use Rattle.jm_heap.specs.Packing.{Lists, list_of, with_list, kind_of, same_kind}
use Rattle.jm_blocks.specs.Spelled.{spelled, entry_kind, entry_object, share, end_of, IsBlock}
use Rattle.jm_heap.specs.declared.storage.Storage.{Storage as Kind}
use Rattle.jm_blocks.specs.Entries.{Entry}
use Rattle.jm_blocks.proofs.KindLists.{same_self, same_is, own_list, other_list}

pub share_own : (e : Entry) → share (entry_kind e) e ≡ e.length
share_own e = ap (λ b. cond b e.length 0) (same_self (entry_kind e))

pub share_at_most : (k : Kind) (e : Entry) → share k e ≤ e.length
share_at_most k e = by (same_kind (entry_kind e) k)
  where
    by : (b : Bool) → cond b e.length 0 ≤ e.length
    by true = omega arith
    by false = omega arith

pub end_push : (k : Kind) (es : List Entry) (e : Entry) → end_of k (es ++ e ∷ []) ≡ end_of k es + share k e
end_push k [] e = omega arith
end_push k (g ∷ es) e = let more = end_push k es e in omega (arith, more)

-- what an entry takes ends before the list does
pub share_within : (k : Kind) (es : List Entry) (i : ℕ) (e : Entry) → slice_get es i ≡ Some e → end_of k (take i es) + share k e ≤ end_of k es
share_within k [] i e h = cc
share_within k (g ∷ es) zero e h = let same : share k g ≡ share k e = cc in omega (arith, same)
share_within k (g ∷ es) (suc i) e h = let rest = share_within k es i e h in omega (arith, rest)

-- and before what a later one takes begins
pub share_before : (k : Kind) (es : List Entry) (i j : ℕ) (d : Entry) → i < j → slice_get es i ≡ Some d → end_of k (take i es) + share k d ≤ end_of k (take j es)
share_before k [] i j d b h = cc
share_before k (g ∷ es) i zero d b h = absurd (omega arith)
share_before k (g ∷ es) zero (suc j) d b h = let same : share k g ≡ share k d = cc in omega (arith, same)
share_before k (g ∷ es) (suc i) (suc j) d b h = let rest = share_before k es i j d (omega arith) h in omega (arith, rest)

pub entry_within : (es : List Entry) (l : Lists) (cells i : ℕ) (e : Entry) → IsBlock es l cells → slice_get es i ≡ Some e → e.start + e.length ≤ length (list_of (entry_kind e) l)
entry_within es l cells i e b h = omega (arith, share_within (entry_kind e) es i e h, share_own e, b.starts i e h, b.ends (entry_kind e))

pub length_spelled : (es : List Entry) (l : Lists) → length (spelled es l) ≡ length es
length_spelled es l = length-map es (entry_object l)

pub spelled_get : (es : List Entry) (l : Lists) (i : ℕ) (e : Entry) → slice_get es i ≡ Some e → slice_get (spelled es l) i ≡ Some (entry_object l e)
spelled_get [] l i e h = cc
spelled_get (g ∷ es) l zero e h = let same : g ≡ e = cc in ap (λ x. Some (entry_object l x)) same
spelled_get (g ∷ es) l (suc i) e h = spelled_get es l i e h

-- two lists of objects, entry by entry
spelled_same : (es : List Entry) (l m : Lists) → ((i : ℕ) (e : Entry) → slice_get es i ≡ Some e → entry_object m e ≡ entry_object l e) → spelled es m ≡ spelled es l
spelled_same [] l m h = refl
spelled_same (e ∷ es) l m h =
    ap (λ o. o ∷ spelled es m) (h zero e refl) ∙ ap (λ os. entry_object l e ∷ os) (spelled_same es l m (λ i g s. h (suc i) g s))

spelled_changed : (es : List Entry) (l m : Lists) (k : ℕ) (h : Entry) (o : Object) → slice_get es k ≡ Some h → entry_object m h ≡ o → ((i : ℕ) (e : Entry) → slice_get es i ≡ Some e → i ≢ k → entry_object m e ≡ entry_object l e) → spelled es m ≡ slice_set (spelled es l) k o
spelled_changed [] l m k h o at is others = cc
spelled_changed (e ∷ es) l m zero h o at is others =
    let same : e ≡ h = cc in
    ap (λ x. x ∷ spelled es m) (ap (entry_object m) same ∙ is) ∙ ap (λ os. o ∷ os) (spelled_same es l m (λ i g s. others (suc i) g s (λ z. absurd (omega (arith, z)))))
spelled_changed (e ∷ es) l m (suc k) h o at is others =
    ap (λ x. x ∷ spelled es m) (others zero e refl (λ z. absurd (omega (arith, z)))) ∙ ap (λ os. entry_object l e ∷ os) (spelled_changed es l m k h o at is (λ i g s n. others (suc i) g s (λ z. n (omega (arith, z)))))

pub spelled_push : (es : List Entry) (l : Lists) (h : Entry) → spelled (es ++ h ∷ []) l ≡ spelled es l ++ entry_object l h ∷ []
spelled_push [] l h = refl
spelled_push (e ∷ es) l h = ap (λ os. entry_object l e ∷ os) (spelled_push es l h)

part_pushed : (n s : ℕ) (xs ws : List Value) → s + n ≤ length xs → take n (drop s (xs ++ ws)) ≡ take n (drop s xs)
part_pushed n s xs ws h =
    ap (take n) (drop-append-le s xs ws (omega (arith, h))) ∙ take-append-le n (drop s xs) ws (omega (arith, h, length-drop s xs))

pub part_length : (n s : ℕ) (xs : List Value) → s + n ≤ length xs → n ≡ length (take n (drop s xs))
part_length n s xs h = let short = length-take n (drop s xs) in let less = length-drop s xs in omega (arith, h, short, less)

part_new : (n s : ℕ) (xs ws : List Value) → s ≡ length xs → n ≡ length ws → take n (drop s (xs ++ ws)) ≡ ws
part_new n s xs ws a b =
    ap (λ i. take n (drop i (xs ++ ws))) a ∙ ap (take n) (past xs) ∙ take_all n ws (omega (arith, b))
  where
    past : (ys : List Value) → drop (length ys) (ys ++ ws) ≡ ws
    past [] = refl
    past (y ∷ ys) = past ys

part_set_after : (n s m : ℕ) (xs : List Value) (v : Value) → s + n ≤ m → take n (drop s (slice_set xs m v)) ≡ take n (drop s xs)
part_set_after n s m xs v h =
    let at : m ≡ s + (m - s) = omega (arith, h) in
    ap (λ i. take n (drop s (slice_set xs i v))) at ∙ ap (take n) (drop-set-add s xs (m - s) v) ∙ take-set-le n (drop s xs) (m - s) v (omega (arith, h))

part_set_before : (n s m : ℕ) (xs : List Value) (v : Value) → m < s → take n (drop s (slice_set xs m v)) ≡ take n (drop s xs)
part_set_before n s m xs v h = ap (take n) (drop-set-lt s xs m v h)

take_set : (n i : ℕ) (vs : List Value) (v : Value) → take n (slice_set vs i v) ≡ slice_set (take n vs) i v
take_set zero i vs v = refl
take_set (suc n) i [] v = refl
take_set (suc n) zero (u ∷ us) v = refl
take_set (suc n) (suc i) (u ∷ us) v = ap (λ ws. u ∷ ws) (take_set n i us v)

part_set : (n s i : ℕ) (xs : List Value) (v : Value) → take n (drop s (slice_set xs (s + i) v)) ≡ slice_set (take n (drop s xs)) i v
part_set n s i xs v = ap (take n) (drop-set-add s xs i v) ∙ take_set n i (drop s xs) v

part_cut : (n s m : ℕ) (xs : List Value) → s + n ≤ m → take n (drop s (take m xs)) ≡ take n (drop s xs)
part_cut n s m xs h =
    let at : m ≡ s + (m - s) = omega (arith, h) in
    ap (λ i. take n (drop s (take i xs))) at ∙ ap (take n) (drop-take s (m - s) xs) ∙ shorter n (m - s) (drop s xs) (omega (arith, h))
  where
    shorter : (a b : ℕ) (ys : List Value) → a ≤ b → take a (take b ys) ≡ take a ys
    shorter zero b ys h = refl
    shorter (suc a) zero ys h = absurd (omega arith)
    shorter (suc a) (suc b) [] h = refl
    shorter (suc a) (suc b) (y ∷ ys) h = ap (λ zs. y ∷ zs) (shorter a b ys (omega arith))

-- lists of which one has changed, and in that one what an entry takes has not
entry_same : (l : Lists) (k : Kind) (vs : List Value) (e : Entry) → (k ≡ entry_kind e → take e.length (drop e.start vs) ≡ take e.length (drop e.start (list_of k l))) → entry_object (with_list k vs l) e ≡ entry_object l e
entry_same l k vs e h = by (same_kind k (entry_kind e)) refl
  where
    by : (b : Bool) → same_kind k (entry_kind e) ≡ b → entry_object (with_list k vs l) e ≡ entry_object l e
    by true is =
        let same : k ≡ entry_kind e = same_is k (entry_kind e) is in
        ap (λ j. object_of e.header (take e.length (drop e.start (list_of j (with_list k vs l))))) (sym same)
        ∙ ap (λ us. object_of e.header (take e.length (drop e.start us))) (own_list k vs l)
        ∙ ap (object_of e.header) (h same)
        ∙ ap (λ j. object_of e.header (take e.length (drop e.start (list_of j l)))) same
    by false is = ap (λ us. object_of e.header (take e.length (drop e.start us))) (other_list (entry_kind e) k vs l is)

entry_own : (l : Lists) (k : Kind) (vs : List Value) (e : Entry) → k ≡ entry_kind e → entry_object (with_list k vs l) e ≡ object_of e.header (take e.length (drop e.start vs))
entry_own l k vs e same =
    ap (λ j. object_of e.header (take e.length (drop e.start (list_of j (with_list k vs l))))) (sym same)
    ∙ ap (λ us. object_of e.header (take e.length (drop e.start us))) (own_list k vs l)

-- an object more
pub spelled_more : (es : List Entry) (l : Lists) (cells : ℕ) (k : Kind) (ws : List Value) (h : Entry) → IsBlock es l cells → k ≡ entry_kind h → h.start ≡ length (list_of k l) → h.length ≡ length ws → spelled (es ++ h ∷ []) (with_list k (list_of k l ++ ws) l) ≡ spelled es l ++ object_of h.header ws ∷ []
spelled_more es l cells k ws h b own start many =
    spelled_push es (with_list k (list_of k l ++ ws) l) h
    ∙ ap (λ os. os ++ entry_object (with_list k (list_of k l ++ ws) l) h ∷ []) (spelled_same es l (with_list k (list_of k l ++ ws) l) (λ i e s. entry_same l k (list_of k l ++ ws) e (λ same. part_pushed e.length e.start (list_of k l) ws (subst (λ j. e.start + e.length ≤ length (list_of j l)) (sym same) (entry_within es l cells i e b s)))))
    ∙ ap (λ o. spelled es l ++ o ∷ []) (entry_own l k (list_of k l ++ ws) h own ∙ ap (object_of h.header) (part_new h.length h.start (list_of k l) ws start many))

-- a value changed: two entries of one kind do not meet
pub spelled_set : (es : List Entry) (l : Lists) (cells j : ℕ) (h : Entry) (i : ℕ) (v : Value) → IsBlock es l cells → slice_get es j ≡ Some h → i < h.length → spelled es (with_list (entry_kind h) (slice_set (list_of (entry_kind h) l) (h.start + i) v) l) ≡ slice_set (spelled es l) j (with_value (entry_object l h) i v)
spelled_set es l cells j h i v b at inside =
    spelled_changed es l (with_list (entry_kind h) (slice_set (list_of (entry_kind h) l) (h.start + i) v) l) j h (with_value (entry_object l h) i v) at
    (entry_own l (entry_kind h) (slice_set (list_of (entry_kind h) l) (h.start + i) v) h refl ∙ ap (object_of h.header) (part_set h.length h.start i (list_of (entry_kind h) l) v))
    (λ n e s apart. entry_same l (entry_kind h) (slice_set (list_of (entry_kind h) l) (h.start + i) v) e (λ same. other n e s apart same))
  where
    other : (n : ℕ) (e : Entry) → slice_get es n ≡ Some e → n ≢ j → entry_kind h ≡ entry_kind e → take e.length (drop e.start (slice_set (list_of (entry_kind h) l) (h.start + i) v)) ≡ take e.length (drop e.start (list_of (entry_kind h) l))
    other n e s apart same = by (n_or n j apart)
      where
        n_or : (a c : ℕ) → a ≢ c → (a < c) ⊎ (c < a)
        n_or a c d = grind (arith, d)

        by : (n < j) ⊎ (j < n) → take e.length (drop e.start (slice_set (list_of (entry_kind h) l) (h.start + i) v)) ≡ take e.length (drop e.start (list_of (entry_kind h) l))
        by (inl before) =
            let ends : end_of (entry_kind e) (take n es) + share (entry_kind e) e ≤ end_of (entry_kind e) (take j es) = share_before (entry_kind e) es n j e before s in
            let own = share_own e in
            let mine = b.starts n e s in
            let its : h.start ≡ end_of (entry_kind e) (take j es) = subst (λ k. h.start ≡ end_of k (take j es)) same (b.starts j h at) in
            part_set_after e.length e.start (h.start + i) (list_of (entry_kind h) l) v (omega (arith, ends, own, mine, its))
        by (inr after) =
            let ends : end_of (entry_kind h) (take j es) + share (entry_kind h) h ≤ end_of (entry_kind h) (take n es) = share_before (entry_kind h) es j n h after at in
            let own = share_own h in
            let its = b.starts j h at in
            let mine : e.start ≡ end_of (entry_kind h) (take n es) = subst (λ k. e.start ≡ end_of k (take n es)) (sym same) (b.starts n e s) in
            part_set_before e.length e.start (h.start + i) (list_of (entry_kind h) l) v (omega (arith, ends, own, mine, its, inside))

-- the last object given up
pub spelled_less : (es : List Entry) (l : Lists) (cells : ℕ) (h : Entry) → IsBlock (es ++ h ∷ []) l cells → spelled es (with_list (entry_kind h) (take h.start (list_of (entry_kind h) l)) l) ≡ spelled es l
spelled_less es l cells h b =
    spelled_same es l (with_list (entry_kind h) (take h.start (list_of (entry_kind h) l)) l) (λ i e s. entry_same l (entry_kind h) (take h.start (list_of (entry_kind h) l)) e (λ same. part_cut e.length e.start h.start (list_of (entry_kind h) l) (below i e s same)))
  where
    below : (i : ℕ) (e : Entry) → slice_get es i ≡ Some e → entry_kind h ≡ entry_kind e → e.start + e.length ≤ h.start
    below i e s same =
        let there : slice_get (es ++ h ∷ []) i ≡ Some e = still es i e s in
        let last : slice_get (es ++ h ∷ []) (length es) ≡ Some h = at_end es in
        let before = share_before (entry_kind e) (es ++ h ∷ []) i (length es) e (slice_get_within es i e s) there in
        let own = share_own e in
        let mine = b.starts i e there in
        let its : h.start ≡ end_of (entry_kind e) (take (length es) (es ++ h ∷ [])) = subst (λ k. h.start ≡ end_of k (take (length es) (es ++ h ∷ []))) same (b.starts (length es) h last) in
        omega (arith, before, own, mine, its)
      where
        still : (ds : List Entry) (n : ℕ) (d : Entry) → slice_get ds n ≡ Some d → slice_get (ds ++ h ∷ []) n ≡ Some d
        still [] n d e = cc
        still (g ∷ ds) zero d e = e
        still (g ∷ ds) (suc n) d e = still ds n d e

        at_end : (ds : List Entry) → slice_get (ds ++ h ∷ []) (length ds) ≡ Some h
        at_end [] = refl
        at_end (g ∷ ds) = at_end ds

-- an object has an entry
pub entry_there : (es : List Entry) (l : Lists) (os : List Object) (k : ℕ) (o : Object) → spelled es l ≡ os → slice_get os k ≡ Some o → k < length es
entry_there es l os k o v e =
    let within = slice_get_within (spelled es l) k o (ap (λ xs. slice_get xs k) v ∙ e) in
    omega (arith, within, length_spelled es l)

-- the object of the entry that is read
module _ (es : List Entry) (l : Lists) (os : List Object) (k : ℕ) (h : Entry) (o : Object) (v : spelled es l ≡ os) (r : h ≡ get_or es k h) (e : slice_get os k ≡ Some o) where
  pub read_there : slice_get es k ≡ Some h
  read_there = slice_get_read es (length es) k h refl (entry_there es l os k o v e) r

  pub object_is : entry_object l h ≡ o
  object_is =
      let mine : slice_get os k ≡ Some (entry_object l h) = ap (λ xs. slice_get xs k) (sym v) ∙ spelled_get es l k h read_there in
      cc

pub kind_there : (es : List Entry) (l : Lists) (os : List Object) (kind : Kind) (k : ℕ) (h : Entry) (o : Object) → spelled es l ≡ os → kind ≡ entry_kind h → h ≡ get_or es k h → slice_get os k ≡ Some o → kind_of o.class ≡ kind
kind_there es l os kind k h o v own r e = ap (λ x. kind_of x.class) (sym (object_is es l os k h o v r e)) ∙ sym own

inside_entry : (l : Lists) (h : Entry) (i : ℕ) (o : Object) → entry_object l h ≡ o → i < length o.values → i < h.length
inside_entry l h i o is b =
    let many : length (take h.length (drop h.start (list_of (entry_kind h) l))) ≡ length o.values = ap (λ x. length x.values) is in
    let short = length-take h.length (drop h.start (list_of (entry_kind h) l)) in
    omega arith

-- where a value of an object lies
pub value_within : (es : List Entry) (l : Lists) (os : List Object) (cells : ℕ) (kind : Kind) (k i : ℕ) (h : Entry) (o : Object) → spelled es l ≡ os → IsBlock es l cells → kind ≡ entry_kind h → h ≡ get_or es k h → slice_get os k ≡ Some o → i < length o.values → h.start + i < length (list_of kind l)
value_within es l os cells kind k i h o v block own r e b =
    let at = entry_within es l cells k h block (read_there es l os k h o v r e) in
    let inside = inside_entry l h i o (object_is es l os k h o v r e) b in
    subst (λ j. h.start + i < length (list_of j l)) (sym own) (omega (arith, at, inside))

get_take : (n i : ℕ) (vs : List Value) → i < n → slice_get (take n vs) i ≡ slice_get vs i
get_take zero i vs h = absurd (omega arith)
get_take (suc n) i [] h = refl
get_take (suc n) zero (v ∷ vs) h = refl
get_take (suc n) (suc i) (v ∷ vs) h = get_take n i vs (omega arith)

get_take_drop : (n m i : ℕ) (vs : List Value) → i < n → slice_get (take n (drop m vs)) i ≡ slice_get vs (m + i)
get_take_drop n zero i vs h = let at : i ≡ zero + i = omega arith in get_take n i vs h ∙ ap (slice_get vs) at
get_take_drop n (suc m) i [] h = get_take n i [] h
get_take_drop n (suc m) i (v ∷ vs) h = let at : suc (m + i) ≡ suc m + i = omega arith in get_take_drop n m i vs h ∙ ap (slice_get (v ∷ vs)) at

-- one value of an object, read where it lies
pub value_read : (es : List Entry) (l : Lists) (os : List Object) (cells : ℕ) (kind : Kind) (k i : ℕ) (h : Entry) (u : Value) (o : Object) → spelled es l ≡ os → IsBlock es l cells → kind ≡ entry_kind h → h ≡ get_or es k h → slice_get os k ≡ Some o → i < length o.values → slice_get (list_of kind l) (h.start + i) ≡ Some u → slice_get o.values i ≡ Some u
value_read es l os cells kind k i h u o v block own r e b read =
    let inside = inside_entry l h i o (object_is es l os k h o v r e) b in
    ap (λ x. slice_get x.values i) (sym (object_is es l os k h o v r e))
    ∙ get_take_drop h.length h.start i (list_of (entry_kind h) l) inside
    ∙ ap (λ j. slice_get (list_of j l) (h.start + i)) (sym own)
    ∙ read

-- and written there
pub value_set : (es : List Entry) (l : Lists) (os : List Object) (cells : ℕ) (kind : Kind) (k i : ℕ) (h : Entry) (u : Value) (o : Object) → spelled es l ≡ os → IsBlock es l cells → kind ≡ entry_kind h → h ≡ get_or es k h → slice_get os k ≡ Some o → i < length o.values → spelled es (with_list kind (slice_set (list_of kind l) (h.start + i) u) l) ≡ slice_set os k (with_value o i u)
value_set es l os cells kind k i h u o v block own r e b =
    let is = object_is es l os k h o v r e in
    ap (λ j. spelled es (with_list j (slice_set (list_of j l) (h.start + i) u) l)) own
    ∙ spelled_set es l cells k h i u block (read_there es l os k h o v r e) (inside_entry l h i o is b)
    ∙ ap (λ x. slice_set (spelled es l) k (with_value x i u)) is
    ∙ ap (λ xs. slice_set xs k (with_value o i u)) v

pub object_there : (os : List Object) (k : ℕ) → k < length os → (o : Object) × (slice_get os k ≡ Some o)
object_there [] k b = absurd (omega arith)
object_there (o ∷ os) zero b = (o, refl)
object_there (o ∷ os) (suc k) b = object_there os k (omega arith)
