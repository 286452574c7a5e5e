-- Spans of a large array, one behind the other.
use Rattle.std.proofs.Common.{◌≡◌, ◌≢◌, ◌⊎◌, ℕ, zero, suc, ◌+◌, ◌-◌, ◌<◌, ◌≤◌, List, [], ◌∷◌, ◌++◌, Some, None, true, false, refl, sym, ap, ◌∙◌, subst, inl, inr, length, append_assoc, arith, drop}
use Rattle.std.specs.Prelude.{slice_get, MatchOption, nat_eq}
use Rattle.std.proofs.lemmas.Bool.Decides.{eqb_tells}
use Rattle.std.proofs.lemmas.Bool.{cases_lt}
use Rattle.std.proofs.lemmas.List.{length-append}
use Rattle.std.proofs.lemmas.List.Elements.{Contains-append_left, Contains-append_right}
use Rattle.jm_program.proofs.Sequences.{first_left, got_before_last, got_behind, got_last, got_within}
use Rattle.jm_heap.specs.Packing.{reference}
use Rattle.jm_values.specs.declared.value.Value.TheVariants.{Ref}
use Rattle.jm_blocks.specs.Stores.{Blocks}
use Rattle.jm_forward.specs.Hands.{all_known}
use Rattle.jm_copy.specs.Condemned.{AreLanes, objects_at}
use Rattle.jm_copy.specs.Copying.{Forwarded}
use Rattle.jm_copy.proofs.Numbering.{none_below}
use Rattle.jm_copy.proofs.Steps.{forwarded_grows}
use Rattle.jm_par_copy.specs.Copiers.{hands}
use Rattle.jm_par_copy.specs.Spans.{AreForwardedReferences, AreSpans, NoneIsNull, spans_of}
use Rattle.jm_par_copy.specs.Working.{Pairs}
use Rattle.jm_par_copy.specs.declared.copier.Copier.{Copier}
use Rattle.jm_par_copy.proofs.Sharing.{pairs_more}

-- what is no place is null, and null stays
null_is_zero : (r : ℕ) → ((p : ℕ) → reference r ≢ Ref p) → r ≡ 0
null_is_zero zero h = refl
null_is_zero (suc n) h = absurd (h (suc n) refl)

pub place_is : (r p : ℕ) → reference r ≡ Ref p → r ≡ p
place_is zero p e = cc
place_is (suc n) p e = cc

pub place_is_some : (q p : ℕ) → reference q ≡ Ref p → 0 < q
place_is_some zero p e = cc
place_is_some (suc q) p e = omega arith

-- one more that is not null where there was none
pub some_more : (rs qs : List ℕ) (p q : ℕ) → NoneIsNull rs qs → slice_get rs (length qs) ≡ Some p → (0 < p → 0 < q) → NoneIsNull rs (qs ++ q ∷ [])
some_more rs qs p q some at f i r s a b more = by (eqb_tells i (length qs))
  where
    by : ((nat_eq i (length qs) ≡ true) × (i ≡ length qs)) ⊎ ((nat_eq i (length qs) ≡ false) × (i ≢ length qs)) → 0 < s
    by (inr d) = some i r s a (sym (got_before_last qs q i d.1) ∙ b) more
    by (inl d) =
        let from : Some p ≡ Some r = sym at ∙ ap (slice_get rs) (sym d.1) ∙ a in
        let to : Some q ≡ Some s = sym (got_last qs q) ∙ ap (slice_get (qs ++ q ∷ [])) (sym d.1) ∙ b in
        let same_from : p ≡ r = cc in
        let same_to : q ≡ s = cc in
        subst (λ k. 0 < k) same_to (f (subst (λ k. 0 < k) (sym same_from) more))

pub null_stays : (stores : List Blocks) (known : List (ℕ × ℕ)) (r : ℕ) → AreLanes stores → ((p : ℕ) → reference r ≢ Ref p) → Forwarded (objects_at stores) (Pairs stores known) r r
null_stays stores known r lanes h =
    let none : objects_at stores 0 ≡ None = none_below stores 0 lanes refl in
    let z : ℕ = 0 in
    let here : Forwarded (objects_at stores) (Pairs stores known) z z = subst (λ x. MatchOption x (z ≡ z) (λ _. Pairs stores known z z)) (sym none) refl in
    subst (λ k. Forwarded (objects_at stores) (Pairs stores known) k k) (sym (null_is_zero r h)) here

-- two lists of references, one behind the other
both_forwarded : (stores : List Blocks) (known more all : List (ℕ × ℕ)) (rs qs rest others : List ℕ) → ((p n : ℕ) → Pairs stores known p n → Pairs stores all p n) → ((p n : ℕ) → Pairs stores more p n → Pairs stores all p n) → AreForwardedReferences stores known rs qs → AreForwardedReferences stores more rest others → AreForwardedReferences stores all (rs ++ rest) (qs ++ others)
both_forwarded stores known more all rs qs rest others f g one two = record {
  many = length-append qs others ∙ (let a = one.many in let b = two.many in omega (arith, a, b)) ∙ sym (length-append rs rest);
  each = λ i p q a b. by i p q a b (cases_lt i (length rs));
  some = λ i p q a b h. none i p q a b h (cases_lt i (length rs));
}
  where
    none : (i p q : ℕ) → slice_get (rs ++ rest) i ≡ Some p → slice_get (qs ++ others) i ≡ Some q → 0 < p → (i < length rs) ⊎ (length rs ≤ i) → 0 < q
    none i p q a b h (inl lt) = let many = one.many in one.some i p q (sym (got_within rs rest i lt) ∙ a) (sym (got_within qs others i (omega (arith, lt, many))) ∙ b) h
    none i p q a b h (inr le) =
        let many = one.many in
        let j = i - length rs in
        let here : length rs + j ≡ i = omega (arith, le) in
        let there : length qs + j ≡ i = omega (arith, le, many) in
        two.some j p q (sym (got_behind rs rest j) ∙ ap (slice_get (rs ++ rest)) here ∙ a) (sym (got_behind qs others j) ∙ ap (slice_get (qs ++ others)) there ∙ b) h

    by : (i p q : ℕ) → slice_get (rs ++ rest) i ≡ Some p → slice_get (qs ++ others) i ≡ Some q → (i < length rs) ⊎ (length rs ≤ i) → Forwarded (objects_at stores) (Pairs stores all) p q
    by i p q a b (inl lt) =
        let many = one.many in
        forwarded_grows (objects_at stores) (Pairs stores known) (Pairs stores all) p q f (one.each i p q (sym (got_within rs rest i lt) ∙ a) (sym (got_within qs others i (omega (arith, lt, many))) ∙ b))
    by i p q a b (inr le) =
        let many = one.many in
        let j = i - length rs in
        let here : length rs + j ≡ i = omega (arith, le) in
        let there : length qs + j ≡ i = omega (arith, le, many) in
        forwarded_grows (objects_at stores) (Pairs stores more) (Pairs stores all) p q g (two.each j p q (sym (got_behind rs rest j) ∙ ap (slice_get (rs ++ rest)) here ∙ a) (sym (got_behind qs others j) ∙ ap (slice_get (qs ++ others)) there ∙ b))

-- so all spans together
pub spans_join : (stores : List Blocks) (rs : List ℕ) (cs : List Copier) → AreSpans stores rs cs → AreForwardedReferences stores (all_known (hands cs)) rs (spans_of cs)
spans_join stores rs [] e = record { many = sym (ap length e); each = λ i p q a b. cc; some = λ i p q a b h. cc }
spans_join stores rs (c ∷ cs) s =
    let known = c.own.seat.hand.known in
    let more = all_known (hands cs) in
    let rest = spans_join stores s.1 cs s.4 in
    subst (λ xs. AreForwardedReferences stores (known ++ more) xs (c.span.items ++ spans_of cs)) (sym s.2) (both_forwarded stores known more (known ++ more) s.0 c.span.items s.1 (spans_of cs) (pairs_more stores known (known ++ more) (λ w h. Contains-append_left known more w h)) (pairs_more stores more (known ++ more) (λ w h. Contains-append_right known more w h)) s.3 rest)

-- a span more
pub span_next : (cs : List Copier) (i : ℕ) (c : Copier) (places more all : List ℕ) → slice_get cs i ≡ Some c → more ≡ places ++ c.span.items → places ++ spans_of (drop i cs) ≡ all → more ++ spans_of (drop (i + 1) cs) ≡ all
span_next cs i c places more all at is e =
    ap (λ ps. ps ++ spans_of (drop (i + 1) cs)) is
    ∙ append_assoc places c.span.items (spans_of (drop (i + 1) cs))
    ∙ sym (ap (λ ds. places ++ spans_of ds) (first_left cs i c at))
    ∙ e

pub spans_joined : (stores : List Blocks) (rs qs : List ℕ) (cs : List Copier) → AreSpans stores rs cs → qs ≡ spans_of cs → AreForwardedReferences stores (all_known (hands cs)) rs qs
spans_joined stores rs qs cs s e = subst (λ xs. AreForwardedReferences stores (all_known (hands cs)) rs xs) (sym e) (spans_join stores rs cs s)
