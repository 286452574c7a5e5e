-- What a mark on a place changes.
use Rattle.std.proofs.Common.{◌≡◌, ◌≢◌, ◌⊎◌, ℕ, zero, suc, ◌<◌, List, [], ◌∷◌, Bool, true, false, refl, sym, ap, ◌∙◌, subst, inl, inr, length, replicate, get_or, arith}
use Rattle.std.specs.Prelude.{slice_get, slice_set, nat_eq}
use Rattle.std.proofs.lemmas.Bool.Decides.{eqb_tells}
use Rattle.std.proofs.lemmas.List.{get_or-set_same, get_or-set_other, length-set, length-replicate}
use Rattle.std.proofs.lemmas.Option.{slice_get_read}
use Rattle.jm_program.proofs.Sequences.{got_written, got_unwritten}
use Rattle.jm_blocks.specs.Places.{lane_of, block_of, index_of}
use Rattle.jm_blocks.proofs.Placing.{parts}
use Rattle.jm_barrier.specs.Marks.{number_of, marks_of, lane_marks, is_marked, IsMarked, AreBare}

-- two places with one lane and one number in it are one
same_place : (p q : ℕ) → lane_of q ≡ lane_of p → number_of (block_of q) (index_of q) ≡ number_of (block_of p) (index_of p) → q ≡ p
same_place p q l n = let here = parts p in let there = parts q in omega (arith, l, n, here, there)

-- one mark of one lane is put
pub put_at : (lanes : List (List Bool)) (p l n : ℕ) (cur new : List Bool) (on : Bool) → l ≡ lane_of p → n ≡ number_of (block_of p) (index_of p) → l < length lanes → cur ≡ get_or lanes l cur → n < length cur → new ≡ slice_set cur n on → IsMarked lanes (slice_set lanes l new) p on
put_at lanes p l n cur new on e f h r w put = record {
  here = ap (λ x. get_or (lane_marks (slice_set lanes l new) x) (number_of (block_of p) (index_of p)) false) (sym e)
      ∙ ap (λ x. get_or (marks_of x) (number_of (block_of p) (index_of p)) false) (got_written lanes l new h)
      ∙ ap (λ k. get_or new k false) (sym f)
      ∙ ap (λ x. get_or x n false) put
      ∙ get_or-set_same cur n on false w;
  others = λ q ne. by q ne (eqb_tells (lane_of q) l);
  many = length-set lanes l new;
}
  where
    by : (q : ℕ) → q ≢ p → ((nat_eq (lane_of q) l ≡ true) × (lane_of q ≡ l)) ⊎ ((nat_eq (lane_of q) l ≡ false) × (lane_of q ≢ l)) → is_marked (slice_set lanes l new) q ≡ is_marked lanes q
    by q ne (inr d) = ap (λ x. get_or (marks_of x) (number_of (block_of q) (index_of q)) false) (got_unwritten lanes l (lane_of q) new d.1)
    by q ne (inl d) =
        ap (λ x. get_or (lane_marks (slice_set lanes l new) x) (number_of (block_of q) (index_of q)) false) d.1
        ∙ ap (λ x. get_or (marks_of x) (number_of (block_of q) (index_of q)) false) (got_written lanes l new h)
        ∙ ap (λ x. get_or x (number_of (block_of q) (index_of q)) false) put
        ∙ get_or-set_other cur n (number_of (block_of q) (index_of q)) on false (λ k. ne (same_place p q (d.1 ∙ e) (k ∙ f)))
        ∙ ap (λ x. get_or (marks_of x) (number_of (block_of q) (index_of q)) false) (sym (slice_get_read lanes (length lanes) l cur refl h r))
        ∙ ap (λ x. get_or (lane_marks lanes x) (number_of (block_of q) (index_of q)) false) (sym d.1)

-- a lane that is put back as it was changes nothing
pub put_back : {X : Type 0} (xs : List X) (i : ℕ) (x : X) → x ≡ get_or xs i x → slice_set xs i x ≡ xs
put_back [] i x e = refl
put_back (y ∷ xs) zero x e = ap (λ z. z ∷ xs) e
put_back (y ∷ xs) (suc i) x e = ap (λ ys. y ∷ ys) (put_back xs i x e)

-- a mark that is off stays off
pub stays_off : (lanes : List (List Bool)) (p l n : ℕ) (cur : List Bool) → l ≡ lane_of p → n ≡ number_of (block_of p) (index_of p) → l < length lanes → cur ≡ get_or lanes l cur → get_or cur n false ≡ false → IsMarked lanes (slice_set lanes l cur) p false
stays_off lanes p l n cur e f h r off =
    let same : slice_set lanes l cur ≡ lanes = put_back lanes l cur r in
    subst (λ ls. IsMarked lanes ls p false) (sym same) (record {
      here = ap (λ x. get_or (lane_marks lanes x) (number_of (block_of p) (index_of p)) false) (sym e)
          ∙ ap (λ x. get_or (marks_of x) (number_of (block_of p) (index_of p)) false) (slice_get_read lanes (length lanes) l cur refl h r)
          ∙ ap (λ k. get_or cur k false) (sym f)
          ∙ off;
      others = λ q ne. refl;
      many = refl;
    })

-- a mark that is on is within its lane
pub within : (cur : List Bool) (n : ℕ) → get_or cur n false ≡ true → n < length cur
within [] n e = cc
within (b ∷ cur) zero e = omega arith
within (b ∷ cur) (suc n) e = let more = within cur n e in omega (arith, more)

no_mark : (n l k : ℕ) → get_or (marks_of (slice_get (replicate n []) l)) k false ≡ false
no_mark zero l k = refl
no_mark (suc n) zero k = refl
no_mark (suc n) (suc l) k = no_mark n l k

pub bare : (lanes : List (List Bool)) → lanes ≡ replicate 64 [] → AreBare lanes
bare lanes e = record {
  off = λ p. ap (λ ls. is_marked ls p) e ∙ no_mark 64 (lane_of p) (number_of (block_of p) (index_of p));
  many = ap length e ∙ length-replicate {A = List Bool} 64 [];
}
