-- What an object more, or a value written over, is among the new objects.
use Rattle.std.proofs.Common.{◌≡◌, ◌≢◌, ◌⊎◌, ℕ, zero, suc, ◌<◌, ◌≤◌, List, Option, Some, None, Bool, true, false, cond, refl, sym, ap, ◌∙◌, subst, inl, inr, arith, eq-eqb}
use Rattle.std.specs.Prelude.{nat_eq, nat_lt}
use Rattle.std.proofs.lemmas.Bool.{lt-ltb, le-ltb, cases_lt}
use Rattle.std.proofs.lemmas.Bool.Decides.{eqb_tells}
use Rattle.jm_program.proofs.Numbers.{found_unequal}
use Rattle.jm_blocks.specs.Objects.{Object}
use Rattle.jm_copy.specs.Image.{older}
use Rattle.jm_blocks.specs.Places.{lane_of}
use Rattle.jm_blocks.specs.Stores.{Blocks, objects_in, HasObject, Bumped, Changed}
use Rattle.jm_copy.specs.Copying.{IsAdded, IsReplaced, raw_copy}
use Rattle.jm_copy.specs.Copies.{is_above, made_in, made, store_of, store_for, IsPutIn, IsPutYoung, IsPutOld, IsPut, Stays, Extends, IsMark, IsPast}
use Rattle.jm_copy.specs.Marks.{AllStay, OthersStay}
use Rattle.jm_copy.specs.Survivals.{survival_of}
use Rattle.jm_copy.specs.Words.{moved}
use Rattle.jm_copy.specs.declared.survival.Survival.{Survival}
use Rattle.jm_copy.specs.declared.survival.Survival.TheVariants.{First, Later}
use Rattle.jm_copy.specs.declared.copies.Copies.{Copies}

pub made_young : (young old : Blocks) (kept : Option ℕ) (n : ℕ) → lane_of n ≡ young.lane → made_in young old kept n ≡ objects_in young n
unfolding made_in
made_young young old kept n e = ap (λ b. cond b (objects_in young n) (cond (is_above kept n) (objects_in old n) None)) (eq-eqb (lane_of n) young.lane e)

pub made_old : (young old : Blocks) (kept : Option ℕ) (n : ℕ) → lane_of n ≢ young.lane → made_in young old kept n ≡ cond (is_above kept n) (objects_in old n) None
unfolding made_in
made_old young old kept n e = ap (λ b. cond b (objects_in young n) (cond (is_above kept n) (objects_in old n) None)) (found_unequal (lane_of n) young.lane e)

pub made_above : (young old : Blocks) (kept : Option ℕ) (n : ℕ) → lane_of n ≢ young.lane → is_above kept n ≡ true → made_in young old kept n ≡ objects_in old n
made_above young old kept n e h = made_old young old kept n e ∙ ap (λ b. cond b (objects_in old n) None) h

-- where a new object lies
pub record LiesYoung (c : Copies) (n : ℕ) (a : Object) : Type 0 where
  pub lane : lane_of n ≡ c.young.lane
  pub there : objects_in c.young n ≡ Some a

pub record LiesOld (c : Copies) (n : ℕ) (a : Object) : Type 0 where
  pub lane : lane_of n ≢ c.young.lane
  pub above : is_above c.kept n ≡ true
  pub there : objects_in c.tenured n ≡ Some a

pub made_where : (c : Copies) (n : ℕ) (a : Object) → made c n ≡ Some a → LiesYoung c n a ⊎ LiesOld c n a
made_where c n a e = by (eqb_tells (lane_of n) c.young.lane)
  where
    above : lane_of n ≢ c.young.lane → (b : Bool) → is_above c.kept n ≡ b → cond b (objects_in c.tenured n) None ≡ Some a → LiesOld c n a
    above h true t f = record { lane = h; above = t; there = f }
    above h false t f = cc

    by : ((nat_eq (lane_of n) c.young.lane ≡ true) × (lane_of n ≡ c.young.lane)) ⊎ ((nat_eq (lane_of n) c.young.lane ≡ false) × (lane_of n ≢ c.young.lane)) → LiesYoung c n a ⊎ LiesOld c n a
    by (inl h) = inl (record { lane = h.1; there = sym (made_young c.young c.tenured c.kept n h.1) ∙ e })
    by (inr h) = inr (above h.1 (is_above c.kept n) refl (sym (made_old c.young c.tenured c.kept n h.1) ∙ e))

-- the store that is chosen for a place has its new object
pub store_young : (c : Copies) (n : ℕ) → lane_of n ≡ c.young.lane → store_of c n ≡ c.young
store_young c n e = ap (λ b. cond b c.young c.tenured) (eq-eqb (lane_of n) c.young.lane e)

pub store_old : (c : Copies) (n : ℕ) → lane_of n ≢ c.young.lane → store_of c n ≡ c.tenured
store_old c n e = ap (λ b. cond b c.young c.tenured) (found_unequal (lane_of n) c.young.lane e)

pub store_has : (c : Copies) (n : ℕ) (a : Object) → made c n ≡ Some a → objects_in (store_of c n) n ≡ Some a
store_has c n a e = by (made_where c n a e)
  where
    by : LiesYoung c n a ⊎ LiesOld c n a → objects_in (store_of c n) n ≡ Some a
    by (inl h) = ap (λ s. objects_in s n) (store_young c n h.lane) ∙ h.there
    by (inr h) = ap (λ s. objects_in s n) (store_old c n h.lane) ∙ h.there

pub bumped_free : (s t : Blocks) (p : ℕ) (a : Object) → Bumped s t p a → objects_in s p ≡ None
bumped_free s t p a b = by (objects_in s p) refl
  where
    by : (x : Option Object) → objects_in s p ≡ x → x ≡ None
    by None e = refl
    by (Some o) e = absurd (let above = b.above p (o, e) in omega (arith, above))

bumped_keeps : (s t : Blocks) (p q : ℕ) (a : Object) → Bumped s t p a → HasObject s q → HasObject t q
bumped_keeps s t p q a b h = let below = b.above q h in (h.0, b.changed.others q (λ e. absurd (omega (arith, below, e))) ∙ h.1)

-- a mark is below what is past all objects, and what is above an object above it is above it
pub mark_past : (s : Blocks) (mark : Option ℕ) (n : ℕ) → IsMark s mark → IsPast s n → is_above mark n ≡ true
mark_past s None n h p = refl
mark_past s (Some q) n h p = lt-ltb q n (p q h)

pub not_above : (q n : ℕ) → nat_lt q n ≡ false → n ≤ q
not_above q n e = by (cases_lt q n)
  where
    by : (q < n) ⊎ (n ≤ q) → n ≤ q
    by (inl h) = let both : true ≡ false = sym (lt-ltb q n h) ∙ e in cc
    by (inr h) = h

pub is_over : (q n : ℕ) → nat_lt q n ≡ true → q < n
is_over q n e = by (cases_lt q n)
  where
    by : (q < n) ⊎ (n ≤ q) → q < n
    by (inl h) = h
    by (inr h) = let both : true ≡ false = sym e ∙ le-ltb q n h in cc

pub above_more : (mark : Option ℕ) (n m : ℕ) → is_above mark n ≡ true → n < m → is_above mark m ≡ true
above_more None n m e h = refl
above_more (Some q) n m e h = let over = is_over q n e in lt-ltb q m (omega (arith, over, h))

-- an object more
pub put_added : (c d : Copies) (p : ℕ) (a : Object) → c.tenured.lane ≢ c.young.lane → IsMark c.tenured c.kept → IsPut c d p a → IsAdded (made c) (made d) p a
put_added c d p a apart mark put = by put.by_age
  where
    by : IsPutYoung c d p a ⊎ IsPutOld c d p a → IsAdded (made c) (made d) p a
    by (inl t) = record {
      free = made_young c.young c.tenured c.kept p t.put.lane ∙ bumped_free c.young d.young p a t.put.bumped;
      here = same p ∙ made_young d.young c.tenured c.kept p (t.put.lane ∙ sym t.put.same) ∙ t.put.bumped.changed.here;
      others = λ q n. same q ∙ other q n (eqb_tells (lane_of q) c.young.lane);
    }
      where
        same : (n : ℕ) → made d n ≡ made_in d.young c.tenured c.kept n
        same n = ap (λ o. made_in d.young o d.kept n) t.tenured ∙ ap (λ k. made_in d.young c.tenured k n) put.kept

        other : (q : ℕ) → q ≢ p → ((nat_eq (lane_of q) c.young.lane ≡ true) × (lane_of q ≡ c.young.lane)) ⊎ ((nat_eq (lane_of q) c.young.lane ≡ false) × (lane_of q ≢ c.young.lane)) → made_in d.young c.tenured c.kept q ≡ made c q
        other q n (inl e) = made_young d.young c.tenured c.kept q (e.1 ∙ sym t.put.same) ∙ t.put.bumped.changed.others q n ∙ sym (made_young c.young c.tenured c.kept q e.1)
        other q n (inr e) = made_old d.young c.tenured c.kept q (λ h. e.1 (h ∙ t.put.same)) ∙ sym (made_old c.young c.tenured c.kept q e.1)
    by (inr t) = record {
      free = made_above c.young c.tenured c.kept p away over ∙ bumped_free c.tenured d.tenured p a t.put.bumped;
      here = same p ∙ made_above c.young d.tenured c.kept p away over ∙ t.put.bumped.changed.here;
      others = λ q n. same q ∙ other q n (eqb_tells (lane_of q) c.young.lane);
    }
      where
        away : lane_of p ≢ c.young.lane
        away e = apart (sym t.put.lane ∙ e)

        over : is_above c.kept p ≡ true
        over = mark_past c.tenured c.kept p mark t.put.bumped.above

        same : (n : ℕ) → made d n ≡ made_in c.young d.tenured c.kept n
        same n = ap (λ y. made_in y d.tenured d.kept n) t.young ∙ ap (λ k. made_in c.young d.tenured k n) put.kept

        other : (q : ℕ) → q ≢ p → ((nat_eq (lane_of q) c.young.lane ≡ true) × (lane_of q ≡ c.young.lane)) ⊎ ((nat_eq (lane_of q) c.young.lane ≡ false) × (lane_of q ≢ c.young.lane)) → made_in c.young d.tenured c.kept q ≡ made c q
        other q n (inl e) = made_young c.young d.tenured c.kept q e.1 ∙ sym (made_young c.young c.tenured c.kept q e.1)
        other q n (inr e) = made_old c.young d.tenured c.kept q e.1 ∙ ap (λ x. cond (is_above c.kept q) x None) (t.put.bumped.changed.others q n) ∙ sym (made_old c.young c.tenured c.kept q e.1)

pub put_stays : (c d : Copies) (p : ℕ) (a : Object) → IsMark c.tenured c.kept → IsPut c d p a → Stays c d
put_stays c d p a mark put = by put.by_age
  where
    by : IsPutYoung c d p a ⊎ IsPutOld c d p a → Stays c d
    by (inl t) = record {
      kept = put.kept;
      young_lane = t.put.same;
      old_lane = ap (λ s. s.lane) t.tenured;
      young_there = λ n h. bumped_keeps c.young d.young p n a t.put.bumped h;
      old_there = λ n h. subst (λ s. HasObject s n) (sym t.tenured) h;
      below = λ n e. ap (λ s. objects_in s n) t.tenured;
    }
    by (inr t) = record {
      kept = put.kept;
      young_lane = ap (λ s. s.lane) t.young;
      old_lane = t.put.same;
      young_there = λ n h. subst (λ s. HasObject s n) (sym t.young) h;
      old_there = λ n h. bumped_keeps c.tenured d.tenured p n a t.put.bumped h;
      below = λ n e. t.put.bumped.changed.others n (λ h. let both : true ≡ false = sym (mark_past c.tenured c.kept p mark t.put.bumped.above) ∙ ap (is_above c.kept) (sym h) ∙ e in cc);
    }

-- below an object of the old store nothing is changed by one more, and by steps one after the other
pub put_all_stay : (c d : Copies) (p : ℕ) (a : Object) → IsPut c d p a → AllStay c d
put_all_stay c d p a put m n h below = by put.by_age
  where
    by : IsPutYoung c d p a ⊎ IsPutOld c d p a → objects_in d.tenured n ≡ objects_in c.tenured n
    by (inl t) = ap (λ s. objects_in s n) t.tenured
    by (inr t) = let over = t.put.bumped.above m h in t.put.bumped.changed.others n (λ e. absurd (omega (arith, over, below, e)))

pub others_more : (c d e : Copies) (p : ℕ) → Stays c d → OthersStay c d p → OthersStay d e p → OthersStay c e p
others_more c d e p stays s t m n h below apart = t m n (stays.old_there m h) below apart ∙ s m n h below apart

pub stays_refl : (c : Copies) → Stays c c
stays_refl c = record { kept = refl; young_lane = refl; old_lane = refl; young_there = λ n h. h; old_there = λ n h. h; below = λ n e. refl }

pub stays_more : (c d e : Copies) → Stays c d → Stays d e → Stays c e
stays_more c d e s t = record {
  kept = t.kept ∙ s.kept;
  young_lane = t.young_lane ∙ s.young_lane;
  old_lane = t.old_lane ∙ s.old_lane;
  young_there = λ n h. t.young_there n (s.young_there n h);
  old_there = λ n h. t.old_there n (s.old_there n h);
  below = λ n b. t.below n (ap (λ k. is_above k n) s.kept ∙ b) ∙ s.below n b;
}

pub extends_refl : (stores : List Blocks) (c : Copies) → Extends stores c c
extends_refl stores c = record { stays = stays_refl c; known = λ p n h. h }

pub extends_more : (stores : List Blocks) (c d e : Copies) → Extends stores c d → Extends stores d e → Extends stores c e
extends_more stores c d e s t = record { stays = stays_more c d e s.stays t.stays; known = λ p n h. t.known p n (s.known p n h) }

pub extends_set : (stores : List Blocks) (c d : Copies) → Stays c d → d.words ≡ c.words → Extends stores c d
extends_set stores c d s w = record { stays = s; known = λ p n h. ap (λ ws. moved stores ws p) w ∙ h }

-- a value of an object of one store is another
changed_there : (s t : Blocks) (p q : ℕ) (a : Object) → Changed s t p a → HasObject s q → HasObject t q
changed_there s t p q a c h = by (eqb_tells q p)
  where
    by : ((nat_eq q p ≡ true) × (q ≡ p)) ⊎ ((nat_eq q p ≡ false) × (q ≢ p)) → HasObject t q
    by (inl e) = (a, ap (objects_in t) e.1 ∙ c.here)
    by (inr e) = (h.0, c.others q e.1 ∙ h.1)

pub young_replaced : (c : Copies) (young : Blocks) (p : ℕ) (a : Object) → lane_of p ≡ c.young.lane → young.lane ≡ c.young.lane → Changed c.young young p a → IsReplaced (made c) (made_in young c.tenured c.kept) p a
young_replaced c young p a lane same t = record {
  here = made_young young c.tenured c.kept p (lane ∙ sym same) ∙ t.here;
  others = λ q n. other q n (eqb_tells (lane_of q) c.young.lane);
}
  where
    other : (q : ℕ) → q ≢ p → ((nat_eq (lane_of q) c.young.lane ≡ true) × (lane_of q ≡ c.young.lane)) ⊎ ((nat_eq (lane_of q) c.young.lane ≡ false) × (lane_of q ≢ c.young.lane)) → made_in young c.tenured c.kept q ≡ made c q
    other q n (inl e) = made_young young c.tenured c.kept q (e.1 ∙ sym same) ∙ t.others q n ∙ sym (made_young c.young c.tenured c.kept q e.1)
    other q n (inr e) = made_old young c.tenured c.kept q (λ h. e.1 (h ∙ same)) ∙ sym (made_old c.young c.tenured c.kept q e.1)

pub old_replaced : (c : Copies) (old : Blocks) (p : ℕ) (a : Object) → lane_of p ≢ c.young.lane → is_above c.kept p ≡ true → Changed c.tenured old p a → IsReplaced (made c) (made_in c.young old c.kept) p a
old_replaced c old p a lane above t = record {
  here = made_above c.young old c.kept p lane above ∙ t.here;
  others = λ q n. other q n (eqb_tells (lane_of q) c.young.lane);
}
  where
    other : (q : ℕ) → q ≢ p → ((nat_eq (lane_of q) c.young.lane ≡ true) × (lane_of q ≡ c.young.lane)) ⊎ ((nat_eq (lane_of q) c.young.lane ≡ false) × (lane_of q ≢ c.young.lane)) → made_in c.young old c.kept q ≡ made c q
    other q n (inl e) = made_young c.young old c.kept q e.1 ∙ sym (made_young c.young c.tenured c.kept q e.1)
    other q n (inr e) = made_old c.young old c.kept q e.1 ∙ ap (λ x. cond (is_above c.kept q) x None) (t.others q n) ∙ sym (made_old c.young c.tenured c.kept q e.1)

pub young_stays : (c : Copies) (young : Blocks) (p : ℕ) (a : Object) → young.lane ≡ c.young.lane → Changed c.young young p a → Stays c (record { words = c.words; young = young; tenured = c.tenured; kept = c.kept })
young_stays c young p a same t = record { kept = refl; young_lane = same; old_lane = refl; young_there = λ n h. changed_there c.young young p n a t h; old_there = λ n h. h; below = λ n e. refl }

pub old_stays : (c : Copies) (old : Blocks) (p : ℕ) (a : Object) → old.lane ≡ c.tenured.lane → is_above c.kept p ≡ true → Changed c.tenured old p a → Stays c (record { words = c.words; young = c.young; tenured = old; kept = c.kept })
old_stays c old p a same above t = record {
  kept = refl;
  young_lane = refl;
  old_lane = same;
  young_there = λ n h. h;
  old_there = λ n h. changed_there c.tenured old p n a t h;
  below = λ n e. t.others n (λ h. let both : true ≡ false = sym above ∙ ap (is_above c.kept) (sym h) ∙ e in cc);
}

-- by the test of the lane a new object is in one of the two stores
pub young_has : (c : Copies) (n : ℕ) (a : Object) → nat_eq (lane_of n) c.young.lane ≡ true → made c n ≡ Some a → LiesYoung c n a
young_has c n a t e = by (made_where c n a e)
  where
    by : LiesYoung c n a ⊎ LiesOld c n a → LiesYoung c n a
    by (inl h) = h
    by (inr h) = let both : true ≡ false = sym t ∙ found_unequal (lane_of n) c.young.lane h.lane in cc

pub old_has : (c : Copies) (n : ℕ) (a : Object) → nat_eq (lane_of n) c.young.lane ≡ false → made c n ≡ Some a → LiesOld c n a
old_has c n a t e = by (made_where c n a e)
  where
    by : LiesYoung c n a ⊎ LiesOld c n a → LiesOld c n a
    by (inl h) = let both : true ≡ false = sym (eq-eqb (lane_of n) c.young.lane h.lane) ∙ t in cc
    by (inr h) = h

-- with another store for a survival
abbrev pub with_store : Copies → Survival → Blocks → Copies
with_store c First s = record c { young = s }
with_store c Later s = record c { tenured = s }

-- what is put into the store for its survival is put by its age
pub put_for : (c : Copies) (s : Survival) (t : Blocks) (o : Object) (p : ℕ) → survival_of o.age ≡ s → IsPutIn (store_for c s) t p (raw_copy o) → IsPut c (with_store c s t) p (raw_copy o)
put_for c s t o p e put = subst (λ x. IsPut c (with_store c x t) p (raw_copy o)) e (by o.age (raw_copy o) refl (subst (λ x. IsPutIn (store_for c x) t p (raw_copy o)) (sym e) put))
  where
    by : (age : ℕ) (a : Object) → a.age ≡ older age → IsPutIn (store_for c (survival_of age)) t p a → IsPut c (with_store c (survival_of age) t) p a
    by zero a older put = record { words = refl; kept = refl; by_age = inl (record { age = older; put = put; tenured = refl }) }
    by (suc n) a older put = record { words = refl; kept = refl; by_age = inr (record { age = older; put = put; young = refl }) }
