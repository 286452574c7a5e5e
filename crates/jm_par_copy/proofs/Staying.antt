-- What a step leaves as it was: old objects that lie below others, and so what is listed of them.
use Rattle.std.proofs.Common.{◌≡◌, ◌≢◌, ◌⊎◌, ℕ, Option, Some, None, Bool, true, false, refl, sym, ap, ◌∙◌, subst, inl, inr, arith}
use Rattle.jm_blocks.specs.Objects.{Object}
use Rattle.jm_blocks.specs.Places.{lane_of}
use Rattle.jm_blocks.specs.Stores.{objects_in}
use Rattle.jm_blocks.proofs.Placing.{lies_in}
use Rattle.jm_copy.specs.Copies.{made, HasMade, IsMark, Stays, is_above}
use Rattle.jm_copy.specs.Marks.{AllStay}
use Rattle.jm_copy.specs.Pointing.{IsListed}
use Rattle.jm_copy.specs.declared.copies.Copies.{Copies}
use Rattle.jm_copy.proofs.Keeping.{mark_stays}
use Rattle.jm_copy.proofs.Making.{LiesYoung, LiesOld, made_above, made_where, not_above}
use Rattle.jm_par_copy.specs.Notes.{KeepsListed}
use Rattle.jm_par_copy.specs.Strides.{Goes, IsNewOf}

-- where each object is made still, and others come where places were new, no old object below one that was there has changed
module _ (x n : ℕ) (c d : Copies) (apart : c.tenured.lane ≢ c.young.lane) (s : Stays c d) (g : Goes x n c d)
    (keeps : (m : ℕ) (a : Object) → made c m ≡ Some a → made d m ≡ Some a) where
  old_lane : (m : ℕ) (a : Object) → objects_in d.tenured m ≡ Some a → lane_of m ≡ c.tenured.lane
  old_lane m a e = let at = lies_in d.tenured m a e in at.lane ∙ s.old_lane

  not_young : (m : ℕ) → lane_of m ≡ c.tenured.lane → lane_of m ≢ c.young.lane
  not_young m e f = apart (sym e ∙ f)

  not_young_now : (m : ℕ) → lane_of m ≡ c.tenured.lane → lane_of m ≢ d.young.lane
  not_young_now m e f = apart (sym e ∙ f ∙ s.young_lane)

  now_old : (m : ℕ) (a : Object) → lane_of m ≡ c.tenured.lane → made d m ≡ Some a → objects_in d.tenured m ≡ Some a
  now_old m a lane e = by (made_where d m a e)
    where
      by : LiesYoung d m a ⊎ LiesOld d m a → objects_in d.tenured m ≡ Some a
      by (inl y) = absurd (not_young_now m lane y.lane)
      by (inr o) = o.there

  was_old : (m : ℕ) (a : Object) → lane_of m ≡ c.tenured.lane → made c m ≡ Some a → objects_in c.tenured m ≡ Some a
  was_old m a lane e = by (made_where c m a e)
    where
      by : LiesYoung c m a ⊎ LiesOld c m a → objects_in c.tenured m ≡ Some a
      by (inl y) = absurd (not_young m lane y.lane)
      by (inr o) = o.there

  pub all_stay : AllStay c d
  all_stay top m there below = by (is_above c.kept m) refl
    where
      new : IsNewOf x n c m → lane_of m ≡ c.tenured.lane → ⊥
      new (inl h) lane = not_young m lane h.0
      new (inr h) lane = let past = h.1 top there in absurd (omega (arith, past, below))

      none : (y : Option Object) → objects_in d.tenured m ≡ y → is_above c.kept m ≡ true → objects_in c.tenured m ≡ None → objects_in d.tenured m ≡ None
      none None e above f = e
      none (Some a) e above f =
          let lane = old_lane m a e in
          let is = made_above d.young d.tenured d.kept m (not_young_now m lane) (ap (λ k. is_above k m) s.kept ∙ above) ∙ e in
          absurd (from lane (g.made m a is))
        where
          from : lane_of m ≡ c.tenured.lane → HasMade c m ⊎ IsNewOf x n c m → ⊥
          from lane (inl h) = let two : Some h.0 ≡ None = sym (was_old m h.0 lane h.1) ∙ f in cc
          from lane (inr h) = new h lane

      some : (y : Option Object) → objects_in c.tenured m ≡ y → is_above c.kept m ≡ true → objects_in d.tenured m ≡ objects_in c.tenured m
      some None e above = none (objects_in d.tenured m) refl above e ∙ sym e
      some (Some a) e above =
          let at = lies_in c.tenured m a e in
          let is = made_above c.young c.tenured c.kept m (not_young m at.lane) above ∙ e in
          now_old m a at.lane (keeps m a is) ∙ sym e

      by : (b : Bool) → is_above c.kept m ≡ b → objects_in d.tenured m ≡ objects_in c.tenured m
      by false e = s.below m e
      by true e = some (objects_in c.tenured m) refl e

-- then what is listed as far as a mark is listed still
pub keeps_listed : (c d : Copies) → Stays c d → AllStay c d → KeepsListed c d
keeps_listed c d s all lane mark places l = subst (λ k. IsListed lane d.tenured k mark places) (sym s.kept) (record {
  mark_there = mark_stays c.tenured d.tenured mark s.old_there l.mark_there;
  past = l.past;
  sound = λ p h. let has = l.sound p h in (has.0, same p has.3 ∙ has.1, has.2, has.3, has.4);
  complete = λ p o f above below points. l.complete p o (sym (same p below) ∙ f) above below points;
  distinct = l.distinct;
})
  where
    same : (p : ℕ) → is_above mark p ≡ false → objects_in d.tenured p ≡ objects_in c.tenured p
    same p e = by mark l.mark_there e
      where
        by : (k : Option ℕ) → IsMark c.tenured k → is_above k p ≡ false → objects_in d.tenured p ≡ objects_in c.tenured p
        by None h f = cc
        by (Some m) h f = all m p h (not_above m p f)
