-- A copier before its first claim.
use Rattle.std.proofs.Common.{◌≡◌, ◌⊎◌, inl, inr, ℕ, [], Option, Some, None, true, false, refl, sym, ◌∙◌, subst, arith}
use Rattle.std.specs.List.{Contains}
use Rattle.jm_blocks.specs.Objects.{Object}
use Rattle.jm_copy.specs.Numbers.{number_of}
use Rattle.jm_copy.specs.Copies.{made}
use Rattle.jm_copy.specs.Marks.{progress, first_marks}
use Rattle.jm_copy.specs.declared.copies.Copies.{Copies}
use Rattle.jm_copy.proofs.Steps.{copying_none}
use Rattle.jm_copy.proofs.Marking.{ahead_young, ahead_old}
use Rattle.jm_par_copy.specs.Working.{Pairs, known_to, held_by, both, IsNew, scan_progress}
use Rattle.jm_copy.proofs.Making.{LiesYoung, LiesOld, made_where}
use Rattle.jm_par_copy.specs.Fresh.{IsFreshOwn, FreshIsWorking, nothing, none_done}
use Rattle.jm_par_copy.proofs.Listing.{Has, has_from}
use Rattle.jm_par_copy.proofs.Sharing.{both_right}

pub nothing_made : (c : Copies) → IsFreshOwn c → (n : ℕ) → made c n ≡ None
nothing_made c f n = by (made c n) refl
  where
    lies : (a : Object) → LiesYoung c n a ⊎ LiesOld c n a → made c n ≡ None
    lies a (inl t) = let two : None ≡ Some a = sym (f.young n) ∙ t.there in cc
    lies a (inr t) = let two : false ≡ true = sym (f.last n (a, t.there)) ∙ t.above in cc

    by : (x : Option Object) → made c n ≡ x → made c n ≡ None
    by None e = e
    by (Some a) e = lies a (made_where c n a e)

plain : (lane : ℕ) (c : Copies) (n count : ℕ) → scan_progress lane (first_marks c) nothing none_done n count ≡ progress lane (first_marks c) n count
unfolding scan_progress
plain lane c n count = refl

pub fresh_is_working : FreshIsWorking
fresh_is_working stores roots h c won f = record {
  copying = copying_none (Pairs stores (known_to [] h)) (Pairs stores (held_by [] 0 h)) (both (made c) nothing) (scan_progress c.young.lane (first_marks c) nothing none_done) (λ p n w. none (number_of stores p, n) w.2) (λ n. both_right (made c) nothing n (nothing_made c f n));
  recent = omega arith;
  apart = f.apart;
  kept = f.kept;
  ages = λ n a e. let two : None ≡ Some a = sym (nothing_made c f n) ∙ e in cc;
  dated = λ p n o e w. absurd (none (number_of stores p, n) w);
  taken = λ i n w new. none (i, n) w;
  free = λ n new. refl;
  once = λ n a e. refl;
  ahead = λ n count new. plain c.young.lane c n count ∙ ahead n count new;
}
  where
    none : (w : ℕ × ℕ) → Contains h.wins w → ⊥
    none w k = subst (λ ws. Has ws w) won (has_from h.wins w k)

    ahead : (n count : ℕ) → IsNew h c n → progress c.young.lane (first_marks c) n count ≡ 0
    ahead n count (inl t) = ahead_young c (first_marks c) tt n count t.0 t.1
    ahead n count (inr t) = ahead_old c (first_marks c) f.apart f.kept n count t.0 t.1
