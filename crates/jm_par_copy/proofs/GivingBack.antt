-- One copier of all gives back what it has stopped filling.
use Rattle.std.proofs.Common.{◌≡◌, ℕ, zero, suc, List, [], ◌∷◌, Some, refl, sym, subst, inl}
use Rattle.std.specs.Prelude.{slice_get, slice_set}
use Rattle.jm_par_copy.specs.Copiers.{AreBack, IsBack}
use Rattle.jm_par_copy.specs.declared.copier.Copier.{Copier}

none_back : (c : Copier) → IsBack c c
none_back c = record {
  number = refl;
  seat = refl;
  roots = refl;
  rooted = refl;
  marks = refl;
  holds = λ stores roots base held k h given marks holding. (holding, given, marks, record { old_lane = refl; kept = refl; below = λ n e. refl; made = λ n a e. e; new = λ x k n h. h; pieces = λ n h. inl h });
  same = record { young_lane = refl; old_lane = refl; young = refl; old = refl; kept = refl };
  noting = λ n. n;
}

none_are_back : (cs : List Copier) → AreBack cs cs
none_are_back [] = tt
none_are_back (c ∷ cs) = (none_back c, none_are_back cs)

pub back_set : (cs : List Copier) (k : ℕ) (c d : Copier) → slice_get cs k ≡ Some c → IsBack c d → AreBack cs (slice_set cs k d)
back_set [] k c d e b = tt
back_set (a ∷ cs) zero c d e b = let same : a ≡ c = cc in (subst (λ z. IsBack z d) (sym same) b, none_are_back cs)
back_set (a ∷ cs) (suc k) c d e b = (none_back a, back_set cs k c d e b)
