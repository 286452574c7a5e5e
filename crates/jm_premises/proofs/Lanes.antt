-- One store is the store of lane 1.
use Rattle.std.proofs.Common.{◌≡◌, ℕ, zero, suc, ◌+◌, [], ◌∷◌, Some, ap, arith}
use Rattle.std.specs.Prelude.{slice_get}
use Rattle.jm_blocks.specs.Stores.{Blocks}
use Rattle.jm_copy.specs.Condemned.{AreLanes}

pub one_lane : (s : Blocks) → s.lane ≡ 1 → AreLanes (s ∷ [])
one_lane s h = record { many = omega arith; numbered = by }
  where
    by : (n : ℕ) (t : Blocks) → slice_get (s ∷ []) n ≡ Some t → t.lane ≡ n + 1
    by zero t e =
        let same : s ≡ t = cc in
        let lane : s.lane ≡ t.lane = ap (λ x. x.lane) same in
        omega (arith, lane, h)
    by (suc n) t e = cc
