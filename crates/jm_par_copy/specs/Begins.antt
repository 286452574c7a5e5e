-- A round begins, from what holds of all copiers together.
use Rattle.std.specs.Prelude.{◌≡◌, ◌≢◌, ℕ, List, Option, Some, None}
use Rattle.std.specs.List.{Contains}
use Rattle.jm_blocks.specs.Objects.{Object}
use Rattle.jm_blocks.specs.Stores.{Blocks}
use Rattle.jm_forward.specs.declared.rule.Hand.{Hand}
use Rattle.jm_copy.specs.Copying.{Progress}
use Rattle.jm_copy.specs.Copies.{made, age_at, IsMark}
use Rattle.jm_copy.specs.declared.copies.Copies.{Copies}
use Rattle.jm_par_copy.specs.Working.{AreDated, IsNew}

-- what holds of one copier's own stores, beside what holds of all
pub record IsLocal (stores : List Blocks) (rest : ℕ → Option Object) (h : Hand) (c : Copies) (done : Progress) : Type 0 where
  pub apart : c.tenured.lane ≢ c.young.lane
  pub kept : IsMark c.tenured c.kept
  pub ages : (n : ℕ) (a : Object) → made c n ≡ Some a → a.age ≡ age_at c n
  pub dated : AreDated stores h.wins c
  pub taken : (i n : ℕ) → Contains h.wins (i, n) → IsNew h c n → ⊥
  pub free : (n : ℕ) → IsNew h c n → rest n ≡ None
  pub once : (n : ℕ) (a : Object) → made c n ≡ Some a → rest n ≡ None
  pub ahead : (n count : ℕ) → IsNew h c n → done n count ≡ 0
