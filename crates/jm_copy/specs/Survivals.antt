-- Which of an object's survivals a collection is.
use Rattle.std.specs.Prelude.{ℕ, zero, suc}
use Rattle.jm_copy.specs.declared.survival.Survival.{Survival}
use Rattle.jm_copy.specs.declared.survival.Survival.TheVariants.{First, Later}

-- by its age: one of age 0 has survived none
abbrev pub survival_of : ℕ → Survival
survival_of zero = First
survival_of (suc age) = Later
