-- What every activation of a running method keeps to.
use Rattle.std.specs.Prelude.{◌≡◌, ℕ, suc, ◌≤◌, List, Option, Some, None, ℤ, slice_get, length}
use Rattle.jm_values.specs.Activation.{Activation, units}
use Rattle.jm_values.specs.Outcome.{Outcome, goes, throws, faults}
use Rattle.jm_values.specs.declared.value.Value.{Value}
use Rattle.jm_values.specs.declared.value.Value.TheVariants.{Long}

-- the second local variable of a long is there, and is not set (JVMS 2.6.1)
abbrev pub LongsAreWhole : List (Option Value) → Type 0
LongsAreWhole locals =
    (n : ℕ) (k : ℤ) → slice_get locals n ≡ Some (Some (Long k)) → slice_get locals (suc n) ≡ Some None

-- the operands fit (JVMS 2.6.2), and longs are whole
pub record IsWellFormed (a : Activation) : Type 0 where
  pub room : units a.stack ≤ a.max_stack
  pub longs : LongsAreWhole a.locals

-- an activation of the same method
pub record IsOfSameFrame (a b : Activation) : Type 0 where
  pub max_stack : b.max_stack ≡ a.max_stack
  pub max_locals : length b.locals ≡ length a.locals

-- where the instruction goes on, it does so in the same frame, well formed
abbrev pub KeepsForm : Activation → Outcome → Type 0
KeepsForm a (goes b) = IsOfSameFrame a b × IsWellFormed b
KeepsForm a (throws class) = Unit {0}
KeepsForm a (faults fault) = Unit {0}
