-- multianewarray, where the machine stands: its counts, and what its row comes to.
use Rattle.std.specs.Prelude.{◌≡◌, ℕ, zero, suc, ℤ, List, [], ◌∷◌, ◌++◌, Option, Some, None, Result, Ok, Err, drop, length, slice_get}
use Rattle.jm_builtins.specs.declared.built_in_class.BuiltInClass.TheVariants.{NegativeArraySizeException}
use Rattle.jm_program.specs.declared.descriptor.FieldType.{FieldType}
use Rattle.jm_values.specs.ArraysOfArrays.{tree}
use Rattle.jm_values.specs.Content.{Content}
use Rattle.jm_values.specs.declared.value.Value.{Value}
use Rattle.jm_values.specs.declared.value.Value.TheVariants.{Null}
use Rattle.jm_world.specs.ArraysOfArrays.{dimensions_of, push_all_new}
use Rattle.jm_heap.specs.declared.class_id.ClassId.{ClassId}
use Rattle.jm_state.specs.declared.state.State.{State}
use Rattle.jm_interp.specs.ArrayRows.{length_in}
use Rattle.jm_interp.specs.declared.at.At.{At}
use Rattle.jm_interp.specs.declared.top_object.Refusal.{Refusal}
use Rattle.jm_interp.specs.declared.top_object.Refusal.TheVariants.{Faults, Throws, OutOfMemory}
use Rattle.jm_interp.specs.TopObject.{int_of, HasRoom, StepIs}

abbrev pub and_then : Result ℤ Refusal → (ℤ → Result (List ℤ) Refusal) → Result (List ℤ) Refusal
and_then (Ok n) go = go n
and_then (Err r) go = Err r

-- so many ints on top of a stack, the lowest first, before others
abbrev pub counts_of : ℕ → List ℤ → List Value → Result (List ℤ) Refusal
counts_of zero counts s = Ok counts
counts_of (suc d) counts s = and_then (int_of (slice_get s 0)) (λ n. counts_of d (n ∷ counts) (drop 1 s))

abbrev pub longer : Option ℕ → Option (List ℕ) → Option (List ℕ)
longer None ks = None
longer (Some k) None = None
longer (Some k) (Some ks) = Some (k ∷ ks)

-- lengths by their counts, if none is negative
abbrev pub lengths_in : List ℤ → Option (List ℕ)
lengths_in [] = Some []
lengths_in (n ∷ ns) = longer (length_in n) (lengths_in ns)

-- refused so, or for want of memory
abbrev pub RefusedAs : {A : Type 0} → Result A Refusal → Refusal → Type 0
RefusedAs r (Faults fault) = r ≡ Err (Faults fault)
RefusedAs r (Throws class) = r ≡ Err (Throws class)
RefusedAs r OutOfMemory = Unit {0}

-- one was negative, or there was no memory
abbrev pub NegativeOrNoMemory : {A : Type 0} → Option A → Refusal → Type 0
NegativeOrNoMemory lengths (Faults fault) = ⊥
NegativeOrNoMemory lengths (Throws class) = (class ≡ NegativeArraySizeException) × (lengths ≡ None)
NegativeOrNoMemory lengths OutOfMemory = Unit {0}

-- an int was put at the end of a list, and a length
abbrev pub IsPushed : List ℤ → List ℤ → Result ℤ Refusal → Type 0
IsPushed old new (Ok n) = new ≡ old ++ n ∷ []
IsPushed old new (Err r) = ⊥

abbrev pub IsLengthPushed : List ℕ → List ℕ → Option ℕ → Type 0
IsLengthPushed old new (Some k) = new ≡ old ++ k ∷ []
IsLengthPushed old new None = ⊥

-- the row comes to arrays of a type by their lengths, in the place of so many counts
pub record CountsForAll {H : Type 0} (content : H → Content ClassId) (at : At) (s : State H) (t : FieldType) (d : ℕ) (lengths : List ℕ) : Type 0 where
  pub step : StepIs content at s (λ here. push_all_new here (tree (dimensions_of t lengths) (length here.world.heap)) (drop d here.frame.stack))
  pub room : HasRoom content at s d Null
  pub many : length lengths ≡ d
