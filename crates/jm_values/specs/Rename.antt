-- Values, activations and outcomes under other names of their references.
use Rattle.std.specs.Prelude.{ℕ, List, [], ◌∷◌, Option}
use Rattle.jm_values.specs.Shape.{Shape, option_shape, list_shape, pair_shape, part_shape}
use Rattle.jm_values.specs.Activation.{Activation}
use Rattle.jm_values.specs.Outcome.{Outcome, goes, throws, faults}
use Rattle.jm_values.specs.declared.value.Value.{Value}
use Rattle.jm_values.specs.declared.value.Value.TheVariants.{Int, Long, Null, Ref}

-- the value under other names
abbrev pub rename : (ℕ → ℕ) → Value → Value
rename f (Ref p) = Ref (f p)
rename f (Int n) = Int n
rename f (Long n) = Long n
rename f Null = Null

-- the value's reference, if it is one
abbrev pub refs : Value → List ℕ
refs (Ref p) = p ∷ []
refs (Int n) = []
refs (Long n) = []
refs Null = []

-- the value with the first of other references in the place of its own
abbrev pub refill : List ℕ → Value → Value
refill (n ∷ ns) (Ref p) = Ref n
refill [] (Ref p) = Ref p
refill ns (Int n) = Int n
refill ns (Long n) = Long n
refill ns Null = Null

abbrev pub value_shape : Shape Value
value_shape = record { rename = rename; refs = refs; refill = refill }

abbrev pub stack_shape : Shape (List Value)
stack_shape = list_shape value_shape

abbrev pub locals_shape : Shape (List (Option Value))
locals_shape = list_shape (option_shape value_shape)

-- what of an activation holds references: its locals, then its operands from the top
abbrev pub holders : Activation → List (Option Value) × List Value
holders a = (a.locals, a.stack)

abbrev pub with_holders : List (Option Value) × List Value → Activation → Activation
with_holders p a = record { at = a.at; max_stack = a.max_stack; locals = p.0; stack = p.1 }

abbrev pub activation_shape : Shape Activation
activation_shape = part_shape holders with_holders (pair_shape locals_shape stack_shape)

abbrev pub rename_activation : (ℕ → ℕ) → Activation → Activation
rename_activation = activation_shape.rename

abbrev pub refs_activation : Activation → List ℕ
refs_activation = activation_shape.refs

-- what comes of the instruction, under other names
abbrev pub rename_outcome : (ℕ → ℕ) → Outcome → Outcome
rename_outcome f (goes a) = goes (rename_activation f a)
rename_outcome f (throws class) = throws class
rename_outcome f (faults fault) = faults fault
