-- The words of the worked rows: a start, and what comes of it.
use Rattle.std.proofs.Common.{ℕ, List, [], ◌∷◌, Option, None}
use Rattle.std.specs.Prelude.{pos, neg_ℤ}
use Rattle.jm_values.specs.Activation.{Activation}
use Rattle.jm_values.specs.Outcome.{Outcome, goes}
use Rattle.jm_values.specs.declared.value.Value.{Value}
use Rattle.jm_values.specs.declared.value.Value.TheVariants.{Int, Long}

-- 5, and -5, as an int and as a long
abbrev pub int : ℕ → Value
int n = Int (pos n)

abbrev pub minus_int : ℕ → Value
minus_int n = Int (neg_ℤ (pos n))

abbrev pub long : ℕ → Value
long n = Long (pos n)

abbrev pub minus_long : ℕ → Value
minus_long n = Long (neg_ℤ (pos n))

-- four local variables, none of them set
abbrev pub unset : List (Option Value)
unset = None ∷ None ∷ None ∷ None ∷ []

-- at instruction 5, with room for eight units
abbrev pub at_5 : List (Option Value) → List Value → Activation
at_5 locals s = record { at = 5; max_stack = 8; locals = locals; stack = s }

-- the same with no local variable set, and with operands from the top
abbrev pub start : List Value → Activation
start s = at_5 unset s

-- goes on to instruction 6
abbrev pub on_with : List (Option Value) → List Value → Outcome
on_with locals s = goes (record { at = 6; max_stack = 8; locals = locals; stack = s })

abbrev pub on : List Value → Outcome
on s = on_with unset s

-- goes to this instruction
abbrev pub to : ℕ → List Value → Outcome
to target s = goes (record { at = target; max_stack = 8; locals = unset; stack = s })
