-- tableswitch and lookupswitch (JVMS 2.11.7).
use Rattle.std.specs.Prelude.{ℕ, List, [], ◌∷◌, ℤ, int_lt, slice_get, unwrap_or, if◌then◌else◌}
use Rattle.std.specs.Int.{int_gap}
use Rattle.std.specs.Ordering.{int_eq}
use Rattle.jm_values.specs.Activation.{Activation}
use Rattle.jm_values.specs.Outcome.{Outcome}
use Rattle.jm_values.specs.Steps.{jump, with_int}
use Rattle.jm_program.specs.declared.instruction.plain.TableSwitch.{TableSwitch}
use Rattle.jm_program.specs.declared.instruction.plain.LookupSwitch.{LookupSwitch}
use Rattle.jm_program.specs.declared.instruction.plain.SwitchPair.{SwitchPair}

-- the target of an int: low has the first one, low + 1 the next, and so on to high; every other
-- int has the default (JVMS 6.5 tableswitch)
abbrev pub table_target : TableSwitch → ℤ → ℕ
table_target table n =
    if int_lt n table.low then table.default else unwrap_or (slice_get table.targets (int_gap table.low n)) table.default

-- the target of the pair with this key, else the default (JVMS 6.5 lookupswitch)
abbrev pub target_in : List SwitchPair → ℕ → ℤ → ℕ
target_in [] default n = default
target_in (p ∷ ps) default n = if int_eq p.key n then p.target else target_in ps default n

abbrev pub lookup_target : LookupSwitch → ℤ → ℕ
lookup_target lookup n = target_in lookup.pairs lookup.default n

-- tableswitch
abbrev pub row_table_switch : TableSwitch → Activation → Outcome
row_table_switch table a = with_int a.stack (λ n s. jump a (table_target table n) s)

-- lookupswitch
abbrev pub row_lookup_switch : LookupSwitch → Activation → Outcome
row_lookup_switch lookup a = with_int a.stack (λ n s. jump a (lookup_target lookup n) s)
