-- The local variables of arguments are no more than the slots of their types (JVMS 2.6.1, 4.3.3).
use Rattle.std.proofs.Common.{◌≡◌, ℕ, ◌+◌, ◌≤◌, List, ◌∷◌, Option, true, length, arith, length-append}
use Rattle.std.specs.Prelude.{reverse, ◌-◌}
use Rattle.std.specs.List.{sum_by}
use Rattle.std.proofs.lemmas.List.Sums.{sum_by-cons}
use Rattle.std.proofs.lemmas.List.Sorted.{sum_by-IsPermutation, IsPermutation-reverse}
use Rattle.jm_program.specs.Descriptors.{slots, argument_slots}
use Rattle.jm_program.specs.declared.descriptor.FieldType.{FieldType}
use Rattle.jm_program.specs.declared.descriptor.MethodDescriptor.{MethodDescriptor}
use Rattle.jm_values.specs.Steps.{is_of}
use Rattle.jm_values.specs.declared.value.Value.{Value}
use Rattle.jm_world.specs.Types.{operand_of}
use Rattle.jm_world.specs.Invocation.{argument_locals, locals_of, unset, padded}
use Rattle.jm_world.proofs.LocalsOfCalls.{argument_fits as of_type, unset_length as unset_many}

-- an argument takes no more local variables than slots
pub argument_fits : (t : FieldType) (v : Value) → is_of (operand_of t) v ≡ true → length (argument_locals v) ≤ slots t
argument_fits t v e = of_type t.dimensions t.element v e

-- one more argument before others, whose types are those to come
pub one_more : (t : FieldType) (ts : List FieldType) (v : Value) (popped : List Value) (n : ℕ) → is_of (operand_of t) v ≡ true → length (locals_of popped) + sum_by slots (t ∷ ts) ≤ n → length (locals_of (v ∷ popped)) + sum_by slots ts ≤ n
one_more t ts v popped n e l = omega (arith, l, argument_fits t v e, sum_by-cons slots t ts, length-append (argument_locals v) (locals_of popped))

pub slots_reversed : (d : MethodDescriptor) → sum_by slots (reverse d.parameters) ≡ argument_slots d
slots_reversed d = sum_by-IsPermutation slots d.parameters (reverse d.parameters) (IsPermutation-reverse d.parameters)

-- a call has as many local variables as its code
pub padded_to : (count : ℕ) (locals : List (Option Value)) → length locals ≤ count → length (padded count locals) ≡ count
padded_to count locals l = omega (arith, l, length-append locals (unset rest), unset_many rest)
  where
    rest : ℕ
    rest = count - length locals
