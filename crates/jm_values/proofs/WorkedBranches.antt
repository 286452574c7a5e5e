-- Worked rows of branches and switches (JVMS 2.11.7; 6.5 ifeq to lookupswitch). A branch that is
-- taken goes to 40, and one that is not goes on to 6.
use Rattle.std.proofs.Common.{◌≡◌, List, [], ◌∷◌, refl}
use Rattle.std.specs.Prelude.{map, pos, negsuc}
use Rattle.jm_values.specs.Outcome.{Outcome, faults}
use Rattle.jm_values.specs.PlainRows.{row_plain}
use Rattle.jm_values.specs.declared.value.Value.{Value}
use Rattle.jm_values.specs.declared.value.Value.TheVariants.{Null, Ref}
use Rattle.jm_values.specs.declared.fault.TagFault.TheVariants.{WrongTag, Underflow}
use Rattle.jm_program.specs.declared.instruction.operation.Comparison.{Comparison}
use Rattle.jm_program.specs.declared.instruction.operation.Equality.{Equality}
use Rattle.jm_program.specs.declared.instruction.operation.Branch.{Branch}
use Rattle.jm_program.specs.declared.instruction.operation.Branch.TheVariants.{If, IfInts, IfReferences, IfNull, Goto, GotoW}
use Rattle.jm_program.specs.declared.instruction.plain.TableSwitch.{TableSwitch}
use Rattle.jm_program.specs.declared.instruction.plain.LookupSwitch.{LookupSwitch}
use Rattle.jm_program.specs.declared.instruction.plain.Plain.{Plain}
use Rattle.jm_values.proofs.WorkedStart.{int, minus_int, long, start, on, to}

abbrev run : Branch → List Value → Outcome
run op s = row_plain (Plain.Branch op 40) (start s)

-- the branch at -1, 0 and 1, and at the pairs 1 and 2, 2 and 2, 3 and 2, of which 2 is on top
abbrev at_signs : Branch → List Outcome
at_signs op = run op (minus_int 1 ∷ []) ∷ run op (int 0 ∷ []) ∷ run op (int 1 ∷ []) ∷ []

abbrev at_pairs : Branch → List Outcome
at_pairs op = run op (int 2 ∷ int 1 ∷ []) ∷ run op (int 2 ∷ int 2 ∷ []) ∷ run op (int 2 ∷ int 3 ∷ []) ∷ []

ifeq_branches_at_zero : at_signs (If Comparison.Equal) ≡ on [] ∷ to 40 [] ∷ on [] ∷ []
ifeq_branches_at_zero = refl

ifne_branches_away_from_zero : at_signs (If Comparison.NotEqual) ≡ to 40 [] ∷ on [] ∷ to 40 [] ∷ []
ifne_branches_away_from_zero = refl

iflt_branches_below_zero : at_signs (If Comparison.Less) ≡ to 40 [] ∷ on [] ∷ on [] ∷ []
iflt_branches_below_zero = refl

ifge_branches_from_zero_up : at_signs (If Comparison.GreaterOrEqual) ≡ on [] ∷ to 40 [] ∷ to 40 [] ∷ []
ifge_branches_from_zero_up = refl

ifgt_branches_above_zero : at_signs (If Comparison.Greater) ≡ on [] ∷ on [] ∷ to 40 [] ∷ []
ifgt_branches_above_zero = refl

ifle_branches_from_zero_down : at_signs (If Comparison.LessOrEqual) ≡ to 40 [] ∷ to 40 [] ∷ on [] ∷ []
ifle_branches_from_zero_down = refl

if_icmpeq_branches_on_equals : at_pairs (IfInts Comparison.Equal) ≡ on [] ∷ to 40 [] ∷ on [] ∷ []
if_icmpeq_branches_on_equals = refl

if_icmpne_branches_on_others : at_pairs (IfInts Comparison.NotEqual) ≡ to 40 [] ∷ on [] ∷ to 40 [] ∷ []
if_icmpne_branches_on_others = refl

if_icmplt_branches_where_the_lower_is_less : at_pairs (IfInts Comparison.Less) ≡ to 40 [] ∷ on [] ∷ on [] ∷ []
if_icmplt_branches_where_the_lower_is_less = refl

if_icmpge_branches_where_it_is_not_less : at_pairs (IfInts Comparison.GreaterOrEqual) ≡ on [] ∷ to 40 [] ∷ to 40 [] ∷ []
if_icmpge_branches_where_it_is_not_less = refl

if_icmpgt_branches_where_it_is_greater : at_pairs (IfInts Comparison.Greater) ≡ on [] ∷ on [] ∷ to 40 [] ∷ []
if_icmpgt_branches_where_it_is_greater = refl

if_icmple_branches_where_it_is_not_greater : at_pairs (IfInts Comparison.LessOrEqual) ≡ to 40 [] ∷ to 40 [] ∷ on [] ∷ []
if_icmple_branches_where_it_is_not_greater = refl

-- the branch at one reference twice, two references, a reference and null, null twice
abbrev at_references : Branch → List Outcome
at_references op =
    run op (Ref 3 ∷ Ref 3 ∷ []) ∷ run op (Ref 3 ∷ Ref 4 ∷ []) ∷ run op (Null ∷ Ref 3 ∷ []) ∷ run op (Null ∷ Null ∷ []) ∷ []

if_acmpeq_branches_on_one_reference : at_references (IfReferences Equality.Equal) ≡ to 40 [] ∷ on [] ∷ on [] ∷ to 40 [] ∷ []
if_acmpeq_branches_on_one_reference = refl

if_acmpne_branches_on_two_references : at_references (IfReferences Equality.NotEqual) ≡ on [] ∷ to 40 [] ∷ to 40 [] ∷ on [] ∷ []
if_acmpne_branches_on_two_references = refl

ifnull_branches_on_null : map (λ v. run (IfNull Equality.Equal) (v ∷ int 1 ∷ [])) (Null ∷ Ref 3 ∷ []) ≡ to 40 (int 1 ∷ []) ∷ on (int 1 ∷ []) ∷ []
ifnull_branches_on_null = refl

ifnonnull_branches_on_a_reference : map (λ v. run (IfNull Equality.NotEqual) (v ∷ int 1 ∷ [])) (Null ∷ Ref 3 ∷ []) ≡ on (int 1 ∷ []) ∷ to 40 (int 1 ∷ []) ∷ []
ifnonnull_branches_on_a_reference = refl

goto_and_goto_w_always_branch : map (λ op. run op (long 1 ∷ [])) (Goto ∷ GotoW ∷ []) ≡ to 40 (long 1 ∷ []) ∷ to 40 (long 1 ∷ []) ∷ []
goto_and_goto_w_always_branch = refl

a_branch_wants_its_types : run (If Comparison.Equal) (Null ∷ []) ∷ run (IfInts Comparison.Equal) (int 1 ∷ long 1 ∷ []) ∷ run (IfReferences Equality.Equal) (Null ∷ int 0 ∷ []) ∷ run (IfNull Equality.Equal) (int 0 ∷ []) ∷ [] ≡ faults WrongTag ∷ faults WrongTag ∷ faults WrongTag ∷ faults WrongTag ∷ []
a_branch_wants_its_types = refl

a_branch_wants_its_operands : run (If Comparison.Equal) [] ∷ run (IfInts Comparison.Equal) (int 1 ∷ []) ∷ run (IfReferences Equality.Equal) (Null ∷ []) ∷ run (IfNull Equality.Equal) [] ∷ [] ≡ faults Underflow ∷ faults Underflow ∷ faults Underflow ∷ faults Underflow ∷ []
a_branch_wants_its_operands = refl

-- -1 to 1 have targets of their own
abbrev table : TableSwitch
table = record { low = negsuc 0; targets = 10 ∷ 11 ∷ 12 ∷ []; default = 99 }

abbrev lookup : LookupSwitch
lookup = record { pairs = record { key = negsuc 4; target = 10 } ∷ record { key = pos 7; target = 20 } ∷ []; default = 99 }

tableswitch_goes_by_the_int : map (λ v. row_plain (Plain.TableSwitch table) (start (v ∷ []))) (minus_int 2147483648 ∷ minus_int 2 ∷ minus_int 1 ∷ int 0 ∷ int 1 ∷ int 2 ∷ int 2147483647 ∷ []) ≡ to 99 [] ∷ to 99 [] ∷ to 10 [] ∷ to 11 [] ∷ to 12 [] ∷ to 99 [] ∷ to 99 [] ∷ []
tableswitch_goes_by_the_int = refl

lookupswitch_goes_by_the_key : map (λ v. row_plain (Plain.LookupSwitch lookup) (start (v ∷ []))) (minus_int 6 ∷ minus_int 5 ∷ minus_int 4 ∷ int 5 ∷ int 7 ∷ int 8 ∷ []) ≡ to 99 [] ∷ to 10 [] ∷ to 99 [] ∷ to 99 [] ∷ to 20 [] ∷ to 99 [] ∷ []
lookupswitch_goes_by_the_key = refl

an_empty_lookupswitch_takes_its_default : row_plain (Plain.LookupSwitch (record { pairs = []; default = 99 })) (start (int 1 ∷ [])) ≡ to 99 []
an_empty_lookupswitch_takes_its_default = refl

a_switch_wants_an_int : row_plain (Plain.TableSwitch table) (start (long 1 ∷ [])) ∷ row_plain (Plain.TableSwitch table) (start []) ∷ row_plain (Plain.LookupSwitch lookup) (start (Null ∷ [])) ∷ row_plain (Plain.LookupSwitch lookup) (start []) ∷ [] ≡ faults WrongTag ∷ faults Underflow ∷ faults WrongTag ∷ faults Underflow ∷ []
a_switch_wants_an_int = refl
