-- A plain row leaves a well-formed activation well formed, in the same frame.
use Rattle.std.proofs.Common.{◌≡◌, ℕ, ◌+◌, ◌≤◌, List, [], ◌∷◌, ◌++◌, Option, Some, None, Bool, true, false, length, refl, sym, ap, ◌∙◌, arith}
use Rattle.std.specs.Prelude.{ℤ, pos, slice_get, nat_le, if◌then◌else◌}
use Rattle.std.specs.Int.{int_wrapping_add, int_wrapping_neg, w32}
use Rattle.std.proofs.lemmas.List.{length-set}
use Rattle.jm_values.specs.Activation.{Activation, units, category}
use Rattle.jm_values.specs.Outcome.{Outcome, goes, faults}
use Rattle.jm_values.specs.WellFormed.{IsWellFormed, KeepsForm}
use Rattle.jm_values.specs.Steps.{go_on, jump, leave, push, is_of, places, with_operand, with_number, with_two_numbers, with_single, with_double, with_places, with_set, with_set_int}
use Rattle.jm_values.specs.LoadsAndStores.{row_load, row_store, row_increment, short_index}
use Rattle.jm_values.specs.OperandStack.{row_stack}
use Rattle.jm_values.specs.Arithmetic.{arithmetic_of, push_or_throw, number, width, shift_of, distance, bitwise_of}
use Rattle.jm_values.specs.Conversions.{source, target, conversion_of}
use Rattle.jm_values.specs.Comparisons.{comparison_of, equality_of, order_of}
use Rattle.jm_values.specs.Branches.{row_branch, branch}
use Rattle.jm_values.specs.Switches.{table_target, lookup_target}
use Rattle.jm_values.specs.Constants.{small_int, small_long}
use Rattle.jm_values.specs.PlainRows.{row_simple, row_plain}
use Rattle.jm_values.specs.declared.fault.TagFault.{TagFault}
use Rattle.jm_values.specs.declared.value.Value.{Value}
use Rattle.jm_values.specs.declared.value.Value.TheVariants.{Int, Long, Null}
use Rattle.jm_program.specs.declared.instruction.operation.Integral.{Integral}
use Rattle.jm_program.specs.declared.instruction.operation.OperandType.{OperandType}
use Rattle.jm_program.specs.declared.instruction.operation.StackOp.{StackOp}
use Rattle.jm_program.specs.declared.instruction.operation.StackOp.TheVariants.{Pop, Pop2, Dup, DupX1, DupX2, Dup2, Dup2X1, Dup2X2, Swap}
use Rattle.jm_program.specs.declared.instruction.operation.Branch.{Branch}
use Rattle.jm_program.specs.declared.instruction.operation.Branch.TheVariants.{If, IfInts, IfReferences, IfNull, Goto, GotoW}
use Rattle.jm_program.specs.declared.instruction.plain.Simple.{Simple}
use Rattle.jm_program.specs.declared.instruction.plain.Plain.{Plain}
use Rattle.jm_values.proofs.WholeLongs.{stored_whole, stored_length, increment_whole}

-- a test before what keeps form
tested : (a : Activation) (b : Bool) (o : Outcome) (fault : TagFault) → (b ≡ true → KeepsForm a o) → KeepsForm a (if b then o else faults fault)
tested a true o fault h = h refl
tested a false o fault h = tt

-- what goes on in the same frame, with operands that fit
settled : (a : Activation) (at : ℕ) (s : List Value) → IsWellFormed a → units s ≤ a.max_stack → KeepsForm a (goes (record { at = at; max_stack = a.max_stack; locals = a.locals; stack = s }))
settled a at s w fits = (record { max_stack = refl; max_locals = refl }, record { room = fits; longs = w.longs })

on_keeps : (a : Activation) (s : List Value) → IsWellFormed a → units s ≤ units a.stack → KeepsForm a (go_on a s)
on_keeps a s w less = settled a (a.at + 1) s w (omega (arith, w.room, less))

jump_keeps : (a : Activation) (target : ℕ) (s : List Value) → IsWellFormed a → units s ≤ units a.stack → KeepsForm a (jump a target s)
jump_keeps a target s w less = settled a target s w (omega (arith, w.room, less))

leave_keeps : (a : Activation) (s : List Value) → IsWellFormed a → KeepsForm a (leave a s)
leave_keeps a s w = tested a (nat_le (units s) a.max_stack) _ _ (λ e. settled a (a.at + 1) s w (grind (arith, e)))

push_keeps : (a : Activation) (v : Value) (s : List Value) → IsWellFormed a → KeepsForm a (push a v s)
push_keeps a v s w = leave_keeps a (v ∷ s) w

-- popping leaves fewer units
operand_keeps : (a : Activation) (type : OperandType) (s : List Value) (go : Value → List Value → Outcome) → ((v : Value) (r : List Value) → is_of type v ≡ true → units r ≤ units s → KeepsForm a (go v r)) → KeepsForm a (with_operand type s go)
operand_keeps a type [] go h = tt
operand_keeps a type (v ∷ s) go h = tested a (is_of type v) _ _ (λ e. h v s e (omega arith))

number_keeps : (a : Activation) (type : Integral) (s : List Value) (go : ℤ → List Value → Outcome) → ((n : ℤ) (r : List Value) → units r ≤ units s → KeepsForm a (go n r)) → KeepsForm a (with_number type s go)
number_keeps a Integral.Int (Int n ∷ s) go h = h n s (omega arith)
number_keeps a Integral.Long (Long n ∷ s) go h = h n s (omega arith)
number_keeps a type [] go h = tt
number_keeps a _ _ go h = tt

two_numbers_keep : (a : Activation) (type : Integral) (s : List Value) (go : ℤ → ℤ → List Value → Outcome) → ((x y : ℤ) (r : List Value) → units r ≤ units s → KeepsForm a (go x y r)) → KeepsForm a (with_two_numbers type s go)
two_numbers_keep a type s go h =
    number_keeps a type s _ (λ y r less. number_keeps a type r _ (λ x q least. h x y q (omega (arith, less, least))))

single_keeps : (a : Activation) (s : List Value) (go : Value → List Value → Outcome) → ((v : Value) (r : List Value) → category v + units r ≡ units s → KeepsForm a (go v r)) → KeepsForm a (with_single s go)
single_keeps a [] go h = tt
single_keeps a (Long n ∷ s) go h = tt
single_keeps a (v ∷ s) go h = h v s refl

double_keeps : (a : Activation) (s : List Value) (go : List Value → List Value → Outcome) → ((g r : List Value) → units r ≤ units s → KeepsForm a (go g r)) → KeepsForm a (with_double s go)
double_keeps a [] go h = tt
double_keeps a (Long n ∷ s) go h = h (Long n ∷ []) s (omega arith)
double_keeps a (v ∷ s) go h = single_keeps a s _ (λ u r e. h (v ∷ u ∷ []) r (omega (arith, e)))

places_keep : (a : Activation) (type : OperandType) (n : ℕ) (o : Outcome) → (n + places type ≤ length a.locals → KeepsForm a o) → KeepsForm a (with_places type n a o)
places_keep a type n o h = tested a (nat_le (n + places type) (length a.locals)) _ _ (λ e. h (grind (arith, e)))

set_keeps : (a : Activation) (type : OperandType) (o : Option (Option Value)) (go : Value → Outcome) → ((v : Value) → KeepsForm a (go v)) → KeepsForm a (with_set type o go)
set_keeps a type None go h = tt
set_keeps a type (Some None) go h = tt
set_keeps a type (Some (Some v)) go h = tested a (is_of type v) _ _ (λ e. h v)

set_int_keeps : (a : Activation) (o : Option (Option Value)) (go : ℤ → Outcome) → ((n : ℤ) → o ≡ Some (Some (Int n)) → KeepsForm a (go n)) → KeepsForm a (with_set_int o go)
set_int_keeps a None go h = tt
set_int_keeps a (Some None) go h = tt
set_int_keeps a (Some (Some (Int n))) go h = h n refl
set_int_keeps a (Some (Some v)) go h = tt

-- a long takes the two places that were asked for
long_places : (type : OperandType) (v : Value) (k : ℤ) → is_of type v ≡ true → v ≡ Long k → places type ≡ 2
long_places OperandType.Long v k e i = refl
long_places OperandType.Int v k e i = let no : is_of OperandType.Int (Long k) ≡ true = sym (ap (is_of OperandType.Int) i) ∙ e in cc
long_places OperandType.Reference v k e i = let no : is_of OperandType.Reference (Long k) ≡ true = sym (ap (is_of OperandType.Reference) i) ∙ e in cc

load_keeps : (type : OperandType) (n : ℕ) (a : Activation) → IsWellFormed a → KeepsForm a (row_load type n a)
load_keeps type n a w = places_keep a type n _ (λ there. set_keeps a type (slice_get a.locals n) _ (λ v. push_keeps a v a.stack w))

store_keeps : (type : OperandType) (n : ℕ) (a : Activation) → IsWellFormed a → KeepsForm a (row_store type n a)
store_keeps type n a w =
    places_keep a type n _ (λ there. operand_keeps a type a.stack _ (λ v s e less.
    let long_there : (k : ℤ) → v ≡ Long k → n + 2 ≤ length a.locals = λ k i. omega (arith, there, long_places type v k e i) in
    (record { max_stack = refl; max_locals = stored_length v n a.locals }, record { room = omega (arith, w.room, less); longs = stored_whole v n a.locals long_there w.longs })))

increment_keeps : (n : ℕ) (c : ℤ) (a : Activation) → IsWellFormed a → KeepsForm a (row_increment n c a)
increment_keeps n c a w =
    set_int_keeps a (slice_get a.locals n) _ (λ k e. (record { max_stack = refl; max_locals = length-set a.locals n (Some (Int (int_wrapping_add w32 k c))) }, record { room = w.room; longs = increment_whole a.locals n k (int_wrapping_add w32 k c) e w.longs }))

stack_keeps : (op : StackOp) (a : Activation) → IsWellFormed a → KeepsForm a (row_stack op a)
stack_keeps Pop a w = single_keeps a a.stack _ (λ x s e. on_keeps a s w (omega (arith, e)))
stack_keeps Pop2 a w = double_keeps a a.stack _ (λ x s less. on_keeps a s w less)
stack_keeps Dup a w = single_keeps a a.stack _ (λ x s e. leave_keeps a (x ∷ x ∷ s) w)
stack_keeps DupX1 a w =
    single_keeps a a.stack _ (λ x r e. single_keeps a r _ (λ y s d. leave_keeps a (x ∷ y ∷ x ∷ s) w))
stack_keeps DupX2 a w =
    single_keeps a a.stack _ (λ x r e. double_keeps a r _ (λ y s d. leave_keeps a (x ∷ (y ++ (x ∷ s))) w))
stack_keeps Dup2 a w = double_keeps a a.stack _ (λ x s e. leave_keeps a (x ++ (x ++ s)) w)
stack_keeps Dup2X1 a w =
    double_keeps a a.stack _ (λ x r e. single_keeps a r _ (λ y s d. leave_keeps a (x ++ (y ∷ (x ++ s))) w))
stack_keeps Dup2X2 a w =
    double_keeps a a.stack _ (λ x r e. double_keeps a r _ (λ y s d. leave_keeps a (x ++ (y ++ (x ++ s))) w))
stack_keeps Swap a w =
    single_keeps a a.stack _ (λ x r e. single_keeps a r _ (λ y s d. on_keeps a (y ∷ x ∷ s) w (omega (arith, e, d))))

result_keeps : (a : Activation) (type : Integral) (n : Option ℤ) (s : List Value) → IsWellFormed a → KeepsForm a (push_or_throw a type n s)
result_keeps a type None s w = tt
result_keeps a type (Some n) s w = push_keeps a (number type n) s w

branch_keeps : (a : Activation) (target : ℕ) (holds : Bool) (s : List Value) → IsWellFormed a → units s ≤ units a.stack → KeepsForm a (branch a target holds s)
branch_keeps a target true s w less = jump_keeps a target s w less
branch_keeps a target false s w less = on_keeps a s w less

branches_keep : (op : Branch) (target : ℕ) (a : Activation) → IsWellFormed a → KeepsForm a (row_branch op target a)
branches_keep (If c) target a w =
    number_keeps a Integral.Int a.stack _ (λ x s less. branch_keeps a target (comparison_of c x (pos 0)) s w less)
branches_keep (IfInts c) target a w =
    two_numbers_keep a Integral.Int a.stack _ (λ x y s less. branch_keeps a target (comparison_of c x y) s w less)
branches_keep (IfReferences c) target a w =
    operand_keeps a OperandType.Reference a.stack _ (λ y r e less. operand_keeps a OperandType.Reference r _ (λ x s d least. branch_keeps a target (equality_of c x y) s w (omega (arith, less, least))))
branches_keep (IfNull c) target a w =
    operand_keeps a OperandType.Reference a.stack _ (λ x s e less. branch_keeps a target (equality_of c x Null) s w less)
branches_keep Goto target a w = jump_keeps a target a.stack w (omega arith)
branches_keep GotoW target a w = jump_keeps a target a.stack w (omega arith)

simple_keeps : (op : Simple) (a : Activation) → IsWellFormed a → KeepsForm a (row_simple op a)
simple_keeps Simple.Nop a w = on_keeps a a.stack w (omega arith)
simple_keeps Simple.Null a w = push_keeps a Null a.stack w
simple_keeps (Simple.IntConstant c) a w = push_keeps a (Int (small_int c)) a.stack w
simple_keeps (Simple.LongConstant c) a w = push_keeps a (Long (small_long c)) a.stack w
simple_keeps (Simple.Load type n) a w = load_keeps type (short_index n) a w
simple_keeps (Simple.Store type n) a w = store_keeps type (short_index n) a w
simple_keeps (Simple.Stack op) a w = stack_keeps op a w
simple_keeps (Simple.Arithmetic op type) a w =
    two_numbers_keep a type a.stack _ (λ x y s less. result_keeps a type (arithmetic_of op (width type) x y) s w)
simple_keeps (Simple.Negate type) a w = number_keeps a type a.stack _ (λ x s less. push_keeps a (number type (int_wrapping_neg (width type) x)) s w)
simple_keeps (Simple.Shift op type) a w =
    number_keeps a Integral.Int a.stack _ (λ count r less. number_keeps a type r _ (λ x s least. push_keeps a (number type (shift_of op (width type) x (distance type count))) s w))
simple_keeps (Simple.Bitwise op type) a w =
    two_numbers_keep a type a.stack _ (λ x y s less. push_keeps a (number type (bitwise_of op (width type) x y)) s w)
simple_keeps (Simple.Convert op) a w =
    number_keeps a (source op) a.stack _ (λ n s less. push_keeps a (number (target op) (conversion_of op n)) s w)
simple_keeps Simple.CompareLongs a w = two_numbers_keep a Integral.Long a.stack _ (λ x y s less. push_keeps a (Int (order_of x y)) s w)

pub plain_keeps : (op : Plain) (a : Activation) → IsWellFormed a → KeepsForm a (row_plain op a)
plain_keeps (Plain.Simple op) a w = simple_keeps op a w
plain_keeps (Plain.PushByte n) a w = push_keeps a (Int n) a.stack w
plain_keeps (Plain.PushShort n) a w = push_keeps a (Int n) a.stack w
plain_keeps (Plain.Load type n) a w = load_keeps type n a w
plain_keeps (Plain.Store type n) a w = store_keeps type n a w
plain_keeps (Plain.Increment n c) a w = increment_keeps n c a w
plain_keeps (Plain.Branch op target) a w = branches_keep op target a w
plain_keeps (Plain.TableSwitch table) a w =
    number_keeps a Integral.Int a.stack _ (λ n s less. jump_keeps a (table_target table n) s w less)
plain_keeps (Plain.LookupSwitch lookup) a w =
    number_keeps a Integral.Int a.stack _ (λ n s less. jump_keeps a (lookup_target lookup n) s w less)
