-- A plain row leaves as many local variables, goes to an instruction of the code or to its end, and
-- throws no other exception than an ArithmeticException.
use Rattle.std.proofs.Common.{◌≡◌, ℕ, zero, suc, ◌+◌, ◌<◌, ◌≤◌, List, [], ◌∷◌, ◌++◌, Option, Some, None, Bool, true, false, length, refl, arith}
use Rattle.std.specs.Prelude.{ℤ, pos, int_lt, slice_get, unwrap_or, nat_le, nat_lt, ◌&&◌, if◌then◌else◌}
use Rattle.std.specs.List.{list_all}
use Rattle.std.specs.Int.{int_gap, int_wrapping_add, int_wrapping_neg, w32}
use Rattle.std.specs.Ordering.{int_eq}
use Rattle.std.proofs.lemmas.Bool.{ltb-true}
use Rattle.std.proofs.lemmas.List.{length-set}
use Rattle.jm_program.specs.Instructions.{plain_fits, table_fits, has_high, lookup_fits, keys_rise}
use Rattle.jm_program.specs.declared.instruction.operation.Integral.{Integral}
use Rattle.jm_program.specs.declared.instruction.operation.OperandType.{OperandType}
use Rattle.jm_program.specs.declared.instruction.operation.StackOp.{StackOp}
use Rattle.jm_program.specs.declared.instruction.operation.StackOp.TheVariants.{Pop, Pop2, Dup, DupX1, DupX2, Dup2, Dup2X1, Dup2X2, Swap}
use Rattle.jm_program.specs.declared.instruction.operation.Branch.{Branch}
use Rattle.jm_program.specs.declared.instruction.operation.Branch.TheVariants.{If, IfInts, IfReferences, IfNull, Goto, GotoW}
use Rattle.jm_program.specs.declared.instruction.plain.Simple.{Simple}
use Rattle.jm_program.specs.declared.instruction.plain.Plain.{Plain}
use Rattle.jm_program.specs.declared.instruction.plain.TableSwitch.{TableSwitch}
use Rattle.jm_program.specs.declared.instruction.plain.LookupSwitch.{LookupSwitch}
use Rattle.jm_program.specs.declared.instruction.plain.SwitchPair.{SwitchPair}
use Rattle.jm_program.proofs.Truths.{both_true}
use Rattle.jm_values.specs.Activation.{Activation, units}
use Rattle.jm_values.specs.Outcome.{Outcome, goes, throws, faults}
use Rattle.jm_values.specs.Steps.{leave, push, is_of, places, with_operand, with_number, with_two_numbers, with_single, with_double, with_places, with_set, with_set_int}
use Rattle.jm_values.specs.LoadsAndStores.{row_load, row_store, row_increment, short_index}
use Rattle.jm_values.specs.OperandStack.{row_stack}
use Rattle.jm_values.specs.Arithmetic.{arithmetic_exception, arithmetic_of, push_or_throw, number, width, shift_of, distance, bitwise_of}
use Rattle.jm_values.specs.Conversions.{source, target, conversion_of}
use Rattle.jm_values.specs.Comparisons.{comparison_of, equality_of, order_of}
use Rattle.jm_values.specs.Branches.{row_branch, branch}
use Rattle.jm_values.specs.Switches.{table_target, target_in, lookup_target}
use Rattle.jm_values.specs.Constants.{small_int, small_long}
use Rattle.jm_values.specs.PlainRows.{row_simple, row_plain}
use Rattle.jm_values.specs.declared.fault.TagFault.{TagFault}
use Rattle.jm_values.specs.declared.value.Value.{Value}
use Rattle.jm_values.specs.declared.value.Value.TheVariants.{Int, Long, Null}
use Rattle.jm_values.proofs.WholeLongs.{stored_length}

-- what comes of a plain instruction in a code of so many instructions
abbrev pub Stays : ℕ → Activation → Outcome → Type 0
Stays count a (goes b) = (length b.locals ≡ length a.locals) × (b.at ≤ count)
Stays count a (throws class) = class ≡ arithmetic_exception
Stays count a (faults fault) = Unit {0}

tested : (count : ℕ) (a : Activation) (b : Bool) (o : Outcome) (fault : TagFault) → (b ≡ true → Stays count a o) → Stays count a (if b then o else faults fault)
tested count a true o fault h = h refl
tested count a false o fault h = tt

leave_stays : (count : ℕ) (a : Activation) (s : List Value) → a.at < count → Stays count a (leave a s)
leave_stays count a s l = tested count a (nat_le (units s) a.max_stack) _ _ (λ e. (refl, omega (arith, l)))

push_stays : (count : ℕ) (a : Activation) (v : Value) (s : List Value) → a.at < count → Stays count a (push a v s)
push_stays count a v s l = leave_stays count a (v ∷ s) l

operand_stays : (count : ℕ) (a : Activation) (type : OperandType) (s : List Value) (go : Value → List Value → Outcome) → ((v : Value) (r : List Value) → Stays count a (go v r)) → Stays count a (with_operand type s go)
operand_stays count a type [] go h = tt
operand_stays count a type (v ∷ s) go h = tested count a (is_of type v) _ _ (λ e. h v s)

number_stays : (count : ℕ) (a : Activation) (type : Integral) (s : List Value) (go : ℤ → List Value → Outcome) → ((n : ℤ) (r : List Value) → Stays count a (go n r)) → Stays count a (with_number type s go)
number_stays count a Integral.Int (Int n ∷ s) go h = h n s
number_stays count a Integral.Long (Long n ∷ s) go h = h n s
number_stays count a type [] go h = tt
number_stays count a _ _ go h = tt

two_numbers_stay : (count : ℕ) (a : Activation) (type : Integral) (s : List Value) (go : ℤ → ℤ → List Value → Outcome) → ((x y : ℤ) (r : List Value) → Stays count a (go x y r)) → Stays count a (with_two_numbers type s go)
two_numbers_stay count a type s go h = number_stays count a type s _ (λ y r. number_stays count a type r _ (λ x q. h x y q))

single_stays : (count : ℕ) (a : Activation) (s : List Value) (go : Value → List Value → Outcome) → ((v : Value) (r : List Value) → Stays count a (go v r)) → Stays count a (with_single s go)
single_stays count a [] go h = tt
single_stays count a (Long n ∷ s) go h = tt
single_stays count a (v ∷ s) go h = h v s

double_stays : (count : ℕ) (a : Activation) (s : List Value) (go : List Value → List Value → Outcome) → ((g r : List Value) → Stays count a (go g r)) → Stays count a (with_double s go)
double_stays count a [] go h = tt
double_stays count a (Long n ∷ s) go h = h (Long n ∷ []) s
double_stays count a (v ∷ s) go h = single_stays count a s _ (λ u r. h (v ∷ u ∷ []) r)

places_stay : (count : ℕ) (a : Activation) (type : OperandType) (n : ℕ) (o : Outcome) → Stays count a o → Stays count a (with_places type n a o)
places_stay count a type n o h = tested count a (nat_le (n + places type) (length a.locals)) _ _ (λ e. h)

set_stays : (count : ℕ) (a : Activation) (type : OperandType) (o : Option (Option Value)) (go : Value → Outcome) → ((v : Value) → Stays count a (go v)) → Stays count a (with_set type o go)
set_stays count a type None go h = tt
set_stays count a type (Some None) go h = tt
set_stays count a type (Some (Some v)) go h = tested count a (is_of type v) _ _ (λ e. h v)

set_int_stays : (count : ℕ) (a : Activation) (o : Option (Option Value)) (go : ℤ → Outcome) → ((n : ℤ) → Stays count a (go n)) → Stays count a (with_set_int o go)
set_int_stays count a None go h = tt
set_int_stays count a (Some None) go h = tt
set_int_stays count a (Some (Some (Int n))) go h = h n
set_int_stays count a (Some (Some v)) go h = tt

load_stays : (count : ℕ) (type : OperandType) (n : ℕ) (a : Activation) → a.at < count → Stays count a (row_load type n a)
load_stays count type n a l = places_stay count a type n _ (set_stays count a type (slice_get a.locals n) _ (λ v. push_stays count a v a.stack l))

store_stays : (count : ℕ) (type : OperandType) (n : ℕ) (a : Activation) → a.at < count → Stays count a (row_store type n a)
store_stays count type n a l = places_stay count a type n _ (operand_stays count a type a.stack _ (λ v s. (stored_length v n a.locals, omega (arith, l))))

increment_stays : (count n : ℕ) (c : ℤ) (a : Activation) → a.at < count → Stays count a (row_increment n c a)
increment_stays count n c a l = set_int_stays count a (slice_get a.locals n) _ (λ k. (length-set a.locals n (Some (Int (int_wrapping_add w32 k c))), omega (arith, l)))

stack_stays : (count : ℕ) (op : StackOp) (a : Activation) → a.at < count → Stays count a (row_stack op a)
stack_stays count Pop a l = single_stays count a a.stack _ (λ x s. (refl, omega (arith, l)))
stack_stays count Pop2 a l = double_stays count a a.stack _ (λ x s. (refl, omega (arith, l)))
stack_stays count Dup a l = single_stays count a a.stack _ (λ x s. leave_stays count a (x ∷ x ∷ s) l)
stack_stays count DupX1 a l = single_stays count a a.stack _ (λ x r. single_stays count a r _ (λ y s. leave_stays count a (x ∷ y ∷ x ∷ s) l))
stack_stays count DupX2 a l = single_stays count a a.stack _ (λ x r. double_stays count a r _ (λ y s. leave_stays count a (x ∷ (y ++ (x ∷ s))) l))
stack_stays count Dup2 a l = double_stays count a a.stack _ (λ x s. leave_stays count a (x ++ (x ++ s)) l)
stack_stays count Dup2X1 a l = double_stays count a a.stack _ (λ x r. single_stays count a r _ (λ y s. leave_stays count a (x ++ (y ∷ (x ++ s))) l))
stack_stays count Dup2X2 a l = double_stays count a a.stack _ (λ x r. double_stays count a r _ (λ y s. leave_stays count a (x ++ (y ++ (x ++ s))) l))
stack_stays count Swap a l = single_stays count a a.stack _ (λ x r. single_stays count a r _ (λ y s. (refl, omega (arith, l))))

result_stays : (count : ℕ) (a : Activation) (type : Integral) (n : Option ℤ) (s : List Value) → a.at < count → Stays count a (push_or_throw a type n s)
result_stays count a type None s l = refl
result_stays count a type (Some n) s l = push_stays count a (number type n) s l

branch_stays : (count : ℕ) (a : Activation) (to : ℕ) (holds : Bool) (s : List Value) → a.at < count → to < count → Stays count a (branch a to holds s)
branch_stays count a to true s l t = (refl, omega (arith, t))
branch_stays count a to false s l t = (refl, omega (arith, l))

branches_stay : (count : ℕ) (op : Branch) (to : ℕ) (a : Activation) → a.at < count → to < count → Stays count a (row_branch op to a)
branches_stay count (If c) to a l t = number_stays count a Integral.Int a.stack _ (λ x s. branch_stays count a to (comparison_of c x (pos 0)) s l t)
branches_stay count (IfInts c) to a l t = two_numbers_stay count a Integral.Int a.stack _ (λ x y s. branch_stays count a to (comparison_of c x y) s l t)
branches_stay count (IfReferences c) to a l t =
    operand_stays count a OperandType.Reference a.stack _ (λ y r. operand_stays count a OperandType.Reference r _ (λ x s. branch_stays count a to (equality_of c x y) s l t))
branches_stay count (IfNull c) to a l t = operand_stays count a OperandType.Reference a.stack _ (λ x s. branch_stays count a to (equality_of c x Null) s l t)
branches_stay count Goto to a l t = (refl, omega (arith, t))
branches_stay count GotoW to a l t = (refl, omega (arith, t))

simple_stays : (count : ℕ) (op : Simple) (a : Activation) → a.at < count → Stays count a (row_simple op a)
simple_stays count Simple.Nop a l = (refl, omega (arith, l))
simple_stays count Simple.Null a l = push_stays count a Null a.stack l
simple_stays count (Simple.IntConstant c) a l = push_stays count a (Int (small_int c)) a.stack l
simple_stays count (Simple.LongConstant c) a l = push_stays count a (Long (small_long c)) a.stack l
simple_stays count (Simple.Load type n) a l = load_stays count type (short_index n) a l
simple_stays count (Simple.Store type n) a l = store_stays count type (short_index n) a l
simple_stays count (Simple.Stack op) a l = stack_stays count op a l
simple_stays count (Simple.Arithmetic op type) a l = two_numbers_stay count a type a.stack _ (λ x y s. result_stays count a type (arithmetic_of op (width type) x y) s l)
simple_stays count (Simple.Negate type) a l = number_stays count a type a.stack _ (λ x s. push_stays count a (number type (int_wrapping_neg (width type) x)) s l)
simple_stays count (Simple.Shift op type) a l =
    number_stays count a Integral.Int a.stack _ (λ n r. number_stays count a type r _ (λ x s. push_stays count a (number type (shift_of op (width type) x (distance type n))) s l))
simple_stays count (Simple.Bitwise op type) a l = two_numbers_stay count a type a.stack _ (λ x y s. push_stays count a (number type (bitwise_of op (width type) x y)) s l)
simple_stays count (Simple.Convert op) a l = number_stays count a (source op) a.stack _ (λ n s. push_stays count a (number (target op) (conversion_of op n)) s l)
simple_stays count Simple.CompareLongs a l = two_numbers_stay count a Integral.Long a.stack _ (λ x y s. push_stays count a (Int (order_of x y)) s l)

-- targets of switches
one_of : (count : ℕ) (ts : List ℕ) (i default : ℕ) → list_all (λ t. nat_lt t count) ts ≡ true → default < count → unwrap_or (slice_get ts i) default < count
one_of count [] i default a d = d
one_of count (t ∷ ts) zero default a d = ltb-true t count (both_true (nat_lt t count) (list_all (λ x. nat_lt x count) ts) a).0
one_of count (t ∷ ts) (suc i) default a d = one_of count ts i default (both_true (nat_lt t count) (list_all (λ x. nat_lt x count) ts) a).1 d

table_in : (count : ℕ) (table : TableSwitch) (n : ℤ) → table_fits count table ≡ true → table_target table n < count
table_in count table n f = by (int_lt n table.low)
  where
    parts : (has_high table && list_all (λ t. nat_lt t count) table.targets ≡ true) × (nat_lt table.default count ≡ true)
    parts = both_true (has_high table && list_all (λ t. nat_lt t count) table.targets) (nat_lt table.default count) f

    default : table.default < count
    default = ltb-true table.default count parts.1

    by : (b : Bool) → (if b then table.default else unwrap_or (slice_get table.targets (int_gap table.low n)) table.default) < count
    by true = default
    by false = one_of count table.targets (int_gap table.low n) table.default (both_true (has_high table) (list_all (λ t. nat_lt t count) table.targets) parts.0).1 default

pair_in : (count : ℕ) (ps : List SwitchPair) (default : ℕ) (n : ℤ) → list_all (λ (p : SwitchPair). nat_lt p.target count) ps ≡ true → default < count → target_in ps default n < count
pair_in count [] default n a d = d
pair_in count (p ∷ ps) default n a d = by (int_eq p.key n) (both_true (nat_lt p.target count) (list_all (λ (x : SwitchPair). nat_lt x.target count) ps) a) (pair_in count ps default n)
  where
    by : (b : Bool) → (nat_lt p.target count ≡ true) × (list_all (λ (x : SwitchPair). nat_lt x.target count) ps ≡ true) → (list_all (λ (x : SwitchPair). nat_lt x.target count) ps ≡ true → default < count → target_in ps default n < count)
        → (if b then p.target else target_in ps default n) < count
    by true both ih = ltb-true p.target count both.0
    by false both ih = ih both.1 d

lookup_in : (count : ℕ) (lookup : LookupSwitch) (n : ℤ) → lookup_fits count lookup ≡ true → lookup_target lookup n < count
lookup_in count lookup n f =
    let parts : (keys_rise None lookup.pairs && list_all (λ (p : SwitchPair). nat_lt p.target count) lookup.pairs ≡ true) × (nat_lt lookup.default count ≡ true) =
    both_true (keys_rise None lookup.pairs && list_all (λ (p : SwitchPair). nat_lt p.target count) lookup.pairs) (nat_lt lookup.default count) f in
    pair_in count lookup.pairs lookup.default n (both_true (keys_rise None lookup.pairs) (list_all (λ (p : SwitchPair). nat_lt p.target count) lookup.pairs) parts.0).1 (ltb-true lookup.default count parts.1)

at_most : (n count : ℕ) → n < count → n ≤ count
at_most n count l = omega (arith, l)

pub plain_stays : (count : ℕ) (op : Plain) (a : Activation) → plain_fits count op ≡ true → a.at < count → Stays count a (row_plain op a)
plain_stays count (Plain.Simple op) a f l = simple_stays count op a l
plain_stays count (Plain.PushByte n) a f l = push_stays count a (Int n) a.stack l
plain_stays count (Plain.PushShort n) a f l = push_stays count a (Int n) a.stack l
plain_stays count (Plain.Load type n) a f l = load_stays count type n a l
plain_stays count (Plain.Store type n) a f l = store_stays count type n a l
plain_stays count (Plain.Increment n c) a f l = increment_stays count n c a l
plain_stays count (Plain.Branch op to) a f l = branches_stay count op to a l (ltb-true to count f)
plain_stays count (Plain.TableSwitch table) a f l = number_stays count a Integral.Int a.stack _ (λ n s. (refl, at_most (table_target table n) count (table_in count table n f)))
plain_stays count (Plain.LookupSwitch lookup) a f l = number_stays count a Integral.Int a.stack _ (λ n s. (refl, at_most (lookup_target lookup n) count (lookup_in count lookup n f)))
