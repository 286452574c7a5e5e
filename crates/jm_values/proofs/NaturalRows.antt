-- A plain row does the same under other names.
use Rattle.std.proofs.Common.{◌≡◌, ℕ, ◌++◌, List, ◌∷◌, Option, Some, None, Bool, true, false, refl, sym, ap, ◌∙◌, inl}
use Rattle.std.specs.Prelude.{map, slice_get, slice_set, ℤ, pos, nat_eq, not}
use Rattle.std.specs.Int.{int_wrapping_add, w32, int_wrapping_neg}
use Rattle.std.proofs.lemmas.List.{map-append}
use Rattle.std.proofs.lemmas.Bool.{eq-eqb, ne_eqb, eqb-true, eqb-false}
use Rattle.jm_values.specs.Shape.{Among, IsOneToOne}
use Rattle.jm_values.specs.Activation.{Activation}
use Rattle.jm_values.specs.Outcome.{Outcome}
use Rattle.jm_values.specs.Rename.{rename, refs, rename_activation, rename_outcome, refs_activation, stack_shape, locals_shape}
use Rattle.jm_values.specs.Steps.{go_on, leave, push, with_set, with_set_int}
use Rattle.jm_values.specs.LoadsAndStores.{row_load, row_store, row_increment, short_index, with_locals}
use Rattle.jm_values.specs.OperandStack.{row_stack}
use Rattle.jm_values.specs.Arithmetic.{row_arithmetic, row_negate, row_shift, row_bitwise, arithmetic_of, push_or_throw, number, width, shift_of, distance, bitwise_of}
use Rattle.jm_values.specs.Conversions.{row_convert, source, target, conversion_of}
use Rattle.jm_values.specs.Comparisons.{row_compare_longs, comparison_of, equality_of, is_same, order_of}
use Rattle.jm_values.specs.Branches.{row_branch, branch}
use Rattle.jm_values.specs.Switches.{row_table_switch, row_lookup_switch}
use Rattle.jm_values.specs.Constants.{small_int, small_long}
use Rattle.jm_values.specs.PlainRows.{row_simple, row_plain}
use Rattle.jm_values.specs.declared.value.Value.{Value}
use Rattle.jm_values.specs.declared.value.Value.TheVariants.{Int, Long, Null, Ref}
use Rattle.jm_program.specs.declared.instruction.operation.Integral.{Integral}
use Rattle.jm_program.specs.declared.instruction.operation.OperandType.{OperandType}
use Rattle.jm_program.specs.declared.instruction.operation.StackOp.{StackOp}
use Rattle.jm_program.specs.declared.instruction.operation.StackOp.TheVariants.{Pop, Pop2, Dup, DupX1, DupX2, Dup2, Dup2X1, Dup2X2, Swap}
use Rattle.jm_program.specs.declared.instruction.operation.Arithmetic.{Arithmetic}
use Rattle.jm_program.specs.declared.instruction.operation.Shift.{Shift}
use Rattle.jm_program.specs.declared.instruction.operation.Bitwise.{Bitwise}
use Rattle.jm_program.specs.declared.instruction.operation.Conversion.{Conversion}
use Rattle.jm_program.specs.declared.instruction.operation.Equality.{Equality}
use Rattle.jm_program.specs.declared.instruction.operation.Branch.{Branch}
use Rattle.jm_program.specs.declared.instruction.operation.Branch.TheVariants.{If, IfInts, IfReferences, IfNull, Goto, GotoW}
use Rattle.jm_program.specs.declared.instruction.plain.TableSwitch.{TableSwitch}
use Rattle.jm_program.specs.declared.instruction.plain.LookupSwitch.{LookupSwitch}
use Rattle.jm_program.specs.declared.instruction.plain.Simple.{Simple}
use Rattle.jm_program.specs.declared.instruction.plain.Plain.{Plain}
use Rattle.jm_values.proofs.Among.{among_left, among_right}
use Rattle.jm_values.proofs.NaturalSteps.{leave_natural, push_natural, operand_natural, number_natural, two_numbers_natural, single_natural, double_natural, places_natural, set_natural, set_int_natural, read_renamed, set_renamed, stored_renamed}

-- loads, stores and iinc
load_natural : (type : OperandType) (n : ℕ) (f : ℕ → ℕ) (a : Activation) → row_load type n (rename_activation f a) ≡ rename_outcome f (row_load type n a)
load_natural type n f a =
    places_natural f type n a _ _ (ap (λ o. with_set type o (λ v. push (rename_activation f a) v (map (rename f) a.stack))) (read_renamed f a.locals n) ∙ set_natural f type (slice_get a.locals n) _ _ (λ v. push_natural f a v a.stack))

store_natural : (type : OperandType) (n : ℕ) (f : ℕ → ℕ) (a : Activation) → row_store type n (rename_activation f a) ≡ rename_outcome f (row_store type n a)
store_natural type n f a =
    places_natural f type n a _ _ (operand_natural f type a.stack _ _ (λ v s e. ap (λ l. go_on (with_locals (rename_activation f a) l) (map (rename f) s)) (stored_renamed f v n a.locals)))

increment_natural : (n : ℕ) (c : ℤ) (f : ℕ → ℕ) (a : Activation) → row_increment n c (rename_activation f a) ≡ rename_outcome f (row_increment n c a)
increment_natural n c f a =
    ap (λ o. with_set_int o (goes_with (rename_activation f a))) (read_renamed f a.locals n)
    ∙ set_int_natural f (slice_get a.locals n) _ _ (λ k. ap (λ l. go_on (with_locals (rename_activation f a) l) (map (rename f) a.stack)) (set_renamed f a.locals n (Some (Int (int_wrapping_add w32 k c)))))
  where
    goes_with : Activation → ℤ → Outcome
    goes_with b k = go_on (with_locals b (slice_set b.locals n (Some (Int (int_wrapping_add w32 k c))))) b.stack

-- operands that are joined
joined : (f : ℕ → ℕ) (x y : List Value) → map (rename f) x ++ map (rename f) y ≡ map (rename f) (x ++ y)
joined f x y = sym (map-append (rename f) x y)

leave_joined : (f : ℕ → ℕ) (a : Activation) (s t : List Value) → t ≡ map (rename f) s → leave (rename_activation f a) t ≡ rename_outcome f (leave a s)
leave_joined f a s t e = ap (leave (rename_activation f a)) e ∙ leave_natural f a s

stack_natural : (op : StackOp) (f : ℕ → ℕ) (a : Activation) → row_stack op (rename_activation f a) ≡ rename_outcome f (row_stack op a)
stack_natural Pop f a = single_natural f a.stack _ _ (λ x s. refl)
stack_natural Pop2 f a = double_natural f a.stack _ _ (λ x s. refl)
stack_natural Dup f a = single_natural f a.stack _ _ (λ x s. leave_natural f a (x ∷ x ∷ s))
stack_natural DupX1 f a =
    single_natural f a.stack _ _ (λ x r. single_natural f r _ _ (λ y s. leave_natural f a (x ∷ y ∷ x ∷ s)))
stack_natural DupX2 f a =
    single_natural f a.stack _ _ (λ x r. double_natural f r _ _ (λ y s. leave_joined f a (x ∷ (y ++ (x ∷ s))) _ (ap (λ l. rename f x ∷ l) (joined f y (x ∷ s)))))
stack_natural Dup2 f a =
    double_natural f a.stack _ _ (λ x s. leave_joined f a (x ++ (x ++ s)) _ (ap (λ l. map (rename f) x ++ l) (joined f x s) ∙ joined f x (x ++ s)))
stack_natural Dup2X1 f a =
    double_natural f a.stack _ _ (λ x r. single_natural f r _ _ (λ y s. leave_joined f a (x ++ (y ∷ (x ++ s))) _ (ap (λ l. map (rename f) x ++ (rename f y ∷ l)) (joined f x s) ∙ joined f x (y ∷ (x ++ s)))))
stack_natural Dup2X2 f a =
    double_natural f a.stack _ _ (λ x r. double_natural f r _ _ (λ y s. leave_joined f a (x ++ (y ++ (x ++ s))) _ (ap (λ l. map (rename f) x ++ (map (rename f) y ++ l)) (joined f x s) ∙ ap (λ l. map (rename f) x ++ l) (joined f y (x ++ s)) ∙ joined f x (y ++ (x ++ s)))))
stack_natural Swap f a = single_natural f a.stack _ _ (λ x r. single_natural f r _ _ (λ y s. refl))

-- arithmetic, conversions and lcmp
pushed_number : (f : ℕ → ℕ) (a : Activation) (type : Integral) (n : ℤ) (s : List Value) → push (rename_activation f a) (number type n) (map (rename f) s) ≡ rename_outcome f (push a (number type n) s)
pushed_number f a Integral.Int n s = push_natural f a (Int n) s
pushed_number f a Integral.Long n s = push_natural f a (Long n) s

pushed_or_thrown : (f : ℕ → ℕ) (a : Activation) (type : Integral) (n : Option ℤ) (s : List Value) → push_or_throw (rename_activation f a) type n (map (rename f) s) ≡ rename_outcome f (push_or_throw a type n s)
pushed_or_thrown f a type None s = refl
pushed_or_thrown f a type (Some n) s = pushed_number f a type n s

arithmetic_natural : (op : Arithmetic) (type : Integral) (f : ℕ → ℕ) (a : Activation) → row_arithmetic op type (rename_activation f a) ≡ rename_outcome f (row_arithmetic op type a)
arithmetic_natural op type f a =
    two_numbers_natural f type a.stack _ _ (λ x y s. pushed_or_thrown f a type (arithmetic_of op (width type) x y) s)

negate_natural : (type : Integral) (f : ℕ → ℕ) (a : Activation) → row_negate type (rename_activation f a) ≡ rename_outcome f (row_negate type a)
negate_natural type f a =
    number_natural f type a.stack _ _ (λ x s. pushed_number f a type (int_wrapping_neg (width type) x) s)

shift_natural : (op : Shift) (type : Integral) (f : ℕ → ℕ) (a : Activation) → row_shift op type (rename_activation f a) ≡ rename_outcome f (row_shift op type a)
shift_natural op type f a =
    number_natural f Integral.Int a.stack _ _ (λ count r. number_natural f type r _ _ (λ x s. pushed_number f a type (shift_of op (width type) x (distance type count)) s))

bitwise_natural : (op : Bitwise) (type : Integral) (f : ℕ → ℕ) (a : Activation) → row_bitwise op type (rename_activation f a) ≡ rename_outcome f (row_bitwise op type a)
bitwise_natural op type f a =
    two_numbers_natural f type a.stack _ _ (λ x y s. pushed_number f a type (bitwise_of op (width type) x y) s)

convert_natural : (op : Conversion) (f : ℕ → ℕ) (a : Activation) → row_convert op (rename_activation f a) ≡ rename_outcome f (row_convert op a)
convert_natural op f a = number_natural f (source op) a.stack _ _ (λ n s. pushed_number f a (target op) (conversion_of op n) s)

compare_natural : (f : ℕ → ℕ) (a : Activation) → row_compare_longs (rename_activation f a) ≡ rename_outcome f (row_compare_longs a)
compare_natural f a = two_numbers_natural f Integral.Long a.stack _ _ (λ x y s. push_natural f a (Int (order_of x y)) s)

-- branches: references are told apart under names that are one-to-one
branch_natural : (f : ℕ → ℕ) (a : Activation) (target : ℕ) (holds : Bool) (s : List Value) → branch (rename_activation f a) target holds (map (rename f) s) ≡ rename_outcome f (branch a target holds s)
branch_natural f a target true s = refl
branch_natural f a target false s = refl

same_test : (f : ℕ → ℕ) (p q : ℕ) → (f p ≡ f q → p ≡ q) → (b : Bool) → nat_eq p q ≡ b → nat_eq (f p) (f q) ≡ b
same_test f p q one true e = eq-eqb (f p) (f q) (ap f (eqb-true p q e))
same_test f p q one false e = ne_eqb (f p) (f q) (λ same. eqb-false p q e (one same))

same_renamed : (f : ℕ → ℕ) (x y : Value) → ((p q : ℕ) → Among p (refs x) → Among q (refs y) → f p ≡ f q → p ≡ q) → is_same (rename f x) (rename f y) ≡ is_same x y
same_renamed f (Ref p) (Ref q) one = same_test f p q (one p q (inl refl) (inl refl)) (nat_eq p q) refl
same_renamed f Null Null one = refl
same_renamed f _ _ one = refl

equality_renamed : (f : ℕ → ℕ) (e : Equality) (x y : Value) → ((p q : ℕ) → Among p (refs x) → Among q (refs y) → f p ≡ f q → p ≡ q) → equality_of e (rename f x) (rename f y) ≡ equality_of e x y
equality_renamed f Equality.Equal x y one = same_renamed f x y one
equality_renamed f Equality.NotEqual x y one = ap not (same_renamed f x y one)

-- a reference of an operand is one of the activation's
operand_among : (a : Activation) (v : Value) (r : List Value) (p : ℕ) → a.stack ≡ v ∷ r → Among p (refs v) → Among p (refs_activation a)
operand_among a v r p e i =
    among_right p (locals_shape.refs a.locals) (stack_shape.refs a.stack) (rw e (among_left p (refs v) (stack_shape.refs r) i))

next_among : (a : Activation) (u v : Value) (r s : List Value) (p : ℕ) → a.stack ≡ u ∷ r → r ≡ v ∷ s → Among p (refs v) → Among p (refs_activation a)
next_among a u v r s p e d i =
    among_right p (locals_shape.refs a.locals) (stack_shape.refs a.stack) (rw (e, d) (among_right p (refs u) (refs v ++ stack_shape.refs s) (among_left p (refs v) (stack_shape.refs s) i)))

branches_natural : (op : Branch) (target : ℕ) (f : ℕ → ℕ) (a : Activation) → IsOneToOne f (refs_activation a) → row_branch op target (rename_activation f a) ≡ rename_outcome f (row_branch op target a)
branches_natural (If c) target f a one =
    number_natural f Integral.Int a.stack _ _ (λ x s. branch_natural f a target (comparison_of c x (pos 0)) s)
branches_natural (IfInts c) target f a one =
    two_numbers_natural f Integral.Int a.stack _ _ (λ x y s. branch_natural f a target (comparison_of c x y) s)
branches_natural (IfReferences c) target f a one =
    operand_natural f OperandType.Reference a.stack _ _ (λ y r e. operand_natural f OperandType.Reference r _ _ (λ x s d. ap (λ b. branch (rename_activation f a) target b (map (rename f) s)) (equality_renamed f c x y (λ p q i j. one p q (next_among a y x r s p e d i) (operand_among a y r q e j))) ∙ branch_natural f a target (equality_of c x y) s))
branches_natural (IfNull c) target f a one =
    operand_natural f OperandType.Reference a.stack _ _ (λ x s e. ap (λ b. branch (rename_activation f a) target b (map (rename f) s)) (equality_renamed f c x Null (λ p q i j. absurd j)) ∙ branch_natural f a target (equality_of c x Null) s)
branches_natural Goto target f a one = refl
branches_natural GotoW target f a one = refl

table_natural : (table : TableSwitch) (f : ℕ → ℕ) (a : Activation) → row_table_switch table (rename_activation f a) ≡ rename_outcome f (row_table_switch table a)
table_natural table f a = number_natural f Integral.Int a.stack _ _ (λ n s. refl)

lookup_natural : (lookup : LookupSwitch) (f : ℕ → ℕ) (a : Activation) → row_lookup_switch lookup (rename_activation f a) ≡ rename_outcome f (row_lookup_switch lookup a)
lookup_natural lookup f a = number_natural f Integral.Int a.stack _ _ (λ n s. refl)

simple_natural : (op : Simple) (f : ℕ → ℕ) (a : Activation) → row_simple op (rename_activation f a) ≡ rename_outcome f (row_simple op a)
simple_natural Simple.Nop f a = refl
simple_natural Simple.Null f a = push_natural f a Null a.stack
simple_natural (Simple.IntConstant c) f a = push_natural f a (Int (small_int c)) a.stack
simple_natural (Simple.LongConstant c) f a = push_natural f a (Long (small_long c)) a.stack
simple_natural (Simple.Load type n) f a = load_natural type (short_index n) f a
simple_natural (Simple.Store type n) f a = store_natural type (short_index n) f a
simple_natural (Simple.Stack op) f a = stack_natural op f a
simple_natural (Simple.Arithmetic op type) f a = arithmetic_natural op type f a
simple_natural (Simple.Negate type) f a = negate_natural type f a
simple_natural (Simple.Shift op type) f a = shift_natural op type f a
simple_natural (Simple.Bitwise op type) f a = bitwise_natural op type f a
simple_natural (Simple.Convert op) f a = convert_natural op f a
simple_natural Simple.CompareLongs f a = compare_natural f a

pub plain_natural : (op : Plain) (f : ℕ → ℕ) (a : Activation) → IsOneToOne f (refs_activation a) → row_plain op (rename_activation f a) ≡ rename_outcome f (row_plain op a)
plain_natural (Plain.Simple op) f a one = simple_natural op f a
plain_natural (Plain.PushByte n) f a one = push_natural f a (Int n) a.stack
plain_natural (Plain.PushShort n) f a one = push_natural f a (Int n) a.stack
plain_natural (Plain.Load type n) f a one = load_natural type n f a
plain_natural (Plain.Store type n) f a one = store_natural type n f a
plain_natural (Plain.Increment n c) f a one = increment_natural n c f a
plain_natural (Plain.Branch op target) f a one = branches_natural op target f a one
plain_natural (Plain.TableSwitch table) f a one = table_natural table f a
plain_natural (Plain.LookupSwitch lookup) f a one = lookup_natural lookup f a
