-- The rows of the instruction table, in two worlds beside one another.
use Rattle.std.proofs.Common.{◌≡◌, ℕ, zero, suc, ◌+◌, ◌≤◌, List, [], ◌∷◌, ◌++◌, Option, Some, None, Bool, true, false, refl, sym, subst, length, drop, ap, ◌∙◌, arith, ℤ, pos, negsuc}
use Rattle.std.specs.Int.{w32, cast_unsigned}
use Rattle.std.specs.Prelude.{◌-◌, ◌%◌, ◌^◌, slice_get, reverse, nat_lt, nat_le, codes}
use Rattle.std.specs.List.{AllByRecursion, sum_by}
use Rattle.jm_program.specs.Names.{same_text}
use Rattle.jm_program.specs.Descriptors.{slots, argument_slots}
use Rattle.jm_program.specs.Flags.{is_abstract, is_synchronized}
use Rattle.jm_program.specs.declared.class.Method.{Method}
use Rattle.jm_program.specs.declared.code.Code.{Code}
use Rattle.jm_program.specs.declared.constant.Constant.{Constant}
use Rattle.jm_program.specs.declared.constant.Constant.TheVariants as constant
use Rattle.jm_program.specs.declared.descriptor.FieldType.{FieldType}
use Rattle.jm_program.specs.declared.descriptor.MethodDescriptor.{MethodDescriptor}
use Rattle.jm_program.specs.declared.reference.ClassRef.{ClassRef}
use Rattle.jm_program.specs.declared.reference.ClassRef.TheVariants as named
use Rattle.jm_program.specs.declared.reference.FieldRef.{FieldRef}
use Rattle.jm_program.specs.declared.reference.MethodRef.{MethodRef}
use Rattle.jm_program.specs.declared.instruction.symbolic.Instr.{Instr}
use Rattle.jm_program.specs.declared.instruction.symbolic.Instr.TheVariants as instr
use Rattle.jm_program.specs.declared.instruction.operation.FieldOp.{FieldOp}
use Rattle.jm_program.specs.declared.instruction.operation.FieldOp.TheVariants.{GetStatic, PutStatic, GetField, PutField}
use Rattle.jm_program.specs.declared.instruction.operation.ArrayKind.{ArrayKind}
use Rattle.jm_program.specs.declared.instruction.operation.ArrayOp.{ArrayOp}
use Rattle.jm_program.specs.declared.instruction.operation.ArrayOp.TheVariants.{Load, Store, New, Length}
use Rattle.jm_program.specs.declared.instruction.operation.InvokeOp.{InvokeOp}
use Rattle.jm_program.specs.declared.instruction.operation.InvokeOp.TheVariants as invoke
use Rattle.jm_program.specs.declared.instruction.operation.MonitorOp.{MonitorOp}
use Rattle.jm_program.specs.declared.instruction.operation.MonitorOp.TheVariants.{Enter, Exit}
use Rattle.jm_program.specs.declared.instruction.operation.OperandType.{OperandType}
use Rattle.jm_program.specs.declared.instruction.operation.OperandType.TheVariants as operand
use Rattle.jm_program.specs.declared.instruction.operation.ReturnOp.{ReturnOp}
use Rattle.jm_program.specs.declared.instruction.operation.ReturnOp.TheVariants as return
use Rattle.jm_program.specs.declared.instruction.operation.TypeOp.{TypeOp}
use Rattle.jm_program.specs.declared.instruction.operation.TypeOp.TheVariants.{NewArray, NewArrays, CheckCast, InstanceOf}
use Rattle.jm_values.specs.Activation.{units}
use Rattle.jm_values.specs.Outcome.{Outcome}
use Rattle.jm_values.specs.ArraysOfArrays.{Dimension, tree, tree_arrays, each_from}
use Rattle.jm_values.specs.declared.value.Value.{Value}
use Rattle.jm_values.specs.declared.value.Value.TheVariants.{Int, Long, Ref}
use Rattle.jm_values.specs.declared.fault.TagFault.TheVariants.{WrongKind}
use Rattle.jm_values.proofs.Lists.{each_of_both}
use Rattle.jm_values.proofs.ArraysOfArrays.{tree_many, tree_values}
use Rattle.jm_world.specs.Types.{ObjectType, instance_of, array_of, operand_of, default_value, narrow, type_of_ref, type_of_object, primitive_type}
use Rattle.jm_world.specs.Classes.{FoundMethod, MethodName, name_of_method, method_named, string_class, print_stream_class, thread_class, throwable_class}
use Rattle.jm_world.specs.Hierarchy.{is_assignable}
use Rattle.jm_world.specs.Resolution.{resolve_method, select}
use Rattle.jm_world.specs.Objects.{Object, FieldName, new_instance, new_array}
use Rattle.jm_world.specs.Frames.{Frame, method_frame}
use Rattle.jm_world.specs.World.{World, Monitor, with_thread, set_static_in}
use Rattle.jm_world.specs.Next.{Next, goes, faults}
use Rattle.jm_world.specs.Here.{Here, with_frames, go_on, go_on_in, throws, push, push_new, with_int, with_reference, with_object, when_initialized}
use Rattle.jm_world.specs.Monitors.{enter, leave}
use Rattle.jm_world.specs.Text.{number_text, char_text, utf8_text, units_of}
use Rattle.jm_world.specs.Constants.{row_constant}
use Rattle.jm_world.specs.Fields.{resolved_field, name_of_field, with_field, get_static, put_static, place_in, with_place, pushed, get_field, put_field, with_value_at, row_field}
use Rattle.jm_world.specs.Arrays.{operand_of_kind, serves, when_serves, with_index, load_element, can_store, store_in, store_element, with_length, new_array_of, length_of, row_array}
use Rattle.jm_world.specs.ArraysOfArrays.{with_counts, with_lengths, element_type, dimensions_of, push_all_new, new_arrays_of}
use Rattle.jm_world.specs.TypeChecks.{is_instance, check_cast, instance_test, row_new, row_type}
use Rattle.jm_world.specs.BuiltInMethods.{chars_in, chars_of_type, with_chars, write, is_char_type, with_printed, print_stream_method, char_at, string_method, start_thread, row_built_in}
use Rattle.jm_world.specs.Invocation.{argument_locals, locals_of, unset, activation_of, monitor_of, calling, call_code, call_instance, call_found, class_of, is_of_class, with_receiver, invoke_virtual, invoke_interface, found_special, invoke_special, call_static, invoke_found, row_invoke_of, row_invoke}
use Rattle.jm_world.specs.Returns.{ended, with_result, returned_to, return_from, same_operand, return_value, return_nothing, pop_and_return, row_return}
use Rattle.jm_world.specs.Throwing.{is_kind_of, row_throw}
use Rattle.jm_world.specs.Stepping.{from_outcome, row_monitor, row, instruction_at, instruction_in}
use Rattle.jm_world.proofs.Fitting.{with_monitors}
use Rattle.jm_world.specs.SideBySide.{Values, ints, longs, nulls, refs, Lists, none, more, Options, neither, both, Objects, objects, Acts, acts, Frames, methods, initializations, entries}
use Rattle.jm_world.proofs.WhatComes.{Outcomes}
use Rattle.jm_world.proofs.WhatComes as alike
use Rattle.jm_world.specs.TwoWorlds.{Two, left, right}
use Rattle.jm_world.proofs.WhatComes.{IsNew, AreNew, Place, Stands, Locks, same, stored, sets, locks, writes, stopped, went, starts, Setting, here, here'}
use Rattle.jm_world.proofs.Turning.{Found, slots_of, FoundFor, IsAt, by_class, by_name, by_invokespecial, moved, acted, called, gave, IsLast, last_method, ends, goes_on, raises}
use Rattle.jm_world.proofs.Turning as turning
use Rattle.jm_world.proofs.Arguments.{slots_reversed}
use Rattle.jm_world.proofs.Leaving.{by_plain, IsArray, as_before, cleared, threw, arrays, instance}
use Rattle.jm_program.specs.declared.instruction.plain.Plain.{Plain}
use Rattle.jm_values.specs.Activation.{Activation}
use Rattle.jm_values.specs.PlainRows.{row_plain}
use Rattle.std.proofs.lemmas.Bool.{leb-true}
use Rattle.std.proofs.lemmas.List.{length-reverse}
use Rattle.jm_world.proofs.Asking.{Asks, by_monitorenter, by_call}
use Rattle.jm_world.proofs.WordsSideBySide.{Rest, Popped, less, all_of, lists_long, got, joined, units_same, narrowed, defaults, array_is_new, instance_is_new, Both, if_both, if_told, if_same, same_told, option_both, some_both, framed, frames_both, throw_both, throws_both, top, go_on_both, push_both, push_new_both, push_all_new_both, operand_both, int_both, reference_both, arguments_both, object_both, referred_both, depth_both, initialized_both, enter_both, enter_if_both, leave_both, leave_if_both}

-- arguments
argument_alike : {R : ℕ → ℕ → Type 0} (v u : Value) → Values R v u → Lists (Options (Values R)) (argument_locals v) (argument_locals u)
argument_alike _ _ ints = more (both ints) none
argument_alike _ _ longs = more (both longs) (more neither none)
argument_alike _ _ nulls = more (both nulls) none
argument_alike _ _ (refs r) = more (both (refs r)) none

locals_alike : {R : ℕ → ℕ → Type 0} (vs us : List Value) → Lists (Values R) vs us → Lists (Options (Values R)) (locals_of vs) (locals_of us)
locals_alike _ _ none = none
locals_alike _ _ (more a l) = joined (argument_alike _ _ a) (locals_alike _ _ l)

unset_alike : {R : ℕ → ℕ → Type 0} (n : ℕ) → Lists (Options (Values R)) (unset n) (unset n)
unset_alike zero = none
unset_alike (suc n) = more neither (unset_alike n)

pub called_alike : {R : ℕ → ℕ → Type 0} (code : Code) (vs us : List Value) → Lists (Values R) vs us → Acts R (activation_of code vs) (activation_of code us)
called_alike {R = R} code vs us l = acts (joined m (subst (λ n. Lists (Options (Values R)) (unset (code.max_locals - length (locals_of vs))) (unset (code.max_locals - n))) (lists_long m) (unset_alike (code.max_locals - length (locals_of vs))))) none
  where
    m : Lists (Options (Values R)) (locals_of vs) (locals_of us)
    m = locals_alike vs us l

pub monitor_alike : {R : ℕ → ℕ → Type 0} (m : Method) (k j : ℕ) → R k j → Options R (monitor_of m k) (monitor_of m j)
monitor_alike {R = R} m k j r = by (is_synchronized m.flags)
  where
    by : (b : Bool) → Options R (elim b as (λ _. Option ℕ) [ true ↦ Some k | false ↦ None ]) (elim b as (λ _. Option ℕ) [ true ↦ Some j | false ↦ None ])
    by true = both r
    by false = neither

-- the monitor of a method is that of its receiver
pub monitor_is : (m : Method) (k i : ℕ) → monitor_of m k ≡ Some i → k ≡ i
monitor_is m k i = by (is_synchronized m.flags)
  where
    by : (b : Bool) → (elim b as (λ _. Option ℕ) [ true ↦ Some k | false ↦ None ]) ≡ Some i → k ≡ i
    by true e = cc
    by false e = cc

-- the receiver lies below the arguments
got_below : (n : ℕ) (s : List Value) → slice_get s n ≡ slice_get (drop n s) 0
got_below zero s = refl
got_below (suc n) [] = refl
got_below (suc n) (v ∷ s) = got_below n s

receiver_at : (ts : List FieldType) (s t : List Value) (v : Value) → drop (length (reverse ts)) s ≡ t → slice_get t 0 ≡ Some v → slice_get s (length ts) ≡ Some v
receiver_at ts s t v d e = got_below (length ts) s ∙ ap (λ n. slice_get (drop n s) 0) (sym (length-reverse ts)) ∙ ap (λ s. slice_get s 0) d ∙ e

lengths_alike : {R : ℕ → ℕ → Type 0} (n m : ℕ) → n ≡ m → Values R (Int (pos n)) (Int (pos m))
lengths_alike {R = R} n m d = subst (λ m. Values R (Int (pos n)) (Int (pos m))) d ints

-- text
units_alike : {R : ℕ → ℕ → Type 0} (vs us : List Value) → Lists (Values R) vs us → units_of vs ≡ units_of us
units_alike _ _ none = refl
units_alike _ _ (more {x = Int n} ints l) = ap (λ t. cast_unsigned w32 n % 2 ^ 16 ∷ t) (units_alike _ _ l)
units_alike _ _ (more longs l) = units_alike _ _ l
units_alike _ _ (more nulls l) = units_alike _ _ l
units_alike _ _ (more (refs r) l) = units_alike _ _ l

elements_new : (P : Value → Type 0) → ((t : FieldType) → P (default_value t)) → (t : FieldType) (ns : List ℕ) → AllByRecursion (λ (d : Dimension ObjectType). P d.element) (dimensions_of t ns)
elements_new P f t [] = tt
elements_new P f t (n ∷ ns) = (f (element_type t), elements_new P f (element_type t) ns)

trees_new : (p : Two) (t : FieldType) (ns : List ℕ) → AreNew p (tree (dimensions_of t ns) (length p.one.heap))
trees_new p t ns = tree_values (λ v. Values (IsNew p n) v v) ds (length p.one.heap) (elements_new (λ v. Values (IsNew p n) v v) defaults t ns) (λ j l b. refs (refl, omega (arith, l), omega (arith, b, tree_many ds (length p.one.heap))))
  where
    ds : List (Dimension ObjectType)
    ds = dimensions_of t ns

    n : ℕ
    n = length (tree ds (length p.one.heap))

each_from_arrays : (n : ℕ) (made : ℕ → List Object) → ((k : ℕ) → AllByRecursion IsArray (made k)) → (first apart : ℕ) → AllByRecursion IsArray (each_from n made first apart)
each_from_arrays zero made f first apart = tt
each_from_arrays (suc n) made f first apart = each_of_both IsArray (made first) (each_from n made (first + apart) apart) (f first) (each_from_arrays n made f (first + apart) apart)

trees_are_arrays : (t : FieldType) (ns : List ℕ) (k : ℕ) → AllByRecursion IsArray (tree (dimensions_of t ns) k)
trees_are_arrays t [] k = tt
trees_are_arrays t (n ∷ []) k = ((element_type t, refl), tt)
trees_are_arrays t (n ∷ m ∷ ns) k = ((element_type t, refl), each_from_arrays n (tree (dimensions_of (element_type t) (m ∷ ns))) (trees_are_arrays (element_type t) (m ∷ ns)) (k + 1) (tree_arrays (dimensions_of (element_type t) (m ∷ ns))))

from_none : (d : MethodDescriptor) → length (locals_of []) + sum_by slots (reverse d.parameters) ≤ argument_slots d
from_none d = omega (arith, slots_reversed d)

-- what follows a word in a row
abbrev put_at : FieldName → Here → Value → List Value → Next
put_at f h v s = go_on_in h (record h.world { statics = set_static_in h.world.statics f (narrow f.type v) }) s

abbrev get_in : FieldName → Here → List Value → ℕ → Object → Next
get_in f h s k o = with_place h o f (λ i. pushed h (slice_get o.values i) s)

abbrev get_from : FieldName → Here → Option ℕ → List Value → Next
get_from f h r s = with_object h r (get_in f h s)

abbrev put_in : FieldName → Here → Value → List Value → ℕ → Object → Next
put_in f h v s k o = with_place h o f (λ i. go_on_in h (with_value_at h.world k o i (narrow f.type v)) s)

abbrev put_from : FieldName → Here → Value → Option ℕ → List Value → Next
put_from f h v r s = with_object h r (put_in f h v s)

abbrev put_value : FieldName → Here → Value → List Value → Next
put_value f h v below = with_reference below (put_from f h v)

abbrev load_in : ArrayKind → Here → ℤ → List Value → ℕ → Object → Next
load_in k h n s p o = when_serves k o (with_index h n o (λ i. pushed h (slice_get o.values i) s))

abbrev load_from : ArrayKind → Here → ℤ → Option ℕ → List Value → Next
load_from k h n r s = with_object h r (load_in k h n s)

abbrev load_value : ArrayKind → Here → ℤ → List Value → Next
load_value k h n below = with_reference below (load_from k h n)

abbrev store_on : ArrayKind → Here → Value → ℤ → List Value → ℕ → Object → Next
store_on k h v n s p o = when_serves k o (with_index h n o (λ i. store_in h p o o.type v i s))

abbrev store_from : ArrayKind → Here → Value → ℤ → Option ℕ → List Value → Next
store_from k h v n r s = with_object h r (store_on k h v n s)

abbrev store_index : ArrayKind → Here → Value → ℤ → List Value → Next
store_index k h v n below = with_reference below (store_from k h v n)

abbrev store_value : ArrayKind → Here → Value → List Value → Next
store_value k h v above = with_int above (store_index k h v)

abbrev length_in : Here → List Value → ℕ → Object → Next
length_in h s p o = length_of h o o.type s

abbrev length_from : Here → Option ℕ → List Value → Next
length_from h r s = with_object h r (length_in h s)

abbrev new_after : FieldType → Here → ℤ → List Value → Next
new_after t h n s = with_length h n (λ count. push_new h (new_array t count) s)

abbrev new_all : FieldType → Here → List Value → List ℕ → Next
new_all t h s counts = push_all_new h (tree (dimensions_of t counts) (length h.world.heap)) s

abbrev new_all_after : FieldType → Here → List ℤ → List Value → Next
new_all_after t h ns s = with_lengths h ns (new_all t h s)

abbrev cast_of : ClassRef → Here → ℕ → List Value → ℕ → Object → Next
cast_of t h k s p o = elim (is_instance h o t) [ true ↦ go_on h (Ref k ∷ s) | false ↦ throws h (codes "java/lang/ClassCastException") ]

abbrev test_of : ClassRef → Here → List Value → ℕ → Object → Next
test_of t h s p o = elim (is_instance h o t) [ true ↦ push h (Int (pos 1)) s | false ↦ push h (Int (pos 0)) s ]

abbrev print_bytes : MethodName → Here → List Value → List ℕ → Next
print_bytes m h s bytes = elim (same_text m.name (codes "println")) [ true ↦ write h (bytes ++ 10 ∷ []) s | false ↦ write h bytes s ]

abbrev of_chars : MethodName → Here → List Value → List Value → List Value → Next
of_chars m h vs s chars = elim (same_text m.name (codes "length")) [ true ↦ push h (Int (pos (length chars))) s | false ↦ char_at h chars vs s ]

abbrev print_chars : (List ℕ → Next) → List Value → Next
print_chars go chars = go (utf8_text (units_of chars))

abbrev receive : Here → (ℕ → Object → List Value → List Value → Next) → List Value → List Value → Next
receive h go vs below = with_reference below (λ r s. with_object h r (λ k o. go k o vs s))

abbrev virtual_of : List ℕ → MethodRef → Here → ℕ → Object → List Value → List Value → Next
virtual_of class m h k o vs s = elim (is_of_class h o class) [ false ↦ faults WrongKind | true ↦ call_found h (select h.world.program (class_of o.type) m.name m.descriptor) k vs s ]

abbrev interface_of : List ℕ → MethodRef → Here → ℕ → Object → List Value → List Value → Next
interface_of class m h k o vs s = elim (is_of_class h o class) [ false ↦ throws h (codes "java/lang/IncompatibleClassChangeError") | true ↦ call_found h (select h.world.program (class_of o.type) m.name m.descriptor) k vs s ]

abbrev special_of : List ℕ → MethodRef → Here → ℕ → Object → List Value → List Value → Next
special_of class m h k o vs s = elim (is_of_class h o class) [ false ↦ faults WrongKind | true ↦ call_found h (found_special h class m) k vs s ]

abbrev begun : FoundMethod → Code → List Value → Option ℕ → Here → List Value → World → Next
begun found code vs o h s w = goes (with_frames w h.number h.thread (method_frame (name_of_method found) (activation_of code vs) o ∷ calling h s))

abbrev static_of : FoundMethod → Here → List Value → List Value → Next
static_of found h vs s = call_static h found vs s found.method.code

abbrev return_after : OperandType → Here → Value → List Value → Next
return_after o h v s = return_value h o h.method.descriptor.return_type v

abbrev return_in : Option Value → Here → World → Next
return_in r h w = returned_to w h.number h.thread r h.below

abbrev throw_in : Here → ℕ → Object → Next
throw_in h k o = elim (is_kind_of h.world o.type throwable_class) [ true ↦ goes (with_thread h.world h.number (record h.thread { pending = Some k })) | false ↦ faults WrongKind ]

abbrev throw_from : Here → Option ℕ → List Value → Next
throw_from h r s = with_object h r (throw_in h)

abbrev enter_in : Here → ℕ → Object → List Value → Next
enter_in h k o s = enter h.world h.number k (λ w. go_on_in h w s)

abbrev exit_in : Here → List Value → ℕ → Object → Next
exit_in h s k o = elim (leave h.world h.number k) [ None ↦ throws h (codes "java/lang/IllegalMonitorStateException") | Some w ↦ go_on_in h w s ]

abbrev exit_from : Here → Option ℕ → List Value → Next
exit_from h r s = with_object h r (exit_in h s)

module _ (R : ℕ → ℕ → Type 0) (e : Setting R) where
  -- constants and fields
  constant_both : (q : Place) → Stands R e q → (c : Constant) → Both R e (row_constant (here e q) c) (row_constant (here' e q) c)
  constant_both q h (constant.Int n) = push_both R e q h (Int n) (Int n) q.stack q.stack' ints h.stack
  constant_both q h (constant.Long n) = push_both R e q h (Long n) (Long n) q.stack q.stack' longs h.stack
  constant_both q h (constant.String units) = option_both R e R _ _ (e.alike.literals units) _ _ (λ k. push (here e q) (Ref k) q.stack) (λ k. push (here' e q) (Ref k) q.stack') stopped (λ k j r. push_both R e q h _ _ _ _ (refs r) h.stack)

  with_field_both : (q : Place) (f : FieldRef) (go go' : FieldName → Next) → ((name : FieldName) → Both R e (go name) (go' name)) → Both R e (with_field (here e q) f go) (with_field (here' e q) f go')
  with_field_both q f go go' g = some_both R e (resolved_field e.worlds.program f f.class) _ _ (λ found. go (name_of_field found)) (λ found. go' (name_of_field found)) stopped (λ found. g (name_of_field found))

  get_static_both : (q : Place) → Stands R e q → (f : FieldName) → Both R e (get_static (here e q) f) (get_static (here' e q) f)
  get_static_both q h f = option_both R e (Values R) _ _ (e.alike.statics f) _ _ (λ v. push (here e q) v q.stack) (λ v. push (here' e q) v q.stack') stopped (λ v u a. push_both R e q h v u _ _ a h.stack)

  put_static_both : (q : Place) → Stands R e q → (f : FieldName) → Both R e (put_static (here e q) f) (put_static (here' e q) f)
  put_static_both q h f = operand_both R e (units q.stack) (operand_of f.type) _ _ (put_at f (here e q)) (put_at f (here' e q)) (all_of R e q h) (λ v u r r' a l. go_on_both R e q h _ _ _ _ (sets f (narrowed f.type a)) (less (units q.stack) r r' l))

  place_both : (q : Place) (o b : Object) → Objects R o b → (f : FieldName) (go go' : ℕ → Next) → ((i : ℕ) → Both R e (go i) (go' i)) → Both R e (with_place (here e q) o f go) (with_place (here' e q) b f go')
  place_both q _ _ (objects {type = type} l) f go go' g = some_both R e (place_in (here e q) type f) _ _ go go' stopped g

  pushed_both : (q : Place) → Stands R e q → (o b : Option Value) (s r : List Value) → Options (Values R) o b → Lists (Values R) s r → Both R e (pushed (here e q) o s) (pushed (here' e q) b r)
  pushed_both q h _ _ s r neither l = stopped
  pushed_both q h _ _ s r (both a) l = push_both R e q h _ _ s r a l

  value_got : (o b : Object) → Objects R o b → (i : ℕ) → Options (Values R) (slice_get o.values i) (slice_get b.values i)
  value_got _ _ (objects l) i = got l i

  get_field_both : (q : Place) → Stands R e q → (f : FieldName) → Both R e (get_field (here e q) f) (get_field (here' e q) f)
  get_field_both q h f = reference_both R e (units q.stack) _ _ (get_from f (here e q)) (get_from f (here' e q)) (all_of R e q h)
      (λ k k' s s' r l. object_both R e q k k' (get_in f (here e q) s) (get_in f (here' e q) s') r
      (λ i j o b a c d x. place_both q o b x f _ _ (λ n. pushed_both q h _ _ s s' (value_got o b x n) l.0)))

  put_field_both : (q : Place) → Stands R e q → (f : FieldName) → Both R e (put_field (here e q) f) (put_field (here' e q) f)
  put_field_both q h f = operand_both R e (units q.stack) (operand_of f.type) _ _ (put_value f (here e q)) (put_value f (here' e q)) (all_of R e q h)
      (λ v u t t' y m. reference_both R e (units q.stack) t t' (put_from f (here e q) v) (put_from f (here' e q) u) (less (units q.stack) t t' m)
      (λ k k' s s' r l. object_both R e q k k' (put_in f (here e q) v s) (put_in f (here' e q) u s') r
      (λ i j o b a c d x. place_both q o b x f (λ n. go_on_in (here e q) (with_value_at (left e.worlds) i o n (narrow f.type v)) s) (λ n. go_on_in (here' e q) (with_value_at (right e.worlds) j b n (narrow f.type u)) s')
      (λ n. go_on_both R e q h _ _ s s' (stored n a c d x (narrowed f.type y)) (less (units q.stack) s s' l)))))

  field_both : (q : Place) → Stands R e q → (op : FieldOp) (f : FieldRef) → Both R e (row_field (here e q) op f) (row_field (here' e q) op f)
  field_both q h GetStatic f = with_field_both q f (λ name. when_initialized (here e q) name.class (get_static (here e q) name)) (λ name. when_initialized (here' e q) name.class (get_static (here' e q) name)) (λ name. initialized_both R e q h name.class _ _ (get_static_both q h name))
  field_both q h PutStatic f = with_field_both q f (λ name. when_initialized (here e q) name.class (put_static (here e q) name)) (λ name. when_initialized (here' e q) name.class (put_static (here' e q) name)) (λ name. initialized_both R e q h name.class _ _ (put_static_both q h name))
  field_both q h GetField f = with_field_both q f (get_field (here e q)) (get_field (here' e q)) (get_field_both q h)
  field_both q h PutField f = with_field_both q f (put_field (here e q)) (put_field (here' e q)) (put_field_both q h)

  -- arrays
  index_both : (q : Place) (n : ℤ) (o b : Object) → Objects R o b → (go go' : ℕ → Next) → ((i : ℕ) → Both R e (go i) (go' i)) → Both R e (with_index (here e q) n o go) (with_index (here' e q) n b go')
  index_both q (pos i) _ _ (objects l) go go' g = if_same R e _ _ (ap (λ n. nat_lt i n) (lists_long l)) _ _ _ _ (g i) (throws_both R e q (codes "java/lang/ArrayIndexOutOfBoundsException") refl)
  index_both q (negsuc i) o b x go go' g = throws_both R e q (codes "java/lang/ArrayIndexOutOfBoundsException") refl

  serves_both : (k : ArrayKind) (o b : Object) → Objects R o b → (x x' : Next) → Both R e x x' → Both R e (when_serves k o x) (when_serves k b x')
  serves_both k _ _ (objects {type = type} l) x x' f = if_both R e (serves k type) _ _ _ _ f stopped

  load_both : (q : Place) → Stands R e q → (k : ArrayKind) → Both R e (load_element (here e q) k) (load_element (here' e q) k)
  load_both q h k = int_both R e (units q.stack) _ _ (load_value k (here e q)) (load_value k (here' e q)) (all_of R e q h)
      (λ n t t' m. reference_both R e (units q.stack) t t' (load_from k (here e q) n) (load_from k (here' e q) n) (less (units q.stack) t t' m)
      (λ i i' s s' r l. object_both R e q i i' (load_in k (here e q) n s) (load_in k (here' e q) n s') r
      (λ y j o b a c d x. serves_both k o b x _ _ (index_both q n o b x _ _ (λ z. pushed_both q h _ _ s s' (value_got o b x z) l.0)))))

  can_store_same : (q : Place) (t : FieldType) (v u : Value) → Values R v u → can_store (here e q) t v ≡ can_store (here' e q) t u
  can_store_same q t _ _ ints = refl
  can_store_same q t _ _ longs = refl
  can_store_same q t _ _ nulls = refl
  can_store_same q t _ _ (refs {k = k} {j = j} r) = by (slice_get (left e.worlds).heap k) (slice_get (right e.worlds).heap j) (e.alike.objects k j r)
    where
      by : (o b : Option Object) → Options (Objects R) o b → elim o as (λ _. Bool) [ None ↦ false | Some o ↦ is_assignable e.worlds.program (type_of_object o.type) t ] ≡ elim b as (λ _. Bool) [ None ↦ false | Some o ↦ is_assignable e.worlds.program (type_of_object o.type) t ]
      by _ _ neither = refl
      by _ _ (both (objects l)) = refl

  store_in_both : (q : Place) → Stands R e q → (k j : ℕ) (o b : Object) (v u : Value) (i : ℕ) (s s' : List Value) → R k j → slice_get (left e.worlds).heap k ≡ Some o → slice_get (right e.worlds).heap j ≡ Some b → Objects R o b → Values R v u → Rest R (units q.stack) s s'
      → Both R e (store_in (here e q) k o o.type v i s) (store_in (here' e q) j b b.type u i s')
  store_in_both q h k j _ _ v u i s s' r c d (objects {type = instance_of class} x) y l = stopped
  store_in_both q h k j _ _ v u i s s' r c d (objects {type = array_of t} x) y l = if_same R e _ _ (can_store_same q t v u y) _ _ _ _ (go_on_both R e q h _ _ s s' (stored i r c d (objects x) (narrowed t y)) l) (throws_both R e q (codes "java/lang/ArrayStoreException") refl)

  store_both : (q : Place) → Stands R e q → (k : ArrayKind) → Both R e (store_element (here e q) k) (store_element (here' e q) k)
  store_both q h k = operand_both R e (units q.stack) (operand_of_kind k) _ _ (store_value k (here e q)) (store_value k (here' e q)) (all_of R e q h)
      (λ v u t t' y m. int_both R e (units q.stack) t t' (store_index k (here e q) v) (store_index k (here' e q) u) (less (units q.stack) t t' m)
      (λ n z z' f. reference_both R e (units q.stack) z z' (store_from k (here e q) v n) (store_from k (here' e q) u n) (less (units q.stack) z z' f)
      (λ i i' s s' r l. object_both R e q i i' (store_on k (here e q) v n s) (store_on k (here' e q) u n s') r
      (λ y' j o b a c d x. serves_both k o b x _ _ (index_both q n o b x (λ i. store_in (here e q) y' o o.type v i s) (λ i. store_in (here' e q) j b b.type u i s') (λ g. store_in_both q h y' j o b v u g s s' a c d x y (less (units q.stack) s s' l)))))))

  new_array_both : (q : Place) → Stands R e q → (t : FieldType) → Both R e (new_array_of (here e q) t) (new_array_of (here' e q) t)
  new_array_both q h t = int_both R e (units q.stack) _ _ (new_after t (here e q)) (new_after t (here' e q)) (all_of R e q h) (λ n s s' l. by n s s' l.0)
    where
      by : (n : ℤ) (s s' : List Value) → Lists (Values R) s s' → Both R e (new_after t (here e q) n s) (new_after t (here' e q) n s')
      by (pos n) s s' l = push_new_both R e q h (new_array t n) s s' (array_is_new e.worlds t n) (arrays _ ((t, refl), tt)) l
      by (negsuc n) s s' l = throws_both R e q (codes "java/lang/NegativeArraySizeException") refl

  counts_both : (d : ℕ) (counts : List ℤ) (s s' : List Value) (go go' : List ℤ → List Value → Next) (n : ℕ) → Rest R n s s' → ((ns : List ℤ) (r r' : List Value) → Rest R n r r' → Both R e (go ns r) (go' ns r')) → Both R e (with_counts d counts s go) (with_counts d counts s' go')
  counts_both zero counts s s' go go' n l f = f counts s s' l
  counts_both (suc d) counts s s' go go' n l f = int_both R e n s s' (λ i below. with_counts d (i ∷ counts) below go) (λ i below. with_counts d (i ∷ counts) below go') l (λ i r r' m. counts_both d (i ∷ counts) r r' go go' n (less n r r' m) f)

  lengths_both : (q : Place) (ns : List ℤ) (go go' : List ℕ → Next) → ((counts : List ℕ) → Both R e (go counts) (go' counts)) → Both R e (with_lengths (here e q) ns go) (with_lengths (here' e q) ns go')
  lengths_both q [] go go' f = f []
  lengths_both q (pos n ∷ ns) go go' f = lengths_both q ns (λ counts. go (n ∷ counts)) (λ counts. go' (n ∷ counts)) (λ counts. f (n ∷ counts))
  lengths_both q (negsuc n ∷ ns) go go' f = throws_both R e q (codes "java/lang/NegativeArraySizeException") refl

  new_arrays_both : (q : Place) → Stands R e q → (t : FieldType) (d : ℕ) → Both R e (new_arrays_of (here e q) t d) (new_arrays_of (here' e q) t d)
  new_arrays_both q h t d = counts_both d [] _ _ (new_all_after t (here e q)) (new_all_after t (here' e q)) (units q.stack) (all_of R e q h)
      (λ ns s s' l. lengths_both q ns (new_all t (here e q) s) (new_all t (here' e q) s') (λ counts. subst (λ m. Both R e (new_all t (here e q) s counts) (push_all_new (here' e q) (tree (dimensions_of t counts) m) s')) e.alike.made
      (push_all_new_both R e q h (tree (dimensions_of t counts) (length (left e.worlds).heap)) s s' (trees_new e.worlds t counts) (arrays _ (trees_are_arrays t counts (length (left e.worlds).heap))) l.0)))

  length_both : (q : Place) → Stands R e q → (o b : Object) (s s' : List Value) → Objects R o b → Lists (Values R) s s' → Both R e (length_of (here e q) o o.type s) (length_of (here' e q) b b.type s')
  length_both q h _ _ s s' (objects {type = array_of t} x) l = push_both R e q h _ _ s s' (lengths_alike _ _ (lists_long x)) l
  length_both q h _ _ s s' (objects {type = instance_of class} x) l = stopped

  array_both : (q : Place) → Stands R e q → (op : ArrayOp) → Both R e (row_array (here e q) op) (row_array (here' e q) op)
  array_both q h (Load k) = load_both q h k
  array_both q h (Store k) = store_both q h k
  array_both q h (New t) = new_array_both q h (primitive_type t)
  array_both q h Length = reference_both R e (units q.stack) _ _ (length_from (here e q)) (length_from (here' e q)) (all_of R e q h)
      (λ k k' s s' r l. object_both R e q k k' (length_in (here e q) s) (length_in (here' e q) s') r (λ i j o b a c d x. length_both q h o b s s' x l.0))

  -- new, anewarray, checkcast, instanceof
  instance_if : (q : Place) (o b : Object) (t : ClassRef) (x y x' y' : Next) → Objects R o b → Both R e x x' → Both R e y y' → Both R e (elim (is_instance (here e q) o t) [ true ↦ x | false ↦ y ]) (elim (is_instance (here' e q) b t) [ true ↦ x' | false ↦ y' ])
  instance_if q _ _ t x y x' y' (objects {type = type} l) f g = if_both R e (is_assignable e.worlds.program (type_of_object type) (type_of_ref t)) _ _ _ _ f g

  cast_both : (q : Place) → Stands R e q → (t : ClassRef) (k k' : Option ℕ) (s s' : List Value) → Options R k k' → Popped R (units q.stack) s s' → Both R e (check_cast (here e q) t k s) (check_cast (here' e q) t k' s')
  cast_both q h t _ _ s s' neither l = go_on_both R e q h _ _ _ _ same (more nulls l.0, omega (arith, l.1))
  cast_both q h t _ _ s s' (both {x = k} {y = k'} r) l = object_both R e q (Some k) (Some k') (cast_of t (here e q) k s) (cast_of t (here' e q) k' s') (both r)
      (λ i j o b a c d x. instance_if q o b t _ _ _ _ x (go_on_both R e q h _ _ _ _ same (more (refs r) l.0, omega (arith, l.1))) (throws_both R e q (codes "java/lang/ClassCastException") refl))

  test_both : (q : Place) → Stands R e q → (t : ClassRef) (k k' : Option ℕ) (s s' : List Value) → Options R k k' → Lists (Values R) s s' → Both R e (instance_test (here e q) t k s) (instance_test (here' e q) t k' s')
  test_both q h t _ _ s s' neither l = push_both R e q h _ _ s s' ints l
  test_both q h t _ _ s s' (both {x = k} {y = k'} r) l = object_both R e q (Some k) (Some k') (test_of t (here e q) s) (test_of t (here' e q) s') (both r)
      (λ i j o b a c d x. instance_if q o b t _ _ _ _ x (push_both R e q h _ _ s s' ints l) (push_both R e q h _ _ s s' ints l))

  type_both : (q : Place) → Stands R e q → (op : TypeOp) (t : ClassRef) → Both R e (row_type (here e q) op t) (row_type (here' e q) op t)
  type_both q h NewArray t = new_array_both q h (type_of_ref t)
  type_both q h (NewArrays d) t = new_arrays_both q h (type_of_ref t) d
  type_both q h CheckCast t = reference_both R e (units q.stack) _ _ (check_cast (here e q) t) (check_cast (here' e q) t) (all_of R e q h) (λ k k' s s' r l. cast_both q h t k k' s s' r l)
  type_both q h InstanceOf t = reference_both R e (units q.stack) _ _ (instance_test (here e q) t) (instance_test (here' e q) t) (all_of R e q h) (λ k k' s s' r l. test_both q h t k k' s s' r l.0)

  new_both : (q : Place) → Stands R e q → (class : List ℕ) → instruction_in (method_named e.worlds.program q.method) q.at ≡ Some (instr.New class) → Both R e (row_new (here e q) class) (row_new (here' e q) class)
  new_both q h class c = initialized_both R e q h class _ _ (push_new_both R e q h (new_instance e.worlds.program class) _ _ (instance_is_new e.worlds e.worlds.program class) (instance class q.method q.at c) h.stack)

  -- built-in methods
  chars_in_alike : (vs us : List Value) → Lists (Values R) vs us → Options (Lists (Values R)) (chars_in (left e.worlds) vs) (chars_in (right e.worlds) us)
  chars_in_alike _ _ none = neither
  chars_in_alike _ _ (more ints l) = neither
  chars_in_alike _ _ (more longs l) = neither
  chars_in_alike _ _ (more nulls l) = neither
  chars_in_alike _ _ (more (refs {k = k} {j = j} r) l) = by (slice_get (left e.worlds).heap k) (slice_get (right e.worlds).heap j) (e.alike.objects k j r)
    where
      by : (o b : Option Object) → Options (Objects R) o b → Options (Lists (Values R)) (elim o as (λ _. Option (List Value)) [ None ↦ None | Some o ↦ Some o.values ]) (elim b as (λ _. Option (List Value)) [ None ↦ None | Some o ↦ Some o.values ])
      by _ _ neither = neither
      by _ _ (both (objects m)) = both m

  chars_alike : (o b : Object) → Objects R o b → Options (Lists (Values R)) (chars_of_type (left e.worlds) o o.type) (chars_of_type (right e.worlds) b b.type)
  chars_alike _ _ (objects {type = array_of t} l) = neither
  chars_alike _ _ (objects {type = instance_of class} {vs = vs} {us = us} l) = by (same_text class string_class)
    where
      by : (b : Bool) → Options (Lists (Values R)) (elim b as (λ _. Option (List Value)) [ true ↦ chars_in (left e.worlds) vs | false ↦ None ]) (elim b as (λ _. Option (List Value)) [ true ↦ chars_in (right e.worlds) us | false ↦ None ])
      by true = chars_in_alike vs us l
      by false = neither

  chars_both : (q : Place) (k j : ℕ) (go go' : List Value → Next) → R k j → ((vs us : List Value) → Lists (Values R) vs us → Both R e (go vs) (go' us)) → Both R e (with_chars (here e q) k go) (with_chars (here' e q) j go')
  chars_both q k j go go' r g = option_both R e (Objects R) _ _ (e.alike.objects k j r) (faults WrongKind) (faults WrongKind)
      (λ o. elim (chars_of_type (left e.worlds) o o.type) [ None ↦ faults WrongKind | Some chars ↦ go chars ]) (λ o. elim (chars_of_type (right e.worlds) o o.type) [ None ↦ faults WrongKind | Some chars ↦ go' chars ]) stopped
      (λ o b x. option_both R e (Lists (Values R)) _ _ (chars_alike o b x) (faults WrongKind) (faults WrongKind) go go' stopped g)

  printed_both : (q : Place) (ts : List FieldType) (vs us : List Value) (go go' : List ℕ → Next) → Lists (Values R) vs us → ((bytes : List ℕ) → Both R e (go bytes) (go' bytes)) → Both R e (with_printed (here e q) ts vs go) (with_printed (here' e q) ts us go')
  printed_both q ts _ _ go go' none g = g []
  printed_both q ts _ _ go go' (more (ints {n = n}) l) g = if_both R e (is_char_type ts) _ _ _ _ (g (char_text n)) (g (number_text n))
  printed_both q ts _ _ go go' (more (longs {n = n}) l) g = g (number_text n)
  printed_both q ts _ _ go go' (more nulls l) g = g (codes "null")
  printed_both q ts _ _ go go' (more (refs {k = k} {j = j} r) l) g = chars_both q k j (print_chars go) (print_chars go') r
      (λ vs us m. subst (λ t. Both R e (go (utf8_text (units_of vs))) (go' (utf8_text t))) (units_alike vs us m) (g (utf8_text (units_of vs))))

  char_at_both : (q : Place) → Stands R e q → (cs ds vs us s s' : List Value) → Lists (Values R) cs ds → Lists (Values R) vs us → Lists (Values R) s s' → Both R e (char_at (here e q) cs vs s) (char_at (here' e q) ds us s')
  char_at_both q h cs ds _ _ s s' m none l = throws_both R e q (codes "java/lang/StringIndexOutOfBoundsException") refl
  char_at_both q h cs ds _ _ s s' m (more (ints {n = pos i}) n) l = by (slice_get cs i) (slice_get ds i) (got m i)
    where
      by : (o b : Option Value) → Options (Values R) o b → Both R e (elim o [ Some v ↦ push (here e q) v s | None ↦ throws (here e q) (codes "java/lang/StringIndexOutOfBoundsException") ]) (elim b [ Some v ↦ push (here' e q) v s' | None ↦ throws (here' e q) (codes "java/lang/StringIndexOutOfBoundsException") ])
      by _ _ neither = throws_both R e q (codes "java/lang/StringIndexOutOfBoundsException") refl
      by _ _ (both a) = push_both R e q h _ _ s s' a l
  char_at_both q h cs ds _ _ s s' m (more (ints {n = negsuc i}) n) l = throws_both R e q (codes "java/lang/StringIndexOutOfBoundsException") refl
  char_at_both q h cs ds _ _ s s' m (more longs n) l = throws_both R e q (codes "java/lang/StringIndexOutOfBoundsException") refl
  char_at_both q h cs ds _ _ s s' m (more nulls n) l = throws_both R e q (codes "java/lang/StringIndexOutOfBoundsException") refl
  char_at_both q h cs ds _ _ s s' m (more (refs r) n) l = throws_both R e q (codes "java/lang/StringIndexOutOfBoundsException") refl

  print_both : (q : Place) → Stands R e q → (m : MethodName) (vs us s s' : List Value) → Lists (Values R) vs us → Rest R (units q.stack) s s' → Both R e (print_stream_method (here e q) m vs s) (print_stream_method (here' e q) m us s')
  print_both q h m vs us s s' n l = printed_both q m.descriptor.parameters vs us (print_bytes m (here e q) s) (print_bytes m (here' e q) s') n
      (λ bytes. if_both R e (same_text m.name (codes "println")) _ _ _ _ (go_on_both R e q h _ _ s s' (writes (bytes ++ 10 ∷ [])) l) (go_on_both R e q h _ _ s s' (writes bytes) l))

  string_both : (q : Place) → Stands R e q → (m : MethodName) (k j : ℕ) (vs us s s' : List Value) → R k j → Lists (Values R) vs us → Rest R (units q.stack) s s' → Both R e (string_method (here e q) m k vs s) (string_method (here' e q) m j us s')
  string_both q h m k j vs us s s' r n l = chars_both q k j (of_chars m (here e q) vs s) (of_chars m (here' e q) us s') r
      (λ cs ds x. if_both R e (same_text m.name (codes "length")) _ _ _ _ (push_both R e q h _ _ s s' (lengths_alike _ _ (lists_long x)) l.0) (char_at_both q h cs ds vs us s s' x n l.0))

  start_both : (q : Place) → Stands R e q → (k j : ℕ) (s s' : List Value) → R k j → Rest R (units q.stack) s s' → Both R e (start_thread (here e q) k s) (start_thread (here' e q) j s')
  start_both q h k j s s' r l = if_same R e _ _ (e.alike.started k j r) _ _ _ _ (throws_both R e q (codes "java/lang/IllegalThreadStateException") refl)
      (starts r (framed R e _ _ None (goes_on _ h.its (moved s (λ b. omega (arith, b, l.1)) h.stands)) (top R e q h (q.at + 1) q.locals q.locals' s s' h.locals l.0)) as_before)

  built_in_both : (q : Place) → Stands R e q → (m : MethodName) (k j : ℕ) (vs us s s' : List Value) → R k j → Lists (Values R) vs us → Rest R (units q.stack) s s' → Both R e (row_built_in (here e q) m k vs s) (row_built_in (here' e q) m j us s')
  built_in_both q h m k j vs us s s' r n l = if_both R e (same_text m.class print_stream_class) _ _ _ _ (print_both q h m vs us s s' n l)
      (if_both R e (same_text m.class string_class) _ _ _ _ (string_both q h m k j vs us s s' r n l)
      (if_both R e (same_text m.class thread_class) _ _ _ _
      (if_both R e (same_text m.name (codes "start")) _ _ _ _ (start_both q h k j s s' r l) (go_on_both R e q h _ _ s s' same l))
      (go_on_both R e q h _ _ s s' same l)))

  -- calls
  calling_alike : (q : Place) → Stands R e q → (s s' : List Value) → Rest R (units q.stack) s s' → Lists (Frames R) (calling (here e q) s) (calling (here' e q) s')
  calling_alike q h s s' l = top R e q h q.at q.locals q.locals' s s' h.locals l.0

  call_code_both : (q : Place) → Stands R e q → (found : FoundMethod) (code : Code) (vs us : List Value) (o o' : Option ℕ) (s s' : List Value) → ((k : ℕ) → o ≡ Some k → Asks e.worlds.program e.thread.frames k) → FoundFor e.worlds.program found (length (locals_of vs)) → found.method.code ≡ Some code → Lists (Values R) vs us → Options R o o' → Rest R (units q.stack) s s' → Both R e (call_code (here e q) found code vs o s) (call_code (here' e q) found code us o' s')
  call_code_both q h found code vs us o o' s s' a x y n r l = depth_both R e _ _ _ _ (calling_alike q h s s' l)
      (λ d. enter_if_both R e o o' (begun found code vs o (here e q) s) (begun found code us o' (here' e q) s') a r (λ ms ms' z. frames_both R e (with_monitors (left e.worlds) ms) (with_monitors (right e.worlds) ms') _ _ None (goes_on _ h.its (called s vs found code o (λ b. omega (arith, b, l.1)) d x.0 y x.1 h.stands)) (locks z) (more (methods (called_alike code vs us n) r) (calling_alike q h s s' l))))

  call_instance_both : (q : Place) → Stands R e q → (found : FoundMethod) (k j : ℕ) (vs us s s' : List Value) (code : Option Code) → Asks e.worlds.program e.thread.frames k → FoundFor e.worlds.program found (suc (length (locals_of vs))) → found.method.code ≡ code → R k j → Lists (Values R) vs us → Rest R (units q.stack) s s' → Both R e (call_instance (here e q) found k vs s code) (call_instance (here' e q) found j us s' code)
  call_instance_both q h found k j vs us s s' None a x y r n l = built_in_both q h (name_of_method found) k j vs us s s' r n l
  call_instance_both q h found k j vs us s s' (Some code) a x y r n l = call_code_both q h found code (Ref k ∷ vs) (Ref j ∷ us) _ _ s s' (λ i c. subst (Asks e.worlds.program e.thread.frames) (monitor_is found.method k i c) a) x y (more (refs r) n) (monitor_alike found.method k j r) l

  call_found_both : (q : Place) → Stands R e q → (found : Option FoundMethod) (k j : ℕ) (vs us s s' : List Value) → Asks e.worlds.program e.thread.frames k → ((f : FoundMethod) → found ≡ Some f → FoundFor e.worlds.program f (suc (length (locals_of vs)))) → R k j → Lists (Values R) vs us → Rest R (units q.stack) s s' → Both R e (call_found (here e q) found k vs s) (call_found (here' e q) found j us s')
  call_found_both q h None k j vs us s s' a x r n l = throws_both R e q (codes "java/lang/AbstractMethodError") refl
  call_found_both q h (Some found) k j vs us s s' a x r n l = if_both R e (is_abstract found.method.flags) _ _ _ _ (throws_both R e q (codes "java/lang/AbstractMethodError") refl) (call_instance_both q h found k j vs us s s' found.method.code a (x found refl) refl r n l)

  -- its receiver's monitor
  abbrev AskedBy : Place → MethodRef → Type 0
  AskedBy q m = (k : ℕ) → slice_get q.stack (length m.descriptor.parameters) ≡ Some (Ref k) → Asks e.worlds.program e.thread.frames k

  asked_by : (q : Place) → Stands R e q → (op : InvokeOp) (m : MethodRef) → (op ≡ invoke.Static → ⊥) → instruction_in (method_named e.worlds.program q.method) q.at ≡ Some (instr.Invoke op m) → AskedBy q m
  asked_by q h op m x c k d = subst (λ fs. Asks e.worlds.program fs k) (sym h.its) (by_call op m x c d)

  receiver_both : (q : Place) → Stands R e q → (m : MethodRef) (go go' : ℕ → Object → List Value → List Value → Next) → AskedBy q m
      → ((k j : ℕ) (o b : Object) (vs us s s' : List Value) → Asks e.worlds.program e.thread.frames k → length (locals_of vs) ≤ argument_slots m.descriptor → R k j → Objects R o b → Lists (Values R) vs us → Rest R (units q.stack) s s' → Both R e (go k o vs s) (go' j b us s')) → Both R e (with_receiver (here e q) m go) (with_receiver (here' e q) m go')
  receiver_both q h m go go' a g = arguments_both R e (units q.stack) (argument_slots m.descriptor) (reverse m.descriptor.parameters) [] [] _ _ (receive (here e q) go) (receive (here' e q) go') (from_none m.descriptor) none (all_of R e q h)
      (λ vs us t t' y z n f. referred_both R e q (units q.stack) t t' (λ k o s. go k o vs s) (λ k o s. go' k o us s) f
      (λ k j o b s s' d r x l. g k j o b vs us s s' (a k (receiver_at m.descriptor.parameters q.stack t (Ref k) y d)) z r x n (less (units q.stack) s s' l)))

  invoke_virtual_both : (q : Place) → Stands R e q → (class : List ℕ) (m : MethodRef) → AskedBy q m → Both R e (invoke_virtual (here e q) class m) (invoke_virtual (here' e q) class m)
  invoke_virtual_both q h class m a = receiver_both q h m (virtual_of class m (here e q)) (virtual_of class m (here' e q)) a by
    where
      by : (k j : ℕ) (o b : Object) (vs us s s' : List Value) → Asks e.worlds.program e.thread.frames k → length (locals_of vs) ≤ argument_slots m.descriptor → R k j → Objects R o b → Lists (Values R) vs us → Rest R (units q.stack) s s' → Both R e (virtual_of class m (here e q) k o vs s) (virtual_of class m (here' e q) j b us s')
      by k j o b vs us s s' a z r (objects {type = type} {vs = xs} x) n l = if_both R e (is_of_class (here e q) (record { type = type; values = xs }) class) _ _ _ _ (call_found_both q h (select e.worlds.program (class_of type) m.name m.descriptor) k j vs us s s' a (λ f c. (by_class (class_of type) m.name m.descriptor c, omega (arith, z))) r n l) stopped

  invoke_interface_both : (q : Place) → Stands R e q → (class : List ℕ) (m : MethodRef) → AskedBy q m → Both R e (invoke_interface (here e q) class m) (invoke_interface (here' e q) class m)
  invoke_interface_both q h class m a = receiver_both q h m (interface_of class m (here e q)) (interface_of class m (here' e q)) a by
    where
      by : (k j : ℕ) (o b : Object) (vs us s s' : List Value) → Asks e.worlds.program e.thread.frames k → length (locals_of vs) ≤ argument_slots m.descriptor → R k j → Objects R o b → Lists (Values R) vs us → Rest R (units q.stack) s s' → Both R e (interface_of class m (here e q) k o vs s) (interface_of class m (here' e q) j b us s')
      by k j o b vs us s s' a z r (objects {type = type} {vs = xs} x) n l = if_both R e (is_of_class (here e q) (record { type = type; values = xs }) class) _ _ _ _ (call_found_both q h (select e.worlds.program (class_of type) m.name m.descriptor) k j vs us s s' a (λ f c. (by_class (class_of type) m.name m.descriptor c, omega (arith, z))) r n l) (throws_both R e q (codes "java/lang/IncompatibleClassChangeError") refl)

  invoke_special_both : (q : Place) → Stands R e q → (class : List ℕ) (m : MethodRef) → AskedBy q m → instruction_in (method_named e.worlds.program q.method) q.at ≡ Some (instr.Invoke invoke.Special m) → m.class ≡ named.Class class → Both R e (invoke_special (here e q) class m) (invoke_special (here' e q) class m)
  invoke_special_both q h class m a i y = receiver_both q h m (special_of class m (here e q)) (special_of class m (here' e q)) a by
    where
      by : (k j : ℕ) (o b : Object) (vs us s s' : List Value) → Asks e.worlds.program e.thread.frames k → length (locals_of vs) ≤ argument_slots m.descriptor → R k j → Objects R o b → Lists (Values R) vs us → Rest R (units q.stack) s s' → Both R e (special_of class m (here e q) k o vs s) (special_of class m (here' e q) j b us s')
      by k j o b vs us s s' a z r (objects {type = type} {vs = xs} x) n l = if_both R e (is_of_class (here e q) (record { type = type; values = xs }) class) _ _ _ _ (call_found_both q h (found_special (here e q) class m) k j vs us s s' a (λ f c. (by_invokespecial (here e q) class m refl c i y, omega (arith, z))) r n l) stopped

  call_static_both : (q : Place) → Stands R e q → (found : FoundMethod) (vs us s s' : List Value) (code : Option Code) → FoundFor e.worlds.program found (length (locals_of vs)) → found.method.code ≡ code → Lists (Values R) vs us → Rest R (units q.stack) s s' → Both R e (call_static (here e q) found vs s code) (call_static (here' e q) found us s' code)
  call_static_both q h found vs us s s' None x y n l = stopped
  call_static_both q h found vs us s s' (Some code) x y n l = call_code_both q h found code vs us None None s s' (λ k c. cc) x y n neither l

  invoke_found_both : (q : Place) → Stands R e q → (m : MethodRef) (found : Option FoundMethod) → ((f : FoundMethod) → found ≡ Some f → (x : Found e.worlds.program f) × (slots_of x ≡ argument_slots m.descriptor)) → Both R e (invoke_found (here e q) m found) (invoke_found (here' e q) m found)
  invoke_found_both q h m None x = stopped
  invoke_found_both q h m (Some found) x = initialized_both R e q h found.class.name _ _
      (arguments_both R e (units q.stack) (argument_slots m.descriptor) (reverse m.descriptor.parameters) [] [] _ _ (static_of found (here e q)) (static_of found (here' e q)) (from_none m.descriptor) none (all_of R e q h) (λ vs us s s' d z n l. call_static_both q h found vs us s s' found.method.code ((x found refl).0, omega (arith, z, (x found refl).1)) refl n l))

  invoke_both : (q : Place) → Stands R e q → (op : InvokeOp) (m : MethodRef) → instruction_in (method_named e.worlds.program q.method) q.at ≡ Some (instr.Invoke op m) → Both R e (row_invoke (here e q) op m) (row_invoke (here' e q) op m)
  invoke_both q h op m i = by m.class op refl i
    where
      by : (c : ClassRef) (op : InvokeOp) → m.class ≡ c → instruction_in (method_named e.worlds.program q.method) q.at ≡ Some (instr.Invoke op m) → Both R e (row_invoke_of (here e q) op m c) (row_invoke_of (here' e q) op m c)
      by (named.Class class) invoke.Virtual y i = invoke_virtual_both q h class m (asked_by q h invoke.Virtual m (λ x. cc) i)
      by (named.Class class) invoke.Special y i = invoke_special_both q h class m (asked_by q h invoke.Special m (λ x. cc) i) i y
      by (named.Class class) invoke.Static y i = invoke_found_both q h m (resolve_method e.worlds.program class m.name m.descriptor) (λ f c. (by_name class m.name m.descriptor c, refl))
      by (named.Class class) invoke.Interface y i = invoke_interface_both q h class m (asked_by q h invoke.Interface m (λ x. cc) i)
      by (named.Array t) op y i = stopped

  -- returns
  pub ended_both : (fs : List Frame) → e.thread.frames ≡ fs → IsLast fs → Both R e (ended (left e.worlds) e.number e.thread) (ended (right e.worlds) e.number e.thread')
  ended_both fs x y = went None same (record { object = refl; other = refl; frames = none; pending = neither; ending = refl; turn = ends fs x y }) cleared

  result_alike : (o b : Option Value) (s s' : List Value) → Options (Values R) o b → Lists (Values R) s s' → Lists (Values R) (with_result o s) (with_result b s')
  result_alike _ _ s s' neither l = l
  result_alike _ _ s s' (both a) l = more a l

  returned_both : (m : MethodName) (a : Activation) (j : Option ℕ) (ms ms' : List Monitor) (o b : Option Value) (fs fs' : List Frame) → e.thread.frames ≡ method_frame m a j ∷ fs → Locks R e.worlds e.number ms ms' → Options (Values R) o b → Lists (Frames R) fs fs'
      → Both R e (returned_to (with_monitors (left e.worlds) ms) e.number e.thread o fs) (returned_to (with_monitors (right e.worlds) ms') e.number e.thread' b fs')
  returned_both m a j ms ms' o b _ _ d x r none = went None (locks x) (record { object = refl; other = refl; frames = none; pending = neither; ending = refl; turn = ends _ d last_method }) cleared
  returned_both m a j ms ms' o b _ _ d x r (more (methods (acts {max_stack = max_stack} ls s) i) l) = same_told R e _ _ (ap (λ n. nat_le n max_stack) (units_same (result_alike o b _ _ r s))) _ _ _ _
      (λ c. frames_both R e (with_monitors (left e.worlds) ms) (with_monitors (right e.worlds) ms') _ _ None (goes_on _ d (gave (with_result o _) (leb-true _ max_stack c))) (locks x) (more (methods (acts ls (result_alike o b _ _ r s)) i) l)) stopped
  returned_both m a j ms ms' o b _ _ d x r (more initializations l) = frames_both R e (with_monitors (left e.worlds) ms) (with_monitors (right e.worlds) ms') _ _ None (goes_on _ d turning.left) (locks x) (more initializations l)
  returned_both m a j ms ms' o b _ _ d x r (more entries l) = frames_both R e (with_monitors (left e.worlds) ms) (with_monitors (right e.worlds) ms') _ _ None (goes_on _ d turning.left) (locks x) (more entries l)

  return_from_both : (q : Place) → Stands R e q → (o b : Option Value) → Options (Values R) o b → Both R e (return_from (here e q) o) (return_from (here' e q) b)
  return_from_both q h o b r = leave_if_both R e q.monitor q.monitor' _ _ (return_in o (here e q)) (return_in b (here' e q)) h.monitor (throws_both R e q (codes "java/lang/IllegalMonitorStateException") refl)
      (λ ms ms' x. returned_both q.method _ q.monitor ms ms' o b q.below q.below' h.its x r h.below)

  return_value_both : (q : Place) → Stands R e q → (o : OperandType) (t : Option FieldType) (v u : Value) → Values R v u → Both R e (return_value (here e q) o t v) (return_value (here' e q) o t u)
  return_value_both q h o None v u a = stopped
  return_value_both q h o (Some t) v u a = if_both R e (same_operand (operand_of t) o) _ _ _ _ (return_from_both q h _ _ (both (narrowed t a))) stopped

  pop_and_return_both : (q : Place) → Stands R e q → (o : OperandType) → Both R e (pop_and_return (here e q) o) (pop_and_return (here' e q) o)
  pop_and_return_both q h o = operand_both R e (units q.stack) o _ _ (return_after o (here e q)) (return_after o (here' e q)) (all_of R e q h) (λ v u s s' a l. return_value_both q h o q.method.descriptor.return_type v u a)

  return_both : (q : Place) → Stands R e q → (op : ReturnOp) → Both R e (row_return (here e q) op) (row_return (here' e q) op)
  return_both q h return.Int = pop_and_return_both q h operand.Int
  return_both q h return.Long = pop_and_return_both q h operand.Long
  return_both q h return.Reference = pop_and_return_both q h operand.Reference
  return_both q h return.Void = by q.method.descriptor.return_type
    where
      by : (t : Option FieldType) → Both R e (return_nothing (here e q) t) (return_nothing (here' e q) t)
      by None = return_from_both q h None None neither
      by (Some t) = stopped

  -- athrow, monitors, plain instructions
  throw_if : (k j : ℕ) (o b : Object) → slice_get (left e.worlds).heap k ≡ Some o → R k j → Objects R o b → (q : Place) → Both R e (throw_in (here e q) k o) (throw_in (here' e q) j b)
  throw_if k j _ _ d r (objects {type = type} l) q = if_told R e (is_kind_of (left e.worlds) type throwable_class) _ _ _ _
      (λ y. went None same (record { object = refl; other = refl; frames = e.running.frames; pending = both r; ending = e.running.ending; turn = raises k }) (threw _ d y)) (λ y. stopped)

  throw_row_both : (q : Place) → Stands R e q → Both R e (row_throw (here e q)) (row_throw (here' e q))
  throw_row_both q h = reference_both R e (units q.stack) _ _ (throw_from (here e q)) (throw_from (here' e q)) (all_of R e q h)
      (λ i i' s s' r l. object_both R e q i i' (throw_in (here e q)) (throw_in (here' e q)) r (λ k j o b a c d x. throw_if k j o b c a x q))

  monitor_both : (q : Place) → Stands R e q → (op : MonitorOp) → instruction_in (method_named e.worlds.program q.method) q.at ≡ Some (instr.Monitor op) → Both R e (row_monitor (here e q) op) (row_monitor (here' e q) op)
  monitor_both q h Enter i = referred_both R e q (units q.stack) _ _ (enter_in (here e q)) (enter_in (here' e q)) (all_of R e q h)
      (λ k j o b s s' d r x l. enter_both R e k j (λ w. go_on_in (here e q) w s) (λ w. go_on_in (here' e q) w s') (subst (λ fs. Asks e.worlds.program fs k) (sym h.its) (by_monitorenter i d)) r (λ ms ms' y. go_on_both R e q h _ _ s s' (locks y) (less (units q.stack) s s' l)))
  monitor_both q h Exit i = reference_both R e (units q.stack) _ _ (exit_from (here e q)) (exit_from (here' e q)) (all_of R e q h)
      (λ i i' s s' r l. object_both R e q i i' (exit_in (here e q) s) (exit_in (here' e q) s') r
      (λ k j o b a c d x. leave_both R e k j _ _ (λ w. go_on_in (here e q) w s) (λ w. go_on_in (here' e q) w s') a (throws_both R e q (codes "java/lang/IllegalMonitorStateException") refl) (λ ms ms' y. go_on_both R e q h _ _ s s' (locks y) (less (units q.stack) s s' l))))

  outcome_both : (q : Place) → Stands R e q → (op : Plain) → instruction_in (method_named e.worlds.program q.method) q.at ≡ Some (instr.Plain op) → (a b : Outcome) → row_plain op (Here.frame (here e q)) ≡ a → Outcomes R a b → Both R e (from_outcome (here e q) a) (from_outcome (here' e q) b)
  outcome_both q h op c _ _ d (alike.go a) = frames_both R e (left e.worlds) (right e.worlds) _ _ None (goes_on _ h.its (acted op c d)) same (more (methods a h.monitor) h.below)
  outcome_both q h op c _ _ d alike.throw = throw_both R e _ e.thread.frames e.thread'.frames (by_plain q.method _ op c d) raises e.running.frames
  outcome_both q h op c _ _ d alike.fault = stopped

  row_both : (q : Place) → Stands R e q → (i : Instr) → instruction_in (method_named e.worlds.program q.method) q.at ≡ Some i → Both R e (row (here e q) i) (row (here' e q) i)
  row_both q h (instr.Plain op) c = outcome_both q h op c _ _ refl (e.alike.plain op _ _ (acts h.locals h.stack))
  row_both q h (instr.Array op) c = array_both q h op
  row_both q h (instr.Return op) c = return_both q h op
  row_both q h instr.Throw c = throw_row_both q h
  row_both q h (instr.Monitor op) c = monitor_both q h op c
  row_both q h (instr.Constant x) c = constant_both q h x
  row_both q h (instr.Field op f) c = field_both q h op f
  row_both q h (instr.Invoke op m) c = invoke_both q h op m c
  row_both q h (instr.New class) c = new_both q h class c
  row_both q h (instr.Type op t) c = type_both q h op t

  pub instruct_both : (q : Place) → (IsAt e.worlds.program q.method q.at → Stands R e q) → (o : Option Instr) → instruction_in (method_named e.worlds.program q.method) q.at ≡ o → Both R e (instruction_at (here e q) o) (instruction_at (here' e q) o)
  instruct_both q h None c = stopped
  instruct_both q h (Some i) c = row_both q (h (i, c)) i c
