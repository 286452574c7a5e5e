-- A call of an instance method that has code, where it stands.
use Rattle.std.proofs.Common.{◌≡◌, ℕ, zero, suc, ◌+◌, ◌≤◌, List, [], ◌∷◌, ◌++◌, Option, Some, None, Bool, true, false, refl, sym, ap, ◌∙◌, subst, inl, inr}
use Rattle.std.proofs.Common.{length, reverse, drop, take, arith}
use Rattle.std.specs.Prelude.{slice_get, option_map, codes, not, if◌then◌else◌, Result}
use Rattle.std.specs.List.{sum_by}
use Rattle.std.proofs.lemmas.List.{reverse-append}
use Rattle.std.proofs.lemmas.Option.{slice_get-map}
use Rattle.jm_program.specs.Descriptors.{slots}
use Rattle.jm_program.specs.Flags.{is_abstract, is_static, is_synchronized}
use Rattle.jm_program.specs.declared.class.Method.{Method as Declared}
use Rattle.jm_program.specs.declared.code.Code.{Code}
use Rattle.jm_program.specs.declared.descriptor.FieldType.{FieldType}
use Rattle.jm_program.proofs.Truths.{both_true as both}
use Rattle.jm_values.specs.Content.{Content, name_of}
use Rattle.jm_values.specs.Rename.{rename, value_shape}
use Rattle.jm_values.specs.Shape.{Among}
use Rattle.jm_values.specs.declared.value.Value.{Value}
use Rattle.jm_values.specs.declared.value.Value.TheVariants.{Ref}
use Rattle.jm_values.proofs.Lists.{got_within, refs_in}
use Rattle.jm_world.specs.Classes.{FoundMethod, method_named, name_of_method}
use Rattle.jm_world.specs.Here.{Here, throws}
use Rattle.jm_world.specs.Frames.{optional_number_shape}
use Rattle.jm_world.specs.Invocation.{call_code, call_instance, locals_of, monitor_of}
use Rattle.jm_world.specs.Next.{Next}
use Rattle.jm_state.specs.Arguments.{on_top}
use Rattle.jm_heap.specs.declared.class_id.ClassId.{ClassId}
use Rattle.jm_linked.specs.Links.{LinkedView, IsLinked, MethodLinks, linked_name, member_name, name_in_class}
use Rattle.jm_state.specs.declared.halt.Halt.{Halt}
use Rattle.jm_state.specs.declared.halt.StepEnd.{StepEnd}
use Rattle.jm_state.specs.declared.state.State.{State}
use Rattle.jm_interp.specs.declared.at.At.{At}
use Rattle.jm_interp.specs.At.{Does, Steps, in_method}
use Rattle.jm_interp.specs.Calls.{HasParameters, IsCalled, IsOperand, MayCall, calls_with}
use Rattle.jm_interp.specs.Invoking.{HasReceiver, IsCoded, IsInstanceMethod, StepCalls, calls_found}
use Rattle.jm_interp.proofs.Here.{place}
use Rattle.jm_interp.proofs.OnThread.{does_as, model, thread_there}
use Rattle.jm_interp.proofs.StaticCalls.{arguments_fit, body, links, reversed_slots, same_got, same_method, slots_fit}

-- one operand more: the one below is the first
taken_next : (n : ℕ) (s : List Value) (v : Value) → slice_get s n ≡ Some v → take (suc n) s ≡ take n s ++ v ∷ []
taken_next zero [] v e = cc
taken_next zero (u ∷ s) v e = let same : u ≡ v = cc in ap (λ x. x ∷ []) same
taken_next (suc n) [] v e = cc
taken_next (suc n) (u ∷ s) v e = ap (λ l. u ∷ l) (taken_next n s v e)

top_next : (n : ℕ) (s : List Value) (v : Value) → slice_get s n ≡ Some v → on_top (suc n) s ≡ v ∷ on_top n s
top_next n s v e = ap reverse (taken_next n s v e) ∙ reverse-append (take n s) (v ∷ [])

-- the monitor of a synchronized method
monitor_named : (f : ℕ → ℕ) (m : Declared) (receiver : ℕ) → option_map f (monitor_of m receiver) ≡ monitor_of m (f receiver)
monitor_named f m receiver = by (is_synchronized m.flags)
  where
    by : (b : Bool) → option_map f (elim b as (λ _. Option ℕ) [ true ↦ Some receiver | false ↦ None ])
        ≡ elim b as (λ _. Option ℕ) [ true ↦ Some (f receiver) | false ↦ None ]
    by true = refl
    by false = refl

pub monitor_among : (m : Declared) (receiver : ℕ) (q : ℕ) → Among q (optional_number_shape.refs (monitor_of m receiver)) → q ≡ receiver
monitor_among m receiver q a = by (is_synchronized m.flags) a
  where
    by : (b : Bool) → Among q (optional_number_shape.refs (elim b as (λ _. Option ℕ) [ true ↦ Some receiver | false ↦ None ])) → q ≡ receiver
    by true (inl same) = same
    by true (inr z) = absurd z
    by false z = absurd z

-- a linked method that stands under the name of a method of the program is that one
module _ {l : LinkedView} (linked : IsLinked l) {number : ℕ} {parameters : List FieldType} (p : HasParameters l number parameters) {found : FoundMethod}
    (k : IsCoded l number found) (there : method_named l.program (name_of_method found) ≡ Some found.method) where
  abbrev pub own : MethodLinks l p.method
  own = links linked p

  name_is : linked_name l.program p.method ≡ name_of_method found
  name_is = ap (linked_name l.program) (same_got p.method_is k.method_is) ∙ k.named

  own_name : linked_name l.program p.method ≡ name_of_method (record { class = own.class; method = own.method })
  own_name = ap (λ o. name_in_class o p.method.member) own.class_is ∙ ap (member_name own.class) own.method_is

  own_method : own.method ≡ found.method
  own_method = same_got own.named (ap (method_named l.program) (sym own_name ∙ name_is) ∙ there)

  declared_method : p.declared ≡ found.method
  declared_method = sym (same_method linked p) ∙ own_method

  pub found_code : found.method.code ≡ Some own.code
  found_code = ap (λ (m : Declared). m.code) (sym own_method) ∙ own.code_is

  found_parameters : parameters ≡ found.method.descriptor.parameters
  found_parameters = sym p.parameters_are ∙ ap (λ (m : Declared). m.descriptor.parameters) declared_method

  pub found_called : IsCalled l number found own.code
  found_called = record {
    method = p.method;
    method_is = p.method_is;
    named = name_is;
    max_stack = own.max_stack;
    max_locals = own.max_locals;
  }

  -- it has room for the receiver, and it is not abstract
  pub room : is_static found.method.flags ≡ false → sum_by slots parameters + 1 ≤ p.method.max_locals
  room instance =
      let flag : is_static p.declared.flags ≡ false = ap (λ (m : Declared). is_static m.flags) declared_method ∙ instance in
      subst (λ (b : Bool). sum_by slots parameters + (if b then 0 else 1) ≤ p.method.max_locals) flag (slots_fit linked p)

  negated : (b : Bool) → not b ≡ true → b ≡ false
  negated true e = cc
  negated false e = refl

  pub concrete : is_abstract found.method.flags ≡ false
  concrete =
      ap (λ (m : Declared). is_abstract m.flags) (sym declared_method)
      ∙ negated (is_abstract p.declared.flags) (both _ _ (both _ _ (body linked p)).0).0

  -- so the model's call of it is a call of its code, which enters the receiver's monitor where it is synchronized
  called : (here : Here) (receiver count : ℕ) → slice_get here.frame.stack count ≡ Some (Ref receiver)
      → calls_found (Some found) receiver count here ≡ calls_with found own.code (suc count) (monitor_of found.method receiver) here
  called here receiver count at =
      let arguments = on_top count here.frame.stack in
      let below = drop (suc count) here.frame.stack in
      let calls : List Value → Next = λ vs. call_code here found own.code vs (monitor_of found.method receiver) below in
      ap (λ b. elim b as (λ _. Next) [
        | true ↦ throws here (codes "java/lang/AbstractMethodError")
        | false ↦ call_instance here found receiver arguments below found.method.code
      ]) concrete
      ∙ ap (call_instance here found receiver arguments below) found_code
      ∙ ap calls (sym (top_next count here.frame.stack (Ref receiver) at))

  -- its monitor under another name of the receiver
  pub monitor_is : (f : ℕ → ℕ) (receiver : ℕ) → option_map f (monitor_of p.declared receiver) ≡ monitor_of found.method (f receiver)
  monitor_is f receiver = ap (λ (m : Declared). option_map f (monitor_of m receiver)) declared_method ∙ monitor_named f found.method receiver

-- the receiver and the arguments are the method's first local variables
receiver_fits : (parameters : List FieldType) (s : List Value) (receiver : ℕ) → HasReceiver parameters s receiver
    → length (locals_of (on_top (suc (length parameters)) s)) ≤ sum_by slots parameters + 1
receiver_fits parameters s receiver has =
    let count = length parameters in
    let arguments = on_top count s in
    let all : length (locals_of arguments) ≤ sum_by slots (reverse parameters) + 0 =
    arguments_fit (reverse parameters) [] s arguments (drop count s) has.arguments in
    let turned = reversed_slots parameters in
    let first : length (locals_of (on_top (suc count) s)) ≡ suc (length (locals_of arguments)) =
    ap (λ vs. length (locals_of vs)) (top_next count s (Ref receiver) has.receiver_is) in
    omega arith

module _ {H : Type 0} {content : H → Content ClassId} {at : At} {old : State H} {found : FoundMethod} {receiver : ℕ} {parameters : List FieldType}
    (s : StepCalls content at old (Some found) receiver parameters) (i : IsInstanceMethod at.linked.now found parameters) {number : ℕ}
    (k : IsCoded at.linked.now number found) {own_parameters : List FieldType} (p : HasParameters at.linked.now number own_parameters) where
  abbrev stack : List Value
  stack = s.on.frame.activation.stack

  same_parameters : own_parameters ≡ parameters
  same_parameters = found_parameters s.on.on.beside.linked p k i.there ∙ i.parameters_are

  one_more : suc (length parameters) ≡ length own_parameters + 1
  one_more = let same = ap (λ (ts : List FieldType). length ts) same_parameters in omega arith

  -- the call may be made, with the receiver's monitor where the method is synchronized
  module _ {monitor : Option ℕ} (m : monitor ≡ monitor_of p.declared receiver) where
    its_operand : IsOperand s.on.frame monitor
    its_operand q a =
        let same : q ≡ receiver = monitor_among p.declared receiver q (subst (λ o. Among q (optional_number_shape.refs o)) m a) in
        refs_in value_shape stack (length parameters) (Ref receiver) q s.has.receiver_is (inl same)

    pub may_call : MayCall content at old number (length own_parameters + 1) monitor
    may_call =
        let within = got_within stack (length parameters) (Ref receiver) s.has.receiver_is in
        let long = receiver_fits parameters stack receiver s.has in
        let most = room s.on.on.beside.linked p k i.there i.instance in
        let same = ap (sum_by slots) same_parameters in
        subst (λ n. MayCall content at old number n monitor) one_more
        (record {
          on = s.on;
          has = record { method = p.method; method_is = p.method_is; enough = omega arith; fits = omega arith };
          operand = its_operand;
        })

    -- the step does what the call does
    pub steps : {result : Result StepEnd Halt} {new : State H} → ((x : FoundMethod) (code : Code) → IsCalled at.linked.now number x code
        → Does content at old result new (in_method (calls_with x code (length own_parameters + 1) (option_map (name_of (content old.heap)) monitor))))
        → Steps content at old result new
    steps {result} {new} done =
        let f = name_of (content old.heap) in
        let h = s.on.on in
        let linked = h.beside.linked in
        let code = (links linked p).code in
        let there : (w : _) → slice_get (place s.on w).frame.stack (length parameters) ≡ Some (Ref (f receiver)) =
        λ w. slice_get-map (rename f) stack (length parameters) ∙ ap (option_map (rename f)) s.has.receiver_is in
        let entered : option_map f monitor ≡ monitor_of found.method (f receiver) = ap (option_map f) m ∙ monitor_is linked p k i.there f receiver in
        does_as h (λ w x. x) (λ w x.
        s.step w (model h) x (thread_there h w x)
        ∙ called linked p k i.there (place s.on w) (f receiver) (length parameters) (there w)
        ∙ ap (λ o. calls_with found code (suc (length parameters)) o (place s.on w)) (sym entered))
        (subst (λ n. Does content at old result new (in_method (calls_with found code n (option_map f monitor)))) (sym one_more)
        (done found code (found_called linked p k i.there)))
