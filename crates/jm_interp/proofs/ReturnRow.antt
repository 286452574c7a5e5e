-- A return, where it stands.
use Rattle.std.proofs.Common.{◌≡◌, ℕ, zero, suc, ◌+◌, ◌<◌, ◌≤◌, ◌⊎◌, List, [], ◌∷◌, ◌++◌, Option, Some, None, Bool, true, false}
use Rattle.std.proofs.Common.{refl, sym, ap, ◌∙◌, subst, inl, inr, arith, length}
use Rattle.std.specs.Prelude.{Result, map, option_map, nat_le, Ok, Err, vec_len, slice_get, slice_index_or, ℤ}
use Rattle.jm_program.specs.declared.descriptor.BaseType.TheVariants as base
use Rattle.jm_program.specs.declared.descriptor.ElementType.{ElementType}
use Rattle.jm_program.specs.declared.descriptor.ElementType.TheVariants.{Base, Class}
use Rattle.jm_program.specs.declared.descriptor.FieldType.{FieldType}
use Rattle.jm_program.specs.declared.instruction.operation.ReturnOp.{ReturnOp}
use Rattle.jm_program.specs.declared.instruction.operation.ReturnOp.TheVariants as return
use Rattle.jm_program.specs.declared.instruction.operation.OperandType.{OperandType}
use Rattle.jm_program.specs.declared.instruction.operation.OperandType.TheVariants as operand
use Rattle.jm_frames.specs.FrameView.{FrameView}
use Rattle.jm_values.specs.Activation.{units}
use Rattle.jm_values.specs.Rename.{rename, refs, rename_activation, locals_shape, stack_shape}
use Rattle.jm_values.specs.Shape.{Among}
use Rattle.jm_values.specs.Steps.{is_of}
use Rattle.jm_values.specs.declared.value.Value.{Value}
use Rattle.jm_values.specs.declared.value.Value.TheVariants.{Int, Long, Null, Ref}
use Rattle.jm_values.specs.declared.fault.TagFault.TheVariants.{Overflow, WrongTag}
use Rattle.jm_values.proofs.Among.{among_left, among_right, among_split}
use Rattle.jm_values.proofs.NaturalSteps.{units_renamed, is_of_renamed}
use Rattle.jm_world.specs.Frames.{Frame, refs_frame, frames_shape, rename_frame, method_frame, optional_number_shape}
use Rattle.jm_world.specs.Here.{Here, with_frames, with_operand, moved_on}
use Rattle.jm_world.specs.Matches.{Matches, places}
use Rattle.jm_world.specs.Next.{Next, goes, faults}
use Rattle.jm_world.specs.Returns.{returned_to, return_from, return_nothing, row_return, return_value, pop_and_return, same_operand, with_result}
use Rattle.jm_world.specs.Types.{narrow, narrow_int, operand_in}
use Rattle.jm_world.specs.Types as model_type
use Rattle.jm_world.specs.World.{World, Thread, returned}
use Rattle.jm_values.specs.Content.{Content, name_of}
use Rattle.jm_world.specs.Renaming.{rename_thread}
use Rattle.jm_world.specs.Stepping.{row, step_thread}
use Rattle.jm_heap.specs.declared.class_id.ClassId.{ClassId}
use Rattle.jm_linked.specs.Kinds.{kind_in, kind_of}
use Rattle.jm_linked.specs.Links.{Links, LinkedView, name_of_number}
use Rattle.jm_linked.specs.declared.instruction.LinkedInstr.TheVariants as linked
use Rattle.jm_linked.specs.declared.kind.ValueKind.{ValueKind}
use Rattle.jm_linked.specs.declared.method.LinkedMethod.{LinkedMethod}
use Rattle.jm_state.specs.Ends.{Ended}
use Rattle.jm_state.specs.Parts.{frame_part}
use Rattle.jm_state.specs.declared.halt.Halt.{Halt}
use Rattle.jm_state.specs.declared.halt.Halt.TheVariants.{Stopped, OutOfMemory}
use Rattle.jm_state.specs.declared.halt.StepEnd.TheVariants.{Done}
use Rattle.jm_state.specs.declared.state.State.{State}
use Rattle.jm_state.specs.declared.thread.StackFrame.{StackFrame}
use Rattle.jm_state.specs.declared.thread.StackFrame.TheVariants.{Method, Initialization, Entry}
use Rattle.jm_state.specs.declared.thread.Thread as held
use Rattle.jm_interp.specs.declared.at.At.{At}
use Rattle.jm_interp.specs.declared.top_object.Refusal.{Refusal}
use Rattle.jm_interp.specs.declared.top_object.Refusal.TheVariants.{Faults}
use Rattle.jm_interp.specs.At.{parts_at, in_method, InMethod, OnThread, StandsOn, Does, made_step}
use Rattle.jm_interp.specs.Ending.{ended_as}
use Rattle.jm_interp.specs.Narrowing.{operand_of, base_of, kept}
use Rattle.jm_interp.specs.Returned.{as_result, value_result, no_result, result_of, HoldsResult, ReturnsTo, takes, taken, Left}
use Rattle.jm_interp.specs.Standing.{InAnyMethod, Stands, part_of, ThreadRest, running}
use Rattle.jm_interp.specs.TopObject.{operand_as}
use Rattle.jm_interp.proofs.ArrayStores.{operand_held}
use Rattle.jm_interp.proofs.Fetching.{links, name_is}
use Rattle.jm_interp.proofs.Here.{place, row_is}
use Rattle.jm_interp.proofs.OnThread.{Leads, lower, model, with_thread_at, read, does, does_as, held_frames, part_here, runs_with, same_matches, thread_there}
use Rattle.jm_interp.proofs.OnThread.{as_frames}
use Rattle.jm_interp.proofs.OnThread as thread
use Rattle.jm_interp.proofs.OnTop.{by, step_is, is_refused}
use Rattle.jm_interp.proofs.Threads.{HasTwo, tail_of, two_frames, few_frames, PartRuns, part_refs, without_top, with_top}

-- kinds and the types that they are of
kind_serves : (n : ℕ) (e : ElementType) → operand_in n e ≡ operand_of (kind_in n e)
kind_serves (suc n) e = refl
kind_serves zero (Class name) = refl
kind_serves zero (Base base.Boolean) = refl
kind_serves zero (Base base.Byte) = refl
kind_serves zero (Base base.Char) = refl
kind_serves zero (Base base.Short) = refl
kind_serves zero (Base base.Int) = refl
kind_serves zero (Base base.Long) = refl
kind_serves zero (Base base.Float) = refl
kind_serves zero (Base base.Double) = refl

narrows : (n : ℕ) (e : ElementType) (x : ℤ) → operand_in n e ≡ operand.Int → narrow_int e x ≡ narrow_int (Base (base_of (kind_in n e))) x
narrows (suc n) e x i = cc
narrows zero (Class name) x i = cc
narrows zero (Base base.Boolean) x i = refl
narrows zero (Base base.Byte) x i = refl
narrows zero (Base base.Char) x i = refl
narrows zero (Base base.Short) x i = refl
narrows zero (Base base.Int) x i = refl
narrows zero (Base base.Long) x i = refl
narrows zero (Base base.Float) x i = refl
narrows zero (Base base.Double) x i = refl

kept_is : (f : ℕ → ℕ) (t : FieldType) (type : OperandType) (v : Value) → is_of type v ≡ true → model_type.operand_of t ≡ type
    → narrow t (rename f v) ≡ rename f (kept (kind_of t) v)
kept_is f t operand.Int (Int n) is same = ap Int (narrows t.dimensions t.element n same)
kept_is f t operand.Long (Int n) is same = cc
kept_is f t operand.Reference (Int n) is same = cc
kept_is f t type (Long n) is same = refl
kept_is f t type Null is same = refl
kept_is f t type (Ref p) is same = refl

kept_refs : (k : ValueKind) (v : Value) → refs (kept k v) ≡ refs v
kept_refs k (Int n) = refl
kept_refs k (Long n) = refl
kept_refs k Null = refl
kept_refs k (Ref p) = refl

one_operand : (a b : OperandType) → same_operand a b ≡ true → a ≡ b
one_operand operand.Int operand.Int e = refl
one_operand operand.Int operand.Long e = cc
one_operand operand.Int operand.Reference e = cc
one_operand operand.Long operand.Int e = cc
one_operand operand.Long operand.Long e = refl
one_operand operand.Long operand.Reference e = cc
one_operand operand.Reference operand.Int e = cc
one_operand operand.Reference operand.Long e = cc
one_operand operand.Reference operand.Reference e = refl

-- the model returns a result of the machine
abbrev hands : Here → (ℕ → ℕ) → Option Value → Next
hands o f x = return_from o (option_map (rename f) x)

value_returned : (o : Here) (type : OperandType) (f : ℕ → ℕ) (t : Option FieldType) (v : Value) → is_of type v ≡ true
    → return_value o type t (rename f v) ≡ by o (as_result type (option_map kind_of t) v) (hands o f)
value_returned o type f None v is = refl
value_returned o type f (Some t) v is =
    tested (same_operand (model_type.operand_of t) type) refl
    ∙ ap (λ k. by o (elim (same_operand k type) as (λ _. Result (Option Value) Refusal) [
      | true ↦ Ok (Some (kept (kind_of t) v))
      | false ↦ Err (Faults WrongTag)
    ]) (hands o f)) (kind_serves t.dimensions t.element)
  where
    tested : (b : Bool) → same_operand (model_type.operand_of t) type ≡ b
        → (elim b as (λ _. Next) [ true ↦ return_from o (Some (narrow t (rename f v))) | false ↦ faults WrongTag ])
        ≡ by o (elim b as (λ _. Result (Option Value) Refusal) [ true ↦ Ok (Some (kept (kind_of t) v)) | false ↦ Err (Faults WrongTag) ]) (hands o f)
    tested true e = ap (λ x. return_from o (Some x)) (kept_is f t type v is (one_operand (model_type.operand_of t) type e))
    tested false e = refl

operand_returned : (o : Here) (type : OperandType) (f : ℕ → ℕ) (s : List Value) (t : Option FieldType)
    → with_operand type (map (rename f) s) (λ v rest. return_value o type t v)
    ≡ by o (value_result type (option_map kind_of t) (operand_as type (slice_get s 0))) (hands o f)
operand_returned o type f [] t = refl
operand_returned o type f (v ∷ s) t =
    ap (λ b. elim b as (λ _. Next) [ true ↦ return_value o type t (rename f v) | false ↦ faults WrongTag ]) (is_of_renamed f type v)
    ∙ tested (is_of type v) refl
  where
    tested : (b : Bool) → is_of type v ≡ b → (elim b as (λ _. Next) [ true ↦ return_value o type t (rename f v) | false ↦ faults WrongTag ])
        ≡ by o (value_result type (option_map kind_of t) (elim b as (λ _. Result Value Refusal) [ true ↦ Ok v | false ↦ Err (Faults WrongTag) ])) (hands o f)
    tested true e = value_returned o type f t v e
    tested false e = refl

popped : (o : Here) (type : OperandType) (f : ℕ → ℕ) (s : List Value) → o.frame.stack ≡ map (rename f) s → pop_and_return o type
    ≡ by o (value_result type (option_map kind_of o.method.descriptor.return_type) (operand_as type (slice_get s 0))) (hands o f)
popped o type f s stack =
    ap (λ x. with_operand type x (λ v rest. return_value o type o.method.descriptor.return_type v)) stack
    ∙ operand_returned o type f s o.method.descriptor.return_type

nothing_returned : (o : Here) (f : ℕ → ℕ) (t : Option FieldType)
    → return_nothing o t ≡ by o (no_result (option_map kind_of t)) (hands o f)
nothing_returned o f None = refl
nothing_returned o f (Some t) = refl

row_result : (o : Here) (op : ReturnOp) (f : ℕ → ℕ) (s : List Value) → o.frame.stack ≡ map (rename f) s
    → row_return o op ≡ by o (result_of op (option_map kind_of o.method.descriptor.return_type) (slice_get s 0)) (hands o f)
row_result o return.Int f s stack = popped o operand.Int f s stack
row_result o return.Long f s stack = popped o operand.Long f s stack
row_result o return.Reference f s stack = popped o operand.Reference f s stack
row_result o return.Void f s stack = nothing_returned o f o.method.descriptor.return_type

-- a result is of the operand on top
record Of (y : Option Value) (v : Value) : Type 0 where
  type : OperandType
  value : Value
  is : operand_as type y ≡ Ok value
  same : refs v ≡ refs value

of_value : (type : OperandType) (k : Option ValueKind) (y : Option Value) (z : Result Value Refusal) (v : Value) → operand_as type y ≡ z
    → value_result type k z ≡ Ok (Some v) → Of y v
of_value type None y (Ok u) v is e = cc
of_value type (Some k) y (Ok u) v is e = tested (same_operand (operand_of k) type) e
  where
    tested : (b : Bool) → (elim b as (λ _. Result (Option Value) Refusal) [ true ↦ Ok (Some (kept k u)) | false ↦ Err (Faults WrongTag) ]) ≡ Ok (Some v)
        → Of y v
    tested true e = let same : kept k u ≡ v = cc in record { type = type; value = u; is = is; same = ap refs (sym same) ∙ kept_refs k u }
    tested false e = cc
of_value type k y (Err r) v is e = cc

of_none : (k : Option ValueKind) (y : Option Value) (v : Value) → no_result k ≡ Ok (Some v) → Of y v
of_none None y v e = cc
of_none (Some k) y v e = cc

of_top : (op : ReturnOp) (k : Option ValueKind) (y : Option Value) (v : Value) → result_of op k y ≡ Ok (Some v) → Of y v
of_top return.Int k y v e = of_value operand.Int k y (operand_as operand.Int y) v refl e
of_top return.Long k y v e = of_value operand.Long k y (operand_as operand.Long y) v refl e
of_top return.Reference k y v e = of_value operand.Reference k y (operand_as operand.Reference y) v refl e
of_top return.Void k y v e = of_none k y v e

module _ {H : Type 0} {content : H → Content ClassId} {at : At} {old : State H} {op : ReturnOp}
    (h : StandsOn content at old (Links at.linked.now (linked.Return op))) where
  -- the method of the frame that was read is the top frame's, and one of the program's
  pub method_here : {d : held.Thread} {v : FrameView} {n : ℕ} → d ≡ slice_index_or old.threads.items at.index d → InAnyMethod d (λ x below r. v ≡ x)
      → n ≡ v.method → n ≡ h.method.frame.method
  method_here got top is = is ∙ ap (λ x. x.method) (top h.method.frame h.method.below _ (read h.method.on got))

  pub method_within : {n : ℕ} → n ≡ h.method.frame.method → n < length at.linked.now.methods
  method_within is = subst (λ x. x < length at.linked.now.methods) (sym is) (part_here h.method.on).runs.frames.0

  module _ {n : ℕ} (number_is : n ≡ h.method.frame.method) {m : LinkedMethod} (there : slice_get at.linked.now.methods n ≡ Some m) where
    abbrev stack : List Value
    stack = h.method.frame.activation.stack

    abbrev f : ℕ → ℕ
    f = name_of (content old.heap)

    method_there : slice_get at.linked.now.methods h.method.frame.method ≡ Some m
    method_there = ap (slice_get at.linked.now.methods) (sym number_is) ∙ there

    kind_is : option_map kind_of (name_of_number at.linked.now h.method.frame.method).descriptor.return_type ≡ m.result
    kind_is =
        let l = at.linked.now in
        let i = h.method.on.beside.linked in
        let n = h.method.frame.method in
        ap (λ x. option_map kind_of x.descriptor.return_type) (name_is l i n m method_there)
        ∙ sym (links l i n m method_there).result

    row_leads : Leads h.method.on step_thread (λ w. by (place h.method w) (result_of op m.result (slice_get stack 0)) (hands (place h.method w) f))
    row_leads w q =
        let o = place h.method w in
        row_is h w q
        ∙ ap (row o) h.is
        ∙ row_result o op f stack refl
        ∙ ap (λ k. by o (result_of op k (slice_get stack 0)) (hands o f)) kind_is

    result_held : (x : Option Value) → result_of op m.result (slice_get stack 0) ≡ Ok x → HoldsResult content at old x
    result_held None e = tt
    result_held (Some v) e = let k = of_top op m.result (slice_get stack 0) v e in λ q a. operand_held h.method k.type k.is q (subst (Among q) k.same a)

    pub returns_to : {k : Option ValueKind} → k ≡ m.result → {r : Result (Option Value) Refusal} → r ≡ result_of op k (slice_get stack 0)
        → ReturnsTo content at old r
    returns_to k {r} e = ends r (sym (e ∙ ap (λ x. result_of op x (slice_get stack 0)) k))
      where
        ends : (x : Result (Option Value) Refusal) → result_of op m.result (slice_get stack 0) ≡ x → ReturnsTo content at old x
        ends (Ok x) is = record {
          step = step_is h.method (λ o. hands o f x) (λ w q. row_leads w q ∙ ap (λ y. by (place h.method w) y (hands (place h.method w) f)) is);
          held = result_held x is;
        }
        ends (Err x) is = is_refused h.method x (λ w q. row_leads w q ∙ ap (λ y. by (place h.method w) y (hands (place h.method w) f)) is)

-- whatever two frames are on top, the call left the thread so
abbrev pub Leaving : Result (Unit {0}) Halt → Option Value → held.Thread → held.Thread → Type 0
Leaving result x d t = (f : FrameView) (b : StackFrame) (below : List StackFrame) (r : ThreadRest) → Stands d (Method f ∷ b ∷ below) r
    → Left result t x f b below r

-- the model takes a result as the machine does
renamed_result : (f : ℕ → ℕ) (x : Option Value) (s : List Value) → with_result (option_map (rename f) x) (map (rename f) s) ≡ map (rename f) (with_result x s)
renamed_result f None s = refl
renamed_result f (Some v) s = refl

-- the caller takes it, or it does not fit
abbrev taken_by : World → ℕ → Thread → (ℕ → ℕ) → Option Value → LinkedView → FrameView → List Frame → Bool → Next
taken_by w number t f x l u below room = elim room [
  | true ↦ goes (with_frames w number t (rename_frame f (frame_part l (Method (taken u x))) ∷ below))
  | false ↦ faults Overflow
]

returned_below : (w : World) (number : ℕ) (t : Thread) (f : ℕ → ℕ) (x : Option Value) (l : LinkedView) (u : FrameView) (below : List Frame)
    → returned_to w number t (option_map (rename f) x) (rename_frame f (frame_part l (Method u)) ∷ below) ≡ taken_by w number t f x l u below (takes u x)
returned_below w number t f x l u below =
    ap (λ s. elim (nat_le (units s) u.activation.max_stack) as (λ _. Next) [
      | true ↦ goes (with_frames w number t
          (method_frame (name_of_number l u.method) (moved_on (rename_activation f u.activation) s) (option_map f u.monitor) ∷ below))
      | false ↦ faults Overflow
    ]) (renamed_result f x u.activation.stack)
    ∙ ap (λ n. taken_by w number t f x l u below (nat_le n u.activation.max_stack)) (units_renamed f (with_result x u.activation.stack))

abbrev refs_of : Option Value → List ℕ
refs_of None = []
refs_of (Some v) = refs v

taken_refs : (L M B : List ℕ) (x : Option Value) (s : List Value) (q : ℕ) → Among q (((L ++ stack_shape.refs (with_result x s)) ++ M) ++ B)
    → Among q (refs_of x) ⊎ Among q (((L ++ stack_shape.refs s) ++ M) ++ B)
taken_refs L M B None s q a = inr a
taken_refs L M B (Some v) s q a = elim (among_split q ((L ++ (refs v ++ stack_shape.refs s)) ++ M) B a) [
  | inr b ↦ inr (among_right q ((L ++ stack_shape.refs s) ++ M) B b)
  | inl b ↦ elim (among_split q (L ++ (refs v ++ stack_shape.refs s)) M b) [
    | inr d ↦ inr (among_left q ((L ++ stack_shape.refs s) ++ M) B (among_right q (L ++ stack_shape.refs s) M d))
    | inl d ↦ elim (among_split q L (refs v ++ stack_shape.refs s) d) [
      | inl e ↦ inr (among_left q ((L ++ stack_shape.refs s) ++ M) B (among_left q (L ++ stack_shape.refs s) M (among_left q L (stack_shape.refs s) e)))
      | inr e ↦ elim (among_split q (refs v) (stack_shape.refs s) e) [
        | inl g ↦ inl g
        | inr g ↦ inr (among_left q ((L ++ stack_shape.refs s) ++ M) B (among_left q (L ++ stack_shape.refs s) M (among_right q L (stack_shape.refs s) g)))
      ]
    ]
  ]
]

module _ {H : Type 0} {content : H → Content ClassId} {at : At} {old : State H} (h : InMethod content at old) (x : Option Value)
    (holds : HoldsResult content at old x) where
  abbrev g : ℕ → ℕ
  g = name_of (content old.heap)

  -- the model returns to the frames below
  abbrev handing : World → ℕ → Thread → Next
  handing = in_method (λ here. returned_to here.world here.number here.thread (option_map (rename g) x) here.below)

  handed_is : Leads h.on handing (λ w. returned_to w (at.index + 1) (model h.on) (option_map (rename g) x) (lower h.on h.below))
  handed_is w m = refl

  result_inside : (q : ℕ) → Among q (refs_of x) → Among q (places (parts_at content at old))
  result_inside q a = of x holds a
    where
      of : (y : Option Value) → HoldsResult content at old y → Among q (refs_of y) → Among q (places (parts_at content at old))
      of None k a = absurd a
      of (Some v) k a = k q a

  module _ {d : held.Thread} {n : ℕ} (got : d ≡ slice_index_or old.threads.items at.index d) (count : n ≡ vec_len d.frames) where
    -- the last frame
    pub last_returns : {new : State H} → n < 2 → Does content at old (Ok Done) new (λ w number t. goes (ended_as w number t returned))
        → Does content at old (Ok Done) new handing
    last_returns few done =
        let none : h.below ≡ [] = few_frames (read h.on got) count (omega arith) in
        does_as h.on (λ w m. m)
        (λ w m. handed_is w m ∙ ap (λ fs. returned_to w (at.index + 1) (model h.on) (option_map (rename g) x) (lower h.on fs)) none) done

    -- a frame is below
    module _ (many : 2 ≤ n) where
      pub below : HasTwo (Method h.frame ∷ h.below)
      below = two_frames (read h.on got) count (omega arith)

      abbrev pub below_is : h.below ≡ below.next ∷ below.rest
      below_is = ap tail_of below.is

      abbrev pub on_two : OnThread content at old (Method h.frame ∷ below.next ∷ below.rest) None
      on_two = as_frames h.on (ap (λ x. Method h.frame ∷ x) below_is)

      two_return : (w : World) → Matches (parts_at content at old) w → handing w (at.index + 1) (model on_two) ≡ returned_to w (at.index + 1)
          (model on_two) (option_map (rename g) x) (map (rename_frame (name_of (content old.heap))) (map (frame_part at.linked.now) (below.next ∷ below.rest)))
      two_return w m =
          let f = rename_frame (name_of (content old.heap)) in
          let y : List StackFrame → Thread =
          λ fs. rename_thread (name_of (content old.heap)) (part_of at.linked.now (Method h.frame ∷ fs) (running h.on.object None)) in
          let v = option_map (rename g) x in
          subst (λ fs. handing w (at.index + 1) (y fs) ≡ returned_to w (at.index + 1) (y fs) v (map f (map (frame_part at.linked.now) fs))) below_is
          (handed_is w m)

      module _ {e : held.Thread} (t : held.Thread) (again : e ≡ slice_index_or old.threads.items at.index e) where
        pub returns_below : Leaving (Ok tt) x e t → Does content at old (Ok Done) (with_thread_at old at.index t) handing
        returns_below leaving = by below.next on_two two_return (leaving h.frame below.next below.rest _ (read on_two again))
          where
            by : (b : StackFrame) (k : OnThread content at old (Method h.frame ∷ b ∷ below.rest) None) → ((w : World) → Matches
                (parts_at content at old) w → handing w (at.index + 1) (model k) ≡ returned_to w (at.index + 1) (model k) (option_map (rename g) x)
                (map (rename_frame (name_of (content old.heap))) (map (frame_part at.linked.now) (b ∷ below.rest)))) → Left
                (Ok tt) t x h.frame b below.rest (running k.object None) → Does content at old (Ok Done) (with_thread_at old at.index t) handing
            by (Initialization class stage) k is left =
                thread.goes k left (without_top (part_here k)) (λ n a. elim (part_refs at.linked.now (Initialization class stage ∷ below.rest) None n a) [
                  | inl z ↦ absurd z
                  | inr z ↦ held_frames k n (among_right n (refs_frame (frame_part at.linked.now (Method h.frame)))
                      (frames_shape.refs (map (frame_part at.linked.now) (Initialization class stage ∷ below.rest))) z)
                ]) is
            by Entry k is left =
                thread.goes k left (without_top (part_here k)) (λ n a. elim (part_refs at.linked.now (Entry ∷ below.rest) None n a) [
                  | inl z ↦ absurd z
                  | inr z ↦ held_frames k n (among_right n (refs_frame (frame_part at.linked.now (Method h.frame)))
                      (frames_shape.refs (map (frame_part at.linked.now) (Entry ∷ below.rest))) z)
                ]) is
            by (Method u) k is left =
                let l = at.linked.now in
                let r : PartRuns l (Method u ∷ below.rest) (running k.object None) = without_top (part_here k) in
                thread.goes k left.1 (with_top {g = Method (taken u x)} r.runs.frames.0 r)
                (λ n a. elim (part_refs l (Method (taken u x) ∷ below.rest) None n a) [
                  | inl z ↦ absurd z
                  | inr z ↦ elim (taken_refs (locals_shape.refs u.activation.locals) (optional_number_shape.refs u.monitor)
                      (frames_shape.refs (map (frame_part l) below.rest)) x u.activation.stack n z) [
                        | inl v ↦ result_inside n v
                        | inr v ↦ held_frames k n (among_right n (refs_frame (frame_part l (Method h.frame)))
                            (frames_shape.refs (map (frame_part l) (Method u ∷ below.rest))) v)
                      ]
                ])
                (λ w m.
                is w m
                ∙ returned_below w (at.index + 1) (model k) g x l u (map (rename_frame g) (map (frame_part l) below.rest))
                ∙ ap (taken_by w (at.index + 1) (model k) g x l u (map (rename_frame g) (map (frame_part l) below.rest))) left.0)

        stays_there : {halt : Halt} → Leaving (Err halt) x e t → Does content at old (Err halt) (with_thread_at old at.index t) handing
        stays_there {halt} leaving = by halt below.next on_two two_return (leaving h.frame below.next below.rest _ (read on_two again))
          where
            by : (why : Halt) (b : StackFrame) (k : OnThread content at old (Method h.frame ∷ b ∷ below.rest) None) → ((w : World) → Matches
                (parts_at content at old) w → handing w (at.index + 1) (model k) ≡ returned_to w (at.index + 1) (model k) (option_map (rename g) x)
                (map (rename_frame (name_of (content old.heap))) (map (frame_part at.linked.now) (b ∷ below.rest)))) → Left
                (Err why) t x h.frame b below.rest (running k.object None) → Does content at old (Err why) (with_thread_at old at.index t) handing
            by OutOfMemory b k is left = does k (runs_with k left (part_here k)) (λ w m. same_matches k left w m)
            by (Stopped s) (Initialization class stage) k is left = absurd left
            by (Stopped s) Entry k is left = absurd left
            by (Stopped s) (Method u) k is left =
                let l = at.linked.now in
                does k (runs_with k left.2 (part_here k)) (λ w m.
                subst (Ended (Err (Stopped s)) (parts_at content at (with_thread_at old at.index t)) w) (sym
                (is w m
                ∙ returned_below w (at.index + 1) (model k) g x l u (map (rename_frame g) (map (frame_part l) below.rest))
                ∙ ap (taken_by w (at.index + 1) (model k) g x l u (map (rename_frame g) (map (frame_part l) below.rest))) left.0))
                (sym left.1, same_matches k left.2 w m))

        pub handed_on : (result : Result (Unit {0}) Halt) → Leaving result x e t
            → Does content at old (made_step result) (with_thread_at old at.index t) handing
        handed_on (Ok done) leaving = returns_below leaving
        handed_on (Err halt) leaving = stays_there leaving
