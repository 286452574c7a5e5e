-- The initializer of a class, and its call, where it stands.
use Rattle.std.proofs.Common.{◌≡◌, ℕ, ◌<◌, ◌≤◌, List, [], ◌∷◌, Option, Some, None, Bor, false, refl, sym, ap, ◌∙◌, subst, inl, inr, ◌++◌, drop, length}
use Rattle.std.proofs.lemmas.Option.{slice_get_past, same_Some}
use Rattle.std.specs.List.{HoldsAt}
use Rattle.std.specs.Prelude.{MatchOption, option_map, is_some, slice_get, slice_index_or, vec_len, Result, Ok, Err}
use Rattle.jm_program.specs.declared.class.ClassParts.{ClassParts}
use Rattle.jm_program.specs.declared.class.Method.{Method as Declared}
use Rattle.jm_program.specs.declared.code.Code.{Code}
use Rattle.jm_frames.specs.FrameView.{FrameView}
use Rattle.jm_values.specs.Content.{Content, name_of}
use Rattle.jm_values.specs.Rename.{locals_shape}
use Rattle.jm_values.specs.Shape.{Among}
use Rattle.jm_values.specs.declared.fault.TagFault.TheVariants.{WrongKind}
use Rattle.jm_values.proofs.Among.{among_split}
use Rattle.jm_values.proofs.Lists.{get_at, got_within}
use Rattle.jm_world.specs.Classes.{FoundMethod, name_of_method}
use Rattle.jm_world.specs.Frames.{Frame, method_frame, refs_frame, rename_frame}
use Rattle.jm_world.specs.Initialization.{call_initializer}
use Rattle.jm_world.specs.Invocation.{activation_of, padded}
use Rattle.jm_world.specs.declared.stage.Stage.{Stage}
use Rattle.jm_world.specs.declared.stage.Stage.TheVariants as stage
use Rattle.jm_world.specs.declared.stop.Stop.TheVariants as why
use Rattle.jm_state.specs.Arguments.{beginning}
use Rattle.jm_heap.specs.declared.class_id.ClassId.{ClassId}
use Rattle.jm_linked.specs.Links.{LinkedView, IsLinked, IsMethodOf, class_numbered, member_name, name_among, name_in_class, name_of_number}
use Rattle.jm_linked.specs.Tables.{IsInitializer}
use Rattle.jm_linked.specs.declared.instruction.MemberNumber.{MemberNumber}
use Rattle.jm_state.specs.Parts.{frame_part, program_class_name}
use Rattle.jm_state.specs.declared.halt.Halt.{Halt}
use Rattle.jm_state.specs.declared.halt.Halt.TheVariants.{Stopped}
use Rattle.jm_state.specs.declared.halt.StepEnd.{StepEnd}
use Rattle.jm_state.specs.declared.halt.StepEnd.TheVariants.{Done}
use Rattle.jm_state.specs.declared.state.State.{State}
use Rattle.jm_state.specs.declared.thread.StackFrame.{StackFrame}
use Rattle.jm_state.specs.declared.thread.StackFrame.TheVariants.{Method, Initialization}
use Rattle.jm_state.specs.declared.thread.Thread as held
use Rattle.jm_interp.specs.declared.at.At.{At}
use Rattle.jm_interp.specs.At.{OnThread, Does, Steps}
use Rattle.jm_interp.specs.Calls.{IsCalled, IsCodeOf, callee_of}
use Rattle.jm_interp.specs.Standing.{Stands, running}
use Rattle.jm_interp.proofs.Called.{padded_renamed, padded_refs}
use Rattle.jm_interp.proofs.Initialized.{class_of, begun, codeless, initializer_called}
use Rattle.jm_interp.proofs.OnThread.{with_thread_at}
use Rattle.jm_interp.proofs.StaticCalls.{same_got}
use Rattle.jm_interp.proofs.Superclasses.{own_numbered}

-- what stands in the table of initializers at the number of a class
pub read_there : (xs : List (Option ℕ)) (k : ℕ) (r : Option (Bor (Option ℕ)))
    → MatchOption r (length xs ≤ k) (λ x. (k < length xs) × HoldsAt (λ y. x.now ≡ y) xs k)
    → option_map (λ x. x.now) r ≡ slice_get xs k
read_there xs k None past = sym (slice_get_past xs k past)
read_there xs k (Some x) there = sym (get_at xs k x.now there.0 (there.1 x.now))

module _ {l : LinkedView} (linked : IsLinked l) {xs : List (Option ℕ)} (these : xs ≡ l.tables.initializers) (class : ℕ) {r : Option (Bor (Option ℕ))}
    (there : MatchOption r (length xs ≤ class) (λ x. (class < length xs) × HoldsAt (λ y. x.now ≡ y) xs class)) {c : ClassParts}
    (at : slice_get l.program class ≡ Some c) where
  pub initializer_there : {x : Bor (Option ℕ)} → r ≡ Some x → IsInitializer c x.now
  initializer_there {x} is =
      let entry = linked.tables.initializers class c at in
      let got : Some x.now ≡ Some entry.0 =
      sym (ap (option_map (λ (y : Bor (Option ℕ)). y.now)) is) ∙ read_there xs class r there ∙ ap (λ ys. slice_get ys class) these ∙ entry.1 in
      subst (IsInitializer c) (sym (same_Some _ _ got)) entry.2

  pub some_there : r ≡ None → ⊥
  some_there is =
      let entry = linked.tables.initializers class c at in
      let bad : None ≡ Some entry.0 =
      sym (ap (option_map (λ (y : Bor (Option ℕ)). y.now)) is) ∙ read_there xs class r there ∙ ap (λ ys. slice_get ys class) these ∙ entry.1 in
      cc

-- a method that a class declares, by its number among those with code
pub record IsCoded (l : LinkedView) (number : ℕ) (found : FoundMethod) : Type 0 where
  pub code : Code
  pub code_is : found.method.code ≡ Some code
  pub called : IsCalled l number found code

pub coded : {l : LinkedView} → IsLinked l → {n : MemberNumber} {number : ℕ} → IsCodeOf l n number → {found : FoundMethod} → IsMethodOf l.program n found
    → IsCoded l number found
coded {l} linked {n} {number} k {found} is =
    let m = k.method in
    let links = linked.methods number m k.method_is in
    let class : links.class ≡ found.class = same_got (own_numbered l.program n.class m.class links.class k.class_is links.class_is) is.class in
    let method : links.method ≡ found.method =
    same_got links.method_is
    (subst (λ (c : ClassParts). slice_get c.methods m.member ≡ Some found.method) (sym class)
    (subst (λ i. slice_get found.class.methods i ≡ Some found.method) k.member_is is.method)) in
    record {
      code = links.code;
      code_is = ap (λ (x : Declared). x.code) (sym method) ∙ links.code_is;
      called = record {
        method = m;
        method_is = k.method_is;
        named = ap (λ o. name_in_class o m.member) links.class_is
            ∙ ap (member_name links.class) links.method_is
            ∙ (λ i. name_of_method (record { class = class i; method = method i }));
        max_stack = links.max_stack;
        max_locals = links.max_locals;
      };
    }

-- the frame in which it begins, in the model
abbrev pub initializer_frame : FoundMethod → Code → Frame
initializer_frame found code = method_frame (name_of_method found) (activation_of code []) None

module _ {H : Type 0} {content : H → Content ClassId} {at : At} {old : State H} {class : ℕ} {s : Stage} {below : List StackFrame}
    (h : OnThread content at old (Initialization class s ∷ below) None) {number : ℕ} {found : FoundMethod} {code : Code}
    (is : IsCalled at.linked.now number found code) where
  -- and in the machine
  abbrev pub first : FrameView
  first = beginning (callee_of number is.method) []

  abbrev names : ℕ → ℕ
  names = name_of (content old.heap)

  named_is : name_of_number at.linked.now number ≡ name_of_method found
  unfolding name_of_number
  named_is = ap (name_among at.linked.now.program) is.method_is ∙ is.named

  locals_are : padded code.max_locals [] ≡ locals_shape.rename names first.activation.locals
  locals_are = ap (λ n. padded n []) (sym is.max_locals) ∙ sym (padded_renamed names is.method.max_locals [])

  frame_is : initializer_frame found code ≡ rename_frame names (frame_part at.linked.now (Method first))
  frame_is = λ i. method_frame (sym named_is i) (record { at = 0; max_stack = sym is.max_stack i; locals = locals_are i; stack = [] }) None

  holds_nothing : (q : ℕ) → Among q (refs_frame (frame_part at.linked.now (Method first))) → ⊥
  holds_nothing q a =
      let locals = locals_shape.refs first.activation.locals in
      elim (among_split q (locals ++ []) [] a) [
        | inl x ↦ elim (among_split q locals [] x) [ inl b ↦ padded_refs is.method.max_locals [] q b | inr b ↦ b ]
        | inr x ↦ x
      ]

  pub initializer_begins : {d : held.Thread} {n : ℕ} → d ≡ slice_index_or old.threads.items at.index d → n ≡ vec_len d.frames → n < 512
      → {frame : FrameView} → frame ≡ first → {t : held.Thread}
      → Stands t (Method frame ∷ Initialization class stage.End ∷ below) (running h.object None)
      → Does content at old (Ok Done) (with_thread_at old at.index t)
      (λ w n t. call_initializer w n t (program_class_name at.linked.now.program class) (drop 1 t.frames) found (Some code))
  initializer_begins got len few {frame} made {t} stands =
      begun h stage.End (initializer_frame found code) got len {g = Method first} few
      (got_within at.linked.now.methods number is.method is.method_is) holds_nothing frame_is
      (subst (λ f. Stands t (Method f ∷ Initialization class stage.End ∷ below) (running h.object None)) made stands)

-- the initializer of the class is a method of that number
module _ {H : Type 0} {content : H → Content ClassId} {at : At} {old : State H} {class : ℕ} {below : List StackFrame}
    (h : OnThread content at old (Initialization class stage.Initializer ∷ below) None) (n : MemberNumber)
    (its : IsInitializer (class_of h).class_of (Some n.member)) (numbered : class_numbered at.linked.now.program n.class ≡ Some (class_of h).class_of) where
  abbrev found : FoundMethod
  found = record { class = (class_of h).class_of; method = its.0 }

  is_method : IsMethodOf at.linked.now.program n found
  is_method = record { class = numbered; method = its.1 }

  pub without_code : {m : Declared} → ((x : FoundMethod) → IsMethodOf at.linked.now.program n x → Some m ≡ Some x.method) → is_some m.code ≡ false
      → Steps content at old (Err (Stopped (why.TagFault WrongKind))) old
  without_code {m} same no_code =
      codeless h refl its.2 (ap (λ (x : Declared). x.code) (sym (same_Some _ _ (same found is_method))) ∙ by m.code no_code)
    where
      by : (o : Option Code) → is_some o ≡ false → o ≡ None
      by None e = refl
      by (Some code) e = cc

  pub with_code : {number : ℕ} {result : Result StepEnd Halt} {new : State H} → IsCodeOf at.linked.now n number
      → ((x : FoundMethod) (code : Code) → IsCalled at.linked.now number x code → Does content at old result new
      (λ w i t. call_initializer w i t (program_class_name at.linked.now.program class) (drop 1 t.frames) x (Some code)))
      → Steps content at old result new
  with_code k done =
      let it = coded h.beside.linked k is_method in initializer_called h refl its.2 it.code_is (done found it.code it.called)
