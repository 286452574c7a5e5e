-- The entry of a thread, where it stands.
use Rattle.std.proofs.Common.{◌≡◌, ℕ, ◌+◌, ◌<◌, arith, List, [], ◌∷◌, ◌++◌, Option, Some, None, Bool, true, false, refl, sym, ap, ◌∙◌, subst, inl}
use Rattle.std.proofs.Common.{inr, drop, length}
use Rattle.std.specs.Prelude.{map, option_map, codes, slice_get, Result, Ok, Err}
use Rattle.jm_program.specs.Flags.{is_abstract}
use Rattle.jm_program.specs.declared.class.ClassParts.{ClassParts}
use Rattle.jm_program.specs.declared.class.Method.{Method as Declared}
use Rattle.jm_program.specs.declared.code.Code.{Code}
use Rattle.jm_program.specs.declared.descriptor.FieldType.{FieldType}
use Rattle.jm_program.specs.declared.descriptor.MethodDescriptor.{MethodDescriptor}
use Rattle.jm_builtins.specs.List.{the_builtins}
use Rattle.jm_frames.specs.FrameView.{FrameView}
use Rattle.jm_values.specs.Content.{Content, name_of}
use Rattle.jm_values.specs.Rename.{rename_activation, locals_shape}
use Rattle.jm_values.specs.Shape.{Among}
use Rattle.jm_values.specs.declared.fault.TagFault.TheVariants.{WrongKind}
use Rattle.jm_values.specs.declared.value.Value.TheVariants.{Ref}
use Rattle.jm_values.proofs.Among.{among_split}
use Rattle.jm_values.proofs.Lists.{got_within}
use Rattle.jm_world.specs.Classes.{FoundMethod, name_of_method}
use Rattle.jm_world.specs.Frames.{frames_shape, method_frame, optional_number_shape}
use Rattle.jm_world.specs.Here.{with_frames}
use Rattle.jm_world.specs.Invocation.{activation_of, class_of, locals_of, monitor_of}
use Rattle.jm_world.specs.Monitors.{enter_if}
use Rattle.jm_world.specs.Next as next
use Rattle.jm_world.specs.Next.{Next, throw, faults}
use Rattle.jm_world.specs.Resolution.{select}
use Rattle.jm_world.specs.Stepping.{step_thread, enter_code, enter_found, enter_thread, run_type}
use Rattle.jm_world.specs.World.{World, Thread, held_shape, returned}
use Rattle.jm_world.specs.declared.stop.Stop.TheVariants as why
use Rattle.jm_world.proofs.FoundAgain.{stands_there}
use Rattle.jm_state.specs.Arguments.{beginning}
use Rattle.jm_heap.specs.declared.class_id.ClassId.{ClassId}
use Rattle.jm_linked.specs.Links.{IsMethodOf, IsSelected, class_name_of}
use Rattle.jm_linked.specs.Methods.{all_methods, selector_of}
use Rattle.jm_linked.specs.Tables.{all_names}
use Rattle.jm_linked.specs.declared.instruction.MemberNumber.{MemberNumber}
use Rattle.jm_linked.specs.declared.method.Selected.{Selected}
use Rattle.jm_linked.specs.declared.method.Selected.TheVariants as selected
use Rattle.jm_linked.proofs.HeldTypes.{named_at}
use Rattle.jm_tables.specs.Numbering as numbering
use Rattle.jm_state.specs.Parts.{named_type, parts, frame_part}
use Rattle.jm_state.specs.declared.halt.Halt.{Halt}
use Rattle.jm_state.specs.declared.halt.Halt.TheVariants.{Stopped}
use Rattle.jm_state.specs.declared.halt.StepEnd.{StepEnd}
use Rattle.jm_state.specs.declared.halt.StepEnd.TheVariants.{Done}
use Rattle.jm_state.specs.declared.state.State.{State}
use Rattle.jm_state.specs.declared.thread.StackFrame.{StackFrame}
use Rattle.jm_state.specs.declared.thread.StackFrame.TheVariants.{Entry, Method}
use Rattle.jm_state.specs.declared.thread.Thread as held
use Rattle.jm_interp.specs.declared.at.At.{At}
use Rattle.jm_interp.specs.At.{HoldsAll, OnThread, OnFrames, Does, Steps}
use Rattle.jm_interp.specs.Calls.{HasParameters, IsCalled, callee_with}
use Rattle.jm_interp.specs.Ending.{ended_as}
use Rattle.jm_interp.specs.Entering.{BeginsWith, BeginsCode, BeginsWithoutCode, BeginsSelected, HasLocals}
use Rattle.jm_interp.specs.Invoking.{IsInstanceMethod}
use Rattle.jm_interp.specs.Locking.{OnlyMonitors}
use Rattle.jm_interp.specs.Standing.{Stands, running}
use Rattle.jm_interp.proofs.Called.{padded_refs, arguments_refs, activation_begins, method_named_is}
use Rattle.jm_interp.proofs.Entered.{IsNotMade, enters, then_made, then_not, then_stands}
use Rattle.jm_interp.proofs.InstanceCalls.{own, found_code, found_called, concrete, room, monitor_is, monitor_among}
use Rattle.jm_interp.proofs.Objects.{IsObject}
use Rattle.jm_interp.proofs.Objects as objects
use Rattle.jm_interp.proofs.OnThread as thread
use Rattle.jm_interp.proofs.OnThread.{Leads, model, lower, with_thread_at, read, thread_there, does, does_as, stops, part_here, held_object, held_frames}
use Rattle.jm_interp.proofs.SelectedCalls.{its_descriptor, selected_declares, selected_instance, nothing, without_code, with_code}
use Rattle.jm_interp.proofs.Threads.{part_refs, with_top}
use Rattle.jm_interp.proofs.Unwound.{names_class}

-- `run()V` has a number of its own, since the built-in classes come first
pub run_selector : (program : List ClassParts) → selector_of program (codes "run") run_type ≡ Some 14
unfolding selector_of all_methods
run_selector program = refl

module _ {H : Type 0} {content : H → Content ClassId} {at : At} {old : State H} {object : ℕ} {found : Option FoundMethod}
    (b : BeginsWith content at old object found) where
  abbrev k : ℕ
  k = name_of (content old.heap) object

  pub framed : OnFrames content at old
  framed = record { frames = _; pending = _; on = b.on }

  -- what comes beside each world
  pub begins : Leads b.on step_thread (λ w. enter_found w (at.index + 1) (model b.on) (lower b.on b.below) k found)
  begins w m = b.step w (model b.on) m (thread_there b.on w m)

  -- nothing was found
  pub throws_none : found ≡ None → {name : List ℕ} → name ≡ codes "java/lang/AbstractMethodError" → {result : Result StepEnd Halt} {new : State H}
      → Does content at old result new (λ w number t. throw w number t name) → Steps content at old result new
  throws_none none named done = does_as b.on (λ w m. m) (λ w m.
      begins w m
      ∙ ap (enter_found w (at.index + 1) (model b.on) (lower b.on b.below) k) none
      ∙ ap (throw w (at.index + 1) (model b.on)) (sym named)) done

-- a method without code
module _ {H : Type 0} {content : H → Content ClassId} {at : At} {old : State H} {n : MemberNumber} (b : BeginsWithoutCode content at old n) {method : Declared}
    (is : (found : FoundMethod) → IsMethodOf at.linked.now.program n found → Some method ≡ Some found.method) where
  abbrev by_flag : World → Bool → Next
  by_flag w x = elim x [
    | true ↦ throw w (at.index + 1) (model b.begins.on) (codes "java/lang/AbstractMethodError")
    | false ↦ enter_code w (at.index + 1) (model b.begins.on) (lower b.begins.on b.begins.below) b.found (k b.begins) b.found.method.code
  ]

  its_flag : is_abstract method.flags ≡ is_abstract b.found.method.flags
  its_flag =
      let some = is b.found b.declared in
      let same : method ≡ b.found.method = cc in
      ap (λ (m : Declared). is_abstract m.flags) same

  pub throws_abstract : is_abstract method.flags ≡ true → {name : List ℕ} → name ≡ codes "java/lang/AbstractMethodError" → {result : Result StepEnd Halt}
      {new : State H} → Does content at old result new (λ w number t. throw w number t name) → Steps content at old result new
  throws_abstract flag named done = does_as b.begins.on (λ w m. m) (λ w m.
      begins b.begins w m
      ∙ ap (by_flag w) (sym its_flag ∙ flag)
      ∙ ap (throw w (at.index + 1) (model b.begins.on)) (sym named)) done

  pub ends_at_once : is_abstract method.flags ≡ false → {new : State H} → Does content at old (Ok Done) new
      (λ w number t. next.goes (ended_as w number t returned)) → Steps content at old (Ok Done) new
  ends_at_once flag done = does_as b.begins.on (λ w m. m) (λ w m.
      begins b.begins w m
      ∙ ap (by_flag w) (sym its_flag ∙ flag)
      ∙ ap (enter_code w (at.index + 1) (model b.begins.on) (lower b.begins.on b.begins.below) b.found (k b.begins)) b.codeless) done

-- a method with code
module _ {H : Type 0} {content : H → Content ClassId} {at : At} {old : State H} {object number : ℕ} (b : BeginsCode content at old object number)
    {parameters : List FieldType} (p : HasParameters at.linked.now number parameters) where
  abbrev h : OnThread content at old (Entry ∷ b.begins.below) None
  h = b.begins.on

  abbrev code : Code
  code = (own h.beside.linked p b.coded b.instance.there).code

  abbrev is : IsCalled at.linked.now number b.found code
  is = found_called h.beside.linked p b.coded b.instance.there

  -- it has room for the thread's object
  pub has_locals : HasLocals at.linked.now number 1
  has_locals =
      let fits = room h.beside.linked p b.coded b.instance.there b.instance.instance in
      record { method = p.method; method_is = p.method_is; fits = omega arith }

  pub its_method : slice_get at.linked.now.methods number ≡ Some is.method
  its_method = is.method_is

  module _ {monitor : Option ℕ} (m : monitor ≡ monitor_of p.declared object) where
    abbrev called : FrameView
    called = beginning (callee_with number is.method monitor) (Ref object ∷ [])

    abbrev entered : Option ℕ
    entered = option_map (name_of (content old.heap)) monitor

    entered_is : entered ≡ monitor_of b.found.method (k b.begins)
    entered_is =
        ap (option_map (name_of (content old.heap))) m ∙ monitor_is h.beside.linked p b.coded b.instance.there (name_of (content old.heap)) object

    -- what follows once the monitor is entered: the frame stands in the place of the entry frame
    abbrev stands_then : World → ℕ → Thread → Next
    stands_then v number t = next.goes (with_frames v number t (method_frame (name_of_method b.found) (activation_of code (Ref (k b.begins) ∷ [])) entered
        ∷ drop 1 t.frames))

    step_is : Leads h step_thread (λ w. enter_if w (at.index + 1) entered (λ v. stands_then v (at.index + 1) (model h)))
    step_is w x =
        let number = at.index + 1 in
        let t = model h in
        let below = lower h b.begins.below in
        let linked = h.beside.linked in
        begins b.begins w x
        ∙ ap (λ f. elim f as (λ _. Next) [
          | true ↦ throw w number t (codes "java/lang/AbstractMethodError")
          | false ↦ enter_code w number t below b.found (k b.begins) b.found.method.code
        ]) (concrete linked p b.coded b.instance.there)
        ∙ ap (enter_code w number t below b.found (k b.begins)) (found_code linked p b.coded b.instance.there)
        ∙ ap (λ o. enter_if w number o (λ v. next.goes (with_frames v number t (method_frame (name_of_method b.found)
        (activation_of code (Ref (k b.begins) ∷ [])) o ∷ below)))) (sym entered_is)

    module _ {own_monitor : Option ℕ} (same : own_monitor ≡ monitor) where
      -- what it enters is the thread's object
      among_own : (q : ℕ) → Among q (optional_number_shape.refs monitor) → Among q (optional_number_shape.refs h.object.place)
      among_own q a =
          let it : q ≡ object = monitor_among p.declared object q (subst (λ o. Among q (optional_number_shape.refs o)) m a) in
          subst (λ o. Among q (optional_number_shape.refs o)) (sym b.begins.own) (inl it)

      pub enters_held : HoldsAll content at old (optional_number_shape.refs own_monitor)
      enters_held q a = held_object h q (among_own q (subst (λ o. Among q (optional_number_shape.refs o)) same a))

      abbrev pub enters_own : Option ℕ → World → ℕ → Thread → Next
      enters_own o = enters (option_map (name_of (content old.heap)) o)

      module _ {mid : State H} (only : OnlyMonitors old mid) where
        pub own_enters : {result : Result StepEnd Halt} → Does content at old result mid (enters_own own_monitor)
            → Does content at old result mid (enters_own monitor)
        own_enters {result} done = subst (λ o. Does content at old result mid (enters_own o)) same done

        -- it was not entered
        pub enters_not : {result : Result StepEnd Halt} → IsNotMade result → Does content at old result mid (enters_own own_monitor)
            → Steps content at old result mid
        enters_not not done = does_as h (λ w x. x) step_is (then_not h entered stands_then not (own_enters done))

        abbrev pub entered_in : Does content at old (Ok Done) mid (enters_own own_monitor) → OnThread content at mid (Entry ∷ b.begins.below) None
        entered_in done = then_stands h entered only (own_enters done)

        -- it was, and `run` begins
        module _ (done : Does content at old (Ok Done) mid (enters_own own_monitor)) where
          abbrev there : OnThread content at mid (Entry ∷ b.begins.below) None
          there = entered_in done

          abbrev names : ℕ → ℕ
          names = name_of (content mid.heap)

          inside : HoldsAll content at mid (held_shape.refs (None, map (frame_part at.linked.now) (Method called ∷ b.begins.below)))
          inside q a =
              let l = at.linked.now in
              let locals = locals_shape.refs called.activation.locals in
              let below = frames_shape.refs (map (frame_part l) b.begins.below) in
              elim (part_refs l (Method called ∷ b.begins.below) None q a) [
                | inl z ↦ absurd z
                | inr z ↦ elim (among_split q ((locals ++ []) ++ optional_number_shape.refs monitor) below z) [
                  | inl y ↦ elim (among_split q (locals ++ []) (optional_number_shape.refs monitor) y) [
                    | inl x ↦ elim (among_split q locals [] x) [
                      | inl v ↦ elim (arguments_refs (Ref object ∷ []) q (padded_refs is.method.max_locals (locals_of (Ref object ∷ [])) q v)) [
                        | inl it ↦ held_object there q (subst (λ o. Among q (optional_number_shape.refs o)) (sym b.begins.own) (inl it))
                        | inr v ↦ absurd v
                      ]
                      | inr v ↦ absurd v
                    ]
                    | inr x ↦ held_object there q (among_own q x)
                  ]
                  | inr y ↦ held_frames there q y
                ]
              ]

          pub begins_so : {t : held.Thread} {frame : FrameView} → frame ≡ called → Stands t (Method frame ∷ b.begins.below) (running h.object None)
              → Steps content at old (Ok Done) (with_thread_at mid at.index t)
          begins_so {t} made stands =
              let here = subst (λ f. Stands t (Method f ∷ b.begins.below) (running h.object None)) made stands in
              let part = part_here there in
              let monitor_named : option_map names monitor ≡ entered = ap (λ (s : State H). option_map (name_of (content s.heap)) monitor) only in
              let object_named : k b.begins ≡ names object = sym (ap (λ (s : State H). name_of (content s.heap) object) only) in
              let begun : activation_of code (Ref (k b.begins) ∷ []) ≡ rename_activation names called.activation =
              ap (λ j. activation_of code (Ref j ∷ [])) object_named ∙ activation_begins is monitor names (Ref object ∷ []) in
              does_as h (λ w x. x) step_is (then_made h entered stands_then (own_enters done)
              (thread.goes there here (with_top {f = Entry} {g = Method called} (got_within at.linked.now.methods number is.method is.method_is) part) inside
              (λ w x i. next.goes (with_frames w (at.index + 1) (model there)
              (method_frame (sym (method_named_is is) i) (begun i) (sym monitor_named i) ∷ lower there b.begins.below)))))

-- what is selected for a thread's object
module _ {H : Type 0} {content : H → Content ClassId} {at : At} {old : State H} {below : List StackFrame}
    (h : OnThread content at old (Entry ∷ below) None) where
  by_object : World → Option ℕ → Next
  by_object w o = enter_thread w (at.index + 1) (model h) (lower h below) o

  -- it has none
  pub no_object : h.object.place ≡ None → Steps content at old (Err (Stopped (why.TagFault WrongKind))) old
  unfolding by_object
  no_object none = stops h (λ w m. ap (λ o. by_object w (option_map (name_of (content old.heap)) o)) none)

  module _ {object : ℕ} (own : h.object.place ≡ Some object) where
    pub its_object : IsObject h object
    its_object = objects.object_of h object (held_object h object (subst (λ o. Among object (optional_number_shape.refs o)) (sym own) (inl refl)))

    abbrev class : List ℕ
    class = class_of (named_type at.linked.now.program its_object.object.type)

    abbrev what : Option FoundMethod
    what = select at.linked.now.program class (codes "run") run_type

    its_run : BeginsWith content at old object what
    unfolding by_object parts
    its_run = record {
      below = below;
      on = h;
      own = own;
      step = λ w t m there.
          let f = name_of (content old.heap) in
          let number = at.index + 1 in
          subst (λ x. step_thread w number x ≡ enter_found w number x (drop 1 x.frames) (f object) what) (sym (thread.model_is h w m t there))
          (ap (λ o. by_object w (option_map f o)) own
          ∙ ap (λ o. elim o as (λ _. Next) [
            | None ↦ faults WrongKind
            | Some x ↦ enter_found w number (model h) (lower h below) (f object) (select w.program (class_of x.type) (codes "run") run_type)
          ]) (its_object.in_world w m)
          ∙ ap (λ p. enter_found w number (model h) (lower h below) (f object) (select p class (codes "run") run_type)) (sym m.program));
    }

    its_instance : (found : FoundMethod) → what ≡ Some found → IsInstanceMethod at.linked.now found []
    its_instance found e =
        let declares = selected_declares at.linked.now.program class (codes "run") run_type found e in
        record {
          there = stands_there at.linked.now.program (codes "run") run_type found declares;
          instance = selected_instance at.linked.now.program class (codes "run") run_type found e;
          parameters_are = ap (λ (d : MethodDescriptor). d.parameters) (its_descriptor at.linked.now.program (codes "run") run_type found declares);
        }

    pub begins_selected : {number : ℕ} {chosen : Selected} → class_name_of at.linked.now.program number ≡ class
        → number < length the_builtins + length at.linked.now.program
        → ((name : List ℕ) (t : MethodDescriptor) → selector_of at.linked.now.program name t ≡ Some 14
        → number < length (all_names at.linked.now.program)
        → IsSelected at.linked.now (select at.linked.now.program (numbering.name_of (all_names at.linked.now.program) number) name t) chosen)
        → BeginsSelected content at old object chosen
    begins_selected {number} {chosen} named within is =
        let program = at.linked.now.program in
        let there = named_at program number (class_name_of program number) (names_class program number within) in
        record {
          found = what;
          begins = its_run;
          is = subst (λ c. IsSelected at.linked.now (select program c (codes "run") run_type) chosen) (there.0 ∙ named)
              (is (codes "run") run_type (run_selector program) there.1);
          instance = its_instance;
        }

module _ {H : Type 0} {content : H → Content ClassId} {at : At} {old : State H} {chosen : Selected} {object : ℕ}
    (d : BeginsSelected content at old object chosen) where
  pub none_found : chosen ≡ selected.Nothing → d.found ≡ None
  none_found e = nothing at.linked.now d.found (subst (IsSelected at.linked.now d.found) e d.is)

  abbrev begins_some : {f : FoundMethod} → d.found ≡ Some f → BeginsWith content at old object (Some f)
  begins_some e = subst (BeginsWith content at old object) e d.begins

  pub begins_without_code : {j : ℕ} {n : MemberNumber} → chosen ≡ selected.WithoutCode j
      → ((found : FoundMethod) → slice_get (all_methods at.linked.now.program) j ≡ Some found → IsMethodOf at.linked.now.program n found)
      → BeginsWithoutCode content at old n
  begins_without_code {j} e declared =
      let f = without_code at.linked.now d.found j (subst (IsSelected at.linked.now d.found) e d.is) in
      record { object = object; found = f.0; begins = begins_some f.1; declared = declared f.0 f.3; codeless = f.2 }

  pub begins_code : {j : ℕ} → chosen ≡ selected.Coded j → BeginsCode content at old object j
  begins_code {j} e =
      let f = with_code at.linked.now d.found j (subst (IsSelected at.linked.now d.found) e d.is) in
      record { found = f.0; begins = begins_some f.1; instance = d.instance f.0 f.1; coded = f.2 }
