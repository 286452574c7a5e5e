-- A method of a print stream, where it stands.
use Rattle.std.proofs.Common.{◌≡◌, ℕ, ◌+◌, List, [], ◌∷◌, ◌++◌, Option, Some, None, Bool, true, false, refl, sym, ap, ◌∙◌, subst, inl, inr, drop}
use Rattle.std.proofs.Common.{add-one, length}
use Rattle.std.specs.Prelude.{map, option_map, nat_eq, Ok, Err, codes}
use Rattle.std.proofs.lemmas.Bool.{eqb-true}
use Rattle.std.proofs.lemmas.List.{append-nil}
use Rattle.jm_program.specs.declared.class.ClassParts.{ClassParts}
use Rattle.jm_program.specs.declared.descriptor.ElementType.TheVariants.{Class}
use Rattle.jm_program.specs.declared.instruction.symbolic.Instr.TheVariants as instr
use Rattle.jm_frames.specs.FrameView.{with_stack, gone_to}
use Rattle.jm_values.specs.Rename.{rename, refs, stack_shape, locals_shape}
use Rattle.jm_values.specs.Shape.{Among}
use Rattle.jm_values.specs.declared.value.Value.{Value}
use Rattle.jm_values.specs.declared.fault.TagFault.{TagFault}
use Rattle.jm_values.specs.declared.fault.TagFault.TheVariants.{WrongKind}
use Rattle.jm_values.proofs.Among.{among_left, among_right, among_split}
use Rattle.jm_world.specs.BuiltInMethods.{write}
use Rattle.jm_world.specs.Here.{Here, with_object}
use Rattle.jm_world.specs.Hierarchy.{up_from, is_assignable, is_subclass, dimensions_assignable}
use Rattle.jm_world.specs.Invocation.{call_found, class_of, is_of_class}
use Rattle.jm_world.specs.Next.{Next, faults, throw}
use Rattle.jm_world.specs.Objects.{Object}
use Rattle.jm_values.specs.Objects.{ObjectOf}
use Rattle.jm_world.specs.Resolution.{select, instance_along}
use Rattle.jm_builtins.specs.List.{print_stream}
use Rattle.jm_world.specs.Classes.{FoundMethod, as_class, object_class, print_stream_class}
use Rattle.jm_world.specs.Types.{ObjectType, class_type, type_of_object}
use Rattle.jm_world.specs.Matches.{places}
use Rattle.jm_world.specs.World.{World}
use Rattle.jm_values.specs.Content.{Content, name_of, serial_at, object_at}
use Rattle.jm_world.specs.Loads.{Loads}
use Rattle.jm_world.specs.Stepping.{row, step_thread}
use Rattle.jm_heap.specs.declared.class_id.ClassId.{ClassId}
use Rattle.jm_heap.specs.declared.class_id.ClassId.TheVariants.{Instance, Array}
use Rattle.jm_linked.specs.PrintStreams.{print_name, print_type}
use Rattle.jm_linked.specs.Links.{class_name_of}
use Rattle.jm_linked.specs.declared.instruction.LinkedInstr.TheVariants as linked
use Rattle.jm_linked.specs.declared.instruction.Printed.{Printed}
use Rattle.jm_linked.specs.declared.instruction.PrintMethod.{PrintMethod}
use Rattle.jm_linked.specs.declared.instruction.PrintMethod.TheVariants.{Print, Println, EndLine}
use Rattle.jm_linked.specs.Named.{named_states}
use Rattle.jm_state.specs.Parts.{parts, named_type, element_named}
use Rattle.jm_state.specs.declared.state.State.{State}
use Rattle.jm_state.specs.declared.thread.StackFrame.TheVariants.{Method}
use Rattle.jm_state.specs.declared.thread.Thread as held
use Rattle.jm_interp.specs.declared.print_operands.Printing.{Printing}
use Rattle.jm_interp.specs.declared.print_operands.Text.{Text}
use Rattle.jm_interp.specs.declared.print_operands.Text.TheVariants as text
use Rattle.jm_interp.specs.Printing.{printing_of, left_by, arguments_of, with_bytes, string_in, line_bytes, is_print_stream, TextAmong, TextGives, TextHalts}
use Rattle.jm_interp.proofs.Arguments.{IsOf, int, long, char, string, Fits, AllFit, received, receives, all_fit}
use Rattle.jm_linked.proofs.PrintStreams.{ref_is, stream_selects, stream_below_itself, no_stream, other_name}
use Rattle.std.specs.Prelude.{slice_index_or, Result, Vec}
use Rattle.std.specs.declared.alloc.Global.{Global}
use Rattle.jm_linked.specs.Links.{Links}
use Rattle.jm_frames.specs.FrameView.{FrameView}
use Rattle.jm_world.specs.declared.stop.Stop.TheVariants as why
use Rattle.jm_state.specs.Ends.{Ended}
use Rattle.jm_state.specs.Runnable.{StateRuns}
use Rattle.jm_state.proofs.Runs.{runs_still}
use Rattle.jm_state.specs.declared.halt.Halt.{Halt}
use Rattle.jm_state.specs.declared.halt.Halt.TheVariants.{Stopped, OutOfMemory}
use Rattle.jm_state.specs.declared.halt.StepEnd.{StepEnd}
use Rattle.jm_state.specs.declared.halt.StepEnd.TheVariants.{Done}
use Rattle.jm_state.specs.declared.thread.StackFrame.{StackFrame}
use Rattle.jm_interp.specs.declared.at.At.{At}
use Rattle.jm_interp.specs.At.{parts_at, StandsOn, Does, Steps}
use Rattle.jm_interp.specs.Standing.{Stands, ThreadRest, running}
use Rattle.jm_interp.proofs.Here.{place, row_is, top_held, inside_with, part_with}
use Rattle.jm_interp.proofs.Objects.{IsObject, object_of, told}
use Rattle.jm_interp.proofs.SpecialPrints.{either_way}
use Rattle.jm_interp.proofs.StringText.{text_told, text_untold}
use Rattle.jm_interp.proofs.OnThread.{Leads, model, read, does_as, stops, refused, runs_with, goes_to, with_thread_at, ChangedTo}

five_is : (program : List ClassParts) → class_name_of program 5 ≡ print_stream_class
unfolding class_name_of
five_is program = refl

-- the class of the mark
stream_name : (program : List ClassParts) (id : ClassId) → is_print_stream id ≡ true → class_of (named_type program id) ≡ print_stream_class
unfolding named_type
stream_name program (Instance n) e = ap (class_name_of program) (eqb-true n 5 e) ∙ five_is program
stream_name program (Array component) e = cc

-- the model's test of the receiver is that of its mark
stream_test : (program : List ClassParts) → Loads program → (id : ClassId)
    → is_assignable program (type_of_object (named_type program id)) (class_type print_stream_class) ≡ is_print_stream id
unfolding named_type
stream_test program loads (Instance n) = by (nat_eq n 5) refl
  where
    by : (b : Bool) → nat_eq n 5 ≡ b → is_subclass program (class_name_of program n) print_stream_class ≡ nat_eq n 5
    by true t =
        ap (λ k. is_subclass program (class_name_of program k) print_stream_class) (eqb-true n 5 t)
        ∙ ap (λ x. is_subclass program x print_stream_class) (five_is program)
        ∙ stream_below_itself program
        ∙ sym t
    by false t = no_stream program loads (class_name_of program n) (other_name program loads n t) ∙ sym t
stream_test program loads (Array component) =
    ap (λ n. dimensions_assignable program (element_named program component.element) (Class print_stream_class) n 0) (add-one component.dimensions)

-- what the method writes
stream_writes : (f : ℕ → ℕ) (o : Here) (p : PrintMethod) (t : Text) (k : ℕ) (rest : List Value) → Fits p t → Loads o.world.program → call_found o
    (select o.world.program print_stream_class (print_name p) (print_type p)) k (arguments_of f t) rest
    ≡ with_bytes o f t (λ bytes. write o (bytes ++ line_bytes p) rest)
stream_writes f o p t k rest fits loads = ap (λ z. call_found o z k (arguments_of f t) rest) (stream_selects o.world.program loads p) ∙ by p t fits
  where
    found : PrintMethod → Option FoundMethod
    found p = instance_along false (as_class print_stream ∷ up_from (length o.world.program + 28) o.world.program object_class) (print_name p) (print_type p)

    printed_so : (k' : Printed) (t : Text) → IsOf k' t → call_found o (found (Print k')) k (arguments_of f t) rest
        ≡ with_bytes o f t (λ bytes. write o bytes rest)
    printed_so _ _ (int n) = refl
    printed_so _ _ (long n) = refl
    printed_so _ _ (char n) = refl
    printed_so _ _ (string None) = refl
    printed_so _ _ (string (Some p)) = refl

    line_so : (k' : Printed) (t : Text) → IsOf k' t → call_found o (found (Println k')) k (arguments_of f t) rest
        ≡ with_bytes o f t (λ bytes. write o (bytes ++ 10 ∷ []) rest)
    line_so _ _ (int n) = refl
    line_so _ _ (long n) = refl
    line_so _ _ (char n) = refl
    line_so _ _ (string None) = refl
    line_so _ _ (string (Some p)) = refl

    by : (p : PrintMethod) (t : Text) → Fits p t → call_found o (found p) k (arguments_of f t) rest
        ≡ with_bytes o f t (λ bytes. write o (bytes ++ line_bytes p) rest)
    by (Print k') t g = printed_so k' t g ∙ (λ i. with_bytes o f t (λ bytes. write o (sym (append-nil bytes) i) rest))
    by (Println k') t g = line_so k' t g
    by EndLine t e =
        ap (λ x. call_found o (found EndLine) k (arguments_of f x) rest) e
        ∙ ap (λ x. with_bytes o f x (λ bytes. write o (bytes ++ line_bytes EndLine) rest)) (sym e)

-- fewer operands have fewer references
drop_refs : (s : List Value) (q : ℕ) → Among q (stack_shape.refs (drop 1 s)) → Among q (stack_shape.refs s)
drop_refs [] q a = a
drop_refs (v ∷ s) q a = among_right q (refs v) (stack_shape.refs s) a

left_refs : (p : PrintMethod) (s : List Value) (q : ℕ) → Among q (stack_shape.refs (left_by p s)) → Among q (stack_shape.refs s)
left_refs (Print k) s q a = drop_refs s q (drop_refs (drop 1 s) q a)
left_refs (Println k) s q a = drop_refs s q (drop_refs (drop 1 s) q a)
left_refs EndLine s q a = drop_refs s q a

-- what the code found of the operands of the thread that was read
abbrev pub FindsOperands : PrintMethod → held.Thread → Result Printing TagFault → Type 0
FindsOperands p d result =
    (f : FrameView) (below : List StackFrame) (r : ThreadRest) → Stands d (Method f ∷ below) r → result ≡ printing_of p f.activation.stack

-- a step is the same where the output has come back to what it was
pub output_back : {H : Type 0} {content : H → Content ClassId} {at : At} {old : State H} {result : Result StepEnd Halt} (output : Vec ℕ Global)
    → output.items ≡ old.output.items → Steps content at old result old → Steps content at old result (record old { output = output })
unfolding parts
output_back {content = content} {at = at} {old = old} {result = result} output same done = record {
  runs = runs_still output.items old.stop done.runs;
  ends = λ w t m is.
      subst (λ bytes. Ended result (record (parts_at content at old) { output = bytes }) w (step_thread w (at.index + 1) t)) (sym same)
      (done.ends w t m is);
}

module _ {H : Type 0} {content : H → Content ClassId} {at : At} {old : State H} (p : PrintMethod)
    (h : StandsOn content at old (Links at.linked.now (linked.Print p))) where
  -- the operands that are left, in the model
  abbrev rest : List Value
  rest = map (rename (name_of (content old.heap))) (left_by p h.method.frame.activation.stack)

  -- the model's row by the receiver, its object, and its type
  abbrev on_type : World → List Value → ℕ → ObjectType → Bool → Next
  on_type w arguments k type is = elim is [
    | false ↦ faults WrongKind
    | true ↦ call_found (place h.method w) (select w.program (class_of type) (print_name p) (print_type p)) k arguments rest
  ]

  abbrev on_object : World → List Value → List Value → ℕ → Object → Next
  on_object w arguments left k o = elim (is_of_class (place h.method w) o print_stream_class) [
    | false ↦ faults WrongKind
    | true ↦ call_found (place h.method w) (select w.program (class_of o.type) (print_name p) (print_type p)) k arguments left
  ]

  abbrev on_receiver : World → Option ℕ → List Value → List Value → Next
  on_receiver w r arguments left = with_object (place h.method w) r (on_object w arguments left)

  print_is : Leads h.method.on step_thread (λ w. received (name_of (content old.heap))
      (printing_of p h.method.frame.activation.stack) (left_by p h.method.frame.activation.stack) (on_receiver w))
  unfolding parts
  print_is w m =
      row_is h w m
      ∙ ap (row (place h.method w)) (h.is.is ∙ ap (instr.Invoke h.is.op) (ref_is h.is.method p h.is.prints))
      ∙ either_way (place h.method w) p (subst Loads m.program h.method.on.beside.linked.loads) h.is.op h.is.of_class
      ∙ receives (name_of (content old.heap)) p h.method.frame.activation.stack (on_receiver w)

  module _ {d : held.Thread} (got : d ≡ slice_index_or old.threads.items at.index d) where
    found : {r : Result Printing TagFault} → FindsOperands p d r → printing_of p h.method.frame.activation.stack ≡ r
    found is = sym (is h.method.frame h.method.below _ (read h.method.on got))

    received_is : {r : Result Printing TagFault} → FindsOperands p d r
        → Leads h.method.on step_thread (λ w. received (name_of (content old.heap)) r (left_by p h.method.frame.activation.stack) (on_receiver w))
    received_is is w m = print_is w m ∙ ap (λ x. received (name_of (content old.heap)) x (left_by p h.method.frame.activation.stack) (on_receiver w)) (found is)

    pub print_faults : {fault : TagFault} → FindsOperands p d (Err fault) → Steps content at old (Err (Stopped (why.TagFault fault))) old
    print_faults is = stops h.method.on (received_is is)

    module _ {pr : Printing} (is : FindsOperands p d (Ok pr)) where
      fits : AllFit (Fits p) (stack_shape.refs h.method.frame.activation.stack) (Ok pr)
      fits =
          subst (AllFit (Fits p) (stack_shape.refs h.method.frame.activation.stack)) (found is) (all_fit p h.method.frame.activation.stack)

      -- the argument in the model
      abbrev arguments : List Value
      arguments = arguments_of (name_of (content old.heap)) pr.text

      -- what the argument names is the machine's
      pub text_held : TextAmong (places (parts_at content at old)) pr.text
      text_held = by pr.text fits.1
        where
          by : (t : Text) → TextAmong (stack_shape.refs h.method.frame.activation.stack) t → TextAmong (places (parts_at content at old)) t
          by (text.Int n) a = tt
          by (text.Long n) a = tt
          by (text.Char n) a = tt
          by (text.String None) a = tt
          by (text.String (Some q)) a =
              let v = h.method.frame.activation in
              top_held h.method q (among_right q (locals_shape.refs v.locals) (stack_shape.refs v.stack) a)
          by text.Nothing a = tt

      to_receiver : {r : Option ℕ} → pr.receiver ≡ r
          → Leads h.method.on step_thread (λ w. on_receiver w (option_map (name_of (content old.heap)) r) arguments rest)
      to_receiver e w m = received_is is w m ∙ ap (λ r. on_receiver w (option_map (name_of (content old.heap)) r) arguments rest) e

      -- null throws
      pub print_throws : {result : Result StepEnd Halt} {new : State H} {class : List ℕ} → pr.receiver ≡ None → class ≡ codes "java/lang/NullPointerException"
          → Does content at old result new (λ w number t. throw w number t class) → Steps content at old result new
      print_throws none is_class done =
          does_as h.method.on (λ w m. m) (λ w m. to_receiver none w m ∙ ap (throw w (at.index + 1) (model h.method.on)) (sym is_class)) done

      module _ {receiver : ℕ} (r : pr.receiver ≡ Some receiver) where
        pub receiver_object : IsObject h.method.on receiver
        receiver_object =
            let v = h.method.frame.activation in
            object_of h.method.on receiver
            (top_held h.method receiver (among_right receiver (locals_shape.refs v.locals) (stack_shape.refs v.stack) (fits.2 receiver r)))

        module _ {id : ClassId} {test : Bool}
            (class : (k : ℕ) (o : ObjectOf ClassId) → serial_at (content old.heap) receiver ≡ Some k → object_at (content old.heap) k ≡ Some o → id ≡ o.type)
            (tested : test ≡ is_print_stream id) where
          -- its mark decides
          by_mark : Leads h.method.on step_thread
              (λ w. on_type w arguments (name_of (content old.heap) receiver) (named_type at.linked.now.program id) test)
          unfolding parts
          by_mark w m =
              let l = at.linked.now in
              let b = h.method.on.beside.linked in
              let t = receiver_object in
              let k = name_of (content old.heap) receiver in
              to_receiver r w m
              ∙ ap (λ o. elim o as (λ _. Next) [ None ↦ faults WrongKind | Some z ↦ on_object w arguments rest k z ]) (t.in_world w m)
              ∙ ap (λ x. on_object w arguments rest k (record { type = named_type l.program x; values = t.object.values }))
              (sym (told h.method.on t class))
              ∙ ap (on_type w arguments k (named_type l.program id))
              (ap (λ program. is_assignable program (type_of_object (named_type l.program id)) (class_type print_stream_class)) (sym m.program)
              ∙ stream_test l.program b.loads id ∙ sym tested)

          -- one that is no print stream is a fault
          pub other_faults : test ≡ false → Steps content at old (Err (Stopped (why.TagFault WrongKind))) old
          other_faults n =
              stops h.method.on
              (λ w m. by_mark w m ∙ ap (on_type w arguments (name_of (content old.heap) receiver) (named_type at.linked.now.program id)) n)

          -- the text comes to the end of the output
          writes : test ≡ true → Leads h.method.on step_thread
              (λ w. with_bytes (place h.method w) (name_of (content old.heap)) pr.text (λ bytes. write (place h.method w) (bytes ++ line_bytes p) rest))
          unfolding parts
          writes y w m =
              let l = at.linked.now in
              let k = name_of (content old.heap) receiver in
              by_mark w m
              ∙ ap (on_type w arguments k (named_type l.program id)) y
              ∙ ap (λ n. call_found (place h.method w) (select w.program n (print_name p) (print_type p)) k arguments rest)
              (stream_name l.program id (sym tested ∙ y))
              ∙ stream_writes (name_of (content old.heap)) (place h.method w) p pr.text k rest fits.0 (subst Loads m.program h.method.on.beside.linked.loads)

          -- an argument that has no text stops the machine
          pub text_stops : test ≡ true → {halt : Halt} → TextHalts (content old.heap) (string_in pr.text) halt → Steps content at old (Err halt) old
          text_stops y {halt = Stopped stop} halts = stops h.method.on (λ w m.
              writes y w m
              ∙ text_untold h.method pr.text text_held halts (place h.method w) (λ bytes. write (place h.method w) (bytes ++ line_bytes p) rest) m)
          text_stops y {halt = OutOfMemory} halts = refused h.method.on

          pub prints : test ≡ true → (said : List ℕ) → TextGives (content old.heap) pr.text (string_in pr.text) said
              → {new : State H} {t : held.Thread} → ChangedTo h.method.on new t → new.classes ≡ old.classes
              → StateRuns at.linked.now new → Stands t
              (Method (gone_to (with_stack h.method.frame (left_by p h.method.frame.activation.stack)) (h.method.frame.activation.at + 1)) ∷ h.method.below)
              (running h.method.on.object None) → new.output.items ≡ old.output.items ++ (said ++ line_bytes p) → Steps content at old
              (Ok Done) new
          unfolding parts
          prints y said gives {new} same classes runs s written =
              let v = h.method.frame in
              let bytes = said ++ line_bytes p in
              goes_to h.method.on new (λ w. w.classes) (λ w. w.output ++ bytes) runs same s refl
              (inside_with h.method (gone_to (with_stack v (left_by p v.activation.stack)) (v.activation.at + 1)).activation (λ q a.
              top_held h.method q (elim (among_split q (locals_shape.refs v.activation.locals) (stack_shape.refs (left_by p v.activation.stack)) a) [
                | inl z ↦ among_left q (locals_shape.refs v.activation.locals) (stack_shape.refs v.activation.stack) z
                | inr z ↦ among_right q (locals_shape.refs v.activation.locals) (stack_shape.refs v.activation.stack) (left_refs p v.activation.stack q z)
              ])))
              (λ w m. (ap (named_states at.linked.now.program) classes ∙ m.classes, written ∙ ap (λ z. z ++ bytes) m.output))
              (λ w m. writes y w m ∙ text_told h.method pr.text text_held gives (place h.method w) (λ b. write (place h.method w) (b ++ line_bytes p) rest) m)

  -- the thread goes on without the operands
  pub runs_on : {t : held.Thread} → Stands t
      (Method (gone_to (with_stack h.method.frame (left_by p h.method.frame.activation.stack)) (h.method.frame.activation.at + 1)) ∷ h.method.below)
      (running h.method.on.object None) → StateRuns at.linked.now (with_thread_at old at.index t)
  runs_on s = runs_with h.method.on s (part_with h.method _)
