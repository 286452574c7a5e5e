-- Whether a class is ready, and an initialization that begins on top of a method.
use Rattle.std.proofs.Common.{◌≡◌, ℕ, ◌+◌, ◌-◌, ◌<◌, ◌≤◌, zero, suc, List, [], ◌∷◌, Some, None, Bool, true, false, sym, ap, ◌∙◌, subst}
use Rattle.std.proofs.Common.{inl, inr, length, arith}
use Rattle.std.proofs.lemmas.Option.{get_or_from_slice_get}
use Rattle.std.proofs.lemmas.List.{length-map}
use Rattle.std.specs.Prelude.{map, slice_get, slice_index_or, vec_len, is_some, codes, Result, Ok, Err}
use Rattle.jm_program.specs.declared.class.ClassParts.{ClassParts}
use Rattle.jm_program.proofs.Numbers.{found_less as less, found_no_less}
use Rattle.jm_builtins.specs.List.{the_builtins}
use Rattle.jm_builtins.specs.Numbers.{built_in_names}
use Rattle.jm_values.specs.Content.{Content, name_of}
use Rattle.jm_world.specs.Classes.{built_in_named}
use Rattle.jm_world.specs.Frames.{Frame, initialization_frame, rename_frame}
use Rattle.jm_world.specs.Here.{is_ready, when_initialized, with_frames}
use Rattle.jm_world.specs.Next.{Next, goes, throw}
use Rattle.jm_world.specs.Stepping.{step_thread}
use Rattle.jm_world.specs.World.{World, Thread, state_of, state_in}
use Rattle.jm_world.specs.declared.class_state.ClassState.{ClassState}
use Rattle.jm_world.specs.declared.stage.Stage.TheVariants as stage
use Rattle.jm_heap.specs.declared.class_id.ClassId.{ClassId}
use Rattle.jm_linked.specs.Links.{NamesClass, class_names, class_name_of}
use Rattle.jm_linked.proofs.BuiltIns.{others}
use Rattle.jm_linked.proofs.SystemOut.{not_listed}
use Rattle.jm_linked.proofs.Classes.{class_name_is}
use Rattle.jm_state.specs.Parts.{parts, frame_part, program_class_name, name_in_program}
use Rattle.jm_state.specs.declared.halt.Halt.{Halt}
use Rattle.jm_state.specs.declared.halt.Halt.TheVariants.{OutOfMemory}
use Rattle.jm_state.specs.declared.halt.StepEnd.{StepEnd}
use Rattle.jm_state.specs.declared.halt.StepEnd.TheVariants as step_end
use Rattle.jm_state.specs.declared.state.State.{State}
use Rattle.jm_state.specs.declared.thread.StackFrame.TheVariants.{Method, Initialization}
use Rattle.jm_state.specs.declared.thread.Thread as held
use Rattle.jm_interp.specs.declared.at.At.{At}
use Rattle.jm_interp.specs.At.{InMethod, Does, Steps, in_method}
use Rattle.jm_interp.specs.Readiness.{Readiness, begins}
use Rattle.jm_interp.specs.Standing.{Stands, running}
use Rattle.jm_interp.proofs.Here.{place}
use Rattle.jm_interp.proofs.Initialized.{class_within, state_here}
use Rattle.jm_interp.proofs.OnThread as thread
use Rattle.jm_interp.proofs.OnThread.{Leads, model, lower, read, does_as, held_frames, part_here, runs_with, same_matches, with_thread_at}
use Rattle.jm_interp.proofs.Superclasses.{get_past, known}
use Rattle.jm_interp.proofs.Threads.{part_refs, with_more, count_is}

-- a name of one of the program's classes is that class's
own_name : (cs : List ClassParts) (k : ℕ) (name : List ℕ) → slice_get (map (λ (c : ClassParts). c.name) cs) k ≡ Some name
    → (k < length cs) × (name_in_program (slice_get cs k) ≡ name)
own_name [] k name e = cc
own_name (c ∷ cs) zero name e = (omega arith, cc)
own_name (c ∷ cs) (suc k) name e = let d = own_name cs k name e in (let lt = d.0 in omega arith, d.1)

-- the name of a built-in class by its number
pub built_in_known : (program : List ClassParts) (n : ℕ) (name : List ℕ) → NamesClass program n name → n < length the_builtins
    → is_some (built_in_named the_builtins name) ≡ true
built_in_known program n name named few =
    let is : slice_index_or (class_names program) n [] ≡ name = get_or_from_slice_get (class_names program) n name [] named in
    subst (λ x. is_some (built_in_named the_builtins x) ≡ true) is (known the_builtins (map (λ (c : ClassParts). c.name) program) n few)

-- one of the program's classes by its number among all, and among these
pub own_known : (program : List ClassParts) (n k : ℕ) (name : List ℕ) → NamesClass program n name → n ≡ k + length the_builtins
    → (k < length program) × (program_class_name program k ≡ name)
unfolding program_class_name
own_known program n k name named e =
    own_name program k name (sym (get_past built_in_names (map (λ (c : ClassParts). c.name) program) n k e) ∙ named)

module _ {H : Type 0} {content : H → Content ClassId} {at : At} {old : State H} (h : InMethod content at old) {class : ℕ} where
  -- a built-in class is done
  pub built_in_ready : class < length the_builtins → Readiness content at old class true
  unfolding parts
  built_in_ready few = record {
    is = λ w name m named. let l = at.linked.now in
        ap (λ ps. is_ready (state_in ps name) (at.index + 1)) (sym m.classes)
        ∙ ap (λ st. is_ready st (at.index + 1))
        (not_listed name l.program old.classes (others l.program h.on.beside.linked.loads name (built_in_known l.program class name named few)));
    own = λ e. cc;
  }

  -- one of the program's, where so many are built in
  module _ (named : (name : List ℕ) × NamesClass at.linked.now.program class name) {b : ℕ} (count : b ≡ length the_builtins) (many : b ≤ class) where
    -- its number among the program's
    abbrev pub number : ℕ
    number = class - b

    pub own_there : (name : List ℕ) → NamesClass at.linked.now.program class name
        → (number < length at.linked.now.program) × (program_class_name at.linked.now.program number ≡ name)
    own_there name is = own_known at.linked.now.program class number name is (omega arith)

    pub number_within : number < length old.classes
    number_within = class_within h.on number (own_there named.0 named.1).0

    -- by the state that was read
    pub ready_by : {st : ClassState} → slice_get old.classes number ≡ Some st → {ready : Bool}
        → is_ready st (at.index + 1) ≡ ready → Readiness content at old class ready
    ready_by {st} there is = record {
      is = λ w name m e. let own = own_there name e in
          ap (λ x. is_ready (state_of w x) (at.index + 1)) (sym own.1)
          ∙ ap (λ x. is_ready x (at.index + 1)) (state_here h.on number own.0 there w m)
          ∙ is;
      own = λ e. omega arith;
    }

    -- its initialization begins on top of the frames, where there is room for one more
    module _ {d : held.Thread} {n : ℕ} (got : d ≡ slice_index_or old.threads.items at.index d) (frames : n ≡ vec_len d.frames) where
      abbrev name : List ℕ
      name = class_name_of at.linked.now.program class

      abbrev all : List Frame
      all = lower h.on (Method h.frame ∷ h.below)

      depth : n ≡ length all
      depth =
          let f = rename_frame (name_of (content old.heap)) in
          let a : length (lower h.on h.below) ≡ length h.below =
          length-map (map (frame_part at.linked.now) h.below) f ∙ length-map h.below (frame_part at.linked.now) in
          let b = count_is (read h.on got) frames in
          omega arith

      by_depth : World → Bool → Next
      by_depth w b = elim b [
        | true ↦ goes (with_frames w (at.index + 1) (model h.on) (initialization_frame name stage.Begin ∷ all))
        | false ↦ throw w (at.index + 1) (model h.on) (codes "java/lang/StackOverflowError")
      ]

      pub too_deep : {new : State H} {result : Result StepEnd Halt} {error : List ℕ} → 512 ≤ n → error ≡ codes "java/lang/StackOverflowError"
          → Does content at old result new (λ w k x. throw w k x error) → Does content at old result new (in_method (begins name))
      unfolding by_depth
      too_deep deep error done = does_as h.on (λ w m. m) (λ w m.
          let there : 512 ≤ length all = let a = depth in omega arith in
          ap (by_depth w) (found_no_less (length all) 512 there) ∙ ap (throw w (at.index + 1) (model h.on)) (sym error)) done

      pub begun : {t : held.Thread} → n < 512 → Stands t (Initialization number stage.Begin ∷ Method h.frame ∷ h.below) (running h.on.object None)
          → Does content at old (Ok step_end.Done) (with_thread_at old at.index t) (in_method (begins name))
      unfolding by_depth
      begun few stands =
          let a = depth in
          let b = count_is (read h.on got) frames in
          let own = own_there named.0 named.1 in
          let fs = Initialization number stage.Begin ∷ Method h.frame ∷ h.below in
          let same : name ≡ program_class_name at.linked.now.program number =
          class_name_is at.linked.now.program class named.0 named.1 ∙ sym own.1 in
          thread.goes h.on stands (with_more {g = Initialization number stage.Begin} own.0 (omega arith) (part_here h.on))
          (λ q z. elim (part_refs at.linked.now fs None q z) [ inl y ↦ absurd y | inr y ↦ held_frames h.on q y ]) (λ w m.
          ap (by_depth w) (less (length all) 512 (omega arith))
          ∙ ap (λ x. goes (with_frames w (at.index + 1) (model h.on) (initialization_frame x stage.Begin ∷ all))) same)

      pub not_begun : {t : held.Thread} → Stands t (Method h.frame ∷ h.below) (running h.on.object None)
          → Does content at old (Err OutOfMemory) (with_thread_at old at.index t) (in_method (begins name))
      not_begun stands = thread.does h.on (runs_with h.on stands (part_here h.on)) (λ w m. same_matches h.on stands w m)

-- a row that is made when the class is initialized, by whether it is ready
module _ {H : Type 0} {content : H → Content ClassId} {at : At} {old : State H} (h : InMethod content at old) {class : ℕ} {name : List ℕ}
    (named : NamesClass at.linked.now.program class name) {ready : Bool} (told : Readiness content at old class ready) where
  abbrev pub when_ready : World → (World → Next) → Next
  when_ready w rest = when_initialized (place h w) name (rest w)

  by_ready : World → Next → Bool → Next
  by_ready w row b = elim b [ true ↦ row | false ↦ begins name (place h w) ]

  -- it is: the row is made
  pub made_ready : (rule : World → ℕ → Thread → Next) (rest : World → Next) → ready ≡ true
      → Leads h.on rule (λ w. when_ready w rest) → Leads h.on rule rest
  unfolding by_ready
  made_ready rule rest e is w m = is w m ∙ ap (by_ready w (rest w)) (told.is w name m named ∙ e)

  -- it is not: its initialization begins first
  pub begins_first : {result : Result StepEnd Halt} {new : State H} (rest : World → Next) → ready ≡ false
      → Leads h.on step_thread (λ w. when_ready w rest) → Does content at old result new (in_method (begins (class_name_of at.linked.now.program class)))
      → Steps content at old result new
  unfolding by_ready
  begins_first rest e is done = does_as h.on (λ w m. m) (λ w m.
      is w m ∙ ap (by_ready w (rest w)) (told.is w name m named ∙ e)
      ∙ ap (λ x. begins x (place h w)) (sym (class_name_is at.linked.now.program class name named))) done

  -- what begin_initialization asks of it
  pub is_own : ready ≡ false → (x : List ℕ) × NamesClass at.linked.now.program class x × (length the_builtins ≤ class)
  is_own e = (name, named, told.own e)
