-- Stages of initialization beside the model's.
use Rattle.std.proofs.Common.{◌≡◌, ℕ, ◌+◌, ◌-◌, ◌<◌, ◌≤◌, List, [], ◌∷◌, Option, Some, None, Bool, true, false, refl, sym, ap, ◌∙◌, subst}
use Rattle.std.proofs.Common.{inl, inr, ◌⊎◌, length, drop, arith, length-set}
use Rattle.std.specs.Prelude.{map, slice_get, slice_set, codes, Result, Err}
use Rattle.std.specs.List.{AllByRecursion}
use Rattle.jm_program.specs.declared.class.ClassParts.{ClassParts}
use Rattle.jm_program.specs.declared.code.Code.{Code}
use Rattle.jm_program.proofs.Numbers.{found_less as less, found_no_less, found_equal as alike, found_unequal as differ}
use Rattle.std.proofs.lemmas.List.{length-map}
use Rattle.jm_values.specs.Shape.{Among}
use Rattle.jm_values.specs.declared.fault.TagFault.TheVariants.{WrongKind}
use Rattle.jm_values.proofs.Among.{among_split}
use Rattle.jm_world.specs.Frames.{Frame, frames_shape, refs_frame, initialization_frame, rename_frame}
use Rattle.jm_world.specs.Here.{with_frames, push_frame}
use Rattle.jm_world.specs.Initialization.{initialize, begin, superclass_first, superclass_name, is_done, run_initializer, call_initializer, initializer_of}
use Rattle.jm_world.specs.Initialization.{constants_of, at_stage, finish}
use Rattle.jm_world.specs.Next as next
use Rattle.jm_world.specs.Next.{Next, goes, throw}
use Rattle.jm_world.specs.Classes.{FoundMethod, class_named}
use Rattle.jm_world.specs.World.{World, Thread, with_thread, with_state, state_of, state_in, set_state_in, held_shape, live_among}
use Rattle.jm_values.specs.Content.{Content, name_of}
use Rattle.jm_world.specs.Matches.{Matches}
use Rattle.jm_world.specs.Stepping.{step_thread}
use Rattle.jm_world.specs.declared.class_state.ClassState.{ClassState}
use Rattle.jm_world.specs.declared.class_state.ClassState.TheVariants.{NotBegun, InProgress, Done, Failed}
use Rattle.jm_world.specs.declared.stop.Stop.TheVariants as why
use Rattle.jm_world.specs.declared.stage.Stage.{Stage}
use Rattle.jm_world.specs.declared.stage.Stage.TheVariants as stage
use Rattle.jm_heap.specs.declared.class_id.ClassId.{ClassId}
use Rattle.jm_linked.specs.Links.{LinkedView, IsLinked}
use Rattle.jm_linked.specs.Named.{named_states}
use Rattle.jm_linked.specs.Tables.{IsInitializer}
use Rattle.jm_state.specs.Parts.{parts, frame_part, thread_part, program_class_name, name_in_program}
use Rattle.jm_state.specs.Runnable.{FrameRuns, ThreadRuns, is_among, is_started}
use Rattle.jm_state.specs.Places.{held_thread}
use Rattle.jm_state.specs.declared.state.State.{State}
use Rattle.jm_state.specs.declared.thread.StackFrame.{StackFrame}
use Rattle.jm_state.specs.declared.thread.StackFrame.TheVariants.{Initialization}
use Rattle.jm_state.specs.declared.thread.Thread as held
use Rattle.jm_values.proofs.Lists.{set_same}
use Rattle.jm_linked.proofs.BuiltIns.{others}
use Rattle.jm_linked.proofs.SystemOut.{not_listed}
use Rattle.jm_linked.proofs.Classes.{state_is, states_set, class_is}
use Rattle.std.specs.Prelude.{slice_index_or, vec_len, Ok}
use Rattle.jm_interp.specs.declared.at.At.{At}
use Rattle.jm_interp.specs.At.{parts_at, HoldsAll, OnThread, OnFrames, Does, Steps}
use Rattle.jm_interp.specs.ConstantValues.{gives_constants, puts_in_progress}
use Rattle.jm_interp.specs.Initializing.{IsOwnSuperclass}
use Rattle.jm_interp.proofs.After.{seen_after, then_does}
use Rattle.jm_interp.specs.Standing.{OwnObject, Stands, running}
use Rattle.jm_interp.proofs.OnThread.{Leads, thread_as, thread_there, model, read, does_as, blocks, held_frames, held_pending}
use Rattle.jm_interp.proofs.OnThread.{part_here, runs_with, same_matches, ChangedTo, with_thread_at}
use Rattle.jm_interp.proofs.OnThread as thread
use Rattle.jm_values.proofs.Lists.{get_there, set_there}
use Rattle.jm_interp.proofs.Threads.{part_refs, PartRuns, without_top, with_top, with_more, dropped_part, dropped_refs, count_is}
use Rattle.jm_state.specs.Runnable.{StateRuns}
use Rattle.jm_state.specs.declared.halt.Halt.{Halt}
use Rattle.jm_state.specs.declared.halt.Halt.TheVariants.{Stopped, OutOfMemory}
use Rattle.jm_state.specs.declared.halt.StepEnd.{StepEnd}
use Rattle.jm_state.specs.declared.halt.StepEnd.TheVariants as step_end

-- a class of the program, by its number
pub record HasClass (l : LinkedView) (class : ℕ) : Type 0 where
  pub class_of : ClassParts
  pub at : slice_get l.program class ≡ Some class_of
  pub named : program_class_name l.program class ≡ class_of.name
  pub is_named : class_named l.program class_of.name ≡ Some class_of

pub has_class : (l : LinkedView) → IsLinked l → (class : ℕ) → class < length l.program → HasClass l class
unfolding program_class_name
has_class l is class lt =
    let d = get_there l.program class lt in
    record {
      class_of = d.0;
      at = d.1;
      named = ap name_in_program d.1;
      is_named = class_is l.program is.loads class d.0 d.1;
    }

pub staged_runs : {l : LinkedView} {class : ℕ} {s s' : Stage} {below : List StackFrame} {o : OwnObject}
    → PartRuns l (Initialization class s ∷ below) (running o None) → PartRuns l (Initialization class s' ∷ below) (running o None)
staged_runs {class = class} {s = s} q = with_top {f = Initialization class s} q.runs.frames.0 q

-- the top frame of a thread is dropped
pub leaves : {H : Type 0} {content : H → Content ClassId} {at : At} {old : State H} {fs : List StackFrame} {p : Option ℕ} (h : OnThread content at old fs p)
    {t : held.Thread} → Stands t (drop 1 fs) (running h.object p)
    → Does content at old (Ok step_end.Done) (with_thread_at old at.index t) (λ w number x. goes (with_frames w number x (drop 1 x.frames)))
leaves {at = at} {fs = fs} {p = p} h s' = thread.goes h s' (dropped_part fs (part_here h)) (λ q a. elim (part_refs at.linked.now (drop 1 fs) p q a) [
  | inl z ↦ held_pending h q z
  | inr z ↦ held_frames h q (dropped_refs at.linked.now fs q z)
]) (λ w m. by w fs)
  where
    by : (w : World) (gs : List StackFrame) → goes (with_frames w (at.index + 1) (model h) (drop 1 (thread.lower h gs)))
        ≡ goes (with_frames w (at.index + 1) (model h) (thread.lower h (drop 1 gs)))
    by w [] = refl
    by w (g ∷ gs) = refl

-- a class of the program, where a thread stands
module _ {H : Type 0} {content : H → Content ClassId} {at : At} {old : State H} {fs : List StackFrame} {p : Option ℕ} (h : OnThread content at old fs p)
    (class : ℕ) (lt : class < length at.linked.now.program) where
  abbrev name : List ℕ
  name = program_class_name at.linked.now.program class

  pub class_there : HasClass at.linked.now class
  class_there = has_class at.linked.now h.beside.linked class lt

  pub class_within : class < length old.classes
  class_within = let r = h.beside.runs.classes in omega arith

  -- the model's class, and its state
  class_here : (w : World) → Matches (parts_at content at old) w → class_named w.program name ≡ Some class_there.class_of
  unfolding parts
  class_here w m = ap (λ p. class_named p name) (sym m.program) ∙ ap (class_named at.linked.now.program) class_there.named ∙ class_there.is_named

  pub state_here : {st : ClassState} → slice_get old.classes class ≡ Some st → (w : World) → Matches (parts_at content at old) w → state_of w name ≡ st
  unfolding parts
  state_here {st} there w m =
      let l = at.linked.now in
      let d = class_there in
      ap (λ ps. state_in ps name) (sym m.classes) ∙ ap (state_in (named_states l.program old.classes)) d.named
      ∙ state_is l.program h.beside.linked.loads old.classes class d.class_of st d.at there

  states_here : (st : ClassState) (w : World) → Matches (parts_at content at old) w
      → named_states at.linked.now.program (slice_set old.classes class st) ≡ set_state_in w.classes name st
  unfolding parts
  states_here st w m =
      let l = at.linked.now in
      let d = class_there in
      sym (ap (λ ps. set_state_in ps name st) (sym m.classes) ∙ ap (λ n. set_state_in (named_states l.program old.classes) n st) d.named
      ∙ states_set l.program h.beside.linked.loads old.classes class d.class_of st d.at)

  -- a thread and the state of the class have changed
  changes : {new : State H} {t : held.Thread} {gs : List StackFrame} {q : Option ℕ} {st : ClassState} {rule : World → ℕ → Thread → Next}
      → ChangedTo h new t → new.classes ≡ slice_set old.classes class st → new.output.items ≡ old.output.items → StateRuns at.linked.now new
      → Stands t gs (running h.object q) → HoldsAll content at old (held_shape.refs (q, map (frame_part at.linked.now) gs))
      → Leads h rule (λ w. goes (with_thread (with_state w name st) (at.index + 1) (thread_as h gs (running h.object q))))
      → Does content at old (Ok step_end.Done) new rule
  unfolding parts
  changes {new} {st = st} same classes output runs s' within is =
      thread.goes_to h new (λ w. set_state_in w.classes name st) (λ w. w.output) runs same s' refl within
      (λ w m. (ap (named_states at.linked.now.program) classes ∙ states_here st w m, output ∙ m.output)) is

  -- the state with another thread and state of the class runs on
  class_runs : (new : State H) (st : ClassState) {t : held.Thread} {gs : List StackFrame} {q : Option ℕ} → ChangedTo h new t
      → new.classes ≡ slice_set old.classes class st → new.live ≡ old.live → Stands t gs (running h.object q)
      → PartRuns at.linked.now gs (running h.object q) → StateRuns at.linked.now new
  class_runs new st {t} same classes live s' part =
      let r = runs_with h s' part in
      record {
        threads = subst (λ ts. AllByRecursion (ThreadRuns at.linked.now) (map held_thread ts)) (sym same.threads) r.threads;
        live = live ∙ r.live ∙ ap (λ ts. live_among (map (thread_part at.linked.now) ts)) (sym same.threads);
        statics = ap length same.statics ∙ r.statics;
        literals = ap length same.literals ∙ r.literals;
        classes = ap length classes ∙ length-set old.classes class st ∙ r.classes;
        started = λ k. ap (is_among k) same.started ∙ r.started k ∙ ap (λ ts. is_started k (map (λ (x : held.Thread). x.serial) ts)) (sym same.threads);
      }

  -- the state of the class alone has changed
  pub marked : {new : State H} {st : ClassState} → new.threads.items ≡ old.threads.items → new.started.keys ≡ old.started.keys
      → new.statics.items ≡ old.statics.items
      → new.literals.items ≡ old.literals.items → new.monitors ≡ old.monitors → new.heap ≡ old.heap → new.stop ≡ old.stop
      → new.classes ≡ slice_set old.classes class st → new.live ≡ old.live → new.output.items ≡ old.output.items
      → Does content at old (Ok step_end.Done) new (λ w number x. goes (with_state w name st))
  marked {new} {st} threads started statics literals monitors heap stop classes live output =
      let same : ChangedTo h new h.stands.thread = record {
        threads = threads ∙ sym (set_same old.threads.items at.index h.stands.thread h.stands.at);
        started = started;
        statics = statics;
        literals = literals;
        monitors = monitors;
        heap = heap;
        stop = stop;
      } in
      changes same classes output (class_runs new st same classes live h.stands.stands (part_here h)) h.stands.stands
      (λ q a. elim (part_refs at.linked.now fs p q a) [ inl z ↦ held_pending h q z | inr z ↦ held_frames h q z ]) (λ w m.
      let n : at.index ≡ at.index + 1 - 1 = omega arith in
      ap (λ ts. goes (record (with_state w name st) { threads = ts }))
      (sym (set_same w.threads (at.index + 1 - 1) (model h) (subst (λ i. slice_get w.threads i ≡ Some (model h)) n (thread_there h w m)))))

module _ {H : Type 0} {content : H → Content ClassId} {at : At} {old : State H} {class : ℕ} {s : Stage} {below : List StackFrame}
    (h : OnThread content at old (Initialization class s ∷ below) None) where
  abbrev called : List ℕ
  called = program_class_name at.linked.now.program class

  -- the frames below, in the model
  abbrev lower : List Frame
  lower = thread.lower h below

  pub own : class < length at.linked.now.program
  own = (part_here h).runs.frames.0

  abbrev pub class_of : HasClass at.linked.now class
  class_of = class_there h class own

  -- frames that hold the places of those below
  inside : (fs : List StackFrame)
      → ((q : ℕ) → Among q (frames_shape.refs (map (frame_part at.linked.now) fs)) → Among q (frames_shape.refs (map (frame_part at.linked.now) below)))
      → HoldsAll content at old (held_shape.refs (None, map (frame_part at.linked.now) fs))
  inside fs e q a = held_frames h q (elim (part_refs at.linked.now fs None q a) [ inl z ↦ absurd z | inr z ↦ e q z ])

  -- it goes to another stage
  pub staged : {t : held.Thread} {s' : Stage} → Stands t (Initialization class s' ∷ below) (running h.object None)
      → Does content at old (Ok step_end.Done) (with_thread_at old at.index t) (λ w number x. goes (at_stage w number x called s' (drop 1 x.frames)))
  staged {t} {s'} is_so = thread.goes h is_so (staged_runs (part_here h)) (inside (Initialization class s' ∷ below) (λ q a. a)) (λ w m. refl)

  pub finished : {new : State H} {t : held.Thread} → ChangedTo h new t → new.classes ≡ slice_set old.classes class Done → new.live ≡ old.live
      → new.output.items ≡ old.output.items → Stands t below (running h.object None)
      → Does content at old (Ok step_end.Done) new (λ w number x. finish w number x called (drop 1 x.frames))
  finished {new} same classes live output s' =
      changes h class own same classes output (class_runs h class own new Done same classes live s' (without_top (part_here h))) s' (inside below (λ q a. a))
      (λ w m. refl)

  -- what the model does at the stages
  pub begin_is : {st : ClassState} → s ≡ stage.Begin → slice_get old.classes class ≡ Some st
      → Leads h step_thread (λ w. begin w (at.index + 1) (model h) called lower st)
  begin_is {st} e there w m =
      ap (λ z. initialize w (at.index + 1) (model h) called z lower) e
      ∙ ap (begin w (at.index + 1) (model h) called lower) (state_here h class own there w m)

  initializer_is : s ≡ stage.Initializer → {o : Option FoundMethod} → initializer_of (Some class_of.class_of) ≡ o
      → Leads h step_thread (λ w. run_initializer w (at.index + 1) (model h) called lower o)
  initializer_is e its w m =
      ap (λ z. initialize w (at.index + 1) (model h) called z lower) e
      ∙ ap (λ o. run_initializer w (at.index + 1) (model h) called lower (initializer_of o)) (class_here h class own w m)
      ∙ ap (run_initializer w (at.index + 1) (model h) called lower) its

  -- it has no initializer, one without code, or one with code
  pub initializer_done : {new : State H} → s ≡ stage.Initializer → IsInitializer class_of.class_of None
      → Does content at old (Ok step_end.Done) new (λ w number x. finish w number x called (drop 1 x.frames)) → Steps content at old (Ok step_end.Done) new
  initializer_done e none done = does_as h (λ w m. m) (initializer_is e none) done

  pub codeless : s ≡ stage.Initializer → {found : FoundMethod} → initializer_of (Some class_of.class_of) ≡ Some found → found.method.code ≡ None
      → Steps content at old (Err (Stopped (why.TagFault WrongKind))) old
  codeless e {found} its no_code = thread.stops h (λ w m.
      initializer_is e its w m ∙ ap (call_initializer w (at.index + 1) (model h) called lower found) no_code)

  pub initializer_called : {new : State H} {result : Result StepEnd Halt} → s ≡ stage.Initializer → {found : FoundMethod} {code : Code}
      → initializer_of (Some class_of.class_of) ≡ Some found → found.method.code ≡ Some code
      → Does content at old result new (λ w number x. call_initializer w number x called (drop 1 x.frames) found (Some code))
      → Steps content at old result new
  initializer_called e {found} its has_code done = does_as h (λ w m. m) (λ w m.
      initializer_is e its w m ∙ ap (call_initializer w (at.index + 1) (model h) called lower found) has_code) done

  pub end_done : {new : State H} → s ≡ stage.End → Does content at old (Ok step_end.Done) new (λ w number x. finish w number x called (drop 1 x.frames))
      → Steps content at old (Ok step_end.Done) new
  end_done e done = does_as h (λ w m. m) (λ w m. ap (λ z. initialize w (at.index + 1) (model h) called z lower) e) done

  -- the superclass, by its state
  superclass_by : List ℕ → World → ClassState → Next
  superclass_by above w st = elim (is_done st) [
    | true ↦ goes (at_stage w (at.index + 1) (model h) called stage.Initializer lower)
    | false ↦ push_frame w (at.index + 1) (model h) (initialization_frame called stage.Initializer ∷ lower) (initialization_frame above stage.Begin)
  ]

  superclass_is : s ≡ stage.Superclass
      → Leads h step_thread (λ w. superclass_first w (at.index + 1) (model h) called lower class_of.class_of.superclass)
  superclass_is e w m =
      ap (λ z. initialize w (at.index + 1) (model h) called z lower) e
      ∙ ap (λ o. superclass_first w (at.index + 1) (model h) called lower (superclass_name o)) (class_here h class own w m)

  -- none, or a built-in class
  pub none_first : {new : State H} → s ≡ stage.Superclass → IsOwnSuperclass at.linked.now.program class_of.class_of.superclass None
      → Does content at old (Ok step_end.Done) new (λ w number x. goes (at_stage w number x called stage.Initializer (drop 1 x.frames)))
      → Steps content at old (Ok step_end.Done) new
  unfolding parts superclass_by
  none_first e none done = does_as h (λ w m. m) (λ w m. superclass_is e w m ∙ by w m class_of.class_of.superclass none) done
    where
      by : (w : World) → Matches (parts_at content at old) w → (o : Option (List ℕ)) → IsOwnSuperclass at.linked.now.program o None
          → superclass_first w (at.index + 1) (model h) called lower o ≡ goes (at_stage w (at.index + 1) (model h) called stage.Initializer lower)
      by w m None known = refl
      by w m (Some above) known = ap (superclass_by above w) (ap (λ ps. state_in ps above) (sym m.classes)
          ∙ not_listed above at.linked.now.program old.classes (others at.linked.now.program h.beside.linked.loads above known))

  pub own_within : {n : ℕ} → IsOwnSuperclass at.linked.now.program class_of.class_of.superclass (Some n) → n < length at.linked.now.program
  own_within {n} is = by class_of.class_of.superclass is
    where
      by : (o : Option (List ℕ)) → IsOwnSuperclass at.linked.now.program o (Some n) → n < length at.linked.now.program
      by None known = absurd known
      by (Some above) known = known.1

  -- a class of the program
  module _ (n : ℕ) {st : ClassState} (e : s ≡ stage.Superclass) (is : IsOwnSuperclass at.linked.now.program class_of.class_of.superclass (Some n))
      (there : slice_get old.classes n ≡ Some st) where
    own_is : Leads h step_thread (λ w. superclass_by (program_class_name at.linked.now.program n) w st)
    unfolding superclass_by
    own_is w m = superclass_is e w m ∙ by class_of.class_of.superclass is
      where
        by : (o : Option (List ℕ)) → IsOwnSuperclass at.linked.now.program o (Some n)
            → superclass_first w (at.index + 1) (model h) called lower o ≡ superclass_by (program_class_name at.linked.now.program n) w st
        by None known = absurd known
        by (Some above) known =
            ap (λ x. superclass_by x w (state_of w x)) known.0
            ∙ ap (superclass_by (program_class_name at.linked.now.program n) w) (state_here h n known.1 there w m)

    pub done_first : {new : State H} → st ≡ Done
        → Does content at old (Ok step_end.Done) new (λ w number x. goes (at_stage w number x called stage.Initializer (drop 1 x.frames)))
        → Steps content at old (Ok step_end.Done) new
    unfolding superclass_by
    done_first f done = does_as h (λ w m. m) (λ w m. own_is w m ∙ by w)
        done
      where
        by : (w : World) → superclass_by (program_class_name at.linked.now.program n) w st
            ≡ goes (at_stage w (at.index + 1) (model h) called stage.Initializer lower)
        by w = ap (superclass_by (program_class_name at.linked.now.program n) w) f

    pub own_first : {new : State H} {result : Result StepEnd Halt} → (st ≡ Done → ⊥)
        → Does content at old result new (λ w number x. push_frame w number x (initialization_frame called stage.Initializer ∷ drop 1 x.frames)
        (initialization_frame (program_class_name at.linked.now.program n) stage.Begin))
        → Steps content at old result new
    unfolding superclass_by
    own_first f done = does_as h (λ w m. m) (λ w m. own_is w m ∙ by w st f)
        done
      where
        by : (w : World) (x : ClassState) → (x ≡ Done → ⊥) → superclass_by (program_class_name at.linked.now.program n) w x ≡ push_frame w (at.index + 1)
            (model h) (initialization_frame called stage.Initializer ∷ lower) (initialization_frame (program_class_name at.linked.now.program n) stage.Begin)
        by w NotBegun g = refl
        by w (InProgress owner) g = refl
        by w Done g = absurd (g refl)
        by w Failed g = refl

  -- a frame is put on top, where there is room, and this one goes to another stage
  module _ (later : Stage) (above : Frame) {d : held.Thread} {n : ℕ} (got : d ≡ slice_index_or old.threads.items at.index d)
      (count : n ≡ vec_len d.frames) where
    abbrev pushes : World → ℕ → Thread → Next
    pushes w number x = push_frame w number x (initialization_frame called later ∷ drop 1 x.frames) above

    depth : n ≡ length (initialization_frame called later ∷ lower)
    depth =
        let f = rename_frame (name_of (content old.heap)) in
        let a : length lower ≡ length below = length-map (map (frame_part at.linked.now) below) f ∙ length-map below (frame_part at.linked.now) in
        let b = count_is (read h got) count in
        omega arith

    by_depth : World → Bool → Next
    by_depth w b = elim b [
      | true ↦ goes (with_frames w (at.index + 1) (model h) (above ∷ initialization_frame called later ∷ lower))
      | false ↦ throw w (at.index + 1) (model h) (codes "java/lang/StackOverflowError")
    ]

    pub too_deep : {new : State H} {result : Result StepEnd Halt} {error : List ℕ} → 512 ≤ n → error ≡ codes "java/lang/StackOverflowError"
        → Does content at old result new (λ w number x. throw w number x error) → Does content at old result new pushes
    unfolding by_depth
    too_deep many named done = does_as h (λ w m. m) (λ w m.
        let deep : 512 ≤ length (initialization_frame called later ∷ lower) = let a = depth in omega arith in
        ap (by_depth w) (found_no_less (length (initialization_frame called later ∷ lower)) 512 deep)
        ∙ ap (throw w (at.index + 1) (model h)) (sym named)) done

    -- one that holds no place
    pub begun : {t : held.Thread} {g : StackFrame} → n < 512 → FrameRuns at.linked.now g
        → ((q : ℕ) → Among q (refs_frame (frame_part at.linked.now g)) → ⊥) → above ≡ rename_frame (name_of (content old.heap)) (frame_part at.linked.now g)
        → Stands t (g ∷ Initialization class later ∷ below) (running h.object None)
        → Does content at old (Ok step_end.Done) (with_thread_at old at.index t) pushes
    unfolding by_depth
    begun {g = g} few runs free is s' =
        let a = depth in
        let b = count_is (read h got) count in
        let rest = frames_shape.refs (map (frame_part at.linked.now) below) in
        thread.goes h s' (with_more {g = g} runs (omega arith) (staged_runs (part_here h)))
        (inside (g ∷ Initialization class later ∷ below) (λ q z. elim (among_split q (refs_frame (frame_part at.linked.now g)) rest z) [
          | inl y ↦ absurd (free q y)
          | inr y ↦ y
        ])) (λ w m.
        ap (by_depth w) (less (length (initialization_frame called later ∷ lower)) 512 (omega arith))
        ∙ ap (λ f. goes (with_frames w (at.index + 1) (model h) (f ∷ initialization_frame called later ∷ lower))) is)

    pub not_begun : {t : held.Thread} → Stands t (Initialization class s ∷ below) (running h.object None)
        → Does content at old (Err OutOfMemory) (with_thread_at old at.index t) pushes
    not_begun s' = thread.does h (runs_with h s' (part_here h)) (λ w m. same_matches h s' w m)

-- the stage by another word
pub at_this : {H : Type 0} {content : H → Content ClassId} {at : At} {old : State H} {class : ℕ} {s z : Stage} {below : List StackFrame} → s ≡ z
    → OnThread content at old (Initialization class s ∷ below) None → OnThread content at old (Initialization class z ∷ below) None
at_this {content = content} {at = at} {old = old} {class = class} {below = below} e h =
    subst (λ y. OnThread content at old (Initialization class y ∷ below) None) e h

-- it is in progress by this thread, and its superclass is next
pub in_progress : {H : Type 0} {content : H → Content ClassId} {at : At} {old : State H} {class : ℕ} {below : List StackFrame}
    (h : OnThread content at old (Initialization class stage.Begin ∷ below) None) {new : State H} {t : held.Thread} → ChangedTo h new t
    → new.classes ≡ slice_set old.classes class (InProgress (at.index + 1)) → new.live ≡ old.live → new.output.items ≡ old.output.items
    → Stands t (Initialization class stage.Superclass ∷ below) (running h.object None)
    → Does content at old (Ok step_end.Done) new (puts_in_progress (program_class_name at.linked.now.program class))
in_progress {at = at} {class = class} {below = below} h {new} same classes live output s' =
    changes h class (own h) same classes output (class_runs h class (own h) new (InProgress (at.index + 1)) same classes live s' (staged_runs (part_here h))) s'
    (inside h (Initialization class stage.Superclass ∷ below) (λ r a. a)) (λ w m. refl)

module _ {H : Type 0} {content : H → Content ClassId} {at : At} {old : State H} {class : ℕ} {below : List StackFrame}
    (h : OnThread content at old (Initialization class stage.Begin ∷ below) None) where
  -- it begins: it is in progress, and its constants are given
  module _ (begun : slice_get old.classes class ≡ Some NotBegun) {mid : State H}
      (puts : Does content at old (Ok step_end.Done) mid (puts_in_progress (called h))) where
    put_thread : Thread
    put_thread = record (model h) { frames = initialization_frame (called h) stage.Superclass ∷ lower h }

    put_world : World → World
    put_world w = at_stage (with_state w (called h) (InProgress (at.index + 1))) (at.index + 1) (model h) (called h) stage.Superclass (lower h)

    put_matches : (w : World) → Matches (parts_at content at old) w → Matches (parts_at content at mid) (put_world w)
    unfolding put_world
    put_matches w m = puts.ends w (model h) m (thread_there h w m)

    put_there : (w : World) → Matches (parts_at content at old) w → slice_get (put_world w).threads at.index ≡ Some put_thread
    unfolding put_world put_thread
    put_there w m =
        let n : at.index ≡ at.index + 1 - 1 = omega arith in
        subst (λ i. slice_get (slice_set w.threads i put_thread) at.index ≡ Some put_thread) n
        (set_there w.threads at.index (model h) put_thread (thread_there h w m))

    pub frames_begun : OnFrames content at mid
    unfolding put_thread
    frames_begun = (seen_after h puts.runs put_world (λ w. put_thread) put_matches put_there (λ w. refl) h.world h.beside.matches).here

    pub begins : {new : State H} → Does content at mid (Ok step_end.Done) new (gives_constants (called h)) → Steps content at old (Ok step_end.Done) new
    unfolding put_world
    begins given = then_does h puts.runs put_world (λ w. put_thread) put_matches put_there (λ w m.
        begin_is h refl begun w m
        ∙ ap (λ ss. goes (record (put_world w) { statics = ss })) (constants_kept w (class_named w.program (called h)))) given
      where
        constants_kept : (w : World) (o : Option ClassParts) → constants_of w o ≡ constants_of (put_world w) o
        constants_kept w None = refl
        constants_kept w (Some c) = refl

module _ {H : Type 0} {content : H → Content ClassId} {at : At} {old : State H} {class : ℕ} {below : List StackFrame}
    (h : OnThread content at old (Initialization class stage.Begin ∷ below) None) {st : ClassState}
    (state_there : slice_get old.classes class ≡ Some st) where
  pub not_begun_there : st ≡ NotBegun → slice_get old.classes class ≡ Some NotBegun
  not_begun_there e = state_there ∙ ap Some e

  -- it is done, or this thread's
  pub skips : (owner : ℕ) {new : State H} → (st ≡ Done) ⊎ ((st ≡ InProgress owner) × (owner ≡ at.index + 1))
      → Does content at old (Ok step_end.Done) new (λ w number x. goes (with_frames w number x (drop 1 x.frames))) → Steps content at old (Ok step_end.Done) new
  skips owner (inl e) done = does_as h (λ w m. m) (λ w m. begin_is h refl state_there w m ∙ ap (begin w (at.index + 1) (model h) (called h) (lower h)) e) done
  skips owner (inr e) done = does_as h (λ w m. m) (λ w m.
      begin_is h refl state_there w m
      ∙ ap (begin w (at.index + 1) (model h) (called h) (lower h)) e.0
      ∙ ap (λ b. elim b as (λ _. Next) [ true ↦ goes (with_frames w (at.index + 1) (model h) (lower h)) | false ↦ next.blocks ])
      (alike owner (at.index + 1) e.1)) done

  -- it is another thread's
  pub waits : {owner : ℕ} → st ≡ InProgress owner → (owner ≡ at.index + 1 → ⊥) → Steps content at old (Ok step_end.Blocked) old
  waits {owner} e n = blocks h (λ w m.
      begin_is h refl state_there w m
      ∙ ap (begin w (at.index + 1) (model h) (called h) (lower h)) e
      ∙ ap (λ b. elim b as (λ _. Next) [ true ↦ goes (with_frames w (at.index + 1) (model h) (lower h)) | false ↦ next.blocks ])
      (differ owner (at.index + 1) n))

  -- it has failed
  pub refuses : st ≡ Failed → {new : State H} {result : Result StepEnd Halt}
      → Does content at old result new (λ w number x. throw w number (record x { frames = drop 1 x.frames }) (codes "java/lang/NoClassDefFoundError"))
      → Steps content at old result new
  refuses e done = does_as h (λ w m. m) (λ w m. begin_is h refl state_there w m ∙ ap (begin w (at.index + 1) (model h) (called h) (lower h)) e) done
