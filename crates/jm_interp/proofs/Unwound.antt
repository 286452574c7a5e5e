-- A stage of unwinding beside the model's.
use Rattle.std.proofs.Common.{◌≡◌, ℕ, ◌+◌, ◌<◌, ◌≤◌, List, [], ◌∷◌, ◌++◌, Option, Some, None, Bool, true, false, drop, refl, sym, ap, ◌∙◌, subst}
use Rattle.std.proofs.Common.{inl, length, arith, length-append}
use Rattle.std.specs.Prelude.{map, option_map, unwrap_or, slice_index_or, vec_len, Result, Ok, codes}
use Rattle.std.specs.List.{AllByRecursion}
use Rattle.std.proofs.lemmas.List.{length-map}
use Rattle.std.proofs.lemmas.Option.{slice_get_past}
use Rattle.jm_program.specs.declared.class.ClassParts.{ClassParts}
use Rattle.jm_program.specs.declared.code.Handler.{Handler}
use Rattle.jm_builtins.specs.List.{the_builtins}
use Rattle.jm_values.specs.Rename.{rename_activation}
use Rattle.jm_world.specs.Types.{ObjectType}
use Rattle.jm_values.specs.Objects.{ObjectOf}
use Rattle.jm_frames.specs.FrameView.{FrameView}
use Rattle.jm_world.specs.Classes.{as_class, method_named, error_class}
use Rattle.jm_world.specs.Frames.{Frame, rename_frame}
use Rattle.jm_world.specs.Here.{with_frames}
use Rattle.jm_world.specs.Monitors.{leave_if}
use Rattle.jm_world.specs.Next.{Next, faults, goes}
use Rattle.jm_world.specs.Throwing.{unwind_frames, unwound, unwound_anew, drop_method, drop_initialization}
use Rattle.jm_world.specs.Throwing.{handle, handler_in, handlers_of, class_name, is_kind_of}
use Rattle.jm_world.specs.World.{World, Thread, Ending, ended_by, with_state}
use Rattle.jm_values.specs.Content.{Content, name_of, serial_at, object_at}
use Rattle.jm_world.specs.Matches.{Matches}
use Rattle.jm_world.specs.Stepping.{step_thread}
use Rattle.jm_world.specs.declared.class_state.ClassState.TheVariants.{Failed}
use Rattle.jm_values.specs.declared.fault.TagFault.TheVariants.{WrongKind}
use Rattle.jm_heap.specs.declared.class_id.ClassId.{ClassId}
use Rattle.jm_heap.specs.declared.class_id.ClassId.TheVariants.{Instance, Array}
use Rattle.jm_heap.specs.declared.class_id.Component.{Component}
use Rattle.jm_linked.specs.Links.{NamesClass, name_of_number, class_name_of, class_names, class_numbered}
use Rattle.jm_state.specs.Parts.{parts, frame_part, named_type, program_class_name}
use Rattle.jm_state.specs.Runnable.{FrameRuns}
use Rattle.jm_state.specs.declared.halt.Halt.{Halt}
use Rattle.jm_state.specs.declared.halt.StepEnd.{StepEnd}
use Rattle.jm_state.specs.declared.halt.StepEnd.TheVariants.{Done}
use Rattle.jm_state.specs.declared.state.State.{State}
use Rattle.jm_state.specs.declared.thread.StackFrame.{StackFrame}
use Rattle.jm_state.specs.declared.thread.StackFrame.TheVariants.{Method, Initialization, Entry}
use Rattle.jm_state.specs.declared.thread.Thread as held
use Rattle.jm_interp.specs.declared.at.At.{At}
use Rattle.jm_interp.specs.At.{parts_at, in_method, OnThread, Does, Steps}
use Rattle.jm_interp.specs.Ending.{ended_as, unwound_to}
use Rattle.jm_interp.specs.Catching.{InThrowing, dropped_by, failed_by, handles, is_of, monitor_of, target_in, target_on_top}
use Rattle.jm_interp.specs.Initializing.{class_on_top}
use Rattle.jm_interp.proofs.Caught.{InMethodFrame, in_method_frame, begins, begins_not, begins_at, kind_is}
use Rattle.jm_interp.proofs.Objects.{IsObject, object_of, told}
use Rattle.jm_interp.proofs.OnThread.{Leads, lower, model, read, as_frames, does_as, held_pending, part_here}
use Rattle.jm_values.proofs.Lists.{get_map, get_there, got_within}
use Rattle.jm_interp.proofs.Threads.{HasTwo, tail_of, two_frames, few_frames}

many_names : (program : List ClassParts) → length (class_names program) ≡ length the_builtins + length program
many_names program =
    length-append (map (λ b. b.name) the_builtins) (map (λ c. c.name) program)
    ∙ ap (λ k. length (map (λ b. b.name) the_builtins) + k) (length-map program (λ c. c.name))

-- the names of what ends a thread
pub instance_name : (program : List ClassParts) (id : ClassId) (n : ℕ) → id ≡ Instance n → class_name_of program n ≡ class_name (named_type program id)
unfolding named_type
instance_name program id n e = ap (λ x. class_name (named_type program x)) (sym e)

pub array_name : (program : List ClassParts) (id : ClassId) (component : Component) (n : ℕ) → id ≡ Array component → length the_builtins + length program ≤ n
    → class_name_of program n ≡ class_name (named_type program id)
unfolding named_type class_name_of
array_name program id component n e far =
    let a = many_names program in
    ap (λ o. unwrap_or o []) (slice_get_past (class_names program) n (omega arith)) ∙ ap (λ x. class_name (named_type program x)) (sym e)

-- a number of a class names it
pub names_class : (program : List ClassParts) (n : ℕ) → n < length the_builtins + length program → NamesClass program n (class_name_of program n)
unfolding class_name_of
names_class program n lt =
    let many = many_names program in
    let there = get_there (class_names program) n (omega arith) in
    there.1 ∙ sym (ap (λ o. Some (unwrap_or o [])) there.1)

-- a class by its number is named by it
pub named_numbered : (program : List ClassParts) (n : ℕ) (c : ClassParts) → class_numbered program n ≡ Some c → NamesClass program n c.name
named_numbered program n c e = get_map (λ (d : ClassParts). d.name) (map as_class the_builtins ++ program) n c e

pub named_within : (program : List ClassParts) (n : ℕ) (name : List ℕ) → NamesClass program n name → n < length the_builtins + length program
named_within program n name at = subst (λ k. n < k) (many_names program) (got_within (class_names program) n name at)

module _ {H : Type 0} {content : H → Content ClassId} {at : At} {old : State H} {fs : List StackFrame} {place : ℕ}
    (h : OnThread content at old fs (Some place)) where
  -- the pending exception lies in the heap
  pub thrown : IsObject h place
  thrown = object_of h place (held_pending h place (inl refl))

  -- the stage, from the frames
  unwinds : Leads h step_thread (λ w. unwind_frames w (at.index + 1) (model h) (lower h fs) (name_of (content old.heap) place)
      (named_type at.linked.now.program thrown.object.type))
  unwinds w m =
      let f = name_of (content old.heap) in
      ap (λ o. elim o as (λ _. Next) [ None ↦ faults WrongKind | Some z ↦ unwind_frames w (at.index + 1) (model h) (model h).frames (f place) z.type ])
      (thrown.in_world w m)

  -- no method catches: the top frame is dropped, by whether its monitor was left
  by_leaving : World → List Frame → ℕ → ObjectType → Option World → Next
  by_leaving w below k type o = elim o as (λ _. Next) [
    | Some left ↦ unwound left (at.index + 1) (model h) below k type
    | None ↦ unwound_anew w w (at.index + 1) (model h) below (codes "java/lang/IllegalMonitorStateException")
  ]

  frames_left : (gs : List StackFrame) → class_on_top gs ≡ None → (w : World) (k : ℕ) (type : ObjectType) → target_on_top w at.linked.now type gs ≡ None
      → unwind_frames w (at.index + 1) (model h) (lower h gs) k type
      ≡ by_leaving w (drop 1 (lower h gs)) k type (leave_if w (at.index + 1) (monitor_of (lower h gs)))
  unfolding by_leaving
  frames_left [] none w k type missed = refl
  frames_left (Initialization class stage ∷ gs) none w k type missed = cc
  frames_left (Entry ∷ gs) none w k type missed = refl
  frames_left (Method v ∷ gs) none w k type missed =
      let l = at.linked.now in
      let f = name_of (content old.heap) in
      let below = map (rename_frame f) (map (frame_part l) gs) in
      let found = handler_in w v.activation.at type (handlers_of (method_named w.program (name_of_number l v.method))) in
      ap (λ o. elim o as (λ _. Next) [
        | Some r ↦ handle w (at.index + 1) (model h) (name_of_number l v.method) (rename_activation f v.activation) (option_map f v.monitor) below k r
        | None ↦ drop_method w (at.index + 1) (model h) (option_map f v.monitor) below k type
      ]) (begins_not found missed)

  -- the top frame's method catches
  frames_caught : (v : FrameView) (gs : List StackFrame) (target : ℕ) (w : World) (x : Thread) (k : ℕ) (type : ObjectType)
      → target_in w at.linked.now v.method v.activation.at type ≡ Some target
      → unwind_frames w (at.index + 1) x (lower h (Method v ∷ gs)) k type
      ≡ handle w (at.index + 1) x (name_of_number at.linked.now v.method) (rename_activation (name_of (content old.heap)) v.activation)
      (option_map (name_of (content old.heap)) v.monitor) (lower h gs) k (begins_at target)
  frames_caught v gs target w x k type caught =
      let l = at.linked.now in
      let f = name_of (content old.heap) in
      let below = map (rename_frame f) (map (frame_part l) gs) in
      let found = handler_in w v.activation.at type (handlers_of (method_named w.program (name_of_number l v.method))) in
      let b = begins found target caught in
      ap (λ o. elim o as (λ _. Next) [
        | Some r ↦ handle w (at.index + 1) x (name_of_number l v.method) (rename_activation f v.activation) (option_map f v.monitor) below k r
        | None ↦ drop_method w (at.index + 1) x (option_map f v.monitor) below k type
      ]) b.is
      ∙ ap (λ n. handle w (at.index + 1) x (name_of_number l v.method) (rename_activation f v.activation) (option_map f v.monitor) below k (begins_at n))
      b.there

  -- an initialization fails its class
  frames_fail : (gs : List StackFrame) (class : ℕ) → class_on_top gs ≡ Some class → (w : World) (x : Thread) (k : ℕ) (type : ObjectType)
      → unwind_frames w (at.index + 1) x (lower h gs) k type
      ≡ drop_initialization w (at.index + 1) x (program_class_name at.linked.now.program class) (drop 1 (lower h gs)) k type
  frames_fail [] class on w x k type = cc
  frames_fail (Method v ∷ gs) class on w x k type = cc
  frames_fail (Entry ∷ gs) class on w x k type = cc
  frames_fail (Initialization c stage ∷ gs) class on w x k type =
      let same : c ≡ class = cc in
      ap (λ z. drop_initialization w (at.index + 1) x (program_class_name at.linked.now.program z) (lower h gs) k type) same

  -- the thread keeps the exception, or ends by its class
  left_is : (w : World) (gs : List Frame) (type : ObjectType) → unwound w (at.index + 1) (model h) gs (name_of (content old.heap) place) type
      ≡ unwound_to w (at.index + 1) (model h) gs (ended_by (class_name type))
  left_is w [] type = refl
  left_is w (g ∷ gs) type = refl

  -- what the heap says of the exception's mark
  abbrev Tells : ClassId → Type 0
  Tells id = (k : ℕ) (o : ObjectOf ClassId) → serial_at (content old.heap) place ≡ Some k → object_at (content old.heap) k ≡ Some o → id ≡ o.type

  abbrev type_of : ClassId → ObjectType
  type_of id = named_type at.linked.now.program id

  ends_as : {id : ClassId} {e : Ending} → Tells id → e ≡ ended_by (class_name (type_of id)) → ended_by (class_name (type_of thrown.object.type)) ≡ e
  ends_as tells ended = ap (λ x. ended_by (class_name (type_of x))) (sym (told h thrown tells)) ∙ sym ended

  -- where the first handler begins that catches it
  abbrev Finds : Option ℕ → ClassId → Type 0
  Finds found id = (w : World) → w.program ≡ at.linked.now.program → found ≡ target_on_top w at.linked.now (type_of id) fs

  finds_for : {found : Option ℕ} {id : ClassId} → Tells id → Finds found id → (w : World) → Matches (parts_at content at old) w
      → target_on_top w at.linked.now (type_of thrown.object.type) fs ≡ found
  unfolding parts
  finds_for tells finds w m = ap (λ x. target_on_top w at.linked.now (type_of x) fs) (sym (told h thrown tells)) ∙ sym (finds w (sym m.program))

  -- a method's frame in which no handler catches, or none
  dropped_so : {id : ClassId} {e : Ending} → Tells id → e ≡ ended_by (class_name (type_of id)) → (w : World) (o : Option World)
      → by_leaving w (drop 1 (lower h fs)) (name_of (content old.heap) place) (type_of thrown.object.type) o ≡ (elim o as (λ _. Next) [
        | Some left ↦ unwound_to left (at.index + 1) (model h) (drop 1 (lower h fs)) e
        | None ↦ unwound_anew w w (at.index + 1) (model h) (drop 1 (lower h fs)) (codes "java/lang/IllegalMonitorStateException")
      ])
  unfolding by_leaving
  dropped_so tells ended w (Some left) =
      left_is left (drop 1 (lower h fs)) (type_of thrown.object.type)
      ∙ ap (unwound_to left (at.index + 1) (model h) (drop 1 (lower h fs))) (ends_as tells ended)
  dropped_so tells ended w None = refl

  pub leaves_method : {id : ClassId} {e : Ending} {result : Result StepEnd Halt} {new : State H} {found : Option ℕ} → class_on_top fs ≡ None → Tells id
      → e ≡ ended_by (class_name (type_of id)) → Finds found id → found ≡ None
      → Does content at old result new (dropped_by e) → Steps content at old result new
  leaves_method none tells ended finds missed done = does_as h (λ w m. m) (λ w m.
      unwinds w m
      ∙ frames_left fs none w (name_of (content old.heap) place) (type_of thrown.object.type) (finds_for tells finds w m ∙ missed)
      ∙ dropped_so tells ended w (leave_if w (at.index + 1) (monitor_of (lower h fs)))) done

  -- a method's frame in which a handler catches
  module _ {id : ClassId} {target : ℕ} {found : Option ℕ} (tells : Tells id) (finds : Finds found id) (caught : found ≡ Some target) where
    frame_in : (w : World) → Matches (parts_at content at old) w → InMethodFrame w at.linked.now (type_of thrown.object.type) fs target
    frame_in w m = in_method_frame w at.linked.now (type_of thrown.object.type) fs target (finds_for tells finds w m ∙ caught)

    pub in_throwing : InThrowing content at old place
    in_throwing =
        let top = frame_in h.world h.beside.matches in
        record { frame = top.frame; below = top.below; on = as_frames h top.is }

    pub goes_to_handler : {new : State H} {result : Result StepEnd Halt}
        → ((handler : Handler) → handler.target ≡ target → Does content at old result new (handles handler)) → Steps content at old result new
    goes_to_handler done = does_as h (λ w m. m) (λ w m.
        let top = frame_in w m in
        let k = name_of (content old.heap) place in
        let type = type_of thrown.object.type in
        unwinds w m ∙ by w top.frame top.below type top.is top.found) (done (begins_at target) refl)
      where
        by : (w : World) (v : FrameView) (gs : List StackFrame) (type : ObjectType) → fs ≡ Method v ∷ gs
            → target_in w at.linked.now v.method v.activation.at type ≡ Some target
            → unwind_frames w (at.index + 1) (model h) (lower h fs) (name_of (content old.heap) place) type
            ≡ handles (begins_at target) w (at.index + 1) (model h)
        by w v gs type is found =
            subst (λ xs. unwind_frames w (at.index + 1) (model h) (lower h xs) (name_of (content old.heap) place) type
            ≡ in_method (λ here. handle here.world here.number here.thread here.method here.frame here.monitor here.below
            (name_of (content old.heap) place) (begins_at target)) w (at.index + 1) (record (model h) { frames = lower h xs })) (sym is)
            (frames_caught v gs target w (model h) (name_of (content old.heap) place) type found)

  -- an initialization's
  module _ {class : ℕ} (on : class_on_top fs ≡ Some class) where
    pub class_in : class < length at.linked.now.program
    class_in = by fs on (part_here h).runs.frames
      where
        by : (gs : List StackFrame) → class_on_top gs ≡ Some class → AllByRecursion (FrameRuns at.linked.now) gs → class < length at.linked.now.program
        by [] e all = cc
        by (Method v ∷ gs) e all = cc
        by (Entry ∷ gs) e all = cc
        by (Initialization c stage ∷ gs) e all = let same : c ≡ class = cc in subst (λ z. z < length at.linked.now.program) same all.0

    abbrev name : List ℕ
    name = program_class_name at.linked.now.program class

    -- by whether it is an Error
    by_kind : World → Bool → Next
    by_kind w b = elim b [
      | true ↦ unwound (with_state w name Failed) (at.index + 1) (model h) (drop 1 (lower h fs)) (name_of (content old.heap) place) (type_of thrown.object.type)
      | false ↦ unwound_anew w (with_state w name Failed) (at.index + 1) (model h) (drop 1 (lower h fs)) (codes "java/lang/ExceptionInInitializerError")
    ]

    kind_in : (w : World) → Matches (parts_at content at old) w → {id : ClassId} → Tells id
        → is_kind_of w (type_of thrown.object.type) error_class ≡ is_of at.linked.now.program (type_of id) error_class
    unfolding parts
    kind_in w m tells =
        sym (kind_is w at.linked.now.program (sym m.program) (type_of thrown.object.type) error_class)
        ∙ ap (λ x. is_of at.linked.now.program (type_of x) error_class) (sym (told h thrown tells))

    ends_by : (w : World) {id : ClassId} {e : Ending} → Tells id → e ≡ ended_by (class_name (type_of id)) → (b : Bool)
        → by_kind w b ≡ failed_by b name e w (at.index + 1) (model h)
    unfolding by_kind
    ends_by w tells ended true =
        left_is (with_state w name Failed) (drop 1 (lower h fs)) (type_of thrown.object.type)
        ∙ ap (unwound_to (with_state w name Failed) (at.index + 1) (model h) (drop 1 (lower h fs))) (ends_as tells ended)
    ends_by w tells ended false = refl

    pub fails : {id : ClassId} {e : Ending} {new : State H} {result : Result StepEnd Halt} → Tells id → e ≡ ended_by (class_name (type_of id))
        → Does content at old result new (failed_by (is_of at.linked.now.program (type_of id) error_class) name e) → Steps content at old result new
    unfolding by_kind
    fails {id} tells ended done = does_as h (λ w m. m) (λ w m.
        unwinds w m
        ∙ frames_fail fs class on w (model h) (name_of (content old.heap) place) (type_of thrown.object.type)
        ∙ ap (by_kind w) (kind_in w m tells)
        ∙ ends_by w tells ended (is_of at.linked.now.program (type_of id) error_class)) done

-- by whether it is an Error
pub fails_so : {H : Type 0} {content : H → Content ClassId} {at : At} {old new : State H} {result : Result StepEnd Halt} {told is b : Bool}
    (class : List ℕ) (e : Ending) → told ≡ is → told ≡ b → Does content at old result new (failed_by b class e)
    → Does content at old result new (failed_by is class e)
fails_so {content = content} {at = at} {old = old} {new = new} {result = result} class e same now done =
    subst (λ x. Does content at old result new (failed_by x class e)) (sym now ∙ same) done

-- the top frame is dropped, by how many there are
module _ {H : Type 0} {content : H → Content ClassId} {at : At} {old : State H} {fs : List StackFrame} {p : Option ℕ} (h : OnThread content at old fs p)
    {d : held.Thread} {n : ℕ} (got : d ≡ slice_index_or old.threads.items at.index d) (count : n ≡ vec_len d.frames) {new : State H} {e : Ending} where
  pub frame_left : 1 < n → Does content at old (Ok Done) new (λ w number t. goes (with_frames w number t (drop 1 t.frames)))
      → Does content at old (Ok Done) new (λ w number t. unwound_to w number t (drop 1 t.frames) e)
  frame_left many done = does_as h (λ w m. m) (λ w m. by w (two_frames (read h got) count many)) done
    where
      by : (w : World) → HasTwo fs
          → unwound_to w (at.index + 1) (model h) (drop 1 (lower h fs)) e ≡ goes (with_frames w (at.index + 1) (model h) (drop 1 (lower h fs)))
      by w two = subst (λ gs. unwound_to w (at.index + 1) (model h) (drop 1 (lower h gs)) e
          ≡ goes (with_frames w (at.index + 1) (model h) (drop 1 (lower h gs)))) (sym two.is) refl

  pub none_left : n ≤ 1 → Does content at old (Ok Done) new (λ w number t. goes (ended_as w number t e))
      → Does content at old (Ok Done) new (λ w number t. unwound_to w number t (drop 1 t.frames) e)
  none_left few done = does_as h (λ w m. m) (λ w m. by w fs (few_frames (read h got) count few)) done
    where
      by : (w : World) (gs : List StackFrame) → tail_of gs ≡ []
          → unwound_to w (at.index + 1) (model h) (drop 1 (lower h gs)) e ≡ goes (ended_as w (at.index + 1) (model h) e)
      by w [] none = refl
      by w (g ∷ gs) none = ap (λ x. unwound_to w (at.index + 1) (model h) (lower h x) e) none
