-- Which handler catches an exception, and the top frame that goes to it.
use Rattle.std.proofs.Common.{◌≡◌, ℕ, ◌+◌, ◌-◌, ◌<◌, ◌≤◌, List, [], ◌∷◌, ◌++◌, Option, Some, None, Bool, true, false}
use Rattle.std.proofs.Common.{refl, sym, ap, ◌∙◌, subst, inl, inr, length, drop, reverse, arith}
use Rattle.std.proofs.lemmas.Bool.Decides.{nat_tests}
use Rattle.std.proofs.lemmas.List.{drop_more, drop_all, length-reverse}
use Rattle.std.specs.Prelude.{map, option_map, nat_le, nat_lt, ◌&&◌, is_some, not, slice_get, slice_set, slice_index_or, vec_len, Ok, Err}
use Rattle.std.specs.List.{AllByRecursion}
use Rattle.jm_program.specs.declared.class.ClassParts.{ClassParts}
use Rattle.jm_program.specs.declared.code.Handler.{Handler}
use Rattle.jm_frames.specs.FrameView.{FrameView, with_stack, gone_to}
use Rattle.jm_values.specs.Activation.{units}
use Rattle.jm_values.specs.Content.{Content, name_of}
use Rattle.jm_values.specs.Rename.{refs_activation, locals_shape, stack_shape}
use Rattle.jm_values.specs.declared.fault.TagFault.{TagFault}
use Rattle.jm_values.specs.declared.fault.TagFault.TheVariants.{Overflow}
use Rattle.jm_values.specs.declared.value.Value.{Value}
use Rattle.jm_values.specs.declared.value.Value.TheVariants.{Int, Long, Null, Ref}
use Rattle.jm_values.proofs.Among.{among_left, among_right, among_split}
use Rattle.jm_values.proofs.Lists.{get_at, top_set}
use Rattle.jm_world.specs.Classes.{method_named}
use Rattle.jm_world.specs.Frames.{method_frame, frames_shape, optional_number_shape}
use Rattle.jm_world.specs.Hierarchy.{is_subclass}
use Rattle.jm_world.specs.Next as next
use Rattle.jm_world.specs.Next.{Next, faults}
use Rattle.jm_world.specs.Throwing as in_model
use Rattle.jm_world.specs.Throwing.{catches, catches_type, handlers_of, is_kind_of}
use Rattle.jm_world.specs.Types.{ObjectType, instance_of, array_of}
use Rattle.jm_world.specs.World.{World, held_shape, with_thread}
use Rattle.jm_world.specs.declared.stop.Stop.TheVariants as why
use Rattle.jm_heap.specs.declared.class_id.ClassId.{ClassId}
use Rattle.jm_linked.specs.Links.{LinkedView, IsLinked, CatchesClass, class_name_of, handler_in, name_of_number}
use Rattle.jm_linked.specs.declared.method.LinkedHandler.{LinkedHandler}
use Rattle.jm_linked.specs.declared.method.LinkedMethod.{LinkedMethod}
use Rattle.jm_state.specs.Ends.{Ended}
use Rattle.jm_state.specs.Parts.{frame_part}
use Rattle.jm_state.specs.declared.halt.Halt.TheVariants.{Stopped}
use Rattle.jm_state.specs.declared.halt.StepEnd.TheVariants.{Done}
use Rattle.jm_state.specs.declared.state.State.{State}
use Rattle.jm_state.specs.declared.thread.StackFrame.{StackFrame}
use Rattle.jm_state.specs.declared.thread.StackFrame.TheVariants.{Method, Initialization, Entry}
use Rattle.jm_state.specs.declared.thread.Thread as held
use Rattle.jm_interp.specs.declared.at.At.{At}
use Rattle.jm_interp.specs.At.{parts_at, HoldsAll, Does}
use Rattle.jm_interp.specs.Catching.{Caught, InThrowing, handles, is_of, target_among, target_in, target_on_top}
use Rattle.jm_interp.specs.Standing.{ThreadRest, rest_of, running, InAnyMethod, RunsMethod, Stands}
use Rattle.jm_interp.proofs.Fetching as fetching
use Rattle.jm_interp.proofs.OnThread.{Leads, with_thread_at, model, lower, read, part_here, held_frames, held_pending, runs_with, same_matches, does, goes}
use Rattle.jm_interp.proofs.Threads.{PartRuns, part_refs, with_top}
use Rattle.jm_interp.proofs.TopFrames.{top_other}

-- a class of a type, in a world of the program
pub kind_is : (w : World) (program : List ClassParts) → w.program ≡ program → (type : ObjectType) (above : List ℕ)
    → is_of program type above ≡ is_kind_of w type above
kind_is w program same (instance_of class) above = ap (λ p. is_subclass p class above) (sym same)
kind_is w program same (array_of component) above = refl

-- a handler with the number of a class, in whose range the instruction is
pub catches_named : (w : World) (program : List ClassParts) (type : ObjectType) (h : LinkedHandler) (index class : ℕ) (b : Bool) → w.program ≡ program
    → h.catch_type ≡ Some class → h.start ≤ index → index < h.end → b ≡ is_of program type (class_name_of program class)
    → b ≡ catches w index type (handler_in program h)
catches_named w program type h index class b same is from before told =
    let first : nat_le h.start index ≡ true = grind (arith, nat_tests) in
    let last : nat_lt index h.end ≡ true = grind (arith, nat_tests) in
    told
    ∙ kind_is w program same type (class_name_of program class)
    ∙ ap (λ o. catches_type w type (option_map (class_name_of program) o)) (sym is)
    ∙ sym (ap (λ x. elim x as (λ _. Bool) [ true ↦ catches_type w type (handler_in program h).catch_type | false ↦ false ])
    (ap (λ x. x && nat_lt index h.end) first ∙ last))

-- the method that is read at a number
pub method_there : (l : LinkedView) (k : ℕ) (m : LinkedMethod) {ms : List LinkedMethod} → k < length l.methods → ms ≡ l.methods → m ≡ slice_index_or ms k m
    → slice_get l.methods k ≡ Some m
method_there l k m {ms} there same at = get_at l.methods k m there (at ∙ ap (λ xs. slice_index_or xs k m) same)

-- the handlers of a linked method
pub handlers_are : (l : LinkedView) (linked : IsLinked l) (k : ℕ) (m : LinkedMethod) → slice_get l.methods k ≡ Some m
    → handlers_of (method_named l.program (name_of_number l k)) ≡ map (handler_in l.program) m.handlers
handlers_are l linked k m is =
    let links = linked.methods k m is in
    ap handlers_of (fetching.method_is l linked k m is)
    ∙ ap (λ o. elim o as (λ _. List Handler) [ None ↦ [] | Some code ↦ code.handlers ]) links.code_is
    ∙ sym links.handlers

-- and each names a class
pub handlers_named : (l : LinkedView) (linked : IsLinked l) (k : ℕ) (m : LinkedMethod) → slice_get l.methods k ≡ Some m
    → AllByRecursion (CatchesClass l.program) m.handlers
handlers_named l linked k m is = (linked.methods k m is).catch_types

pub target_there : (w : World) (l : LinkedView) (linked : IsLinked l) (k : ℕ) (m : LinkedMethod) (index : ℕ) (type : ObjectType) → w.program ≡ l.program
    → slice_get l.methods k ≡ Some m → target_among w l.program index type m.handlers ≡ target_in w l k index type
target_there w l linked k m index type same is =
    ap (λ hs. option_map (λ (h : Handler). h.target) (in_model.handler_in w index type hs)) (sym (handlers_are l linked k m is))
    ∙ ap (λ p. option_map (λ (h : Handler). h.target) (in_model.handler_in w index type (handlers_of (method_named p (name_of_number l k))))) (sym same)

-- a handler that does not catch is passed
pub passed : (w : World) (program : List ClassParts) (index : ℕ) (type : ObjectType) (hs : List LinkedHandler) (i : ℕ) (d : LinkedHandler) {b : Bool}
    → i < length hs → b ≡ catches w index type (handler_in program (slice_index_or hs i d)) → b ≡ false
    → target_among w program index type (drop i hs) ≡ target_among w program index type (drop (i + 1) hs)
passed w program index type hs i d there told not =
    ap (target_among w program index type) (drop_more hs i d there)
    ∙ ap (λ b. option_map (λ (h : Handler). h.target) (elim b as (λ _. Option Handler) [
      | true ↦ Some (handler_in program (slice_index_or hs i d))
      | false ↦ in_model.handler_in w index type (map (handler_in program) (drop (i + 1) hs))
    ])) (sym told ∙ not)

-- the room for the exception: without an operand and without room, max_stack is 0
pub no_room : (v : FrameView) {o : Option Value} {none room : Bool} → o ≡ slice_get v.activation.stack 0 → is_some o ≡ not none → none ≡ true
    → room ≡ nat_le (units v.activation.stack + 1) v.activation.max_stack → room ≡ false → v.activation.max_stack ≡ 0
no_room v {o} {none} {room} got tested empty told full = by v.activation.stack (sym (ap is_some got) ∙ tested ∙ ap not empty) (sym told ∙ full)
  where
    by : (s : List Value) → is_some (slice_get s 0) ≡ false → nat_le (units s + 1) v.activation.max_stack ≡ false → v.activation.max_stack ≡ 0
    by [] e full = grind (arith, nat_tests)
    by (x ∷ s) e full = cc

pub room_free : (v : FrameView) {room : Bool} → room ≡ nat_le (units v.activation.stack + 1) v.activation.max_stack → room ≡ true → 1 ≤ v.activation.max_stack
room_free v {room} told free = let is : nat_le (units v.activation.stack + 1) v.activation.max_stack ≡ true = sym told ∙ free in grind (arith, nat_tests)

one_unit : (v : Value) (s : List Value) → 1 ≤ units (v ∷ s)
one_unit (Int n) s = omega arith
one_unit (Long n) s = omega arith
one_unit Null s = omega arith
one_unit (Ref p) s = omega arith

pub room_taken : (v : FrameView) {o : Option Value} {none : Bool} → o ≡ slice_get v.activation.stack 0 → is_some o ≡ not none → none ≡ false
    → units v.activation.stack ≤ v.activation.max_stack → 1 ≤ v.activation.max_stack
room_taken v {o} {none} got tested some fits = by v.activation.stack (sym (ap is_some got) ∙ tested ∙ ap not some) fits
  where
    by : (s : List Value) → is_some (slice_get s 0) ≡ true → units s ≤ v.activation.max_stack → 1 ≤ v.activation.max_stack
    by [] e fits = cc
    by (x ∷ s) e fits = let one = one_unit x s in omega arith

-- the top frame by the name that a call knows it by
pub same_limit : {f v : FrameView} {d : StackFrame} → d ≡ Method f → d ≡ Method v → (P : ℕ → Type 0) → P v.activation.max_stack → P f.activation.max_stack
same_limit {f} {v} top is P holds = let same : v ≡ f = cc in subst (λ (x : FrameView). P x.activation.max_stack) same holds

-- the exception is alone among the operands, and the frame is at the handler
pub gone_there : (t new : held.Thread) (f v m g : FrameView) (place target count : ℕ) (operands : List Value) (below : List StackFrame) (r : ThreadRest)
    (d : StackFrame) → Stands t (Method f ∷ below) r → d ≡ Method f → d ≡ Method v → reverse operands ≡ v.activation.stack → count ≡ length operands
    → m ≡ with_stack v (Ref place ∷ drop count v.activation.stack) → g ≡ gone_to m target
    → new.frames.items ≡ slice_set t.frames.items (vec_len t.frames - 1) (Method g) → rest_of new ≡ record (rest_of t) { pending = None }
    → Stands new (Method (gone_to (with_stack f (Ref place ∷ [])) target) ∷ below) (record r { pending = None })
gone_there t new f v m g place target count operands below r d s top is all counted replaced gone frames rest =
    let same : v ≡ f = cc in
    let alone : drop count v.activation.stack ≡ [] =
    ap (λ n. drop n v.activation.stack) (counted ∙ sym (length-reverse operands) ∙ ap length all)
    ∙ drop_all (length v.activation.stack) v.activation.stack (omega arith) in
    let to : g ≡ gone_to (with_stack f (Ref place ∷ [])) target =
    gone
    ∙ ap (λ (x : FrameView). gone_to x target) replaced
    ∙ ap (λ s. gone_to (with_stack v (Ref place ∷ s)) target) alone
    ∙ ap (λ (x : FrameView). gone_to (with_stack x (Ref place ∷ [])) target) same in
    subst (λ x. Stands new (Method x ∷ below) (record r { pending = None })) to (record {
      frames_are = ap reverse frames ∙ top_set t.frames.items (Method f) (Method g) below (vec_len t.frames) s.frames_are t.frames.ok.0;
      rest_is = rest ∙ ap (λ (x : ThreadRest). record x { pending = None }) s.rest_is;
    })

-- the top frame is as it was
pub stays_there : (t new : held.Thread) (f v : FrameView) (below : List StackFrame) (r : ThreadRest) (d : StackFrame) → Stands t (Method f ∷ below) r
    → d ≡ Method f → d ≡ Method v → new.frames.items ≡ slice_set t.frames.items (vec_len t.frames - 1) (Method v) → rest_of new ≡ rest_of t
    → Stands new (Method f ∷ below) r
stays_there t new f v below r d s top is frames rest =
    let same : v ≡ f = cc in
    subst (λ x. Stands new (Method x ∷ below) r) same (top_other t new (Method f) (Method v) below r s frames rest)

-- what is found where a method runs
pub record InMethodFrame (w : World) (l : LinkedView) (type : ObjectType) (fs : List StackFrame) (target : ℕ) : Type 0 where
  pub frame : FrameView
  pub below : List StackFrame
  pub is : fs ≡ Method frame ∷ below
  pub found : target_in w l frame.method frame.activation.at type ≡ Some target

pub in_method_frame : (w : World) (l : LinkedView) (type : ObjectType) (fs : List StackFrame) (target : ℕ) → target_on_top w l type fs ≡ Some target
    → InMethodFrame w l type fs target
in_method_frame w l type [] target e = cc
in_method_frame w l type (Method f ∷ fs) target e = record { frame = f; below = fs; is = refl; found = e }
in_method_frame w l type (Initialization class stage ∷ fs) target e = cc
in_method_frame w l type (Entry ∷ fs) target e = cc

-- a handler of which only that is so
abbrev pub begins_at : ℕ → Handler
begins_at target = record { start = 0; end = 0; target = target; catch_type = None }

-- a handler that is found, by where it begins
pub record Begins (o : Option Handler) (target : ℕ) : Type 0 where
  pub handler : Handler
  pub is : o ≡ Some handler
  pub there : handler.target ≡ target

pub begins : (o : Option Handler) (target : ℕ) → option_map (λ (h : Handler). h.target) o ≡ Some target → Begins o target
begins None target e = cc
begins (Some h) target e = record { handler = h; is = refl; there = cc }

pub begins_not : (o : Option Handler) → option_map (λ (h : Handler). h.target) o ≡ None → o ≡ None
begins_not None e = refl
begins_not (Some h) e = cc

-- the step to a handler
module _ {H : Type 0} {content : H → Content ClassId} {at : At} {old : State H} {place : ℕ} (h : InThrowing content at old place) where
  pub runs_there : {t : held.Thread} → t ≡ slice_index_or old.threads.items at.index t → RunsMethod t
  runs_there got = (h.frame, h.below, _, read h.on got)

  -- the model's side, by whether the operand has room
  choose : World → Handler → Bool → Next
  choose w handler room =
      let f = name_of (content old.heap) in
      elim room as (λ _. Next) [
        | false ↦ faults Overflow
        | true ↦ next.goes (with_thread w (at.index + 1) (record {
          object = (model h.on).object;
          frames = method_frame (name_of_number at.linked.now h.frame.method) (record {
            at = handler.target;
            max_stack = h.frame.activation.max_stack;
            locals = locals_shape.rename f h.frame.activation.locals;
            stack = Ref (f place) ∷ [];
          }) (option_map f h.frame.monitor) ∷ lower h.on h.below;
          pending = None;
          ending = (model h.on).ending;
        }))
      ]

  handles_so : (handler : Handler) → Leads h.on (handles handler) (λ w. choose w handler (nat_le 1 h.frame.activation.max_stack))
  unfolding choose
  handles_so handler w m = refl

  module _ (target : ℕ) where
    -- the frame that has gone there
    abbrev after : FrameView
    after = gone_to (with_stack h.frame (Ref place ∷ [])) target

    after_runs : PartRuns at.linked.now (Method after ∷ h.below) (running h.on.object None)
    after_runs = let q = part_here h.on in with_top {f = Method h.frame} q.runs.frames.0 q

    -- its references are those of the frame that it was, and the exception
    after_held : HoldsAll content at old (held_shape.refs (None, map (frame_part at.linked.now) (Method after ∷ h.below)))
    after_held q a =
        let v = h.frame in
        let below = frames_shape.refs (map (frame_part at.linked.now) h.below) in
        let whole = refs_activation v.activation ++ optional_number_shape.refs v.monitor in
        let locals = locals_shape.refs v.activation.locals in
        elim (part_refs at.linked.now (Method after ∷ h.below) None q a) [
          | inl z ↦ absurd z
          | inr b ↦ elim (among_split q (refs_activation after.activation ++ optional_number_shape.refs v.monitor) below b) [
            | inl c ↦ elim (among_split q (refs_activation after.activation) (optional_number_shape.refs v.monitor) c) [
              | inl d ↦ elim (among_split q locals (stack_shape.refs (Ref place ∷ [])) d) [
                | inl e ↦ held_frames h.on q (among_left q whole below (among_left q (refs_activation v.activation) (optional_number_shape.refs v.monitor)
                    (among_left q locals (stack_shape.refs v.activation.stack) e)))
                | inr e ↦ held_pending h.on q e
              ]
              | inr d ↦ held_frames h.on q
                  (among_left q whole below (among_right q (refs_activation v.activation) (optional_number_shape.refs v.monitor) d))
            ]
            | inr c ↦ held_frames h.on q (among_right q whole below c)
          ]
        ]

    module _ {t d : held.Thread} (got : d ≡ slice_index_or old.threads.items at.index d) where
      pub handled : InAnyMethod d (Caught (Ok tt) t place target) → (handler : Handler) → handler.target ≡ target
          → Does content at old (Ok Done) (with_thread_at old at.index t) (handles handler)
      unfolding choose
      handled caught handler there =
          let k = caught h.frame h.below _ (read h.on got) in
          let room : nat_le 1 h.frame.activation.max_stack ≡ true = let fits = k.0 in grind (arith, nat_tests) in
          goes h.on k.1 after_runs after_held (λ w m.
          handles_so handler w m
          ∙ ap (choose w handler) room
          ∙ ap (λ n. choose w (begins_at n) true) there)

      pub not_handled : {fault : TagFault} → InAnyMethod d (Caught (Err fault) t place target) → (handler : Handler)
          → Does content at old (Err (Stopped (why.TagFault fault))) (with_thread_at old at.index t) (handles handler)
      unfolding choose
      not_handled {fault} caught handler =
          let k = caught h.frame h.below _ (read h.on got) in
          let full : nat_le 1 h.frame.activation.max_stack ≡ false = ap (nat_le 1) k.0 in
          does h.on (runs_with h.on k.2 (part_here h.on)) (λ w m.
          subst (Ended (Err (Stopped (why.TagFault fault))) (parts_at content at (with_thread_at old at.index t)) w)
          (sym (handles_so handler w m ∙ ap (choose w handler) full)) (ap why.TagFault (sym k.1), same_matches h.on k.2 w m))
