-- A call, where it stands.
use Rattle.std.proofs.Common.{◌≡◌, ℕ, zero, suc, ◌+◌, ◌-◌, ◌<◌, ◌≤◌, List, [], ◌∷◌, ◌++◌, Option, Some, None, Bool, true, false, refl, sym, ap, ◌∙◌, subst}
use Rattle.std.proofs.Common.{inl, inr, length, drop, take, reverse, arith}
use Rattle.std.specs.Prelude.{map, option_map, codes, slice_get, slice_index_or, vec_len, Result, Ok, Err}
use Rattle.std.proofs.lemmas.Grind.{flat_map-append}
use Rattle.std.proofs.lemmas.Option.{get_or_from_slice_get}
use Rattle.std.proofs.lemmas.List.{length-map, map-append, take-map, reverse-append}
use Rattle.jm_program.specs.declared.code.Code.{Code}
use Rattle.jm_program.proofs.Numbers.{found_less as less, found_no_less}
use Rattle.jm_frames.specs.FrameView.{FrameView, with_stack}
use Rattle.jm_values.specs.Content.{Content, name_of}
use Rattle.jm_values.specs.Rename.{rename, refs, value_shape, locals_shape, stack_shape, rename_activation, refs_activation}
use Rattle.jm_values.specs.Shape.{Among, option_refs}
use Rattle.jm_values.specs.declared.value.Value.{Value}
use Rattle.jm_values.specs.declared.value.Value.TheVariants.{Int, Long, Null, Ref}
use Rattle.jm_values.proofs.Among.{among_left, among_right, among_split}
use Rattle.jm_values.proofs.Lists.{got_within, set_there}
use Rattle.jm_world.specs.Classes.{FoundMethod, name_of_method}
use Rattle.jm_world.specs.Frames.{frames_shape, rename_frame, method_frame, optional_number_shape}
use Rattle.jm_world.specs.Here.{Here, with_frames}
use Rattle.jm_world.specs.Invocation.{argument_locals, locals_of, unset, padded, activation_of, calling}
use Rattle.jm_world.specs.Matches.{places}
use Rattle.jm_world.specs.Monitors.{enter_if}
use Rattle.jm_world.specs.Next as next
use Rattle.jm_world.specs.Next.{Next, throw}
use Rattle.jm_world.specs.World.{World, Thread, held_shape}
use Rattle.jm_state.specs.Arguments.{on_top, beginning}
use Rattle.jm_heap.specs.declared.class_id.ClassId.{ClassId}
use Rattle.jm_linked.specs.Links.{LinkedView, name_of_number, name_among}
use Rattle.jm_state.specs.Parts.{frame_part}
use Rattle.jm_state.specs.declared.halt.Halt.{Halt}
use Rattle.jm_state.specs.declared.halt.Halt.TheVariants.{OutOfMemory}
use Rattle.jm_state.specs.declared.halt.StepEnd.{StepEnd}
use Rattle.jm_state.specs.declared.halt.StepEnd.TheVariants.{Done}
use Rattle.jm_state.specs.declared.state.State.{State}
use Rattle.jm_state.specs.declared.thread.StackFrame.TheVariants.{Method}
use Rattle.jm_state.specs.declared.thread.Thread as held
use Rattle.jm_interp.specs.declared.at.At.{At}
use Rattle.jm_interp.specs.At.{parts_at, Beside, HoldsAll, OnThread, InMethod, OnFrames, Does, in_method}
use Rattle.jm_interp.specs.Calls.{IsCalled, IsOperand, calls_with, callee_with}
use Rattle.jm_interp.specs.Locking.{OnlyMonitors}
use Rattle.jm_interp.specs.Standing.{Stands, running}
use Rattle.jm_interp.proofs.Here.{place, top_held, with_other, part_with}
use Rattle.jm_interp.proofs.OnThread as thread
use Rattle.jm_interp.proofs.OnThread.{Leads, model, with_thread_at, read, does_as, part_here, runs_with, same_matches}
use Rattle.jm_interp.proofs.Entered.{IsNotMade, enters, then_made, then_not, then_stands}
use Rattle.jm_interp.proofs.Replaced.{dropped_map, refs_dropped}
use Rattle.jm_interp.proofs.Threads.{count_is, part_refs, with_more}

-- arguments under other names of their references
reversed_map : (g : Value → Value) (vs : List Value) → reverse (map g vs) ≡ map g (reverse vs)
reversed_map g [] = refl
reversed_map g (v ∷ vs) =
    reverse-append (g v ∷ []) (map g vs)
    ∙ ap (λ l. l ++ g v ∷ []) (reversed_map g vs)
    ∙ sym (map-append g (reverse vs) (v ∷ []))
    ∙ ap (map g) (sym (reverse-append (v ∷ []) vs))

pub top_renamed : (g : Value → Value) (count : ℕ) (s : List Value) → on_top count (map g s) ≡ map g (on_top count s)
top_renamed g count s = ap reverse (take-map g count s) ∙ reversed_map g (take count s)

argument_renamed : (f : ℕ → ℕ) (v : Value) → locals_shape.rename f (argument_locals v) ≡ argument_locals (rename f v)
argument_renamed f (Int n) = refl
argument_renamed f (Long n) = refl
argument_renamed f Null = refl
argument_renamed f (Ref p) = refl

arguments_renamed : (f : ℕ → ℕ) (vs : List Value) → locals_shape.rename f (locals_of vs) ≡ locals_of (map (rename f) vs)
arguments_renamed f [] = refl
arguments_renamed f (v ∷ vs) =
    map-append (option_map (rename f)) (argument_locals v) (locals_of vs)
    ∙ (λ i. argument_renamed f v i ++ arguments_renamed f vs i)

pub unset_renamed : (f : ℕ → ℕ) (n : ℕ) → locals_shape.rename f (unset n) ≡ unset n
unset_renamed f zero = refl
unset_renamed f (suc n) = ap (λ xs. None ∷ xs) (unset_renamed f n)

pub padded_renamed : (f : ℕ → ℕ) (max : ℕ) (xs : List (Option Value)) → locals_shape.rename f (padded max xs) ≡ padded max (locals_shape.rename f xs)
padded_renamed f max xs =
    map-append (option_map (rename f)) xs (unset (max - length xs))
    ∙ ap (λ l. map (option_map (rename f)) xs ++ l) (unset_renamed f (max - length xs)
    ∙ ap (λ n. unset (max - n)) (sym (length-map xs (option_map (rename f)))))

-- the references of arguments are those of the operands
taken_refs : (count : ℕ) (s : List Value) (q : ℕ) → Among q (stack_shape.refs (take count s)) → Among q (stack_shape.refs s)
taken_refs zero [] q a = a
taken_refs zero (v ∷ s) q a = absurd a
taken_refs (suc count) [] q a = a
taken_refs (suc count) (v ∷ s) q a = elim (among_split q (refs v) (stack_shape.refs (take count s)) a) [
  | inl b ↦ among_left q (refs v) (stack_shape.refs s) b
  | inr b ↦ among_right q (refs v) (stack_shape.refs s) (taken_refs count s q b)
]

reversed_refs : (s : List Value) (q : ℕ) → Among q (stack_shape.refs (reverse s)) → Among q (stack_shape.refs s)
reversed_refs [] q a = a
reversed_refs (v ∷ s) q a =
    let turned : stack_shape.refs (reverse (v ∷ s)) ≡ stack_shape.refs (reverse s) ++ stack_shape.refs (v ∷ []) =
    ap stack_shape.refs (reverse-append (v ∷ []) s) ∙ flat_map-append refs (reverse s) (v ∷ []) in
    elim (among_split q (stack_shape.refs (reverse s)) (stack_shape.refs (v ∷ [])) (subst (Among q) turned a)) [
      | inl b ↦ among_right q (refs v) (stack_shape.refs s) (reversed_refs s q b)
      | inr b ↦ among_left q (refs v) (stack_shape.refs s) (elim (among_split q (refs v) [] b) [ inl d ↦ d | inr d ↦ absurd d ])
    ]

argument_refs : (v : Value) (q : ℕ) → Among q (locals_shape.refs (argument_locals v)) → Among q (refs v)
argument_refs (Int n) q a = a
argument_refs (Long n) q a = a
argument_refs Null q a = a
argument_refs (Ref p) q a = a

pub arguments_refs : (vs : List Value) (q : ℕ) → Among q (locals_shape.refs (locals_of vs)) → Among q (stack_shape.refs vs)
arguments_refs [] q a = a
arguments_refs (v ∷ vs) q a =
    let own = locals_shape.refs (argument_locals v) in
    let rest = locals_shape.refs (locals_of vs) in
    elim (among_split q own rest (subst (Among q) (flat_map-append (option_refs value_shape) (argument_locals v) (locals_of vs)) a)) [
      | inl b ↦ among_left q (refs v) (stack_shape.refs vs) (argument_refs v q b)
      | inr b ↦ among_right q (refs v) (stack_shape.refs vs) (arguments_refs vs q b)
    ]

unset_refs : (n q : ℕ) → Among q (locals_shape.refs (unset n)) → ⊥
unset_refs zero q a = a
unset_refs (suc n) q a = unset_refs n q a

pub padded_refs : (max : ℕ) (xs : List (Option Value)) (q : ℕ) → Among q (locals_shape.refs (padded max xs)) → Among q (locals_shape.refs xs)
padded_refs max xs q a =
    let rest = unset (max - length xs) in
    elim (among_split q (locals_shape.refs xs) (locals_shape.refs rest) (subst (Among q) (flat_map-append (option_refs value_shape) xs rest) a)) [
      | inl b ↦ b
      | inr b ↦ absurd (unset_refs (max - length xs) q b)
    ]

called_refs : (max count : ℕ) (s : List Value) (q : ℕ) → Among q (locals_shape.refs (padded max (locals_of (on_top count s)))) → Among q (stack_shape.refs s)
called_refs max count s q a =
    taken_refs count s q (reversed_refs (take count s) q (arguments_refs (on_top count s) q (padded_refs max (locals_of (on_top count s)) q a)))

-- the callee begins in the model, above the caller's frame
abbrev pub begun : FoundMethod → Code → ℕ → Option ℕ → Here → Next
begun found code count o here = next.goes (with_frames here.world here.number here.thread (method_frame (name_of_method found)
    (activation_of code (on_top count here.frame.stack)) o ∷ calling here (drop count here.frame.stack)))

-- the frame of the caller
abbrev pub caller : ℕ → FrameView → FrameView
caller count frame = with_stack frame (drop count frame.activation.stack)

module _ {l : LinkedView} {number : ℕ} {found : FoundMethod} {code : Code} (is : IsCalled l number found code) where
  pub method_named_is : name_of_number l number ≡ name_of_method found
  unfolding name_of_number
  method_named_is = ap (name_among l.program) is.method_is ∙ is.named

  -- the frame of the callee, and the model's
  abbrev pub called : Option ℕ → List Value → FrameView
  called monitor arguments = beginning (callee_with number is.method monitor) arguments

  locals_are : (monitor : Option ℕ) (f : ℕ → ℕ) (arguments : List Value)
      → padded code.max_locals (locals_of (map (rename f) arguments)) ≡ locals_shape.rename f (called monitor arguments).activation.locals
  locals_are monitor f arguments =
      let max = is.method.max_locals in
      ap (λ n. padded n (locals_of (map (rename f) arguments))) (sym is.max_locals)
      ∙ ap (padded max) (sym (arguments_renamed f arguments))
      ∙ sym (padded_renamed f max (locals_of arguments))

  pub activation_begins : (monitor : Option ℕ) (f : ℕ → ℕ) (arguments : List Value)
      → activation_of code (map (rename f) arguments) ≡ rename_activation f (called monitor arguments).activation
  activation_begins monitor f arguments = λ i. record { at = 0; max_stack = sym is.max_stack i; locals = locals_are monitor f arguments i; stack = [] }

module _ {H : Type 0} {content : H → Content ClassId} {at : At} {number : ℕ} {found : FoundMethod} {code : Code}
    (is : IsCalled at.linked.now number found code) (count : ℕ) (monitor : Option ℕ) where
  module _ {s : State H} (h : InMethod content at s) where
    abbrev stack : List Value
    stack = h.frame.activation.stack

    abbrev names : ℕ → ℕ
    names = name_of (content s.heap)

    abbrev callee : FrameView
    callee = called is monitor (on_top count stack)

    activation_is : activation_of code (on_top count (map (rename names) stack)) ≡ rename_activation names callee.activation
    activation_is = ap (activation_of code) (top_renamed (rename names) count stack) ∙ activation_begins is monitor names (on_top count stack)

    held_here : HoldsAll content at s (stack_shape.refs stack)
    held_here q a = top_held h q (among_right q (locals_shape.refs h.frame.activation.locals) (stack_shape.refs stack) a)

    held_caller : HoldsAll content at s (refs_activation (caller count h.frame).activation)
    held_caller q a =
        let locals = locals_shape.refs h.frame.activation.locals in
        top_held h q (elim (among_split q locals (stack_shape.refs (drop count stack)) a) [
          | inl b ↦ among_left q locals (stack_shape.refs stack) b
          | inr b ↦ among_right q locals (stack_shape.refs stack) (refs_dropped count stack q b)
        ])

    module _ (operand : IsOperand h.frame monitor) where
      inside : HoldsAll content at s (held_shape.refs (None, map (frame_part at.linked.now) (Method callee ∷ Method (caller count h.frame) ∷ h.below)))
      inside q a =
          let l = at.linked.now in
          let locals = locals_shape.refs callee.activation.locals in
          let own = optional_number_shape.refs monitor in
          elim (part_refs l (Method callee ∷ Method (caller count h.frame) ∷ h.below) None q a) [
            | inl z ↦ absurd z
            | inr z ↦ elim (among_split q ((locals ++ []) ++ own) (frames_shape.refs (map (frame_part l) (Method (caller count h.frame) ∷ h.below))) z) [
              | inl y ↦ elim (among_split q (locals ++ []) own y) [
                | inl x ↦ elim (among_split q locals [] x) [
                  | inl b ↦ held_here q (called_refs is.method.max_locals count stack q b)
                  | inr b ↦ absurd b
                ]
                | inr x ↦ held_here q (operand q x)
              ]
              | inr y ↦ with_other h (λ p. Among p (places (parts_at content at s))) (λ p b. b) (caller count h.frame).activation held_caller q y
            ]
          ]

      -- the method begins
      pub begins : {t : held.Thread} {frame : FrameView} {o : Option ℕ} → length (Method h.frame ∷ h.below) < 512 → frame ≡ callee
          → option_map names monitor ≡ o → Stands t (Method frame ∷ Method (caller count h.frame) ∷ h.below) (running h.on.object None)
          → Does content at s (Ok Done) (with_thread_at s at.index t) (in_method (begun found code count o))
      begins {t} few made entered stands =
          let here = subst (λ f. Stands t (Method f ∷ Method (caller count h.frame) ∷ h.below) (running h.on.object None)) made stands in
          thread.goes h.on here (with_more {g = Method callee} (got_within at.linked.now.methods number is.method is.method_is) few
          (part_with h (caller count h.frame).activation)) inside (λ w m i.
          next.goes (with_frames w (at.index + 1) (model h.on) (method_frame (sym (method_named_is is) i) (activation_is i) (sym entered i)
          ∷ calling (place h w) (dropped_map (rename names) count stack i))))

-- the caller, with room for a frame more
module _ {H : Type 0} {content : H → Content ClassId} {at : At} {old : State H} (h : InMethod content at old) where
  -- the operands, the machine holds
  pub held_operand : HoldsAll content at old (stack_shape.refs h.frame.activation.stack)
  held_operand q a =
      top_held h q (among_right q (locals_shape.refs h.frame.activation.locals) (stack_shape.refs h.frame.activation.stack) a)

module _ {H : Type 0} {content : H → Content ClassId} {at : At} {old : State H} (h : InMethod content at old) {t : held.Thread}
    (stays : Stands t (Method h.frame ∷ h.below) (running h.on.object None)) where
  abbrev pub mid : State H
  mid = with_thread_at old at.index t

  pub still_beside : Beside content at.linked.now mid h.on.world
  still_beside = record {
    linked = h.on.beside.linked;
    runs = runs_with h.on stays (part_here h.on);
    matches = same_matches h.on stays h.on.world h.on.beside.matches;
  }

  pub there_still : slice_get mid.threads.items at.index ≡ Some t
  there_still = set_there old.threads.items at.index h.on.stands.thread t h.on.stands.at

  -- the thread stands in that state as before
  abbrev pub still_on : OnThread content at mid (Method h.frame ∷ h.below) None
  still_on = record {
    world = h.on.world;
    beside = still_beside;
    object = h.on.object;
    stands = record { thread = t; at = there_still; stands = stays };
  }

  abbrev pub still_in : InMethod content at mid
  still_in = record { frame = h.frame; below = h.below; on = still_on }

  pub still_framed : OnFrames content at mid
  still_framed = record { frames = _; pending = _; on = still_on }

  module _ {entered monitor : Option ℕ} (same : entered ≡ monitor) where
    -- what is entered, the machine holds
    pub enters_held : IsOperand h.frame monitor → HoldsAll content at mid (optional_number_shape.refs entered)
    enters_held operand q a = held_operand still_in q (operand q (subst (λ o. Among q (optional_number_shape.refs o)) same a))

    abbrev pub enters_own : Option ℕ → World → ℕ → Thread → Next
    enters_own o = enters (option_map (name_of (content old.heap)) o)

    pub own_enters : {next : State H} {result : Result StepEnd Halt} → Does content at mid result next (enters_own entered)
        → Does content at mid result next (enters_own monitor)
    own_enters {next} {result} done = subst (λ o. Does content at mid result next (enters_own o)) same done

    -- the state in which it was
    abbrev pub entered_in : {next : State H} → OnlyMonitors mid next → Does content at mid (Ok Done) next (enters_own entered) → InMethod content at next
    entered_in only done =
        record { frame = h.frame; below = h.below; on = then_stands still_on (option_map (name_of (content old.heap)) monitor) only (own_enters done) }

  -- the thread that is read then is the one that has room
  pub same_thread : {next : State H} → OnlyMonitors mid next → {x : held.Thread} → x ≡ slice_index_or next.threads.items at.index x → x ≡ t
  same_thread {next} only {x} read =
      let there : slice_get next.threads.items at.index ≡ Some t =
      ap (λ (s : State H). slice_get s.threads.items at.index) only ∙ there_still in
      read ∙ get_or_from_slice_get next.threads.items at.index t x there

module _ {H : Type 0} {content : H → Content ClassId} {at : At} {number : ℕ} {found : FoundMethod} {code : Code}
    (is : IsCalled at.linked.now number found code) (count : ℕ) (monitor : Option ℕ) {old : State H} (h : InMethod content at old)
    (operand : IsOperand h.frame monitor) where
  abbrev own : Option ℕ
  own = option_map (name_of (content old.heap)) monitor

  abbrev calls : World → ℕ → Thread → Next
  calls = in_method (calls_with found code count own)

  -- what follows once the monitor is entered
  abbrev begins_then : World → ℕ → Thread → Next
  begins_then = in_method (begun found code count own)

  by_depth : World → Bool → Next
  by_depth w b = elim b [
    | true ↦ enter_if w (at.index + 1) own (λ v. begins_then v (at.index + 1) (model h.on))
    | false ↦ throw w (at.index + 1) (model h.on) (codes "java/lang/StackOverflowError")
  ]

  module _ {d : held.Thread} {n : ℕ} (got : d ≡ slice_index_or old.threads.items at.index d) (len : n ≡ vec_len d.frames) where
    depth : (w : World) → n ≡ length (calling (place h w) (drop count (map (rename (name_of (content old.heap))) h.frame.activation.stack)))
    depth w =
        let l = at.linked.now in
        let f = name_of (content old.heap) in
        let a : length (map (rename_frame f) (map (frame_part l) h.below)) ≡ length h.below =
        length-map (map (frame_part l) h.below) (rename_frame f) ∙ length-map h.below (frame_part l) in
        let b = count_is (read h.on got) len in
        omega arith

    -- too many frames
    pub too_deep : {new : State H} {result : Result StepEnd Halt} {error : List ℕ} → 512 ≤ n → error ≡ codes "java/lang/StackOverflowError"
        → Does content at old result new (λ w number x. throw w number x error) → Does content at old result new calls
    unfolding by_depth
    too_deep many named done = does_as h.on (λ w m. m) (λ w m.
        let frames = calling (place h w) (drop count (map (rename (name_of (content old.heap))) h.frame.activation.stack)) in
        let deep : 512 ≤ length frames = let a = depth w in omega arith in
        ap (by_depth w) (found_no_less (length frames) 512 deep) ∙ ap (throw w (at.index + 1) (model h.on)) (sym named)) done

    -- few enough, and there is room for one more
    module _ (few : n < 512) {t : held.Thread} (stays : Stands t (Method h.frame ∷ h.below) (running h.on.object None)) where
      shallow : length (Method h.frame ∷ h.below) < 512
      shallow = let b = count_is (read h.on got) len in omega arith

      calls_is : Leads h.on calls (λ w. enter_if w (at.index + 1) own (λ v. begins_then v (at.index + 1) (model h.on)))
      unfolding by_depth
      calls_is w m =
          let frames = calling (place h w) (drop count (map (rename (name_of (content old.heap))) h.frame.activation.stack)) in
          let less_deep : length frames < 512 = let a = depth w in omega arith in
          ap (by_depth w) (less (length frames) 512 less_deep)

      -- nothing has changed
      pub no_memory : Does content at old (Err OutOfMemory) (mid h stays) calls
      no_memory = thread.does h.on (runs_with h.on stays (part_here h.on)) (λ w m. same_matches h.on stays w m)

      module _ {entered : Option ℕ} (same : entered ≡ monitor) {next : State H} (only : OnlyMonitors (mid h stays) next) where
        -- it was not entered
        pub enters_not : {result : Result StepEnd Halt} → IsNotMade result → Does content at (mid h stays) result next (enters_own h stays same entered)
            → Does content at old result next calls
        enters_not not done =
            does_as h.on (same_matches h.on stays) calls_is (then_not (still_on h stays) own begins_then not (own_enters h stays same done))

        -- it was, and the method begins
        pub calls_so : (done : Does content at (mid h stays) (Ok Done) next (enters_own h stays same entered)) {u : held.Thread} {frame : FrameView}
            → frame ≡ called is monitor (on_top count h.frame.activation.stack)
            → Stands u (Method frame ∷ Method (caller count h.frame) ∷ h.below) (running h.on.object None)
            → Does content at old (Ok Done) (with_thread_at next at.index u) calls
        calls_so done made stands =
            let k = entered_in h stays same only done in
            let names : option_map (name_of (content next.heap)) monitor ≡ own =
            ap (λ (s : State H). option_map (name_of (content s.heap)) monitor) only in
            does_as h.on (same_matches h.on stays) calls_is
            (then_made (still_on h stays) own begins_then (own_enters h stays same done) (begins is count monitor k operand shallow made names stands))

-- one that enters no monitor begins at once
module _ {H : Type 0} {content : H → Content ClassId} {at : At} {number : ℕ} {found : FoundMethod} {code : Code}
    (is : IsCalled at.linked.now number found code) (count : ℕ) {old : State H} (h : InMethod content at old) {d : held.Thread} {n : ℕ}
    (got : d ≡ slice_index_or old.threads.items at.index d) (len : n ≡ vec_len d.frames) (few : n < 512) where
  no_operand : IsOperand h.frame None
  no_operand q a = absurd a

  pub calls_free : {u : held.Thread} {frame : FrameView} → frame ≡ called is None (on_top count h.frame.activation.stack)
      → Stands u (Method frame ∷ Method (caller count h.frame) ∷ h.below) (running h.on.object None)
      → Does content at old (Ok Done) (with_thread_at old at.index u) (in_method (calls_with found code count None))
  calls_free made stands =
      does_as h.on (λ w m. m) (calls_is is count None h no_operand got len few h.on.stands.stands)
      (begins is count None h no_operand (shallow is count None h no_operand got len few h.on.stands.stands) made refl stands)
