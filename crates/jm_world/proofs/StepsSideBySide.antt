-- A step of a thread in two worlds beside one another.
use Rattle.std.proofs.Common.{◌≡◌, ℕ, List, [], ◌∷◌, ◌++◌, Option, Some, None, true, refl, sym, subst, length, arith}
use Rattle.std.specs.Prelude.{nat_eq, nat_le, codes}
use Rattle.jm_program.specs.Flags.{is_abstract}
use Rattle.jm_program.specs.declared.code.Code.{Code}
use Rattle.jm_values.specs.declared.value.Value.TheVariants.{Ref}
use Rattle.jm_values.specs.declared.fault.TagFault.TheVariants.{WrongKind}
use Rattle.jm_world.specs.Types.{ObjectType, instance_of}
use Rattle.jm_world.specs.Classes.{FoundMethod, MethodName, name_of_method, class_named, method_named, error_class}
use Rattle.jm_world.specs.Resolution.{select}
use Rattle.jm_world.specs.Objects.{Object}
use Rattle.jm_world.specs.Frames.{Frame, method_frame, initialization_frame, entry_frame}
use Rattle.jm_world.specs.World.{World, Thread, with_state, state_of}
use Rattle.jm_world.specs.Next.{Next, goes, faults, exception}
use Rattle.jm_world.specs.Here.{with_frames}
use Rattle.jm_world.specs.Invocation.{activation_of, monitor_of, class_of}
use Rattle.jm_world.specs.Throwing.{is_kind_of, handler_in, handlers_of, class_name, unwound, unwound_anew, drop_method, handle, unwind_frames, unwind}
use Rattle.jm_world.specs.Initialization.{begin, superclass_name, is_done, superclass_first, initializer_of, call_initializer, run_initializer, finish, initialize}
use Rattle.jm_world.specs.Stepping.{instruction_in, run_type, enter_code, enter_found, enter_thread, step_frame, step_thread}
use Rattle.jm_world.specs.declared.class_state.ClassState.{ClassState}
use Rattle.jm_world.specs.declared.class_state.ClassState.TheVariants.{NotBegun, InProgress, Done, Failed}
use Rattle.jm_world.specs.declared.stage.Stage.{Stage}
use Rattle.jm_world.specs.declared.stage.Stage.TheVariants.{Begin, Superclass, Initializer, End}
use Rattle.std.proofs.lemmas.Bool.{leb-true}
use Rattle.jm_values.specs.Activation.{Activation}
use Rattle.jm_world.proofs.Turning.{Found, FoundFor, by_class, of_class, unneeded, begun, onward, upward, initialized, finished, Drops, no_frame, a_method, an_initialization, a_refusal, an_entry, none_left, at_entry, goes_on, raises, catches, drops, dies}
use Rattle.jm_world.proofs.Turning as turning
use Rattle.jm_world.proofs.Leaving.{Leaves, by_row, as_before, cleared, raised, died, is_thrown}
use Rattle.jm_world.proofs.Asking.{Asks, by_entry}
use Rattle.jm_world.proofs.Fitting.{with_monitors}
use Rattle.jm_world.specs.SideBySide.{refs, Lists, none, more, Options, neither, both, Objects, objects, acts, Frames, methods, initializations, entries}
use Rattle.jm_world.specs.TwoWorlds.{left, right}
use Rattle.jm_world.proofs.WhatComes.{Changes, same, locks, states, for_class, begins, stopped, blocked, went, makes, fails, Setting}
use Rattle.jm_world.proofs.WordsSideBySide.{Both, if_both, if_told, option_both, some_told, new_one, frames_old, make_both, frames_both, throw_both, push_frame_both, enter_if_both, leave_if_both}
use Rattle.jm_world.proofs.RowsSideBySide.{called_alike, monitor_alike, ended_both, instruct_both}

abbrev unwound_in : (World → World) → ℕ → Thread → List Frame → List ℕ → World → ℕ → Next
unwound_in after number t fs class made k = unwound (record (after made) { heap = made.heap }) number t fs k (instance_of class)

abbrev unwound_left : ℕ → Thread → List Frame → ℕ → ObjectType → World → Next
unwound_left number t fs k type left = unwound left number t fs k type

abbrev entered : ℕ → Thread → List Frame → FoundMethod → ℕ → Code → World → Next
entered number t below found k code held = goes (with_frames held number t (method_frame (name_of_method found) (activation_of code (Ref k ∷ [])) (monitor_of found.method k) ∷ below))

module _ (R : ℕ → ℕ → Type 0) (e : Setting R) where
  abbrev w : World
  w = left e.worlds

  abbrev w' : World
  w' = right e.worlds

  -- unwinding
  unwound_both : (v v' : World) (xs fs fs' : List Frame) (c : Option (List ℕ × ClassState)) (k j : ℕ) (type : ObjectType) → e.thread.frames ≡ xs → e.thread.pending ≡ Some k → Drops xs c fs → Changes R e.worlds e.number c v v' → Lists (Frames R) fs fs' → R k j
      → Both R e (unwound v e.number e.thread fs k type) (unwound v' e.number e.thread' fs' j type)
  unwound_both v v' xs _ _ c k j type d y x h none r = went c h (record { object = refl; other = refl; frames = none; pending = neither; ending = refl; turn = dies xs (class_name type) d x }) cleared
  unwound_both v v' xs _ _ c k j type d y x h (more f l) r = went c h (record { object = refl; other = refl; frames = more f l; pending = both r; ending = e.running.ending; turn = drops xs k d x }) (subst (λ o. Leaves w e.thread.pending [] o) y as_before)

  abbrev anew_in : World → Thread → List Frame → List ℕ → World → ℕ → Next
  anew_in v t fs class made k = unwound (record v { heap = made.heap }) e.number t fs k (instance_of class)

  anew_both : (xs fs fs' : List Frame) (class : List ℕ) → is_thrown class ≡ true → e.thread.frames ≡ xs → Drops xs None fs → Lists (Frames R) fs fs' → Both R e (unwound_anew w w e.number e.thread fs class) (unwound_anew w' w' e.number e.thread' fs' class)
  anew_both xs fs fs' class y d x l = make_both R e (exception class) (anew_in w e.thread fs class) (anew_in w' e.thread' fs' class) (by fs fs' x l)
    where
      by : (fs fs' : List Frame) → Drops xs None fs → Lists (Frames R) fs fs' → Both R e (anew_in w e.thread fs class (record w { heap = w.heap ++ exception class ∷ [] }) (length w.heap)) (anew_in w' e.thread' fs' class (record w' { heap = w'.heap ++ exception class ∷ [] }) (length w'.heap))
      by _ _ x none = makes (exception class ∷ []) (tt, tt) (record { object = refl; other = refl; frames = none; pending = neither; ending = refl; turn = dies xs class d x }) (died class (by_row y))
      by _ _ x (more f l) = makes (exception class ∷ []) (tt, tt) (record { object = refl; other = refl; frames = frames_old R e 1 (more f l); pending = both (new_one R e 1 (omega arith)); ending = e.running.ending; turn = drops xs (length w.heap) d x }) (raised class (by_row y))

  failed_both : (of : List ℕ) (xs fs fs' : List Frame) (class : List ℕ) → is_thrown class ≡ true → e.thread.frames ≡ xs → Drops xs (Some (of, Failed)) fs → Lists (Frames R) fs fs' → Both R e (unwound_anew w (with_state w of Failed) e.number e.thread fs class) (unwound_anew w' (with_state w' of Failed) e.number e.thread' fs' class)
  failed_both of xs fs fs' class y d x l = make_both R e (exception class) (anew_in (with_state w of Failed) e.thread fs class) (anew_in (with_state w' of Failed) e.thread' fs' class) (by fs fs' x l)
    where
      by : (fs fs' : List Frame) → Drops xs (Some (of, Failed)) fs → Lists (Frames R) fs fs' → Both R e (anew_in (with_state w of Failed) e.thread fs class (record w { heap = w.heap ++ exception class ∷ [] }) (length w.heap)) (anew_in (with_state w' of Failed) e.thread' fs' class (record w' { heap = w'.heap ++ exception class ∷ [] }) (length w'.heap))
      by _ _ x none = fails of (exception class ∷ []) (tt, tt) (record { object = refl; other = refl; frames = none; pending = neither; ending = refl; turn = dies xs class d x }) (died class (by_row y))
      by _ _ x (more f l) = fails of (exception class ∷ []) (tt, tt) (record { object = refl; other = refl; frames = frames_old R e 1 (more f l); pending = both (new_one R e 1 (omega arith)); ending = e.running.ending; turn = drops xs (length w.heap) d x }) (raised class (by_row y))

  drop_method_both : (m : MethodName) (a : Activation) (o o' : Option ℕ) (fs fs' : List Frame) (k j : ℕ) (type : ObjectType) → e.thread.frames ≡ method_frame m a o ∷ fs → e.thread.pending ≡ Some k → Options R o o' → Lists (Frames R) fs fs' → R k j → Both R e (drop_method w e.number e.thread o fs k type) (drop_method w' e.number e.thread' o' fs' j type)
  drop_method_both m a o o' fs fs' k j type d y i l r = leave_if_both R e o o' _ _ (unwound_left e.number e.thread fs k type) (unwound_left e.number e.thread' fs' j type) i (anew_both _ fs fs' (codes "java/lang/IllegalMonitorStateException") refl d a_method l)
      (λ ms ms' x. unwound_both (with_monitors w ms) (with_monitors w' ms') _ fs fs' None k j type d y a_method (locks x) l r)

  unwind_frames_both : (fs fs' : List Frame) (k j : ℕ) (type : ObjectType) → e.thread.frames ≡ fs → e.thread.pending ≡ Some k → Lists (Frames R) fs fs' → R k j → Both R e (unwind_frames w e.number e.thread fs k type) (unwind_frames w' e.number e.thread' fs' j type)
  unwind_frames_both _ _ k j type d y none r = unwound_both w w' [] [] [] None k j type d y no_frame same none r
  unwind_frames_both _ _ k j type d y (more (methods {m = m} {o = o} {p = o'} (acts {at = at} {max_stack = max_stack} {ls = xs} {ks = ys} {s = a} {r = b} ls s) i) l) r = some_told R e (handler_in w at type (handlers_of (method_named w.program m))) _ _
      (λ h. handle w e.number e.thread m (record { at = at; max_stack = max_stack; locals = xs; stack = a }) o _ k h) (λ h. handle w' e.number e.thread' m (record { at = at; max_stack = max_stack; locals = ys; stack = b }) o' _ j h)
      (drop_method_both m _ o o' _ _ k j type d y i l r)
      (λ h c. if_told R e (nat_le 1 max_stack) _ _ _ _ (λ x. went None same (record { object = refl; other = refl; frames = more (methods (acts ls (more (refs r) none)) i) l; pending = neither; ending = e.running.ending; turn = catches type h k d c (leb-true 1 max_stack x) }) cleared) (λ x. stopped))
  unwind_frames_both _ _ k j type d y (more (initializations {class = class}) l) r = if_both R e (is_kind_of w type error_class) _ _ _ _
      (unwound_both (with_state w class Failed) (with_state w' class Failed) _ _ _ (Some (class, Failed)) k j type d y an_initialization (states class Failed) l r)
      (failed_both class _ _ _ (codes "java/lang/ExceptionInInitializerError") refl d an_initialization l)
  unwind_frames_both _ _ k j type d y (more entries l) r = unwound_both w w' _ _ _ None k j type d y an_entry same l r

  -- initialization
  begin_both : (class : List ℕ) (fs fs' : List Frame) (state : ClassState) → state_of w class ≡ state → e.thread.frames ≡ initialization_frame class Begin ∷ fs → Lists (Frames R) fs fs' → Both R e (begin w e.number e.thread class fs state) (begin w' e.number e.thread' class fs' state)
  begin_both class fs fs' Done c d l = frames_both R e w w' fs fs' None (goes_on _ d unneeded) same l
  begin_both class fs fs' (InProgress owner) c d l = if_told R e (nat_eq owner e.number) _ _ _ _ (λ x. frames_both R e w w' fs fs' None (goes_on _ d unneeded) same l) (λ x. blocked (for_class class owner fs d c x))
  begin_both class fs fs' Failed c d l = throw_both R e (codes "java/lang/NoClassDefFoundError") fs fs' (by_row refl) (λ k. drops _ k d a_refusal) l
  begin_both class fs fs' NotBegun c d l = frames_both R e _ _ _ _ (Some (class, InProgress e.number)) (goes_on _ d begun) (begins class) (more initializations l)

  superclass_both : (class : List ℕ) (fs fs' : List Frame) (o : Option (List ℕ)) → e.thread.frames ≡ initialization_frame class Superclass ∷ fs → Lists (Frames R) fs fs' → Both R e (superclass_first w e.number e.thread class fs o) (superclass_first w' e.number e.thread' class fs' o)
  superclass_both class fs fs' None d l = frames_both R e w w' _ _ None (goes_on _ d onward) same (more initializations l)
  superclass_both class fs fs' (Some above) d l = if_both R e (is_done (state_of w above)) _ _ _ _ (frames_both R e w w' _ _ None (goes_on _ d onward) same (more initializations l))
      (push_frame_both R e _ _ _ _ (λ x. goes_on _ d (upward above x)) (more initializations l) initializations)

  finish_both : (class : List ℕ) (stage : Stage) (fs fs' : List Frame) → e.thread.frames ≡ initialization_frame class stage ∷ fs → Lists (Frames R) fs fs' → Both R e (finish w e.number e.thread class fs) (finish w' e.number e.thread' class fs')
  finish_both class stage fs fs' d l = frames_both R e (with_state w class Done) (with_state w' class Done) fs fs' (Some (class, Done)) (goes_on _ d finished) (states class Done) l

  initializer_both : (class : List ℕ) (fs fs' : List Frame) (o : Option FoundMethod) → initializer_of (class_named w.program class) ≡ o → e.thread.frames ≡ initialization_frame class Initializer ∷ fs → Lists (Frames R) fs fs' → Both R e (run_initializer w e.number e.thread class fs o) (run_initializer w' e.number e.thread' class fs' o)
  initializer_both class fs fs' None c d l = finish_both class Initializer fs fs' d l
  initializer_both class fs fs' (Some found) c d l = by found.method.code refl
    where
      by : (code : Option Code) → found.method.code ≡ code → Both R e (call_initializer w e.number e.thread class fs found code) (call_initializer w' e.number e.thread' class fs' found code)
      by None y = stopped
      by (Some code) y = push_frame_both R e _ _ _ _ (λ x. goes_on _ d (initialized found code x (of_class class c) y)) (more initializations l) (methods (called_alike code [] [] none) neither)

  initialize_both : (class : List ℕ) (stage : Stage) (fs fs' : List Frame) → e.thread.frames ≡ initialization_frame class stage ∷ fs → Lists (Frames R) fs fs' → Both R e (initialize w e.number e.thread class stage fs) (initialize w' e.number e.thread' class stage fs')
  initialize_both class Begin fs fs' d l = begin_both class fs fs' (state_of w class) refl d l
  initialize_both class Superclass fs fs' d l = superclass_both class fs fs' (superclass_name (class_named w.program class)) d l
  initialize_both class Initializer fs fs' d l = initializer_both class fs fs' (initializer_of (class_named w.program class)) refl d l
  initialize_both class End fs fs' d l = finish_both class End fs fs' d l

  -- entries and steps
  enter_code_both : (fs fs' : List Frame) (found : FoundMethod) (k j : ℕ) (code : Option Code) → FoundFor w.program found 1 → found.method.code ≡ code → e.thread.frames ≡ entry_frame ∷ fs → Lists (Frames R) fs fs' → R k j → Both R e (enter_code w e.number e.thread fs found k code) (enter_code w' e.number e.thread' fs' found j code)
  enter_code_both fs fs' found k j None x y d l r = ended_both R e _ d at_entry
  enter_code_both fs fs' found k j (Some code) x y d l r = enter_if_both R e _ _ (entered e.number e.thread fs found k code) (entered e.number e.thread' fs' found j code) (λ i c. subst (λ fs. Asks w.program fs i) (sym d) by_entry) (monitor_alike found.method k j r)
      (λ ms ms' z. frames_both R e (with_monitors w ms) (with_monitors w' ms') _ _ None (goes_on _ d (turning.entered found code k (monitor_of found.method k) x.0 y x.1)) (locks z) (more (methods (called_alike code _ _ (more (refs r) none)) (monitor_alike found.method k j r)) l))

  enter_found_both : (fs fs' : List Frame) (k j : ℕ) (found : Option FoundMethod) → ((f : FoundMethod) → found ≡ Some f → FoundFor w.program f 1) → e.thread.frames ≡ entry_frame ∷ fs → Lists (Frames R) fs fs' → R k j → Both R e (enter_found w e.number e.thread fs k found) (enter_found w' e.number e.thread' fs' j found)
  enter_found_both fs fs' k j None x d l r = throw_both R e (codes "java/lang/AbstractMethodError") e.thread.frames e.thread'.frames (by_row refl) raises e.running.frames
  enter_found_both fs fs' k j (Some found) x d l r = if_both R e (is_abstract found.method.flags) _ _ _ _ (throw_both R e (codes "java/lang/AbstractMethodError") e.thread.frames e.thread'.frames (by_row refl) raises e.running.frames) (enter_code_both fs fs' found k j found.method.code (x found refl) refl d l r)

  enter_thread_both : (fs fs' : List Frame) (o o' : Option ℕ) → e.thread.frames ≡ entry_frame ∷ fs → Lists (Frames R) fs fs' → Options R o o' → Both R e (enter_thread w e.number e.thread fs o) (enter_thread w' e.number e.thread' fs' o')
  enter_thread_both fs fs' _ _ d l neither = stopped
  enter_thread_both fs fs' _ _ d l (both {x = k} {y = j} r) = option_both R e (Objects R) _ _ (e.alike.objects k j r) (faults WrongKind) (faults WrongKind)
      (λ o. enter_found w e.number e.thread fs k (select w.program (class_of o.type) (codes "run") run_type)) (λ o. enter_found w' e.number e.thread' fs' j (select w'.program (class_of o.type) (codes "run") run_type)) stopped by
    where
      by : (o b : Object) → Objects R o b → Both R e (enter_found w e.number e.thread fs k (select w.program (class_of o.type) (codes "run") run_type)) (enter_found w' e.number e.thread' fs' j (select w'.program (class_of b.type) (codes "run") run_type))
      by _ _ (objects {type = type} x) = enter_found_both fs fs' k j (select w.program (class_of type) (codes "run") run_type) (λ f c. (by_class (class_of type) (codes "run") run_type c, omega arith)) d l r

  step_frame_both : (fs fs' : List Frame) → e.thread.frames ≡ fs → Lists (Frames R) fs fs' → Both R e (step_frame w e.number e.thread fs) (step_frame w' e.number e.thread' fs')
  step_frame_both _ _ d none = ended_both R e [] d none_left
  step_frame_both _ _ d (more {xs = below} {ys = below'} (methods {m = m} {o = o} {p = o'} (acts {at = at} {max_stack = max_stack} {ls = ls} {ks = ls'} {s = s} {r = s'} x y) i) l) =
      instruct_both R e (record { method = m; at = at; max_stack = max_stack; monitor = o; monitor' = o'; locals = ls; locals' = ls'; stack = s; stack' = s'; below = below; below' = below' })
      (λ z. record { its = d; monitor = i; locals = x; stack = y; below = l; stands = z }) (instruction_in (method_named w.program m) at) refl
  step_frame_both _ _ d (more (initializations {class = class} {stage = stage}) l) = initialize_both class stage _ _ d l
  step_frame_both _ _ d (more entries l) = enter_thread_both _ _ e.thread.object e.thread'.object d l e.running.object

  pub step_both : Both R e (step_thread w e.number e.thread) (step_thread w' e.number e.thread')
  step_both = by e.thread.pending e.thread'.pending refl e.running.pending
    where
      by : (o o' : Option ℕ) → e.thread.pending ≡ o → Options R o o' → Both R e (elim o [ Some k ↦ unwind w e.number e.thread k | None ↦ step_frame w e.number e.thread e.thread.frames ]) (elim o' [ Some k ↦ unwind w' e.number e.thread' k | None ↦ step_frame w' e.number e.thread' e.thread'.frames ])
      by _ _ z neither = step_frame_both e.thread.frames e.thread'.frames refl e.running.frames
      by _ _ z (both {x = k} {y = j} r) = option_both R e (Objects R) _ _ (e.alike.objects k j r) (faults WrongKind) (faults WrongKind)
          (λ o. unwind_frames w e.number e.thread e.thread.frames k o.type) (λ o. unwind_frames w' e.number e.thread' e.thread'.frames j o.type) stopped (inner k j z r)
        where
          inner : (k j : ℕ) → e.thread.pending ≡ Some k → R k j → (o b : Object) → Objects R o b → Both R e (unwind_frames w e.number e.thread e.thread.frames k o.type) (unwind_frames w' e.number e.thread' e.thread'.frames j b.type)
          inner k j z r _ _ (objects {type = type} x) = unwind_frames_both e.thread.frames e.thread'.frames k j type refl z e.running.frames r
