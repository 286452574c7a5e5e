-- What a machine's readers read beside the world.
use Rattle.std.proofs.Common.{◌≡◌, ℕ, zero, suc, List, [], ◌∷◌, Option, Some, None, refl, sym, ap, ◌∙◌, subst, inl}
use Rattle.std.specs.Prelude.{slice_get, map, reverse, option_map}
use Rattle.std.specs.List.{AllByRecursion}
use Rattle.std.proofs.lemmas.Option.{slice_get-map}
use Rattle.jm_values.specs.Shape.{Among, list_shape}
use Rattle.jm_values.specs.Rename.{stack_shape}
use Rattle.jm_values.proofs.Among.{among_left, among_right}
use Rattle.jm_values.specs.Content.{Content, IsSound, AllResident, serial_at, name_of}
use Rattle.jm_values.specs.Content as content
use Rattle.jm_values.proofs.Lists.{each_at, refs_in}
use Rattle.jm_world.specs.Frames.{rename_frame, optional_number_shape}
use Rattle.jm_world.specs.Matches.{Matches, as_named}
use Rattle.jm_world.specs.Monitors.{monitor_in}
use Rattle.jm_world.specs.Renaming.{rename_thread, monitor_shape}
use Rattle.jm_world.specs.World.{World, Monitor, thread_at, object_at, reach}
use Rattle.jm_world.proofs.Reaching.{reach_is_least}
use Rattle.jm_heap.specs.declared.class_id.ClassId.{ClassId}
use Rattle.jm_linked.specs.Links.{LinkedView}
use Rattle.jm_monitors.specs.HeldMonitors.{HeldMonitor, held_in, held_shape, monitor_of, monitors_of}
use Rattle.jm_monitors.proofs.InTheModel.{held_is_monitor}
use Rattle.jm_state.specs.Parts.{parts, monitor_part, frame_part, thread_part, named_type}
use Rattle.jm_state.specs.Places.{HeldThread, stack_frame_shape, live_object, held_thread, held_thread_shape, places_of}
use Rattle.jm_state.specs.Runnable.{IsRunnable, ThreadRuns, FrameRuns}
use Rattle.jm_state.specs.declared.thread.StackFrame.{StackFrame}
use Rattle.jm_state.specs.declared.thread.Thread as held
use Rattle.jm_state.proofs.Made.{all_resident}
use Rattle.jm_state.specs.View.{StateView}
use Rattle.jm_machine.specs.Held.{AreNamed}
use Rattle.jm_machine.specs.Readers.{TellsObject, frame_at, pending_of}
use Rattle.jm_machine.specs.Seen.{ObjectView, object_seen, statics_seen, view_of_object}
use Rattle.jm_machine.specs.Threads.{thread_numbered, frame_below, frame_numbered, pending_in, pending_numbered}
use Rattle.jm_machine.proofs.Events.{program_is, thread_is}
use Rattle.jm_machine.proofs.Told.{object, seen_is}

-- what holds of all threads holds of that of a number
thread_at_number : (P : HeldThread → Type 0) (ts : List held.Thread) (n : ℕ) (t : held.Thread) → AllByRecursion P (map held_thread ts) → thread_numbered ts n ≡ Some t → P (held_thread t)
thread_at_number P ts zero t all e = cc
thread_at_number P ts (suc n) t all e = each_at P (map held_thread ts) n (held_thread t) all (slice_get-map held_thread ts n ∙ ap (option_map held_thread) e)

-- the thread whose frame or pending exception it is
frame_found : (o : Option held.Thread) (depth : ℕ) (x : StackFrame) → frame_below o depth ≡ Some x → (t : held.Thread) × (o ≡ Some t) × (slice_get (reverse t.frames.items) depth ≡ Some x)
frame_found None depth x e = cc
frame_found (Some t) depth x e = (t, refl, e)

pending_found : (o : Option held.Thread) (p : ℕ) → pending_in o ≡ Some p → (t : held.Thread) × (o ≡ Some t) × (t.pending ≡ Some p)
pending_found None p e = cc
pending_found (Some t) p e = (t, refl, e)

pub frame_runs : (l : LinkedView) (v : StateView) → IsRunnable l v → (n depth : ℕ) (x : StackFrame) → frame_numbered v.threads n depth ≡ Some x → FrameRuns l x
frame_runs l v runs n depth x e =
    let f = frame_found (thread_numbered v.threads n) depth x e in
    each_at (FrameRuns l) (reverse f.0.frames.items) depth x (thread_at_number (ThreadRuns l) v.threads n f.0 runs.threads f.1).frames f.2

-- the places of a thread of a number
thread_places_among : (ts : List held.Thread) (n : ℕ) (t : held.Thread) (p : ℕ) → thread_numbered ts n ≡ Some t → Among p (held_thread_shape.refs (held_thread t)) → Among p ((list_shape held_thread_shape).refs (map held_thread ts))
thread_places_among ts zero t p e a = cc
thread_places_among ts (suc n) t p e a = refs_in held_thread_shape (map held_thread ts) n (held_thread t) p (slice_get-map held_thread ts n ∙ ap (option_map held_thread) e) a

-- held monitors whose objects have the serials as names are the model's
same_monitors : (f : ℕ → ℕ) (hs : List HeldMonitor)
    → map (λ (h : HeldMonitor). h.serial) hs ≡ map (λ (x : Monitor). x.object) ((list_shape monitor_shape).rename f (map monitor_part hs))
    → monitors_of hs ≡ (list_shape monitor_shape).rename f (map monitor_part hs)
same_monitors f [] e = refl
same_monitors f (h ∷ hs) e =
    let first : h.serial ≡ f h.place = cc in
    let rest : map (λ (x : HeldMonitor). x.serial) hs ≡ map (λ (x : Monitor). x.object) ((list_shape monitor_shape).rename f (map monitor_part hs)) = cc in
    λ i. record { object = first i; owner = h.owner; count = h.count } ∷ same_monitors f hs rest i

names_renamed : (f : ℕ → ℕ) (hs : List HeldMonitor)
    → map (λ (x : Monitor). x.object) ((list_shape monitor_shape).rename f (map monitor_part hs)) ≡ map (λ (h : HeldMonitor). f h.place) hs
names_renamed f [] = refl
names_renamed f (h ∷ hs) = ap (λ ks. f h.place ∷ ks) (names_renamed f hs)

module _ (l : LinkedView) (c : Content ClassId) (v : StateView) (w : World) (m : Matches (parts l c v) w) where
  frames_read : (n depth : ℕ) → frame_at (thread_at w n) depth ≡ option_map (rename_frame (name_of c)) (option_map (frame_part l) (frame_numbered v.threads n depth))
  frames_read n depth = ap (λ u. frame_at u depth) (thread_is l c v w m n) ∙ by (thread_numbered v.threads n)
    where
      by : (x : Option held.Thread) → frame_at (option_map (λ t. rename_thread (name_of c) (thread_part l t)) x) depth ≡ option_map (rename_frame (name_of c)) (option_map (frame_part l) (frame_below x depth))
      by None = refl
      by (Some t) =
          slice_get-map (rename_frame (name_of c)) (map (frame_part l) (reverse t.frames.items)) depth
          ∙ ap (option_map (rename_frame (name_of c))) (slice_get-map (frame_part l) (reverse t.frames.items) depth)

  pub frame_read : (n depth : ℕ) (x : StackFrame) → frame_numbered v.threads n depth ≡ Some x → frame_at (thread_at w n) depth ≡ Some (rename_frame (name_of c) (frame_part l x))
  frame_read n depth x e = frames_read n depth ∙ ap (λ u. option_map (rename_frame (name_of c)) (option_map (frame_part l) u)) e

  pub no_frame : (n depth : ℕ) → frame_numbered v.threads n depth ≡ None → frame_at (thread_at w n) depth ≡ None
  no_frame n depth e = frames_read n depth ∙ ap (λ u. option_map (rename_frame (name_of c)) (option_map (frame_part l) u)) e

  pub pending_read : (n : ℕ) (p : Option ℕ) → pending_numbered v.threads n ≡ p → pending_of (thread_at w n) ≡ option_map (name_of c) p
  pending_read n p e = ap pending_of (thread_is l c v w m n) ∙ by (thread_numbered v.threads n) ∙ ap (option_map (name_of c)) e
    where
      by : (x : Option held.Thread) → pending_of (option_map (λ t. rename_thread (name_of c) (thread_part l t)) x) ≡ option_map (name_of c) (pending_in x)
      by None = refl
      by (Some t) = refl

  pub statics_read : statics_seen l c v.statics ≡ w.statics
  unfolding parts
  statics_read = m.statics

  pub monitors_named : AreNamed c v.monitors
  unfolding parts
  monitors_named = m.monitor_serials ∙ ap (map (λ (x : Monitor). x.object)) (sym m.monitors) ∙ names_renamed (name_of c) v.monitors

  pub monitors_are : monitors_of v.monitors ≡ w.monitors
  unfolding parts
  monitors_are =
      same_monitors (name_of c) v.monitors (m.monitor_serials ∙ ap (map (λ (x : Monitor). x.object)) (sym m.monitors)) ∙ m.monitors

  -- the monitor of the object of a number
  pub monitor_read : (k : ℕ) (o : Option HeldMonitor) → o ≡ held_in v.monitors k → option_map monitor_of o ≡ monitor_in w.monitors k
  monitor_read k o e = ap (option_map monitor_of) e ∙ sym (held_is_monitor v.monitors k) ∙ ap (λ ms. monitor_in ms k) monitors_are

  pub is_sound : IsSound c
  unfolding parts
  is_sound = m.sound

  pub object_read : (k p : ℕ) → Among k (reach w) → serial_at c p ≡ Some k → object_at w k ≡ Some (object_seen l c p)
  unfolding parts
  object_read k p a e =
      let there = object l c p m.sound (k, e) in
      let same : there.0 ≡ k = let h : Some there.0 ≡ Some k = sym there.2 ∙ e in cc in
      sym (m.objects k (((reach_is_least w m.bound).same k).0 a))
      ∙ ap (option_map (as_named (named_type l.program))) (ap (content.object_at c) (sym same) ∙ there.3)
      ∙ ap Some (sym (seen_is l c p m.sound (k, e)))

  pub object_told : (k p : ℕ) → Among k (reach w) → serial_at c p ≡ Some k → (o : ObjectView) → o ≡ view_of_object l c p → TellsObject w k (Some o)
  object_told k p a e o is = (
    a,
    object_read k p a e ∙ ap (λ (x : ObjectView). Some x.object) (sym is),
    ap (λ (x : ObjectView). x.program) is ∙ program_is l c v w m,
  )

  module _ (n : IsRunnable l v) where
    all_here : AllResident c (places_of v)
    all_here = all_resident l c v (n, w, m) refl

    thread_resident : (n : ℕ) (t : held.Thread) → thread_numbered v.threads n ≡ Some t → AllResident c (held_thread_shape.refs (held_thread t))
    unfolding places_of
    thread_resident n t e = λ p a. all_here p (among_left p ((list_shape held_thread_shape).refs (map held_thread v.threads)) _ (thread_places_among v.threads n t p e a))

    pub frame_resident : (n depth : ℕ) (x : StackFrame) → frame_numbered v.threads n depth ≡ Some x → AllResident c (stack_frame_shape.refs x)
    frame_resident n depth x e =
        let f = frame_found (thread_numbered v.threads n) depth x e in
        λ p a. thread_resident n f.0 f.1 p (among_right p (optional_number_shape.refs (live_object f.0.ending f.0.object)) _ (among_right p (optional_number_shape.refs f.0.pending) ((list_shape stack_frame_shape).refs (reverse f.0.frames.items)) (refs_in stack_frame_shape (reverse f.0.frames.items) depth x p f.2 a)))

    pub pending_resident : (n p : ℕ) → pending_numbered v.threads n ≡ Some p → (k : ℕ) × (serial_at c p ≡ Some k)
    pending_resident n p e =
        let f = pending_found (thread_numbered v.threads n) p e in
        thread_resident n f.0 f.1 p (among_right p (optional_number_shape.refs (live_object f.0.ending f.0.object)) _ (among_left p (optional_number_shape.refs f.0.pending) ((list_shape stack_frame_shape).refs (reverse f.0.frames.items)) (subst (λ (x : Option ℕ). Among p (optional_number_shape.refs x)) (sym f.2) (inl refl))))

    pub monitors_resident : AllResident c ((list_shape held_shape).refs v.monitors)
    unfolding places_of
    monitors_resident = λ p a.
        all_here p (among_right p ((list_shape held_thread_shape).refs (map held_thread v.threads)) _
        (among_right p (stack_shape.refs v.statics) _ (among_left p ((list_shape held_shape).refs v.monitors) _ a)))

    pub statics_resident : AllResident c (stack_shape.refs v.statics)
    unfolding places_of
    statics_resident = λ p a. all_here p (among_right p ((list_shape held_thread_shape).refs (map held_thread v.threads)) _ (among_left p (stack_shape.refs v.statics) _ a))
