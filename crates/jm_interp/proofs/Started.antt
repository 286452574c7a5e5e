-- A thread that was started, behind the others.
use Rattle.std.proofs.Common.{◌≡◌, ℕ, zero, suc, ◌+◌, ◌≤◌, arith, List, [], ◌∷◌, ◌++◌, Option, Some, None, Bool, true, false, refl, sym, ap, ◌∙◌}
use Rattle.std.proofs.Common.{subst, inl, inr, length}
use Rattle.std.specs.Prelude.{◌||◌, cond, slice_get, slice_set, map, nat_eq, nat_lt}
use Rattle.std.specs.Ordering.{nat_cmp, is_eq}
use Rattle.std.specs.declared.cmp.Ordering.TheVariants.{Less, Equal, Greater}
use Rattle.std.specs.BTreeMap.{is_at}
use Rattle.std.proofs.lemmas.Bool.Decides.{nat_tests}
use Rattle.std.specs.List.{AllByRecursion, list_any}
use Rattle.std.proofs.lemmas.Grind.{flat_map-append}
use Rattle.std.proofs.lemmas.List.{map-append}
use Rattle.jm_program.proofs.Sequences.{got_front}
use Rattle.jm_values.specs.Content.{Content, name_of, serial_at}
use Rattle.jm_values.specs.Shape.{Among, list_shape}
use Rattle.jm_values.proofs.Among.{among_left, among_right, among_split}
use Rattle.jm_values.proofs.SoundContents.{name_is}
use Rattle.jm_values.proofs.Lists.{each_and_more}
use Rattle.jm_world.specs.BuiltInMethods.{is_object_of, was_started, new_thread, with_new_thread}
use Rattle.jm_world.specs.Loading.{first_statics}
use Rattle.jm_world.specs.Matches.{Matches}
use Rattle.jm_world.specs.Renaming.{thread_shape, static_shape, monitor_shape, rename_thread}
use Rattle.jm_world.specs.World.{World, Thread, Monitor, Progress, is_running, live_among, refs_thread}
use Rattle.jm_world.proofs.Changed.{Change, reach_shared, place_stands, changed}
use Rattle.jm_world.proofs.Changed as beside
use Rattle.jm_heap.specs.declared.class_id.ClassId.{ClassId}
use Rattle.jm_linked.specs.Links.{LinkedView}
use Rattle.jm_linked.specs.Named.{named_states, named_statics}
use Rattle.jm_monitors.specs.HeldMonitors.{HeldMonitor}
use Rattle.jm_state.specs.Parts.{parts, state_parts, thread_part, monitor_part}
use Rattle.jm_state.specs.Places.{held_thread}
use Rattle.jm_state.specs.Runnable.{ThreadRuns, IsRunnable, StateRuns, is_among, is_started}
use Rattle.jm_state.specs.View.{StateView, view_of}
use Rattle.jm_state.specs.declared.state.State.{State}
use Rattle.jm_state.specs.declared.thread.StackFrame.{StackFrame}
use Rattle.jm_state.specs.declared.thread.StackFrame.TheVariants.{Entry}
use Rattle.jm_state.specs.declared.thread.Thread as held
use Rattle.jm_interp.specs.declared.at.At.{At}
use Rattle.jm_interp.specs.At.{parts_at, OnThread}
use Rattle.jm_interp.specs.Standing.{ThreadRest, running, part_of}
use Rattle.jm_interp.specs.Starting.{Added}
use Rattle.jm_interp.proofs.Locked.{reached}
use Rattle.jm_interp.proofs.OnThread.{model, thread_there}
use Rattle.jm_interp.proofs.Threads.{held_is, part_is}

pub set_front : {A : Type 0} (xs ys : List A) (i : ℕ) (x y : A) → slice_get xs i ≡ Some x → slice_set (xs ++ ys) i y ≡ slice_set xs i y ++ ys
set_front [] ys i x y e = cc
set_front (z ∷ xs) ys zero x y e = refl
set_front (z ∷ xs) ys (suc i) x y e = ap (λ l. z ∷ l) (set_front xs ys i x y e)

live_more : (ts : List Thread) (t : Thread) → is_running t.ending ≡ true → live_among (ts ++ t ∷ []) ≡ live_among ts + 1
live_more [] t live = ap (λ (b : Bool). elim b as (λ _. ℕ) [ true ↦ 0 + 1 | false ↦ 0 ]) live
live_more (x ∷ ts) t live = by (is_running x.ending) (live_more ts t live)
  where
    by : (b : Bool) → live_among (ts ++ t ∷ []) ≡ live_among ts + 1
        → elim b as (λ _. ℕ) [ true ↦ live_among (ts ++ t ∷ []) + 1 | false ↦ live_among (ts ++ t ∷ []) ]
        ≡ elim b as (λ _. ℕ) [ true ↦ live_among ts + 1 | false ↦ live_among ts ] + 1
    by true e = ap (λ n. n + 1) e
    by false e = e

pub live_few : (ts : List Thread) → live_among ts ≤ length ts
live_few [] = omega arith
live_few (x ∷ ts) = by (is_running x.ending) (live_few ts)
  where
    by : (b : Bool) → live_among ts ≤ length ts → elim b as (λ _. ℕ) [ true ↦ live_among ts + 1 | false ↦ live_among ts ] ≤ suc (length ts)
    by true e = omega arith
    by false e = omega arith

or_next : (a b c : Bool) → (a || (b || c)) ≡ (b || (a || c))
or_next true true c = refl
or_next true false c = refl
or_next false true c = refl
or_next false false c = refl

started_more : (k : ℕ) (os : List (Option ℕ)) (o : Option ℕ) → is_started k (os ++ o ∷ []) ≡ (is_object_of k o || is_started k os)
started_more k [] o = refl
started_more k (x ∷ os) o = ap (λ b. is_object_of k x || b) (started_more k os o) ∙ or_next (is_object_of k x) (is_object_of k o) (is_started k os)

pub was_started_is : (k : ℕ) (ts : List Thread) → was_started k ts ≡ is_started k (map (λ (t : Thread). t.object) ts)
was_started_is k [] = refl
was_started_is k (t ∷ ts) = by (is_object_of k t.object) (was_started_is k ts)
  where
    by : (b : Bool) → was_started k ts ≡ is_started k (map (λ (t : Thread). t.object) ts)
        → elim b as (λ _. Bool) [ true ↦ true | false ↦ was_started k ts ] ≡ (b || is_started k (map (λ (t : Thread). t.object) ts))
    by true e = refl
    by false e = e

-- a state with one thread more
module _ {H : Type 0} (content : H → Content ClassId) (l : LinkedView) {old new : State H} {place serial : ℕ} (added : Added old new place serial) where
  abbrev part : Thread
  part = thread_part l added.thread

  abbrev rest : ThreadRest
  rest = running (record { place = Some place; serial = Some serial }) None

  its_part : part ≡ part_of l (Entry ∷ []) rest
  its_part = part_is l added.thread (Entry ∷ []) rest added.is_new

  abbrev after : StateView
  after = record (view_of old) { threads = old.threads.items ++ added.thread ∷ []; started = new.started.keys; live = new.live }

  view_is : view_of new ≡ after
  view_is = ap view_of added.rest ∙ ap (λ ts. record (view_of old) { threads = ts; started = new.started.keys; live = new.live }) added.threads

  pub heap_is : new.heap ≡ old.heap
  heap_is = ap (λ (s : State H). s.heap) added.rest

  listed : map (thread_part l) (old.threads.items ++ added.thread ∷ []) ≡ map (thread_part l) old.threads.items ++ part_of l (Entry ∷ []) rest ∷ []
  listed = map-append (thread_part l) old.threads.items (added.thread ∷ []) ∙ ap (λ x. map (thread_part l) old.threads.items ++ x ∷ []) its_part

  serials : map (λ (t : held.Thread). t.serial) (old.threads.items ++ added.thread ∷ [])
      ≡ map (λ (t : held.Thread). t.serial) old.threads.items ++ Some serial ∷ []
  serials =
      map-append (λ (t : held.Thread). t.serial) old.threads.items (added.thread ∷ [])
      ∙ ap (λ (r : ThreadRest). map (λ (t : held.Thread). t.serial) old.threads.items ++ r.object.serial ∷ []) added.is_new.rest_is

  pub added_runs : StateRuns l old → StateRuns l new
  added_runs r =
      subst (λ v. IsRunnable l v) (sym view_is) (record {
        threads = subst (AllByRecursion (ThreadRuns l)) (sym (map-append held_thread old.threads.items (added.thread ∷ [])))
            (each_and_more (ThreadRuns l) (map held_thread old.threads.items) (held_thread added.thread) r.threads
            (subst (ThreadRuns l) (sym (held_is added.is_new)) (record { frames = (tt, tt); few = omega arith })));
        live = added.live ∙ ap (λ n. n + 1) r.live
            ∙ sym (ap live_among listed ∙ live_more (map (thread_part l) old.threads.items) (part_of l (Entry ∷ []) rest) refl);
        statics = r.statics;
        literals = r.literals;
        classes = r.classes;
        started = λ k. added.started k ∙ ap (λ b. nat_eq serial k || b) (r.started k)
            ∙ sym (ap (is_started k) serials ∙ started_more k (map (λ (t : held.Thread). t.serial) old.threads.items) (Some serial));
      })

  module _ (w : World) (m : Matches (state_parts content l old) w) (there : serial_at (content old.heap) place ≡ Some serial)
      (own : beside.Stands (state_parts content l old) (reached w) place) where
    abbrev f : ℕ → ℕ
    f = name_of (content old.heap)

    named : map (rename_thread f) (map (thread_part l) (old.threads.items ++ added.thread ∷ [])) ≡ w.threads ++ new_thread (f place) ∷ []
    unfolding parts
    named =
        ap (map (rename_thread f)) listed
        ∙ map-append (rename_thread f) (map (thread_part l) old.threads.items) (part_of l (Entry ∷ []) rest ∷ [])
        ∙ ap (λ ts. ts ++ new_thread (f place) ∷ []) m.threads

    stand : (q : ℕ) → Among q ((list_shape thread_shape).refs (map (thread_part l) (old.threads.items ++ added.thread ∷ [])))
        → beside.Stands (state_parts content l old) (reached w) q
    unfolding parts
    stand q a =
        let ts = map (thread_part l) old.threads.items in
        let mach = state_parts content l old in
        let a0 = (list_shape thread_shape).refs ts in
        let a1 = (list_shape static_shape).refs (named_statics (first_statics l.program) old.statics.items) in
        let a2 = (list_shape monitor_shape).refs (map monitor_part old.monitors) in
        let whole : Among q (a0 ++ (list_shape thread_shape).refs (part_of l (Entry ∷ []) rest ∷ [])) =
        subst (Among q) (ap (list_shape thread_shape).refs listed ∙ flat_map-append refs_thread ts (part_of l (Entry ∷ []) rest ∷ [])) a in
        elim (among_split q a0 ((list_shape thread_shape).refs (part_of l (Entry ∷ []) rest ∷ [])) whole) [
          | inl b ↦ place_stands mach w m (reached w) (reach_shared mach w m) q
              (among_left q (a0 ++ a1 ++ a2) _ (among_left q (a0 ++ a1) a2 (among_left q a0 a1 b)))
          | inr b ↦ elim b [ inl same ↦ subst (beside.Stands mach (reached w)) (sym same) own | inr z ↦ absurd z ]
        ]

    pub added_matches : Matches (state_parts content l new) (with_new_thread w (new_thread (f place)))
    unfolding parts
    added_matches =
        let mach = state_parts content l old in
        let ts = old.threads.items ++ added.thread ∷ [] in
        let shared = reach_shared mach w m in
        let serial_of : held.Thread → Option ℕ = λ t. t.serial in
        let object : Thread → Option ℕ = λ t. t.object in
        let a0 = (list_shape thread_shape).refs (map (thread_part l) old.threads.items) in
        let a1 = (list_shape static_shape).refs (named_statics (first_statics l.program) old.statics.items) in
        let a2 = (list_shape monitor_shape).refs (map monitor_part old.monitors) in
        let change : Change = record {
          threads = map (thread_part l) ts;
          thread_serials = map serial_of ts;
          classes = named_states l.program old.classes;
          monitors = map monitor_part old.monitors;
          monitor_serials = map (λ (x : HeldMonitor). x.serial) old.monitors;
          output = old.output.items;
        } in
        let told : map serial_of ts ≡ map object (w.threads ++ new_thread (f place) ∷ []) =
        serials
        ∙ (λ i. m.thread_serials i ++ Some (sym (name_is (content old.heap) place serial there) i) ∷ [])
        ∙ sym (map-append object w.threads (new_thread (f place) ∷ [])) in
        let whole = changed mach w m (reached w) shared change stand
        (λ q a. place_stands mach w m (reached w) shared q (among_left q (a0 ++ a1 ++ a2) _ (among_right q (a0 ++ a1) a2 a)))
        (told ∙ sym (ap (map object) named)) (m.monitor_serials ∙ sym (ap (map (λ (x : Monitor). x.object)) m.monitors)) in
        subst (λ k. Matches (parts l (content k) (view_of new)) (with_new_thread w (new_thread (f place)))) (sym heap_is)
        (subst (λ v. Matches (parts l (content old.heap) v) (with_new_thread w (new_thread (f place)))) (sym view_is)
        (subst (λ (z : List Thread × List Progress × List Monitor × List ℕ).
        Matches (parts l (content old.heap) after) (record w { threads = z.0; classes = z.1; monitors = z.2; output = z.3 }))
        (λ i. (named i, m.classes i, m.monitors i, m.output i)) whole))

-- the thread that steps stands in it as before
module _ {H : Type 0} {content : H → Content ClassId} {at : At} {old new : State H} {fs : List StackFrame} {p : Option ℕ} (h : OnThread content at old fs p)
    {place serial : ℕ} (added : Added old new place serial) where
  pub model_there : (w : World) (t : Thread) → Matches (parts_at content at old) w → slice_get (with_new_thread w t).threads at.index ≡ Some (model h)
  model_there w t m = got_front w.threads (t ∷ []) at.index (model h) (thread_there h w m)

  pub stands_added : StateRuns at.linked.now new → (v : World) → Matches (parts_at content at new) v → OnThread content at new fs p
  stands_added runs v m = record {
    world = v;
    beside = record { linked = h.beside.linked; runs = runs; matches = m };
    object = h.object;
    stands = record {
      thread = h.stands.thread;
      at = ap (λ ts. slice_get ts at.index) added.threads
          ∙ got_front old.threads.items (added.thread ∷ []) at.index h.stands.thread h.stands.at;
      stands = h.stands.stands;
    };
  }

-- the keys of the started are found as numbers
same_test : (k n : ℕ) → is_eq (nat_cmp k n) ≡ nat_eq k n
same_test k n = by (nat_lt k n) refl (nat_eq k n) refl
  where
    by : (less : Bool) → nat_lt k n ≡ less → (same : Bool) → nat_eq k n ≡ same → is_eq (cond less Less (cond same Equal Greater)) ≡ same
    by true p true q = absurd (grind (arith, nat_tests))
    by true p false q = refl
    by false p true q = refl
    by false p false q = refl

pub is_among_is : (k : ℕ) (ns : List ℕ) → is_among k ns ≡ list_any (is_at (nat_cmp k)) ns
is_among_is k [] = refl
is_among_is k (n ∷ ns) = λ i. sym (same_test k n) i || is_among_is k ns i

pub among_more : (serial : ℕ) (old new : List ℕ)
    → ((k : ℕ) → list_any (is_at (nat_cmp k)) new ≡ cond (is_at (nat_cmp serial) k) true (list_any (is_at (nat_cmp k)) old))
    → (k : ℕ) → is_among k new ≡ (nat_eq serial k || is_among k old)
among_more serial old new told k =
    is_among_is k new ∙ told k ∙ by (is_at (nat_cmp serial) k) (list_any (is_at (nat_cmp k)) old)
    ∙ (λ i. same_test serial k i || sym (is_among_is k old) i)
  where
    by : (b c : Bool) → cond b true c ≡ (b || c)
    by true c = refl
    by false c = refl
