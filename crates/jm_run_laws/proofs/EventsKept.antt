-- What comes of a step keeps a law of frames and objects, and so do events and runs.
use Rattle.std.proofs.Common.{◌≡◌, ℕ, zero, suc, ◌≤◌, List, [], ◌∷◌, ◌++◌, Option, Some, None, Bool, true, false, refl, sym, subst, length, append-nil, arith}
use Rattle.std.specs.List.{AllByRecursion}
use Rattle.std.specs.Prelude.{◌-◌, slice_get, slice_set}
use Rattle.jm_program.specs.Descriptors.{argument_slots}
use Rattle.jm_program.specs.Fits.{Fits}
use Rattle.jm_program.specs.declared.class.ClassParts.{ClassParts}
use Rattle.jm_program.specs.declared.code.Code.{Code}
use Rattle.jm_program.specs.declared.code.Handler.{Handler}
use Rattle.jm_program.specs.declared.instruction.operation.InvokeOp.TheVariants.{Special}
use Rattle.jm_program.specs.declared.instruction.symbolic.Instr.TheVariants as instr
use Rattle.jm_program.proofs.Truths.{both_true}
use Rattle.jm_values.specs.declared.value.Value.{Value}
use Rattle.jm_values.specs.declared.value.Value.TheVariants.{Ref}
use Rattle.jm_values.proofs.Lists.{each_of_both, each_at, each_set}
use Rattle.jm_world.specs.Types.{ObjectType}
use Rattle.jm_world.specs.Classes.{FoundMethod, name_of_method, method_named}
use Rattle.jm_world.specs.Objects.{Object, new_instance}
use Rattle.jm_world.specs.Frames.{Frame, method_frame, initialization_frame, entry_frame}
use Rattle.jm_world.specs.World.{World, Thread, thread_at, with_thread}
use Rattle.jm_world.specs.Next.{Next, exception, with_objects}
use Rattle.jm_world.specs.BuiltInMethods.{new_thread}
use Rattle.jm_world.specs.Invocation.{activation_of, locals_of}
use Rattle.jm_world.specs.Throwing.{catches, handler_in, handlers_of}
use Rattle.jm_world.specs.Run.{after, run_from}
use Rattle.jm_world.specs.declared.class_state.ClassState.{ClassState}
use Rattle.jm_world.specs.declared.stage.Stage.TheVariants.{Begin}
use Rattle.jm_world.specs.declared.event.Event.{Event}
use Rattle.jm_world.specs.Loads.{Loads, method_refusal}
use Rattle.jm_world.specs.Loading.{main_in, first_objects, first_thread, loaded_world}
use Rattle.jm_world.proofs.BesideItself.{Same, twin, twin_step}
use Rattle.jm_world.proofs.Fitting.{each_more}
use Rattle.jm_world.proofs.KeepingNames.{events_keep_names}
use Rattle.jm_world.proofs.KeptByEvents as by_steps
use Rattle.jm_world.proofs.KeptByEvents.{Behind}
use Rattle.jm_world.proofs.Leaving.{is_bare, is_thrown_in, is_thrown, Thrown, by_row, by_plain, IsArray, Leaves, as_before, cleared, threw, arrays, instance, raised, died}
use Rattle.jm_world.proofs.Turning as turning
use Rattle.jm_world.proofs.Turning.{Found, by_class, by_name, by_invokespecial, of_class, slots_of, Goes, moved, acted, called, gave, left, needed, unneeded, onward, upward, initialized, finished, entered, Drops, no_frame, a_method, an_initialization, a_refusal, an_entry, Turn, ends, goes_on, raises, drops, dies}
use Rattle.jm_world.proofs.WhatComes.{same, stored, sets, locks, states, begins, writes, Changes, Comes, stopped, blocked, went, makes, fails, starts}
use Rattle.jm_run_laws.proofs.CalledCode.{Begins, CallBegins, resolved_begins, selected_begins, specially_begins, initializer_begins, main_begins}
use Rattle.jm_run_laws.proofs.Law.{Law, IsKept, EachBelow, Frames, Pending, Its, Keeps}
use Rattle.jm_run_laws.proofs.LoadedCode.{StandsAt, stands_at}
use Rattle.jm_run_laws.proofs.PlainStays.{Stays, plain_stays}

-- the handler that catches is one of the method's
handler_got : (w : World) (at : ℕ) (thrown : ObjectType) (hs : List Handler) (h : Handler) → handler_in w at thrown hs ≡ Some h → (j : ℕ) × (slice_get hs j ≡ Some h)
handler_got w at thrown [] h e = cc
handler_got w at thrown (x ∷ xs) h e = by (catches w at thrown x) e (handler_got w at thrown xs h)
  where
    by : (b : Bool) → (elim b as (λ _. Option Handler) [ true ↦ Some x | false ↦ handler_in w at thrown xs ]) ≡ Some h → (handler_in w at thrown xs ≡ Some h → (j : ℕ) × (slice_get xs j ≡ Some h)) → (j : ℕ) × (slice_get (x ∷ xs) j ≡ Some h)
    by true q ih = (zero, q)
    by false q ih = let later : (j : ℕ) × (slice_get xs j ≡ Some h) = ih q in (suc later.0, later.1)

-- a method that is called
module _ (program : List ClassParts) (fits : AllByRecursion Fits program) (loads : Loads program) where
  found_begins : (found : FoundMethod) (x : Found program found) → Begins program (slots_of x) found
  found_begins found (by_class class name t d) = subst (CallBegins program (suc (argument_slots t))) d (selected_begins program fits loads class name t (suc (argument_slots t)) (omega arith))
  found_begins found (by_name class name t d) = subst (CallBegins program (argument_slots t)) d (resolved_begins program fits loads class name t (argument_slots t) (omega arith))
  found_begins found (by_invokespecial here class m q d i c) =
      let fits : AllByRecursion Fits here.world.program = subst (AllByRecursion Fits) (sym q) fits in
      let loads : Loads here.world.program = subst Loads (sym q) loads in
      let allowed : method_refusal here.world.program Special m m.class ≡ None = (stands_at here.world.program fits loads here.method here.frame.at (instr.Invoke Special m) i).allowed in
      let n : ℕ = suc (argument_slots m.descriptor) in
      subst (λ p. CallBegins p n (Some found)) q (subst (CallBegins here.world.program n) d (specially_begins here fits loads class m n (subst (λ x. method_refusal here.world.program Special m x ≡ None) c allowed) (omega arith)))
  found_begins found (of_class class d) = subst (CallBegins program 0) d (initializer_begins program fits loads class)

  is_thrown_by : (class : List ℕ) → Thrown program class → is_thrown class ≡ true
  is_thrown_by class (by_row e) = e
  is_thrown_by class (by_plain m a op d e) =
      let s : StandsAt program m a.at (instr.Plain op) = stands_at program fits loads m a.at (instr.Plain op) d in
      subst (λ c. is_thrown c ≡ true) (sym (subst (Stays (length s.code.instructions) a) e (plain_stays (length s.code.instructions) op a s.fits s.within))) refl

module _ (L : Law) where
  -- a frame that was below is the top
  top_below : (program : List ClassParts) → IsKept program L → (fs : List Frame) → EachBelow L fs → Frames L fs
  top_below program k [] f = tt
  top_below program k (method_frame m a monitor ∷ fs) f = (k.rests m a f.0, f.1)
  top_below program k (initialization_frame class stage ∷ fs) f = f
  top_below program k (entry_frame ∷ fs) f = f

  arrays_hold : (program : List ClassParts) → IsKept program L → (os : List Object) → AllByRecursion IsArray os → AllByRecursion L.Holds os
  arrays_hold program k os a = each_more (λ o i. subst (λ type. L.Holds (record { type = type; values = o.values })) (sym i.1) (k.arrays i.0 o.values)) os a

  -- a step of a thread in a world of the law
  module _ (w : World) (fits : AllByRecursion Fits w.program) (loads : Loads w.program) (k : IsKept w.program L) where
    begun : (found : FoundMethod) (code : Code) (vs : List Value) (x : Found w.program found) → found.method.code ≡ Some code → length (locals_of vs) ≤ slots_of x → L.Below (name_of_method found) (activation_of code vs)
    begun found code vs x e l = let b = found_begins w.program fits loads found x code e in k.begins (name_of_method found) code vs b.0 (omega (arith, l, b.1))

    goes_keep : (n : ℕ) (fs gs : List Frame) (c : Option (List ℕ × ClassState)) → Goes w.program n fs c gs → Frames L fs → Frames L gs
    goes_keep n _ _ _ (moved {m = m} {a = a} s b i) f = (k.moves m a s (k.stands m a i.0 f.0 i.1), f.1)
    goes_keep n _ _ _ (acted {m = m} {a = a} {b = b} op d e) f = (k.acts m a op b (k.stands m a (instr.Plain op) f.0 d) d e, f.1)
    goes_keep n _ _ _ (called {m = m} {a = a} s vs found code lock b d x y l i) f = (k.rests (name_of_method found) (activation_of code vs) (begun found code vs x y l), (k.pops m a s (k.stands m a i.0 f.0 i.1), f.1))
    goes_keep n _ _ _ (gave {k = m} {b = b} s z) f = (k.moves m b s f.1.0, f.1.1)
    goes_keep n _ _ _ (left {fs = fs}) f = top_below w.program k fs f.1
    goes_keep n _ _ _ (needed {m = m} {a = a} class b i) f = (k.stands m a i.0 f.0 i.1, f.1)
    goes_keep n _ _ _ (unneeded {fs = fs}) f = top_below w.program k fs f
    goes_keep n _ _ _ turning.begun f = f
    goes_keep n _ _ _ onward f = f
    goes_keep n _ _ _ (upward above b) f = f
    goes_keep n _ _ _ (initialized found code b x y) f = (k.rests (name_of_method found) (activation_of code []) (begun found code [] x y (omega arith)), f)
    goes_keep n _ _ _ (finished {fs = fs}) f = top_below w.program k fs f
    goes_keep n _ _ _ (entered found code j lock x y l) f = (k.rests (name_of_method found) (activation_of code (Ref j ∷ [])) (begun found code (Ref j ∷ []) x y l), f)

    drops_keep : (fs gs : List Frame) (c : Option (List ℕ × ClassState)) → Drops fs c gs → Frames L fs → Frames L gs
    drops_keep _ _ _ no_frame f = f
    drops_keep _ _ _ (a_method {fs = fs}) f = top_below w.program k fs f.1
    drops_keep _ _ _ (an_initialization {fs = fs}) f = top_below w.program k fs f
    drops_keep _ _ _ (a_refusal {fs = fs}) f = top_below w.program k fs f
    drops_keep _ _ _ (an_entry {fs = fs}) f = top_below w.program k fs f

    turn_keeps : (n : ℕ) (t s : Thread) (c : Option (List ℕ × ClassState)) → Turn w n t c s → Frames L t.frames → Frames L s.frames
    turn_keeps n t _ _ (ends fs d x) f = tt
    turn_keeps n t _ _ (goes_on fs d x) f = goes_keep n fs _ _ x (subst (Frames L) d f)
    turn_keeps n t _ _ (raises j) f = f
    turn_keeps n t _ _ (turning.catches {m = m} {a = a} {o = o} {fs = fs} type h j d x b) f =
        let g : Frames L (method_frame m a o ∷ fs) = subst (Frames L) d f in
        let got : (i : ℕ) × (slice_get (handlers_of (method_named w.program m)) i ≡ Some h) = handler_got w a.at type (handlers_of (method_named w.program m)) h x in
        (k.handles m a h (Ref j ∷ []) got.0 g.0 got.1, g.1)
    turn_keeps n t _ _ (drops fs j d x) f = drops_keep fs _ _ x (subst (Frames L) d f)
    turn_keeps n t _ _ (dies fs class d x) f = tt

    -- more objects, and a store into one
    more_pends : (os : List Object) (o : Option ℕ) → Pending L w.heap o → Pending L (w.heap ++ os) o
    more_pends os None p = tt
    more_pends os (Some j) p = k.more w.heap os j p

    still_pends : (j : ℕ) (o : Object) (i : ℕ) (v : Value) → slice_get w.heap j ≡ Some o → (q : Option ℕ) → Pending L w.heap q → Pending L (slice_set w.heap j (record { type = o.type; values = slice_set o.values i v })) q
    still_pends j o i v e None p = tt
    still_pends j o i v e (Some x) p = k.changed w.heap j o i v x e p

    bare : (class : List ℕ) → Thrown w.program class → L.Holds (exception class)
    bare class z = k.bare class (both_true (is_bare class) (is_thrown_in 6 class) (is_thrown_by w.program fits loads class z)).0

    leaves_keep : (old new : Option ℕ) (os : List Object) → Leaves w old os new → Pending L w.heap old → AllByRecursion L.Holds os × Pending L (w.heap ++ os) new
    leaves_keep old _ _ as_before p = (tt, more_pends [] old p)
    leaves_keep old _ _ cleared p = (tt, tt)
    leaves_keep old _ _ (threw {k = j} o e q) p = (tt, k.more w.heap [] j (k.throws w j o refl e q))
    leaves_keep old _ _ (arrays os a) p = (arrays_hold w.program k os a, more_pends os old p)
    leaves_keep old _ _ (instance class m at e) p = ((k.instances class (stands_at w.program fits loads m at (instr.New class) e).allowed, tt), more_pends (new_instance w.program class ∷ []) old p)
    leaves_keep old _ _ (raised class z) p = ((bare class z, tt), k.news w.heap class (is_thrown_by w.program fits loads class z))
    leaves_keep old _ _ (died class z) p = ((bare class z, tt), tt)

    module _ (n : ℕ) (t : Thread) (h : Keeps L w) (own : Its L w.heap t) where
      put : (s : Thread) → Its L w.heap s → Keeps L (with_thread w n s)
      put s f = (each_set (Its L w.heap) w.threads (n - 1) s h.0 f, h.1)

      changed : (c : Option (List ℕ × ClassState)) (v u : World) (s : Thread) → Changes Same (twin w) n c v u → Its L w.heap s → Keeps L (with_thread v n s)
      changed _ _ _ s same f = put s f
      changed _ _ _ s (stored {k = j} i {o = o} {v = v} r e d x a) f = (
        each_more (λ u g. (g.0, still_pends j o i v e u.pending g.1)) (slice_set w.threads (n - 1) s) (put s f).0,
        each_set L.Holds w.heap j (record { type = o.type; values = slice_set o.values i v }) h.1 (k.stored o i v (each_at L.Holds w.heap j o h.1 e)),
      )
      changed _ _ _ s (sets x a) f = put s f
      changed _ _ _ s (locks x) f = put s f
      changed _ _ _ s (states class state) f = put s f
      changed _ _ _ s (begins class) f = put s f
      changed _ _ _ s (writes bytes) f = put s f

      its : (c : Option (List ℕ × ClassState)) (s : Thread) → Turn w n t c s → Leaves w t.pending [] s.pending → Its L w.heap s
      its c s x y = (turn_keeps n t s c x own.0, subst (λ heap. Pending L heap s.pending) (append-nil w.heap) (leaves_keep t.pending s.pending [] y own.1).1)

      made : (c : Option (List ℕ × ClassState)) (s : Thread) (os : List Object) → Turn w n t c s → Leaves w t.pending os s.pending → Keeps L (with_thread (with_objects w os) n s)
      made c s os x y =
          let l = leaves_keep t.pending s.pending os y own.1 in
          (each_set (Its L (w.heap ++ os)) w.threads (n - 1) s (each_more (λ u f. (f.0, more_pends os u.pending f.1)) w.threads h.0) (turn_keeps n t s c x own.0, l.1), each_of_both L.Holds w.heap os h.1 l.0)

      comes_keep : (x y : Next) → Comes Same (twin w) n t t x y → Behind (Keeps L) x
      comes_keep _ _ stopped = tt
      comes_keep _ _ (blocked x) = tt
      comes_keep _ _ (went {w = v} {v = u} {s = s} c d x y) = changed c v u s d (its c s x.turn y)
      comes_keep _ _ (makes os {s = s} a x y) = made None s os x.turn y
      comes_keep _ _ (fails class os {s = s} a x y) = made _ s os x.turn y
      comes_keep _ _ (starts {k = j} {s = s} r x y) =
          let p = put s (its None s x.turn y) in
          (each_of_both (Its L w.heap) (slice_set w.threads (n - 1) s) (new_thread j ∷ []) p.0 ((tt, tt), tt), p.1)

  -- events
  its_frames : (w : World) (number : ℕ) (t : Thread) → Keeps L w → thread_at w number ≡ Some t → Its L w.heap t
  its_frames w zero t h e = cc
  its_frames w (suc n) t h e = each_at (Its L w.heap) w.threads n t h.0 e

  pub event_keeps : (w : World) (e : Event) → AllByRecursion Fits w.program → Loads w.program → IsKept w.program L → Keeps L w → Keeps L (after w e).world
  event_keeps w e fits loads l h = by_steps.event_keeps (Keeps L) w h (λ s. h) (λ n t d r. comes_keep w fits loads l n t h (its_frames w n t h d) _ _ (twin_step w n t)) e

  from_keeps : (w : World) (es : List Event) → AllByRecursion Fits w.program → Loads w.program → IsKept w.program L → Keeps L w → Keeps L (run_from w es)
  from_keeps w [] fits loads l h = h
  from_keeps w (e ∷ es) fits loads l h =
      let same : w.program ≡ (after w e).world.program = sym (events_keep_names w e).0 in
      from_keeps (after w e).world es (subst (AllByRecursion Fits) same fits) (subst Loads same loads) (subst (λ p. IsKept p L) same l) (event_keeps w e fits loads l h)

  -- the first world: main's frame below the initialization of its class, and the first objects
  first_frames_kept : (program : List ClassParts) → IsKept program L → (found : Option FoundMethod) → CallBegins program 1 found → Frames L (first_thread found).frames
  first_frames_kept program l None d = tt
  first_frames_kept program l (Some m) d = by m.method.code refl
    where
      by : (code : Option Code) → m.method.code ≡ code → Frames L (elim code as (λ _. List Frame) [ None ↦ [] | Some c ↦ initialization_frame m.class.name Begin ∷ method_frame (name_of_method m) (activation_of c (Ref 1 ∷ [])) None ∷ [] ])
      by None e = tt
      by (Some c) e = (l.begins (name_of_method m) c (Ref 1 ∷ []) (d c e).0 (d c e).1, tt)

  pub run_keeps : (program : List ClassParts) (limit : ℕ) (events : List Event) → AllByRecursion Fits program → Loads program → IsKept program L → AllByRecursion L.Holds (first_objects program) → Keeps L (run_from (loaded_world program limit) events)
  unfolding loaded_world
  run_keeps program limit events fits loads l h = from_keeps (loaded_world program limit) events fits loads l (((first_frames_kept program l (main_in program) (main_begins program fits loads), tt), tt), h)
