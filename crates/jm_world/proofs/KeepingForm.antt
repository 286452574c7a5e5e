-- An event keeps a world well formed: its references are numbers of objects. The world stands beside itself, each
-- number of an object beside itself.
use Rattle.std.proofs.Common.{◌≡◌, ℕ, zero, suc, ◌+◌, ◌-◌, ◌^◌, ◌<◌, ◌≤◌, List, [], ◌∷◌, ◌++◌, Option, Some, None, Bool, true, false, refl, sym, ap, ◌∙◌, subst, inl, inr, length, arith, length-append}
use Rattle.std.specs.Prelude.{map, slice_get, slice_set, nat_eq, nat_lt}
use Rattle.std.specs.List.{AllByRecursion}
use Rattle.std.proofs.lemmas.Bool.{ltb-true}
use Rattle.std.proofs.lemmas.Option.{slice_get_within}
use Rattle.jm_program.proofs.Sequences.{length_written}
use Rattle.jm_values.specs.Reach.{AllDistinct}
use Rattle.jm_values.specs.declared.value.Value.{Value}
use Rattle.jm_values.specs.declared.value.Value.TheVariants.{Int, Long, Null, Ref}
use Rattle.jm_values.proofs.Lists.{each_at, each_set, each_of_both}
use Rattle.jm_program.specs.declared.class.ClassParts.{ClassParts}
use Rattle.jm_world.specs.Classes.{class_named}
use Rattle.jm_world.specs.Objects.{Object}
use Rattle.jm_world.specs.Fields.{with_value_at}
use Rattle.jm_world.specs.Frames.{Frame, method_frame, initialization_frame, entry_frame}
use Rattle.jm_world.specs.World.{World, Thread, Static, Literal, Monitor, with_thread, with_state, thread_at, is_running}
use Rattle.jm_world.specs.Next.{Next, with_objects}
use Rattle.jm_world.specs.Monitors.{monitor_in, recounted, with_monitor, without_monitor}
use Rattle.jm_world.specs.BuiltInMethods.{was_started, new_thread, with_new_thread}
use Rattle.jm_world.specs.Initialization.{constants_of}
use Rattle.jm_world.specs.Stepping.{step_thread}
use Rattle.jm_world.specs.declared.class_state.ClassState.{ClassState}
use Rattle.jm_world.specs.declared.class_state.ClassState.TheVariants.{Failed}
use Rattle.jm_world.specs.WellFormed.{ValueBelow, ValuesBelow, LocalBelow, NumberBelow, FrameBelow, ThreadFits, MonitorFits, IsWellFormed, EventsKeepForm}
use Rattle.jm_world.specs.SideBySide.{Values, ints, longs, nulls, refs, Lists, none, more, Options, neither, both, Objects, objects, acts, Frames, methods, initializations, entries, Held, held}
use Rattle.jm_world.proofs.WhatComes.{Running}
use Rattle.jm_world.specs.TwoWorlds.{Two, left}
use Rattle.jm_world.proofs.WhatComes.{Alike, IsNew, Grown, AreNew, Locks, stay, entered, again, left_one, left_last, Changes, same, stored, sets, locks, states, begins, writes, Comes, stopped, blocked, Turned, went, makes, fails, starts}
use Rattle.jm_world.proofs.Turning.{Turn, ends, goes_on, raises, catches, drops, dies}
use Rattle.jm_world.specs.Renumbered.{Literals, literals, Statics, statics}
use Rattle.jm_world.proofs.Fitting.{each_more, number_more, monitor_more, with_thread_fits, with_objects_fits, with_monitors}
use Rattle.jm_world.proofs.PlainSideBySide.{plain_alike}
use Rattle.jm_world.proofs.ReachInAnyOrder.{distinct_without}
use Rattle.jm_world.proofs.MonitorsInAnyOrder.{not_in, objects_recounted, more_distinct, objects_left}
use Rattle.jm_world.proofs.RenumberedReadAlike.{literal_found, static_found}
use Rattle.jm_world.proofs.RenumberedSteps.{static_set, constants_set}
use Rattle.jm_world.proofs.StepsSideBySide.{step_both}
use Rattle.jm_world.proofs.BesideItself.{twin, option_itself}
use Rattle.jm_world.proofs.KeptByEvents.{Behind, event_keeps}

-- the number of an object beside itself
abbrev pub Own : ℕ → ℕ → ℕ → Type 0
Own n k j = (k ≡ j) × (k < n)

pub own_equal : (n k j i l : ℕ) → Own n k j → Own n i l → nat_eq k i ≡ nat_eq j l
own_equal n k j i l a b = cc (a.0, b.0)

-- what is below the number of objects stands beside itself
value_own : (n : ℕ) (v : Value) → ValueBelow n v → Values (Own n) v v
value_own n (Int i) b = ints
value_own n (Long i) b = longs
value_own n Null b = nulls
value_own n (Ref k) b = refs (refl, b)

pub list_own : {A : Type 0} {P : A → Type 0} {Q : A → A → Type 0} → ((x : A) → P x → Q x x) → (xs : List A) → AllByRecursion P xs → Lists Q xs xs
list_own f [] a = none
list_own f (x ∷ xs) a = more (f x a.0) (list_own f xs a.1)

option_own : {A : Type 0} {Q : A → A → Type 0} (o : Option A) → ((x : A) → o ≡ Some x → Q x x) → Options Q o o
option_own None f = neither
option_own (Some x) f = both (f x refl)

local_own : (n : ℕ) (o : Option Value) → LocalBelow n o → Options (Values (Own n)) o o
local_own n None b = neither
local_own n (Some v) b = both (value_own n v b)

number_own : (n : ℕ) (o : Option ℕ) → NumberBelow n o → Options (Own n) o o
number_own n None b = neither
number_own n (Some k) b = both (refl, b)

frame_own : (n : ℕ) (f : Frame) → FrameBelow n f → Frames (Own n) f f
frame_own n (method_frame m a o) b = methods (acts (list_own (local_own n) a.locals b.0) (list_own (value_own n) a.stack b.1)) (number_own n o b.2)
frame_own n (initialization_frame class stage) b = initializations
frame_own n entry_frame b = entries

object_own : (n : ℕ) (o : Object) → ValuesBelow n o.values → Objects (Own n) o o
object_own n o b = objects (list_own (value_own n) o.values b)

pub literals_own : (n : ℕ) (ls : List Literal) → AllByRecursion (λ l. l.string < n) ls → Lists (Literals (Own n)) ls ls
literals_own n ls b = list_own (λ l c. literals (refl, c)) ls b

pub statics_own : (n : ℕ) (ss : List Static) → AllByRecursion (λ s. ValueBelow n s.value) ss → Lists (Statics (Own n)) ss ss
statics_own n ss b = list_own (λ s c. statics (value_own n s.value c)) ss b

pub running_own : (n : ℕ) (t : Thread) → ThreadFits n t → Running (Own n) t t
running_own n t f = record { object = number_own n t.object f.object; frames = list_own (frame_own n) t.frames f.frames; pending = number_own n t.pending f.pending; ending = refl }

pub alike_own : (w : World) → IsWellFormed w → Alike (Own (length w.heap)) (twin w)
alike_own w f = record {
  cells = refl;
  made = refl;
  objects = λ k j r. subst (λ j. Options (Objects (Own (length w.heap))) (slice_get w.heap k) (slice_get w.heap j)) r.0
      (option_own (slice_get w.heap k) (λ o e. object_own (length w.heap) o (each_at (λ x. ValuesBelow (length w.heap) x.values) w.heap k o f.objects e)));
  literals = literal_found (Own (length w.heap)) w.literals w.literals (literals_own (length w.heap) w.literals f.literals);
  statics = static_found (Own (length w.heap)) w.statics w.statics (statics_own (length w.heap) w.statics f.statics);
  held = λ k j r. subst (λ j. Options Held (monitor_in w.monitors k) (monitor_in w.monitors j)) r.0 (option_itself Held (λ m. held) (monitor_in w.monitors k));
  started = λ k j r. ap (λ j. was_started j w.threads) r.0;
  plain = plain_alike (Own (length w.heap)) (own_equal (length w.heap));
}

each_from : {A : Type 0} {P : A → A → Type 0} {Q : A → Type 0} → ((x y : A) → P x y → Q x) → {xs ys : List A} → Lists P xs ys → AllByRecursion Q xs
each_from f none = tt
each_from f (more p l) = (f _ _ p, each_from f l)

-- and what stands beside another by numbers below is below
module _ (R : ℕ → ℕ → Type 0) (n : ℕ) (below : (k j : ℕ) → R k j → k < n) where
  pub value_from : (v u : Value) → Values R v u → ValueBelow n v
  value_from _ _ ints = tt
  value_from _ _ longs = tt
  value_from _ _ nulls = tt
  value_from _ _ (refs r) = below _ _ r

  local_from : (o p : Option Value) → Options (Values R) o p → LocalBelow n o
  local_from _ _ neither = tt
  local_from _ _ (both a) = value_from _ _ a

  number_from : (o p : Option ℕ) → Options R o p → NumberBelow n o
  number_from _ _ neither = tt
  number_from _ _ (both r) = below _ _ r

  pub frame_from : (f g : Frame) → Frames R f g → FrameBelow n f
  frame_from _ _ (methods (acts ls s) o) = (each_from local_from ls, each_from value_from s, number_from _ _ o)
  frame_from _ _ initializations = tt
  frame_from _ _ entries = tt

  thread_from : (p : Two) (i : ℕ) (c : Option (List ℕ × ClassState)) (t s r : Thread) → NumberBelow n t.object → is_running t.ending ≡ true → Turned R p i t t c s r → ThreadFits n s
  thread_from p i c t s r b d x = record { object = subst (NumberBelow n) (sym x.object) b; pending = number_from s.pending r.pending x.pending; frames = each_from frame_from x.frames; ended = by c s x.turn }
    where
      alive : is_running t.ending ≡ false → (P : Type 0) → P
      alive e P = absurd (let g : true ≡ false = sym d ∙ e in cc)

      by : (c : Option (List ℕ × ClassState)) (s : Thread) → Turn (left p) i t c s → is_running s.ending ≡ false → (s.frames ≡ []) × (s.pending ≡ None)
      by _ _ (ends fs x y) f = (refl, refl)
      by _ _ (goes_on fs x y) f = alive f _
      by _ _ (raises k) f = alive f _
      by _ _ (catches type h k x y z) f = alive f _
      by _ _ (drops fs k x y) f = alive f _
      by _ _ (dies fs class x y) f = (refl, refl)

static_from : (n : ℕ) (s r : Static) → Statics (Own n) s r → ValueBelow n s.value
static_from n _ _ (statics a) = value_from (Own n) n (λ k j r. r.1) _ _ a

-- parts of a world changed
with_value_at_fits : (w : World) (k : ℕ) (o : Object) (i : ℕ) (v : Value) → IsWellFormed w → ValuesBelow (length w.heap) o.values → ValueBelow (length w.heap) v → IsWellFormed (with_value_at w k o i v)
with_value_at_fits w k o i v f b c = let same : length w.heap ≡ length (with_value_at w k o i v).heap = sym (length_written w.heap k changed) in record {
  objects = subst (λ n. AllByRecursion (λ x. ValuesBelow n x.values) (slice_set w.heap k changed)) same (each_set (λ x. ValuesBelow (length w.heap) x.values) w.heap k changed f.objects (each_set (ValueBelow (length w.heap)) o.values i v b c));
  literals = subst (λ n. AllByRecursion (λ l. l.string < n) w.literals) same f.literals;
  statics = subst (λ n. AllByRecursion (λ s. ValueBelow n s.value) w.statics) same f.statics;
  monitors = subst (λ n. AllByRecursion (MonitorFits n (length w.threads)) w.monitors) same f.monitors;
  once = f.once;
  threads = subst (λ n. AllByRecursion (ThreadFits n) w.threads) same f.threads;
}
  where
    changed : Object
    changed = record { type = o.type; values = slice_set o.values i v }

state_fits : (w : World) (class : List ℕ) (state : ClassState) → IsWellFormed w → IsWellFormed (with_state w class state)
state_fits w class state f = record { objects = f.objects; literals = f.literals; statics = f.statics; monitors = f.monitors; once = f.once; threads = f.threads }

-- monitors: one is counted anew, is gone, or is new
recounted_fits : (n m : ℕ) (ms : List Monitor) (k count : ℕ) → 1 ≤ count → count < 2 ^ 31 → AllByRecursion (MonitorFits n m) ms → AllByRecursion (MonitorFits n m) (recounted ms k count)
recounted_fits n m [] k count l c f = tt
recounted_fits n m (x ∷ xs) k count l c f = by (nat_eq x.object k) (recounted_fits n m xs k count l c f.1)
  where
    by : (b : Bool) → AllByRecursion (MonitorFits n m) (recounted xs k count) → AllByRecursion (MonitorFits n m) (elim b as (λ _. List Monitor) [ true ↦ record { object = x.object; owner = x.owner; count = count } ∷ xs | false ↦ x ∷ recounted xs k count ])
    by true ih = (record { object = f.0.object; owner_from_one = f.0.owner_from_one; owner_made = f.0.owner_made; entered = l; counted = c }, f.1)
    by false ih = (f.0, ih)

without_fits : (P : Monitor → Type 0) (ms : List Monitor) (k : ℕ) → AllByRecursion P ms → AllByRecursion P (without_monitor ms k)
without_fits P [] k f = tt
without_fits P (x ∷ xs) k f = by (nat_eq x.object k) (without_fits P xs k f.1)
  where
    by : (b : Bool) → AllByRecursion P (without_monitor xs k) → AllByRecursion P (elim b as (λ _. List Monitor) [ true ↦ xs | false ↦ x ∷ without_monitor xs k ])
    by true ih = f.1
    by false ih = (f.0, ih)

with_fits : (P : Monitor → Type 0) (ms : List Monitor) (m : Monitor) → AllByRecursion P ms → P m → AllByRecursion P (with_monitor ms m)
with_fits P [] m f p = (p, tt)
with_fits P (x ∷ xs) m f p = by (nat_lt m.object x.object) (with_fits P xs m f.1 p)
  where
    by : (b : Bool) → AllByRecursion P (with_monitor xs m) → AllByRecursion P (elim b as (λ _. List Monitor) [ true ↦ m ∷ x ∷ xs | false ↦ x ∷ with_monitor xs m ])
    by true ih = (p, f)
    by false ih = (f.0, ih)

monitor_got : (P : Monitor → Type 0) (ms : List Monitor) (k : ℕ) (m : Monitor) → AllByRecursion P ms → monitor_in ms k ≡ Some m → P m
monitor_got P [] k m f e = cc
monitor_got P (x ∷ xs) k m f e = by (nat_eq x.object k) (monitor_got P xs k m f.1) e
  where
    by : (b : Bool) → (monitor_in xs k ≡ Some m → P m) → (elim b as (λ _. Option Monitor) [ true ↦ Some x | false ↦ monitor_in xs k ]) ≡ Some m → P m
    by true ih h = let same : x ≡ m = cc in subst P same f.0
    by false ih h = ih h

monitors_fit : (w : World) (ms : List Monitor) → IsWellFormed w → AllByRecursion (MonitorFits (length w.heap) (length w.threads)) ms → AllDistinct (map (λ m. m.object) ms) → IsWellFormed (with_monitors w ms)
monitors_fit w ms f g d = record { objects = f.objects; literals = f.literals; statics = f.statics; monitors = g; once = d; threads = f.threads }

-- a thread of a world, which has not ended
record Stands (w : World) (number : ℕ) (t : Thread) : Type 0 where
  world : IsWellFormed w
  thread : ThreadFits (length w.heap) t
  running : is_running t.ending ≡ true
  low : 1 ≤ number
  high : number ≤ length w.threads

statics_fit : (w : World) (ss rs : List Static) → IsWellFormed w → Lists (Statics (Own (length w.heap))) ss rs → IsWellFormed (record w { statics = ss })
statics_fit w ss rs f l = record { objects = f.objects; literals = f.literals; statics = each_from (static_from (length w.heap)) l; monitors = f.monitors; once = f.once; threads = f.threads }

started_fits : (w : World) (k : ℕ) → IsWellFormed w → k < length w.heap → IsWellFormed (with_new_thread w (new_thread k))
started_fits w k f l = record {
  objects = f.objects;
  literals = f.literals;
  statics = f.statics;
  monitors = each_more (monitor_more (length w.heap) (length w.heap) (length w.threads) (length (w.threads ++ new_thread k ∷ [])) (omega arith) (omega (arith, length-append w.threads (new_thread k ∷ [])))) w.monitors f.monitors;
  once = f.once;
  threads = each_of_both (ThreadFits (length w.heap)) w.threads (new_thread k ∷ []) f.threads (record { object = l; pending = tt; frames = (tt, tt); ended = λ e. cc }, tt);
}

module _ (w : World) (number : ℕ) (t : Thread) (h : Stands w number t) where
  abbrev n : ℕ
  n = length w.heap

  locks_fit : (ms ns : List Monitor) → Locks (Own (length w.heap)) (twin w) number ms ns → IsWellFormed (with_monitors w ms)
  locks_fit _ _ stay = h.world
  locks_fit _ _ (entered {k = k} r e d) = monitors_fit w (with_monitor w.monitors new) h.world
      (with_fits (MonitorFits (length w.heap) (length w.threads)) w.monitors new h.world.monitors (record { object = r.1; owner_from_one = h.low; owner_made = h.high; entered = omega arith; counted = omega arith }))
      (more_distinct w.monitors new (not_in w.monitors k e) h.world.once)
    where
      new : Monitor
      new = record { object = k; owner = number; count = 1 }
  locks_fit _ _ (again {k = k} {m = m} r e o c) = monitors_fit w (recounted w.monitors k (m.count + 1)) h.world
      (recounted_fits (length w.heap) (length w.threads) w.monitors k (m.count + 1) (omega arith) (ltb-true (m.count + 1) (2 ^ 31) c) h.world.monitors)
      (subst AllDistinct (sym (objects_recounted w.monitors k (m.count + 1))) h.world.once)
  locks_fit _ _ (left_one {k = k} {m = m} r e o c) =
      let fits : MonitorFits (length w.heap) (length w.threads) m = monitor_got (MonitorFits (length w.heap) (length w.threads)) w.monitors k m h.world.monitors e in
      monitors_fit w (recounted w.monitors k (m.count - 1)) h.world
      (recounted_fits (length w.heap) (length w.threads) w.monitors k (m.count - 1) (omega (arith, ltb-true 1 m.count c)) (omega (arith, fits.counted)) h.world.monitors)
      (subst AllDistinct (sym (objects_recounted w.monitors k (m.count - 1))) h.world.once)
  locks_fit _ _ (left_last {k = k} r e o c) = monitors_fit w (without_monitor w.monitors k) h.world
      (without_fits (MonitorFits (length w.heap) (length w.threads)) w.monitors k h.world.monitors)
      (subst AllDistinct (sym (objects_left w.monitors k)) (distinct_without (map (λ m. m.object) w.monitors) k h.world.once))

  changes_fit : (c : Option (List ℕ × ClassState)) (v u : World) → Changes (Own (length w.heap)) (twin w) number c v u → IsWellFormed v × (length v.heap ≡ length w.heap)
  changes_fit _ _ _ same = (h.world, refl)
  changes_fit _ _ _ (stored {k = k} i {o = o} {v = v} r e d x a) = (
    with_value_at_fits w k o i v h.world (each_at (λ x. ValuesBelow (length w.heap) x.values) w.heap k o h.world.objects e) (value_from (Own (length w.heap)) (length w.heap) (λ k j r. r.1) _ _ a),
    length_written w.heap k (record { type = o.type; values = slice_set o.values i v }),
  )
  changes_fit _ _ _ (sets f {v = v} {u = u} a) = (statics_fit w _ _ h.world (static_set (Own (length w.heap)) w.statics w.statics (statics_own (length w.heap) w.statics h.world.statics) f v u a), refl)
  changes_fit _ _ _ (locks x) = (locks_fit _ _ x, refl)
  changes_fit _ _ _ (states class state) = (state_fits w class state h.world, refl)
  changes_fit _ _ _ (begins class) = (state_fits (record w { statics = constants_of w (class_named w.program class) }) class _ (statics_fit w _ _ h.world (constants (class_named w.program class))), refl)
    where
      constants : (c : Option ClassParts) → Lists (Statics (Own (length w.heap))) (constants_of w c) (constants_of w c)
      constants None = statics_own (length w.heap) w.statics h.world.statics
      constants (Some c) = constants_set (Own (length w.heap)) w.literals w.literals (literals_own (length w.heap) w.literals h.world.literals) c c.fields w.statics w.statics (statics_own (length w.heap) w.statics h.world.statics)
  changes_fit _ _ _ (writes bytes) = (record { objects = h.world.objects; literals = h.world.literals; statics = h.world.statics; monitors = h.world.monitors; once = h.world.once; threads = h.world.threads }, refl)

  own_below : (k j : ℕ) → Own (length w.heap) k j → k < length w.heap
  own_below k j r = r.1

  -- with new objects
  made_below : (c k j : ℕ) → Grown (Own (length w.heap)) (twin w) c k j → k < length w.heap + c
  made_below c k j (inl r) = omega (arith, r.1)
  made_below c k j (inr q) = q.2

  makes_fit : (v : World) (os : List Object) (c : Option (List ℕ × ClassState)) (s r : Thread) → IsWellFormed v → v.heap ≡ w.heap → AreNew (twin w) os → Turned (Grown (Own (length w.heap)) (twin w) (length os)) (twin w) number t t c s r → IsWellFormed (with_thread (with_objects v os) number s)
  makes_fit v os c s r f e a x = with_thread_fits (with_objects v os) number s
      (with_objects_fits v os f (each_more (λ o b. each_more (λ u q. value_from (IsNew (twin w) (length os)) (length (v.heap ++ os)) (λ k j i. omega (arith, i.2, long)) u u q) o.values b) os a))
      (subst (λ m. ThreadFits m s) (sym long) (thread_from (Grown (Own (length w.heap)) (twin w) (length os)) (length w.heap + length os) (made_below (length os)) (twin w) number c t s r
      (number_more (length w.heap) (length w.heap + length os) (omega arith) t.object h.thread.object) h.running x))
    where
      long : length (v.heap ++ os) ≡ length w.heap + length os
      long = length-append v.heap os ∙ ap (λ l. length l + length os) e

  comes_fine : (x y : Next) → Comes (Own (length w.heap)) (twin w) number t t x y → Behind IsWellFormed x
  comes_fine _ _ stopped = tt
  comes_fine _ _ (blocked x) = tt
  comes_fine _ _ (went {w = v} {v = u} {s = s} {r = r} d c x y) = let f = changes_fit d v u c in
      with_thread_fits v number s f.0 (subst (λ m. ThreadFits m s) (sym f.1) (thread_from (Own (length w.heap)) (length w.heap) own_below (twin w) number d t s r h.thread.object h.running x))
  comes_fine _ _ (makes os {s = s} {r = r} a x y) = makes_fit w os None s r h.world refl a x
  comes_fine _ _ (fails class os {s = s} {r = r} a x y) = makes_fit (with_state w class Failed) os (Some (class, Failed)) s r (state_fits w class Failed h.world) refl a x
  comes_fine _ _ (starts {k = k} {s = s} {r = r} q x y) = started_fits (with_thread w number s) k (with_thread_fits w number s h.world (thread_from (Own (length w.heap)) (length w.heap) own_below (twin w) number None t s r h.thread.object h.running x)) q.1

  step_fine : Behind IsWellFormed (step_thread w number t)
  step_fine = comes_fine _ _ (step_both (Own (length w.heap)) (record { worlds = twin w; number = number; thread = t; thread' = t; alike = alike_own w h.world; running = running_own (length w.heap) t h.thread }))

stands : (w : World) (number : ℕ) (t : Thread) → IsWellFormed w → thread_at w number ≡ Some t → is_running t.ending ≡ true → Stands w number t
stands w zero t f e d = cc
stands w (suc n) t f e d = record { world = f; thread = each_at (ThreadFits (length w.heap)) w.threads n t f.threads e; running = d; low = omega arith; high = slice_get_within w.threads n t e }

pub events_keep_form : EventsKeepForm
events_keep_form w e f = event_keeps IsWellFormed w f
    (λ s. record { objects = f.objects; literals = f.literals; statics = f.statics; monitors = f.monitors; once = f.once; threads = f.threads })
    (λ number t there d. step_fine w number t (stands w number t f there d)) e
