-- What a step of one thread reads of two worlds, and what comes of it in both.
use Rattle.std.specs.Prelude.{◌≡◌, ◌⊎◌, ℕ, ◌+◌, ◌-◌, ◌^◌, ◌<◌, ◌≤◌, List, [], ◌∷◌, ◌++◌, Option, Some, None, true, false, nat_eq, nat_lt, length, slice_get}
use Rattle.std.specs.List.{AllByRecursion}
use Rattle.jm_program.specs.declared.instruction.plain.Plain.{Plain}
use Rattle.jm_values.specs.Activation.{Activation}
use Rattle.jm_values.specs.PlainRows.{row_plain}
use Rattle.jm_values.specs.declared.value.Value.{Value}
use Rattle.jm_world.specs.Classes.{MethodName, class_named}
use Rattle.jm_world.specs.Objects.{Object, FieldName}
use Rattle.jm_world.specs.Frames.{Frame, method_frame, initialization_frame}
use Rattle.jm_world.specs.World.{World, Thread, Monitor, reach_cells, with_thread, with_state, state_in, literal_in, static_in, set_static_in}
use Rattle.jm_world.specs.Next.{Next, goes, stops, blocks, with_objects}
use Rattle.jm_world.specs.Here.{Here}
use Rattle.jm_world.specs.Fields.{with_value_at}
use Rattle.jm_world.specs.Monitors.{monitor_in, with_monitor, recounted, without_monitor}
use Rattle.jm_world.specs.BuiltInMethods.{was_started, with_new_thread, new_thread}
use Rattle.jm_world.specs.Initialization.{constants_of}
use Rattle.jm_world.specs.declared.class_state.ClassState.{ClassState}
use Rattle.jm_world.specs.declared.class_state.ClassState.TheVariants.{InProgress, Failed}
use Rattle.jm_world.specs.declared.stop.Stop.{Stop}
use Rattle.jm_world.specs.SideBySide.{Values, Lists, Options, Objects, Acts, Frames, Held}
use Rattle.jm_world.specs.declared.stage.Stage.TheVariants.{Begin}
use Rattle.jm_world.proofs.Asking.{Asks}
use Rattle.jm_world.proofs.Leaving.{Leaves}
use Rattle.jm_world.proofs.Turning.{IsAt, Turn}
use Rattle.jm_world.specs.TwoWorlds.{Two, left, right}
use Rattle.jm_values.specs.Outcome.{Outcome}
use Rattle.jm_values.specs.Outcome as outcome
use Rattle.jm_values.specs.declared.fault.TagFault.{TagFault}

pub data Outcomes (R : ℕ → ℕ → Type 0) : Outcome → Outcome → Type 0 where
  go : {a b : Activation} → Acts R a b → Outcomes R (outcome.goes a) (outcome.goes b)
  throw : {class : List ℕ} → Outcomes R (outcome.throws class) (outcome.throws class)
  fault : {f : TagFault} → Outcomes R (outcome.faults f) (outcome.faults f)

-- threads that have not ended
pub record Running (R : ℕ → ℕ → Type 0) (t u : Thread) : Type 0 where
  pub object : Options R t.object u.object
  pub frames : Lists (Frames R) t.frames u.frames
  pub pending : Options R t.pending u.pending
  pub ending : t.ending ≡ u.ending

-- what a step reads of two worlds is alike
pub record Alike (R : ℕ → ℕ → Type 0) (p : Two) : Type 0 where
  pub cells : reach_cells (left p) ≡ reach_cells (right p)
  pub made : length p.one.heap ≡ length p.other.heap
  pub objects : (k j : ℕ) → R k j → Options (Objects R) (slice_get p.one.heap k) (slice_get p.other.heap j)
  pub literals : (units : List ℕ) → Options R (literal_in p.one.literals units) (literal_in p.other.literals units)
  pub statics : (f : FieldName) → Options (Values R) (static_in p.one.statics f) (static_in p.other.statics f)
  pub held : (k j : ℕ) → R k j → Options Held (monitor_in p.one.monitors k) (monitor_in p.other.monitors j)
  pub started : (k j : ℕ) → R k j → was_started k p.one.threads ≡ was_started j p.other.threads
  pub plain : (op : Plain) (a b : Activation) → Acts R a b → Outcomes R (row_plain op a) (row_plain op b)

-- the numbers that a step makes are the same
abbrev pub IsNew : Two → ℕ → ℕ → ℕ → Type 0
IsNew p c k j = (k ≡ j) × (length p.one.heap ≤ k) × (k < length p.one.heap + c)

abbrev pub Grown : (ℕ → ℕ → Type 0) → Two → ℕ → ℕ → ℕ → Type 0
Grown R p c k j = R k j ⊎ IsNew p c k j

-- the values of objects that are made in both worlds name objects that are made
abbrev pub AreNew : Two → List Object → Type 0
AreNew p os = AllByRecursion (λ o. AllByRecursion (λ v. Values (IsNew p (length os)) v v) o.values) os

-- where a thread stands in both
pub record Place : Type 0 where
  pub method : MethodName
  pub at : ℕ
  pub max_stack : ℕ
  pub monitor : Option ℕ
  pub monitor' : Option ℕ
  pub locals : List (Option Value)
  pub locals' : List (Option Value)
  pub stack : List Value
  pub stack' : List Value
  pub below : List Frame
  pub below' : List Frame

-- the monitors behind a step of a thread
pub data Locks (R : ℕ → ℕ → Type 0) (p : Two) (n : ℕ) : List Monitor → List Monitor → Type 0 where
  stay : Locks R p n p.one.monitors p.other.monitors
  entered : {k j : ℕ} → R k j → monitor_in p.one.monitors k ≡ None → monitor_in p.other.monitors j ≡ None
      → Locks R p n (with_monitor p.one.monitors (record { object = k; owner = n; count = 1 })) (with_monitor p.other.monitors (record { object = j; owner = n; count = 1 }))
  again : {k j : ℕ} {m : Monitor} → R k j → monitor_in p.one.monitors k ≡ Some m → nat_eq m.owner n ≡ true → nat_lt (m.count + 1) (2 ^ 31) ≡ true
      → Locks R p n (recounted p.one.monitors k (m.count + 1)) (recounted p.other.monitors j (m.count + 1))
  left_one : {k j : ℕ} {m : Monitor} → R k j → monitor_in p.one.monitors k ≡ Some m → nat_eq m.owner n ≡ true → nat_lt 1 m.count ≡ true
      → Locks R p n (recounted p.one.monitors k (m.count - 1)) (recounted p.other.monitors j (m.count - 1))
  left_last : {k j : ℕ} {m : Monitor} → R k j → monitor_in p.one.monitors k ≡ Some m → nat_eq m.owner n ≡ true → nat_lt 1 m.count ≡ false
      → Locks R p n (without_monitor p.one.monitors k) (without_monitor p.other.monitors j)

-- why a thread is blocked: another owns the monitor that it asks for, or initializes the class of its top frame
pub data Waits (p : Two) (n : ℕ) (t : Thread) : Type 0 where
  for_monitor : (k : ℕ) (m : Monitor) → Asks p.program t.frames k → monitor_in p.one.monitors k ≡ Some m → nat_eq m.owner n ≡ false → Waits p n t
  for_class : (class : List ℕ) (owner : ℕ) (below : List Frame) → t.frames ≡ initialization_frame class Begin ∷ below → state_in p.classes class ≡ InProgress owner → nat_eq owner n ≡ false → Waits p n t

-- a step has made two threads of two
pub record Turned (R : ℕ → ℕ → Type 0) (p : Two) (n : ℕ) (t u : Thread) (c : Option (List ℕ × ClassState)) (s r : Thread) : Type 0 where
  pub object : s.object ≡ t.object
  pub other : r.object ≡ u.object
  pub frames : Lists (Frames R) s.frames r.frames
  pub pending : Options R s.pending r.pending
  pub ending : s.ending ≡ r.ending
  pub turn : Turn (left p) n t c s

-- the worlds behind a step of a thread, but for the thread and for new objects;
-- and the class that comes to another state
pub data Changes (R : ℕ → ℕ → Type 0) (p : Two) (n : ℕ) : Option (List ℕ × ClassState) → World → World → Type 0 where
  same : Changes R p n None (left p) (right p)
  stored : {k j : ℕ} (i : ℕ) {o b : Object} {v u : Value} → R k j → slice_get p.one.heap k ≡ Some o → slice_get p.other.heap j ≡ Some b → Objects R o b → Values R v u
      → Changes R p n None (with_value_at (left p) k o i v) (with_value_at (right p) j b i u)
  sets : (f : FieldName) {v u : Value} → Values R v u
      → Changes R p n None (record (left p) { statics = set_static_in p.one.statics f v }) (record (right p) { statics = set_static_in p.other.statics f u })
  locks : {ms ns : List Monitor} → Locks R p n ms ns → Changes R p n None (record (left p) { monitors = ms }) (record (right p) { monitors = ns })
  states : (class : List ℕ) (state : ClassState) → Changes R p n (Some (class, state)) (with_state (left p) class state) (with_state (right p) class state)
  begins : (class : List ℕ)
      → Changes R p n (Some (class, InProgress n)) (record (with_state (left p) class (InProgress n)) { statics = constants_of (left p) (class_named p.program class) }) (record (with_state (right p) class (InProgress n)) { statics = constants_of (right p) (class_named p.program class) })
  writes : (bytes : List ℕ) → Changes R p n None (record (left p) { output = p.output ++ bytes }) (record (right p) { output = p.output ++ bytes })

-- what comes of a step of a thread in two worlds
pub data Comes (R : ℕ → ℕ → Type 0) (p : Two) (n : ℕ) (t u : Thread) : Next → Next → Type 0 where
  stopped : {s : Stop} → Comes R p n t u (stops s) (stops s)
  blocked : Waits p n t → Comes R p n t u blocks blocks
  went : {w v : World} {s r : Thread} (c : Option (List ℕ × ClassState)) → Changes R p n c w v → Turned R p n t u c s r → Leaves (left p) t.pending [] s.pending → Comes R p n t u (goes (with_thread w n s)) (goes (with_thread v n r))
  makes : (os : List Object) {s r : Thread} → AreNew p os → Turned (Grown R p (length os)) p n t u None s r → Leaves (left p) t.pending os s.pending
      → Comes R p n t u (goes (with_thread (with_objects (left p) os) n s)) (goes (with_thread (with_objects (right p) os) n r))
  fails : (class : List ℕ) (os : List Object) {s r : Thread} → AreNew p os → Turned (Grown R p (length os)) p n t u (Some (class, Failed)) s r → Leaves (left p) t.pending os s.pending
      → Comes R p n t u (goes (with_thread (with_objects (with_state (left p) class Failed) os) n s)) (goes (with_thread (with_objects (with_state (right p) class Failed) os) n r))
  starts : {k j : ℕ} {s r : Thread} → R k j → Turned R p n t u None s r → Leaves (left p) t.pending [] s.pending
      → Comes R p n t u (goes (with_new_thread (with_thread (left p) n s) (new_thread k))) (goes (with_new_thread (with_thread (right p) n r) (new_thread j)))

-- a step of a thread in two worlds
pub record Setting (R : ℕ → ℕ → Type 0) : Type 0 where
  pub worlds : Two
  pub number : ℕ
  pub thread : Thread
  pub thread' : Thread
  pub alike : Alike R worlds
  pub running : Running R thread thread'

abbrev pub here : {R : ℕ → ℕ → Type 0} → Setting R → Place → Here
here e q = record {
  world = left e.worlds;
  number = e.number;
  thread = e.thread;
  method = q.method;
  monitor = q.monitor;
  frame = record { at = q.at; max_stack = q.max_stack; locals = q.locals; stack = q.stack };
  below = q.below;
}

abbrev pub here' : {R : ℕ → ℕ → Type 0} → Setting R → Place → Here
here' e q = record {
  world = right e.worlds;
  number = e.number;
  thread = e.thread';
  method = q.method;
  monitor = q.monitor';
  frame = record { at = q.at; max_stack = q.max_stack; locals = q.locals'; stack = q.stack' };
  below = q.below';
}

pub record Stands (R : ℕ → ℕ → Type 0) (e : Setting R) (q : Place) : Type 0 where
  pub its : e.thread.frames ≡ method_frame q.method (record { at = q.at; max_stack = q.max_stack; locals = q.locals; stack = q.stack }) q.monitor ∷ q.below
  pub monitor : Options R q.monitor q.monitor'
  pub locals : Lists (Options (Values R)) q.locals q.locals'
  pub stack : Lists (Values R) q.stack q.stack'
  pub below : Lists (Frames R) q.below q.below'
  pub stands : IsAt e.worlds.program q.method q.at
