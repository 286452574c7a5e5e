-- What follows in a step once the thread has entered a monitor, or left one.
use Rattle.std.proofs.Common.{◌≡◌, ℕ, ◌+◌, ◌^◌, List, Option, Some, None, Bool, true, false, refl, sym, ap, ◌∙◌, subst, ◌⊎◌, inl, inr}
use Rattle.std.specs.Prelude.{slice_get, nat_eq, nat_lt, Result, Ok, Err}
use Rattle.jm_values.specs.Content.{Content}
use Rattle.jm_values.specs.declared.fault.TagFault.TheVariants.{MonitorCount}
use Rattle.jm_world.specs.Matches.{Parts, Matches}
use Rattle.jm_world.specs.Monitors.{enter_if, entered, monitor_in, with_monitor, recounted, leave, left_in}
use Rattle.jm_world.specs.Next.{Next, goes, stops, blocks, faults}
use Rattle.jm_world.specs.World.{World, Thread, Monitor}
use Rattle.jm_heap.specs.declared.class_id.ClassId.{ClassId}
use Rattle.jm_state.specs.Ends.{Ended}
use Rattle.jm_state.specs.Runnable.{StateRuns}
use Rattle.jm_state.specs.declared.halt.Halt.TheVariants.{Stopped, OutOfMemory}
use Rattle.jm_state.specs.declared.halt.Halt.{Halt}
use Rattle.jm_state.specs.declared.halt.StepEnd.{StepEnd}
use Rattle.jm_state.specs.declared.halt.StepEnd.TheVariants.{Done, Blocked}
use Rattle.jm_state.specs.declared.state.State.{State}
use Rattle.jm_state.specs.declared.thread.StackFrame.{StackFrame}
use Rattle.jm_interp.specs.declared.at.At.{At}
use Rattle.jm_interp.specs.At.{parts_at, OnThread, Does}
use Rattle.jm_interp.specs.Locking.{LeftAs, OnlyMonitors}
use Rattle.jm_interp.specs.Standing.{StandsAt, running}
use Rattle.jm_interp.proofs.OnThread.{does, model, thread_there}

-- a world is another with other monitors
abbrev pub OnlyMonitorsOf : World → World → Type 0
OnlyMonitorsOf w v = v ≡ record w { monitors = v.monitors }

-- a step that goes on in such a world, whatever follows
pub record GoesOn (w : World) (step : (World → Next) → Next) : Type 0 where
  pub after : World
  pub only : OnlyMonitorsOf w after
  pub as_then : (go : World → Next) → step go ≡ go after

-- or that goes on nowhere
abbrev Halts : Next → Type 0
Halts (goes w) = ⊥
Halts (stops s) = Unit {0}
Halts blocks = Unit {0}

record Ends (step : (World → Next) → Next) : Type 0 where
  pub so : Next
  pub halts : Halts so
  pub always : (go : World → Next) → step go ≡ so

-- a thread that enters does one or the other
abbrev counts : World → ℕ → ℕ → Bool → Bool → (World → Next) → Next
counts w k count owns fits go = elim owns [
  | false ↦ blocks
  | true ↦ elim fits [ true ↦ go (record w { monitors = recounted w.monitors k count }) | false ↦ faults MonitorCount ]
]

counting : (w : World) (k count : ℕ) (owns fits : Bool) → GoesOn w (counts w k count owns fits) ⊎ Ends (counts w k count owns fits)
counting w k count false fits = inr (record { so = blocks; halts = tt; always = λ go. refl })
counting w k count true true = inl (record { after = record w { monitors = recounted w.monitors k count }; only = refl; as_then = λ go. refl })
counting w k count true false = inr (record { so = faults MonitorCount; halts = tt; always = λ go. refl })

entering : (w : World) (number k : ℕ) (o : Option Monitor) → GoesOn w (entered w number k o) ⊎ Ends (entered w number k o)
entering w number k None = inl (record {
  after = record w { monitors = with_monitor w.monitors (record { object = k; owner = number; count = 1 }) };
  only = refl;
  as_then = λ go. refl;
})
entering w number k (Some m) = counting w k (m.count + 1) (nat_eq m.owner number) (nat_lt (m.count + 1) (2 ^ 31))

entering_if : (w : World) (number : ℕ) (o : Option ℕ) → GoesOn w (enter_if w number o) ⊎ Ends (enter_if w number o)
entering_if w number None = inl (record { after = w; only = refl; as_then = λ go. refl })
entering_if w number (Some k) = entering w number k (monitor_in w.monitors k)

-- it goes on, if the step was made
no_halt : (m : Parts ClassId) (w : World) (x : Next) → Halts x → Ended (Ok Done) m w x → ⊥
no_halt m w (goes v) h d = h
no_halt m w (stops s) h d = d
no_halt m w blocks h d = d

made_in : (m : Parts ClassId) (w : World) (number : ℕ) (o : Option ℕ) → Ended (Ok Done) m w (enter_if w number o goes)
    → (g : GoesOn w (enter_if w number o)) × Matches m g.after
made_in m w number o done = elim (entering_if w number o) [
  | inl g ↦ (g, subst (Ended (Ok Done) m w) (g.as_then goes) done)
  | inr e ↦ absurd (no_halt m w e.so e.halts (subst (Ended (Ok Done) m w) (e.always goes) done))
]

-- else what comes is the same whatever would follow
abbrev pub IsNotMade : Result StepEnd Halt → Type 0
IsNotMade (Ok Done) = ⊥
IsNotMade (Ok Blocked) = Unit {0}
IsNotMade (Err halt) = Unit {0}

not_gone : (result : Result StepEnd Halt) (m : Parts ClassId) (w v : World) (next : Next) → IsNotMade result → Ended result m w (goes v) → Ended result m w next
not_gone (Ok Done) m w v next n d = absurd n
not_gone (Ok Blocked) m w v next n d = absurd d
not_gone (Err (Stopped why)) m w v next n d = absurd d
not_gone (Err OutOfMemory) m w v next n d = d

not_made : (result : Result StepEnd Halt) (m : Parts ClassId) (w : World) (number : ℕ) (o : Option ℕ) (go : World → Next) → IsNotMade result
    → Ended result m w (enter_if w number o goes) → Ended result m w (enter_if w number o go)
not_made result m w number o go not done = elim (entering_if w number o) [
  | inl g ↦ not_gone result m w g.after (enter_if w number o go) not (subst (Ended result m w) (g.as_then goes) done)
  | inr e ↦ subst (Ended result m w) (e.always goes ∙ sym (e.always go)) done
]

-- what is done leads to a world, whatever the one before
pub as_done : (m : Parts ClassId) (v w : World) (next : Next) → Ended (Ok Done) m v next → Ended (Ok Done) m w next
as_done m v w (goes to) e = e
as_done m v w (stops why) e = absurd e
as_done m v w blocks e = absurd e

-- a monitor that was left, and one that was not
pub left_in_world : (w : World) (o : Option World) {m : Parts ClassId} → LeftAs true o m w → (v : World) × (o ≡ Some v) × Matches m v
left_in_world w None l = absurd l
left_in_world w (Some v) l = (v, refl, l)

pub not_left : (o : Option World) {m : Parts ClassId} {w : World} → LeftAs false o m w → (o ≡ None) × Matches m w
not_left None l = (refl, l)
not_left (Some v) l = absurd l

only_left : (w v : World) (o : Option (List Monitor))
    → elim o as (λ _. Option World) [ None ↦ None | Some monitors ↦ Some (record w { monitors = monitors }) ] ≡ Some v
    → OnlyMonitorsOf w v
only_left w v None e = cc
only_left w v (Some monitors) e =
    let same : record w { monitors = monitors } ≡ v = cc in
    subst (λ (x : World). x ≡ record w { monitors = x.monitors }) same refl

pub leave_only : (w v : World) (number k : ℕ) → leave w number k ≡ Some v → OnlyMonitorsOf w v
leave_only w v number k e = only_left w v (left_in w.monitors number k (monitor_in w.monitors k)) e

-- the thread enters, and nothing else is done
abbrev pub enters : Option ℕ → World → ℕ → Thread → Next
enters o w number t = enter_if w number o goes

module _ {H : Type 0} {content : H → Content ClassId} {at : At} {old : State H} {fs : List StackFrame} {p : Option ℕ} (h : OnThread content at old fs p) where
  -- the thread is in such a world what it was
  pub still_there : (w v : World) → OnlyMonitorsOf w v → Matches (parts_at content at old) w → slice_get v.threads at.index ≡ Some (model h)
  still_there w v only m = ap (λ (x : World). slice_get x.threads at.index) only ∙ thread_there h w m

  -- it stands in a state with other monitors as before
  abbrev pub stands_in : {mid : State H} → OnlyMonitors old mid → StateRuns at.linked.now mid → (v : World) → Matches (parts_at content at mid) v
      → OnThread content at mid fs p
  stands_in only runs v m = record {
    world = v;
    beside = record { linked = h.beside.linked; runs = runs; matches = m };
    object = h.object;
    stands = subst (λ (s : State H). StandsAt s.threads.items at.index fs (running h.object p)) (sym only) h.stands;
  }

  -- the step is made when what follows is made in the world in which it goes on
  pub then_made : {mid new : State H} (o : Option ℕ) (rule : World → ℕ → Thread → Next) → Does content at old (Ok Done) mid (enters o)
      → Does content at mid (Ok Done) new rule → Does content at old (Ok Done) new (λ w number t. enter_if w number o (λ v. rule v number t))
  then_made {mid} {new} o rule first second = does h second.runs (λ w m.
      let g = made_in (parts_at content at mid) w (at.index + 1) o (first.ends w (model h) m (thread_there h w m)) in
      let v = g.0.after in
      subst (Ended (Ok Done) (parts_at content at new) w) (sym (g.0.as_then (λ x. rule x (at.index + 1) (model h))))
      (as_done (parts_at content at new) v w (rule v (at.index + 1) (model h)) (second.ends v (model h) g.1 (still_there w v g.0.only m))))

  -- where it was not entered, nothing follows
  pub then_not : {mid : State H} (o : Option ℕ) (rule : World → ℕ → Thread → Next) {result : Result StepEnd Halt} → IsNotMade result
      → Does content at old result mid (enters o) → Does content at old result mid (λ w number t. enter_if w number o (λ v. rule v number t))
  then_not {mid} o rule {result} not first = does h first.runs (λ w m.
      not_made result (parts_at content at mid) w (at.index + 1) o (λ v. rule v (at.index + 1) (model h)) not
      (first.ends w (model h) m (thread_there h w m)))

  -- and the thread stands as before in the state in which it was
  pub then_in : {mid : State H} (o : Option ℕ) → Does content at old (Ok Done) mid (enters o) → (v : World) × Matches (parts_at content at mid) v
  then_in {mid} o first =
      let w = h.world in
      let m = h.beside.matches in
      let g = made_in (parts_at content at mid) w (at.index + 1) o (first.ends w (model h) m (thread_there h w m)) in
      (g.0.after, g.1)

  abbrev pub then_stands : {mid : State H} (o : Option ℕ) → OnlyMonitors old mid → Does content at old (Ok Done) mid (enters o) → OnThread content at mid fs p
  then_stands o only first = stands_in only first.runs (then_in o first).0 (then_in o first).1

-- the same end by another word
pub as_end : {H : Type 0} {content : H → Content ClassId} {at : At} {old new : State H} {rule : World → ℕ → Thread → Next} {said end : StepEnd} → said ≡ end
    → Does content at old (Ok said) new rule → Does content at old (Ok end) new rule
as_end {content = content} {at = at} {old = old} {new = new} {rule = rule} same done = subst (λ e. Does content at old (Ok e) new rule) same done
