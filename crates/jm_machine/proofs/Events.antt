-- An event of a machine beside the model's.
use Rattle.std.proofs.Common.{◌≡◌, OnErr, ℕ, zero, suc, ◌+◌, ◌-◌, ◌≤◌, List, [], ◌∷◌, Option, Some, None, Result, Ok, Err, true, false, refl, sym, ap, ◌∙◌, subst, length, arith, MatchResult}
use Rattle.std.specs.Prelude.{map, slice_get, option_map, is_some}
use Rattle.std.proofs.lemmas.Option.{slice_get-map}
use Rattle.std.proofs.lemmas.List.{length-map}
use Rattle.jm_world.specs.World.{World, Thread, thread_at, is_running, live_among}
use Rattle.jm_world.specs.Renaming.{rename_thread}
use Rattle.jm_values.specs.Content.{Content, name_of}
use Rattle.jm_values.proofs.Outcomes.{on_err}
use Rattle.jm_world.specs.Next.{Next, goes, stops, blocks}
use Rattle.jm_world.specs.Matches.{Parts, Matches}
use Rattle.jm_world.specs.Run.{After, after, after_event, after_thread, after_step, answered, reply}
use Rattle.jm_world.specs.Stepping.{step_thread}
use Rattle.jm_world.specs.declared.event.Event.{Event}
use Rattle.jm_world.specs.declared.event.Event.TheVariants.{Step}
use Rattle.jm_world.specs.declared.reply.ReplyKind.{ReplyKind}
use Rattle.jm_world.specs.declared.reply.ReplyKind.TheVariants as kind
use Rattle.jm_world.specs.declared.stop.Stop.{Stop}
use Rattle.jm_heap.specs.declared.class_id.ClassId.{ClassId}
use Rattle.jm_linked.specs.Links.{LinkedView}
use Rattle.jm_state.specs.Parts.{parts, thread_part, ending_part}
use Rattle.jm_state.specs.Ends.{Ended}
use Rattle.jm_state.specs.declared.thread.Thread as held
use Rattle.jm_state.specs.declared.thread.Ending as code
use Rattle.jm_state.specs.declared.thread.Ending.TheVariants.{Running}
use Rattle.jm_state.specs.declared.halt.StepEnd.{StepEnd}
use Rattle.jm_state.specs.declared.halt.Halt.{Halt}
use Rattle.jm_state.specs.declared.halt.StepEnd.TheVariants.{Done, Blocked}
use Rattle.jm_state.specs.declared.halt.Halt.TheVariants.{Stopped, OutOfMemory}
use Rattle.jm_state.specs.View.{StateView}
use Rattle.jm_machine.specs.declared.fault.OutOfMemory as refusal
use Rattle.jm_machine.specs.Threads.{thread_numbered, ending_numbered, class_of_ending, class_ended_by, is_live, is_live_thread}
use Rattle.jm_machine.specs.Answered.{IsAnswered, MayWantMemory, finds_work}

module _ (l : LinkedView) (c : Content ClassId) (v : StateView) (w : World) (m : Matches (parts l c v) w) where
  threads_are : map (rename_thread (name_of c)) (map (thread_part l) v.threads) ≡ w.threads
  unfolding parts
  threads_are = m.threads

  pub stop_is : v.stop ≡ w.stop
  unfolding parts
  stop_is = m.stop

  pub program_is : l.program ≡ w.program
  unfolding parts
  program_is = m.program

  pub output_is : v.output ≡ w.output
  unfolding parts
  output_is = m.output

  -- the thread of a number is the world's
  pub thread_is : (n : ℕ) → thread_at w n ≡ option_map (λ t. rename_thread (name_of c) (thread_part l t)) (thread_numbered v.threads n)
  thread_is zero = refl
  thread_is (suc n) = ap (λ xs. slice_get xs n) (sym threads_are) ∙ slice_get-map (rename_thread (name_of c)) (map (thread_part l) v.threads) n ∙ ap (option_map (rename_thread (name_of c))) (slice_get-map (thread_part l) v.threads n) ∙ twice (slice_get v.threads n)
    where
      twice : (x : Option held.Thread) → option_map (rename_thread (name_of c)) (option_map (thread_part l) x) ≡ option_map (λ t. rename_thread (name_of c) (thread_part l t)) x
      twice None = refl
      twice (Some t) = refl

  none_of : (x : Option held.Thread) → option_map (λ t. t.ending) x ≡ None → option_map (λ t. rename_thread (name_of c) (thread_part l t)) x ≡ None
  none_of None e = refl
  none_of (Some t) e = cc

  some_of : (x : Option held.Thread) (end : code.Ending) → option_map (λ t. t.ending) x ≡ Some end → (t : held.Thread) × (x ≡ Some t) × (t.ending ≡ end)
  some_of None end e = cc
  some_of (Some t) end e = (t, refl, cc)

  pub no_thread : (n : ℕ) → ending_numbered v.threads n ≡ None → thread_at w n ≡ None
  no_thread n e = thread_is n ∙ none_of (thread_numbered v.threads n) e

  pub a_thread : (n : ℕ) (end : code.Ending) → ending_numbered v.threads n ≡ Some end → (t : Thread) × (thread_at w n ≡ Some t) × (t.ending ≡ ending_part l.program end)
  a_thread n end e =
      let x = some_of (thread_numbered v.threads n) end e in
      (rename_thread (name_of c) (thread_part l x.0), thread_is n ∙ ap (option_map (λ t. rename_thread (name_of c) (thread_part l t))) x.1, ap (ending_part l.program) x.2)

  -- the answer where there is no such thread, or where it has ended
  pub none_answered : (n : ℕ) → ending_numbered v.threads n ≡ None → IsAnswered (parts l c v) kind.None (after_event w (Step n))
  none_answered n e = subst (λ t. IsAnswered (parts l c v) kind.None (after_thread w n t)) (sym (no_thread n e)) (record { world = m; reply = refl })

  ended_thread : (n : ℕ) (t : Thread) → is_running t.ending ≡ false → IsAnswered (parts l c v) kind.Ended (after_thread w n (Some t))
  ended_thread n t e = subst (λ b. IsAnswered (parts l c v) kind.Ended (elim b [ true ↦ after_step w (step_thread w n t) | false ↦ answered kind.Ended w ])) (sym e) (record { world = m; reply = refl })

  pub ended_answered : (n : ℕ) (end : code.Ending) → ending_numbered v.threads n ≡ Some end → is_running (ending_part l.program end) ≡ false → IsAnswered (parts l c v) kind.Ended (after_event w (Step n))
  ended_answered n end e r =
      let x = a_thread n end e in
      subst (λ t. IsAnswered (parts l c v) kind.Ended (after_thread w n t)) (sym x.1) (ended_thread n x.0 (ap is_running x.2 ∙ r))

  -- a thread that runs makes a step
  pub steps : (n : ℕ) → ending_numbered v.threads n ≡ Some Running → (t : Thread) × (thread_at w n ≡ Some t) × (after_event w (Step n) ≡ after_step w (step_thread w n t))
  steps n e =
      let x = a_thread n Running e in
      (x.0, x.1, ap (after_thread w n) x.1 ∙ ap (λ b. elim b as (λ v. After) [ true ↦ after_step w (step_thread w n x.0) | false ↦ answered kind.Ended w ]) (ap is_running x.2))

  -- a machine that has stopped stays, and one that has not makes the event
  pub after_stop : (stop : Stop) → v.stop ≡ Some stop → (e : Event) → IsAnswered (parts l c v) kind.Stopped (after w e)
  unfolding after
  after_stop stop e event = subst (λ x. IsAnswered (parts l c v) kind.Stopped (elim x [ Some t ↦ answered kind.Stopped w | None ↦ after_event w event ])) (sym e ∙ stop_is) (record { world = m; reply = refl })

  pub after_going : v.stop ≡ None → (e : Event) → after w e ≡ after_event w e
  unfolding after
  after_going e event = ap (λ x. elim x as (λ v. After) [ Some t ↦ answered kind.Stopped w | None ↦ after_event w event ]) (sym stop_is ∙ e)

  -- the counts of a reply
  live_renamed : (xs : List Thread) → live_among (map (rename_thread (name_of c)) xs) ≡ live_among xs
  live_renamed [] = refl
  live_renamed (x ∷ xs) = ap (λ n. elim (is_running x.ending) as (λ v. ℕ) [ true ↦ n + 1 | false ↦ n ]) (live_renamed xs)

  pub made_is : length v.threads ≡ length w.threads
  made_is = sym (ap length (sym threads_are) ∙ length-map (map (thread_part l) v.threads) (rename_thread (name_of c)) ∙ length-map v.threads (thread_part l))

  pub live_is : (live : ℕ) → live ≡ live_among (map (thread_part l) v.threads) → live ≡ live_among w.threads
  live_is live e = e ∙ sym (live_renamed (map (thread_part l) v.threads)) ∙ ap live_among threads_are

  pub reply_is : (live : ℕ) (k : ReplyKind) → live ≡ live_among (map (thread_part l) v.threads) → reply k w ≡ record { kind = k; made = length v.threads; live = live }
  reply_is live k e = λ i. record { kind = k; made = sym made_is i; live = sym (live_is live e) i }

  -- how a thread has ended
  pub not_by : (n : ℕ) → ending_numbered v.threads n ≡ None → class_ended_by (thread_at w n) ≡ None
  not_by n e = ap class_ended_by (no_thread n e)

  pub by_class : (n : ℕ) (end : code.Ending) → ending_numbered v.threads n ≡ Some end → class_ended_by (thread_at w n) ≡ class_of_ending (ending_part l.program end)
  by_class n end e = let x = a_thread n end e in ap class_ended_by x.1 ∙ ap class_of_ending x.2

  -- whether it has not
  pub not_live : (n : ℕ) → ending_numbered v.threads n ≡ None → is_live w n ≡ false
  not_live n e = ap is_live_thread (no_thread n e)

  pub lives : (n : ℕ) (end : code.Ending) → ending_numbered v.threads n ≡ Some end → is_live w n ≡ is_running (ending_part l.program end)
  lives n end e = let x = a_thread n end e in ap is_live_thread x.1 ∙ ap is_running x.2

  -- an event that is made while the world goes on, and finds something to do, may want memory
  pub may_want : v.stop ≡ None → {e : Event} → finds_work w e ≡ true → MayWantMemory w e
  may_want going work = record { going = sym stop_is ∙ going; work = work }

  pub collection_wants : v.stop ≡ None → (e : Event) → finds_work w e ≡ true → {A B : Type 0} (r : Result A B) → OnErr r (MayWantMemory w e)
  collection_wants going e work r = on_err r (may_want going work)

  pub step_wants : v.stop ≡ None → (e : Event) {n : ℕ} → e ≡ Step n → {A B : Type 0} (r : Result A B) → OnErr r (is_live w n ≡ true) → OnErr r (MayWantMemory w e)
  step_wants going e is (Ok a) h = tt
  step_wants going e is (Err b) h = may_want going (ap (finds_work w) is ∙ h)

pub some_is : (s : Option Stop) → is_some s ≡ true → (stop : Stop) × (s ≡ Some stop)
some_is None e = cc
some_is (Some stop) e = (stop, refl)

pub none_is : (s : Option Stop) → is_some s ≡ false → s ≡ None
none_is None e = refl
none_is (Some stop) e = cc

-- a collection leaves the world as it is
pub collected : (r : Result ReplyKind refusal.OutOfMemory) (new : Parts ClassId) (w : World) (a : After) → a ≡ answered kind.Done w → MatchResult r (λ k. k ≡ kind.Done) (λ _. Unit {0}) → Matches new w → MatchResult r (λ k. IsAnswered new k a) (λ _. Matches new w)
collected (Ok k) new w a e d m = subst (λ x. IsAnswered new x a) (sym d) (subst (IsAnswered new kind.Done) (sym e) (record { world = m; reply = refl }))
collected (Err x) new w a e d m = m

-- a thread that runs is there
pub running_there : (ts : List held.Thread) (n : ℕ) → ending_numbered ts n ≡ Some Running → (t : held.Thread) × (slice_get ts (n - 1) ≡ Some t) × (t.ending ≡ Running)
running_there ts zero e = cc
running_there ts (suc n) e = let p : suc n - 1 ≡ n = omega arith in rw p (found (slice_get ts n) e)
  where
    found : (x : Option held.Thread) → option_map (λ t. t.ending) x ≡ Some Running → (t : held.Thread) × (x ≡ Some t) × (t.ending ≡ Running)
    found None e = cc
    found (Some t) e = (t, refl, cc)

pub from_one : (ts : List held.Thread) (n : ℕ) → ending_numbered ts n ≡ Some Running → 1 ≤ n
from_one ts zero e = cc
from_one ts (suc n) e = omega arith

-- what comes of a step
pub done : (new : Parts ClassId) (w : World) (next : Next) (end : StepEnd) → end ≡ Done → Ended (Ok end) new w next → IsAnswered new kind.Done (after_step w next)
done new w next end e h = by next (subst (λ x. Ended (Ok x) new w next) e h)
  where
    by : (next : Next) → Ended (Ok Done) new w next → IsAnswered new kind.Done (after_step w next)
    by (goes v) h = record { world = h; reply = refl }
    by (stops s) h = absurd h
    by blocks h = absurd h

pub blocked : (new : Parts ClassId) (w : World) (next : Next) (end : StepEnd) → end ≡ Blocked → Ended (Ok end) new w next → IsAnswered new kind.Blocked (after_step w next)
blocked new w next end e h = by next (subst (λ x. Ended (Ok x) new w next) e h)
  where
    by : (next : Next) → Ended (Ok Blocked) new w next → IsAnswered new kind.Blocked (after_step w next)
    by (goes v) h = absurd h
    by (stops s) h = absurd h
    by blocks h = record { world = h; reply = refl }

pub refused : (new : Parts ClassId) (w : World) (next : Next) (halt : Halt) → halt ≡ OutOfMemory → Ended (Err halt) new w next → Matches new w
refused new w next halt e h = by next (subst (λ x. Ended (Err x) new w next) e h)
  where
    by : (next : Next) → Ended (Err OutOfMemory) new w next → Matches new w
    by (goes v) h = h
    by (stops s) h = h
    by blocks h = h

pub with_stop : (l : LinkedView) (c : Content ClassId) (v : StateView) (w : World) (stop : Stop) → Matches (parts l c v) w → Matches (parts l c (record v { stop = Some stop })) (record w { stop = Some stop })
unfolding parts
with_stop l c v w stop m = record {
  sound = m.sound;
  resident = m.resident;
  limit = m.limit;
  next = m.next;
  bound = m.bound;
  objects = m.objects;
  threads = m.threads;
  statics = m.statics;
  monitors = m.monitors;
  monitor_serials = m.monitor_serials;
  thread_serials = m.thread_serials;
  literals = m.literals;
  program = m.program;
  classes = m.classes;
  output = m.output;
  stop = refl;
}

pub stopped : (l : LinkedView) (c : Content ClassId) (v : StateView) (w : World) (next : Next) (halt : Halt) (stop : Stop) → halt ≡ Stopped stop → Ended (Err halt) (parts l c v) w next → IsAnswered (parts l c (record v { stop = Some stop })) kind.Stopped (after_step w next)
stopped l c v w next halt stop e h = by next (subst (λ x. Ended (Err x) (parts l c v) w next) e h)
  where
    by : (next : Next) → Ended (Err (Stopped stop)) (parts l c v) w next → IsAnswered (parts l c (record v { stop = Some stop })) kind.Stopped (after_step w next)
    by (goes v) h = absurd h
    by (stops t) h = subst (λ x. IsAnswered (parts l c (record v { stop = Some stop })) kind.Stopped (after_step w (stops x))) (sym h.0) (record { world = with_stop l c v w stop h.1; reply = refl })
    by blocks h = absurd h
