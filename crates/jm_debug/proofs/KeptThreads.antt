-- A step of a thread changes no other thread of a world, and makes threads that are live; its reply tells how many there are.
use Rattle.std.proofs.Common.{◌≡◌, ℕ, zero, suc, ◌+◌, ◌-◌, ◌<◌, ◌≤◌, ◌≢◌, List, [], ◌∷◌, ◌++◌, Option, Some, None, Bool, true, false, refl, sym, ap, ◌∙◌, length, append-nil, length-append, arith}
use Rattle.std.specs.List.{AllByRecursion}
use Rattle.std.specs.Prelude.{slice_get, slice_set}
use Rattle.std.proofs.lemmas.Option.{slice_get_within}
use Rattle.jm_program.proofs.Sequences.{got_within, got_behind, got_written, got_unwritten, length_written}
use Rattle.jm_world.specs.World.{World, Thread, with_state, thread_at, is_running, live_among}
use Rattle.jm_world.specs.Next.{Next, goes, stops, blocks, with_objects}
use Rattle.jm_world.specs.BuiltInMethods.{new_thread}
use Rattle.jm_world.specs.Stepping.{step_thread}
use Rattle.jm_world.specs.RoundRobin.{is_stopped}
use Rattle.jm_world.specs.Run.{after, After, answered, after_step, after_thread, after_event}
use Rattle.jm_world.specs.declared.reply.ReplyKind.{ReplyKind}
use Rattle.jm_world.specs.declared.reply.ReplyKind.TheVariants as kind
use Rattle.jm_world.specs.declared.class_state.ClassState.{ClassState}
use Rattle.jm_world.specs.declared.class_state.ClassState.TheVariants.{Failed}
use Rattle.jm_world.specs.declared.event.Event.{Event}
use Rattle.jm_world.specs.declared.event.Event.TheVariants.{Step, Minor, Full}
use Rattle.jm_world.specs.declared.stop.Stop.{Stop}
use Rattle.jm_world.proofs.Live.{live_set, live_less}
use Rattle.jm_world.proofs.WhatComes.{same, stored, sets, locks, states, begins, writes, Changes, Comes, stopped, blocked, went, makes, fails, starts}
use Rattle.jm_world.proofs.KeptByEvents.{Behind}
use Rattle.jm_world.proofs.BesideItself.{Same, twin, twin_step}
use Rattle.jm_machine.specs.Threads.{is_live, is_live_thread}
use Rattle.jm_interp.proofs.Started.{live_few}
use Rattle.jm_debug.specs.Kept.{OthersStay, ended_in, has_stopped}

-- threads of which each is live
abbrev AllLive : List Thread → Type 0
AllLive ts = AllByRecursion (λ t. is_running t.ending ≡ true) ts

-- of a world's threads only that of a number is another, and new ones, which are live, may follow
record Alone (number : ℕ) (w v : World) : Type 0 where
  thread : Thread
  more : List Thread
  threads_are : v.threads ≡ slice_set w.threads (number - 1) thread ++ more
  live : AllLive more
  stop_is : v.stop ≡ w.stop

-- the threads of a world are another's
record HasThreads (w v : World) : Type 0 where
  threads_are : v.threads ≡ w.threads
  stop_is : v.stop ≡ w.stop

alone : (w v : World) (number : ℕ) (s : Thread) → HasThreads w v → Alone number w (record v { threads = slice_set v.threads (number - 1) s })
alone w v number s h = record {
  thread = s;
  more = [];
  threads_are = ap (λ ts. slice_set ts (number - 1) s) h.threads_are ∙ sym (append-nil (slice_set w.threads (number - 1) s));
  live = tt;
  stop_is = h.stop_is;
}

changes_keep : (w : World) (n : ℕ) (c : Option (List ℕ × ClassState)) (v u : World) → Changes Same (twin w) n c v u → HasThreads w v
changes_keep w n _ _ _ same = record { threads_are = refl; stop_is = refl }
changes_keep w n _ _ _ (stored i r e f x a) = record { threads_are = refl; stop_is = refl }
changes_keep w n _ _ _ (sets f a) = record { threads_are = refl; stop_is = refl }
changes_keep w n _ _ _ (locks x) = record { threads_are = refl; stop_is = refl }
changes_keep w n _ _ _ (states class state) = record { threads_are = refl; stop_is = refl }
changes_keep w n _ _ _ (begins class) = record { threads_are = refl; stop_is = refl }
changes_keep w n _ _ _ (writes bytes) = record { threads_are = refl; stop_is = refl }

come_keeps : (w : World) (n : ℕ) (t : Thread) (x y : Next) → Comes Same (twin w) n t t x y → Behind (Alone n w) x
come_keeps w n t _ _ stopped = tt
come_keeps w n t _ _ (blocked x) = tt
come_keeps w n t _ _ (went {w = v} {v = u} {s = s} d c x y) = alone w v n s (changes_keep w n d v u c)
come_keeps w n t _ _ (makes os {s = s} a x y) = alone w (with_objects w os) n s (record { threads_are = refl; stop_is = refl })
come_keeps w n t _ _ (fails class os {s = s} a x y) = alone w (with_objects (with_state w class Failed) os) n s (record { threads_are = refl; stop_is = refl })
come_keeps w n t _ _ (starts {k = k} {s = s} r x y) = record { thread = s; more = new_thread k ∷ []; threads_are = refl; live = (refl, tt); stop_is = refl }

step_keeps : (w : World) (n : ℕ) (t : Thread) → Behind (Alone n w) (step_thread w n t)
step_keeps w n t = come_keeps w n t _ _ (twin_step w n t)

-- ---- threads that are live

live_at : (ts : List Thread) (k : ℕ) → AllLive ts → k < length ts → is_live_thread (slice_get ts k) ≡ true
live_at [] k all h = absurd (omega arith)
live_at (t ∷ ts) zero all h = all.0
live_at (t ∷ ts) (suc k) all h = live_at ts k all.1 (omega arith)

live_append : (ts us : List Thread) → AllLive us → live_among (ts ++ us) ≡ live_among ts + length us
live_append [] [] all = refl
live_append [] (u ∷ us) all = ap (λ b. elim b as (λ _. ℕ) [ true ↦ live_among us + 1 | false ↦ live_among us ]) all.0 ∙ (let rest : live_among us ≡ 0 + length us = live_append [] us all.1 in omega (arith, rest))
live_append (t ∷ ts) us all = by (is_running t.ending) (live_append ts us all)
  where
    counted : Bool → List Thread → ℕ
    counted b xs = elim b as (λ _. ℕ) [ true ↦ live_among xs + 1 | false ↦ live_among xs ]

    by : (b : Bool) → live_among (ts ++ us) ≡ live_among ts + length us → counted b (ts ++ us) ≡ counted b ts + length us
    by true ih = omega (arith, ih)
    by false ih = ih

-- ---- a step of a live thread

-- what holds of the threads, and how many have ended
pub record Stepped (w : World) (n : ℕ) (v : World) : Type 0 where
  pub stay : OthersStay w n v
  pub lives : is_live v n ≡ true → ended_in v ≡ ended_in w
  pub ends : is_live v n ≡ false → ended_in v ≡ ended_in w + 1

module _ (w v : World) (i : ℕ) (t : Thread) (there : slice_get w.threads i ≡ Some t) (runs : is_running t.ending ≡ true) (a : Alone (suc i) w v) where
  is : v.threads ≡ slice_set w.threads i a.thread ++ a.more
  is = let same : suc i - 1 ≡ i = omega arith in a.threads_are ∙ ap (λ k. slice_set w.threads k a.thread ++ a.more) same

  same_length : length (slice_set w.threads i a.thread) ≡ length w.threads
  same_length = length_written w.threads i a.thread

  grown_by : length v.threads ≡ length w.threads + length a.more
  grown_by = ap length is ∙ length-append (slice_set w.threads i a.thread) a.more ∙ ap (λ n. n + length a.more) same_length

  among : (k : ℕ) → k < length w.threads → slice_get v.threads k ≡ slice_get (slice_set w.threads i a.thread) k
  among k h = ap (λ ts. slice_get ts k) is ∙ got_within (slice_set w.threads i a.thread) a.more k (omega (arith, h, same_length))

  others : (k : ℕ) → k ≤ length w.threads → k ≢ suc i → is_live v k ≡ is_live w k
  others zero h other = refl
  others (suc k) h other = ap is_live_thread (among k (omega arith) ∙ got_unwritten w.threads i k a.thread (λ e. other (ap suc e)))

  fresh : (k : ℕ) → length w.threads + 1 ≤ k → k < length v.threads + 1 → is_live v k ≡ true
  fresh zero low high = absurd (omega arith)
  fresh (suc k) low high =
      let past : k ≡ length (slice_set w.threads i a.thread) + (k - length w.threads) = omega (arith, low, same_length) in
      ap is_live_thread (ap (λ ts. slice_get ts k) is ∙ ap (slice_get (slice_set w.threads i a.thread ++ a.more)) past ∙ got_behind (slice_set w.threads i a.thread) a.more (k - length w.threads))
      ∙ live_at a.more (k - length w.threads) a.live (omega (arith, low, high, grown_by))

  its_own : is_live v (suc i) ≡ is_running a.thread.ending
  its_own = let within = slice_get_within w.threads i t there in ap is_live_thread (among i within ∙ got_written w.threads i a.thread within)

  living : live_among v.threads ≡ live_among (slice_set w.threads i a.thread) + length a.more
  living = ap live_among is ∙ live_append (slice_set w.threads i a.thread) a.more a.live

  alone_stepped : Stepped w (suc i) v
  alone_stepped = record {
    stay = record { made = omega (arith, grown_by); others = others; fresh = fresh };
    lives = λ h. let count = live_set w.threads i t a.thread there runs (sym its_own ∙ h) in omega (arith, count, living, grown_by);
    ends = λ h. let count = live_less w.threads i t a.thread there runs (sym its_own ∙ h) in let most = live_few w.threads in omega (arith, count, living, grown_by, most);
  }

same_stepped : (w v : World) (n : ℕ) → is_live w n ≡ true → v.threads ≡ w.threads → Stepped w n v
same_stepped w v n live e = record {
  stay = record { made = let same = ap length e in omega arith; others = λ k h other. same_at k; fresh = λ k low high. let same = ap length e in absurd (omega arith) };
  lives = λ h. ap (λ ts. length ts - live_among ts) e;
  ends = λ h. let both = sym (same_at n ∙ live) ∙ h in cc;
}
  where
    same_at : (k : ℕ) → is_live v k ≡ is_live w k
    same_at zero = refl
    same_at (suc k) = ap (λ ts. is_live_thread (slice_get ts k)) e

next_stepped : (w : World) (number : ℕ) (t : Thread) → is_live w number ≡ true → thread_at w number ≡ Some t → is_running t.ending ≡ true → (x : Next) → Behind (Alone number w) x → Stepped w number (after_step w x).world
next_stepped w zero t live there runs (goes v) a = cc
next_stepped w (suc i) t live there runs (goes v) a = alone_stepped w v i t there runs a
next_stepped w number t live there runs (stops s) a = same_stepped w _ number live refl
next_stepped w number t live there runs blocks a = same_stepped w w number live refl

thread_stepped : (w : World) (number : ℕ) (o : Option Thread) → is_live w number ≡ true → thread_at w number ≡ o → Stepped w number (after_thread w number o).world
thread_stepped w number None live there = same_stepped w w number live refl
thread_stepped w number (Some t) live there = by (is_running t.ending) refl
  where
    by : (b : Bool) → is_running t.ending ≡ b → Stepped w number (elim b as (λ _. After) [ true ↦ after_step w (step_thread w number t) | false ↦ answered kind.Ended w ]).world
    by true runs = next_stepped w number t live there runs (step_thread w number t) (step_keeps w number t)
    by false ended = same_stepped w w number live refl

pub stepped : (w : World) (number : ℕ) → is_live w number ≡ true → Stepped w number (after w (Step number)).world
unfolding after
stepped w number live = by w.stop
  where
    by : (o : Option Stop) → Stepped w number (elim o as (λ _. After) [ Some s ↦ answered kind.Stopped w | None ↦ after_event w (Step number) ]).world
    by None = thread_stepped w number (thread_at w number) live refl
    by (Some s) = same_stepped w w number live refl

-- ---- what a reply tells of its world

pub record Told (a : After) : Type 0 where
  pub made : a.reply.made ≡ length a.world.threads
  pub live : a.reply.live ≡ live_among a.world.threads
  pub stopped : is_stopped a.reply.kind ≡ has_stopped a.world.stop

answer_told : (k : ReplyKind) (w : World) → is_stopped k ≡ has_stopped w.stop → Told (answered k w)
answer_told k w e = record { made = refl; live = refl; stopped = e }

step_told : (w : World) (number : ℕ) (x : Next) → w.stop ≡ None → Behind (Alone number w) x → Told (after_step w x)
step_told w number (goes v) none a = answer_told kind.Done v (sym (ap has_stopped (a.stop_is ∙ none)))
step_told w number (stops s) none a = answer_told kind.Stopped (record w { stop = Some s }) refl
step_told w number blocks none a = answer_told kind.Blocked w (sym (ap has_stopped none))

thread_told : (w : World) (number : ℕ) (o : Option Thread) → w.stop ≡ None → Told (after_thread w number o)
thread_told w number None none = answer_told kind.None w (sym (ap has_stopped none))
thread_told w number (Some t) none = by (is_running t.ending)
  where
    by : (b : Bool) → Told (elim b as (λ _. After) [ true ↦ after_step w (step_thread w number t) | false ↦ answered kind.Ended w ])
    by true = step_told w number (step_thread w number t) none (step_keeps w number t)
    by false = answer_told kind.Ended w (sym (ap has_stopped none))

event_told : (w : World) (e : Event) → w.stop ≡ None → Told (after_event w e)
event_told w (Step number) none = thread_told w number (thread_at w number) none
event_told w Minor none = answer_told kind.Done w (sym (ap has_stopped none))
event_told w Full none = answer_told kind.Done w (sym (ap has_stopped none))

pub told : (w : World) (e : Event) → Told (after w e)
unfolding after
told w e = by w.stop refl
  where
    by : (o : Option Stop) → w.stop ≡ o → Told (elim o as (λ _. After) [ Some s ↦ answered kind.Stopped w | None ↦ after_event w e ])
    by None none = event_told w e none
    by (Some s) some = answer_told kind.Stopped w (sym (ap has_stopped some))
