-- Events of worlds that are one but for numbers have the same replies and lead to such worlds, and so do lists of events.
use Rattle.std.proofs.Common.{◌≡◌, ◌⊎◌, ℕ, zero, suc, ◌+◌, ◌<◌, ◌≤◌, List, [], ◌∷◌, ◌++◌, Option, Some, None, Bool, true, false, refl, sym, ap, ◌∙◌, subst, length, inl, inr, arith}
use Rattle.std.specs.Prelude.{nat_eq}
use Rattle.std.proofs.lemmas.Bool.{eqb-true}
use Rattle.std.proofs.lemmas.Bool.Decides.{nat_tests}
use Rattle.jm_world.specs.World.{World, Thread, is_running, live_among, Monitor}
use Rattle.jm_world.specs.Next.{Next}
use Rattle.jm_world.specs.Stepping.{step_thread}
use Rattle.jm_world.specs.Run.{After, answered, after_step, after_thread, after_event, after, run_from, replies_from}
use Rattle.jm_world.specs.declared.event.Event.{Event}
use Rattle.jm_world.specs.declared.event.Event.TheVariants.{Step, Minor, Full}
use Rattle.jm_world.specs.declared.reply.ReplyKind.{ReplyKind}
use Rattle.jm_world.specs.declared.reply.ReplyKind.TheVariants as kind
use Rattle.jm_world.specs.declared.stop.Stop.{Stop}
use Rattle.jm_world.specs.SideBySide.{Lists, none, more, Options, neither, both}
use Rattle.jm_world.proofs.WhatComes.{Alike, Running}
use Rattle.jm_world.specs.TwoWorlds.{Two, left, right}
use Rattle.jm_world.proofs.WhatComes.{Grown}
use Rattle.std.specs.List.{AllByRecursion}
use Rattle.jm_values.specs.Shape.{Among}
use Rattle.jm_world.specs.WellFormed.{NumberBelow, MonitorFits}
use Rattle.jm_world.proofs.BesideItself.{twin}
use Rattle.jm_world.proofs.KeepingForm.{Own, own_equal, list_own, literals_own, statics_own, running_own, alike_own}
use Rattle.jm_world.specs.UpToNumbers.{WorldsAreThemselves, Paired, Are, are, AreOne, EventsAgree, RunsAgree, OnesTellTheSame}
use Rattle.jm_world.specs.Renumbered.{Threads, Renumbered, Near, held_objects}
use Rattle.jm_world.proofs.WordsSideBySide.{lists_long, got}
use Rattle.jm_world.proofs.StepsSideBySide.{step_both}
use Rattle.jm_world.proofs.RenumberedReadAlike.{renumbered_alike}
use Rattle.jm_world.proofs.RenumberedSteps.{Follow, stop_both, block_both, go_both, go_more, are_as, comes_follow}

-- more pairs
more_paired : (ps qs : List (ℕ × ℕ)) (k j : ℕ) → Paired ps k j ⊎ Paired qs k j → Paired (ps ++ qs) k j
more_paired [] qs k j (inl a) = absurd a
more_paired [] qs k j (inr a) = a
more_paired (p ∷ ps) qs k j (inl (inl a)) = inl a
more_paired (p ∷ ps) qs k j (inl (inr a)) = inr (more_paired ps qs k j (inl a))
more_paired (p ∷ ps) qs k j (inr a) = inr (more_paired ps qs k j (inr a))

of_paired : (ps qs : List (ℕ × ℕ)) (k j : ℕ) → Paired (ps ++ qs) k j → Paired ps k j ⊎ Paired qs k j
of_paired [] qs k j a = inr a
of_paired (p ∷ ps) qs k j (inl a) = inl (inl a)
of_paired (p ∷ ps) qs k j (inr a) = elim (of_paired ps qs k j a) [ inl b ↦ inl (inr b) | inr b ↦ inr b ]

-- each of so many numbers from one on beside itself
pub fresh : ℕ → ℕ → List (ℕ × ℕ)
fresh zero n = []
fresh (suc c) n = (n, n) ∷ fresh c (suc n)

pub fresh_paired : (c n k j : ℕ) → k ≡ j → n ≤ k → k < n + c → Paired (fresh c n) k j
unfolding fresh
fresh_paired zero n k j e l h = absurd (omega (arith, l, h))
fresh_paired (suc c) n k j e l h = by (nat_eq k n) refl (λ d. fresh_paired c (suc n) k j e (grind (arith, nat_tests, d, l)) (omega (arith, h)))
  where
    by : (b : Bool) → nat_eq k n ≡ b → (nat_eq k n ≡ false → Paired (fresh c (suc n)) k j) → ((k ≡ n) × (j ≡ n)) ⊎ Paired (fresh c (suc n)) k j
    by true d ih = let f : k ≡ n = eqb-true k n d in inl (f, sym e ∙ f)
    by false d ih = inr (ih d)

pub of_fresh : (c n k j : ℕ) → Paired (fresh c n) k j → (k ≡ j) × (n ≤ k) × (k < n + c)
unfolding fresh
of_fresh zero n k j a = absurd a
of_fresh (suc c) n k j (inl a) = (a.0 ∙ sym a.1, omega (arith, a), omega (arith, a))
of_fresh (suc c) n k j (inr a) = let f = of_fresh c (suc n) k j a in (f.0, omega (arith, f), omega (arith, f))

-- the worlds are one, and the replies are the same
abbrev Agree : After → After → Type 0
Agree a b = AreOne a.world b.world × (a.reply ≡ b.reply)

live_same : {R : ℕ → ℕ → Type 0} (n : ℕ) (ts us : List Thread) → Lists (Threads R n) ts us → live_among ts ≡ live_among us
live_same n _ _ none = refl
live_same n _ _ (more {x = t} {y = u} {xs = ts} {ys = us} m l) =
    ap (λ e. elim (is_running e) as (λ _. ℕ) [ true ↦ live_among ts + 1 | false ↦ live_among ts ]) m.ending
    ∙ ap (λ k. elim (is_running u.ending) as (λ _. ℕ) [ true ↦ k + 1 | false ↦ k ]) (live_same n _ _ l)

told_same : (R : ℕ → ℕ → Type 0) (w v : World) → Are R w v → (w.output ≡ v.output) × (w.stop ≡ v.stop) × (length w.threads ≡ length v.threads) × (live_among w.threads ≡ live_among v.threads)
told_same R _ _ (are {p = p} m) = (refl, refl, lists_long m.threads, live_same (length p.one.heap) p.one.threads p.other.threads m.threads)

stop_of : (R : ℕ → ℕ → Type 0) (s : Stop) (w v : World) → Are R w v → Are R (record w { stop = Some s }) (record v { stop = Some s })
stop_of R s _ _ (are {p = p} m) = are {p = record p { stop = Some s }} (record { made = m.made; names = m.names; objects = m.objects; literals = m.literals; statics = m.statics; monitors = m.monitors; threads = m.threads })

module _ (ps : List (ℕ × ℕ)) where
  answer : (k : ReplyKind) (w v : World) → Are (Paired ps) w v → Agree (answered k w) (answered k v)
  answer k w v a = let t = told_same (Paired ps) w v a in ((ps, a), cc (t.2, t.3))

  step_agrees : (w v : World) → Are (Paired ps) w v → (x y : Next) → Follow (Paired ps) x y → Agree (after_step w x) (after_step v y)
  step_agrees w v a _ _ (stop_both {s = s}) = answer kind.Stopped _ _ (stop_of (Paired ps) s w v a)
  step_agrees w v a _ _ block_both = answer kind.Blocked w v a
  step_agrees w v a _ _ (go_both b) = answer kind.Done _ _ b
  step_agrees w v a _ _ (go_more p c {w = x} {v = y} b) = let n : ℕ = length p.one.heap in let b : Are (Paired (ps ++ fresh c n)) x y = are_as (Grown (Paired ps) p c) (Paired (ps ++ fresh c n)) to from x y b in
      let t = told_same (Paired (ps ++ fresh c n)) x y b in ((ps ++ fresh c n, b), cc (t.2, t.3))
    where
      to : (k j : ℕ) → Grown (Paired ps) p c k j → Paired (ps ++ fresh c (length p.one.heap)) k j
      to k j (inl a) = more_paired ps (fresh c (length p.one.heap)) k j (inl a)
      to k j (inr q) = more_paired ps (fresh c (length p.one.heap)) k j (inr (fresh_paired c (length p.one.heap) k j q.0 q.1 q.2))

      from : (k j : ℕ) → Paired (ps ++ fresh c (length p.one.heap)) k j → Grown (Paired ps) p c k j
      from k j a = elim (of_paired ps (fresh c (length p.one.heap)) k j a) [ inl b ↦ inl b | inr b ↦ inr (of_fresh c (length p.one.heap) k j b) ]

  module _ (p : Two) (m : Renumbered (Paired ps) p) where
    running_of : (t u : Thread) → Threads (Paired ps) (length p.one.heap) t u → is_running t.ending ≡ true → Running (Paired ps) t u
    running_of t u x e = record { object = x.live e; frames = x.frames; pending = x.pending; ending = x.ending }

    thread_agrees : (n : ℕ) (o q : Option Thread) → Options (Threads (Paired ps) (length p.one.heap)) o q → Agree (after_thread (left p) n o) (after_thread (right p) n q)
    thread_agrees n _ _ neither = answer kind.None (left p) (right p) (are m)
    thread_agrees n _ _ (both {x = t} {y = u} x) = by (is_running t.ending) (is_running u.ending) refl (ap is_running x.ending)
      where
        by : (b c : Bool) → is_running t.ending ≡ b → b ≡ c → Agree (elim b as (λ _. After) [ true ↦ after_step (left p) (step_thread (left p) n t) | false ↦ answered kind.Ended (left p) ]) (elim c as (λ _. After) [ true ↦ after_step (right p) (step_thread (right p) n u) | false ↦ answered kind.Ended (right p) ])
        by false false e f = answer kind.Ended (left p) (right p) (are m)
        by true true e f = step_agrees (left p) (right p) (are m) _ _
            (comes_follow (Paired ps) p n t u m (x.live e) _ _ (step_both (Paired ps) (record { worlds = p; number = n; thread = t; thread' = u; alike = renumbered_alike (Paired ps) p m; running = running_of t u x e })))
        by true false e f = cc
        by false true e f = cc

    event_agrees : (e : Event) → Agree (after_event (left p) e) (after_event (right p) e)
    event_agrees Minor = answer kind.Done (left p) (right p) (are m)
    event_agrees Full = answer kind.Done (left p) (right p) (are m)
    event_agrees (Step zero) = thread_agrees 0 None None neither
    event_agrees (Step (suc n)) = thread_agrees (suc n) _ _ (got m.threads n)

  of_event : (w v : World) (e : Event) → Are (Paired ps) w v → Agree (after w e) (after v e)
  unfolding after
  of_event _ _ e (are {p = p} m) = by p.stop
    where
      by : (o : Option Stop) → Agree (elim o as (λ _. After) [ Some s ↦ answered kind.Stopped (left p) | None ↦ after_event (left p) e ]) (elim o as (λ _. After) [ Some s ↦ answered kind.Stopped (right p) | None ↦ after_event (right p) e ])
      by None = event_agrees p m e
      by (Some s) = answer kind.Stopped (left p) (right p) (are m)

pub events_agree : EventsAgree
events_agree w v e q = of_event q.0 w v e q.1

pub runs_agree : RunsAgree
runs_agree w v [] q = (q, refl)
runs_agree w v (e ∷ es) q =
    let one : Agree (after w e) (after v e) = events_agree w v e q in
    let rest : AreOne (run_from w (e ∷ es)) (run_from v (e ∷ es)) × (replies_from (after w e).world es ≡ replies_from (after v e).world es) = runs_agree (after w e).world (after v e).world es one.0 in
    (rest.0, cc (one.1, rest.1))

pub ones_tell_the_same : OnesTellTheSame
ones_tell_the_same w v q = told_same (Paired q.0) w v q.1

-- a well-formed world beside itself, each number beside itself
held_below : (n m : ℕ) (ms : List Monitor) (k : ℕ) → AllByRecursion (MonitorFits n m) ms → Among k (held_objects ms) → k < n
held_below n m [] k f a = absurd a
held_below n m (x ∷ ms) k f (inl e) = subst (λ i. i < n) (sym e) f.0.object
held_below n m (x ∷ ms) k f (inr a) = held_below n m ms k f.1 a

near_own : (n : ℕ) (o : Option ℕ) → NumberBelow n o → Options (Near (Own n) n) o o
near_own n None b = neither
near_own n (Some k) b = both (b, b, λ i l r. ap (nat_eq k) r.0)

pub worlds_are_themselves : WorldsAreThemselves
worlds_are_themselves w f = (
  fresh (length w.heap) 0,
  are_as (Own (length w.heap)) (Paired (fresh (length w.heap) 0)) (λ k j r. fresh_paired (length w.heap) 0 k j r.0 (omega arith) (omega (arith, r.1))) (λ k j a. let r = of_fresh (length w.heap) 0 k j a in (r.0, omega (arith, r.2))) w w (are {p = twin w} (record {
    made = refl;
    names = record { below = λ k j r. (r.1, subst (λ j. j < length w.heap) r.0 r.1); equal = own_equal (length w.heap) };
    objects = alike.objects;
    literals = literals_own (length w.heap) w.literals f.literals;
    statics = statics_own (length w.heap) w.statics f.statics;
    monitors = record { held = alike.held; forth = λ k a. (k, (refl, held_below (length w.heap) (length w.threads) w.monitors k f.monitors a), a); back = λ k a. (k, (refl, held_below (length w.heap) (length w.threads) w.monitors k f.monitors a), a); once = f.once; once' = f.once };
    threads = list_own (λ t g. let r : Running (Own (length w.heap)) t t = running_own (length w.heap) t g in record { ending = refl; frames = r.frames; pending = r.pending; object = near_own (length w.heap) t.object g.object; live = λ e. r.object }) w.threads f.threads;
  })),
)
  where
    alike : Alike (Own (length w.heap)) (twin w)
    alike = alike_own w f
