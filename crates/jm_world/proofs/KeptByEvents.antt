-- What a step of a thread keeps, an event keeps.
use Rattle.std.proofs.Common.{◌≡◌, ℕ, Option, Some, None, Bool, true, false, refl}
use Rattle.jm_world.specs.World.{World, Thread, thread_at, is_running}
use Rattle.jm_world.specs.Next.{Next, goes, stops, blocks}
use Rattle.jm_world.specs.Run.{After, answered, after_step, after_thread, after_event, after}
use Rattle.jm_world.specs.Stepping.{step_thread}
use Rattle.jm_world.specs.declared.event.Event.{Event}
use Rattle.jm_world.specs.declared.event.Event.TheVariants.{Step, Minor, Full}
use Rattle.jm_world.specs.declared.reply.ReplyKind.TheVariants as kind
use Rattle.jm_world.specs.declared.stop.Stop.{Stop}

-- the world behind a step, if there is one, is so
abbrev pub Behind : (World → Type 0) → Next → Type 0
Behind P (goes v) = P v
Behind P (stops s) = Unit {0}
Behind P blocks = Unit {0}

module _ (P : World → Type 0) (w : World) (h : P w) (stopped : (s : Stop) → P (record w { stop = Some s })) (steps : (n : ℕ) (t : Thread) → thread_at w n ≡ Some t → is_running t.ending ≡ true → Behind P (step_thread w n t)) where
  after_step_keeps : (x : Next) → Behind P x → P (after_step w x).world
  after_step_keeps (goes v) f = f
  after_step_keeps (stops s) f = stopped s
  after_step_keeps blocks f = h

  after_thread_keeps : (n : ℕ) (o : Option Thread) → thread_at w n ≡ o → P (after_thread w n o).world
  after_thread_keeps n None e = h
  after_thread_keeps n (Some t) e = by (is_running t.ending) refl
    where
      by : (b : Bool) → is_running t.ending ≡ b → P (elim b as (λ _. After) [ true ↦ after_step w (step_thread w n t) | false ↦ answered kind.Ended w ]).world
      by true d = after_step_keeps (step_thread w n t) (steps n t e d)
      by false d = h

  after_event_keeps : (e : Event) → P (after_event w e).world
  after_event_keeps (Step n) = after_thread_keeps n (thread_at w n) refl
  after_event_keeps Minor = h
  after_event_keeps Full = h

  pub event_keeps : (e : Event) → P (after w e).world
  unfolding after
  event_keeps e = by w.stop
    where
      by : (o : Option Stop) → P (elim o as (λ _. After) [ Some s ↦ answered kind.Stopped w | None ↦ after_event w e ]).world
      by None = after_event_keeps e
      by (Some s) = h
