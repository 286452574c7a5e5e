-- Replies of equal events.
use Rattle.std.proofs.Common.{◌≡◌, ℕ, zero, suc, Option, Some, None, Bool, true, false, refl, sym, ap, ◌∙◌, replicate}
use Rattle.jm_world.specs.Next.{Next, goes, stops, blocks}
use Rattle.jm_world.specs.Run.{After, after, after_event, after_step, after_thread, answered, reply, run_from, replies_from}
use Rattle.jm_world.specs.Stepping.{step_thread}
use Rattle.jm_world.specs.World.{World, Thread, thread_at, is_running}
use Rattle.jm_world.specs.declared.event.Event.{Event}
use Rattle.jm_world.specs.declared.event.Event.TheVariants.{Step, Minor, Full}
use Rattle.jm_world.specs.declared.reply.Reply.{Reply}
use Rattle.jm_world.specs.declared.reply.ReplyKind.TheVariants as kind
use Rattle.jm_world.specs.declared.stop.Stop.{Stop}

-- a reply has the counts of the world after
pub record HasCounts (a : After) : Type 0 where
  pub is : reply a.reply.kind a.world ≡ a.reply

of_next : (w : World) (next : Next) → HasCounts (after_step w next)
of_next w (goes v) = record { is = refl }
of_next w (stops s) = record { is = refl }
of_next w blocks = record { is = refl }

of_running : (w : World) (n : ℕ) (t : Thread) (b : Bool) → HasCounts (elim b as (λ _. After) [ true ↦ after_step w (step_thread w n t) | false ↦ answered kind.Ended w ])
of_running w n t true = of_next w (step_thread w n t)
of_running w n t false = record { is = refl }

of_thread : (w : World) (n : ℕ) (t : Option Thread) → HasCounts (after_thread w n t)
of_thread w n None = record { is = refl }
of_thread w n (Some t) = of_running w n t (is_running t.ending)

of_event : (w : World) (e : Event) → HasCounts (after_event w e)
of_event w (Step n) = of_thread w n (thread_at w n)
of_event w Minor = record { is = refl }
of_event w Full = record { is = refl }

of_stop : (w : World) (e : Event) (s : Option Stop) → HasCounts (elim s as (λ _. After) [ Some t ↦ answered kind.Stopped w | None ↦ after_event w e ])
of_stop w e (Some t) = record { is = refl }
of_stop w e None = of_event w e

pub has_counts : (w : World) (e : Event) → HasCounts (after w e)
unfolding after
has_counts w e = of_stop w e w.stop

-- where all replies are alike, the counts are the same at the end
done_of : Reply → Reply
done_of r = record { kind = kind.Done; made = r.made; live = r.live }

counts_next : (w : World) (e : Event) (r : Reply) → r ≡ reply kind.Done w → (after w e).reply ≡ r → r ≡ reply kind.Done (after w e).world
unfolding done_of
counts_next w e r first is =
    let alike : (after w e).reply ≡ reply kind.Done w = is ∙ first in
    first ∙ ap done_of (sym alike) ∙ ap done_of (sym (has_counts w e).is)

pub counts_after : (n : ℕ) (w : World) (e : Event) (r : Reply) → r ≡ reply kind.Done w → replicate n r ≡ replies_from w (replicate n e)
    → r ≡ reply kind.Done (run_from w (replicate n e))
counts_after zero w e r first all = first
counts_after (suc n) w e r first all =
    let head : (after w e).reply ≡ r = cc in
    let rest : replicate n r ≡ replies_from (after w e).world (replicate n e) = cc in
    counts_after n (after w e).world e r (counts_next w e r first head) rest
