-- A step that is blocked, and what keeps it back.
use Rattle.std.proofs.Common.{◌≡◌, ◌≢◌, ℕ, List, Option, Some, None, Bool, true, false, refl, sym, ap, subst, ◌∙◌, length, eq-eqb}
use Rattle.std.specs.Prelude.{option_map, slice_get, nat_eq}
use Rattle.jm_program.specs.declared.class.ClassParts.{ClassParts}
use Rattle.jm_program.specs.declared.instruction.operation.InvokeOp.{InvokeOp}
use Rattle.jm_program.specs.declared.instruction.operation.InvokeOp.TheVariants.{Virtual, Special, Static, Interface}
use Rattle.jm_values.specs.declared.value.Value.{Value}
use Rattle.jm_world.specs.Frames.{Frame}
use Rattle.jm_world.specs.World.{World, Thread, is_running, thread_at}
use Rattle.jm_world.specs.Next.{Next}
use Rattle.jm_world.specs.Stepping.{step_thread}
use Rattle.jm_world.specs.Run.{After, answered, after_step, after_thread, after_event, after}
use Rattle.jm_world.specs.declared.stop.Stop.{Stop}
use Rattle.jm_world.specs.declared.event.Event.TheVariants.{Step}
use Rattle.jm_world.specs.declared.reply.ReplyKind.TheVariants as kind
use Rattle.jm_world.proofs.Asking.{Asks, by_monitorenter, by_call, by_entry}
use Rattle.jm_world.proofs.WhatComes.{for_monitor, for_class, Comes, stopped, blocked, went, makes, fails, starts}
use Rattle.jm_world.proofs.WhatComes as walk
use Rattle.jm_world.proofs.BesideItself.{Same, twin, twin_step}
use Rattle.jm_blocked_threads.specs.Asked.{entering, initializing, object_of, asked_by_call, asked_by_instruction, asked_by_top}
use Rattle.jm_blocked_threads.specs.Waits.{told_of, Waits}

asked_of_call : (op : InvokeOp) (stack : List Value) (n : ℕ) → (op ≡ Static → ⊥) → asked_by_call op stack n ≡ object_of (slice_get stack n)
asked_of_call Virtual stack n x = refl
asked_of_call Special stack n x = refl
asked_of_call Static stack n x = absurd (x refl)
asked_of_call Interface stack n x = refl

-- the monitor that a thread asks for is told, but of its entry
asked_is_told : (program : List ClassParts) (fs : List Frame) (k : ℕ) → Asks program fs k → asked_by_top program fs ≡ told_of fs (entering k)
asked_is_told program _ k (by_monitorenter {a = a} i d) = ap (λ i. option_map entering (asked_by_instruction a.stack i)) i ∙ ap (λ v. option_map entering (object_of v)) d
asked_is_told program _ k (by_call {a = a} op r x i d) =
    ap (λ i. option_map entering (asked_by_instruction a.stack i)) i
    ∙ ap (option_map entering) (asked_of_call op a.stack (length r.descriptor.parameters) x)
    ∙ ap (λ v. option_map entering (object_of v)) d
asked_is_told program _ k by_entry = refl

apart : (owner n : ℕ) → nat_eq owner n ≡ false → owner ≢ n
apart owner n d same = let no : nat_eq owner n ≡ true = eq-eqb owner n same in cc

waits : (w : World) (n : ℕ) (t : Thread) → walk.Waits (twin w) n t → Waits w n t
waits w n t (for_monitor k m x e d) = record { need = entering k; in_way = record { monitor = m; held = e; other = apart m.owner n d }; told = asked_is_told w.program t.frames k x }
waits w n t (for_class class owner below f e d) = record {
  need = initializing class;
  in_way = record { owner = owner; state_is = e; other = apart owner n d };
  told = subst (λ fs. asked_by_top w.program fs ≡ told_of fs (initializing class)) (sym f) refl;
}

stepped : (w : World) (n : ℕ) (t : Thread) (x y : Next) → Comes Same (twin w) n t t x y → (after_step w x).reply.kind ≡ kind.Blocked → Waits w n t × ((after_step w x).world ≡ w)
stepped w n t _ _ stopped e = absurd cc
stepped w n t _ _ (blocked x) e = (waits w n t x, refl)
stepped w n t _ _ (went d c x y) e = absurd cc
stepped w n t _ _ (makes os a x y) e = absurd cc
stepped w n t _ _ (fails class os a x y) e = absurd cc
stepped w n t _ _ (starts r x y) e = absurd cc

pub blocked_waits : (w : World) (n : ℕ) (t : Thread) → thread_at w n ≡ Some t → (after w (Step n)).reply.kind ≡ kind.Blocked → Waits w n t × ((after w (Step n)).world ≡ w)
unfolding after
blocked_waits w n t is = by w.stop
  where
    running_told : (b : Bool) → (elim b as (λ _. After) [ true ↦ after_step w (step_thread w n t) | false ↦ answered kind.Ended w ]).reply.kind ≡ kind.Blocked
        → Waits w n t × ((elim b as (λ _. After) [ true ↦ after_step w (step_thread w n t) | false ↦ answered kind.Ended w ]).world ≡ w)
    running_told true e = stepped w n t _ _ (twin_step w n t) e
    running_told false e = absurd cc

    there : (o : Option Thread) → o ≡ Some t → (after_thread w n o).reply.kind ≡ kind.Blocked → Waits w n t × ((after_thread w n o).world ≡ w)
    there None e = absurd cc
    there (Some u) e =
        let same : u ≡ t = cc in
        subst (λ x. (after_thread w n (Some x)).reply.kind ≡ kind.Blocked → Waits w n t × ((after_thread w n (Some x)).world ≡ w)) (sym same) (running_told (is_running t.ending))

    by : (o : Option Stop) → (elim o as (λ _. After) [ Some s ↦ answered kind.Stopped w | None ↦ after_event w (Step n) ]).reply.kind ≡ kind.Blocked
        → Waits w n t × ((elim o as (λ _. After) [ Some s ↦ answered kind.Stopped w | None ↦ after_event w (Step n) ]).world ≡ w)
    by (Some s) e = absurd cc
    by None e = there (thread_at w n) is e
