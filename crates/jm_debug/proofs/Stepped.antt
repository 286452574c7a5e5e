-- Steps of a thread that are made in turns.
use Rattle.std.proofs.Common.{◌≡◌, ℕ, zero, suc, ◌+◌, ◌-◌, ◌<◌, List, [], ◌∷◌, ◌++◌, length, replicate, refl, sym, ap, subst, ◌∙◌, arith, add-one, zero-add, append-nil}
use Rattle.std.proofs.lemmas.List.{length-replicate}
use Rattle.jm_world.specs.World.{World}
use Rattle.jm_world.specs.Run.{After, after, run_from, replies_from}
use Rattle.jm_world.specs.declared.event.Event.{Event}
use Rattle.jm_world.specs.declared.event.Event.TheVariants.{Step}
use Rattle.jm_world.specs.declared.reply.Reply.{Reply}
use Rattle.jm_machine.specs.View.{MachineView, MatchesWorld}
use Rattle.jm_machine.specs.ManySteps.{AreSteps, steps_of}
use Rattle.jm_machine.specs.declared.steps.StepsEnd.TheVariants.{AllMade, Other, OutOfMemory}
use Rattle.jm_debug.specs.Session.{more}
use Rattle.jm_debug.specs.Answering.{repeated}
use Rattle.jm_debug.proofs.Repeats.{repeated_more}

-- the last of some events is one more than those before
more_repeated : (n : ℕ) (e : Event) (w : World) → more n e (after w e) ≡ after (repeated n e w) e
more_repeated zero e w = refl
more_repeated (suc n) e w = more_repeated n e (after w e).world

run_repeated : (n : ℕ) (e : Event) (w : World) → run_from w (replicate n e) ≡ repeated n e w
run_repeated zero e w = refl
run_repeated (suc n) e w = run_repeated n e (after w e).world

repeated_twice : (m n : ℕ) (e : Event) (w : World) → repeated n e (repeated m e w) ≡ repeated (m + n) e w
repeated_twice zero n e w = ap (λ k. repeated k e w) (sym (zero-add n))
repeated_twice (suc m) n e w =
    let same : suc (m + n) ≡ suc m + n = omega arith in
    repeated_twice m n e (after w e).world ∙ ap (λ k. repeated k e w) same

-- the last of their replies
last_reply : (n : ℕ) (e : Event) (w : World) (rs : List Reply) (r : Reply) → length rs ≡ n → rs ++ (r ∷ []) ≡ replies_from w (replicate (suc n) e)
    → r ≡ (after (repeated n e w) e).reply
last_reply zero e w [] r many is = cc
last_reply zero e w (x ∷ rs) r many is = absurd (omega arith)
last_reply (suc n) e w [] r many is = absurd (omega arith)
last_reply (suc n) e w (x ∷ rs) r many is = last_reply n e (after w e).world rs r (omega arith) (cc)

-- and of replies that are alike
alike_reply : (n : ℕ) (e : Event) (w : World) (r : Reply) → replicate (suc n) r ≡ replies_from w (replicate (suc n) e) → r ≡ (after (repeated n e w) e).reply
alike_reply zero e w r is = cc
alike_reply (suc n) e w r is = alike_reply n e (after w e).world r (cc)

-- a turn of some steps, behind some that were made before
module _ {H : Type 0} (w : World) (thread before alike : ℕ) (r : Reply) (new : MachineView H) where
  -- where they lead
  led_to : (k : ℕ) → MatchesWorld new (run_from (repeated before (Step thread) w) (steps_of thread k)) → MatchesWorld new (repeated (before + k) (Step thread) w)
  led_to k m = subst (MatchesWorld new) (run_repeated k (Step thread) (repeated before (Step thread) w) ∙ repeated_twice before k (Step thread) w) m

  -- the reply of the step behind so many more
  reply_behind : (k : ℕ) (last : Reply) → last ≡ (after (repeated k (Step thread) (repeated before (Step thread) w)) (Step thread)).reply
      → last.kind ≡ (more (before + k) (Step thread) (after w (Step thread))).reply.kind
  reply_behind k last is =
      ap (λ (x : Reply). x.kind)
      (is ∙ ap (λ x. (after x (Step thread)).reply) (repeated_twice before k (Step thread) w)
      ∙ ap (λ (a : After). a.reply) (sym (more_repeated (before + k) (Step thread) w)))

  -- all of them were alike
  pub all_alike : 0 < alike → AreSteps (repeated before (Step thread) w) thread new (record { alike = alike; reply = r; end = AllMade })
      → MatchesWorld new (more (before + alike - 1) (Step thread) (after w (Step thread))).world
      × (r.kind ≡ (more (before + alike - 1) (Step thread) (after w (Step thread))).reply.kind)
  all_alike some are =
      let n = alike - 1 in
      let number : before + (alike + 0) ≡ suc (before + n) = omega arith in
      let less : before + n ≡ before + alike - 1 = omega arith in
      let first : suc n ≡ alike = omega arith in
      let second : alike + 0 ≡ suc n = omega arith in
      let there = repeated before (Step thread) w in
      let same : replicate (suc n) r ≡ replies_from there (replicate (suc n) (Step thread)) =
      ap (λ k. replicate k r) first ∙ sym (append-nil (replicate alike r)) ∙ are.replies ∙ ap (λ k. replies_from there (replicate k (Step thread))) second in (
        subst (λ k. MatchesWorld new (more k (Step thread) (after w (Step thread))).world) less
            (subst (MatchesWorld new) (ap (λ k. repeated k (Step thread) w) number ∙ repeated_more (before + n) (Step thread) w) (led_to (alike + 0) are.world)),
        reply_behind n r (alike_reply n (Step thread) there r same) ∙ ap (λ k. (more k (Step thread) (after w (Step thread))).reply.kind) less,
      )

  -- another one came behind them
  pub another : (other : Reply) → AreSteps (repeated before (Step thread) w) thread new (record { alike = alike; reply = r; end = Other other })
      → MatchesWorld new (more (before + alike) (Step thread) (after w (Step thread))).world
      × (other.kind ≡ (more (before + alike) (Step thread) (after w (Step thread))).reply.kind)
  another other are =
      let number : before + (alike + 1) ≡ suc (before + alike) = omega arith in
      let there = repeated before (Step thread) w in
      let same : replicate alike r ++ (other ∷ []) ≡ replies_from there (replicate (suc alike) (Step thread)) =
      are.replies ∙ ap (λ k. replies_from there (replicate k (Step thread))) (add-one alike) in (
        subst (MatchesWorld new) (ap (λ k. repeated k (Step thread) w) number ∙ repeated_more (before + alike) (Step thread) w) (led_to (alike + 1) are.world),
        reply_behind alike other (last_reply alike (Step thread) there (replicate alike r) other (length-replicate alike r) same),
      )

  -- none came behind them
  pub none_came : AreSteps (repeated before (Step thread) w) thread new (record { alike = alike; reply = r; end = OutOfMemory })
      → MatchesWorld new (repeated (before + alike) (Step thread) w)
  none_came are =
      let number : before + (alike + 0) ≡ before + alike = omega arith in
      subst (λ k. MatchesWorld new (repeated k (Step thread) w)) number (led_to (alike + 0) are.world)
