-- Events of one thread in a row that are done, and make and end no thread.
use Rattle.std.proofs.Common.{◌≡◌, ◌≢◌, ℕ, zero, suc, ◌+◌, ◌-◌, ◌≤◌, ◌<◌, List, [], ◌∷◌, ◌++◌, Option, Some, None, Bool, true, false, refl, sym, ap, subst, ◌∙◌, ◌⊎◌, inl, inr, length, replicate, arith}
use Rattle.std.specs.Prelude.{max, min, nat_eq, nat_lt, slice_get}
use Rattle.std.proofs.lemmas.Bool.{eq-eqb, eqb-true, ltb-false}
use Rattle.jm_machine.specs.ManySteps.{done_reply, steps_of}
use Rattle.jm_machine.specs.Threads.{is_live, is_live_thread}
use Rattle.jm_world.specs.RoundRobin.{is_blocked, is_stopped, turn_in}
use Rattle.jm_world.specs.Run.{after, replies_from, reply, run_from}
use Rattle.jm_world.specs.World.{World, Thread, is_running, live_among}
use Rattle.jm_world.specs.declared.event.Event.{Event}
use Rattle.jm_world.specs.declared.event.Event.TheVariants.{Step}
use Rattle.jm_world.specs.declared.reply.Reply.{Reply}
use Rattle.jm_world.specs.declared.reply.ReplyKind.TheVariants.{Done}
use Rattle.jm_world.specs.declared.stop.Stop.{Stop}
use Rattle.jm_debug.specs.Kept.{has_stopped}
use Rattle.jm_debug.proofs.KeptThreads.{stepped, told}
use Rattle.jm_debug.proofs.LiveTurns.{first_live, none_live}
use Rattle.jm_events.specs.Due.{IsNext, most_of, once_more, turn_taken, turns_behind, turns_due, turns_knows, turns_seen}
use Rattle.jm_events.specs.Passes.{Knows}
use Rattle.jm_events.specs.declared.due.DueEvent.{DueEvent}
use Rattle.jm_events.specs.declared.pass.Pass.{Pass}
use Rattle.jm_events.specs.declared.turns.Turns.{Turns}
use Rattle.jm_events.proofs.Passes.{knows_further, knows_later}
use Rattle.jm_events.proofs.Rounds.{Takes, event_due, in_next_pass, in_pass, left_is}

-- ---- the only live thread

none_among : (ts : List Thread) → live_among ts ≡ 0 → (j : ℕ) → is_live_thread (slice_get ts j) ≡ false
none_among [] none j = refl
none_among (t ∷ ts) none j = by (is_running t.ending) refl j none (none_among ts)
  where
    by : (b : Bool) → is_running t.ending ≡ b → (j : ℕ) → (elim b as (λ _. ℕ) [ true ↦ live_among ts + 1 | false ↦ live_among ts ]) ≡ 0
        → (live_among ts ≡ 0 → (j : ℕ) → is_live_thread (slice_get ts j) ≡ false) → is_live_thread (slice_get (t ∷ ts) j) ≡ false
    by true runs j e rest = absurd (omega (arith, e))
    by false ended zero e rest = ended
    by false ended (suc j) e rest = rest e j

one_among : (ts : List Thread) → live_among ts ≡ 1 → (i j : ℕ) → is_live_thread (slice_get ts i) ≡ true → j ≢ i → is_live_thread (slice_get ts j) ≡ false
one_among [] one i j live other = refl
one_among (t ∷ ts) one i j live other = by (is_running t.ending) refl i j one live other (one_among ts)
  where
    by : (b : Bool) → is_running t.ending ≡ b → (i j : ℕ) → (elim b as (λ _. ℕ) [ true ↦ live_among ts + 1 | false ↦ live_among ts ]) ≡ 1
        → is_live_thread (slice_get (t ∷ ts) i) ≡ true → j ≢ i
        → (live_among ts ≡ 1 → (i j : ℕ) → is_live_thread (slice_get ts i) ≡ true → j ≢ i → is_live_thread (slice_get ts j) ≡ false) → is_live_thread (slice_get (t ∷ ts) j) ≡ false
    by true runs zero zero e live other rest = absurd (other refl)
    by true runs zero (suc j) e live other rest = none_among ts (omega (arith, e)) j
    by true runs (suc i) j e live other rest = let no : true ≡ false = sym live ∙ none_among ts (omega (arith, e)) i in absurd cc
    by false ended zero j e live other rest = let no : true ≡ false = sym live ∙ ended in absurd cc
    by false ended (suc i) zero e live other rest = ended
    by false ended (suc i) (suc j) e live other rest = rest e i j live (λ same. other (ap suc same))

alone : (w : World) (n k : ℕ) → live_among w.threads ≡ 1 → is_live w n ≡ true → k ≢ n → is_live w k ≡ false
alone w n zero one live other = refl
alone w zero (suc k) one live other = let no : false ≡ true = live in absurd cc
alone w (suc n) (suc k) one live other = one_among w.threads one n k live (λ same. other (ap suc same))

-- ---- one event of the thread whose turn it is

-- the turns stand at an event of a live thread
pub record IsTurn (w : World) (t : Turns) (n : ℕ) : Type 0 where
  pub thread : t.thread ≡ n
  pub passed : t.passed + 1 ≡ n
  pub live : is_live w n ≡ true
  pub goes : w.stop ≡ None
  pub knows : Knows t.pass t.passed w

-- whatever comes of it, they know the threads then
pub seen_knows : (w : World) (t : Turns) (n : ℕ) (blocked : Bool) → IsTurn w t n → turns_knows (turns_seen t blocked) (after w (Step n)).world
seen_knows w t n blocked is = by blocked (nat_lt 1 t.left)
  where
    v : World
    v = (after w (Step n)).world

    same : Knows t.pass t.passed v
    same = knows_later w t.pass t.passed n is.live is.knows

    over : Knows t.pass t.thread v
    over = let thread = is.thread in let passed = is.passed in knows_further v t.pass t.passed t.thread (omega (arith, thread, passed)) same

    by : (blocked b : Bool) → turns_knows (elim blocked as (λ _. Turns) [
      | true ↦ record t { passed = t.thread; left = t.quantum }
      | false ↦ elim b as (λ _. Turns) [ true ↦ record t { left = t.left - 1; moved = true } | false ↦ record t { passed = t.thread; left = t.quantum; moved = true } ]
    ]) v
    by true b = over
    by false true = same
    by false false = over

-- the next one, in the same turn or in that of a new pass
record Once (w : World) (t s u : Turns) (n : ℕ) : Type 0 where
  due : turns_due s (after w (Step n)).world
      ≡ Step n ∷ turns_due (turns_seen u (is_blocked (after (after w (Step n)).world (Step n)).reply.kind)) (after (after w (Step n)).world (Step n)).world
  turn : IsTurn (after w (Step n)).world u n
  steps : u.steps ≡ t.steps - 1
  left : 1 < t.left → u.left ≡ t.left - 1

module _ (w : World) (t : Turns) (n : ℕ) (is : IsTurn w t n) (said : (after w (Step n)).reply ≡ done_reply w) where
  abbrev there : World
  there = (after w (Step n)).world

  going : there.stop ≡ None
  going = by there.stop (sym (told w (Step n)).stopped ∙ ap (λ (r : Reply). is_stopped r.kind) said)
    where
      by : (o : Option Stop) → has_stopped o ≡ false → o ≡ None
      by None h = refl
      by (Some s) h = cc

  made : length there.threads ≡ length w.threads
  made = sym (told w (Step n)).made ∙ ap (λ (r : Reply). r.made) said

  living : live_among there.threads ≡ live_among w.threads
  living = sym (told w (Step n)).live ∙ ap (λ (r : Reply). r.live) said

  lives : is_live there n ≡ true
  lives = by (is_live there n) refl
    where
      by : (b : Bool) → is_live there n ≡ b → is_live there n ≡ true
      by true h = h
      by false h = let more = (stepped w n is.live).ends h in absurd (omega (arith, more, made, living))

  stands : (u : Turns) → u.thread ≡ t.thread → u.passed ≡ t.passed → u.pass ≡ t.pass → IsTurn there u n
  stands u thread passed pass = record {
    thread = thread ∙ is.thread;
    passed = ap (λ k. k + 1) passed ∙ is.passed;
    live = lives;
    goes = going;
    knows = rw (pass, passed) (knows_later w t.pass t.passed n is.live is.knows);
  }

  once : 0 < t.steps → (1 < t.left) ⊎ (live_among w.threads ≡ 1) → Once w t (turns_seen t false) (once_more t) n
  once some low = by (nat_lt 1 t.left) refl low
    where
      by : (b : Bool) → nat_lt 1 t.left ≡ b → (1 < t.left) ⊎ (live_among w.threads ≡ 1)
          → Once w t (elim b as (λ _. Turns) [ true ↦ record t { left = t.left - 1; moved = true } | false ↦ record t { passed = t.thread; left = t.quantum; moved = true } ])
          (elim b as (λ _. Turns) [ true ↦ record t { steps = t.steps - 1; left = t.left - 1; moved = true } | false ↦ record t { steps = t.steps - 1; left = t.quantum; moved = false } ]) n
      by true e low = record {
        due = event_due there (record t { left = t.left - 1; moved = true }) (record t { steps = t.steps - 1; left = t.left - 1; moved = true }) n (record {
          chosen = in_pass there (t.passed + 1) true going n (first_live there (t.passed + 1) n (let same = is.passed in omega (arith, same)) lives (λ k above below. let same = is.passed in absurd (omega (arith, same, above, below))));
          steps = omega arith;
          quantum = refl;
          left = sym (ap (λ b. elim b as (λ _. ℕ) [ true ↦ t.left - 1 | false ↦ t.quantum ]) (eq-eqb n (t.passed + 1) (sym is.passed)));
          thread = is.thread;
          passed = is.passed;
        });
        turn = stands (record t { steps = t.steps - 1; left = t.left - 1; moved = true }) refl refl refl;
        steps = refl;
        left = λ h. refl;
      }
      by false e (inl many) = let few = ltb-false 1 t.left e in absurd (omega (arith, few, many))
      by false e (inr one) =
          let only : (k : ℕ) → k ≢ n → is_live there k ≡ false = λ k other. alone there n k (living ∙ one) lives other in
          let thread = is.thread in
          record {
            due = event_due there (record t { passed = t.thread; left = t.quantum; moved = true }) (record t { steps = t.steps - 1; left = t.quantum; moved = false }) n (record {
              chosen = in_next_pass there (t.thread + 1) true going n refl
                  (none_live there (t.thread + 1) (length there.threads + 1 + (t.thread + 1)) (omega arith) (λ k above below. only k (λ same. absurd (omega (arith, same, thread, above)))))
                  (first_live there 1 n (let same = is.passed in omega (arith, same)) lives (λ k above below. only k (λ same. absurd (omega (arith, same, below)))));
              steps = omega arith;
              quantum = refl;
              left = both (nat_eq n (t.thread + 1));
              thread = is.thread;
              passed = is.passed;
            });
            turn = stands (record t { steps = t.steps - 1; left = t.quantum; moved = false }) refl refl refl;
            steps = refl;
            left = λ many. let few = ltb-false 1 t.left e in absurd (omega (arith, few, many));
          }
        where
          both : (b : Bool) → t.quantum ≡ (elim b as (λ _. ℕ) [ true ↦ t.quantum | false ↦ t.quantum ])
          both true = refl
          both false = refl

-- ---- some of them

reply_is : (r : Reply) (w : World) → r.kind ≡ Done → r.made ≡ length w.threads → r.live ≡ live_among w.threads → r ≡ reply Done w
reply_is r w kind made live = λ i. record { kind = kind i; made = made i; live = live i }

record Many (w : World) (t : Turns) (n k : ℕ) : Type 0 where
  due : Step n ∷ turns_due (turns_seen t (is_blocked (after w (Step n)).reply.kind)) (after w (Step n)).world
      ≡ steps_of n k ++ Step n ∷ turns_due (turns_seen (turns_behind t k) (is_blocked (after (run_from w (steps_of n k)) (Step n)).reply.kind))
      (after (run_from w (steps_of n k)) (Step n)).world
  turn : IsTurn (run_from w (steps_of n k)) (turns_behind t k) n

in_turn : (k left : ℕ) → suc k < max left 1 → (1 < left) × (k < max (left - 1) 1)
in_turn k left few = (omega arith, omega arith)

many : (k : ℕ) (w : World) (t : Turns) (n : ℕ) (r : Reply) → IsTurn w t n → k ≤ t.steps → (k < max t.left 1) ⊎ (live_among w.threads ≡ 1)
    → r ≡ done_reply w → replies_from w (steps_of n k) ≡ replicate k r → Many w t n k
many zero w t n r is within low done said = record { due = refl; turn = is }
many (suc k) w t n r is within low done said =
    let v = (after w (Step n)).world in
    let here : (after w (Step n)).reply ≡ r = cc in
    let rest : replies_from v (steps_of n k) ≡ replicate k r = cc in
    let first = once w t n is (here ∙ done) (omega arith) (now low) in
    let again : r ≡ done_reply v = reply_is r v (ap (λ (x : Reply). x.kind) done) (ap (λ (x : Reply). x.made) (sym here) ∙ (told w (Step n)).made) (ap (λ (x : Reply). x.live) (sym here) ∙ (told w (Step n)).live) in
    let left = first.steps in
    let later = many k v (once_more t) n r first.turn (omega (arith, left)) (next low first.left (living w t n is (here ∙ done))) again rest in
    record {
      due = ap (λ (x : Reply). Step n ∷ turns_due (turns_seen t (is_blocked x.kind)) v) (here ∙ done)
          ∙ ap (λ (es : List Event). Step n ∷ es) (first.due ∙ later.due);
      turn = later.turn;
    }
  where
    now : (suc k < max t.left 1) ⊎ (live_among w.threads ≡ 1) → (1 < t.left) ⊎ (live_among w.threads ≡ 1)
    now (inl few) = inl (in_turn k t.left few).0
    now (inr one) = inr one

    next : (suc k < max t.left 1) ⊎ (live_among w.threads ≡ 1) → (1 < t.left → (once_more t).left ≡ t.left - 1)
        → live_among (after w (Step n)).world.threads ≡ live_among w.threads → (k < max (once_more t).left 1) ⊎ (live_among (after w (Step n)).world.threads ≡ 1)
    next (inl few) less same = let both = in_turn k t.left few in inl (subst (λ l. k < max l 1) (sym (less both.0)) both.1)
    next (inr one) less same = inr (same ∙ one)

-- ---- the event that is due

module _ (w : World) (t u : Turns) (n live : ℕ) (d : DueEvent) (takes : Takes w t n u) (is : IsTurn w u n) (count : live ≡ live_among w.threads)
    (event : d.event ≡ Step n) (most : d.most ≡ most_of t.steps u.left live) where
  few_steps : (0 < d.most) × (d.most ≤ t.steps)
  few_steps = by (nat_eq live 1) most
    where
      by : (b : Bool) → d.most ≡ (elim b as (λ _. ℕ) [ true ↦ t.steps | false ↦ min t.steps (max u.left 1) ]) → (0 < d.most) × (d.most ≤ t.steps)
      by true e = let all = takes.steps in (omega (arith, all, e), omega (arith, e))
      by false e = let all = takes.steps in (omega (arith, all, e), omega (arith, e))

  few_left : (k : ℕ) → k < d.most → (k < max u.left 1) ⊎ (live_among w.threads ≡ 1)
  few_left k few = by (nat_eq live 1) refl most
    where
      by : (b : Bool) → nat_eq live 1 ≡ b → d.most ≡ (elim b as (λ _. ℕ) [ true ↦ t.steps | false ↦ min t.steps (max u.left 1) ]) → (k < max u.left 1) ⊎ (live_among w.threads ≡ 1)
      by true is e = inr (sym count ∙ eqb-true live 1 is)
      by false is e = inl (omega (arith, e))

  -- so many of them lead there
  abbrev Lead : ℕ → ℕ → Type 0
  Lead k m = let v = run_from w (steps_of m k) in
      (turns_due t w ≡ steps_of m k ++ Step m ∷ turns_due (turns_seen (turns_behind u k) (is_blocked (after v (Step m)).reply.kind)) (after v (Step m)).world)
      × turns_knows (turns_seen (turns_behind u k) (is_blocked (after v (Step m)).reply.kind)) (after v (Step m)).world

  leads : (k : ℕ) → k < d.most → replies_from w (steps_of n k) ≡ replicate k (done_reply w) → Lead k n
  leads k few said =
      let all = takes.steps in
      let within = few_steps.1 in
      let some = many k w u n (done_reply w) is (omega (arith, all, few, within)) (few_left k few) refl said in
      (event_due w t u n takes ∙ some.due, seen_knows (run_from w (steps_of n k)) (turns_behind u k) n _ some.turn)

  pub is_next : IsNext turns_due turns_knows turns_seen turns_behind t w d u
  is_next = record {
    one = subst (λ (e : Event). turns_due t w ≡ e ∷ turns_due (turns_seen u (is_blocked (after w e).reply.kind)) (after w e).world) (sym event) (event_due w t u n takes);
    kept = subst (λ (e : Event). turns_knows (turns_seen u (is_blocked (after w e).reply.kind)) (after w e).world) (sym event) (seen_knows w u n _ is);
    some = few_steps.0;
    many = λ thread k step few said.
        let same : n ≡ thread = cc in
        subst (λ m. replies_from w (steps_of m k) ≡ replicate k (done_reply w) → Lead k m) same (leads k few) said;
  }

some_thread : (w : World) (n : ℕ) → is_live w n ≡ true → 1 ≤ n
some_thread w zero live = let no : false ≡ true = live in absurd cc
some_thread w (suc n) live = omega arith

-- by the names that the code has for them
pub due_next : (w : World) (t : Turns) (p : Pass) (moved : Bool) (u : Turns) (n live : ℕ) (d : DueEvent) → 0 < t.steps → w.stop ≡ None
    → turn_in w (t.passed + 1) t.moved ≡ Some (record { thread = n; moved = moved }) → is_live w n ≡ true → Knows p (n - 1) w
    → u ≡ turn_taken (record t { pass = p; moved = moved }) n → live ≡ live_among w.threads
    → d ≡ record { event = Step n; most = most_of t.steps u.left live } → IsNext turns_due turns_knows turns_seen turns_behind t w d u
due_next w t p moved u n live d some goes chosen lives knows taken count due =
    let number = some_thread w n lives in
    let passed : n - 1 + 1 ≡ n = omega arith in
    let s : Turns = turn_taken (record t { pass = p; moved = moved }) n in
    let takes : Takes w t n s = record {
      chosen = chosen;
      steps = omega arith;
      quantum = refl;
      left = left_is t n number;
      thread = refl;
      passed = passed;
    } in
    let is : IsTurn w s n = record { thread = refl; passed = passed; live = lives; goes = goes; knows = knows } in
    is_next w t u n live d (subst (Takes w t n) (sym taken) takes) (subst (λ (x : Turns). IsTurn w x n) (sym taken) is) count
    (ap (λ (x : DueEvent). x.event) due) (ap (λ (x : DueEvent). x.most) due)
