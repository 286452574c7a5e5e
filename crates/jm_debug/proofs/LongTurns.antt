-- A turn of a continue that makes several events: those of the only thread that is live, of which none but the first follows on a break.
use Rattle.std.proofs.Common.{◌≡◌, ◌≢◌, ℕ, zero, suc, ◌+◌, ◌-◌, ◌≤◌, ◌<◌, List, [], ◌∷◌, ◌++◌, Option, Some, None, Bool, true, false, Ok, length, replicate, nat_eq, refl, sym, ap, subst, ◌∙◌, arith, inl, inr, ◌⊎◌}
use Rattle.std.specs.Prelude.{slice_get, if◌then◌else◌}
use Rattle.std.proofs.lemmas.Bool.{cases_lt}
use Rattle.std.proofs.lemmas.List.{replicate-append-replicate}
use Rattle.jm_world.specs.Run.{After, after, after_event, after_step, after_thread, answered, replies_from, reply, run_from}
use Rattle.jm_world.specs.RoundRobin.{live_from}
use Rattle.jm_world.specs.Stepping.{step_thread}
use Rattle.jm_world.specs.World.{World, Thread, is_running, live_among, thread_at}
use Rattle.jm_world.specs.declared.event.Event.{Event}
use Rattle.jm_world.specs.declared.event.Event.TheVariants as event
use Rattle.jm_world.specs.declared.reply.Reply.{Reply}
use Rattle.jm_world.specs.declared.reply.ReplyKind.TheVariants as kind
use Rattle.jm_world.specs.declared.stop.Stop.{Stop}
use Rattle.jm_machine.specs.ManySteps.{AreSteps, EndsFor, other_replies, steps_of}
use Rattle.jm_machine.specs.Threads.{is_live, is_live_thread}
use Rattle.jm_machine.specs.View.{MachineView, MatchesWorld}
use Rattle.jm_machine.specs.declared.steps.Steps.{Steps}
use Rattle.jm_machine.specs.declared.steps.StepsEnd.{StepsEnd}
use Rattle.jm_machine.specs.declared.steps.StepsEnd.TheVariants.{AllMade, Other, OutOfMemory}
use Rattle.jm_debug.specs.Answering.{DebuggerView, IsAlone, Moves, MovesBy}
use Rattle.jm_debug.specs.Kept.{ended_in}
use Rattle.jm_debug.specs.Session.{Session, break_before, continue_from, live_in_turn, turn_of, turned}
use Rattle.jm_debug.specs.declared.turn.Moved.{Moved}
use Rattle.jm_debug.specs.declared.turn.Moved.TheVariants.{On}
use Rattle.jm_debug.specs.declared.turn.Turn.{Turn}
use Rattle.jm_debug.specs.declared.turn.Turn.TheVariants as turn
use Rattle.jm_debug.proofs.Continues.{an_event, last_event}
use Rattle.jm_debug.proofs.KeptThreads.{stepped, told}
use Rattle.jm_debug.proofs.LiveTurns.{first_live, none_live}

-- ---- replies

thread_done : (w : World) (n : ℕ) (o : Option Thread) → (after_thread w n o).reply.kind ≡ kind.Done → is_live_thread o ≡ true
thread_done w n None is = cc
thread_done w n (Some t) is = by (is_running t.ending) is
  where
    by : (b : Bool) → (let a : After = elim b as (λ _. After) [ true ↦ after_step w (step_thread w n t) | false ↦ answered kind.Ended w ] in a.reply.kind) ≡ kind.Done → b ≡ true
    by true is = refl
    by false is = cc

-- a step that is done is of a live thread
pub done_is_live : (w : World) (n : ℕ) → (after w (event.Step n)).reply.kind ≡ kind.Done → is_live w n ≡ true
unfolding after
done_is_live w n is = by w.stop is
  where
    by : (o : Option Stop) → (let a : After = elim o as (λ _. After) [ Some s ↦ answered kind.Stopped w | None ↦ after_event w (event.Step n) ] in a.reply.kind) ≡ kind.Done → is_live w n ≡ true
    by (Some s) is = cc
    by None is = thread_done w n (thread_at w n) is

-- ---- the only thread that is live

none_is : (ts : List Thread) → live_among ts ≡ 0 → (i : ℕ) → is_live_thread (slice_get ts i) ≡ false
none_is [] none i = refl
none_is (t ∷ ts) none i = by (is_running t.ending) refl none i (none_is ts)
  where
    by : (b : Bool) → is_running t.ending ≡ b → (elim b as (λ _. ℕ) [ true ↦ live_among ts + 1 | false ↦ live_among ts ]) ≡ 0 → (k : ℕ)
        → (live_among ts ≡ 0 → (m : ℕ) → is_live_thread (slice_get ts m) ≡ false) → is_live_thread (slice_get (t ∷ ts) k) ≡ false
    by true e none k rest = absurd (omega arith)
    by false e none zero rest = e
    by false e none (suc k) rest = rest none k

only_is : (ts : List Thread) → live_among ts ≡ 1 → (i j : ℕ) → is_live_thread (slice_get ts i) ≡ true → j ≢ i → is_live_thread (slice_get ts j) ≡ false
only_is [] one i j live other = refl
only_is (t ∷ ts) one i j live other = by (is_running t.ending) refl one i j live other (only_is ts)
  where
    by : (b : Bool) → is_running t.ending ≡ b → (elim b as (λ _. ℕ) [ true ↦ live_among ts + 1 | false ↦ live_among ts ]) ≡ 1 → (i j : ℕ)
        → is_live_thread (slice_get (t ∷ ts) i) ≡ true → j ≢ i
        → (live_among ts ≡ 1 → (k m : ℕ) → is_live_thread (slice_get ts k) ≡ true → m ≢ k → is_live_thread (slice_get ts m) ≡ false)
        → is_live_thread (slice_get (t ∷ ts) j) ≡ false
    by true e one zero zero live other rest = absurd (other refl)
    by true e one zero (suc j) live other rest = none_is ts (omega arith) j
    by true e one (suc i) j live other rest = let none : is_live_thread (slice_get ts i) ≡ false = none_is ts (omega arith) i in cc
    by false e one zero j live other rest = cc
    by false e one (suc i) zero live other rest = e
    by false e one (suc i) (suc j) live other rest = rest one i j live (λ same. other (ap suc same))

others_are_not : (w : World) (n : ℕ) → live_among w.threads ≡ 1 → is_live w n ≡ true → (k : ℕ) → k ≢ n → is_live w k ≡ false
others_are_not w n one live zero other = refl
others_are_not w zero one live (suc k) other = cc
others_are_not w (suc n) one live (suc k) other = only_is w.threads one n k live (λ same. other (ap suc same))

pub its_turn : (w : World) (cursor n : ℕ) → live_among w.threads ≡ 1 → is_live w n ≡ true → live_in_turn w cursor ≡ Some n
its_turn w cursor zero one live = cc
its_turn w cursor (suc n) one live = by (cases_lt (suc n) cursor)
  where
    found : (low : ℕ) → low ≤ suc n → live_from low 1 w.threads ≡ Some (suc n)
    found low within = first_live w low (suc n) within live (λ k above below. others_are_not w (suc n) one live k (λ same. absurd (omega arith)))

    by : (suc n < cursor) ⊎ (cursor ≤ suc n) → live_in_turn w cursor ≡ Some (suc n)
    by (inl past) =
        let none : live_from cursor 1 w.threads ≡ None =
        none_live w cursor (cursor + length w.threads + 1) (omega arith) (λ k above below. others_are_not w (suc n) one live k (λ same. absurd (omega arith))) in
        ap (λ (o : Option ℕ). elim o as (λ _. Option ℕ) [ Some m ↦ Some m | None ↦ live_from 1 1 w.threads ]) none ∙ found 1 (omega arith)
    by (inr within) = ap (λ (o : Option ℕ). elim o as (λ _. Option ℕ) [ Some m ↦ Some m | None ↦ live_from 1 1 w.threads ]) (found cursor within)

pub turn_is : (s : Session) (n : ℕ) → live_among s.world.threads ≡ 1 → is_live s.world n ≡ true → turn_of s 0 ≡ turn.Of n
turn_is s n one live =
    ap (λ (o : Option ℕ). elim o as (λ _. Turn) [ None ↦ turn.Ended | Some m ↦ if nat_eq 0 (live_among s.world.threads) then turn.Blocked else turn.Of m ])
    (its_turn s.world s.cursor n one live)
    ∙ ap (λ k. if nat_eq 0 k then turn.Blocked else turn.Of n) one

-- ---- the turn

-- a session after so many turns of a thread
abbrev pub turns : ℕ → ℕ → Session → Session
turns zero n s = s
turns (suc count) n s = turns count n (turned n s)

pub turns_run : (k n : ℕ) (s : Session) → (turns k n s).world ≡ run_from s.world (steps_of n k)
turns_run zero n s = refl
turns_run (suc k) n s = turns_run k n (turned n s)

pub turns_cursor : (k n : ℕ) (s : Session) → 0 < k → (turns k n s).cursor ≡ n + 1
turns_cursor zero n s some = absurd (omega arith)
turns_cursor (suc zero) n s some = refl
turns_cursor (suc (suc k)) n s some = turns_cursor (suc k) n (turned n s) (omega arith)

pub turns_breaks : (k n : ℕ) (s : Session) → (turns k n s).breaks ≡ s.breaks
turns_breaks zero n s = refl
turns_breaks (suc k) n s = turns_breaks k n (turned n s)

-- before none of the first so many of a thread's turns it stands at a break
abbrev pub Passes : Session → ℕ → ℕ → Type 0
Passes s n count = (k : ℕ) → k < count → break_before (turns k n s) false n ≡ None

reply_is : (r : Reply) (w : World) → r.kind ≡ kind.Done → r.made ≡ length w.threads → r.live ≡ live_among w.threads → r ≡ reply kind.Done w
reply_is r w done made live = λ i. record { kind = done i; made = made i; live = live i }

-- a thread that is live stays so where as many have ended as before
still_live : (w v : World) (n : ℕ) (b : Bool) → is_live v n ≡ b → (b ≡ false → ended_in v ≡ ended_in w + 1) → ended_in v ≡ ended_in w → is_live v n ≡ true
still_live w v n true live ends same = live
still_live w v n false live ends same = let more = ends refl in absurd (omega (arith, more, same))

one_done : (s : Session) (n : ℕ) → IsAlone s n → (after s.world (event.Step n)).reply ≡ reply kind.Done s.world → IsAlone (turned n s) n
one_done s n alone is =
    let w = s.world in
    let v = (after w (event.Step n)).world in
    let tells = told w (event.Step n) in
    let made : length v.threads ≡ length w.threads = sym tells.made ∙ ap (λ (r : Reply). r.made) is in
    let living : live_among v.threads ≡ live_among w.threads = sym tells.live ∙ ap (λ (r : Reply). r.live) is in
    let same : ended_in v ≡ ended_in w = λ i. made i - living i in
    let was = done_is_live w n (ap (λ (r : Reply). r.kind) is) in
    let live = still_live w v n (is_live v n) refl (stepped w n was).ends same in
    record { one = living ∙ alone.one; turn = turn_is (turned n s) n (living ∙ alone.one) live }

one_turn : (s : Session) (n left : ℕ) → IsAlone s n → break_before s false n ≡ None → (after s.world (event.Step n)).reply.kind ≡ kind.Done
    → continue_from (suc left) false 0 s ≡ continue_from left false 0 (turned n s)
one_turn s n left alone none is = an_event s false 0 n left alone.turn none (rw is refl) ∙ rw is refl

-- events that answer alike, and the replies behind them
pub record LedBy (k n : ℕ) (s : Session) (rest : List Reply) (more : List Event) : Type 0 where
  pub alone : IsAlone (turns k n s) n
  pub led : (left : ℕ) → continue_from (k + left) false 0 s ≡ continue_from left false 0 (turns k n s)
  pub replies : rest ≡ replies_from (turns k n s).world more

pub led_by : (k n : ℕ) (s : Session) (r : Reply) (rest : List Reply) (more : List Event) → IsAlone s n → Passes s n k → r ≡ reply kind.Done s.world
    → replicate k r ++ rest ≡ replies_from s.world (replicate k (event.Step n) ++ more) → LedBy k n s rest more
led_by zero n s r rest more alone passes is h =
    record { alone = alone; led = λ left. let same : 0 + left ≡ left = omega arith in ap (λ m. continue_from m false 0 s) same; replies = h }
led_by (suc k) n s r rest more alone passes is h =
    let v = (after s.world (event.Step n)).world in
    let here : r ≡ (after s.world (event.Step n)).reply = cc in
    let there : replicate k r ++ rest ≡ replies_from v (replicate k (event.Step n) ++ more) = cc in
    let tells = told s.world (event.Step n) in
    let again = reply_is r v (ap (λ (x : Reply). x.kind) is) (ap (λ (x : Reply). x.made) here ∙ tells.made) (ap (λ (x : Reply). x.live) here ∙ tells.live) in
    let done = sym here ∙ is in
    let next = led_by k n (turned n s) r rest more (one_done s n alone done) (λ i below. passes (suc i) (omega arith)) again there in
    record {
      alone = next.alone;
      led = λ left.
          let number : suc k + left ≡ suc (k + left) = omega arith in
          ap (λ m. continue_from m false 0 s) number
          ∙ one_turn s n (k + left) alone (passes 0 (omega arith)) (ap (λ (x : Reply). x.kind) done) ∙ next.led left;
      replies = next.replies;
    }

module _ {H : Type 0} (s : Session) (n : ℕ) (alone : IsAlone s n) (alike : ℕ) (r : Reply) (new : MachineView H) where
  -- steps that came to an end
  ended_by : (end : StepsEnd) → Passes s n alike → AreSteps s.world n new (record { alike = alike; reply = r; end = end })
      → LedBy alike n s (other_replies end) (steps_of n (length (other_replies end)))
  ended_by end passes are =
      led_by alike n s r (other_replies end) (steps_of n (length (other_replies end))) alone passes are.reply
      (are.replies ∙ ap (replies_from s.world) (sym (replicate-append-replicate alike (length (other_replies end)) (event.Step n))))

  -- all of them done: they lead on
  pub all_on : (most : ℕ) (d : DebuggerView H) (end : StepsEnd) → other_replies end ≡ [] → 0 < alike → Passes s n alike
      → AreSteps s.world n new (record { alike = alike; reply = r; end = end })
      → d.machine ≡ new → d.breaks ≡ s.breaks → d.cursor ≡ n + 1 → Moves most s false 0 d (Ok (On alike 0))
  all_on most d end none some passes are machine breaks cursor =
      let led = ended_by end passes are in
      let number : alike + length (other_replies end) ≡ alike = ap (λ (rs : List Reply). alike + length rs) none ∙ omega arith in
      let world : (turns alike n s).world ≡ run_from s.world (steps_of n (alike + length (other_replies end))) =
      turns_run alike n s ∙ ap (λ m. run_from s.world (steps_of n m)) (sym number) in (
        turns alike n s,
        record {
          world = subst (λ m. MatchesWorld m (turns alike n s).world) (sym machine) (subst (MatchesWorld new) (sym world) are.world);
          breaks = breaks ∙ sym (turns_breaks alike n s);
          cursor = cursor ∙ sym (turns_cursor alike n s some);
        },
        led.led,
      )

  -- behind them the one that answered otherwise
  pub other_last : (most : ℕ) (d : DebuggerView H) (other : Reply) (moved : Moved) → alike < most → Passes s n (alike + 1)
      → AreSteps s.world n new (record { alike = alike; reply = r; end = Other other })
      → d.machine ≡ new → d.breaks ≡ s.breaks → d.cursor ≡ n + 1 → MovesBy (alike + 1) other.kind 0 moved → Moves most s false 0 d (Ok moved)
  other_last most d other moved few passes are machine breaks cursor by =
      let led = ended_by (Other other) (λ k below. passes k (omega arith)) are in
      let t = turns alike n s in
      let number : suc alike ≡ alike + 1 = omega arith in
      let is : other ≡ (after t.world (event.Step n)).reply = let rest = led.replies in cc in
      last_event most alike d s false 0 t false 0 n other.kind moved few led.led led.alone.turn (passes alike (omega arith))
      (ap (λ (x : Reply). x.kind) is)
      (record {
        world = subst (λ m. MatchesWorld m (turned n t).world) (sym machine) (subst (MatchesWorld new) (sym (one_behind alike s ∙ ap (λ m. run_from s.world (steps_of n m)) number)) are.world);
        breaks = breaks ∙ sym (turns_breaks alike n s);
        cursor = cursor;
      }) by
    where
      one_behind : (k : ℕ) (u : Session) → (turned n (turns k n u)).world ≡ run_from u.world (steps_of n (suc k))
      one_behind zero u = refl
      one_behind (suc k) u = one_behind k (turned n u)

-- steps that end otherwise than by another reply
pub none_other : (end : StepsEnd) → ((other : Reply) → end ≢ Other other) → other_replies end ≡ []
none_other AllMade none = refl
none_other (Other other) none = absurd (none other refl)
none_other OutOfMemory none = refl

pub at_most : (most : ℕ) (steps : Steps) (end : StepsEnd) → EndsFor most steps end → steps.alike ≤ most
at_most most steps AllMade ends = omega (arith, ends)
at_most most steps (Other other) ends = let few = ends.0 in omega (arith, few)
at_most most steps OutOfMemory ends = omega (arith, ends)
